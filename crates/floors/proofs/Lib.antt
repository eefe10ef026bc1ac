pub mod FloorSteps
