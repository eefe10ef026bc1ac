pub mod RowLoops
pub mod Sound
pub mod ByKind
pub mod LeastWeights
pub mod Places
pub mod Lists
