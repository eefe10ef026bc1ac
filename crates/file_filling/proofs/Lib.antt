pub mod FilledFronts
