pub mod QueueGrowth
pub mod TightRows
pub mod ReadBounds
pub mod PathBack
pub mod LeaveLimits
