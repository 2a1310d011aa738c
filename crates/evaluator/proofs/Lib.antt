pub mod Truth
pub mod Bounds
pub mod Sweep
pub mod Spreading
pub mod Latches
