pub mod Ranges
pub mod Gating
pub mod Made
pub mod Matching
pub mod Steps
