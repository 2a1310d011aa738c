pub mod NoLoop
pub mod Marking
pub mod Placing
pub mod Planning
pub mod Determined
