pub mod Filling
pub mod Faults
pub mod Preparing
pub mod Clocking
pub mod NotZero
pub mod Determined
pub mod Same
