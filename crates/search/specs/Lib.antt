pub mod Working
pub mod Sweeps
