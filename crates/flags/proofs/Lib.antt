pub mod Flags
pub mod Machines
