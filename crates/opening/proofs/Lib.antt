pub mod States
pub mod Clearing
