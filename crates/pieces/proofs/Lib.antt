pub mod Spelling
pub mod Putting
