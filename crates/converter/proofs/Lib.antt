pub mod Images
pub mod Outputs
pub mod Lines
pub mod Written
pub mod Determined
pub mod Front
