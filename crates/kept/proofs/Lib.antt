pub mod Ends
pub mod Row
pub mod Finding
