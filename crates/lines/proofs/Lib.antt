pub mod Scanning
pub mod Fields
pub mod Rows
pub mod Front
pub mod Long
