pub mod Texts
pub mod Drawings
pub mod Numerals
pub mod Rows
pub mod Shapes
pub mod Places
pub mod Writing
pub mod Rewriting
