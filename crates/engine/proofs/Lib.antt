pub mod Marks
pub mod Finds
pub mod Determined
pub mod Before
pub mod Lengths
pub mod Steps
