pub mod Parts
pub mod Aligning
pub mod Answers
pub mod Tallies
pub mod Judging
pub mod Laws
pub mod Before
pub mod Lengths
