-- Definitions that only private contracts and proofs cite.
pub mod Tests
pub mod Filling
pub mod Lowest
