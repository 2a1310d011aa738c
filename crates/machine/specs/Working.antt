-- Definitions that only private contracts and proofs cite.
pub mod Order
pub mod Maps
pub mod Pairs
pub mod Sets
pub mod Answers
pub mod Watched
pub mod Beside
