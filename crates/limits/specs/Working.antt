-- Definitions that only private contracts and proofs cite.
pub mod Tails
