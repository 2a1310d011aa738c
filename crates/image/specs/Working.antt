-- Definitions that only private contracts and proofs cite.
pub mod Taking
pub mod Decoding
