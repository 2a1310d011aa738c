-- Definitions that only inner contracts and proofs cite.
pub mod Taking
