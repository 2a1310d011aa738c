-- Definitions that only inner contracts and proofs cite.
pub mod Widths
pub mod Scanning
