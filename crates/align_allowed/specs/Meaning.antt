-- Definitions that contracts cite.
pub mod Allowing
