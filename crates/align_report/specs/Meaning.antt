-- Definitions that public contracts cite.
pub mod Report
