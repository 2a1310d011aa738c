-- Definitions that public contracts cite.
pub mod Panel
