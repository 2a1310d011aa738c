-- What has to be believed: the definitions that public contracts cite.
pub mod Decision
pub mod Promise
