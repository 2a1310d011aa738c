-- What has to be believed: the definitions that public contracts cite.
pub mod Maps
pub mod Pairs
