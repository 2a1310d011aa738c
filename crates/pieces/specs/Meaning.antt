-- What has to be believed of texts: the definitions that public contracts cite.
pub mod Pieces
