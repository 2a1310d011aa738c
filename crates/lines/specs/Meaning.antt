-- What has to be believed of lines of numbers: the definitions that public contracts cite.
pub mod Spelling
