-- What has to be believed of the format: the definitions that public contracts cite, in the order of document 01.
pub mod Version
pub mod Format
pub mod Faults
pub mod Front
