-- What has to be believed of the writer: the definitions that its public contract cites.
pub mod Writing
