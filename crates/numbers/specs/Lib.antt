-- What has to be believed: the definitions that contracts of the crates above cite.
pub mod Meaning
