-- What has to be believed: the definitions that contracts cite.
pub mod Limits
pub mod Layout
pub mod Bounds
pub mod Over
