-- What has to be believed: the definitions that the contracts of the exported functions cite.
pub mod Text
