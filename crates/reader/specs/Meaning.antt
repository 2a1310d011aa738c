-- What has to be believed of bits and fields: the definitions that the format cites.
pub mod Fields
