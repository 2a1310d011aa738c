-- What has to be believed of the streams: the definitions that contracts cite.
pub mod Input
pub mod Output
