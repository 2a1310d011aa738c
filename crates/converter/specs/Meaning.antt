-- What has to be believed of the program `convert`: the definitions that its contract cites.
pub mod Output
