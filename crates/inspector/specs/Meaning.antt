-- What has to be believed of the program `inspect`: the definitions that its contract cites.
pub mod Shown
