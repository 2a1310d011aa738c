-- What has to be believed: the definitions that contracts cite.
pub mod Orders
pub mod Refusals
pub mod Slices
pub mod Lists
pub mod Tables
