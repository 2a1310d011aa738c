pub mod Places
pub mod Choosing
pub mod Priors
pub mod Right
