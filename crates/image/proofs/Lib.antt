pub mod Promises
pub mod Accepted
pub mod Determined
pub mod Empty
pub mod Long
pub mod Taking
pub mod VersionOne
pub mod Front
