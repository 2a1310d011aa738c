pub mod Gates
pub mod Versions
pub mod Refusals
pub mod Headers
pub mod Decoding
pub mod Carried
pub mod Order
pub mod Front
