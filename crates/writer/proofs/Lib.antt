pub mod Images
pub mod Encoding
pub mod Packed
pub mod Refusals
pub mod RoundTrip
pub mod Largest
pub mod Determined
pub mod Needless
