-- What has to be believed of numbers: their bits, and counting.
pub mod Bits
pub mod Count
