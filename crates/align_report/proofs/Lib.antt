pub mod Comparing
pub mod Designs
pub mod Images
pub mod Cut
pub mod Refusals
pub mod Determined
