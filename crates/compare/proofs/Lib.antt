pub mod Agreement
pub mod Comparison
pub mod Demand
pub mod Determined
pub mod Before
pub mod Lengths
pub mod Watched
pub mod Maps
