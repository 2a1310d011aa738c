-- What has to be believed of the comparison of two designs: the definitions that its public contract and demand 3 cite.
pub mod Designs
pub mod Finer
pub mod Comparing
pub mod Demand
