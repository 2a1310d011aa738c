-- What has to be believed of netlists: the definitions that public contracts cite, in the order of document 01.
pub mod Gates
pub mod Cells
pub mod Loops
pub mod Kept
pub mod Nets
pub mod Faults
pub mod Watched
