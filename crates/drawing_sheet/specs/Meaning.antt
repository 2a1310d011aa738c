-- What the draughtsman expects of the definitions: nothing here is assumed, and all of it is proved.
pub mod Drawings
pub mod Writing
