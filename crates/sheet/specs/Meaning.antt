-- What the bench expects of the definitions: nothing here is assumed, and all of it is proved.
pub mod Sheet
pub mod Readings
pub mod Example
pub mod Toggles
pub mod Lengths
pub mod Panels
pub mod Watching
