pub mod Keeping
pub mod Moves
pub mod Serving
pub mod Values
