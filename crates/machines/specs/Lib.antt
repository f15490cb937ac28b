pub mod Calls
pub mod Played
pub mod Texts
