pub mod Eagerness
pub mod Evenness
pub mod Loads
