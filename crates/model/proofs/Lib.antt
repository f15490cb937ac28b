pub mod Choosing
pub mod Lists
pub mod Numbering
