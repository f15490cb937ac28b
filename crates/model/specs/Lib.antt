pub mod Decoding
pub mod Faults
pub mod Kinds
pub mod Lists
pub mod Memory
pub mod Orders
pub mod Tables
pub mod Text
