pub mod Agreement
pub mod Invariants
pub mod Kinds
pub mod Published
