pub mod Agreement
pub mod Buffers
pub mod Invariants
pub mod Laws
pub mod Outcomes
pub mod Rules
