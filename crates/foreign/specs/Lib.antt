pub mod Eager
pub mod EagerLaws
