pub mod Finding
pub mod View
