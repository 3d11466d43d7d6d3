pub mod Book
pub mod Steps
pub mod Plain
pub mod View
pub mod laws
pub mod inner
