pub mod Digesting
pub mod TableBuilder
pub mod ReadRows
