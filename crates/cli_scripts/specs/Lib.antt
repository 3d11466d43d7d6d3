pub mod Words
pub mod Appending
pub mod Script
pub mod Items
pub mod Plain
pub mod inner
