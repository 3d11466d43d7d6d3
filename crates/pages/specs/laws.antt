-- Laws that the crates above use.
pub mod Read
pub mod Digested
pub mod Local
pub mod Sizes
pub mod Alike
pub mod Paged
pub mod Stands
pub mod Times
pub mod Written
pub mod Made
pub mod Taken
