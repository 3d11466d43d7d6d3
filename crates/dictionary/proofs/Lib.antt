pub mod InEffect
pub mod Numbers
pub mod Lists
pub mod Grown
pub mod Steps
pub mod Parts
pub mod Within
