pub mod Bytes
pub mod Checks
pub mod Levels
pub mod Lists
pub mod Numbers
