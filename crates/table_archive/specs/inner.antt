pub mod Written
pub mod Texts
pub mod Members
pub mod Named
