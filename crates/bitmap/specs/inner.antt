pub mod Joining
pub mod Building
