pub mod Encoding
pub mod Messages
pub mod Stream
pub mod Writing
