pub mod StoreWords
pub mod Asked
pub mod Operands
pub mod Numbers
pub mod Choices
pub mod Apps
pub mod Right
pub mod Examples
