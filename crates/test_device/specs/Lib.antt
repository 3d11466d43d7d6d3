pub mod Life
pub mod Few
