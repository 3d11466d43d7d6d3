pub mod Form
pub mod Far
pub mod TimeForm
pub mod Spans
