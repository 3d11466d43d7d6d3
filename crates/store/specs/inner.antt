pub mod Saving
pub mod Selecting
pub mod Salvaging
pub mod Taking
pub mod Drafting
pub mod Sending
