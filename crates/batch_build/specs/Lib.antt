pub mod Batch
pub mod Coded
pub mod Nodes
pub mod laws
pub mod inner
