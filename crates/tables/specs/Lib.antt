pub mod Refusals
pub mod Tables
pub mod Commands
pub mod Verdict
pub mod View
pub mod laws
