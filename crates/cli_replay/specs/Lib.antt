pub mod Playing
pub mod Replay
pub mod Listed
