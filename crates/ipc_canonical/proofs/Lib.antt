mod EachPiece
pub mod Written
pub mod Checked
pub mod Answered
pub mod Ids
pub mod Replaced
pub mod ReplacingRead
pub mod Messages
pub mod Values
pub mod LawsBelow
pub mod Entries
pub mod Pieces
mod Joined
