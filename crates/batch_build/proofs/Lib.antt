mod Entries
mod Equals
mod FirstCells
mod Low
mod PartColumns
mod Sized
