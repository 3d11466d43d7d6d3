pub mod Appended
pub mod Firsts
pub mod Listed
pub mod Readable
pub mod Tables
pub mod Walked
