pub mod Copying
pub mod TextRows
pub mod Applying
