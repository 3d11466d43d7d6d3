pub mod Accepted
pub mod FieldLists
