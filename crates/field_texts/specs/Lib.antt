pub mod Keywords
pub mod FieldText
pub mod Typed
pub mod Reported
pub mod ErrorText
pub mod inner
