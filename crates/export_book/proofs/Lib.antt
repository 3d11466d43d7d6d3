pub mod Books
pub mod Places
