-- What only the code's own steps need.
pub mod Places
pub mod Tails
