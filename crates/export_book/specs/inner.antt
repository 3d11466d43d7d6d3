-- What only the code's own steps need.
pub mod Props
