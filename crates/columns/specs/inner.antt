pub mod Readable
pub mod ArrayPlaces
