pub mod Sectors
pub mod Agreeing
pub mod Frame
pub mod Taking
pub mod Apart
pub mod Placed
pub mod Fit
