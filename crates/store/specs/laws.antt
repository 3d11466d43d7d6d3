pub mod Exported
pub mod Upgraded
pub mod Taking
