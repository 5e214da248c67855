pub mod Modes
pub mod Record
