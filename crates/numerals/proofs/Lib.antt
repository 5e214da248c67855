pub mod Each
pub mod Sign
pub mod Worked
