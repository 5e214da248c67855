pub mod Window
pub mod Placed
