pub mod Bits
pub mod Times
