pub mod Tells
pub mod ToldBytes
