pub mod Marks
pub mod Rep
