pub mod Filled
pub mod Records
