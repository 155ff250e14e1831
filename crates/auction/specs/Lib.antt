pub mod Outcomes
pub mod Cleared
pub mod Numbers
