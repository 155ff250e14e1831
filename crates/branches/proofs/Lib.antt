pub mod Branch
pub mod Scans
pub mod Best
pub mod Over
