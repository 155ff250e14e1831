pub mod Columns
pub mod Entrants
