pub mod ToldLines
pub mod InTurn
