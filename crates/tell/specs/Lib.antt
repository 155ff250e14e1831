pub mod ToldTo
