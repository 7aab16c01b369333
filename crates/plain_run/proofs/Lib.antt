pub mod Single
mod Words
