pub mod Written
mod Choices
