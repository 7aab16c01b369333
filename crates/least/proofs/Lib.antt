mod Words
mod Given
