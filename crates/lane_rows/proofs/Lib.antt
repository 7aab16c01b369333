pub mod Numbers
pub mod Turns
pub mod Choosing
pub mod ReadLanes
pub mod Views
pub mod Starts
pub mod Pivoted
pub mod Values
pub mod CutLanes
pub mod Signs
pub mod Fractions
mod Words
