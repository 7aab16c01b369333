mod Words
pub mod Widened
pub mod KeptRuns
pub mod SignsByPoints
pub mod KeptSteps
pub mod Extending
pub mod OneBehind
pub mod OwnPoint
pub mod AskedBehind
pub mod FormLanes
pub mod AskingLaws
pub mod TightLanes
