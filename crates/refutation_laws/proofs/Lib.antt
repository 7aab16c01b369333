mod Words
pub mod Signs
pub mod Traces
pub mod SameRun
pub mod RefuteSteps
