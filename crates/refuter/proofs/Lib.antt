mod Words
pub mod ClosingBehind
pub mod FurtherForms
pub mod KeptFirst
pub mod IndexLists
