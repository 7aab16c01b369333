mod Words
pub mod Told
pub mod LeafBelow
pub mod MadeBelow
pub mod MadeGoals
pub mod QuotientLists
pub mod Refuting
pub mod Whole
pub mod AtNode
pub mod GoalsBefore
