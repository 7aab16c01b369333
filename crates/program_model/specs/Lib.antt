-- In the order of reading: how the program ends, what it reads item by item, the text of each item, the commands, and
-- what is written.
pub mod Endings
pub mod Items
pub mod ItemKinds
pub mod ItemTexts
pub mod Trial
pub mod RightTexts
pub mod Commands
pub mod Output
