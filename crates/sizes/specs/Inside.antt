-- How the code goes about it: `Noted` are sizes that are noted already, `Prepare` what is read before any size is taken, `Size` the two that call
-- each other, `Stage` a row's size between the sizes that it asks for, `Kept` what is kept of each row so that it is read once, `Lent` a definition
-- asked of a table that is lent.
pub mod Noted
pub mod Prepare
pub mod Size
pub mod Stage
pub mod Kept
pub mod Lent
