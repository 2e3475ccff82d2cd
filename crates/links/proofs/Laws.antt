-- Laws. `Neighbour` to `AnyChild`: for the ways in which the code comes to an answer. `Typed`: what is known of the row of a key. `There`: in a table that
-- passed the table test, what a typed lookup finds is wholly there. `Endless`, `Nine`: the walk is refused exactly when it would never end. `Only`: no second
-- answer fits.
pub mod Neighbour
pub mod Attribute
pub mod Link
pub mod Children
pub mod EachChild
pub mod AnyChild
pub mod Typed
pub mod There
pub mod Endless
pub mod Nine
pub mod Only
