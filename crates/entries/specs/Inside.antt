-- What the functions inside promise of the place they have come to and of the tables they fill.
pub mod Promise
-- What the code hands on.
pub mod Handed
