-- What single functions do of one subscript, and what the walk over subscripts leaves.
pub mod Subscript
pub mod Subscripts
