-- The tree listing: `Pick` (numbers that pass a test), `Reach` (the end of a row's reach), `Nest` (depth, parent, faults), `Tree` (the public
-- call). For theorems: `Demand` (the demand's own words), `ShutOut` (the sections on which document 01's wrong
-- readers are tried), `Standard` (what a forest that the standard writes says of its entries).
pub mod Pick
pub mod Reach
pub mod Nest
pub mod Tree
pub mod Demand
pub mod ShutOut
pub mod Standard
-- What functions inside promise. Nothing public rests on it.
pub mod Inside
