-- Laws. `TreeTheorem`: demand 3, over the promises of the public calls. `Demand`: the code's test is the demand's words. `StandardForest`: a forest that
-- the standard writes is listed as that forest; `ForestExample` has one. `ShutOut`: the wrong readers of document 01, each shut out by name. The others
-- lead to them: `Nested`, `Reach`, `Pick`, `Fault`, `Chain`, `Open`, `Stack`, `Tree`, `Child`, `WalkTree`, `Shape`, `StandardReach`. `Only`: no second
-- answer fits.
pub mod Ends
pub mod Demand
pub mod Nested
pub mod Reach
pub mod Pick
pub mod Fault
pub mod Chain
pub mod Open
pub mod Stack
pub mod Tree
pub mod Child
pub mod WalkTree
pub mod Demanded
pub mod Only
pub mod TreeListed
pub mod TreeTheorem
pub mod Shape
pub mod StandardReach
pub mod StandardForest
pub mod ForestExample
pub mod ShutOut
