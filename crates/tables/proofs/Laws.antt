-- Laws. `Flat`: runs of stores, and things of so many words one after the other. `Row`: what the code reads and stores; what was stored is read back.
-- `Unit`: which unit a row belongs to, and when the test of it passes. `Holds`, `Tests`: for each way that the code tests. `Find`: bisection, and what is
-- known of a row that was found. `Held`: what a table that passed is known to hold, its units too. `Keyed`: what comes of the row of a key. `Never`:
-- neither tests nor keys are refused by 14. `Only`: no second answer fits.
pub mod Flat
pub mod Row
pub mod Holds
pub mod Unit
pub mod Find
pub mod Held
pub mod Tests
pub mod Keyed
pub mod Never
pub mod Only
