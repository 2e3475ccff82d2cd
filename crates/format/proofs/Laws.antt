-- Laws. `Lookup`, `Sixteen`, `Form`, `Settings`: what the code computes. `Computed`: a test that is computed over a whole table. `Refusal`: a reason is
-- that of its number. `Said`: what is said of an answer, for each way that the code comes to it. `Never`: a number that no step is refused by. `Formed`:
-- with settings that hold every known number has a form. `Only`: no second answer fits.
pub mod Refusal
pub mod Said
pub mod Never
pub mod Lookup
pub mod Sixteen
pub mod Computed
pub mod Form
pub mod Settings
pub mod Presets
pub mod Formed
pub mod Only
