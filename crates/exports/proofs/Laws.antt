-- Laws. `Crossing`: what the proofs cite. `Never`: no number that crosses is 14. `Only`: no second answer fits.
pub mod Crossing
pub mod Never
pub mod Only
