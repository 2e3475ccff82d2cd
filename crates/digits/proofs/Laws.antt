-- Laws. `Put`: texts one after the other, and in a lent part. `Digits`: how long fields are, and how the code comes by them. `Only`: no second answer fits.
pub mod Put
pub mod Digits
pub mod Only
