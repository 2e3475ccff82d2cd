-- Laws. `Gaps`: whose bytes a hole has, what is reached. `Presets`: a word of the arguments, byte by byte. `Only`: no second answer fits.
pub mod Gaps
pub mod Presets
pub mod Only
