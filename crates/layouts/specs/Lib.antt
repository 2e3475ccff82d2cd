-- The program `layouts`: what its holes and padding are (`Gaps`), and what a section is read with (`Presets`). The layouts themselves are in `layout`.
pub mod Gaps
pub mod Presets
