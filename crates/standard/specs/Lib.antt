-- The DWARF 1.1 standard in its own words, from public facts and nothing of the reader: `Numbers` (its tables), `Entries` (how entries are written),
-- `Exact` (bytes in which every entry ends where its size says), `Locations`, `Types`, `Subscripts` and `Elements` (what blocks
-- say), `Members` (their attributes), `Forest` (how a tree is flattened). A crate that reads proves that it agrees.
pub mod Numbers
pub mod Entries
pub mod Exact
pub mod Locations
pub mod Types
pub mod Subscripts
pub mod Elements
pub mod Members
pub mod Forest
