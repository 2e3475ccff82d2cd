-- How the code goes about it: where the scan pauses, and what it has when it goes on.
pub mod Scan
pub mod Front
pub mod Typedef
pub mod Elements
pub mod Enumeration
pub mod Unions
