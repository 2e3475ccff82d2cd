-- What is known of a section that the program has room for.
pub mod Report
