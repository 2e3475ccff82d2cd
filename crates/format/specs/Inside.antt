-- How the code looks a number up: `NamedWords` (document 01's attribute numbers as bits), `Some` (some numbers of a list at once).
pub mod NamedWords
pub mod Some
