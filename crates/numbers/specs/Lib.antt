-- Numbers and endianness: what the bytes at a place say. Read `Value` first; `Prefix` is the comparison with fixed bytes, `Written` how the standard
-- writes a number.
pub mod Value
pub mod Prefix
pub mod Written
