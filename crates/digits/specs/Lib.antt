-- Numbers as words for people: `Digits` (a number's digits in hexadecimal and in decimal), `Put` (a text written at a place, as far as it fits).
pub mod Digits
pub mod Put
