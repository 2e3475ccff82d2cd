-- How the code goes about it: `Eight` (a zero is looked for in eight bytes at once), `Read` (a known number and its value's end in one question).
pub mod Eight
pub mod Read
