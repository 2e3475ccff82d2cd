-- How the code goes about it: `Fault` (chains of reaches), `Stack` (the open rows), `Passing` (both passes as functions).
pub mod Passing
pub mod Fault
pub mod Stack
