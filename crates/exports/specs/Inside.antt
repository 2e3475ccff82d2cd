-- What functions inside promise. Nothing public rests on it.
pub mod Told
