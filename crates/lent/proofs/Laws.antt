-- Laws. `Stores`: runs of stores. `Filled`: a run that fits fills a room. `Only`: no second answer fits; `Inside`: nor where our own crates alone call.
pub mod Stores
pub mod Filled
pub mod Only
pub mod Inside
