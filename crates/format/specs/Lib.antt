-- The format's numbers, the limits, the refusals and the settings. The tables (`TagKind` to `SubscriptFormat`) are named as in the Rust; `Known`,
-- `Limits`, `Refusal` and `Settings` are document 01's; `Presets` completes the Rust's settings; `Lookup` has the three ways to ask a table; `InputA`
-- is document 01's example, for the crates above.
pub mod Lookup
pub mod TagKind
pub mod AttributeKind
pub mod Known
pub mod FormKind
pub mod FundType
pub mod Modifier
pub mod LocationOp
pub mod SubscriptFormat
pub mod Limits
pub mod Refusal
pub mod Said
pub mod Settings
pub mod Presets
pub mod InputA
-- What functions inside promise. Nothing public rests on it.
pub mod Inside
