-- The theorem that every example holds, computed.
pub mod Examples
