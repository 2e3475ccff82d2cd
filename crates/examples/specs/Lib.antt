-- The starred examples of document 01, as one table: what its questions ask, and the answers. The program in src/ runs some of them through the
-- code and holds our answers against the Rust's; its functions have no contracts.
pub mod Examples
