-- The records (document 01, 'Types, records, sizes'): `Taken` (which attributes each record takes), `Scan` (an attribute's faults), `Fields` (the
-- last of a kind counts), `Front` (kind and children), then a file for each record; `MemberWords` and `Elements` for the lists in lent room. For
-- theorems: `Form` (the form that is expected of a value, which no record tests), `UnionFilled` and `EnumerationFilled` (what a room then holds),
-- `Standard` (what the standard's written forms come to).
pub mod Taken
pub mod Scan
pub mod Fields
pub mod Front
pub mod Member
pub mod Variable
pub mod Label
pub mod PtrToMember
pub mod OverlayBranch
pub mod MemberWords
pub mod Unions
pub mod Elements
pub mod Enumeration
pub mod Typedef
pub mod Form
pub mod UnionFilled
pub mod EnumerationFilled
pub mod Standard
-- What functions inside promise. Nothing public rests on it.
pub mod Inside
