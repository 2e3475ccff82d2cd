-- Reading a section's entries (document 01, 'Reading entries'): `Source` (what reading goes by), `Head` (rules 1 to 3: what an entry begins with),
-- `Run` (an entry's attributes), `Entry` (rules 2 to 4), `Walk` (entries one after the other, and inside erased roots), `Section` (the public
-- calls: refusals, counts, the lent tables). For theorems: `Wanted` (which byte a refusal tells), `Standard` (what a section that the standard wrote
-- comes to), `Filled` (what the rows of a table that was read keep to).
pub mod Source
pub mod Head
pub mod Run
pub mod Entry
pub mod Walk
pub mod Section
pub mod Wanted
pub mod Standard
pub mod Filled
-- What functions inside promise. Nothing public rests on it.
pub mod Inside
