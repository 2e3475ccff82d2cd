-- Laws. `Head` to `Section`: for each way that the code reads. `StandardCall`: the public call against the standard, both ways; over the definitions
-- `StandardRead` (what the standard writes is read, with its values), `StandardWritten` (what is accepted and exact was so written) and `ExactWritten`
-- (every written section is exact). `StandardAgrees`: the standard's tables, forms and extents are the reader's; `Tagged`, `Standard..`, `Written..` and
-- `Index` are steps on the way. `Filled`: a table that was read passes the table test; `KnownRun`, `RowsRead` lead to it. `Unerased`: with erased
-- entries left out no row is erased. `WantedCall`: the byte that 4 to 6 tell, of both public calls; over `Wanted` (what refuses an entry is a field, and
-- the byte its first), `WantedOnly` (the converse), `WantedExactly` (the converse of the whole section) and `WantedPlace` (where the byte lies). `Back`:
-- what is said leads back to the answer. `Only`: no second answer fits.
pub mod Head
pub mod Run
pub mod Entry
pub mod Walk
pub mod Section
pub mod Back
pub mod Only
pub mod Tagged
pub mod Index
pub mod StandardAgrees
pub mod StandardValue
pub mod StandardRun
pub mod StandardEntry
pub mod StandardRead
pub mod ExactWritten
pub mod WrittenValue
pub mod WrittenRun
pub mod WrittenEntry
pub mod StandardWritten
pub mod StandardCall
pub mod KnownRun
pub mod RowsRead
pub mod Filled
pub mod Wanted
pub mod WantedOnly
pub mod WantedExactly
pub mod WantedPlace
pub mod WantedCall
pub mod Unerased
