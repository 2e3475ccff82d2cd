-- Links between rows: `Attribute` (lookups), `Walk` (a walk over rows), `Links` (next row, sibling, the child
-- walk), `Children`, `Neighbour` and `Typed` (the public calls). For theorems: `There` (the bytes of a value are all there),
-- `Endless` (a walk that never ends).
pub mod Attribute
pub mod Walk
pub mod Links
pub mod Children
pub mod Neighbour
pub mod Typed
pub mod There
pub mod Endless
-- What functions inside promise. Nothing public rests on it.
pub mod Inside
