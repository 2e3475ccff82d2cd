-- How the code goes about it: `Links` (a row of a tested table), `AnyChild` (whether there is a child), `EachChild` (children one at a time),
-- `Children` (how they are gathered).
pub mod Links
pub mod AnyChild
pub mod EachChild
pub mod Children
