-- Laws. `Taken` to `Typedef`: for each way that the code comes to an answer. `Form`: every attribute has the form that is expected of it. `Never`: no
-- record is refused by 14. `UnionFilled`, `EnumerationFilled`: what a room then holds. `Only`: no second answer fits. `StandardElements`,
-- `StandardMember`: against the standard. `FrontCounted`, `UnionsCounted`: the same of callers that count children.
pub mod Taken
pub mod Scan
pub mod Fields
pub mod Front
pub mod FrontCounted
pub mod Record
pub mod Steps
pub mod MemberWords
pub mod Unions
pub mod UnionsCounted
pub mod Elements
pub mod Enumeration
pub mod Typedef
pub mod Form
pub mod Never
pub mod Only
pub mod UnionFilled
pub mod EnumerationFilled
pub mod StandardElements
pub mod StandardMember
