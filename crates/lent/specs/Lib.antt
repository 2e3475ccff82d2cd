-- Lent memory, said once: `Outcome` (what a call answers and leaves in the rooms that it was lent), `Filled` (what a room that was filled holds),
-- `OneAnswer` (what it is that no second answer fits a contract).
pub mod Outcome
pub mod Filled
pub mod OneAnswer
