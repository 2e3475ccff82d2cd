-- Laws. `Text`: lines, and how long they are. `Page`: the rows' lines, turn by turn.
-- `Report`: for each way that the code takes. `Examples`: the output of each, computed. `Only`: no second answer fits.
pub mod Text
pub mod Page
pub mod Report
pub mod Only
pub mod Examples
