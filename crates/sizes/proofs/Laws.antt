-- Laws. `Exit`: of what goes on by `?`. `Product` to `Stay`: for each way that the code comes to an answer. `Never`: no size is refused by 14. `Only`: no
-- second answer fits. `PrepareCounted`: of callers that count children. `SizeNoted`: of sizes that may be noted.
pub mod Exit
pub mod Product
pub mod Walking
pub mod Prepare
pub mod PrepareCounted
pub mod Ends
pub mod Noted
pub mod Kept
pub mod Size
pub mod SizeNoted
pub mod Stage
pub mod Stay
pub mod Never
pub mod Only
