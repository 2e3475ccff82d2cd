-- Laws. `Keep`, `Levels`, `Layout`, `All`: for each way that the code comes to an answer. Of a layout: where one is given, its members are there
-- (`LayoutFilled`); its size is what the size call answers (`LayoutSize`); without ByteSize every member ends at or before it (`LayoutEnds`). Of all layouts: each
-- is the one that its key gives, and every structure and class is there once (`AllEach`); both rooms hold their words (`AllFilled`). `Never`: no call is refused by 14.
-- `Examples`: input A, computed. `Back`: what is said leads back to the answer. `Only`: no second answer fits.
pub mod Keep
pub mod Levels
pub mod Layout
pub mod All
pub mod LayoutFilled
pub mod LayoutSize
pub mod LayoutEnds
pub mod AllEach
pub mod AllFilled
pub mod Never
pub mod Examples
pub mod Back
pub mod Only
