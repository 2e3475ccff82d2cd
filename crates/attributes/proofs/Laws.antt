-- Laws. `Text`, `Eight`, `End`, `Read`, `Part`: what the code computes; in `Part` also that where a part lies and its bytes are of one part.
-- `Field`: what `ok_or(..)?` comes to. `Inside`: a success lies inside and moves forward. `Append`: bytes behind and in front of a section. `Only`: no
-- second answer fits.
pub mod Eight
pub mod Text
pub mod End
pub mod Part
pub mod Read
pub mod Field
pub mod Inside
pub mod Append
pub mod Only
