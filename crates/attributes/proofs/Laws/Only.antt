-- No second answer fits: of any two results that meet a public function's contract for the same arguments, and what they leave in lent memory, the one is the
-- other. Written and held against the source by .ci/promises.
use Rattle.lent.specs.OneAnswer.{One, OneAnswer}
use Rattle.attributes.proofs.text as text
use Rattle.attributes.proofs.value as value
use Rattle.attributes.proofs.read as read
use Rattle.attributes.proofs.decode as decode

-- `text::zero_from`
pub only-zero-from : OneAnswer text.zero_from.Kinds.ps text.zero_from.Kinds.r text.zero_from.Reads.Post
only-zero-from κs a z z' e e' p q = cc

-- `value::value_end`
pub only-value-end : OneAnswer value.value_end.Kinds.ps value.value_end.Kinds.r value.value_end.Reads.Post
only-value-end κs a z z' e e' p q = cc

-- `read::read_attribute`
pub only-read-attribute : OneAnswer read.read_attribute.Kinds.ps read.read_attribute.Kinds.r read.read_attribute.Reads.Post
only-read-attribute κs a z z' e e' p q = cc

-- `decode::address`
pub only-address : OneAnswer decode.address.Kinds.ps decode.address.Kinds.r decode.address.Reads.Post
only-address κs a z z' e e' p q = cc

-- `decode::reference`
pub only-reference : OneAnswer decode.reference.Kinds.ps decode.reference.Kinds.r decode.reference.Reads.Post
only-reference κs a z z' e e' p q = cc

-- `decode::data2`
pub only-data2 : OneAnswer decode.data2.Kinds.ps decode.data2.Kinds.r decode.data2.Reads.Post
only-data2 κs a z z' e e' p q = cc

-- `decode::data4`
pub only-data4 : OneAnswer decode.data4.Kinds.ps decode.data4.Kinds.r decode.data4.Reads.Post
only-data4 κs a z z' e e' p q = cc

-- `decode::data8`
pub only-data8 : OneAnswer decode.data8.Kinds.ps decode.data8.Kinds.r decode.data8.Reads.Post
only-data8 κs a z z' e e' p q = cc

-- `decode::part`
pub only-part : One decode.part.Kinds.ps decode.part.Kinds.r (λ κs z e. z.now) decode.part.Reads.Post
only-part κs a z z' e e' p q = cc

-- `decode::block2`
pub only-block2 : One decode.block2.Kinds.ps decode.block2.Kinds.r (λ κs z e. z.now) decode.block2.Reads.Post
only-block2 κs a z z' e e' p q = cc

-- `decode::block4`
pub only-block4 : One decode.block4.Kinds.ps decode.block4.Kinds.r (λ κs z e. z.now) decode.block4.Reads.Post
only-block4 κs a z z' e e' p q = cc

-- `decode::string`
pub only-string : One decode.string.Kinds.ps decode.string.Kinds.r (λ κs z e. z.now) decode.string.Reads.Post
only-string κs a z z' e e' p q = cc

-- `decode::part_at`
pub only-part-at : OneAnswer decode.part_at.Kinds.ps decode.part_at.Kinds.r decode.part_at.Reads.Post
only-part-at κs a z z' e e' p q = cc

-- `decode::block2_at`
pub only-block2-at : OneAnswer decode.block2_at.Kinds.ps decode.block2_at.Kinds.r decode.block2_at.Reads.Post
only-block2-at κs a z z' e e' p q = cc

-- `decode::block4_at`
pub only-block4-at : OneAnswer decode.block4_at.Kinds.ps decode.block4_at.Kinds.r decode.block4_at.Reads.Post
only-block4-at κs a z z' e e' p q = cc

-- `decode::string_at`
pub only-string-at : OneAnswer decode.string_at.Kinds.ps decode.string_at.Kinds.r decode.string_at.Reads.Post
only-string-at κs a z z' e e' p q = cc
