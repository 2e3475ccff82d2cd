-- No second answer fits: of any two results that meet a public function's contract for the same arguments, and what they leave in lent memory, the one is the
-- other. Written and held against the source by .ci/promises.
use Rattle.lent.specs.OneAnswer.{OneAnswer, OneRoom}
use Rattle.digits.proofs.hex as hex
use Rattle.digits.proofs.decimal as decimal
use Rattle.digits.proofs.text as text

-- `hex::write_hex`
pub only-write-hex : OneAnswer hex.write_hex.Kinds.ps hex.write_hex.Kinds.r hex.write_hex.Reads.Post
only-write-hex κs a z z' e e' p q = cc

pub only-write-hex-rest : OneRoom hex.write_hex.Kinds.ps hex.write_hex.Kinds.r (λ κs e. e.0.now) hex.write_hex.Reads.Post
only-write-hex-rest κs a z z' e e' p q = cc

-- `decimal::write_decimal`
pub only-write-decimal : OneAnswer decimal.write_decimal.Kinds.ps decimal.write_decimal.Kinds.r decimal.write_decimal.Reads.Post
only-write-decimal κs a z z' e e' p q = cc

pub only-write-decimal-rest : OneRoom decimal.write_decimal.Kinds.ps decimal.write_decimal.Kinds.r (λ κs e. e.0.now) decimal.write_decimal.Reads.Post
only-write-decimal-rest κs a z z' e e' p q = cc

-- `text::write_text`
pub only-write-text : OneAnswer text.write_text.Kinds.ps text.write_text.Kinds.r text.write_text.Reads.Post
only-write-text κs a z z' e e' p q = cc

pub only-write-text-rest : OneRoom text.write_text.Kinds.ps text.write_text.Kinds.r (λ κs e. e.0.now) text.write_text.Reads.Post
only-write-text-rest κs a z z' e e' p q = cc
