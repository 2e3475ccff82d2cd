-- A number that was read.
use Rattle.std.specs.Prelude.{ok_or}
use Rattle.std.proofs.Common.{◌≡◌, ℕ, Option, Some, None, true, false, List, sym, refl, ap}
use Rattle.numbers.specs.Value.{value_of, there, read_at}
use Rattle.numbers.proofs.Laws.Value.{reads_short, read_all, read-map}
use Rattle.numbers.specs.declared.Endian.{Endian}
use Rattle.format.specs.Said.{Said, gives, refuse, said, ◌>>=◌}
use Rattle.format.proofs.Laws.Said.{Of}
use Rattle.format.specs.declared.refusal.Refusal.{Refusal}
use Rattle.format.specs.declared.refusal.Reason.TheVariants as reason
use Rattle.blocks.specs.Types.{number_in, known_number}

-- what holds of what follows a number
pub of_number : {B : Type 0} (P : B → Type 0) (e : Endian) (w : ℕ) (s : List ℕ) (at : ℕ) (next : ℕ → Said B) → ((n : ℕ) → there s at w ≡ true → Of P (next n))
    → Of P (number_in e w s at >>= next)
unfolding number_in ◌>>=◌
of_number P e w s at next h =
    read_all gives (refuse reason.Block 0) e w s at (λ (d : Said ℕ). Of P (d >>= next)) (λ t. h (value_of e w s at) t) (λ t. tt)

-- ---- what `ok_or` makes of what was read

-- of a number in a block
pub number-said : (e : Endian) (w : ℕ) (s : List ℕ) (at : ℕ)
    → number_in e w s at ≡ said (ok_or (read_at Some None e w s at) (record { reason = reason.Block; place = 0 }))
unfolding said number_in
number-said e w s at =
    let refused : Refusal = record { reason = reason.Block; place = 0 } in
    sym (read-map Some None e w s at (λ (o : Option ℕ). said (ok_or o refused)))

-- of a type's number
pub known-said : (f : Option ℕ) → known_number f ≡ said (ok_or f (record { reason = reason.Number; place = 0 }))
unfolding said known_number
known-said (Some n) = refl
known-said None = refl

-- bytes that are not there
pub number-none : {B : Type 0} (e : Endian) (w : ℕ) (s : List ℕ) (at : ℕ) (next : ℕ → Said B) → there s at w ≡ false
    → refuse reason.Block 0 ≡ (number_in e w s at >>= next)
unfolding number_in ◌>>=◌
number-none e w s at next h = ap (λ (d : Said ℕ). d >>= next) (reads_short gives (refuse reason.Block 0) e w s at h)
