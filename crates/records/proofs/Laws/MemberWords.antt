-- What follows from `MemberWords`.
use Prim.Native.Nat.{ℕ, ◌*◌, ◌≤◌}
use native.Mathlib.Omega.{arith}
use mathlib.Core.Path.{◌≡◌, refl, sym}
use mathlib.Core.List.{List}
use lib.ListN.{length}
use lib.Seq.{sets}
use Rattle.lent.proofs.Laws.Stores.{sets-out}
use Rattle.records.specs.MemberWords.{member_width, member_words}
use Rattle.records.specs.declared.member.Member.{Member}

pub words-wide : (row : ℕ) (m : Member) → length (member_words row m) ≡ member_width
unfolding member_words
words-wide row m = refl

-- record k of room that has not k words is nowhere in it
pub member-out : (t : List ℕ) (k row : ℕ) (m : Member) → length t ≤ k → t ≡ sets t (k * member_width) (member_words row m)
member-out t k row m h = sym (sets-out t (k * member_width) (member_words row m) (omega arith))
