-- The ends of children one at a time are the ends of the members among them, where all of these were read.
use Prim.Native.Nat.{ℕ, ◌+◌}
use mathlib.Core.Path.{◌≡◌, refl, ap, ◌∙◌}
use mathlib.Core.Bool.{Bool, true, false, cond}
use mathlib.Core.List.{List, [], ◌∷◌}
use lib.Dec.{eqb}
use Rattle.format.specs.TagKind as tag
use Rattle.format.specs.Said.{Said, gives, refuses, ◌>>=◌}
use Rattle.format.proofs.Laws.Said.{given_is, step-gave}
use Rattle.format.specs.declared.settings.Settings.{Settings}
use Rattle.blocks.specs.declared.types.Type.{«Type»}
use Rattle.tables.specs.Table.{lent_rows}
use Rattle.tables.specs.Row.{row_at}
use Rattle.records.specs.Member.{member_at}
use Rattle.records.specs.Unions.{RowMember, member_then}
use Rattle.records.specs.declared.member.Member.{Member}
use Rattle.sizes.specs.Size.{member_child_then, member_rows_from, size_or, member_size, with_end, ends_from}
use Rattle.sizes.specs.Inside.Size.{Extent, with_size, grown, member_added, child_end, ends_over}

module _ (f g : ℕ → Said ℕ) (same : (x : ℕ) → f x ≡ g x) where
  same-on : (d : Said ℕ) → (d >>= f) ≡ (d >>= g)
  unfolding ◌>>=◌
  same-on (gives x) = same x
  same-on (refuses number place counts) = refl

  -- a size, then an end, then what goes on from it
  sized-then : (rows : List ℕ) (c largest offset : ℕ) (d : Said ℕ)
      → (with_size offset d >>= (λ (x : Extent). grown rows c largest x.offset x.size) >>= f)
      ≡ (d >>= λ (size : ℕ). with_end (row_at rows c).key largest (offset + size) >>= g)
  unfolding with_size grown ◌>>=◌
  sized-then rows c largest offset (gives x) = same-on (with_end (row_at rows c).key largest (offset + x))
  sized-then rows c largest offset (refuses number place counts) = refl

module _ (settings : Settings) (s rows attrs : List ℕ) (n : ℕ) (type_size : «Type» → Said ℕ) where
  module _ (c largest : ℕ) (f : ℕ → Said ℕ) (rest : Said (List RowMember)) (ms : List RowMember)
      (same : (xs : List RowMember) → rest ≡ gives xs → (x : ℕ) → f x ≡ ends_from rows type_size x xs) where
    -- what a member adds, then what goes on from its end
    abbrev from : Said Member → Said ℕ
    from d =
        (d >>= λ (m : Member). with_size m.offset (size_or type_size m.of m.byte_size)) >>= (λ (x : Extent). grown rows c largest x.offset x.size) >>= f

    -- a member that was read, and those after it
    read-then : (m : Member) (xs : List RowMember) → rest ≡ gives xs → gives (record { row = c; member = m } ∷ xs) ≡ gives ms → from (gives m) ≡ ends_from rows type_size largest ms
    unfolding ends_from member_size ◌>>=◌
    read-then m xs q r =
        sized-then f (λ x. ends_from rows type_size x xs) (same xs q) rows c largest m.offset (size_or type_size m.of m.byte_size)
        ∙ ap (ends_from rows type_size largest) (given_is r)

    member-then : member_then settings (lent_rows settings.endian s rows attrs n) c rest ≡ gives ms → from (member_at settings (lent_rows settings.endian s rows attrs n) c) ≡ ends_from rows type_size largest ms
    unfolding member_then
    member-then p =
        let here = step-gave (member_at settings (lent_rows settings.endian s rows attrs n) c) _ p in
        let those = step-gave rest _ here.2 in
        ap from here.1 ∙ read-then here.0 those.0 those.1 those.2

    -- a child of whatever kind
    child-then : (b : Bool) → cond b (member_then settings (lent_rows settings.endian s rows attrs n) c rest) rest ≡ gives ms
        → (cond b (member_added settings s rows attrs n type_size c >>= λ (x : Extent). grown rows c largest x.offset x.size) (gives largest) >>= f)
        ≡ ends_from rows type_size largest ms
    unfolding member_added ◌>>=◌
    child-then true p = member-then p
    child-then false p = same ms p largest

  pub ends-members : (largest : ℕ) (cs : List ℕ) {ms : List RowMember} → member_rows_from settings (lent_rows settings.endian s rows attrs n) cs ≡ gives ms
      → ends_over settings s rows attrs n type_size largest cs ≡ ends_from rows type_size largest ms
  unfolding member_rows_from member_child_then ends_over child_end ends_from
  ends-members largest [] p = ap (ends_from rows type_size largest) (given_is p)
  ends-members largest (c ∷ cs) {ms} p =
      child-then c largest (λ next. ends_over settings s rows attrs n type_size next cs) (member_rows_from settings (lent_rows settings.endian s rows attrs n) cs) ms
      (λ xs q x. ends-members x cs q) (eqb (row_at rows c).kind tag.member) p
