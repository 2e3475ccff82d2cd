-- Where `process_enumeration_tag` answers with an enumeration, the rooms begin with its members, as many as it says, and what lies behind is as it was.
use Rattle.format.proofs.Laws.Said.{given_is, given-refused}
use Prim.Native.Nat.{ℕ, ◌*◌, ◌/◌, ◌≤◌}
use native.Mathlib.Omega.{arith}
use mathlib.Core.Path.{◌≡◌, refl, sym, ap, ◌∙◌, subst}
use mathlib.Core.Bool.{Bool, true, false, cond, ◌&&◌}
use mathlib.Core.List.{List, [], ◌∷◌}
use lib.ListN.{length}
use lib.Seq.{sets}
use lib.Dec.{leb}
use lib.IntN.{ℤ}
use borrow.Author.Tests.{leb-true}
use Rattle.tables.specs.Table.{table, lent_rows}
use Rattle.lent.proofs.Laws.Filled.{sets-filled}
use Rattle.lent.specs.Outcome.{Outcomes, BothGiven}
use Rattle.format.specs.declared.settings.Settings.{Settings}
use Rattle.format.specs.declared.settings.Producer.{Producer}
use Rattle.tables.specs.declared.row.Counts.{Counts}
use Rattle.format.specs.Said.{Said, gives, refuses, in_rooms, fills_rooms}
use Rattle.tables.specs.Keyed.{row_of}
use Rattle.records.specs.Elements.{Listed, values_of, names_of}
use Rattle.records.proofs.Laws.Elements.{reversed-length}
use Rattle.records.specs.Enumeration.{is_gcc, reversed, in_order, row_lists, enumeration_at, enumeration_into, process_enumeration_tag}
use Rattle.records.proofs.Laws.Enumeration.{members-listed}
use Rattle.records.specs.declared.enumeration.Enumeration.{Enumeration}
use Rattle.records.specs.EnumerationFilled.{EnumerationFilled}

values_length : (xs : List Listed) → length (values_of xs) ≡ length xs
unfolding values_of
values_length [] = refl
values_length (x ∷ xs) = let rest : length (values_of xs) ≡ length xs = values_length xs in omega arith

names-length : (xs : List Listed) → length (names_of xs) ≡ length xs * 2
unfolding names_of
names-length [] = omega arith
names-length (x ∷ xs) = let rest : length (names_of xs) ≡ length xs * 2 = names-length xs in omega arith

order-length : (producer : Producer) (xs : List Listed) → length (in_order producer xs) ≡ length xs
unfolding in_order
order-length producer xs = by (is_gcc producer)
  where
    by : (b : Bool) → length (cond b (reversed xs) xs) ≡ length xs
    by true = reversed-length xs
    by false = refl

both : (a b : Bool) → (a && b) ≡ true → (a ≡ true) × (b ≡ true)
both true true p = (refl, refl)
both true false p = (refl, p)
both false b p = (p, absurd-false p)
  where
    absurd-false : false ≡ true → b ≡ true
    absurd-false q = let z : ◌≡◌ {A = ℕ} 0 1 = cc in absurd (omega arith)

-- ---- the theorem

module _ (settings : Settings) (vendors sizes s rows attrs : List ℕ) (counts : Counts) (key : ℕ) (values : List ℤ) (names : List ℕ) where
  module _ (e : Enumeration) (values' : List ℤ) (names' : List ℕ) where
    abbrev Says : Outcomes (Said Enumeration) ℤ ℕ → Type 0
    Says o = BothGiven o (gives e) values' names'

    module _ (i : ℕ) (row : row_of (table s settings vendors sizes rows attrs counts) key ≡ gives i) where
      abbrev Result : Type 0
      Result = (xs : List Listed) × EnumerationFilled (table s settings vendors sizes rows attrs counts) key values names e values' names' i xs

      with-members : (xs : List Listed) → row_lists settings (lent_rows settings.endian s rows attrs counts.rows) i ≡ gives xs → e.members ≡ length xs
          → (leb e.members (length values) && leb e.members (length names / 2)) ≡ true
          → values' ≡ sets values 0 (values_of (in_order settings.producer xs)) → names' ≡ sets names 0 (names_of (in_order settings.producer xs)) → Result
      with-members xs l m fits p q =
          let two : (leb e.members (length values) ≡ true) × (leb e.members (length names / 2) ≡ true) =
          both (leb e.members (length values)) (leb e.members (length names / 2)) fits
          in
          let first : e.members ≤ length values = leb-true e.members (length values) two.0 in
          let second : e.members ≤ length names / 2 = leb-true e.members (length names / 2) two.1 in
          let ys : List Listed = in_order settings.producer xs in
          let order : length ys ≡ length xs = order-length settings.producer xs in
          let vs : length (values_of ys) ≡ length ys = values_length ys in
          let ns : length (names_of ys) ≡ length ys * 2 = names-length ys in
          let ns-fit : e.members * 2 ≤ length names = omega arith in
          let vs-many : length (values_of ys) ≡ e.members = omega arith in
          let ns-many : length (names_of ys) ≡ e.members * 2 = omega arith in (
            xs,
            record {
              row = row;
              lists = l;
              many = sym m;
              values_filled = sets-filled (values_of ys) e.members values vs-many first p;
              names_filled = sets-filled (names_of ys) (e.members * 2) names ns-many ns-fit q;
            },
          )

      abbrev fits : Enumeration → Bool
      fits e' = leb e'.members (length values) && leb e'.members (length names / 2)

      abbrev filled : Enumeration → Bool → List Listed → Outcomes (Said Enumeration) ℤ ℕ
      filled e' b xs =
          fills_rooms b e' (e'.members ∷ []) (values_of (in_order settings.producer xs)) (names_of (in_order settings.producer xs)) values names

      by-fit : (e' : Enumeration) (xs : List Listed) → row_lists settings (lent_rows settings.endian s rows attrs counts.rows) i ≡ gives xs → e'.members ≡ length xs → (b : Bool) → fits e' ≡ b
          → Says (filled e' b xs) → Result
      unfolding fills_rooms
      by-fit e' xs l m true t g =
          let one : e ≡ e' = given_is g.answer_is in
          with-members xs l (ap (λ (x : Enumeration). x.members) one ∙ m) (ap fits one ∙ t) g.first_is g.second_is
      by-fit e' xs l m false t g = absurd (given-refused g.answer_is)

      by_whole : (a : Said Enumeration) → enumeration_at settings (lent_rows settings.endian s rows attrs counts.rows) i ≡ a
          → Says (in_rooms values names a (λ (e' : Enumeration). in_rooms values names (row_lists settings (lent_rows settings.endian s rows attrs counts.rows) i) (filled e' (fits e')))) → Result
      unfolding in_rooms
      by_whole (gives e') p g =
          let found : (xs : List Listed) × (row_lists settings (lent_rows settings.endian s rows attrs counts.rows) i ≡ gives xs) × (e'.members ≡ length xs) =
          members-listed settings s rows attrs counts.rows i p
          in
          by-fit e' found.0 found.1 found.2 (fits e') refl
          (subst (λ (l : Said (List Listed)). Says (in_rooms values names l (filled e' (fits e')))) found.1 g)
      by_whole (refuses number place counts') p g = absurd (given-refused g.answer_is)

    by_row : (d : Said ℕ) → row_of (table s settings vendors sizes rows attrs counts) key ≡ d
        → Says (in_rooms values names d (enumeration_into settings (lent_rows settings.endian s rows attrs counts.rows) values names))
        → (i : ℕ) × (xs : List Listed) × EnumerationFilled (table s settings vendors sizes rows attrs counts) key values names e values' names' i xs
    unfolding in_rooms enumeration_into
    by_row (gives i) is g =
        let r : (xs : List Listed) × EnumerationFilled (table s settings vendors sizes rows attrs counts) key values names e values' names' i xs =
        by_whole i is (enumeration_at settings (lent_rows settings.endian s rows attrs counts.rows) i) refl g
        in
        (i, r.0, r.1)
    by_row (refuses number place counts') is g = absurd (given-refused g.answer_is)

    pub enumeration-filled : BothGiven (process_enumeration_tag (table s settings vendors sizes rows attrs counts) key values names) (gives e) values' names'
        → (i : ℕ) × (xs : List Listed) × EnumerationFilled (table s settings vendors sizes rows attrs counts) key values names e values' names' i xs
    unfolding process_enumeration_tag
    enumeration-filled g = by_row (row_of (table s settings vendors sizes rows attrs counts) key) refl g
