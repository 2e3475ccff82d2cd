-- The table of entries that the standard wrote without padding: row i is entry i, its key is where the entry begins, and its sibling reference is what
-- its first AT_sibling names. So in the table of a forest each row's reach ends behind the rows below it.
use Rattle.std.specs.Prelude.{Option, Some, None}
use Prim.Native.Nat.{ℕ, suc, ◌+◌, ◌%◌, ◌<◌}
use native.Mathlib.Nat.{add-zero, le_refl}
use native.Mathlib.Omega.{arith}
use mathlib.Core.Path.{◌≡◌, refl, sym, ap, subst, ◌∙◌}
use mathlib.Core.Logic.{◌⊎◌, inl, inr, ⊎_elim}
use mathlib.Core.Bool.{Bool}
use mathlib.Core.List.{List, [], ◌∷◌, ◌++◌, append_assoc, append-nil}
use lib.ListN.{length, length-append}
use lib.Dec.{eqb}
use borrow.Author.Tests.{eqb-true}
use Rattle.numbers.specs.declared.Endian.{Endian}
use Rattle.numbers.proofs.Laws.Stands.{Stands, all-stands, front-stands, back-stands}
use Rattle.standard.specs.Numbers.{Form, form_number}
use Rattle.standard.specs.Entries.{Value, number, bytes, Attribute, written_attribute, written_attributes, Die, null, padding, entry, written_die, written_dies}
use Rattle.standard.specs.Forest.{siblings_in, References, Forest, done, ended, alone, childless, family}
use Rattle.attributes.specs.Decode.{reference_at}
use Rattle.tables.specs.Table.{Rows, lent_rows}
use Rattle.tables.specs.Row.{row_at, attr_at, rows_from, attrs_from}
use Rattle.tables.specs.Unit.{no_unit, unit_of, in_unit, units_from, with_units}
use Rattle.tables.specs.declared.row.Row.{Row}
use Rattle.tables.specs.declared.row.Attr.{Attr}
use Rattle.entries.proofs.Laws.Filled.{held-apart}
use Rattle.entries.specs.Standard.{written_from, die_attrs, die_rows, attrs_of, rows_of, Decoded, both}
use Rattle.entries.specs.Standard as decoded
use Rattle.entries.proofs.Laws.KnownRun.{by-test}
use Rattle.entries.proofs.Laws.Tagged.{tagged}
use Rattle.entries.proofs.Laws.StandardValue.{body_stands, value-decoded}
use Rattle.entries.proofs.Laws.StandardRead.{dies-length, die-stands, others-stand}
use Rattle.links.specs.Attribute.{sibling_number, wants, attr_from, attribute_of, reference_by, reference_of}
use Rattle.links.specs.declared.lookup.Wanted.TheVariants as wanted
use Rattle.tree.specs.Demand.{sibling_of}
use Rattle.tree.specs.Demand as demand
use Rattle.tree.specs.Reach.{reach_end}
use Rattle.tree.proofs.Laws.WalkTree.{Plain}
use Rattle.tree.proofs.Laws.Reach.{reach-alone}
use Rattle.tree.proofs.Laws.Demanded.{reach-is}
use Rattle.tree.proofs.Laws.Shape.{Shape, none, node, size, Spans}

-- ---- the sibling reference of a run of attributes

-- what the first of these values refers to
unfoldable named : List Value → Option ℕ
named [] = None
named (number key ∷ more) = Some key
named (bytes xs ∷ more) = None

module _ (e : Endian) (s : List ℕ) where
  -- a reference that was written is read
  reference-read : (at : ℕ) {form : Form} {v : Value} (more : List Value) → form_number form ≡ 2 → Decoded e s at form v
      → reference_at (both e) s at ≡ named (v ∷ more)
  unfolding form_number named
  reference-read at more two (decoded.address n p) = absurd (omega arith)
  reference-read at more two (decoded.reference n p) = rw p
  reference-read at more two (decoded.block2 xs p) = absurd (omega arith)
  reference-read at more two (decoded.block4 xs p) = absurd (omega arith)
  reference-read at more two (decoded.data2 n p) = absurd (omega arith)
  reference-read at more two (decoded.data4 n p) = absurd (omega arith)
  reference-read at more two (decoded.data8 n p) = absurd (omega arith)
  reference-read at more two (decoded.string xs p) = absurd (omega arith)

  -- the first AT_sibling of attributes that the table holds from number k on
  run-sibling : {numbers : List ℕ} (attrs : List ℕ) (xs : List (Attribute numbers e)) (k at : ℕ) → Stands s at (written_attributes numbers e xs)
      → attrs_from attrs k (length (written_from numbers e at xs)) ≡ written_from numbers e at xs
      → reference_by e s attrs (attr_from (wanted.Number sibling_number) attrs k (length (written_from numbers e at xs))) ≡ named (siblings_in numbers e xs)
  unfolding written_from written_attributes attrs_from attr_from wants reference_by siblings_in named
  run-sibling attrs [] k at q p = refl
  run-sibling {numbers} attrs (x ∷ xs) k at q p =
      let next : ℕ = at + length (written_attribute numbers e x) in
      let own : Stands s at (written_attribute numbers e x) = front-stands s at (written_attribute numbers e x) (written_attributes numbers e xs) q in
      let others : Stands s next (written_attributes numbers e xs) = back-stands s at (written_attribute numbers e x) (written_attributes numbers e xs) q in
      let here : attr_at attrs k ≡ record { number = x.kind; value = at + 2 } = cc in
      let later : attrs_from attrs (suc k) (length (written_from numbers e next xs)) ≡ written_from numbers e next xs = cc in
      by-test (eqb x.kind sibling_number)
      (λ t. (let is : x.kind ≡ sibling_number = eqb-true x.kind sibling_number t in
      let two : form_number x.form ≡ 2 = sym x.has_form ∙ ap (λ (n : ℕ). n % 16) is in
      rw (here, t, here) (reference-read (at + 2) (siblings_in numbers e xs) two (value-decoded s (at + 2) x.written (body_stands x own)))))
      (λ t. rw (here, t) (run-sibling attrs xs (suc k) next others later))

-- ---- an entry that has a row

module _ {numbers : List ℕ} {e : Endian} where
  -- all but padding
  abbrev Rowed : Die numbers e → Type 0
  Rowed (null fill few small) = Unit
  Rowed (padding fill some few small) = ⊥
  Rowed (entry tag k p a rest few) = Unit

  -- the values of its AT_sibling
  unfoldable die_siblings : Die numbers e → List Value
  die_siblings (null fill few small) = []
  die_siblings (padding fill some few small) = []
  die_siblings (entry tag k p a rest few) = siblings_in numbers e (a ∷ rest)

  references-rowed : (d : Die numbers e) {values : List Value} → References numbers e d values → Rowed d × (die_siblings d ≡ values)
  unfolding die_siblings
  references-rowed (null fill few small) r = absurd r
  references-rowed (padding fill some few small) r = absurd r
  references-rowed (entry tag k p a rest few) r = (tt, r)

  -- its one row, with the place where it begins and its attributes
  record OneRow (at a : ℕ) (d : Die numbers e) : Type 0 where
    row : Row
    only : die_rows numbers e at a d ≡ row ∷ []
    key_is : row.key ≡ at
    first_is : row.first ≡ a
    count_is : row.count ≡ length (die_attrs numbers e at d)

  one_row : (d : Die numbers e) (at a : ℕ) → Rowed d → OneRow at a d
  unfolding die_rows die_attrs
  one_row (null fill few small) at a r = record { row = _; only = refl; key_is = refl; first_is = refl; count_is = refl }
  one_row (padding fill some few small) at a r = absurd r
  one_row (entry tag k p b rest few) at a r = record { row = _; only = refl; key_is = refl; first_is = refl; count_is = refl }

  die-sibling : (s attrs : List ℕ) (d : Die numbers e) (at a : ℕ) → Stands s at (written_die numbers e d)
      → attrs_from attrs a (length (die_attrs numbers e at d)) ≡ die_attrs numbers e at d
      → reference_by e s attrs (attr_from (wanted.Number sibling_number) attrs a (length (die_attrs numbers e at d))) ≡ named (die_siblings d)
  unfolding written_die die_attrs die_siblings attr_from reference_by named
  die-sibling s attrs (null fill few small) at a q p = refl
  die-sibling s attrs (padding fill some few small) at a q p = refl
  die-sibling s attrs (entry tag k p b rest few) at a q h =
      let body : List ℕ = written_attributes numbers e (b ∷ rest) in
      run-sibling e s attrs (b ∷ rest) a (at + 6) (tagged e s at (length body + 6) tag body q).body_stands h

-- ---- entries that the table holds

module _ {numbers : List ℕ} {e : Endian} where
  abbrev AllRowed : List (Die numbers e) → Type 0
  AllRowed [] = Unit
  AllRowed (d ∷ dies) = Rowed d × AllRowed dies

-- from row i and place `at` on, up to the last row and the end of the section, the table is that of these entries, all of which have rows; `unit` is that of
-- the row before
record From {numbers : List ℕ} (e : Endian) (s rows attrs : List ℕ) (n i at : ℕ) (dies : List (Die numbers e)) : Type 0 where
  attr : ℕ
  unit : ℕ
  rowed : AllRowed dies
  rows_held : rows_from rows i (length (rows_of numbers e at attr dies)) ≡ units_from unit (rows_of numbers e at attr dies)
  attrs_held : attrs_from attrs attr (length (attrs_of numbers e at dies)) ≡ attrs_of numbers e at dies
  stand : Stands s at (written_dies numbers e dies)
  last_row : i + length dies ≡ n
  section_ends : at + length (written_dies numbers e dies) ≡ length s

module _ {numbers : List ℕ} {e : Endian} (at a : ℕ) (d : Die numbers e) (dies : List (Die numbers e)) where
  rows-begin : (r : OneRow at a d)
      → rows_of numbers e at a (d ∷ dies) ≡ r.row ∷ rows_of numbers e (at + length (written_die numbers e d)) (a + length (die_attrs numbers e at d)) dies
  unfolding rows_of
  rows-begin r = rw r.only

module _ {numbers : List ℕ} {e : Endian} {s rows attrs : List ℕ} {n i at : ℕ} {d : Die numbers e} {dies : List (Die numbers e)}
    (f : From e s rows attrs n i at (d ∷ dies)) where
  first-row : OneRow at f.attr d
  first-row = one_row d at f.attr f.rowed.0

  abbrev later_rows : List Row
  later_rows = rows_of numbers e (at + length (written_die numbers e d)) (f.attr + length (die_attrs numbers e at d)) dies

  abbrev later-unit : ℕ
  later-unit = unit_of f.unit first-row.row

  rows_apart : (row_at rows i ≡ in_unit later-unit first-row.row) × (rows_from rows (suc i) (length later_rows) ≡ units_from later-unit later_rows)
  unfolding rows_from units_from
  rows_apart =
      let whole : rows_from rows i (length (first-row.row ∷ later_rows)) ≡ units_from f.unit (first-row.row ∷ later_rows) =
      rw (rows-begin at f.attr d dies first-row) at f.rows_held
      in
      (cc, cc)

  abbrev later-attrs : List Attr
  later-attrs = attrs_of numbers e (at + length (written_die numbers e d)) dies

  attrs-apart : (attrs_from attrs f.attr (length (die_attrs numbers e at d)) ≡ die_attrs numbers e at d)
      × (attrs_from attrs (f.attr + length (die_attrs numbers e at d)) (length later-attrs) ≡ later-attrs)
  unfolding attrs_of
  attrs-apart = held-apart attrs f.attr (die_attrs numbers e at d) later-attrs f.attrs_held

  -- those behind the first
  from_next : From e s rows attrs n (suc i) (at + length (written_die numbers e d)) dies
  from_next =
      let whole = dies-length d dies in
      record {
        attr = f.attr + length (die_attrs numbers e at d);
        unit = later-unit;
        rowed = f.rowed.1;
        rows_held = rows_apart.1;
        attrs_held = attrs-apart.1;
        stand = others-stand d dies f.stand;
        last_row = omega (arith, f.last_row);
        section_ends = omega (arith, f.section_ends);
      }

  -- the first one's row
  from-inside : i < n
  from-inside = omega (arith, f.last_row)

  from_key : (row_at rows i).key ≡ at
  unfolding in_unit
  from_key = ap (λ (r : Row). r.key) rows_apart.0 ∙ first-row.key_is

  from_first : (row_at rows i).first ≡ f.attr
  unfolding in_unit
  from_first = ap (λ (r : Row). r.first) rows_apart.0 ∙ first-row.first_is

  from-count : (row_at rows i).count ≡ length (die_attrs numbers e at d)
  unfolding in_unit
  from-count = ap (λ (r : Row). r.count) rows_apart.0 ∙ first-row.count_is

  from-sibling : reference_of e s rows attrs i sibling_number ≡ named (die_siblings d)
  unfolding reference_of attribute_of
  from-sibling =
      rw (from_first, from-count) (die-sibling s attrs d at f.attr (die-stands d dies f.stand) attrs-apart.0)

-- those behind some of them
from-behind : {numbers : List ℕ} {e : Endian} {s rows attrs : List ℕ} {n i j at next : ℕ} (dies more : List (Die numbers e))
    → From e s rows attrs n i at (dies ++ more)
    → i + length dies ≡ j → at + length (written_dies numbers e dies) ≡ next → From e s rows attrs n j next more
unfolding written_dies
from-behind {e = e} {s} {rows} {attrs} {n} {i} {at = at} {next = next} [] more f p q =
    let row : i + 0 ≡ i = omega arith in let place : at + 0 ≡ at = omega arith in
    subst (λ (k : ℕ). From e s rows attrs n k next more) (sym row ∙ p) (subst (λ (k : ℕ). From e s rows attrs n i k more) (sym place ∙ q) f)
from-behind {numbers} {i = i} {at = at} (d ∷ dies) more f p q =
    let long = dies-length d dies in
    from-behind {i = suc i} dies more (from_next f) (omega arith) (omega arith)

-- ---- where references lead

-- an entry begins at `at` and is row i; or there the section ends, and row i would be the one behind the last
abbrev Begins : (s rows : List ℕ) (n i at : ℕ) → Type 0
Begins s rows n i at = ((i < n) × ((row_at rows i).key ≡ at)) ⊎ ((i ≡ n) × (at ≡ length s))

from-begins : {numbers : List ℕ} {e : Endian} {s rows attrs : List ℕ} {n i at : ℕ} (dies : List (Die numbers e)) → From e s rows attrs n i at dies
    → Begins s rows n i at
unfolding written_dies
from-begins {i = i} {at} [] f = inr (omega (arith, f.last_row), omega (arith, f.section_ends))
from-begins (d ∷ dies) f = inl (from-inside f, from_key f)

module _ {s rows : List ℕ} {n : ℕ} (plain : Plain s rows n) (e : Endian) (attrs : List ℕ) where
  abbrev t : Rows
  t = lent_rows e s rows attrs n

  abbrev reach : ℕ → ℕ
  reach i = reach_end (lent_rows e s rows attrs n) i

  -- a reference to a later place where an entry begins, or to the end
  reach-to : {i j at : ℕ} → i < j → i < n → sibling_of t i ≡ Some at → Begins s rows n j at → reach i ≡ j
  reach-to {i} {j} h l p begins =
      ⊎_elim (λ row. (reach-is plain e attrs (demand.up_to i j h row.0 (p ∙ ap Some (sym row.1)))).1)
      (λ end. (reach-is plain e attrs (demand.rest i l (p ∙ ap Some end.1))).1 ∙ sym end.0) begins

-- ---- forests

module _ {numbers : List ℕ} {e : Endian} where
  both-rowed : (dies more : List (Die numbers e)) → AllRowed dies → AllRowed more → AllRowed (dies ++ more)
  both-rowed [] more a b = b
  both-rowed (d ∷ dies) more a b = (a.0, both-rowed dies more a.1 b)

  -- no padding stands in a forest
  forest-rowed : {closed : Bool} {at : ℕ} {dies : List (Die numbers e)} → Forest numbers e closed at dies → AllRowed dies
  forest-rowed (done at) = tt
  forest-rowed (ended at fill few small) = (tt, tt)
  forest-rowed (alone closed at d rest r siblings) = ((references-rowed d r).0, forest-rowed siblings)
  forest-rowed (childless closed at d rest r siblings) = ((references-rowed d r).0, forest-rowed siblings)
  forest-rowed (family closed at d children rest r below siblings) =
      ((references-rowed d r).0, both-rowed children rest (forest-rowed below) (forest-rowed siblings))

  -- first child and next sibling
  unfoldable pub shape_of : {closed : Bool} {at : ℕ} {dies : List (Die numbers e)} → Forest numbers e closed at dies → Shape
  shape_of (done at) = none
  shape_of (ended at fill few small) = node none none
  shape_of (alone closed at d rest r siblings) = node none (shape_of siblings)
  shape_of (childless closed at d rest r siblings) = node none (shape_of siblings)
  shape_of (family closed at d children rest r below siblings) = node (shape_of below) (shape_of siblings)

  pub shape_size : {closed : Bool} {at : ℕ} {dies : List (Die numbers e)} (forest : Forest numbers e closed at dies) → size (shape_of forest) ≡ length dies
  unfolding shape_of size
  shape_size (done at) = refl
  shape_size (ended at fill few small) = refl
  shape_size (alone closed at d rest r siblings) = omega (arith, shape_size siblings)
  shape_size (childless closed at d rest r siblings) = omega (arith, shape_size siblings)
  shape_size (family closed at d children rest r below siblings) =
      let both : length (children ++ rest) ≡ length children + length rest = length-append children rest in
      omega (arith, shape_size below, shape_size siblings)

-- each row's reach ends behind the rows below it, whatever entries stand behind the forest
module _ {s rows : List ℕ} {n : ℕ} (plain : Plain s rows n) (attrs : List ℕ) {numbers : List ℕ} {e : Endian} where
  abbrev held : ℕ → ℕ → List (Die numbers e) → Type 0
  held i at dies = From e s rows attrs n i at dies

  -- a row without a reference
  alone-reach : {i at : ℕ} {d : Die numbers e} {dies : List (Die numbers e)} → die_siblings d ≡ [] → held i at (d ∷ dies) → reach plain e attrs i ≡ suc i + 0
  unfolding named
  alone-reach {i} p f =
      let end : reach plain e attrs i ≡ suc i = sym (reach-alone e s rows attrs n i refl (from-sibling f ∙ ap named p)) in
      omega arith

  -- a row with one, to where those behind it begin
  sibling-reach : {i j at to : ℕ} {d : Die numbers e} {dies : List (Die numbers e)} → die_siblings d ≡ number to ∷ [] → held i at (d ∷ dies) → i < j
      → (later : List (Die numbers e)) → held j to later → reach plain e attrs i ≡ j
  unfolding named
  sibling-reach p f h later g = reach-to plain e attrs h (from-inside f) (from-sibling f ∙ ap named p) (from-begins later g)

  forest-spans : {closed : Bool} {at : ℕ} {dies : List (Die numbers e)} (forest : Forest numbers e closed at dies) (tail : List (Die numbers e)) (i : ℕ)
      → held i at (dies ++ tail) → Spans (reach plain e attrs) (shape_of forest) i
  unfolding shape_of size die_siblings
  forest-spans (done at) tail i f = tt
  forest-spans (ended at fill few small) tail i f = (alone-reach refl f, tt, tt)
  forest-spans (alone closed at d rest r siblings) tail i f =
      (alone-reach (references-rowed d r).1 f, tt, rw (add-zero (suc i)) (forest-spans siblings tail (suc i) (from_next f)))
  forest-spans (childless closed at d rest r siblings) tail i f = (
    sibling-reach (references-rowed d r).1 f (le_refl (suc i)) (rest ++ tail) (from_next f) ∙ sym (add-zero (suc i)),
    tt,
    rw (add-zero (suc i)) (forest-spans siblings tail (suc i) (from_next f)),
  )
  forest-spans (family closed at d children rest r below siblings) tail i f =
      let apart : held (suc i) _ (children ++ (rest ++ tail)) = rw (append_assoc children rest tail) at (from_next f) in
      let others = from-behind children (rest ++ tail) apart refl refl in (
        rw (shape_size below) (sibling-reach (references-rowed d r).1 f (omega arith) (rest ++ tail) others),
        forest-spans below (rest ++ tail) (suc i) apart,
        rw (shape_size below) (forest-spans siblings tail (suc i + length children) others),
      )

-- ---- the whole table

rows-many : {numbers : List ℕ} {e : Endian} (dies : List (Die numbers e)) (at a : ℕ) → AllRowed dies → length (rows_of numbers e at a dies) ≡ length dies
unfolding rows_of
rows-many [] at a all = refl
rows-many {numbers} {e} (d ∷ dies) at a all =
    ap length (rows-begin at a d dies (one_row d at a all.0))
    ∙ ap suc (rows-many dies (at + length (written_die numbers e d)) (a + length (die_attrs numbers e at d)) all.1)

-- a forest has as many rows as entries
pub forest-rows : {numbers : List ℕ} {e : Endian} {closed : Bool} {at : ℕ} {dies : List (Die numbers e)} → Forest numbers e closed at dies
    → length (rows_of numbers e at 0 dies) ≡ length dies
forest-rows {at = at} {dies} forest = rows-many dies at 0 (forest-rowed forest)

-- in a table that holds a forest's rows and attributes each row's reach ends behind the rows below it
pub table-spans : {s rows : List ℕ} {n : ℕ} (plain : Plain s rows n) (attrs : List ℕ) {numbers : List ℕ} {e : Endian} {closed : Bool}
    {dies : List (Die numbers e)} (forest : Forest numbers e closed 0 dies) → s ≡ written_dies numbers e dies → n ≡ length dies
    → rows_from rows 0 (length (rows_of numbers e 0 0 dies)) ≡ with_units (rows_of numbers e 0 0 dies)
    → attrs_from attrs 0 (length (attrs_of numbers e 0 dies)) ≡ attrs_of numbers e 0 dies
    → Spans (λ i. reach_end (lent_rows e s rows attrs n) i) (shape_of forest) 0
table-spans {s} {rows} {n} plain attrs {numbers} {e} {dies = dies} forest is many rows_held attrs_held =
    let all : From e s rows attrs n 0 0 dies = record {
      attr = 0;
      unit = no_unit;
      rowed = forest-rowed forest;
      rows_held = rows_held;
      attrs_held = attrs_held;
      stand = subst (λ (xs : List ℕ). Stands s 0 xs) is (all-stands s);
      last_row = omega arith;
      section_ends = omega (arith, ap length is);
    } in
    forest-spans plain attrs forest [] 0 (rw (append-nil dies) all)
