-- What follows from `Report`, for each way that the code takes.
use Rattle.format.proofs.Laws.Said.{room-gave, fill-gave}
use Rattle.std.specs.Prelude.{Result, Err}
use Prim.Native.Nat.{ℕ, ◌*◌, ◌^◌, ◌≤◌, ◌<◌}
use mathlib.Core.Path.{◌≡◌, sym, ap, subst, ◌∙◌}
use mathlib.Core.List.{List, []}
use lib.ListN.{length}
use native.Mathlib.Omega.{arith}
use Rattle.lent.specs.Outcome.{Outcome, Given, BothGiven}
use Rattle.tables.specs.Table.{table, lent_rows}
use Rattle.tables.specs.Tests.{test_table}
use Rattle.tables.specs.Row.{row_width}
use Rattle.tables.proofs.Laws.Holds.{fits_all}
use Rattle.entries.proofs.Laws.Filled.{answer-read}
use Rattle.format.specs.Refusal.{number_of}
use Rattle.format.specs.Said.{Said, gives}
use Rattle.format.specs.declared.refusal.Refusal.{Refusal}
use Rattle.tables.specs.declared.row.Counts.{Counts}
use Rattle.tree.specs.Reach.{reach_end}
use Rattle.tree.specs.Tree.{tree_tests, listing_of, list_tree}
use Rattle.listing.specs.Text.{refusal_text, listing_text}
use Rattle.digits.specs.Put.{Put}
use Rattle.listing.specs.Text.{Printed}
use Rattle.listing.proofs.Laws.Page.{refusal-printed}
use Rattle.listing.specs.Report.{listing_settings, listing_sizes, row_room, attr_room, place_room, listing_read, listing_tree, answer_text, tree_text, report_text}
use Rattle.listing.specs.Inside.Report.{FewRead, FewListed}

-- a text that is the same is printed the same
same-printed : {s t : List ℕ} {r : ℕ} {a b : List ℕ} → s ≡ t → Printed s r a b → Printed t r a b
same-printed {s} {t} {r} {a} {b} e f = subst (λ (u : List ℕ). Printed u r a b) e f

pub refusal-reported : (why : Refusal) {n r : ℕ} {a b : List ℕ} → n ≡ number_of why.reason → n < 2 ^ 32 → Put (refusal_text n why.place) 0 r a b
    → Printed (refusal_text (number_of why.reason) why.place) r a b
refusal-reported why {n} e h f = same-printed (rw e) (refusal-printed n why.place h f)

-- ---- what an answer says

-- by its case
pub case-printed : {E A : Type 0} (said : E → Said A) (text : A → List ℕ) {answer x : E} {r : ℕ} {a b : List ℕ} → answer ≡ x
    → Printed (answer_text text (said x)) r a b → Printed (answer_text text (said answer)) r a b
case-printed said text {r = r} {a} {b} e f = subst (λ (d : Said _). Printed (answer_text text d) r a b) (ap said (sym e)) f

pub error-printed : {E A : Type 0} (said : Result A E → Said A) (text : A → List ℕ) {answer : Result A E} {why x : E} {r : ℕ} {a b : List ℕ} → answer ≡ Err why
    → why ≡ x
    → Printed (answer_text text (said (Err x))) r a b → Printed (answer_text text (said answer)) r a b
error-printed said text e k f = case-printed said text (e ∙ ap Err k) f

pub tree-printed : (s rows attrs : List ℕ) (counts : Counts) {answer : Said ℕ} {room : List ℕ} {r : ℕ} {a b : List ℕ}
    → Given (listing_tree s rows attrs counts place_room) answer room → Printed (answer_text (listing_text rows room) answer) r a b
    → Printed (tree_text s rows attrs counts) r a b
unfolding tree_text
tree-printed s rows attrs counts g f = rw (← g.room_is, ← g.answer_is) f

pub section-reported : (s : List ℕ) {answer : Said Counts} {rows attrs : List ℕ} {r : ℕ} {a b : List ℕ}
    → BothGiven (listing_read s row_room attr_room) answer rows attrs
    → Printed (answer_text (tree_text s rows attrs) answer) r a b → Printed (report_text s) r a b
unfolding report_text
section-reported s g f = rw (← g.first_is, ← g.second_is, ← g.answer_is) f

-- ---- no more rows are read than the tables have room for

pub read-few : (s rows attrs : List ℕ) (c : Counts) → length rows ≡ 1024 * row_width → (listing_read s rows attrs).answer ≡ gives c → c.rows ≤ 1024
read-few s rows attrs c long h =
    let lent : c.rows * row_width ≤ length rows =
    (fits_all c (length rows) (length attrs) (answer-read listing_settings [] listing_sizes s rows attrs c h).fits).rows_lent
    in
    omega arith

pub few-read : (s rows attrs rows' attrs' : List ℕ) {answer : Said Counts} → length rows ≡ 1024 * row_width
    → BothGiven (listing_read s rows attrs) answer rows' attrs' → FewRead answer
few-read s rows attrs rows' attrs' long g = record { few = λ c e. read-few s rows attrs c long (sym g.answer_is ∙ e) }

-- ---- and no more are listed than were read

module _ (counts : Counts) where
  -- an outcome that lists rows lists all that were counted
  abbrev ListsAll : Outcome (Said ℕ) ℕ → Type 0
  ListsAll o = (n : ℕ) → o.answer ≡ gives n → n ≡ counts.rows

  listed-all : (rows : List ℕ) (reach : ℕ → ℕ) (room : List ℕ) → ListsAll (listing_of rows counts.rows reach room)
  unfolding listing_of
  listed-all rows reach room =
      λ n e. sym (fill-gave _ counts.rows _ _ room (room-gave room (tree_tests rows counts.rows reach) _ e).2).1

  pub tree_lists : (s rows attrs room : List ℕ) → ListsAll (listing_tree s rows attrs counts room)
  unfolding list_tree
  tree_lists s rows attrs room =
      λ n e. listed-all rows (λ i. reach_end (lent_rows listing_settings.endian s rows attrs counts.rows) i) room n
      (room-gave room (test_table (table s listing_settings [] listing_sizes rows attrs counts)) _ e).2

pub few-listed : (s rows attrs room room' : List ℕ) (counts : Counts) {answer : Said ℕ} → counts.rows ≤ 1024
    → Given (listing_tree s rows attrs counts room) answer room' → FewListed answer
few-listed s rows attrs room room' counts few g =
    record { few = λ n e. (let all : n ≡ counts.rows = tree_lists counts s rows attrs room n (sym g.answer_is ∙ e) in omega arith) }
