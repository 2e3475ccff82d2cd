-- Where all layouts are given, they are those of all structures and classes: their words one after the other at the front of the one room, their members' words
-- at the front of the other, and what lies behind is as it was. So structure k's words stand at k times eight, and its members' words at its first member's number
-- times four.
use Prim.Native.Nat.{ℕ, ◌+◌, ◌*◌, ◌/◌, ◌≤◌, ◌<◌}
use native.Mathlib.Nat.{zero-add}
use native.Mathlib.Omega.{arith}
use mathlib.Core.Path.{◌≡◌, refl, sym, ap, ◌∙◌}
use mathlib.Core.Bool.{Bool, true, false, ◌&&◌}
use mathlib.Core.List.{List, [], ◌∷◌, ◌++◌, append_assoc}
use lib.ListN.{length, get_or, take, drop, take-append-drop, get_or-append}
use lib.Seq.{sets, get_or-append-add}
use lib.Dec.{leb}
use borrow.Author.Tests.{leb-true}
use Rattle.tables.specs.Table.{Table, table, lent_rows}
use Rattle.lent.proofs.Laws.Filled.{sets-filled}
use Rattle.lent.specs.Outcome.{Outcomes, BothGiven}
use Rattle.format.specs.Said.{Said, gives, refuses, in_rooms, fills_rooms}
use Rattle.format.proofs.Laws.Said.{given_is, given-refused}
use Rattle.format.specs.declared.settings.Settings.{Settings}
use Rattle.tables.specs.Tests.{test_table}
use Rattle.tables.proofs.Laws.Holds.{both}
use Rattle.tables.specs.declared.row.Counts.{Counts}
use Rattle.sizes.specs.Size.{inner_size}
use Rattle.layout.specs.Layout.{laid_words, laid_width}
use Rattle.layout.proofs.Laws.Layout.{words_long}
use Rattle.layout.specs.All.{Structure, structures_from, answer_words, structure_width, structure_words, all_member_words, member_count, counts_of, layouts_into, all_layouts}
use Rattle.layout.proofs.Laws.All.{structure-append, structure-long, answer-long, member-append, member-long}
use Rattle.layout.specs.declared.all.LayoutCounts.{LayoutCounts}
use Rattle.layout.specs.AllFilled.{AllFilled}

-- ---- one structure's words

-- what stands in the middle of the front of a room
words-in : (room : List ℕ) (end : ℕ) (before words after : List ℕ) → take end room ≡ before ++ (words ++ after)
    → (at : ℕ) → length before ≡ at → (j : ℕ) → j < length words → get_or room (at + j) 0 ≡ get_or words j 0
words-in room end before words after p at q j l =
    ap (λ (t : List ℕ). get_or t (at + j) 0)
    (sym (take-append-drop end room) ∙ ap (λ (t : List ℕ). t ++ drop end room) p ∙ append_assoc before (words ++ after) (drop end room))
    ∙ ap (λ (k : ℕ). get_or (before ++ ((words ++ after) ++ drop end room)) (k + j) 0) (sym q)
    ∙ get_or-append-add before ((words ++ after) ++ drop end room) j 0
    ∙ ap (λ (t : List ℕ). get_or t j 0) (append_assoc words after (drop end room))
    ∙ get_or-append words (after ++ drop end room) 0 j l

module _ {xs : List Structure} {many : LayoutCounts} {structures structures' room room' : List ℕ} (f : AllFilled xs many structures structures' room room')
    (before : List Structure) (x : Structure) (after : List Structure) (these : xs ≡ before ++ x ∷ after) where
  -- word j of the structure that has so many before it
  pub structure-word : (j : ℕ) → j < structure_width
      → get_or structures' (length before * structure_width + j) 0 ≡ get_or (answer_words x.row x.name (member_count before) x.answer) j 0
  unfolding structure_words
  structure-word j l =
      let long : length (answer_words x.row x.name (member_count before) x.answer) ≡ structure_width = answer-long x.row (member_count before) x.name x.answer in
      words-in structures' (length xs * structure_width) (structure_words 0 before) (answer_words x.row x.name (member_count before) x.answer)
      (structure_words (member_count before + length x.members) after)
      (f.structures_filled.front ∙ ap (structure_words 0) these ∙ structure-append 0 before (x ∷ after)
      ∙ ap (λ (k : ℕ). structure_words 0 before ++ structure_words k (x ∷ after)) (zero-add (member_count before)))
      (length before * structure_width) (structure-long 0 before) j (omega arith)

  -- word j of its members, which come after those of the structures before it
  pub member-word : (j : ℕ) → j < length x.members * laid_width → get_or room' (member_count before * laid_width + j) 0 ≡ get_or (laid_words x.members) j 0
  unfolding all_member_words
  member-word j l =
      let long : length (laid_words x.members) ≡ length x.members * laid_width = words_long x.members in
      words-in room' (member_count xs * laid_width) (all_member_words before) (laid_words x.members) (all_member_words after)
      (f.members_filled.front ∙ ap all_member_words these ∙ member-append before (x ∷ after)) (member_count before * laid_width) (member-long before) j (omega arith)

-- ---- what is noted where a call with two rooms gave an answer

rooms-given : {A B E F : Type 0} (first : List E) (second : List F) (d : Said A) (next : A → Outcomes (Said B) E F) {y : B} {one : List E} {two : List F}
    → BothGiven (in_rooms first second d next) (gives y) one two → (x : A) × (d ≡ gives x) × BothGiven (next x) (gives y) one two
unfolding in_rooms
rooms-given first second (gives x) next g = (x, refl, g)
rooms-given first second (refuses number place counts) next g = absurd (given-refused g.answer_is)

fills-given : {A E F : Type 0} (fits : Bool) (answer : A) (counts : List ℕ) (words : List E) (others : List F) (first : List E) (second : List F) {y : A}
    {one : List E} {two : List F} → BothGiven (fills_rooms fits answer counts words others first second) (gives y) one two
    → (fits ≡ true) × (y ≡ answer) × (one ≡ sets first 0 words) × (two ≡ sets second 0 others)
unfolding fills_rooms
fills-given true answer counts words others first second g = (refl, given_is g.answer_is, g.first_is, g.second_is)
fills-given false answer counts words others first second g = absurd (given-refused g.answer_is)

-- ---- what the rooms hold

into-filled : (structures room : List ℕ) (xs : List Structure) {many : LayoutCounts} {structures' room' : List ℕ}
    → BothGiven (layouts_into structures room xs) (gives many) structures' room' → AllFilled xs many structures structures' room room'
unfolding layouts_into
into-filled structures room xs {many} {structures'} {room'} g =
    let listed : Bool = leb (length xs) (length structures / structure_width) in
    let laid : Bool = leb (member_count xs) (length room / laid_width) in
    let these : ((listed && laid) ≡ true) × (many ≡ counts_of xs) × (structures' ≡ sets structures 0 (structure_words 0 xs)) × (room' ≡ sets room 0 (all_member_words xs)) =
    fills-given (listed && laid) (counts_of xs) (length xs ∷ member_count xs ∷ []) (structure_words 0 xs) (all_member_words xs) structures room g
    in
    let fit : (listed ≡ true) × (laid ≡ true) = both listed laid these.0 in
    let some : length xs ≤ length structures / structure_width = leb-true (length xs) (length structures / structure_width) fit.0 in
    let more : member_count xs ≤ length room / laid_width = leb-true (member_count xs) (length room / laid_width) fit.1 in
    let structures-end : length xs * structure_width ≤ length structures = omega arith in
    let members-end : member_count xs * laid_width ≤ length room = omega arith in
    record {
      counts_are = these.1;
      structures_filled = sets-filled (structure_words 0 xs) (length xs * structure_width) structures (structure-long 0 xs) structures-end these.2;
      members_filled = sets-filled (all_member_words xs) (member_count xs * laid_width) room (member-long xs) members-end these.3;
    }

-- ---- the theorem

module _ (settings : Settings) (vendors sizes s rows attrs : List ℕ) (counts : Counts) (structures room : List ℕ) where
  abbrev t : Table
  t = table s settings vendors sizes rows attrs counts

  abbrev all : List Structure
  all = structures_from settings (lent_rows settings.endian s rows attrs counts.rows) (inner_size t) 0 counts.rows

  pub all-filled : {many : LayoutCounts} {structures' room' : List ℕ}
      → BothGiven (all_layouts (table s settings vendors sizes rows attrs counts) structures room) (gives many) structures' room'
      → AllFilled (structures_from settings (lent_rows settings.endian s rows attrs counts.rows) (inner_size (table s settings vendors sizes rows attrs counts)) 0 counts.rows) many structures structures' room room'
  unfolding all_layouts
  all-filled g = into-filled structures room all (rooms-given structures room (test_table t) (λ passed. layouts_into structures room all) g).2
