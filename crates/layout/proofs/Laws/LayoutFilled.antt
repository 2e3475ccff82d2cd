-- Where a layout is given, it is that of the key's row, and its members are there: as many as it says, their words one after the other at the front of the room,
-- and what lies behind is as it was.
use Rattle.std.specs.Prelude.{Ok}
use Rattle.format.specs.Said.{said}
use Prim.Native.Nat.{ℕ, ◌*◌, ◌/◌, ◌≤◌, ◌<◌}
use native.Mathlib.Omega.{arith}
use mathlib.Core.Path.{◌≡◌, refl, sym, ap, ◌∙◌, subst}
use mathlib.Core.Bool.{true}
use mathlib.Core.List.{List, [], ◌∷◌}
use lib.ListN.{length}
use lib.Seq.{sets}
use borrow.Author.Tests.{leb-true}
use Rattle.tables.specs.Table.{Table, table, lent_rows}
use Rattle.lent.proofs.Laws.Filled.{sets-filled}
use Rattle.lent.specs.Outcome.{Outcome, Given}
use Rattle.format.specs.Said.{Said, gives, ◌>>=◌}
use Rattle.format.proofs.Laws.Said.{room-given, fill-given}
use Rattle.format.specs.declared.settings.Settings.{Settings}
use Rattle.tables.specs.Row.{row_at}
use Rattle.tables.specs.declared.row.Counts.{Counts}
use Rattle.tables.specs.Keyed.{row_of}
use Rattle.tables.proofs.Laws.Keyed.{keyed-there, keyed-key}
use Rattle.sizes.specs.Size.{inner_size}
use Rattle.layout.specs.Layout.{Lay, row_lay, layout_of, layout_at, laid_words, laid_width, layout_into, layout_of_key}
use Rattle.layout.proofs.Laws.Layout.{words_long, fitting, into_room}
use Rattle.layout.specs.declared.one.Layout.{Layout}
use Rattle.layout.specs.LayoutFilled.{LayoutFilled}

module _ (settings : Settings) (vendors sizes s rows attrs : List ℕ) (counts : Counts) (key : ℕ) (room : List ℕ) where
  abbrev t : Table
  t = table s settings vendors sizes rows attrs counts

  abbrev laid_at : ℕ → Said Lay
  laid_at i = row_lay settings (lent_rows settings.endian s rows attrs counts.rows) (inner_size t) i

  abbrev whole : ℕ → Said Layout
  whole i = layout_at settings (lent_rows settings.endian s rows attrs counts.rows) (inner_size t) i

  abbrev whole_of : ℕ → Lay → Layout
  whole_of i l = layout_of settings (lent_rows settings.endian s rows attrs counts.rows) (inner_size t) i l

  abbrev into : ℕ → Outcome (Said Layout) ℕ
  into i = layout_into settings (lent_rows settings.endian s rows attrs counts.rows) (inner_size t) room i

  abbrev filling : ℕ → Lay → Outcome (Said Layout) ℕ
  filling i l = into_room settings s rows attrs counts.rows (inner_size t) i room l

  -- the key's row was laid out, and its members fit
  pub record Fits (x : Layout) (room' : List ℕ) : Type 0 where
    pub row : ℕ
    pub found : row_of t key ≡ gives row
    pub laid : Lay
    pub are : laid_at row ≡ gives laid
    pub same : x ≡ whole_of row laid
    pub room_enough : length laid.members ≤ length room / laid_width
    pub after : room' ≡ sets room 0 (laid_words laid.members)

  pub fits : {x : Layout} {room' : List ℕ} → Given (layout_of_key (table s settings vendors sizes rows attrs counts) key room) (gives x) room' → Fits x room'
  unfolding layout_of_key layout_into
  fits {x} {room'} g =
      let there : (i : ℕ) × (row_of t key ≡ gives i) × Given (into i) (gives x) room' = room-given room (row_of t key) into g in
      let i : ℕ = there.0 in
      let all : (l : Lay) × (laid_at i ≡ gives l) × Given (filling i l) (gives x) room' = room-given room (laid_at i) (filling i) there.2 in
      let l : Lay = all.0 in
      let full : (fitting room l ≡ true) × (x ≡ whole_of i l) × (room' ≡ sets room 0 (laid_words l.members)) =
      fill-given (fitting room l) (whole_of i l) (length l.members ∷ []) (laid_words l.members) room all.2
      in
      record {
        row = i;
        found = there.1;
        laid = l;
        are = all.1;
        same = full.1;
        room_enough = leb-true (length l.members) (length room / laid_width) full.0;
        after = full.2;
      }

  pub layout-filled : {x : Layout} {room' : List ℕ} → Given (layout_of_key (table s settings vendors sizes rows attrs counts) key room) (gives x) room'
      → LayoutFilled (table s settings vendors sizes rows attrs counts) key x room room'
  unfolding layout_at layout_of said ◌>>=◌
  layout-filled {x} {room'} g =
      let f : Fits x room' = fits g in
      let row_is : x.row ≡ f.row = ap (λ (y : Layout). y.row) f.same in
      let many : length f.laid.members ≡ x.members = sym (ap (λ (y : Layout). y.members) f.same) in
      let room_for : length f.laid.members ≤ length room / laid_width = f.room_enough in
      let enough : x.members * laid_width ≤ length room = omega arith in
      record {
        there = subst (λ (j : ℕ). j < counts.rows) (sym row_is) (keyed-there settings vendors sizes s rows attrs counts key {told = Ok f.row} (sym f.found) refl);
        key_is = ap (λ (j : ℕ). (row_at rows j).key) row_is ∙ keyed-key settings vendors sizes s rows attrs counts key {told = Ok f.row} (sym f.found) refl;
        layout_is = ap whole row_is ∙ ap (λ (d : Said Lay). d >>= λ l. gives (whole_of f.row l)) f.are ∙ ap gives (sym f.same);
        list = f.laid.members;
        largest = f.laid.largest;
        are = ap laid_at row_is ∙ f.are;
        many = many;
        filled = sets-filled (laid_words f.laid.members) (x.members * laid_width) room (words_long f.laid.members ∙ ap (λ (k : ℕ). k * laid_width) many) enough f.after;
      }
