-- Without ByteSize every member of a layout ends at or before its size: so say the members, and so say the words in the room.
use Rattle.std.specs.Prelude.{Option, Some, None}
use Prim.Native.Nat.{ℕ, zero, suc, ◌+◌, ◌*◌, ◌≤◌, ◌<◌}
use native.Mathlib.Nat.{le_refl, le_trans}
use native.Mathlib.Omega.{arith}
use mathlib.Core.Path.{◌≡◌, refl, sym, ap, ◌∙◌, subst}
use mathlib.Core.Bool.{Bool, true, false, true≢false}
use mathlib.Core.List.{List, [], ◌∷◌}
use lib.ListN.{length, get_or}
use lib.Seq.{get_or-take}
use lib.Dec.{leb}
use borrow.Author.Tests.{leb-true, leb-false}
use Rattle.tables.specs.Table.{table, lent_rows}
use Rattle.lent.specs.Outcome.{Given}
use Rattle.numbers.proofs.Laws.Tests.{cond-all}
use Rattle.format.specs.Said.{Said, gives, refuses, must, ◌>>=◌, ◌>>◌}
use Rattle.format.proofs.Laws.Said.{Of, of-next, of_test, given_is}
use Rattle.format.specs.declared.settings.Settings.{Settings}
use Rattle.format.specs.declared.refusal.Reason.TheVariants as reason
use Rattle.blocks.specs.declared.types.Type.{«Type»}
use Rattle.tables.specs.Row.{row_at}
use Rattle.tables.specs.declared.row.Counts.{Counts}
use Rattle.records.specs.Unions.{RowMember}
use Rattle.sizes.specs.Size.{inner_size, size_limit, members_of, member_size, larger, with_end, shape_of, is_structure}
use Rattle.layout.specs.Layout.{Laid, Lay, lay, laid_member, end_or, laid_from, has_byte_size, size_or_largest, own_size, row_lay, layout_of, layout_at, laid_words, laid_width, layout_of_key}
use Rattle.layout.specs.LayoutFilled.{LayoutFilled}
use Rattle.layout.proofs.Laws.Layout.{LaidAs, laid_as}
use Rattle.layout.proofs.Laws.LayoutFilled.{layout-filled}
use Rattle.layout.specs.declared.one.Layout.{Layout}
use Rattle.layout.specs.LayoutEnds.{EndInside}

-- ---- member by member

abbrev Inside : ℕ → Lay → Type 0
Inside largest l = (largest ≤ l.largest) × EndInside l.largest l.members

larger-first : (a b : ℕ) → a ≤ larger a b
unfolding larger
larger-first a b = cond-all (λ (z : ℕ). a ≤ z) (leb a b) (λ t. leb-true a b t) (λ t. le_refl a)

larger-second : (a b : ℕ) → b ≤ larger a b
unfolding larger
larger-second a b =
    cond-all (λ (z : ℕ). b ≤ z) (leb a b) (λ t. le_refl b)
    (λ t.
    let less : b < a = leb-false a b t in
    omega arith)

-- a member, and those after it
and-inside : (x : Laid) (largest next : ℕ) (d : Said Lay) → largest ≤ next → x.offset + x.size ≤ next → Of (Inside next) d
    → Of (Inside largest) (d >>= λ l. gives (lay (x ∷ l.members) l.largest))
unfolding EndInside ◌>>=◌
and-inside x largest next (gives l) a b h = (le_trans a h.0, (le_trans b h.0, h.1))
and-inside x largest next (refuses number place counts) a b h = tt

-- an end, then what goes on from it
end_by : (P : Lay → Type 0) (key y : ℕ) (b : Bool) (next : ℕ → Said Lay) → Of P (next y) → Of P ((must b reason.Big key >> gives y) >>= next)
unfolding must ◌>>◌ ◌>>=◌
end_by P key y true next h = h
end_by P key y false next h = tt

end-inside : (P : Lay → Type 0) (key largest end : ℕ) (next : ℕ → Said Lay) → Of P (next (larger largest end)) → Of P (end_or false key largest end >>= next)
unfolding end_or with_end
end-inside P key largest end next h = end_by P key (larger largest end) (leb end size_limit) next h

module _ (rows : List ℕ) (size_of : «Type» → Said ℕ) where
  from-inside : (largest : ℕ) (ms : List RowMember) → Of (Inside largest) (laid_from rows size_of false largest ms)
  unfolding laid_from laid_member EndInside
  from-inside largest [] = (le_refl largest, tt)
  from-inside largest (m ∷ ms) =
      of-next (Inside largest) (member_size size_of m) _
      (λ size.
      let end : ℕ = m.member.offset + size in
      end-inside (Inside largest) (row_at rows m.row).key largest end _
      (and-inside (laid_member m size) largest (larger largest end) (laid_from rows size_of false (larger largest end) ms) (larger-first largest end) (larger-second largest end)
      (from-inside (larger largest end) ms)))

-- ---- a row

module _ (settings : Settings) (s rows attrs : List ℕ) (n : ℕ) (size_of : «Type» → Said ℕ) (i : ℕ) (unbounded : has_byte_size (own_size settings s rows attrs i) ≡ false) where
  row_inside : Of (Inside 0) (row_lay settings (lent_rows settings.endian s rows attrs n) size_of i)
  unfolding row_lay
  row_inside =
      of_test (Inside 0) (is_structure (shape_of (row_at rows i).kind)) reason.Kind (row_at rows i).key _
      (λ t. of-next (Inside 0) (members_of settings (lent_rows settings.endian s rows attrs n) i) _
      (λ ms. subst (λ (b : Bool). Of (Inside 0) (laid_from rows size_of b 0 ms)) (sym unbounded) (from-inside rows size_of 0 ms)))

  -- every member ends at or before the largest end
  pub members-inside : {xs : List Laid} {largest : ℕ} → row_lay settings (lent_rows settings.endian s rows attrs n) size_of i ≡ gives (lay xs largest) → EndInside largest xs
  members-inside p = (subst (Of (Inside 0)) p row_inside).1

  -- which is the size
  largest_size : (w : (Option ℕ)) (largest : ℕ) → has_byte_size w ≡ false → size_or_largest largest w ≡ largest
  unfolding has_byte_size size_or_largest
  largest_size (Some size) largest t = absurd (true≢false t)
  largest_size None largest t = refl

  pub layout-inside : {x : Layout} → layout_at settings (lent_rows settings.endian s rows attrs n) size_of i ≡ gives x
      → {xs : List Laid} {largest : ℕ} → row_lay settings (lent_rows settings.endian s rows attrs n) size_of i ≡ gives (lay xs largest) → EndInside x.size xs
  unfolding layout_of
  layout-inside {x} p {xs} {largest} q =
      let own : (Option ℕ) = own_size settings s rows attrs i in
      let these : LaidAs (row_lay settings (lent_rows settings.endian s rows attrs n) size_of i) (layout_of settings (lent_rows settings.endian s rows attrs n) size_of i) x = laid_as settings s rows attrs n size_of i p in
      let size_is : largest ≡ x.size =
      sym (largest_size own largest unbounded)
      ∙ ap (λ (l : Lay). size_or_largest l.largest own) (given_is (sym q ∙ these.are))
      ∙ ap (λ (y : Layout). y.size) these.same
      in
      subst (λ (k : ℕ). EndInside k xs) size_is (members-inside q)

-- ---- the words in the room

words_inside : (size : ℕ) (xs : List Laid) → EndInside size xs → (k : ℕ) → k < length xs
    → get_or (laid_words xs) (k * laid_width) 0 + get_or (laid_words xs) (k * laid_width + 1) 0 ≤ size
unfolding laid_words EndInside
words_inside size [] h k l = absurd (omega arith)
words_inside size (x ∷ xs) h zero l = h.0
words_inside size (x ∷ xs) h (suc k) l =
    let at : suc k * laid_width ≡ suc (suc (suc (suc (k * laid_width)))) = omega arith in
    let next : suc (suc (suc (suc (k * laid_width)))) + 1 ≡ suc (suc (suc (suc (k * laid_width + 1)))) = omega arith in
    let less : k < length xs = omega arith in
    rw (at, next) (words_inside size xs h.1 k less)

module _ (settings : Settings) (vendors sizes s rows attrs : List ℕ) (counts : Counts) (key : ℕ) (room : List ℕ) {room' : List ℕ} {x : Layout}
    (g : Given (layout_of_key (table s settings vendors sizes rows attrs counts) key room) (gives x) room') where
  -- member k of the room: offset and size come to the layout's size at most
  pub given_inside : has_byte_size (own_size settings s rows attrs x.row) ≡ false
      → (k : ℕ) → k < x.members → get_or room' (k * laid_width) 0 + get_or room' (k * laid_width + 1) 0 ≤ x.size
  given_inside unbounded k l =
      let f : LayoutFilled (table s settings vendors sizes rows attrs counts) key x room room' = layout-filled settings vendors sizes s rows attrs counts key room g in
      let many : length f.list ≡ x.members = f.many in
      let ends : EndInside x.size f.list = layout-inside settings s rows attrs counts.rows (inner_size (table s settings vendors sizes rows attrs counts)) x.row unbounded f.layout_is f.are in
      let same : (j : ℕ) → j < x.members * laid_width → get_or (laid_words f.list) j 0 ≡ get_or room' j 0 =
      λ j h. ap (λ (t : List ℕ). get_or t j 0) (sym f.filled.front) ∙ get_or-take (x.members * laid_width) room' j 0 h in
      let words : get_or (laid_words f.list) (k * laid_width) 0 + get_or (laid_words f.list) (k * laid_width + 1) 0 ≤ x.size =
      words_inside x.size f.list ends k (omega arith) in
      let first : get_or (laid_words f.list) (k * laid_width) 0 ≡ get_or room' (k * laid_width) 0 = same (k * laid_width) (omega arith) in
      let second : get_or (laid_words f.list) (k * laid_width + 1) 0 ≡ get_or room' (k * laid_width + 1) 0 = same (k * laid_width + 1) (omega arith) in
      omega arith
