-- The converse of `Wanted`: a field that could not be read or is not known, where every field before it was read, refuses the entry by that number, at the
-- entry's key, with that byte. So the fields of `Wants` are all that there are, and no two bytes fit one refusal.
use Prim.Native.Nat.{ℕ, zero, suc, ◌+◌, ◌≤◌, ◌<◌}
use native.Mathlib.Omega.{arith}
use Rattle.std.specs.Prelude.{Result, Ok, Err}
use mathlib.Core.Path.{◌≡◌, refl, ap, ◌∙◌}
use mathlib.Core.Bool.{Bool, true, false}
use mathlib.Core.List.{List, [], ◌∷◌}
use lib.ListN.{length}
use lib.Dec.{ltb}
use borrow.Author.Tests.{lt-leb, le-ltb, ne_eqb, ltb-true}
use Rattle.numbers.specs.Value.{value_of, there, read_at}
use Rattle.numbers.specs.declared.Endian.{Endian}
use Rattle.numbers.proofs.Laws.Written.{inside-there}
use Rattle.format.specs.Limits.{section_limit}
use Rattle.format.specs.Lookup.{is_on}
use Rattle.format.specs.Known.{known}
use Rattle.format.specs.FormKind.{form_of}
use Rattle.format.specs.TagKind.{tags}
use Rattle.format.specs.TagKind as tag
use Rattle.format.specs.Refusal.{number_of}
use Rattle.format.specs.Said.{gives, refuses, unread, ◌>>=◌}
use Rattle.format.specs.declared.form_kind.FormKind.{FormKind}
use Rattle.format.specs.declared.form_kind.FormKind.TheVariants.{String}
use Rattle.format.specs.declared.refusal.Reason.TheVariants as reason
use Rattle.attributes.specs.Text.{zero_from}
use Rattle.attributes.specs.End.{fixed_end, block_end, text_end, value_end}
use Rattle.attributes.specs.Read.{ending, numbered, read_attribute}
use Rattle.attributes.specs.declared.value.Unread.TheVariants as missing
use Rattle.attributes.proofs.Laws.Text.{zero-after, first-zero}
use Rattle.entries.specs.Source.{Source}
use Rattle.entries.specs.Head.{headless, tag_head, size_head, head_at}
use Rattle.entries.specs.Entry.{root_endian, attributes, entry_from, read_entry}
use Rattle.entries.specs.Wanted.{NotThere, NoZero, OneField, address, reference, data2, data4, data8, TwoFields, block2, block4, SizeRead, TagRead, IsRoot, ReadAs, as_ordinary, as_root, ReadUpTo, none_yet, one_more, AttributeAt, NumberRead, Wants, no_size, no_tag, unknown_tag, no_look, no_number, unknown_number, no_value, no_zero, no_length, no_bytes}
use Rattle.entries.specs.declared.entry.Mode.{Mode}
use Rattle.entries.specs.declared.head.Head.{Head}
use Rattle.entries.specs.declared.head.Head.TheVariants as head
use Rattle.entries.specs.Inside.Promise.{said_read, unread_at}
use Rattle.entries.proofs.Laws.Run.{Loop, begin, again, failed}
use Rattle.entries.proofs.Laws.Entry.{told-failed}
use Rattle.entries.proofs.Laws.KnownRun.{by-test}
use Rattle.entries.specs.declared.head.HeadError.{HeadError}

is_cut : (s : List ℕ) (at w : ℕ) → NotThere s at w → there s at w ≡ false
unfolding there
is_cut s at w h = lt-leb (at + w) (length s) h

-- ---- a value's fields

module _ (e : Endian) (s : List ℕ) (at : ℕ) where
  one-short : {form : FormKind} {w : ℕ} → OneField form w → NotThere s at w → value_end form e s at ≡ Err (missing.Short at)
  unfolding value_end fixed_end
  one-short address h = rw (is_cut s at 4 h)
  one-short reference h = rw (is_cut s at 4 h)
  one-short data2 h = rw (is_cut s at 2 h)
  one-short data4 h = rw (is_cut s at 4 h)
  one-short data8 h = rw (is_cut s at 8 h)

  length-short : {form : FormKind} {w : ℕ} → TwoFields form w → NotThere s at w → value_end form e s at ≡ Err (missing.Short at)
  unfolding value_end block_end read_at
  length-short block2 h = rw (is_cut s at 2 h)
  length-short block4 h = rw (is_cut s at 4 h)

  bytes-short : {form : FormKind} {w : ℕ} → TwoFields form w → at + w ≤ length s → NotThere s (at + w) (value_of e w s at)
      → value_end form e s at ≡ Err (missing.Short (at + w))
  unfolding value_end block_end fixed_end read_at
  bytes-short block2 k h = rw (inside-there s at 2 k, is_cut s (at + 2) (value_of e 2 s at) h)
  bytes-short block4 k h = rw (inside-there s at 4 k, is_cut s (at + 4) (value_of e 4 s at) h)

  text-short : NoZero s at → value_end String e s at ≡ Err (missing.Short at)
  unfolding value_end text_end
  text-short none =
      by-test (ltb (zero_from s at) (length s))
      (λ t.
      let found : zero_from s at < length s = ltb-true (zero_from s at) (length s) t in
      absurd (none (zero_from s at) (zero-after s at refl) found (first-zero s (length s) at (omega arith) found).here))
      (λ t. rw t)

-- ---- an entry's fields

-- the tag of an entry whose attributes are read is there
pub here_of : {r : Source} {erased : Bool} {levels : ℕ} {m : Mode} {key : ℕ} {root : Bool} {e : Endian} → ReadAs r erased levels m key root e
    → key + 6 ≤ length r.section
here_of (as_ordinary t k) = t.tag_there
here_of (as_root root p) = root.tagged.tag_there

module _ (r : Source) (erased : Bool) (levels : ℕ) (m : Mode) (key : ℕ) (small : length r.section < section_limit) where
  abbrev stop : ℕ
  stop = key + value_of m.endian 4 r.section key

  -- what it begins with
  module _ (sized : SizeRead r erased levels m key) where
    sized-head : head_at erased r.section m.endian key ≡ read_at (tag_head erased stop (key + 4)) (headless reason.Short (key + 4)) m.endian 2 r.section (key + 4)
    unfolding head_at size_head read_at
    sized-head = rw (inside-there r.section key 4 sized.size_there, le-ltb (value_of m.endian 4 r.section key) 8 sized.long)

    tagged-head : key + 6 ≤ length r.section → head_at erased r.section m.endian key ≡ tag_head erased stop (key + 4) (value_of m.endian 2 r.section (key + 4))
    unfolding read_at
    tagged-head h = sized-head ∙ rw (inside-there r.section (key + 4) 2 (omega arith))

    untagged-head : NotThere r.section (key + 4) 2 → head_at erased r.section m.endian key ≡ headless reason.Short (key + 4)
    unfolding read_at
    untagged-head h = sized-head ∙ rw (is_cut r.section (key + 4) 2 h)

  unsized-head : NotThere r.section key 4 → head_at erased r.section m.endian key ≡ headless reason.Short key
  unfolding head_at read_at
  unsized-head h = rw (is_cut r.section key 4 h)

  unknown-head : SizeRead r erased levels m key → key + 6 ≤ length r.section → is_on (value_of m.endian 2 r.section (key + 4)) tags ≡ false
      → head_at erased r.section m.endian key ≡ headless reason.Tag (key + 4)
  unfolding tag_head
  unknown-head sized h k = tagged-head sized h ∙ rw k

  ordinary-head : {kind : ℕ} → TagRead r erased levels m key kind → (kind ≡ tag.padding → ⊥) → head_at erased r.section m.endian key ≡ Ok (head.Ordinary kind stop)
  unfolding tag_head
  ordinary-head {kind} t k =
      tagged-head t.sized t.tag_there ∙ ap (tag_head erased stop (key + 4)) t.kind_is ∙ rw (t.tag_known, ne_eqb kind tag.padding k)

  root-head : IsRoot r erased levels m key → head_at erased r.section m.endian key ≡ Ok (head.Root stop)
  unfolding tag_head
  root-head root =
      let t = root.tagged in
      tagged-head t.sized t.tag_there ∙ ap (tag_head erased stop (key + 4)) t.kind_is ∙ rw (t.tag_known, root.flag_on)

  -- by its head
  by-head : (a : ℕ) {h : Result Head HeadError} → head_at erased r.section m.endian key ≡ h → read_entry r erased levels m key a ≡ entry_from r levels m key a h
  unfolding read_entry
  by-head a p = ap (entry_from r levels m key a) p

  -- attributes that were read are so many turns of the code
  record Turns (root : Bool) (e : Endian) (high : Bool) (at : ℕ) : Type 0 where
    table : List ℕ
    count : ℕ
    loop : Loop r.vendors r.global r.section e root stop (key + 6) 0 [] table at count high

  turns : {root : Bool} {e : Endian} {high : Bool} {at : ℕ} → key + 6 ≤ length r.section → ReadUpTo r erased levels m key root e high at → Turns root e high at
  turns h none_yet = record { table = []; count = 0; loop = begin _ _ _ _ _ _ [] (record { small = small; here = h; few = omega arith }) }
  turns h (one_more before on p) =
      let t = turns h before in
      record { table = _; count = t.count + 1; loop = again _ _ _ _ _ _ t.loop on.before_end on.not_ended p refl }

  -- an attribute that could not be read refuses them, told at the entry's key
  module _ {e : Endian} {at : ℕ} (h : key + 6 ≤ length r.section) (a : AttributeAt r erased levels m key e at) where
    cut-run : {field : ℕ} → read_attribute r.vendors e r.section at ≡ Err (missing.Short field)
        → attributes r e a.root stop key ≡ unread reason.Short key field
    unfolding attributes said_read unread_at
    cut-run {field} p =
        let t = turns h a.read_before in
        told-failed _ 0 (missing.Short field) (failed _ _ _ _ _ _ t.loop a.goes_on.before_end a.goes_on.not_ended p refl).answer refl key

    unknown-run : {field : ℕ} → read_attribute r.vendors e r.section at ≡ Err (missing.Unknown field)
        → attributes r e a.root stop key ≡ unread reason.Attribute key field
    unfolding attributes said_read unread_at
    unknown-run {field} p =
        let t = turns h a.read_before in
        told-failed _ 0 (missing.Unknown field) (failed _ _ _ _ _ _ t.loop a.goes_on.before_end a.goes_on.not_ended p refl).answer refl key

  -- and the entry
  root-refused : (allowed a : ℕ) {e : Endian} {n byte : ℕ} → 0 < allowed → root_endian r.vendors r.section m.erased m.endian key ≡ gives e
      → attributes r e true stop key ≡ refuses n key (byte ∷ []) → entry_from r allowed m key a (Ok (head.Root stop)) ≡ refuses n key (byte ∷ [])
  unfolding entry_from ◌>>=◌
  root-refused zero a l p q = absurd (omega arith)
  root-refused (suc k) a l p q = rw (p, q)

  ordinary-refused : (kind a : ℕ) {n byte : ℕ} → attributes r m.endian false stop key ≡ refuses n key (byte ∷ [])
      → entry_from r levels m key a (Ok (head.Ordinary kind stop)) ≡ refuses n key (byte ∷ [])
  unfolding entry_from ◌>>=◌
  ordinary-refused kind a q = rw q

  run-refused : {root : Bool} {e : Endian} (a : ℕ) {n byte : ℕ} → ReadAs r erased levels m key root e → attributes r e root stop key ≡ refuses n key (byte ∷ [])
      → read_entry r erased levels m key a ≡ refuses n key (byte ∷ [])
  run-refused a (as_ordinary {kind} t k) q = by-head a (ordinary-head t k) ∙ ordinary-refused kind a q
  run-refused a (as_root root p) q = by-head a (root-head root) ∙ root-refused levels a root.level_left p q

  look-refused : (allowed a : ℕ) → 0 < allowed → m.erased ≡ false → NotThere r.section (key + 6) 2
      → entry_from r allowed m key a (Ok (head.Root stop)) ≡ unread reason.Short key (key + 6)
  unfolding entry_from root_endian read_at ◌>>=◌
  look-refused zero a l p h = absurd (omega arith)
  look-refused (suc k) a l p h = rw (p, is_cut r.section (key + 6) 2 h)

  -- ---- an attribute's fields

  module _ (e : Endian) (at : ℕ) where
    number_cut : NotThere r.section at 2 → read_attribute r.vendors e r.section at ≡ Err (missing.Short at)
    unfolding read_attribute read_at
    number_cut h = rw (is_cut r.section at 2 h)

    number-unknown : at + 2 ≤ length r.section → known r.vendors (value_of e 2 r.section at) ≡ false
        → read_attribute r.vendors e r.section at ≡ Err (missing.Unknown at)
    unfolding read_attribute numbered read_at
    number-unknown h k = rw (inside-there r.section at 2 h, k)

    value-cut : {n field : ℕ} → NumberRead r erased levels m key e at n → value_end (form_of n) e r.section (at + 2) ≡ Err (missing.Short field)
        → read_attribute r.vendors e r.section at ≡ Err (missing.Short field)
    unfolding read_attribute numbered read_at ending
    value-cut h p = rw (inside-there r.section at 2 h.number_there, h.number_is, h.number_known, p)

  -- the theorem
  pub wants-refused : {n byte : ℕ} → Wants r erased levels m key n byte → (a : ℕ) → read_entry r erased levels m key a ≡ refuses n key (byte ∷ [])
  unfolding entry_from number_of
  wants-refused (no_size h) a = by-head a (unsized-head h)
  wants-refused (no_tag sized h) a = by-head a (untagged-head sized h)
  wants-refused (unknown_tag sized h k) a = by-head a (unknown-head sized h k)
  wants-refused (no_look root p h) a = by-head a (root-head root) ∙ look-refused levels a root.level_left p h
  wants-refused (no_number {e} {at} b h) a = run-refused a b.read_as (cut-run (here_of b.read_as) b (number_cut e at h))
  wants-refused (unknown_number {e} {at} b h k) a = run-refused a b.read_as (unknown-run (here_of b.read_as) b (number-unknown e at h k))
  wants-refused (no_value {e} {at} b f h) a =
      run-refused a b.attribute.read_as (cut-run (here_of b.attribute.read_as) b.attribute (value-cut e at b (one-short e r.section (at + 2) f h)))
  wants-refused (no_zero {e} {at} b f h) a =
      run-refused a b.attribute.read_as
      (cut-run (here_of b.attribute.read_as) b.attribute
      (value-cut e at b (ap (λ (k : FormKind). value_end k e r.section (at + 2)) f ∙ text-short e r.section (at + 2) h)))
  wants-refused (no_length {e} {at} b f h) a =
      run-refused a b.attribute.read_as (cut-run (here_of b.attribute.read_as) b.attribute (value-cut e at b (length-short e r.section (at + 2) f h)))
  wants-refused (no_bytes {e} {at} b f k h) a =
      run-refused a b.attribute.read_as (cut-run (here_of b.attribute.read_as) b.attribute (value-cut e at b (bytes-short e r.section (at + 2) f k h)))
