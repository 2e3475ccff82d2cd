-- Which byte was wanted: what refuses an entry is a field that could not be read or was not known, every field before it was read, and the byte that is
-- told is that field's first.
use Rattle.std.specs.Prelude.{Result, Ok, Err}
use Prim.Native.Nat.{ℕ, zero, suc, ◌+◌, ◌-◌, ◌≤◌, ◌<◌}
use native.Mathlib.Omega.{arith}
use mathlib.Core.Path.{◌≡◌, refl, sym, ap, ◌∙◌, subst}
use mathlib.Core.Bool.{Bool, true, false, ◌&&◌, ◌||◌}
use mathlib.Core.List.{List, [], ◌∷◌}
use lib.ListN.{length, get_or}
use lib.Dec.{ltb, eqb}
use borrow.Author.Tests.{leb-false, ltb-true, ltb-false, eqb-true, eqb-false}
use Rattle.numbers.specs.Value.{value_of, there}
use Rattle.numbers.specs.declared.Endian.{Endian}
use Rattle.numbers.proofs.Laws.Tests.{cond-all}
use Rattle.numbers.proofs.Laws.Value.{read_all, there-inside}
use Rattle.format.specs.Lookup.{is_on}
use Rattle.format.specs.Known.{known}
use Rattle.format.specs.FormKind.{form_of}
use Rattle.format.specs.AttributeKind as number
use Rattle.format.specs.TagKind.{tags}
use Rattle.format.specs.TagKind as tag
use Rattle.format.specs.Refusal.{number_of}
use Rattle.format.specs.Said.{Said, gives, refuses, ◌>>=◌, placed}
use Rattle.format.specs.declared.form_kind.FormKind.{FormKind}
use Rattle.format.specs.declared.form_kind.FormKind.TheVariants.{Addr, Ref, Block2, Block4, Data2, Data4, Data8, String, Undefined}
use Rattle.format.specs.declared.refusal.Reason.TheVariants as reason
use Rattle.attributes.specs.Text.{zero_from}
use Rattle.attributes.specs.End.{fixed_end, block_end, text_end, value_end}
use Rattle.attributes.specs.Read.{ending, numbered, read_attribute}
use Rattle.attributes.specs.declared.read.Attribute.{Attribute}
use Rattle.attributes.specs.declared.value.Unread.{Unread}
use Rattle.attributes.specs.declared.value.Unread.TheVariants as missing
use Rattle.attributes.proofs.Laws.Text.{zero-found}
use Rattle.entries.specs.Source.{Source}
use Rattle.entries.specs.Head.{headless, tag_head, size_head, head_at}
use Rattle.entries.specs.Run.{AttrsRead, ran, attr, found, run_ends, read_on, read_run}
use Rattle.entries.specs.Entry.{Entry, root_endian, attributes, entry_from, read_entry}
use Rattle.entries.specs.Wanted.{NotThere, NoZero, OneField, address, reference, data2, data4, data8, TwoFields, block2, block4, SizeRead, TagRead, IsRoot, ReadAs, as_ordinary, as_root, GoesOn, ReadUpTo, none_yet, one_more, AttributeAt, NumberRead, Wants, no_size, no_tag, unknown_tag, no_look, no_number, unknown_number, no_value, no_zero, no_length, no_bytes}
use Rattle.entries.specs.declared.entry.Mode.{Mode}
use Rattle.entries.specs.declared.head.Head.{Head}
use Rattle.entries.specs.declared.head.Head.TheVariants as head
use Rattle.entries.proofs.Laws.KnownRun.{by-test}
use Rattle.entries.specs.declared.head.HeadError.{HeadError}

-- ---- what is not there

-- bytes that are not there
cut : (s : List ℕ) (at w : ℕ) → there s at w ≡ false → NotThere s at w
unfolding there
cut s at w h = leb-false (at + w) (length s) h

no-zeros : (s : List ℕ) (at : ℕ) → ltb (zero_from s at) (length s) ≡ false → NoZero s at
no-zeros s at h i from before p =
    let far : length s ≤ zero_from s at = ltb-false (zero_from s at) (length s) h in
    let place : i ≡ at + (i - at) = omega arith in
    let found : zero_from s at < length s = zero-found s (i - at) at (omega arith) (ap (λ (k : ℕ). get_or s k 0) (sym place) ∙ p) in
    omega arith

-- a value that does not end: at one of its fields
data ValueWants (e : Endian) (s : List ℕ) (at : ℕ) : FormKind → ℕ → Type 0 where
  one : {form : FormKind} {w : ℕ} → OneField form w → NotThere s at w → ValueWants e s at form at
  text : NoZero s at → ValueWants e s at String at
  first : {form : FormKind} {w : ℕ} → TwoFields form w → NotThere s at w → ValueWants e s at form at
  second : {form : FormKind} {w : ℕ} → TwoFields form w → at + w ≤ length s → NotThere s (at + w) (value_of e w s at) → ValueWants e s at form (at + w)

abbrev EndTold : Endian → List ℕ → ℕ → FormKind → Result ℕ Unread → Type 0
EndTold e s at form (Ok next) = Unit
EndTold e s at form (Err (missing.Short field)) = ValueWants e s at form field
EndTold e s at form (Err (missing.Unknown field)) = ⊥

module _ (e : Endian) (s : List ℕ) (at : ℕ) where
  fixed_told : {form : FormKind} {w : ℕ} → OneField form w → EndTold e s at form (fixed_end s at w)
  unfolding fixed_end
  fixed_told {form} {w} f = cond-all (EndTold e s at form) (there s at w) (λ t. tt) (λ t. one f (cut s at w t))

  block-told : {form : FormKind} {w : ℕ} → TwoFields form w → EndTold e s at form (block_end e w s at)
  unfolding block_end fixed_end
  block-told {form} {w} f =
      read_all (λ n. fixed_end s (at + w) n) (Err (missing.Short at)) e w s at (EndTold e s at form)
      (λ t. cond-all (EndTold e s at form) (there s (at + w) (value_of e w s at)) (λ u. tt)
      (λ u. second f (there-inside s at w t) (cut s (at + w) (value_of e w s at) u)))
      (λ t. first f (cut s at w t))

  text-told : EndTold e s at String (text_end s at)
  unfolding text_end
  text-told = cond-all (EndTold e s at String) (ltb (zero_from s at) (length s)) (λ t. tt) (λ t. text (no-zeros s at t))

  -- every form but none
  value-told : (form : FormKind) → (form ≡ Undefined → ⊥) → EndTold e s at form (value_end form e s at)
  unfolding value_end
  value-told Addr some = fixed_told address
  value-told Ref some = fixed_told reference
  value-told Block2 some = block-told block2
  value-told Block4 some = block-told block4
  value-told Data2 some = fixed_told data2
  value-told Data4 some = fixed_told data4
  value-told Data8 some = fixed_told data8
  value-told String some = text-told
  value-told Undefined some = absurd (some refl)

-- ---- what refuses an entry

-- every known number has a form
abbrev pub Formed : List ℕ → Type 0
Formed vendors = (n : ℕ) → known vendors n ≡ true → form_of n ≡ Undefined → ⊥

module _ (r : Source) (erased : Bool) (levels : ℕ) (m : Mode) (key : ℕ) (formed : Formed r.vendors) where
  abbrev Want : ℕ → ℕ → Type 0
  Want n byte = Wants r erased levels m key n byte

  -- a value's fields are the entry's
  value-wants : {e : Endian} {at n field : ℕ} → NumberRead r erased levels m key e at n → {form : FormKind} → form_of n ≡ form
      → ValueWants e r.section (at + 2) form field → Want 4 field
  value-wants h p (one {w = w} f c) = no_value h (subst (λ (k : FormKind). OneField k w) (sym p) f) c
  value-wants h p (text z) = no_zero h p z
  value-wants h p (first {w = w} f c) = no_length h (subst (λ (k : FormKind). TwoFields k w) (sym p) f) c
  value-wants h p (second {w = w} f i c) = no_bytes h (subst (λ (k : FormKind). TwoFields k w) (sym p) f) i c

  abbrev AttributeTold : Result Attribute Unread → Type 0
  AttributeTold (Ok a) = Unit
  AttributeTold (Err (missing.Short field)) = Want 4 field
  AttributeTold (Err (missing.Unknown field)) = Want 6 field

  ending-told : {e : Endian} {at n : ℕ} → NumberRead r erased levels m key e at n → (told : Result ℕ Unread) → EndTold e r.section (at + 2) (form_of n) told
      → AttributeTold (ending n (at + 2) told)
  unfolding ending
  ending-told h (Ok next) w = tt
  ending-told h (Err (missing.Short field)) w = value-wants h refl w
  ending-told h (Err (missing.Unknown field)) w = absurd w

  attribute-told : {e : Endian} {at : ℕ} → AttributeAt r erased levels m key e at → AttributeTold (read_attribute r.vendors e r.section at)
  unfolding read_attribute numbered
  attribute-told {e} {at} h =
      let s : List ℕ = r.section in
      let n : ℕ = value_of e 2 s at in
      read_all (numbered r.vendors e s at) (Err (missing.Short at)) e 2 s at AttributeTold
      (λ t. cond-all AttributeTold (known r.vendors n)
      (λ k. ending-told
      (record { attribute = h; number_there = there-inside s at 2 t; number_is = refl; number_known = k })
      (value_end (form_of n) e s (at + 2)) (value-told e s (at + 2) (form_of n) (formed n k)))
      (λ k. unknown_number h (there-inside s at 2 t) k))
      (λ t. no_number h (cut s at 2 t))

  -- attributes one after the other
  abbrev RunTold : Said AttrsRead → Type 0
  RunTold (gives x) = Unit
  RunTold (refuses n place []) = ⊥
  RunTold (refuses n place (byte ∷ [])) = Want n byte
  RunTold (refuses n place (x ∷ y ∷ more)) = ⊥

  later-told : (a : ℕ) (v : ℕ) (d : Said AttrsRead) → RunTold d
      → RunTold (d >>= (λ later. gives (ran (attr a v ∷ later.attrs) later.high later.stopped)))
  unfolding ◌>>=◌
  later-told a v (gives x) h = tt
  later-told a v (refuses n place []) h = h
  later-told a v (refuses n place (byte ∷ [])) h = h
  later-told a v (refuses n place (x ∷ y ∷ more)) h = h

  on-told : (x : Result Attribute Unread) (follow : ℕ → ℕ → Said AttrsRead) → AttributeTold x
      → ((n value next : ℕ) → x ≡ found n value next → RunTold (follow n next)) → RunTold (read_on x follow)
  unfolding read_on number_of
  on-told (Ok a) follow h others = later-told a.number a.value (follow a.number a.next) (others a.number a.value a.next refl)
  on-told (Err (missing.Short field)) follow h others = h
  on-told (Err (missing.Unknown field)) follow h others = h

  run-told : {root : Bool} {e : Endian} → ReadAs r erased levels m key root e → (f : ℕ) (high : Bool) (at : ℕ) → ReadUpTo r erased levels m key root e high at
      → RunTold (read_run r e root (key + value_of m.endian 4 r.section key) f high at)
  unfolding read_run
  run-told way zero high at before = tt
  run-told {root} {e} way (suc f) high at before =
      let stop : ℕ = key + value_of m.endian 4 r.section key in
      by-test (ltb at stop)
      (λ t. by-test (run_ends r.global r.section e high at) (λ u. rw (t, u, read_run) tt)
      (λ u.
      let on : GoesOn r erased levels m key e high at = record { before_end = ltb-true at stop t; not_ended = u } in
      rw (t, u, read_run)
      (on-told (read_attribute r.vendors e r.section at) (λ n next. read_run r e root stop f (high || (root && eqb n number.high_pc)) next)
      (attribute-told (record { root = root; high = high; read_as = way; read_before = before; goes_on = on }))
      (λ n value next p. run-told way f (high || (root && eqb n number.high_pc)) next (one_more before on p)))))
      (λ t. rw (t, read_run) tt)

  -- an entry: 7, which tells no byte, or the field's
  abbrev pub EntryTold : Said Entry → Type 0
  EntryTold (gives x) = Unit
  EntryTold (refuses n place []) = n ≡ 7
  EntryTold (refuses n place (byte ∷ [])) = (place ≡ key) × Want n byte
  EntryTold (refuses n place (x ∷ y ∷ more)) = ⊥

  abbrev HeadTold : Result Head HeadError → Type 0
  HeadTold (Ok (head.Null place)) = Unit
  HeadTold (Ok (head.Skipped place)) = Unit
  HeadTold (Ok (head.Root stop)) = TagRead r erased levels m key tag.padding × (erased ≡ true) × (stop ≡ key + value_of m.endian 4 r.section key)
  HeadTold (Ok (head.Ordinary kind stop)) =
      TagRead r erased levels m key kind × (kind ≡ tag.padding → ⊥) × (stop ≡ key + value_of m.endian 4 r.section key)
  HeadTold (Err field) = Want (number_of field.why) field.byte

  head-told : HeadTold (head_at erased r.section m.endian key)
  unfolding head_at size_head tag_head number_of
  head-told =
      let s : List ℕ = r.section in
      let e : Endian = m.endian in
      let size : ℕ = value_of e 4 s key in
      let kind : ℕ = value_of e 2 s (key + 4) in
      read_all (size_head erased s e key) (headless reason.Short key) e 4 s key HeadTold
      (λ t. cond-all HeadTold (ltb size 8) (λ u. tt)
      (λ u.
      let sized : SizeRead r erased levels m key = record { size_there = there-inside s key 4 t; long = ltb-false size 8 u } in
      read_all (tag_head erased (key + size) (key + 4)) (headless reason.Short (key + 4)) e 2 s (key + 4) HeadTold
      (λ v.
      let inside : key + 4 + 2 ≤ length s = there-inside s (key + 4) 2 v in
      let here : key + 6 ≤ length s = omega arith in
      let tagged : (k : ℕ) → kind ≡ k → is_on kind tags ≡ true → TagRead r erased levels m key k =
      λ k p q. record { sized = sized; tag_there = here; kind_is = p; tag_known = subst (λ (j : ℕ). is_on j tags ≡ true) p q }
      in
      cond-all HeadTold (is_on kind tags)
      (λ w. cond-all HeadTold (eqb kind tag.padding)
      (λ x. cond-all HeadTold erased (λ y. (tagged tag.padding (eqb-true kind tag.padding x) w, y, refl)) (λ y. tt))
      (λ x. (tagged kind refl w, eqb-false kind tag.padding x, refl)))
      (λ w. unknown_tag sized here w))
      (λ v. no_tag sized (cut s (key + 4) 2 v))))
      (λ t. no_size (cut s key 4 t))

  placed-told : (d : Said AttrsRead) (entry_of : AttrsRead → Entry) → RunTold d → EntryTold (placed key d >>= (λ x. gives (entry_of x)))
  unfolding placed ◌>>=◌
  placed-told (gives x) entry_of h = tt
  placed-told (refuses n place []) entry_of h = absurd h
  placed-told (refuses n place (byte ∷ [])) entry_of h = (refl, h)
  placed-told (refuses n place (x ∷ y ∷ more)) entry_of h = absurd h

  body-told : {root : Bool} {e : Endian} {stop : ℕ} (entry_of : AttrsRead → Entry) → ReadAs r erased levels m key root e
      → stop ≡ key + value_of m.endian 4 r.section key → EntryTold (attributes r e root stop key >>= (λ x. gives (entry_of x)))
  unfolding attributes
  body-told {root} {e} entry_of way p = rw p (placed-told _ entry_of (run-told way (suc (length r.section)) false (key + 6) none_yet))

  -- a root's look
  abbrev LookTold : Said Endian → Type 0
  LookTold (gives e) = Unit
  LookTold (refuses n place []) = ⊥
  LookTold (refuses n place (byte ∷ [])) = (place ≡ key) × Want n byte
  LookTold (refuses n place (x ∷ y ∷ more)) = ⊥

  look-told : IsRoot r erased levels m key → (inner : Bool) → m.erased ≡ inner → LookTold (root_endian r.vendors r.section inner m.endian key)
  unfolding root_endian number_of
  look-told root true p = tt
  look-told root false p =
      read_all _ _ m.endian 2 r.section (key + 6) LookTold (λ t. tt) (λ t. (refl, no_look root p (cut r.section (key + 6) 2 t)))

  looked : (d : Said Endian) (follow : Endian → Said Entry) → LookTold d → ((e : Endian) → d ≡ gives e → EntryTold (follow e)) → EntryTold (d >>= follow)
  unfolding ◌>>=◌
  looked (gives e) follow h others = others e refl
  looked (refuses n place []) follow h others = absurd h
  looked (refuses n place (byte ∷ [])) follow h others = h
  looked (refuses n place (x ∷ y ∷ more)) follow h others = absurd h

  module _ (a : ℕ) where
    root_told : (allowed : ℕ) → levels ≡ allowed → (stop : ℕ) → HeadTold (Ok (head.Root stop)) → EntryTold (entry_from r allowed m key a (Ok (head.Root stop)))
    unfolding entry_from number_of
    root_told zero p stop h = refl
    root_told (suc l) p stop h =
        let root : IsRoot r erased levels m key = record { tagged = h.0; flag_on = h.1; level_left = omega arith } in
        looked (root_endian r.vendors r.section m.erased m.endian key) _ (look-told root m.erased refl)
        (λ e q. body-told _ (as_root root q) h.2)

    from_told : (h : Result Head HeadError) → HeadTold h → EntryTold (entry_from r levels m key a h)
    unfolding entry_from
    from_told (Ok (head.Null place)) h = tt
    from_told (Ok (head.Skipped place)) h = tt
    from_told (Ok (head.Root stop)) h = root_told levels refl stop h
    from_told (Ok (head.Ordinary kind stop)) h = body-told _ (as_ordinary h.0 h.1) h.2
    from_told (Err field) h = (refl, h)

    -- an entry that is refused wants the field whose first byte is told
    pub entry-told : EntryTold (read_entry r erased levels m key a)
    unfolding read_entry
    entry-told = from_told (head_at erased r.section m.endian key) head-told
