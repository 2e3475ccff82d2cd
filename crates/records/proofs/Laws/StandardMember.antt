-- What a row says of a member in the standard's words is what its record says.
use Rattle.std.specs.Prelude.{Option, Some, None}
use Prim.Native.Nat.{ℕ, ◌-◌, ◌%◌, ◌^◌, ◌<◌}
use native.Mathlib.Nat.{add-sub_cancel_left}
use mathlib.Core.Path.{◌≡◌, refl, sym, ap, subst, ◌∙◌}
use mathlib.Core.List.{List}
use lib.ListN.{length}
use Rattle.numbers.specs.Written.{bytes_of}
use Rattle.numbers.proofs.Laws.Written.{number-answers}
use Rattle.numbers.proofs.Laws.Stands.{Stands}
use Rattle.numbers.specs.declared.Endian.{Endian}
use Rattle.standard.specs.Entries.{Value, bytes, block, text, Text}
use Rattle.standard.specs.Locations.{written_location, plus}
use Rattle.standard.specs.Types.{Typed, Says}
use Rattle.standard.specs.Members as standard
use Rattle.format.specs.Lookup.{lookup}
use Rattle.format.specs.FormKind.{form_of, forms}
use Rattle.format.specs.AttributeKind as attribute
use Rattle.format.specs.declared.form_kind.FormKind.{FormKind}
use Rattle.format.specs.declared.form_kind.FormKind.TheVariants.{Data2, Data4}
use Rattle.format.specs.Said.{Said, gives, ◌>>=◌, placed}
use Rattle.attributes.specs.Parts.{block_at}
use Rattle.attributes.specs.declared.decode.Endians.{Endians}
use Rattle.blocks.specs.Location.{process_offset}
use Rattle.blocks.specs.Types.{process_type}
use Rattle.blocks.specs.Standard.{type_at, said_from, SaysAt, alike}
use Rattle.blocks.proofs.Laws.Placed.{stands_at}
use Rattle.blocks.proofs.Laws.StandardTypes.{as-data2, as-data4, as-block2, as-text, same_number, same_bytes, block-there, type-read}
use Rattle.blocks.proofs.Laws.StandardRead.{offset_read}
use Rattle.links.specs.Typed.{word_at}
use Rattle.records.specs.Scan.{attribute_at}
use Rattle.records.specs.Fields.{last_of, text_of, name_by, name_of, needed, type_by, type_of, location_block, offset_field, word_in, word_by, word_of}
use Rattle.records.specs.Member.{bits_by, member_fields}
use Rattle.records.specs.Standard.{LastSays, SaysWord, says, silent, SaysBits, field, whole, SaysName, named, nameless, SaysMember, member_of}
use Rattle.records.specs.declared.scan.Run.{Run}
use Rattle.records.specs.declared.fields.Sought.{Sought}
use Rattle.records.specs.declared.fields.Sought.TheVariants as sought
use Rattle.records.specs.declared.fields.Text as fields
use Rattle.records.specs.declared.member.Bits.{Bits}
use Rattle.records.proofs.Laws.StandardElements.{text-ends}

-- ---- where it stands

module _ {e : Endian} {s attrs : List ℕ} {run : Run} {what : Sought} {kind : ℕ} {value : Value} (l : LastSays e s attrs run what kind value) where
  abbrev at : ℕ
  at = (attribute_at attrs l.index).value

  body_stands : Stands s at l.body
  body_stands = stands_at l.before l.body l.behind l.section l.place

  last_needed : {A : Type 0} (key : ℕ) (next : ℕ → Said A) → (needed key (last_of what attrs run) >>= next) ≡ next l.index
  unfolding needed ◌>>=◌
  last_needed key next = rw l.last

module _ {e : Endian} {s attrs : List ℕ} {run : Run} (one : run.ends ≡ alike e) where
  -- ---- numbers

  module _ {kind : ℕ} {form : FormKind} (is : form_of kind ≡ form) where
    word-is : {value : Value} (l : LastSays e s attrs run (sought.Number kind) kind value)
        → word_of s attrs run kind ≡ word_at form s (record { at = at l; ends = alike e })
    unfolding word_of word_by word_in
    word-is l =
        ap (word_by s attrs run) l.last
        ∙ ap (λ (k : ℕ). word_at (form_of k) s (record { at = at l; ends = run.ends })) l.numbered
        ∙ ap (λ (f : FormKind). word_at f s (record { at = at l; ends = run.ends })) is
        ∙ ap (λ (ends : Endians). word_at form s (record { at = at l; ends = ends })) one

  four-read : {kind : ℕ} → kind % 16 ≡ 6 → form_of kind ≡ Data4 → {w : Option ℕ} → SaysWord e s attrs run kind w → word_of s attrs run kind ≡ w
  unfolding word_of word_by word_at
  four-read p f (silent h) = ap (word_by s attrs run) h
  four-read {kind} p f (says n l) =
      let is = as-data4 l.written (sym p ∙ l.has_form) in
      let stands : Stands s (at l) (bytes_of e 4 is.0) = subst (Stands s (at l)) is.3 (body_stands l) in
      word-is f l ∙ number-answers Some None e 4 s (at l) is.0 is.1 stands ∙ ap Some (same_number is.2)

  two-read : {kind : ℕ} → kind % 16 ≡ 5 → form_of kind ≡ Data2 → {w : Option ℕ} → SaysWord e s attrs run kind w → word_of s attrs run kind ≡ w
  unfolding word_of word_by word_at
  two-read p f (silent h) = ap (word_by s attrs run) h
  two-read {kind} p f (says n l) =
      let is = as-data2 l.written (sym p ∙ l.has_form) in
      let stands : Stands s (at l) (bytes_of e 2 is.0) = subst (Stands s (at l)) is.3 (body_stands l) in
      word-is f l ∙ number-answers Some None e 2 s (at l) is.0 is.1 stands ∙ ap Some (same_number is.2)

  -- AT_byte_size
  pub size-read : {w : Option ℕ} → SaysWord e s attrs run standard.byte_size w → word_of s attrs run attribute.byte_size ≡ w
  unfolding form_of forms lookup
  size-read a = four-read refl refl a

  bit-size-read : {w : Option ℕ} → SaysWord e s attrs run standard.bit_size w → word_of s attrs run attribute.bit_size ≡ w
  unfolding form_of forms lookup
  bit-size-read a = four-read refl refl a

  bit-offset-read : {w : Option ℕ} → SaysWord e s attrs run standard.bit_offset w → word_of s attrs run attribute.bit_offset ≡ w
  unfolding form_of forms lookup
  bit-offset-read a = two-read refl refl a

  -- AT_bit_size and AT_bit_offset
  pub bits-read : (key : ℕ) {b : Option Bits} → SaysBits e s attrs run b
      → bits_by key (word_of s attrs run attribute.bit_size) (word_of s attrs run attribute.bit_offset) ≡ gives b
  unfolding bits_by
  bits-read key (field a b) = rw (bit-size-read a, bit-offset-read b)
  bits-read key (whole a b) = rw (bit-size-read a, bit-offset-read b)

  -- ---- the name

  pub name-read : {n : Option fields.Text} → SaysName e s attrs run n → name_of s attrs run attribute.name ≡ n
  unfolding name_of name_by text_of text
  name-read (nameless h) = ap (name_by s attrs) h
  name-read (named xs l) =
      let is = as-text l.written l.has_form in
      let same : is.0 ≡ xs = same_bytes is.2 in
      let stands : Stands s (at l) (text xs) = subst (λ (u : List ℕ). Stands s (at l) (text u)) same (subst (Stands s (at l)) is.3 (body_stands l)) in
      let letters : Text xs = subst Text same is.1 in
      ap (name_by s attrs) l.last
      ∙ ap (λ (n : ℕ). Some (record { place = at l; length = n - at l })) (text-ends letters stands)
      ∙ ap (λ (n : ℕ). Some (record { place = at l; length = n })) (add-sub_cancel_left (at l) (length xs))

  -- ---- type and place

  module _ {type : Typed} {kind : ℕ} {value : Value} (says_type : Says e type kind value) (l : LastSays e s attrs run sought.Type kind value) where
    says_at : SaysAt e s kind (at l) type value
    says_at =
        record {
          form = l.form;
          before = l.before;
          body = l.body;
          behind = l.behind;
          says = says_type;
          has_form = l.has_form;
          written = l.written;
          section = l.section;
          place = l.place;
        }

    pub type-of-read : type_of s attrs run ≡ gives (type_at (said_from (attribute_at attrs l.index).value value) type)
    unfolding type_of type_by placed
    type-of-read =
        last_needed l run.key _
        ∙ ap (λ (k : ℕ). placed run.key (process_type run.ends s k (at l))) l.numbered
        ∙ ap (λ (ends : Endians). placed run.key (process_type ends s kind (at l))) one
        ∙ ap (placed run.key) (type-read says_at)

  pub place_read : {n : ℕ} → n < 256 ^ 4 → LastSays e s attrs run (sought.Number standard.location) standard.location (bytes (written_location e (plus n)))
      → offset_field s attrs run ≡ gives n
  unfolding offset_field location_block placed
  place_read {n} small l =
      let atoms : List ℕ = written_location e (plus n) in
      let is = as-block2 l.written l.has_form in
      let same : is.0 ≡ atoms = same_bytes is.2 in
      let stands : Stands s (at l) (block e 2 atoms) = subst (λ (u : List ℕ). Stands s (at l) (block e 2 u)) same (subst (Stands s (at l)) is.3 (body_stands l)) in
      let short : length atoms < 256 ^ 2 = subst (λ (u : List ℕ). length u < 256 ^ 2) same is.1 in
      last_needed l run.key _
      ∙ ap (λ (ends : Endians). placed run.key (process_offset ends.section (block_at ends.«data» 2 s (at l)))) one
      ∙ ap (λ (u : List ℕ). placed run.key (process_offset e u)) (block-there e 2 atoms stands short)
      ∙ ap (placed run.key) (offset_read e small)

-- a row that says a member in the standard's words has just that record
pub member-read : {e : Endian} {s attrs : List ℕ} {run : Run} (m : SaysMember e s attrs run) → member_fields s attrs run ≡ gives (member_of m)
unfolding member_fields member_of ◌>>=◌
member-read {run = run} m =
    let one = m.one_endian in
    rw (
      type-of-read one m.says_type m.typed,
      place_read one m.small m.located,
      bits-read one run.key m.says_bits,
      name-read one m.says_name,
      size-read one m.says_size,
    )
