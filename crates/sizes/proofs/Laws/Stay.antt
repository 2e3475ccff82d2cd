-- A size that is not refused for its depth stays with every level above: what an entry's size asks for stays, so it stays.
use Rattle.std.specs.Prelude.{Option, Some, None}
use Prim.Native.Nat.{ℕ, zero, suc, ◌+◌}
use mathlib.Core.Path.{◌≡◌, refl, ap, ◌∙◌}
use mathlib.Core.Bool.{Bool, true, false, cond}
use mathlib.Core.List.{List, [], ◌∷◌}
use Rattle.format.specs.AttributeKind as attribute
use Rattle.format.specs.Refusal.{number_of}
use Rattle.format.specs.Said.{Said, gives, refuses, refuse, ◌>>=◌, ◌>>◌}
use Rattle.format.specs.declared.settings.Settings.{Settings}
use Rattle.format.specs.declared.refusal.Reason.TheVariants as reason
use Rattle.blocks.specs.declared.subscripts.Array.{Array}
use Rattle.blocks.specs.declared.types.Type.{«Type»}
use Rattle.blocks.specs.declared.types.TypeKind.{TypeKind}
use Rattle.blocks.specs.declared.types.TypeKind.TheVariants as kind
use Rattle.tables.specs.Table.{lent_rows}
use Rattle.tables.specs.Row.{row_at}
use Rattle.tables.specs.Find.{row_of_key}
use Rattle.tables.specs.Keyed.{found_row}
use Rattle.records.specs.Scan.{run_of, faults_from}
use Rattle.records.specs.Fields.{last_of, word_of}
use Rattle.records.specs.Unions.{RowMember}
use Rattle.records.specs.declared.scan.Run.{Run}
use Rattle.records.specs.declared.fields.Sought.TheVariants as sought
use Rattle.sizes.specs.Size.{kind_size, type_size_by, needed_at, subscripts_at, subscript_fault, array_size, members_of, size_or, member_size, with_end, ends_from, size_or_ends, shape_of, shape_size, row_size, entry_size}
use Rattle.sizes.specs.declared.prepare.Shape.{Shape}
use Rattle.sizes.specs.declared.prepare.Shape.TheVariants as shape

-- a size, or a refusal that is not for its depth
abbrev pub Settled : Said ℕ → Type 0
Settled (gives size) = Unit
Settled (refuses number place counts) = number ≡ 10 → ⊥

-- what follows a size stays where the size does
then-stays : (d d' : Said ℕ) (next next' : ℕ → Said ℕ) → (Settled d → d' ≡ d) → ((size : ℕ) → Settled (next size) → next' size ≡ next size)
    → Settled (d >>= next) → (d' >>= next') ≡ (d >>= next)
unfolding ◌>>=◌
then-stays (gives size) d' next next' h k s = ap (λ (d : Said ℕ). d >>= next') (h tt) ∙ k size s
then-stays (refuses number place counts) d' next next' h k s = ap (λ (d : Said ℕ). d >>= next') (h s)

-- and what follows anything that is the same
next-stays : {A : Type 0} (d : Said A) (next next' : A → Said ℕ) → ((x : A) → Settled (next x) → next' x ≡ next x)
    → Settled (d >>= next) → (d >>= next') ≡ (d >>= next)
unfolding ◌>>=◌
next-stays (gives x) next next' k s = k x s
next-stays (refuses number place counts) next next' k s = refl

past-stays : {A : Type 0} (d : Said A) (x x' : Said ℕ) → (Settled x → x' ≡ x) → Settled (d >> x) → (d >> x') ≡ (d >> x)
unfolding ◌>>◌
past-stays (gives y) x x' h s = h s
past-stays (refuses number place counts) x x' h s = refl

module _ (f g : «Type» → Said ℕ) (stays : (t : «Type») → Settled (f t) → g t ≡ f t) where
  or-stays : (t : «Type») (w : Option ℕ) → Settled (size_or f t w) → size_or g t w ≡ size_or f t w
  unfolding size_or
  or-stays t (Some size) s = refl
  or-stays t None s = stays t s

  ends_stay : (rows : List ℕ) (largest : ℕ) (ms : List RowMember) → Settled (ends_from rows f largest ms) → ends_from rows g largest ms ≡ ends_from rows f largest ms
  unfolding ends_from member_size
  ends_stay rows largest [] s = refl
  ends_stay rows largest (m ∷ ms) s =
      then-stays (member_size f m) (member_size g m) _ _ (or-stays m.member.of m.member.byte_size)
      (λ size t. next-stays (with_end (row_at rows m.row).key largest (m.member.offset + size)) (λ next. ends_from rows f next ms)
      (λ next. ends_from rows g next ms) (λ next u. ends_stay rows next ms u) t) s

  members-stay : (rows : List ℕ) (ms : List RowMember) (w : Option ℕ) → Settled (size_or_ends rows f ms w) → size_or_ends rows g ms w ≡ size_or_ends rows f ms w
  unfolding size_or_ends
  members-stay rows ms (Some size) s = refl
  members-stay rows ms None s = ends_stay rows 0 ms s

  array-stays : (s attrs : List ℕ) (run : Run) → Settled (array_size s attrs run f) → array_size s attrs run g ≡ array_size s attrs run f
  unfolding array_size
  array-stays s attrs run p =
      past-stays (faults_from (subscript_fault s attrs run) 0 run.count) _ _
      (λ q. next-stays (needed_at run.key (last_of (sought.Number attribute.subscr_data) attrs run)) _ _
      (λ k r. next-stays (subscripts_at s attrs run k) _ _
      (λ (array : Array) t. then-stays (f array.element) (g array.element) _ _ (stays array.element) (λ size u. refl) t) r) q) p

  module _ (settings : Settings) (s rows attrs : List ℕ) (n i : ℕ) where
    shape-stays : (x : Shape) → Settled (shape_size settings (lent_rows settings.endian s rows attrs n) f i x) → shape_size settings (lent_rows settings.endian s rows attrs n) g i x ≡ shape_size settings (lent_rows settings.endian s rows attrs n) f i x
    unfolding shape_size
    shape-stays shape.Array p = array-stays s attrs (run_of settings.endian rows i) p
    shape-stays shape.Structure p =
        next-stays (members_of settings (lent_rows settings.endian s rows attrs n) i) _ _
        (λ ms q. members-stay rows ms (word_of s attrs (run_of settings.endian rows i) attribute.byte_size) q) p
    shape-stays shape.Enumeration p = refl
    shape-stays shape.Union p = refl
    shape-stays shape.PtrToMember p = refl
    shape-stays shape.Subroutine p = refl
    shape-stays shape.Other p = refl

module _ (sizes : List ℕ) (f g : ℕ → Said ℕ) (stays : (key : ℕ) → Settled (f key) → g key ≡ f key) where
  kind-stays : (k : TypeKind) → Settled (kind_size sizes f k) → kind_size sizes g k ≡ kind_size sizes f k
  unfolding kind_size
  kind-stays (kind.Fundamental number) p = refl
  kind-stays (kind.UserDefined key) p = stays key p

  pointer-stays : (b : Bool) (k : TypeKind) → Settled (cond b (gives 4) (kind_size sizes f k)) → cond b (gives 4) (kind_size sizes g k) ≡ cond b (gives 4) (kind_size sizes f k)
  pointer-stays true k p = refl
  pointer-stays false k p = kind-stays k p

  type-stays : (t : «Type») → Settled (type_size_by sizes f t) → type_size_by sizes g t ≡ type_size_by sizes f t
  unfolding type_size_by
  type-stays t p = pointer-stays t.pointer t.kind p

module _ (settings : Settings) (sizes s rows attrs : List ℕ) (n : ℕ) where
  row_stays : (f g : ℕ → Said ℕ) → ((key : ℕ) → Settled (f key) → g key ≡ f key) → (i : ℕ)
      → Settled (row_size settings (lent_rows settings.endian s rows attrs n) (type_size_by sizes f) i)
      → row_size settings (lent_rows settings.endian s rows attrs n) (type_size_by sizes g) i ≡ row_size settings (lent_rows settings.endian s rows attrs n) (type_size_by sizes f) i
  unfolding row_size
  row_stays f g h i p =
      shape-stays (type_size_by sizes f) (type_size_by sizes g) (type-stays sizes f g h) settings s rows attrs n i (shape_of (row_at rows i).kind) p

  -- at the last level only 11 is settled
  last-settled : (key : ℕ) (next : ℕ → Said ℕ) (d : Said ℕ) → Settled (d >> refuse reason.Depth key) → (d >>= next) ≡ (d >> refuse reason.Depth key)
  unfolding ◌>>=◌ ◌>>◌ number_of
  last-settled key next (gives i) p = absurd (p refl)
  last-settled key next (refuses number place counts) p = refl

  -- with one more level a settled size is the same
  pub size-stays : (levels key : ℕ) → Settled (entry_size settings sizes (lent_rows settings.endian s rows attrs n) levels key)
      → entry_size settings sizes (lent_rows settings.endian s rows attrs n) (suc levels) key ≡ entry_size settings sizes (lent_rows settings.endian s rows attrs n) levels key
  unfolding entry_size
  size-stays zero key p = last-settled key _ (found_row key (row_of_key rows n key)) p
  size-stays (suc levels) key p =
      next-stays (found_row key (row_of_key rows n key)) _ _
      (λ i q. row_stays (entry_size settings sizes (lent_rows settings.endian s rows attrs n) levels) (entry_size settings sizes (lent_rows settings.endian s rows attrs n) (suc levels)) (size-stays levels) i q) p
