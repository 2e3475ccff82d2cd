-- What follows from `Typedef`, for each way that the code comes to an answer. What is known after some attributes is what the code looks up among them, or
-- what the first specification has filled; so the loop goes from specification to specification.
use Rattle.std.specs.Prelude.{Option, Some, None, Result, Ok, Err}
use Rattle.format.specs.Said.{said}
use Prim.Native.Nat.{ℕ, zero, suc, ◌+◌, ◌-◌, ◌≤◌, ◌<◌}
use native.Mathlib.Nat.{sub-zero}
use native.Mathlib.Omega.{arith}
use mathlib.Core.Path.{◌≡◌, refl, sym, ap, ap₂, ◌∙◌, subst}
use mathlib.Core.Bool.{Bool, true, false, not, cond}
use mathlib.Core.List.{List}
use lib.Dec.{eqb, leb}
use borrow.Author.Tests.{eqb-true, eqb-false, leb-true, leb-false}
use Rattle.numbers.specs.Value.{value_of, there, read_at}
use Rattle.numbers.specs.declared.Endian.{Endian}
use Rattle.numbers.proofs.Laws.Value.{read_all}
use Rattle.numbers.proofs.Laws.Tests.{cond-all, cond_map}
use Rattle.format.specs.AttributeKind as attribute
use Rattle.format.specs.Said.{Said, gives, refuses, refuse, refusal, must, ◌>>=◌, ◌>>◌, placed}
use Rattle.format.proofs.Laws.Said.{case-said, goes_on, then_same}
use Rattle.format.specs.declared.settings.Settings.{Settings}
use Rattle.format.specs.declared.refusal.Refusal.{Refusal}
use Rattle.format.specs.declared.refusal.Reason.{Reason}
use Rattle.format.specs.declared.refusal.Reason.TheVariants as reason
use Rattle.blocks.specs.Types.{process_type}
use Rattle.tables.specs.Table.{lent_rows}
use Rattle.tables.specs.Row.{row_at}
use Rattle.tables.specs.Find.{row_of_key}
use Rattle.tables.specs.Keyed.{found_row}
use Rattle.tables.proofs.Laws.Find.{row-found}
use Rattle.links.specs.Inside.Links.{RowsHold}
use Rattle.links.specs.Inside.Children.{Asked}
use Rattle.records.specs.Taken.{special}
use Rattle.records.specs.Scan.{run_of, attribute_at, number_at, fault_at, is_type}
use Rattle.records.specs.Inside.Scan.{scan_from}
use Rattle.records.proofs.Laws.Scan.{Before, Stopped, scan-stop, scan-refused}
use Rattle.records.specs.Fields.{is_sought, last_from, last_of, text_of, name_by, name_of, needed, type_by}
use Rattle.records.specs.Front.{kind_fault}
use Rattle.records.specs.Typedef.{Held, holds, SoFar, nothing_yet, name_filled, type_filled, filled_in, overwritten, specified_by, specified, typedef_end, attributes_from, typedef_run}
use Rattle.records.specs.Inside.Typedef.{Reached, meets, over, said_pause, first_filling, typedef_name, typedef_type, known_at, known_of, pause_at, pause_from}
use Rattle.records.specs.declared.taken.Record.TheVariants as record'
use Rattle.records.specs.declared.scan.Run.{Run}
use Rattle.records.specs.declared.scan.Attribute.{Attribute}
use Rattle.records.specs.declared.fields.Sought.TheVariants as sought
use Rattle.records.specs.declared.fields.Text.{Text}
use Rattle.records.specs.declared.typedef.Typedef.{Typedef}
use Rattle.records.specs.declared.typedef.Pause.{Pause}

-- ---- what the code's steps come to

module _ (s attrs : List ℕ) (run : Run) (f : Option Typedef) where
  pub known-name : (known_at s attrs run run.count f).name ≡ typedef_name (name_of s attrs run attribute.name) f
  unfolding known_at name_of last_of
  known-name = refl

  pub known-type : (known_at s attrs run run.count f).of ≡ typedef_type s attrs run (last_from sought.Type attrs run.first run.count) f
  unfolding known_at
  known-type = refl

pub ruleset known = (known-name, known-type)

pub read-is : {A : Type 0} (f : ℕ → A) (none : A) (e : Endian) (w : ℕ) (s : List ℕ) (at : ℕ)
    → read_at f none e w s at ≡ cond (there s at w) (f (value_of e w s at)) none
unfolding read_at
read-is f none e w s at = refl

pub ruleset references = (read-is)

pub pause-said : (pause : Pause) → said_pause (Ok (Some pause)) ≡ gives (meets pause.at pause.row)
unfolding said_pause
pause-said pause = refl

pub pause-over : said_pause (Ok None) ≡ gives over
unfolding said_pause
pause-over = refl

pub pause-refused : (why : Refusal) → said_pause (Err why) ≡ refusal why
unfolding said_pause
pause-refused why = refl

pub pause-is : (settings : Settings) (s rows attrs : List ℕ) (n : ℕ) (run : Run) (levels j : ℕ)
    → pause_at settings s rows attrs n run levels j
    ≡ cond (leb run.count j) (gives over) (specified settings (lent_rows settings.endian s rows attrs n) run levels j >>= λ r. gives (meets j r))
unfolding pause_at
pause-is settings s rows attrs n run levels j = refl

pub ruleset pauses = (pause-said, pause-over, pause-refused, pause-is)

-- ---- what is known: specifications fill it, other attributes overwrite it

module _ (s attrs : List ℕ) (run : Run) where
  abbrev last_name : ℕ → Option ℕ
  last_name j = last_from (sought.Number attribute.name) attrs run.first j

  abbrev last_type : ℕ → Option ℕ
  last_type j = last_from sought.Type attrs run.first j

  abbrev both : Option Text → Held → SoFar
  both x y = record { name = x; of = y }

  known-none : nothing_yet ≡ known_at s attrs run 0 None
  unfolding nothing_yet known_at last_from name_by typedef_name typedef_type
  known-none = refl

  fills-name : (own : Option Text) (f : Option Typedef) (t : Typedef) → name_filled (typedef_name own f) t.name ≡ typedef_name own (first_filling f t)
  unfolding name_filled typedef_name first_filling
  fills-name (Some text) f t = refl
  fills-name None (Some first) t = refl
  fills-name None None t = refl

  fills-type : (own : Option ℕ) (f : Option Typedef) (t : Typedef) → type_filled (typedef_type s attrs run own f) t.of ≡ typedef_type s attrs run own (first_filling f t)
  unfolding type_filled typedef_type first_filling
  fills-type (Some k) f t = refl
  fills-type None (Some first) t = refl
  fills-type None None t = refl

  overwrites : (j : ℕ) (f : Option Typedef) → overwritten s run (attribute_at attrs (run.first + j)) (known_at s attrs run j f) ≡ known_at s attrs run (suc j) f
  unfolding overwritten known_at last_from is_sought name_by typedef_name typedef_type type_by needed ◌>>=◌
  overwrites j f =
      ap₂ both
      (sym (cond_map (λ (x : Option ℕ). typedef_name (name_by s attrs x) f) (eqb (attribute_at attrs (run.first + j)).number attribute.name)
      (Some (run.first + j)) (last_name j)))
      (sym (cond_map (λ (x : Option ℕ). typedef_type s attrs run x f) (is_type (attribute_at attrs (run.first + j)).number) (Some (run.first + j)) (last_type j)))

  -- a specification is neither a name nor a type
  leaves : (a : Attribute) (known : SoFar) → special record'.Typedef a.number ≡ true → overwritten s run a known ≡ known
  unfolding overwritten special is_type
  leaves a known t =
      ap (λ (x : ℕ). both (cond (eqb x attribute.name) (Some (text_of s a.value)) known.name)
      (cond (is_type x) (holds (placed run.key (process_type run.ends s x a.value))) known.of)) (eqb-true a.number attribute.specification t)

  fills : (j : ℕ) (f : Option Typedef) (t : Typedef) → special record'.Typedef (attribute_at attrs (run.first + j)).number ≡ true
      → filled_in (known_at s attrs run j f) t ≡ known_at s attrs run (suc j) (first_filling f t)
  unfolding filled_in known_at
  fills j f t own =
      ap₂ both (fills-name (name_by s attrs (last_name j)) f t) (fills-type (last_type j) f t)
      ∙ sym (leaves (attribute_at attrs (run.first + j)) (known_at s attrs run j (first_filling f t)) own) ∙ overwrites j (first_filling f t)

-- ---- the attributes in their order

module _ (settings : Settings) (s rows attrs : List ℕ) (n levels : ℕ) where
  -- a specification's row, where it says one: another may be followed, and it is one of the table's
  abbrev Good : Said ℕ → Type 0
  Good (gives r) = (0 < levels) × (r < n)
  Good (refuses number place counts) = Unit

  good-limit : (b : Bool) (why : Reason) (place : ℕ) (next : Said ℕ) → (b ≡ false → Good next) → Good (must (not b) why place >> next)
  unfolding must ◌>>◌
  good-limit true why place next h = tt
  good-limit false why place next h = h refl

  good-past : (d : Said Unit) (next : Said ℕ) → Good next → Good (d >> next)
  unfolding ◌>>◌
  good-past (gives x) next h = h
  good-past (refuses number place counts) next h = tt

  good-row : (key : ℕ) (f : Option ℕ) → row_of_key rows n key ≡ f
      → Good (found_row key f >>= λ r. must (not (eqb levels 0)) reason.Depth key >> (kind_fault settings rows record'.Typedef r >> gives r))
  unfolding found_row ◌>>=◌
  good-row key (Some r) p =
      good-limit (eqb levels 0) reason.Depth key _
      (λ t. good-past (kind_fault settings rows record'.Typedef r) (gives r)
      (let some : levels ≡ 0 → ⊥ = eqb-false levels 0 t in (omega arith, (row-found rows n key p).0)))
  good-row key None p = tt

  good : (run : Run) (j : ℕ) → Good (specified settings (lent_rows settings.endian s rows attrs n) run levels j)
  unfolding specified specified_by
  good run j =
      good-past (fault_at settings.roles record'.Typedef run s attrs j) _
      (read_all _ _ run.ends.section 4 s (attribute_at attrs (run.first + j)).value Good (λ t. good-row _ (row_of_key rows n _) refl) (λ t. tt))

module _ (settings : Settings) (s rows attrs : List ℕ) (n : ℕ) (below : ℕ → Said Typedef) (levels i : ℕ) (run : Run) where
  abbrev from : ℕ → ℕ → SoFar → Said Typedef
  from j m known = attributes_from settings (lent_rows settings.endian s rows attrs n) below levels i run j m known

  -- with what is known after j attributes
  abbrev left : ℕ → ℕ → Option Typedef → Said Typedef
  left j m f = from j m (known_at s attrs run j f)

  abbrev is_own : ℕ → Bool
  is_own j = special record'.Typedef (number_at settings.roles record'.Typedef run s attrs j)

  abbrev judged : ℕ → Said Unit
  judged j = fault_at settings.roles record'.Typedef run s attrs j

  -- attribute j, by whether it is a specification, what that says, and what is wrong with it
  abbrev turn : ℕ → ℕ → SoFar → Bool → Said ℕ → Said Unit → Said Typedef
  turn j m known b what x =
      elim b [
        | true ↦ what >>= λ r. below r >>= λ t. from (suc j) m (filled_in known t)
        | false ↦ x >> from (suc j) m (overwritten s run (attribute_at attrs (run.first + j)) known)
      ]

  left-turn : (j m : ℕ) (known : SoFar) → from j (suc m) known ≡ turn j m known (is_own j) (specified settings (lent_rows settings.endian s rows attrs n) run levels j) (judged j)
  unfolding attributes_from
  left-turn j m known = refl

  by-own : (j m : ℕ) (known : SoFar) {b : Bool} → is_own j ≡ b
      → from j (suc m) known ≡ turn j m known b (specified settings (lent_rows settings.endian s rows attrs n) run levels j) (judged j)
  by-own j m known t = left-turn j m known ∙ ap (λ (b : Bool). turn j m known b (specified settings (lent_rows settings.endian s rows attrs n) run levels j) (judged j)) t

  -- one that is no specification: it is passed by, or its fault decides
  left-plain : (j m : ℕ) (f : Option Typedef) {x : Said Unit} → is_own j ≡ false → judged j ≡ x → left j (suc m) f ≡ (x >> left (suc j) m f)
  left-plain j m f {x} t p =
      by-own j m (known_at s attrs run j f) t
      ∙ ap (λ (y : Said Unit). y >> from (suc j) m (overwritten s run (attribute_at attrs (run.first + j)) (known_at s attrs run j f))) p
      ∙ ap (λ (k : SoFar). x >> from (suc j) m k) (overwrites s attrs run j f)

  -- a specification is read
  left-special : (j m : ℕ) (f : Option Typedef) {what : Said ℕ} → is_own j ≡ true → specified settings (lent_rows settings.endian s rows attrs n) run levels j ≡ what
      → left j (suc m) f ≡ (what >>= λ r. below r >>= λ t. left (suc j) m (first_filling f t))
  unfolding number_at
  left-special j m f {what} t p =
      by-own j m (known_at s attrs run j f) t
      ∙ ap (λ (x : Said ℕ). x >>= λ r. below r >>= λ t. from (suc j) m (filled_in (known_at s attrs run j f) t)) p
      ∙ then_same what (λ r. then_same (below r) (λ u. ap (from (suc j) m) (fills s attrs run j f u t)))

  left_over : (d j m : ℕ) (f : Option Typedef) → Before settings.roles record'.Typedef run s attrs j (j + d) → left j (d + m) f ≡ left (j + d) m f
  unfolding ◌>>◌
  left_over zero j m f w =
      let many : zero + m ≡ m = omega arith in
      let place : j ≡ j + zero = omega arith in
      ap (λ (x : ℕ). left j x f) many ∙ ap (λ (x : ℕ). left x m f) place
  left_over (suc d) j m f w =
      let many : suc d + m ≡ suc (d + m) = omega arith in
      let place : suc j + d ≡ j + suc d = omega arith in
      ap (λ (x : ℕ). left j x f) many
      ∙ left-plain j (d + m) f (w.plain j (omega arith) (omega arith)) (w.clear j (omega arith) (omega arith))
      ∙ left_over d (suc j) m f (record { plain = λ k a b. w.plain k (omega arith) (omega arith); clear = λ k a b. w.clear k (omega arith) (omega arith) })
      ∙ ap (λ (x : ℕ). left x m f) place

  -- attributes before k are passed by
  left-past : (j k : ℕ) (f : Option Typedef) → j ≤ k → k ≤ run.count → Before settings.roles record'.Typedef run s attrs j k
      → left j (run.count - j) f ≡ left k (run.count - k) f
  left-past j k f less upto w =
      let many : run.count - j ≡ k - j + (run.count - k) = omega arith in
      let place : j + (k - j) ≡ k = omega arith in
      ap (λ (x : ℕ). left j x f) many
      ∙ left_over (k - j) j (run.count - k) f (subst (Before settings.roles record'.Typedef run s attrs j) (sym place) w)
      ∙ ap (λ (x : ℕ). left x (run.count - k) f) place

  -- what a pause says of the attributes from j on
  record Paused (j at row : ℕ) : Type 0 where
    pub behind : j ≤ at
    pub within : at < run.count
    pub more : 0 < levels
    pub there : row < n
    pub goes : (f : Option Typedef) → left j (run.count - j) f ≡ (below row >>= λ t. left (at + 1) (run.count - (at + 1)) (first_filling f t))

  abbrev Comes : ℕ → Said Reached → Type 0
  Comes j (gives (meets at row)) = Paused j at row
  Comes j (gives over) = (f : Option Typedef) → left j (run.count - j) f ≡ left run.count zero f
  Comes j (refuses number place counts) = (f : Option Typedef) → left j (run.count - j) f ≡ refuses number place counts

  comes-at : (j k : ℕ) → j ≤ k → k < run.count → is_own k ≡ true
      → Before settings.roles record'.Typedef run s attrs j k → (what : Said ℕ) → specified settings (lent_rows settings.endian s rows attrs n) run levels k ≡ what
      → Comes j (what >>= λ r. gives (meets k r))
  unfolding ◌>>=◌
  comes-at j k behind less t w (gives r) p =
      let said : Good settings s rows attrs n levels (gives r) = subst (Good settings s rows attrs n levels) p (good settings s rows attrs n levels run k) in
      let one : run.count - k ≡ suc (run.count - (k + 1)) = omega arith in
      let place : suc k ≡ k + 1 = omega arith in
      record {
        behind = behind;
        within = less;
        more = said.0;
        there = said.1;
        goes = λ f. left-past j k f behind (omega arith) w ∙ ap (λ (x : ℕ). left k x f) one ∙ left-special k (run.count - (k + 1)) f t p
            ∙ ap (λ (x : ℕ). below r >>= λ u. left x (run.count - (k + 1)) (first_filling f u)) place;
      }
  comes-at j k behind less t w (refuses number place counts) p =
      let one : run.count - k ≡ suc (run.count - (k + 1)) = omega arith in
      λ f. left-past j k f behind (omega arith) w ∙ ap (λ (x : ℕ). left k x f) one ∙ left-special k (run.count - (k + 1)) f t p

  comes-by : (j : ℕ) → j ≤ run.count → (told : Said ℕ) → scan_from settings.roles record'.Typedef run s attrs j (run.count - j) ≡ told
      → Comes j (told >>= pause_at settings s rows attrs n run levels)
  unfolding pause_at ◌>>=◌ ◌>>◌
  comes-by j h (gives k) p =
      let w : Stopped settings.roles record'.Typedef run s attrs j (run.count - j) k = scan-stop _ _ _ _ _ p in
      let behind : j ≤ k = w.from in
      let upto : k ≤ j + (run.count - j) = w.upto in
      cond-all (Comes j) (leb run.count k)
      (λ t f. (let past : run.count ≤ k = leb-true run.count k t in
      let none : run.count - k ≡ zero = omega arith in
      let all : k ≡ run.count = omega arith in
      left-past j k f behind (omega arith) w.before ∙ ap (λ (x : ℕ). left k x f) none ∙ ap (λ (x : ℕ). left x zero f) all))
      (λ t. (let less : k < run.count = leb-false run.count k t in
      comes-at j k behind less (w.own (omega arith)) w.before (specified settings (lent_rows settings.endian s rows attrs n) run levels k) refl))
  comes-by j h (refuses number place counts) p =
      let met = scan-refused _ _ _ _ _ p in
      let k : ℕ = met.0 in
      let behind : j ≤ k = met.1.from in
      let within : k < j + (run.count - j) = met.1.within in
      let one : run.count - k ≡ suc (run.count - (k + 1)) = omega arith in
      λ f. left-past j k f behind (omega arith) met.1.before ∙ ap (λ (x : ℕ). left k x f) one
      ∙ left-plain k (run.count - (k + 1)) f met.1.plain met.1.fault

  comes : (j : ℕ) → j ≤ run.count → {told what : Result (Option Pause) Refusal} → said_pause told ≡ pause_from settings s rows attrs n run levels j → told ≡ what
      → Comes j (said_pause what)
  unfolding pause_from
  comes j h is p =
      subst (Comes j) (sym (case-said said_pause is p)) (comes-by j h (scan_from settings.roles record'.Typedef run s attrs j (run.count - j)) refl)

-- ---- the loop: what is left of the attributes comes to the whole

module _ (settings : Settings) (s rows attrs : List ℕ) (n levels i : ℕ) (run : Run) where
  -- how a specification's row is read
  abbrev below_of : ℕ → ℕ → Said Typedef
  below_of zero r = refuse reason.Depth (row_at rows r).key
  below_of (suc l) r = typedef_run settings (lent_rows settings.endian s rows attrs n) l r

  below_less : (l r : ℕ) → 0 < l → below_of l r ≡ typedef_run settings (lent_rows settings.endian s rows attrs n) (l - 1) r
  below_less zero r h = absurd (omega arith)
  below_less (suc l) r h = let before : l ≡ suc l - 1 = omega arith in ap (λ (x : ℕ). typedef_run settings (lent_rows settings.endian s rows attrs n) x r) before

  whole : (l : ℕ) (x : Run) → x ≡ run_of settings.endian rows i
      → attributes_from settings (lent_rows settings.endian s rows attrs n) (below_of l) l i x 0 x.count nothing_yet ≡ typedef_run settings (lent_rows settings.endian s rows attrs n) l i
  unfolding typedef_run
  whole zero x p = ap (λ (y : Run). attributes_from settings (lent_rows settings.endian s rows attrs n) (below_of zero) zero i y 0 y.count nothing_yet) p
  whole (suc l) x p = ap (λ (y : Run). attributes_from settings (lent_rows settings.endian s rows attrs n) (below_of (suc l)) (suc l) i y 0 y.count nothing_yet) p

  -- the attributes from j on, f being filled
  abbrev rest_from : ℕ → ℕ → Option Typedef → Said Typedef
  rest_from j m f = attributes_from settings (lent_rows settings.endian s rows attrs n) (below_of levels) levels i run j m (known_at s attrs run j f)

  pub record Loop (f : Option Typedef) (j : ℕ) : Type 0 where
    pub within : j ≤ run.count
    pub rest : rest_from j (run.count - j) f ≡ typedef_run settings (lent_rows settings.endian s rows attrs n) levels i

  pub begin : run ≡ run_of settings.endian rows i → Loop None 0
  begin p =
      record {
        within = omega arith;
        rest = ap (λ (m : ℕ). rest_from 0 m None) (sub-zero run.count)
            ∙ ap (attributes_from settings (lent_rows settings.endian s rows attrs n) (below_of levels) levels i run 0 run.count) (sym (known-none s attrs run)) ∙ whole levels run p;
      }

  module _ {f : Option Typedef} {j : ℕ} (l : Loop f j) where
    pub done : {z : Said Typedef} → run ≡ run_of settings.endian rows i → run.count ≤ j
        → z ≡ typedef_end settings (lent_rows settings.endian s rows attrs n) i (known_of s attrs (run_of settings.endian rows i) f) → z ≡ typedef_run settings (lent_rows settings.endian s rows attrs n) levels i
    unfolding attributes_from
    done p h q =
        let inside : j ≤ run.count = l.within in
        let none : zero ≡ run.count - j = omega arith in
        let all : run.count ≡ j = omega arith in
        q ∙ ap (λ (x : Run). typedef_end settings (lent_rows settings.endian s rows attrs n) i (known_of s attrs x f)) (sym p)
        ∙ ap (λ (x : ℕ). rest_from x zero f) all ∙ ap (λ (m : ℕ). rest_from j m f) none ∙ l.rest

    module _ {told : Result (Option Pause) Refusal} (is : said_pause told ≡ pause_from settings s rows attrs n run levels j) where
      -- no further specification
      pub ended : told ≡ Ok None → Loop f run.count
      unfolding said_pause
      ended p =
          let none : run.count - run.count ≡ zero = omega arith in
          record {
            within = omega arith;
            rest = ap (λ (m : ℕ). rest_from run.count m f) none
                ∙ sym (comes settings s rows attrs n (below_of levels) levels i run j l.within is p f) ∙ l.rest;
          }

      pub stopped : {why : Refusal} → told ≡ Err why → refusal why ≡ typedef_run settings (lent_rows settings.endian s rows attrs n) levels i
      unfolding said_pause
      stopped p = sym (comes settings s rows attrs n (below_of levels) levels i run j l.within is p f) ∙ l.rest

      -- a specification, whose row was read
      module _ {pause : Pause} (p : told ≡ Ok (Some pause)) where
        paused : Paused settings s rows attrs n (below_of levels) levels i run j pause.at pause.row
        unfolding said_pause
        paused = comes settings s rows attrs n (below_of levels) levels i run j l.within is p

        pub level_left : 0 < levels
        level_left = paused.more

        pub row-asked : RowsHold rows n → Asked rows n pause.row
        row-asked table = record { table = table; there = paused.there }

        pub place-there : pause.at < run.count
        place-there = paused.within

        pub forward : run.count - (pause.at + 1) < run.count - j
        forward = omega (arith, paused.behind, paused.within)

        module _ {next : Result Typedef Refusal} (reads : said next ≡ typedef_run settings (lent_rows settings.endian s rows attrs n) (levels - 1) pause.row) where
          next-read : {what : Result Typedef Refusal} → next ≡ what
              → (said what >>= λ t. rest_from (pause.at + 1) (run.count - (pause.at + 1)) (first_filling f t)) ≡ typedef_run settings (lent_rows settings.endian s rows attrs n) levels i
          next-read q =
              goes_on said (reads ∙ sym (below_less levels pause.row paused.more)) q _ refl ∙ sym (paused.goes f) ∙ l.rest

          pub again : {t : Typedef} {g : Option Typedef} → next ≡ Ok t → g ≡ first_filling f t → Loop g (pause.at + 1)
          unfolding said ◌>>=◌
          again q h =
              record {
                within = omega (arith, paused.within);
                rest = ap (rest_from (pause.at + 1) (run.count - (pause.at + 1))) h ∙ next-read q;
              }

          pub stopped-below : {why : Refusal} → next ≡ Err why → refusal why ≡ typedef_run settings (lent_rows settings.endian s rows attrs n) levels i
          unfolding said ◌>>=◌
          stopped-below q = next-read q
