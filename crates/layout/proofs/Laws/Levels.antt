-- What follows from the levels: the sizes of one level are noted from those of the level below, and a level where all are settled, or that changes nothing, is the last.
use Rattle.std.specs.Prelude.{Option, Some, None, Err}
use Rattle.format.specs.Said.{said}
use Prim.Native.Nat.{ℕ, zero, suc, ◌+◌, ◌-◌, ◌*◌, ◌≤◌, ◌<◌}
use native.Mathlib.Nat.{zero-add}
use native.Mathlib.Decide.{dec_le}
use native.Mathlib.Omega.{arith}
use mathlib.Core.Path.{◌≡◌, refl, sym, ap, ◌∙◌, subst, fun_ext}
use mathlib.Core.Bool.{Bool, true, false, not, cond, true≢false}
use mathlib.Core.List.{List}
use lib.ListN.{length, get_or, set, length-set}
use lib.Seq.{get_or-set_same, get_or-set_other}
use lib.Dec.{eqb}
use borrow.Author.Tests.{eq-eqb, ne_eqb}
use Rattle.format.specs.Said.{Said, gives, refuses, refuse, refusal, ◌>>=◌, ◌>>◌}
use Rattle.format.specs.declared.settings.Settings.{Settings}
use Rattle.format.specs.declared.refusal.Refusal.{Refusal}
use Rattle.format.specs.declared.refusal.Reason.TheVariants as reason
use Rattle.blocks.specs.declared.types.Type.{«Type»}
use Rattle.tables.specs.Table.{lent_rows}
use Rattle.tables.specs.Row.{row_at}
use Rattle.tables.specs.declared.row.Row.{Row}
use Rattle.tables.specs.Find.{row_of_key}
use Rattle.tables.proofs.Laws.Find.{row-found, row-of-own-key}
use Rattle.tables.specs.Inside.Keyed.{refused_at}
use Rattle.tables.specs.Keyed.{found_row}
use Rattle.sizes.specs.Size.{type_size_by, shape_of, shape_size, row_size, entry_size, type_size}
use Rattle.sizes.specs.Inside.Noted.{noted_width, noted_at, PutNoted}
use Rattle.sizes.proofs.Laws.Noted.{noted-same}
use Rattle.sizes.specs.Inside.Kept.{PartsKept, AllKept}
use Rattle.sizes.specs.Inside.Size.{TableReady, noted_found, entry_size_from, type_size_from}
use Rattle.sizes.proofs.Laws.Size.{entry_zero, entry_more, entry-none}
use Rattle.sizes.proofs.Laws.Stay.{Settled, size-stays}
use Rattle.numbers.proofs.Laws.Tests.{cond-all}
use Rattle.records.proofs.Laws.Fields.{by-told}
use Rattle.layout.specs.Inside.Levels.{deepest, last_level, settled, next_level, size_left, NotedUpTo, LevelFilled, TakenOver}
use Rattle.sizes.specs.declared.prepare.Shape.{Shape}
use Rattle.sizes.specs.declared.prepare.Shape.TheVariants as shape

-- ---- row after row

module _ (size_at : ℕ → Said ℕ) (n : ℕ) where
  pub filled_none : {noted : List ℕ} → n * noted_width ≤ length noted → NotedUpTo size_at n 0 noted
  filled_none h = record { fits = h; each = λ i l. absurd (omega (arith, l)) }

  pub filled_more : {noted noted' : List ℕ} {k : ℕ} {size : Said ℕ} → NotedUpTo size_at n k noted → PutNoted k size noted noted' → size ≡ size_at k
      → NotedUpTo size_at n (k + 1) noted'
  filled_more {noted} {noted'} {k} {size} w g p =
      record {
        fits = omega (arith, w.fits, g.same_long);
        each = λ i l. elim (dec_le k i) [
          | yes h ↦ let same : i ≡ k = omega arith in subst (λ (j : ℕ). noted_at noted' j ≡ size_at j) (sym same) (g.here ∙ p)
          | no h ↦ g.others i (λ z. omega (arith, z)) ∙ w.each i (omega arith)
        ];
      }

  pub filled-all : {noted : List ℕ} {k : ℕ} → NotedUpTo size_at n k noted → n ≤ k → NotedUpTo size_at n n noted
  filled-all w h = record { fits = w.fits; each = λ i l. w.each i (omega arith) }

  -- and whether all are settled
  pub level-none : {noted : List ℕ} {all : Bool} → n * noted_width ≤ length noted → LevelFilled size_at n 0 noted all
  level-none h = record { filled = filled_none h; stay = λ t i l. absurd (omega (arith, l)) }

  pub level-row : {noted noted' : List ℕ} {all all' : Bool} {k : ℕ} {size : Said ℕ} → LevelFilled size_at n k noted all → PutNoted k size noted noted'
      → size ≡ size_at k → all' ≡ cond all (settled size) false → LevelFilled size_at n (k + 1) noted' all'
  level-row {noted} {noted'} {all} {all'} {k} {size} w g p q =
      record {
        filled = filled_more w.filled g p;
        stay = λ t i l. elim (dec_le k i) [
          | yes h ↦ let same : i ≡ k = omega arith in ap (λ (j : ℕ). settled (size_at j)) same ∙ ap settled (sym p) ∙ (both all (sym q ∙ t)).1
          | no h ↦ w.stay (both all (sym q ∙ t)).0 i (omega arith)
        ];
      }
    where
      both : (b : Bool) {c : Bool} → cond b c false ≡ true → (b ≡ true) × (c ≡ true)
      both true t = (refl, t)
      both false t = absurd (true≢false (sym t))

  pub level-whole : {noted : List ℕ} {all : Bool} {k : ℕ} → LevelFilled size_at n k noted all → n ≤ k → LevelFilled size_at n n noted all
  level-whole w h = record { filled = filled-all w.filled h; stay = λ t i l. w.stay t i (omega arith) }

-- what is kept of rows, with sizes that are noted
pub noted-kept : {settings : Settings} {sizes s rows attrs : List ℕ} {n : ℕ} {noted kept : List ℕ} → PartsKept settings sizes s rows attrs n kept
    → n * noted_width ≤ length noted → AllKept settings sizes s rows attrs n noted kept
noted-kept parts fits = record { parts = parts; paired = λ i l h. omega (arith, l, fits) }

-- ---- a size that is settled

settled_is : (x : Said ℕ) → settled x ≡ true → Settled x
unfolding settled
settled_is (gives size) t = tt
settled_is (refuses number place counts) t = λ z. true≢false (sym t ∙ ap not (eq-eqb number 10 z))

module _ (noted : List ℕ) (i : ℕ) {size : Said ℕ} {b : Bool} (at : size ≡ noted_at noted i) (is : b ≡ settled size) (settings : Settings) (sizes s rows attrs : List ℕ) (n : ℕ) where
  test-is : {x : Bool} → b ≡ x → settled (noted_at noted i) ≡ x
  test-is t = ap settled (sym at) ∙ sym is ∙ t

  pub next-kept : b ≡ true → size ≡ next_level settings sizes s rows attrs n noted i
  unfolding next_level
  next-kept t = at ∙ sym (rw (test-is t))

  pub next-taken : b ≡ false → {r : Said ℕ} → r ≡ row_size settings (lent_rows settings.endian s rows attrs n) (type_size_from settings sizes s rows attrs n noted 0) i → r ≡ next_level settings sizes s rows attrs n noted i
  unfolding next_level
  next-taken t p = p ∙ sym (rw (test-is t))

  -- a row whose kind has no size
  pub next-other : b ≡ false → {row : Row} {x : Shape} {why : Refusal} → row ≡ row_at rows i → x ≡ shape_of row.kind → x ≡ shape.Other
      → why ≡ refused_at row.key reason.Kind → said (Err why) ≡ next_level settings sizes s rows attrs n noted i
  unfolding said row_size shape_size
  next-other t p is o q =
      next-taken t
      (by-told (shape_size settings (lent_rows settings.endian s rows attrs n) (type_size_from settings sizes s rows attrs n noted 0) i) (is ∙ ap (λ (r : Row). shape_of r.kind) p) o
      (ap refusal (q ∙ ap (λ (r : Row). refused_at r.key reason.Kind) p)))

-- ---- the sizes of a level are those that the next asks for

module _ (settings : Settings) (sizes s rows attrs : List ℕ) (n : ℕ) (ready : TableReady s rows n) where
  own_key : (i : ℕ) → i < n → row_of_key rows n (row_at rows i).key ≡ Some i
  own_key i l = row-of-own-key ready.table.rising i l

  -- what holds of each row's size holds of every key's
  key-sizes : {entry : ℕ → Said ℕ} (levels : ℕ) → ((i : ℕ) → i < n → entry (row_at rows i).key ≡ size_left settings sizes s rows attrs n levels i)
      → ((key : ℕ) → row_of_key rows n key ≡ None → entry key ≡ refuse reason.Entry key)
      → entry ≡ entry_size settings sizes (lent_rows settings.endian s rows attrs n) levels
  unfolding size_left
  key-sizes {entry} levels each none = fun_ext (λ key. by-found key (row_of_key rows n key) refl)
    where
      by-found : (key : ℕ) (f : (Option ℕ)) → row_of_key rows n key ≡ f → entry key ≡ entry_size settings sizes (lent_rows settings.endian s rows attrs n) levels key
      by-found key (Some i) p =
          let here : (i < n) × ((row_at rows i).key ≡ key) = row-found rows n key p in
          subst (λ (k : ℕ). entry k ≡ entry_size settings sizes (lent_rows settings.endian s rows attrs n) levels k) here.1 (each i here.0)
      by-found key None p = none key p ∙ sym (entry-none settings sizes s rows attrs n levels key p)

  module _ {noted : List ℕ} (levels : ℕ) (w : NotedUpTo (size_left settings sizes s rows attrs n levels) n n noted) (some : 0 < length noted) where
    noted-entries : (left : ℕ) → entry_size_from settings sizes s rows attrs n noted left ≡ entry_size settings sizes (lent_rows settings.endian s rows attrs n) levels
    unfolding entry_size_from noted_found found_row ◌>>=◌
    noted-entries left =
        let test : eqb (length noted) 0 ≡ false = ne_eqb (length noted) 0 (λ z. omega (arith, z)) in
        key-sizes levels (λ i l. rw test (noted-row i l)) (λ key p. rw test (noted-none key p))
      where
        noted-row : (i : ℕ) → i < n → noted_found noted (row_at rows i).key (row_of_key rows n (row_at rows i).key) ≡ size_left settings sizes s rows attrs n levels i
        noted-row i l = ap (noted_found noted (row_at rows i).key) (own_key i l) ∙ w.each i l

        noted-none : (key : ℕ) → row_of_key rows n key ≡ None → noted_found noted key (row_of_key rows n key) ≡ refuse reason.Entry key
        noted-none key p = ap (noted_found noted key) p

    -- with noted sizes a type has the size that it has with the levels left
    pub noted-types : (left : ℕ) → type_size_from settings sizes s rows attrs n noted left ≡ type_size settings sizes (lent_rows settings.endian s rows attrs n) levels
    unfolding type_size_from type_size
    noted-types left = ap (type_size_by sizes) (noted-entries left)

  -- no level is left
  pub level-last : {noted : List ℕ} → NotedUpTo (last_level rows) n n noted → NotedUpTo (size_left settings sizes s rows attrs n 0) n n noted
  unfolding last_level size_left found_row ◌>>◌
  level-last w =
      record { fits = w.fits; each = λ i l. w.each i l ∙ sym (entry_zero settings sizes s rows attrs n (row_at rows i).key (own_key i l)) }

  -- one level more
  pub level-more : {noted next : List ℕ} (levels : ℕ) → NotedUpTo (size_left settings sizes s rows attrs n levels) n n noted
      → NotedUpTo (next_level settings sizes s rows attrs n noted) n n next → NotedUpTo (size_left settings sizes s rows attrs n (suc levels)) n n next
  unfolding next_level size_left found_row ◌>>=◌
  level-more {noted} {next} levels w g =
      record {
        fits = g.fits;
        each = λ i l. g.each i l
            ∙ cond-all (λ (x : Said ℕ). x ≡ entry_size settings sizes (lent_rows settings.endian s rows attrs n) (suc levels) (row_at rows i).key) (settled (noted_at noted i))
            (λ t. w.each i l ∙ sym (size-stays settings sizes s rows attrs n levels (row_at rows i).key (subst Settled (w.each i l) (settled_is (noted_at noted i) t))))
            (λ t. ap (λ (f : «Type» → Said ℕ). row_size settings (lent_rows settings.endian s rows attrs n) f i) (noted-types levels w (omega (arith, w.fits, l)) 0)
            ∙ sym (entry_more settings sizes s rows attrs n levels (row_at rows i).key (own_key i l)));
      }

  -- ---- a level that changes nothing

  abbrev one_more : (ℕ → Said ℕ) → ℕ → Said ℕ
  one_more entry key = found_row key (row_of_key rows n key) >>= row_size settings (lent_rows settings.endian s rows attrs n) (type_size_by sizes entry)

  same_above : (levels : ℕ) → entry_size settings sizes (lent_rows settings.endian s rows attrs n) levels ≡ entry_size settings sizes (lent_rows settings.endian s rows attrs n) (suc levels)
      → (k : ℕ) → entry_size settings sizes (lent_rows settings.endian s rows attrs n) (k + levels) ≡ entry_size settings sizes (lent_rows settings.endian s rows attrs n) levels
  unfolding entry_size
  same_above levels p zero = ap (entry_size settings sizes (lent_rows settings.endian s rows attrs n)) (zero-add levels)
  same_above levels p (suc k) =
      let up : suc k + levels ≡ suc (k + levels) = omega arith in
      ap (entry_size settings sizes (lent_rows settings.endian s rows attrs n)) up ∙ ap one_more (same_above levels p k) ∙ sym p

  fixed-above : (levels most : ℕ) → entry_size settings sizes (lent_rows settings.endian s rows attrs n) levels ≡ entry_size settings sizes (lent_rows settings.endian s rows attrs n) (suc levels) → levels ≤ most
      → entry_size settings sizes (lent_rows settings.endian s rows attrs n) levels ≡ entry_size settings sizes (lent_rows settings.endian s rows attrs n) most
  fixed-above levels most p h =
      let up : (most - levels) + levels ≡ most = omega arith in
      sym (ap (entry_size settings sizes (lent_rows settings.endian s rows attrs n)) (sym up) ∙ same_above levels p (most - levels))

  -- all are settled: so it is with every level above
  pub level-final : {noted : List ℕ} (levels most : ℕ) → NotedUpTo (size_left settings sizes s rows attrs n levels) n n noted
      → ((i : ℕ) → i < n → settled (noted_at noted i) ≡ true) → levels ≤ most → NotedUpTo (size_left settings sizes s rows attrs n most) n n noted
  unfolding size_left
  level-final {noted} levels most w all h =
      let fixed : entry_size settings sizes (lent_rows settings.endian s rows attrs n) levels ≡ entry_size settings sizes (lent_rows settings.endian s rows attrs n) (suc levels) =
      key-sizes (suc levels)
      (λ i l. sym (size-stays settings sizes s rows attrs n levels (row_at rows i).key (subst Settled (w.each i l) (settled_is (noted_at noted i) (all i l)))))
      (λ key p. entry-none settings sizes s rows attrs n levels key p) in
      record { fits = w.fits; each = λ i l. w.each i l ∙ ap (λ (f : ℕ → Said ℕ). f (row_at rows i).key) (fixed-above levels most fixed h) }

  module _ {noted next noted' : List ℕ} (levels : ℕ) {same : Bool} (w : NotedUpTo (size_left settings sizes s rows attrs n levels) n n noted)
      (g : TakenOver (n * noted_width) noted next same noted') where
    over-same : (i : ℕ) → i < n → noted_at noted' i ≡ noted_at next i
    over-same i l = noted-same noted' next i (g.taken (i * 3) (omega arith)) (g.taken (i * 3 + 1) (omega arith)) (g.taken (i * 3 + 2) (omega arith))

    -- what was taken over is noted
    pub level-over : {size_at : ℕ → Said ℕ} → NotedUpTo size_at n n next → NotedUpTo size_at n n noted'
    level-over v = record { fits = omega (arith, w.fits, g.same_long); each = λ i l. over-same i l ∙ v.each i l }

    -- nothing changed: so it is with every level above
    pub level-settled : (most : ℕ) → NotedUpTo (size_left settings sizes s rows attrs n (suc levels)) n n next → same ≡ true → levels ≤ most
        → NotedUpTo (size_left settings sizes s rows attrs n most) n n noted'
    unfolding size_left
    level-settled most v t h =
        let fixed : entry_size settings sizes (lent_rows settings.endian s rows attrs n) levels ≡ entry_size settings sizes (lent_rows settings.endian s rows attrs n) (suc levels) =
        key-sizes (suc levels) (λ i l. sym (w.each i l) ∙ ap (λ (u : List ℕ). noted_at u i) (sym (g.kept t)) ∙ over-same i l ∙ v.each i l)
        (λ key p. entry-none settings sizes s rows attrs n levels key p) in
        record {
          fits = omega (arith, w.fits, g.same_long);
          each = λ i l. ap (λ (u : List ℕ). noted_at u i) (g.kept t) ∙ w.each i l ∙ ap (λ (f : ℕ → Said ℕ). f (row_at rows i).key) (fixed-above levels most fixed h);
        }

-- ---- level after level

pub record Levelling (settings : Settings) (sizes s rows attrs : List ℕ) (n : ℕ) (noted₀ next₀ noted next : List ℕ) (level : ℕ) : Type 0 where
  pub ready : TableReady s rows n
  pub within : level ≤ deepest
  pub filled : NotedUpTo (size_left settings sizes s rows attrs n level) n n noted
  pub next_fits : n * noted_width ≤ length next
  pub same_noted : length noted ≡ length noted₀
  pub same_next : length next ≡ length next₀

pub levelling-begins : (settings : Settings) (sizes s rows attrs : List ℕ) (n : ℕ) {noted₀ next noted : List ℕ} → TableReady s rows n → n * noted_width ≤ length next
    → NotedUpTo (last_level rows) n n noted → length noted ≡ length noted₀ → Levelling settings sizes s rows attrs n noted₀ next noted next 0
levelling-begins settings sizes s rows attrs n ready fits w e =
    record {
      ready = ready;
      within = omega arith;
      filled = level-last settings sizes s rows attrs n ready w;
      next_fits = fits;
      same_noted = e;
      same_next = refl;
    }

module _ {settings : Settings} {sizes s rows attrs : List ℕ} {n : ℕ} {noted₀ next₀ noted next : List ℕ} {level : ℕ}
    (w : Levelling settings sizes s rows attrs n noted₀ next₀ noted next level) {next' noted' : List ℕ} {all same : Bool}
    (g : LevelFilled (next_level settings sizes s rows attrs n noted) n n next' all) (over : TakenOver (n * noted_width) noted next' same noted') where
  above : NotedUpTo (size_left settings sizes s rows attrs n (suc level)) n n next'
  above = level-more settings sizes s rows attrs n w.ready level w.filled g.filled

  pub levelling-on : level < deepest → length next' ≡ length next → Levelling settings sizes s rows attrs n noted₀ next₀ noted' next' (level + 1)
  levelling-on l e =
      let one : suc level ≡ level + 1 = omega arith in
      record {
        ready = w.ready;
        within = omega arith;
        filled =
            subst (λ (k : ℕ). NotedUpTo (size_left settings sizes s rows attrs n k) n n noted') one
            (level-over settings sizes s rows attrs n w.ready level w.filled over above);
        next_fits = g.filled.fits;
        same_noted = over.same_long ∙ w.same_noted;
        same_next = e ∙ w.same_next;
      }

  pub levelling-settled : same ≡ true → NotedUpTo (size_left settings sizes s rows attrs n deepest) n n noted'
  levelling-settled t = level-settled settings sizes s rows attrs n w.ready level w.filled over deepest above t w.within

  pub levelling-all : level < deepest → all ≡ true → NotedUpTo (size_left settings sizes s rows attrs n deepest) n n noted'
  levelling-all l t =
      let upper : suc level ≤ deepest = omega arith in
      level-over settings sizes s rows attrs n w.ready level w.filled over
      (level-final settings sizes s rows attrs n w.ready (suc level) deepest above (λ i h. ap settled (g.filled.each i h) ∙ g.stay t i h) upper)

pub levelling-ends : {settings : Settings} {sizes s rows attrs : List ℕ} {n : ℕ} {noted₀ next₀ noted next : List ℕ} {level : ℕ}
    → Levelling settings sizes s rows attrs n noted₀ next₀ noted next level → deepest ≤ level → NotedUpTo (size_left settings sizes s rows attrs n deepest) n n noted
levelling-ends {settings} {sizes} {s} {rows} {attrs} {n} {noted₀} {next₀} {noted} {next} {level} w h =
    let top : level ≡ deepest = omega (arith, w.within) in
    subst (λ (k : ℕ). NotedUpTo (size_left settings sizes s rows attrs n k) n n noted) top w.filled

-- ---- taking words over

pub record Taking (words : ℕ) (noted₀ next noted : List ℕ) (same : Bool) (k : ℕ) : Type 0 where
  pub within : k ≤ words
  pub taken : (j : ℕ) → j < k → get_or noted j 0 ≡ get_or next j 0
  pub same_long : length noted ≡ length noted₀
  pub kept : same ≡ true → noted ≡ noted₀

module _ {words : ℕ} {noted₀ next noted : List ℕ} {same : Bool} {k : ℕ} (w : Taking words noted₀ next noted same k) (l : k < words) where
  taken-on : (noted' : List ℕ) → ((j : ℕ) → j < k → get_or noted' j 0 ≡ get_or noted j 0) → get_or noted' k 0 ≡ get_or next k 0
      → (j : ℕ) → j < k + 1 → get_or noted' j 0 ≡ get_or next j 0
  taken-on noted' before here j h =
      elim (dec_le k j) [
        | yes m ↦ let at : j ≡ k = omega arith in subst (λ (i : ℕ). get_or noted' i 0 ≡ get_or next i 0) (sym at) here
        | no m ↦ before j (omega arith) ∙ w.taken j (omega arith)
      ]

  pub taking-same : {noted' : List ℕ} {same' : Bool} → noted' ≡ noted → same' ≡ same → get_or noted k 0 ≡ get_or next k 0 → Taking words noted₀ next noted' same' (k + 1)
  taking-same {noted'} {same'} p q e =
      record {
        within = omega arith;
        taken = taken-on noted' (λ j h. ap (λ (u : List ℕ). get_or u j 0) p) (ap (λ (u : List ℕ). get_or u k 0) p ∙ e);
        same_long = ap length p ∙ w.same_long;
        kept = λ t. p ∙ w.kept (sym q ∙ t);
      }

  pub taking-other : {noted' : List ℕ} {same' : Bool} → words ≤ length noted₀ → noted' ≡ set noted k (get_or next k 0) → same' ≡ false
      → Taking words noted₀ next noted' same' (k + 1)
  taking-other {noted'} {same'} fits p q =
      record {
        within = omega arith;
        taken =
            taken-on noted' (λ j h. ap (λ (u : List ℕ). get_or u j 0) p ∙ get_or-set_other noted k j (get_or next k 0) 0 (λ z. omega (arith, z, h)))
            (ap (λ (u : List ℕ). get_or u k 0) p ∙ get_or-set_same noted k (get_or next k 0) 0 (omega (arith, w.same_long)));
        same_long = ap length p ∙ length-set noted k (get_or next k 0) ∙ w.same_long;
        kept = λ t. absurd (true≢false (sym t ∙ q));
      }

pub taking-begins : (words : ℕ) (noted next : List ℕ) → Taking words noted next noted true 0
taking-begins words noted next = record { within = omega arith; taken = λ j h. absurd (omega (arith, h)); same_long = refl; kept = λ t. refl }

pub taking-ends : {words : ℕ} {noted₀ next noted : List ℕ} {same : Bool} {k : ℕ} → Taking words noted₀ next noted same k → words ≤ k
    → TakenOver words noted₀ next same noted
taking-ends w h = record { taken = λ j l. w.taken j (omega arith); same_long = w.same_long; kept = w.kept }
