-- The size of an entry by a table of noted sizes, which may be empty: where it is, the entry's own size is what is told.
use Rattle.std.specs.Prelude.{Option, Some, None, Err}
use Prim.Native.Nat.{ℕ, suc, ◌-◌, ◌≤◌, ◌<◌}
use native.Mathlib.Omega.{arith}
use mathlib.Core.Path.{◌≡◌, sym, ap, ◌∙◌}
use mathlib.Core.Bool.{Bool, true, false, cond}
use mathlib.Core.List.{List}
use lib.ListN.{length}
use lib.Dec.{eqb}
use borrow.Author.Tests.{eq-eqb, ne_eqb}
use Rattle.tables.specs.Table.{lent_rows}
use Rattle.numbers.proofs.Laws.Tests.{cond-all}
use Rattle.format.specs.Said.{Said, refusal, ◌>>=◌, ◌>>◌, said}
use Rattle.format.specs.declared.settings.Settings.{Settings}
use Rattle.format.specs.declared.refusal.Refusal.{Refusal}
use Rattle.format.specs.declared.refusal.Reason.TheVariants as reason
use Rattle.tables.specs.Find.{row_of_key}
use Rattle.tables.specs.Keyed.{found_row}
use Rattle.tables.specs.Inside.Keyed.{refused_at}
use Rattle.sizes.specs.Size.{type_size_by, row_size, entry_size, type_size}
use Rattle.sizes.specs.Inside.Noted.{noted_at}
use Rattle.sizes.specs.Inside.Size.{noted_found, entry_size_from, type_size_from}
use Rattle.sizes.proofs.Laws.Size.{entry_zero, entry_more, entry-none}

module _ (settings : Settings) (sizes s rows attrs : List ℕ) (n : ℕ) where
  -- the same of any table of noted sizes that is empty, for an entry that asks for types
  plain_entry : (noted : List ℕ) (levels i : ℕ) → eqb (length noted) 0 ≡ true
      → row_size settings (lent_rows settings.endian s rows attrs n) (type_size_from settings sizes s rows attrs n noted levels) i
      ≡ row_size settings (lent_rows settings.endian s rows attrs n) (type_size settings sizes (lent_rows settings.endian s rows attrs n) levels) i
  unfolding type_size_from type_size entry_size_from
  plain_entry noted levels i h =
      ap (λ (b : Bool). row_size settings (lent_rows settings.endian s rows attrs n)
      (type_size_by sizes (λ key. cond b (entry_size settings sizes (lent_rows settings.endian s rows attrs n) levels key) (noted_found noted key (row_of_key rows n key)))) i) h

  module _ (noted : List ℕ) (levels key : ℕ) {f : Option ℕ} (is : f ≡ row_of_key rows n key) where
    pub entry-noted : {i : ℕ} {z : Said ℕ} → f ≡ Some i → 0 < length noted → z ≡ noted_at noted i → z ≡ entry_size_from settings sizes s rows attrs n noted levels key
    unfolding entry_size_from noted_found found_row ◌>>=◌
    entry-noted p h q =
        let test : eqb (length noted) 0 ≡ false = ne_eqb (length noted) 0 (λ z. omega (arith, z)) in
        q ∙ ap (noted_found noted key) (sym p ∙ is) ∙ sym (rw test)

    pub entry-missing : {why : Refusal} → f ≡ None → why ≡ refused_at key reason.Entry
        → said (Err why) ≡ entry_size_from settings sizes s rows attrs n noted levels key
    unfolding entry_size_from noted_found found_row said ◌>>=◌
    entry-missing {why} p q =
        cond-all (λ (x : Said ℕ). refusal why ≡ x) (eqb (length noted) 0) (λ t. ap refusal q ∙ sym (entry-none settings sizes s rows attrs n levels key (sym is ∙ p)))
        (λ t. ap refusal q ∙ ap (noted_found noted key) (sym p ∙ is))

    module _ {i : ℕ} (p : f ≡ Some i) (h : length noted ≤ 0) where
      none-noted : eqb (length noted) 0 ≡ true
      none-noted = eq-eqb (length noted) 0 (omega arith)

      entry-left : entry_size settings sizes (lent_rows settings.endian s rows attrs n) levels key ≡ entry_size_from settings sizes s rows attrs n noted levels key
      unfolding entry_size_from
      entry-left = sym (rw none-noted)

      pub entry-deep : levels ≡ 0 → {why : Refusal} → why ≡ refused_at key reason.Depth
          → said (Err why) ≡ entry_size_from settings sizes s rows attrs n noted levels key
      unfolding found_row said ◌>>◌
      entry-deep z q =
          ap refusal q ∙ sym (entry_zero settings sizes s rows attrs n key (sym is ∙ p)) ∙ ap (λ (l : ℕ). entry_size settings sizes (lent_rows settings.endian s rows attrs n) l key) (sym z) ∙ entry-left

      pub entry_row : (levels ≡ 0 → ⊥) → {z : Said ℕ}
          → z ≡ row_size settings (lent_rows settings.endian s rows attrs n) (type_size_from settings sizes s rows attrs n noted (levels - 1)) i
          → z ≡ entry_size_from settings sizes s rows attrs n noted levels key
      unfolding found_row ◌>>=◌
      entry_row z q =
          let one : suc (levels - 1) ≡ levels = omega (arith, z) in
          q ∙ plain_entry noted (levels - 1) i none-noted ∙ sym (entry_more settings sizes s rows attrs n (levels - 1) key (sym is ∙ p))
          ∙ ap (λ (l : ℕ). entry_size settings sizes (lent_rows settings.endian s rows attrs n) l key) one ∙ entry-left
