-- The children of a row taken one at a time, whatever comes of them: a loop whose answer is a function of the children that are left.
use Prim.Native.Nat.{ℕ, suc, ◌≤◌, ◌<◌}
use native.Mathlib.Omega.{arith}
use mathlib.Core.Path.{◌≡◌, sym, ap, ◌∙◌, subst}
use mathlib.Core.List.{List, [], ◌∷◌}
use lib.ListN.{length}
use Rattle.tables.specs.Table.{lent_rows}
use Rattle.numbers.specs.declared.Endian.{Endian}
use Rattle.links.specs.Links.{sibling_row, next_row}
use Rattle.links.specs.Inside.EachChild.{children_from, children_at, Ends, first_or}
use Rattle.links.proofs.Laws.EachChild.{children-more, ends_more, children-none, children-same, ends_same, first-same, children-at, ends_at}
use Rattle.links.specs.Inside.Children.{Asked}
use Rattle.records.specs.Inside.Unions.{EndsAt}

-- from child c on, what is left comes to the whole
pub record Walking {A : Type 0} (e : Endian) (s rows attrs : List ℕ) (n end : ℕ) (f : List ℕ → A) (all : A) (c : ℕ) : Type 0 where
  pub on : Ends e s rows attrs n end c
  pub first : c ≡ first_or n (children_from e s rows attrs n end c)
  pub left : f (children_from e s rows attrs n end c) ≡ all

-- from any row on from which the walk ends
pub walking-from : {e : Endian} {s rows attrs : List ℕ} {n : ℕ} {A : Type 0} (f : List ℕ → A) {end from c : ℕ} → Ends e s rows attrs n end from
    → c ≡ first_or n (children_from e s rows attrs n end from) → Walking e s rows attrs n end f (f (children_from e s rows attrs n end from)) c
walking-from {e} {s} {rows} {attrs} {n} f {end} begun is =
    record {
      on = ends_same e s rows attrs n end begun is;
      first = first-same e s rows attrs n end begun is;
      left = ap f (children-same e s rows attrs n end begun is);
    }

pub walking-begins : (e : Endian) (s rows attrs : List ℕ) (n i : ℕ) {A : Type 0} (f : List ℕ → A) {end from c : ℕ} → end ≡ sibling_row (lent_rows e s rows attrs n) i
    → from ≡ next_row rows n i → EndsAt e s rows attrs n i → c ≡ first_or n (children_from e s rows attrs n end from)
    → Walking e s rows attrs n end f (f (children_at e s rows attrs n i)) c
walking-begins e s rows attrs n i f {end} {from} {c} p q w is =
    subst (λ (cs : List ℕ). Walking e s rows attrs n end f (f cs) c) (children-at e s rows attrs n i p q)
    (walking-from f (ends_at e s rows attrs n i p q w.ending) is)

module _ {e : Endian} {s rows attrs : List ℕ} {n end : ℕ} {A : Type 0} {f : List ℕ → A} {all : A} {c : ℕ} (w : Walking e s rows attrs n end f all c) where
  abbrev children_now : ℕ → List ℕ
  children_now x = children_from e s rows attrs n end x

  abbrev after : ℕ → ℕ
  after x = sibling_row (lent_rows e s rows attrs n) x

  -- no child is left
  pub walking-ends : n ≤ c → f [] ≡ all
  walking-ends l = ap f (sym (children-none e s rows attrs n end w.on w.first l)) ∙ w.left

  module _ (l : c < n) where
    pub walking-asked : Asked rows n c
    walking-asked = record { table = w.on.table; there = l }

    -- child c, and those after it
    pub walking_here : f (c ∷ children_now (after c)) ≡ all
    walking_here = ap f (sym (children-more e s rows attrs n end w.on w.first l)) ∙ w.left

    -- it is one of them
    pub walking-one : length (children_now c) ≡ suc (length (children_now (after c)))
    walking-one = ap length (children-more e s rows attrs n end w.on w.first l)

    -- what child c decides, whichever come after it
    pub walking-stops : {r : A} → ((cs : List ℕ) → r ≡ f (c ∷ cs)) → r ≡ all
    walking-stops h = h (children_now (after c)) ∙ walking_here

    pub walking-ending : {d : ℕ} → d ≡ after c → Ends e s rows attrs n end d
    walking-ending p = subst (Ends e s rows attrs n end) (sym p) (ends_more e s rows attrs n end w.on w.first l)

    module _ {d c' : ℕ} (p : d ≡ after c) (is : c' ≡ first_or n (children_now d)) where
      rest-is : children_now c' ≡ children_now (after c)
      rest-is = children-same e s rows attrs n end (walking-ending p) is ∙ ap children_now p

      -- fewer children are left
      pub walking-less : length (children_now c') < length (children_now c)
      walking-less =
          let some : length (children_now c) ≡ suc (length (children_now (after c))) = walking-one in
          let same : length (children_now c') ≡ length (children_now (after c)) = ap length rest-is in
          omega arith

      -- what is to be done after child c
      pub walking_on : {g : List ℕ → A} → ((cs : List ℕ) → g cs ≡ f (c ∷ cs)) → Walking e s rows attrs n end g all c'
      walking_on {g} h =
          record {
            on = ends_same e s rows attrs n end (walking-ending p) is;
            first = first-same e s rows attrs n end (walking-ending p) is;
            left = ap g rest-is ∙ h (children_now (after c)) ∙ walking_here;
          }
