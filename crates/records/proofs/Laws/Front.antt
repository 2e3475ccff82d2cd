-- What follows from `Front`, for each way that the code comes to an answer; for callers, what a fault makes of an answer.
use Rattle.std.specs.Prelude.{Some, None}
use Prim.Native.Nat.{ℕ}
use mathlib.Core.Path.{◌≡◌, refl, sym, ap, ◌∙◌}
use mathlib.Core.Bool.{Bool, true, false, not, not-not}
use mathlib.Core.List.{List}
use lib.ListN.{length}
use lib.Dec.{eqb}
use Rattle.numbers.specs.declared.Endian.{Endian}
use Rattle.format.specs.declared.refusal.Reason.TheVariants as reason
use Rattle.tables.specs.Table.{lent_rows}
use Rattle.tables.specs.Row.{row_at}
use Rattle.links.specs.Walk.{Walk}
use Rattle.links.specs.Links.{child_walk, non_null}
use Rattle.links.specs.Inside.EachChild.{rows_met}
use Rattle.links.specs.Inside.AnyChild.{gone_over}
use Rattle.links.proofs.Laws.AnyChild.{ended-walk, ended-any, endless-walk}
use Rattle.format.specs.Said.{gives, refuse, must}
use Rattle.records.specs.Front.{childless_fault}

-- ---- no children

module _ (e : Endian) (s rows attrs : List ℕ) (n i : ℕ) where
  abbrev walk : Walk
  walk = child_walk (lent_rows e s rows attrs n) i

  none-met : {any : Bool} → gone_over rows false walk ≡ Some any → eqb (length (non_null rows (rows_met walk))) 0 ≡ not any
  none-met p = sym (not-not _) ∙ ap not (sym (ended-any e s rows attrs n i refl p))

  pub childless : gone_over rows false (child_walk (lent_rows e s rows attrs n) i) ≡ Some false
      → childless_fault rows i (child_walk (lent_rows e s rows attrs n) i) ≡ gives tt
  unfolding childless_fault must
  childless p = rw (ended-walk e s rows attrs n i refl p, none-met p)

  pub has-children : gone_over rows false (child_walk (lent_rows e s rows attrs n) i) ≡ Some true
      → childless_fault rows i (child_walk (lent_rows e s rows attrs n) i) ≡ refuse reason.Child (row_at rows i).key
  unfolding childless_fault must
  has-children p = rw (ended-walk e s rows attrs n i refl p, none-met p)

  pub endless-children : gone_over rows false (child_walk (lent_rows e s rows attrs n) i) ≡ None
      → childless_fault rows i (child_walk (lent_rows e s rows attrs n) i) ≡ refuse reason.Link (row_at rows i).key
  unfolding childless_fault
  endless-children p = rw (endless-walk e s rows attrs n i refl p)

pub ruleset children = (childless, has-children, endless-children)
