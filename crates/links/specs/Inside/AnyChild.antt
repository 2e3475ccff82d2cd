-- Whether a walk meets a child, for callers that keep none.
use Rattle.std.specs.Prelude.{Option, Some, None, ℕ, Bool, not, ◌||◌, List, length, eqb}
use Rattle.links.specs.Walk.{Walk, ends, endless}
use Rattle.links.specs.Links.{non_null}

-- what going over a walk comes to, with a child met before or none: it ends, and one was met by then or none was; or it never ends
unfoldable pub gone_over : List ℕ → Bool → Walk → Option Bool
gone_over rows met (ends cs) = Some (met || not (eqb (length (non_null rows cs)) 0))
gone_over rows met endless = None
