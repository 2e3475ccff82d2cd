use Rattle.records.proofs.Laws.Enumeration.{given-members, given-room, first-short, second-short}
use Rattle.records.proofs.enumeration.give_enumeration.Goals as goal
use Rattle.records.proofs.enumeration.give_enumeration.Goals.{then-found-values-via-then-found-values, then-found-values-via-else-found-values+then-found-names}

pub returns-then-found-values : goal.returns-then-found-values
returns-then-found-values c =
    given-room _ _ _ _ _ _ c.enumeration_at.ensures _ _ c.in_ok-found.was
    (elim c.then-found-values.branch [
      | then-found-values-via-then-found-values w ↦ first-short _ _ _ w.if-found-values.true
      | then-found-values-via-else-found-values+then-found-names w ↦ second-short _ _ _ w.if-found-values.false w.if-found-names.true
    ])

pub returns : goal.returns
returns c =
    given-members _ _ _ _ _ _ c.enumeration_at.ensures _ _ c.in_ok-found.was c.if-found-values.false c.if-found-names.false c.is_gcc.ensures
    c.read_enumeration.ensures
