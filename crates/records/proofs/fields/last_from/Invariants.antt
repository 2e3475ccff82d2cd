use Rattle.std.specs.Prelude.{◌≡◌}
use Rattle.records.specs.Fields.{last_from}
use Rattle.records.proofs.fields.last_from.Given as goal

abbrev pub invariant-loop-k : goal.invariant-loop-k
invariant-loop-k l = last_from l.sought l.attrs l.first l.k ≡ last_from l.sought l.attrs l.first l.count
