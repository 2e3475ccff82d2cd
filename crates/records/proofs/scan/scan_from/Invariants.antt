use Rattle.std.specs.Prelude.{◌≡◌, ◌-◌}
use Rattle.records.specs.Inside.Scan.{scan_from}
use Rattle.records.proofs.scan.scan_from.Given as goal

abbrev pub invariant-loop-j : goal.invariant-loop-j
invariant-loop-j l = scan_from l.roles l.which l.run l.s l.attrs l.j (l.run.count - l.j) ≡ scan_from l.roles l.which l.run l.s l.attrs l.from (l.run.count - l.from)
