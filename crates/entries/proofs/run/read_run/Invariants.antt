use Rattle.entries.proofs.Laws.Run.{Loop}
use Prim.Native.Nat.{◌-◌}
use Rattle.entries.proofs.run.read_run.Given as goal

abbrev pub invariant-loop-place : goal.invariant-loop-place
invariant-loop-place l = Loop l.r.vendors.now l.r.global l.r.section.now l.e l.root l.end l.at l.attrs l.initial.table l.table l.place l.n l.high

abbrev pub decreases-loop-place : goal.decreases-loop-place
decreases-loop-place l = l.end - l.place
