use Rattle.entries.proofs.Laws.Walk.{Loop}
use Prim.Native.Nat.{◌-◌}
use Rattle.entries.proofs.walk.+read_tags.Given as goal

abbrev pub decreases-read_tags : goal.decreases-read_tags
decreases-read_tags l = l.levels

abbrev pub invariant-loop-state : goal.invariant-loop-state
invariant-loop-state l =
    Loop l.r.vendors.now l.r.global l.r.erased l.r.section.now l.levels l.mode.erased l.mode.endian l.end l.initial.state l.initial.rows l.rows l.initial.attrs l.attrs l.state

abbrev pub decreases-loop-state : goal.decreases-loop-state
decreases-loop-state l = l.end - l.state.at
