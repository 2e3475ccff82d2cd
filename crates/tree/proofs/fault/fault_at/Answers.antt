use Rattle.tree.proofs.Laws.Chain.{end-within}
use Rattle.tree.proofs.Laws.Reach.{reaching}
use Rattle.tree.proofs.fault.fault_at.Goals as goal

pub first_further-requires : goal.first_further-requires
first_further-requires c = record {
  rising = c.requires.rising;
  there = c.requires.there;
  within = end-within (reaching _ _ _ _ _) c.requires.there c.end_of-end.ensures c.if-end-eq0.false;
}
