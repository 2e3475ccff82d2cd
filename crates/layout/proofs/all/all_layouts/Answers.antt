use Rattle.format.proofs.Laws.Said.{comes-in-both}
use Rattle.sizes.proofs.Laws.Size.{ready}
use Rattle.layout.specs.All.{all_layouts}
use Rattle.layout.proofs.Laws.All.{gone-layouts}
use mathlib.Core.Path.{refl}
use Rattle.layout.proofs.all.all_layouts.Goals as goal

pub lay_all-requires : goal.lay_all-requires
lay_all-requires c = ready c.test_table.ensures c.in_ok-test_table.was

pub returns : goal.returns
unfolding all_layouts
returns c = comes-in-both c.test_table.ensures.told c.in_ok-test_table.was _ _ _ c.lay_all.ensures

pub returns-in_err-test_table : goal.returns-in_err-test_table
unfolding all_layouts
returns-in_err-test_table c = gone-layouts c.test_table.ensures.told c.in_err-test_table.was _ c.from_residual.ensures.1 _ refl refl
