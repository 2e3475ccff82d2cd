use Rattle.sizes.proofs.Laws.Kept.{shape-structure}
use Rattle.sizes.proofs.Laws.Prepare.{row-shape, row-array, row_other}
use Rattle.sizes.specs.Inside.Prepare.{said_prepared, prepared_shape}
use mathlib.Core.Path.{refl}
use Rattle.sizes.proofs.prepare.prepare_row.Goals as goal

pub prepare_structure-requires : goal.prepare_structure-requires
prepare_structure-requires c =
    record {
      asked = c.requires.0.asked;
      structure = shape-structure _ _ c.row_at-row.ensures c.shape_of.ensures c.in-Structure.is;
      kept_rows = c.requires.1;
    }

pub returns-in-Array : goal.returns-in-Array
returns-in-Array c = row-array _ _ _ _ _ _ c.row_at-row.ensures c.shape_of.ensures c.in-Array.is c.run_of-run.ensures c.prepare_array.ensures

pub returns-in-Structure : goal.returns-in-Structure
unfolding prepared_shape
returns-in-Structure c = row-shape _ _ _ _ _ _ c.row_at-row.ensures c.shape_of.ensures c.in-Structure.is c.prepare_structure.ensures

pub returns-in-Enumeration : goal.returns-in-Enumeration
unfolding prepared_shape
returns-in-Enumeration c = row-shape _ _ _ _ _ _ c.row_at-row.ensures c.shape_of.ensures c.in-Enumeration.is c.prepare_enumeration.ensures

pub returns-in-Union : goal.returns-in-Union
unfolding prepared_shape
returns-in-Union c = row-shape _ _ _ _ _ _ c.row_at-row.ensures c.shape_of.ensures c.in-Union.is c.prepare_union.ensures

pub returns-in-PtrToMember : goal.returns-in-PtrToMember
unfolding prepared_shape
returns-in-PtrToMember c = row-shape _ _ _ _ _ _ c.row_at-row.ensures c.shape_of.ensures c.in-PtrToMember.is c.prepare_pointer.ensures

pub returns-in-Subroutine : goal.returns-in-Subroutine
unfolding prepared_shape said_prepared
returns-in-Subroutine c = row-shape _ _ _ _ _ _ c.row_at-row.ensures c.shape_of.ensures c.in-Subroutine.is refl

pub returns-in-Other : goal.returns-in-Other
unfolding said_prepared
returns-in-Other c = row_other _ _ _ _ _ _ c.row_at-row.ensures c.shape_of.ensures c.in-Other.is c.refused.ensures
