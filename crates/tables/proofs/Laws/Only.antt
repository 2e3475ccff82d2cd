-- No second answer fits: of any two results that meet a public function's contract for the same arguments, and what they leave in lent memory, the one is the
-- other. Written and held against the source by .ci/promises.
use Rattle.lent.specs.OneAnswer.{OneAnswer, OneRoom}
use Rattle.tables.proofs.row as row
use Rattle.tables.proofs.store as store
use Rattle.tables.proofs.unit as unit
use Rattle.tables.proofs.holds as holds

-- `row::row_at`
pub only-row-at : OneAnswer row.row_at.Kinds.ps row.row_at.Kinds.r row.row_at.Reads.Post
only-row-at κs a z z' e e' p q = cc

-- `row::attr_at`
pub only-attr-at : OneAnswer row.attr_at.Kinds.ps row.attr_at.Kinds.r row.attr_at.Reads.Post
only-attr-at κs a z z' e e' p q = cc

-- `row::endian_of`
pub only-endian-of : OneAnswer row.endian_of.Kinds.ps row.endian_of.Kinds.r row.endian_of.Reads.Post
only-endian-of κs a z z' e e' p q = cc

-- `row::is_erased`
pub only-is-erased : OneAnswer row.is_erased.Kinds.ps row.is_erased.Kinds.r row.is_erased.Reads.Post
only-is-erased κs a z z' e e' p q = cc

-- `store::put_row`
pub only-put-row-rows : OneRoom store.put_row.Kinds.ps store.put_row.Kinds.r (λ κs e. e.0.now) store.put_row.Reads.Post
only-put-row-rows κs a z z' e e' p q = cc

-- `store::put_unit`
pub only-put-unit-rows : OneRoom store.put_unit.Kinds.ps store.put_unit.Kinds.r (λ κs e. e.0.now) store.put_unit.Reads.Post
only-put-unit-rows κs a z z' e e' p q = cc

-- `store::put_attr`
pub only-put-attr-attrs : OneRoom store.put_attr.Kinds.ps store.put_attr.Kinds.r (λ κs e. e.0.now) store.put_attr.Reads.Post
only-put-attr-attrs κs a z z' e e' p q = cc

-- `unit::unit_of`
pub only-unit-of : OneAnswer unit.unit_of.Kinds.ps unit.unit_of.Kinds.r unit.unit_of.Reads.Post
only-unit-of κs a z z' e e' p q = cc

-- `holds::table_holds`
pub only-table-holds : OneAnswer holds.table_holds.Kinds.ps holds.table_holds.Kinds.r holds.table_holds.Reads.Post
only-table-holds κs a z z' e e' p q = cc
