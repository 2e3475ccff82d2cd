-- What stands before the fields of a record, in this order (document 01's refusal numbers): 12 a kind of row that the record does not take; its
-- attributes; 9 and 16 its children. A fault's place is the row's key.
use Rattle.std.specs.Prelude.{ℕ, Bool, true, false, ◌&&◌, ◌||◌, List, length, eqb}
use Rattle.format.specs.TagKind as tag
use Rattle.format.specs.Said.{Said, refuse, must, ◌>>◌}
use Rattle.format.specs.declared.settings.Settings.{Settings}
use Rattle.format.specs.declared.settings.Producer.{Producer}
use Rattle.format.specs.declared.settings.Producer.TheVariants.{Mwcc, Gcc, Other}
use Rattle.format.specs.declared.refusal.Reason.TheVariants as reason
use Rattle.tables.specs.Table.{Rows}
use Rattle.tables.specs.Row.{row_at}
use Rattle.links.specs.Walk.{Walk, ends, endless}
use Rattle.links.specs.Links.{child_walk, non_null}
use Rattle.records.specs.Scan.{run_of, fault_at, faults_from}
use Rattle.records.specs.declared.taken.Record.{Record}
use Rattle.records.specs.declared.taken.Record.TheVariants.{Member, Union, Enumeration, Typedef, Variable, Label, PtrToMember, OverlayBranch}

-- the producer is MWCC
unfoldable pub is_mwcc : Producer → Bool
is_mwcc Mwcc = true
is_mwcc Gcc = false
is_mwcc Other = false

-- the kinds of rows that a record takes; a Typedef row counts as a variable for MWCC
unfoldable pub kind_taken : Producer → Record → ℕ → Bool
kind_taken producer Member kind = eqb kind tag.member
kind_taken producer Union kind = eqb kind tag.union_type
kind_taken producer Enumeration kind = eqb kind tag.enumeration_type
kind_taken producer Typedef kind = eqb kind tag.typedef
kind_taken producer Variable kind = eqb kind tag.global_variable || (eqb kind tag.local_variable || (is_mwcc producer && eqb kind tag.typedef))
kind_taken producer Label kind = eqb kind tag.label
kind_taken producer PtrToMember kind = eqb kind tag.ptr_to_member_type
kind_taken producer OverlayBranch kind = eqb kind tag.mw_overlay_branch

-- 12 where the record does not take the kind of row i
unfoldable pub kind_fault : Settings → List ℕ → Record → ℕ → Said Unit
kind_fault settings rows r i = must (kind_taken settings.producer r (row_at rows i).kind) reason.Kind (row_at rows i).key

-- a record that allows no children: 16 where there is one, 9 where the walk never ends
unfoldable pub childless_fault : List ℕ → ℕ → Walk → Said Unit
childless_fault rows i (ends cs) = must (eqb (length (non_null rows cs)) 0) reason.Child (row_at rows i).key
childless_fault rows i endless = refuse reason.Link (row_at rows i).key

-- kind and attributes of a record that reads no attribute itself
unfoldable pub head_of : Settings → List ℕ → List ℕ → List ℕ → Record → ℕ → Said Unit
head_of settings s rows attrs r i = do
  kind_fault settings rows r i
  faults_from (fault_at settings.roles r (run_of settings.endian rows i) s attrs) 0 (run_of settings.endian rows i).count

-- the same, and no children
unfoldable pub front_of : Settings → Rows → Record → ℕ → Said Unit
front_of settings t r i = do
  head_of settings t.section t.rows t.attrs r i
  childless_fault t.rows i (child_walk t i)
