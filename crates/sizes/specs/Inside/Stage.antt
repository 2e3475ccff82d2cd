-- A row's size in stages: a stage comes to the size, or waits for the size of a type, with which the next one goes on.
use Rattle.format.specs.declared.refusal.Refusal.{Refusal}
use Rattle.std.specs.Prelude.{ℕ, suc, ◌<◌, ◌≡◌, List, length, Result, Ok, Err}
use Rattle.format.specs.Said.{Said, gives, refusal, ◌>>=◌}
use Rattle.format.specs.declared.settings.Settings.{Settings}
use Rattle.blocks.specs.declared.types.Type.{«Type»}
use Rattle.tables.specs.Table.{lent_rows}
use Rattle.links.specs.Links.{sibling_row}
use Rattle.links.specs.Inside.EachChild.{children_from, Ends}
use Rattle.records.specs.Inside.Enumeration.{AskedShort}
use Rattle.sizes.specs.Size.{row_size}
use Rattle.sizes.specs.Inside.Size.{grown, child_end, ends_over, array_product}
use Rattle.sizes.specs.declared.stage.Part.{Part}
use Rattle.sizes.specs.declared.stage.Part.TheVariants as part
use Rattle.sizes.specs.declared.stage.Stage.{Stage}
use Rattle.sizes.specs.declared.stage.Stage.TheVariants.{Begin, Element, Member}
use Rattle.sizes.specs.declared.stage.Wait.{Wait}
use Rattle.sizes.specs.declared.stage.Wait.TheVariants as wait

-- the largest end with that of child c: known, or once its type's size is
unfoldable pub part_end : List ℕ → ℕ → ℕ → («Type» → Said ℕ) → Result Part Refusal → Said ℕ
part_end rows c largest size_of (Ok (part.Ends next)) = gives next
part_end rows c largest size_of (Ok (part.Typed offset t)) = size_of t >>= grown rows c largest offset
part_end rows c largest size_of (Err why) = refusal why

-- what looking at child c promises, whatever types' sizes are
pub record PartSays (settings : Settings) (s rows attrs : List ℕ) (n c largest : ℕ) (r : Result Part Refusal) : Type 0 where
  pub end_is : (size_of : «Type» → Said ℕ) → part_end rows c largest size_of r ≡ child_end settings s rows attrs n size_of largest c

module _ (settings : Settings) (s rows attrs : List ℕ) (n i : ℕ) where
  -- the children of row i from a row on
  unfoldable pub children_on : ℕ → List ℕ
  children_on from = children_from settings.endian s rows attrs n (sibling_row (lent_rows settings.endian s rows attrs n) i) from

  -- and behind child c
  unfoldable pub children_after : ℕ → List ℕ
  children_after c = children_on (sibling_row (lent_rows settings.endian s rows attrs n) c)

  -- what a stage of row i comes to with the size that was waited for
  unfoldable pub stage_size : («Type» → Said ℕ) → Stage → ℕ → Said ℕ
  stage_size size_of Begin size = row_size settings (lent_rows settings.endian s rows attrs n) size_of i
  stage_size size_of (Element k) size = array_product settings s rows attrs i k size
  stage_size size_of (Member c offset largest) size = do
    next ← grown rows c largest offset size
    ends_over settings s rows attrs n size_of next (children_after c)

  -- what is waited for, then the stage after it
  unfoldable pub wait_size : («Type» → Said ℕ) → Result Wait Refusal → Said ℕ
  wait_size size_of (Ok (wait.Nothing size)) = gives size
  wait_size size_of (Ok (wait.Type t stage)) = size_of t >>= stage_size size_of stage
  wait_size size_of (Err why) = refusal why

  -- how many types can still be waited for from a stage on
  unfoldable pub stage_turns : Stage → ℕ
  stage_turns Begin = suc n
  stage_turns (Element k) = 0
  stage_turns (Member c offset largest) = length (children_after c)

  -- and from a wait on
  unfoldable pub wait_turns : Result Wait Refusal → ℕ
  wait_turns (Ok (wait.Nothing size)) = 0
  wait_turns (Ok (wait.Type t stage)) = suc (stage_turns stage)
  wait_turns (Err why) = 0

  -- the walk over row i's children ends from a row on
  pub record FromAsked (from : ℕ) : Type 0 where
    pub row : AskedShort s rows n i
    pub on : Ends settings.endian s rows attrs n (sibling_row (lent_rows settings.endian s rows attrs n) i) from

  -- and behind child c
  pub record MemberStaged (c : ℕ) : Type 0 where
    pub there : c < n
    pub behind : FromAsked (sibling_row (lent_rows settings.endian s rows attrs n) c)

  -- what a stage asks for
  pub record Staged (stage : Stage) : Type 0 where
    pub row : AskedShort s rows n i
    pub at_member : {c offset largest : ℕ} → stage ≡ Member c offset largest → MemberStaged c

  -- what a wait promises: whatever types' sizes are, it comes to `whole`; and after it fewer than `turns` types are waited for
  pub record Awaits (whole : («Type» → Said ℕ) → Said ℕ) (turns : ℕ) (r : Result Wait Refusal) : Type 0 where
    pub size_is : (size_of : «Type» → Said ℕ) → wait_size size_of r ≡ whole size_of
    pub staged : {t : «Type»} {stage : Stage} → r ≡ Ok (wait.Type t stage) → Staged stage
    pub fewer : {t : «Type»} {stage : Stage} → r ≡ Ok (wait.Type t stage) → stage_turns stage < turns
