-- What follows from `Stage`, for each way that the code comes to a wait, and for the loop that goes from one to the next.
use Rattle.std.specs.Prelude.{Option, Some, None, Result, Ok, Err, IsErrAnd}
use Prim.Native.Nat.{ℕ, suc, ◌≤◌, ◌<◌}
use native.Mathlib.Omega.{arith}
use mathlib.Core.Path.{◌≡◌, refl, sym, ap, ◌∙◌, subst}
use mathlib.Core.List.{List, ◌∷◌}
use lib.ListN.{length}
use lib.Dec.{eqb}
use borrow.Author.Tests.{eq-eqb}
use Rattle.tables.specs.Table.{lent_rows}
use Rattle.tables.specs.Row.{row_at, ends_of}
use Rattle.tables.specs.declared.row.Row.{Row}
use Rattle.format.specs.TagKind as tag
use Rattle.format.specs.Said.{Said, gives, refusal, ◌>>=◌, said}
use Rattle.format.proofs.Laws.Said.{case-said, goes_on, bind-bind}
use Rattle.format.specs.declared.settings.Settings.{Settings}
use Rattle.format.specs.declared.refusal.Refusal.{Refusal}
use Rattle.blocks.specs.declared.types.Type.{«Type»}
use Rattle.links.specs.Links.{sibling_row, next_row}
use Rattle.links.specs.Inside.EachChild.{children_from, children_at, Ends, first_or}
use Rattle.links.proofs.Laws.EachChild.{few-children}
use Rattle.records.proofs.Laws.Taken.{by-case, test-passed}
use Rattle.records.specs.Scan.{run_of}
use Rattle.records.specs.Member.{member_at}
use Rattle.records.specs.Inside.Enumeration.{AskedShort}
use Rattle.records.specs.declared.member.Member.{Member}
use Rattle.sizes.specs.Size.{size_or, row_size}
use Rattle.sizes.specs.Inside.Prepare.{said_prepared, prepared_row, finished}
use Rattle.sizes.specs.Inside.Size.{Extent, with_size, grown, member_added, child_end, ends_over, array_product}
use Rattle.sizes.specs.Inside.Stage.{part_end, PartSays, children_on, children_after, stage_size, wait_size, stage_turns, wait_turns, FromAsked, MemberStaged, Staged, Awaits}
use Rattle.sizes.proofs.Laws.Exit.{exit-as}
use Rattle.sizes.proofs.Laws.Walking.{Walking, walking-from, walking-ends, walking_here, walking-one, walking-stops, walking-ending, walking-less, walking_on}
use Rattle.sizes.proofs.Laws.Size.{child-other, row_is, row_ends, ends_asked}
use Rattle.sizes.specs.declared.prepare.Prepared.{Prepared}
use Rattle.sizes.specs.declared.prepare.Prepared.TheVariants as prepared
use Rattle.sizes.specs.declared.stage.Part.{Part}
use Rattle.sizes.specs.declared.stage.Part.TheVariants as part
use Rattle.sizes.specs.declared.stage.Stage.{Stage}
use Rattle.sizes.specs.declared.stage.Stage.TheVariants as stage
use Rattle.sizes.specs.declared.stage.Wait.{Wait}
use Rattle.sizes.specs.declared.stage.Wait.TheVariants as wait

-- ---- a child

-- what a member that was read adds to its structure
abbrev added : («Type» → Said ℕ) → Member → Said Extent
added size_of m = with_size m.offset (size_or size_of m.of m.byte_size)

-- the largest end with it
abbrev ended : List ℕ → ℕ → ℕ → Extent → Said ℕ
ended rows c largest x = grown rows c largest x.offset x.size

module _ (settings : Settings) (s rows attrs : List ℕ) (n c largest : ℕ) {row : Row} (at : row ≡ row_at rows c) where
  pub part-other : (row.kind ≡ tag.member → ⊥) → PartSays settings s rows attrs n c largest (Ok (part.Ends largest))
  unfolding part_end said
  part-other h = record { end_is = λ size_of. child-other settings s rows attrs n size_of largest c at h }

  module _ (h : row.kind ≡ tag.member) {told : Result Member Refusal} (is : said told ≡ member_at settings (lent_rows settings.endian s rows attrs n) c) where
    member-end : (size_of : «Type» → Said ℕ) {x : Result Member Refusal} {z : Said ℕ} → told ≡ x → z ≡ ((said x >>= added size_of) >>= ended rows c largest)
        → z ≡ child_end settings s rows attrs n size_of largest c
    unfolding child_end member_added
    member-end size_of p q =
        test-passed (ap (λ (r : Row). eqb r.kind tag.member) at) _ (eq-eqb row.kind tag.member h)
        (q ∙ ap (λ (d : Said Member). (d >>= added size_of) >>= ended rows c largest) (case-said said is p))

    pub part-refused : {why : Refusal} → told ≡ Err why → (z : Result Part Refusal) → IsErrAnd z (λ e. e ≡ why)
        → PartSays settings s rows attrs n c largest z
    unfolding part_end said ◌>>=◌
    part-refused p z exits = exit-as (PartSays settings s rows attrs n c largest) _ z exits (record { end_is = λ size_of. member-end size_of p refl })

    module _ {m : Member} (p : told ≡ Ok m) where
      read-end : (size_of : «Type» → Said ℕ) {w : Option ℕ} {z : Said ℕ} → m.byte_size ≡ w
          → z ≡ (with_size m.offset (size_or size_of m.of w) >>= ended rows c largest) → z ≡ child_end settings s rows attrs n size_of largest c
      unfolding said ◌>>=◌
      read-end size_of q k =
          member-end size_of p (by-case (λ (w : Option ℕ). with_size m.offset (size_or size_of m.of w) >>= ended rows c largest) q k)

      module _ {size : ℕ} (q : m.byte_size ≡ Some size) {end : Result ℕ Refusal} (grows : said end ≡ grown rows c largest m.offset size) where
        pub part-ends : {next : ℕ} → end ≡ Ok next → PartSays settings s rows attrs n c largest (Ok (part.Ends next))
        unfolding part_end said with_size size_or ◌>>=◌
        part-ends u = record { end_is = λ size_of. read-end size_of q (case-said said grows u) }

        pub part-big : {why : Refusal} → end ≡ Err why → (z : Result Part Refusal) → IsErrAnd z (λ e. e ≡ why)
            → PartSays settings s rows attrs n c largest z
        unfolding part_end said with_size size_or ◌>>=◌
        part-big u z exits =
            exit-as (PartSays settings s rows attrs n c largest) _ z exits (record { end_is = λ size_of. read-end size_of q (case-said said grows u) })

      pub part-typed : m.byte_size ≡ None → PartSays settings s rows attrs n c largest (Ok (part.Typed m.offset m.of))
      unfolding part_end with_size size_or ◌>>=◌
      part-typed q = record { end_is = λ size_of. read-end size_of q (sym (bind-bind (size_of m.of) (λ size. gives (record { offset = m.offset; size = size })) (ended rows c largest))) }

-- ---- a wait for nothing more

abbrev is_type : Result Wait Refusal → Type 0
is_type (Ok (wait.Nothing size)) = ⊥
is_type (Ok (wait.Type t st)) = Unit
is_type (Err why) = ⊥

stage_of : Result Wait Refusal → Stage
stage_of (Ok (wait.Nothing size)) = stage.Begin
stage_of (Ok (wait.Type t st)) = st
stage_of (Err why) = stage.Begin

row_of : Stage → ℕ
row_of stage.Begin = 0
row_of (stage.Element k) = 0
row_of (stage.Member c offset largest) = c

abbrev IsMember : Stage → Type 0
IsMember stage.Begin = ⊥
IsMember (stage.Element k) = ⊥
IsMember (stage.Member c offset largest) = Unit

module _ {settings : Settings} {s rows attrs : List ℕ} {n i : ℕ} {whole : («Type» → Said ℕ) → Said ℕ} {turns : ℕ} where
  done-by : (r : Result Wait Refusal) → (is_type r → ⊥) → ((size_of : «Type» → Said ℕ) → wait_size settings s rows attrs n i size_of r ≡ whole size_of)
      → Awaits settings s rows attrs n i whole turns r
  done-by r h is = record { size_is = is; staged = λ p. absurd (h (subst is_type (sym p) tt)); fewer = λ p. absurd (h (subst is_type (sym p) tt)) }

  pub awaits-nothing : {size : ℕ} → ((size_of : «Type» → Said ℕ) → gives size ≡ whole size_of) → Awaits settings s rows attrs n i whole turns (Ok (wait.Nothing size))
  unfolding wait_size
  awaits-nothing {size} h = done-by (Ok (wait.Nothing size)) (λ x. x) h

  pub awaits-refused : (why : Refusal) (z : Result Wait Refusal) → IsErrAnd z (λ e. e ≡ why) → ((size_of : «Type» → Said ℕ) → refusal why ≡ whole size_of)
      → Awaits settings s rows attrs n i whole turns z
  unfolding wait_size
  awaits-refused why z exits h = exit-as (Awaits settings s rows attrs n i whole turns) why z exits (done-by (Err why) (λ x. x) h)

  -- the same of another whole, and of more turns
  pub awaits-as : {other : («Type» → Said ℕ) → Said ℕ} {more : ℕ} {r : Result Wait Refusal} → Awaits settings s rows attrs n i whole turns r
      → ((size_of : «Type» → Said ℕ) → whole size_of ≡ other size_of) → turns ≤ more → Awaits settings s rows attrs n i other more r
  awaits-as a h l =
      record {
        size_is = λ size_of. a.size_is size_of ∙ h size_of;
        staged = λ p. a.staged p;
        fewer = λ p. (let less = a.fewer p in omega arith);
      }

  turns-by : (r : Result Wait Refusal) → Awaits settings s rows attrs n i whole turns r → wait_turns settings s rows attrs n i r ≤ turns
  unfolding wait_turns
  turns-by (Ok (wait.Nothing size)) a = omega arith
  turns-by (Ok (wait.Type t st)) a = let less : stage_turns settings s rows attrs n i st < turns = a.fewer refl in omega arith
  turns-by (Err why) a = omega arith

  pub awaits-turns : {r : Result Wait Refusal} → Awaits settings s rows attrs n i whole turns r → wait_turns settings s rows attrs n i r ≤ turns
  awaits-turns {r} a = turns-by r a

-- ---- the children of a row, up to the first whose type's size is wanted

pub record MembersOn (settings : Settings) (s rows attrs : List ℕ) (n i from most end c largest : ℕ) : Type 0 where
  pub is_end : end ≡ sibling_row (lent_rows settings.endian s rows attrs n) i
  pub walks : (size_of : «Type» → Said ℕ)
      → Walking settings.endian s rows attrs n end (ends_over settings s rows attrs n size_of largest)
      (ends_over settings s rows attrs n size_of most (children_on settings s rows attrs n i from)) c
  pub within : length (children_from settings.endian s rows attrs n end c) ≤ length (children_on settings s rows attrs n i from)

-- any sizes, where it does not matter which
abbrev pub any_size : «Type» → Said ℕ
any_size t = gives 0

module _ (settings : Settings) (s rows attrs : List ℕ) (n i from end : ℕ) where
  -- those from `from` on, by the end that was found
  on-is : end ≡ sibling_row (lent_rows settings.endian s rows attrs n) i
      → children_from settings.endian s rows attrs n end from ≡ children_on settings s rows attrs n i from
  unfolding children_on
  on-is p = ap (λ (x : ℕ). children_from settings.endian s rows attrs n x from) p

  pub from_end : FromAsked settings s rows attrs n i from → end ≡ sibling_row (lent_rows settings.endian s rows attrs n) i
      → Ends settings.endian s rows attrs n end from
  from_end a p = subst (λ (x : ℕ). Ends settings.endian s rows attrs n x from) (sym p) a.on

  pub members-begin : (most : ℕ) → FromAsked settings s rows attrs n i from → end ≡ sibling_row (lent_rows settings.endian s rows attrs n) i → {c : ℕ}
      → c ≡ first_or n (children_from settings.endian s rows attrs n end from) → MembersOn settings s rows attrs n i from most end c most
  members-begin most a p {c} is =
      record {
        is_end = p;
        walks =
            λ size_of. subst
            (λ (cs : List ℕ). Walking settings.endian s rows attrs n end (ends_over settings s rows attrs n size_of most) (ends_over settings s rows attrs n size_of most cs) c)
            (on-is p) (walking-from (ends_over settings s rows attrs n size_of most) (from_end a p) is);
        within =
            let same : length (children_from settings.endian s rows attrs n end c) ≡ length (children_on settings s rows attrs n i from) =
            (walking-from length (from_end a p) is).left ∙ ap length (on-is p)
            in
            omega arith;
      }

module _ {settings : Settings} {s rows attrs : List ℕ} {n i from most end c largest : ℕ} (w : MembersOn settings s rows attrs n i from most end c largest) where
  pub members-done : n ≤ c → Awaits settings s rows attrs n i
      (λ size_of. ends_over settings s rows attrs n size_of most (children_on settings s rows attrs n i from)) (length (children_on settings s rows attrs n i from)) (Ok (wait.Nothing largest))
  unfolding ends_over
  members-done l = awaits-nothing (λ size_of. walking-ends (w.walks size_of) l)

  module _ (l : c < n) {told : Result Part Refusal} (says : PartSays settings s rows attrs n c largest told) where
    -- child c, then those after it
    part_then : (size_of : «Type» → Said ℕ) {x : Result Part Refusal} → told ≡ x → (cs : List ℕ)
        → (part_end rows c largest size_of x >>= λ next. ends_over settings s rows attrs n size_of next cs) ≡ ends_over settings s rows attrs n size_of largest (c ∷ cs)
    unfolding ends_over
    part_then size_of p cs =
        ap (λ (d : Said ℕ). d >>= λ next. ends_over settings s rows attrs n size_of next cs)
        (ap (part_end rows c largest size_of) (sym p) ∙ says.end_is size_of)

    pub members-refused : {why : Refusal} → told ≡ Err why → (z : Result Wait Refusal) → IsErrAnd z (λ e. e ≡ why) → Awaits settings s rows attrs n i
        (λ size_of. ends_over settings s rows attrs n size_of most (children_on settings s rows attrs n i from)) (length (children_on settings s rows attrs n i from)) z
    unfolding part_end ◌>>=◌
    members-refused p z exits = awaits-refused _ z exits (λ size_of. walking-stops (w.walks size_of) l (λ cs. part_then size_of p cs))

    pub members-go : {next d c' : ℕ} → told ≡ Ok (part.Ends next) → d ≡ sibling_row (lent_rows settings.endian s rows attrs n) c
        → c' ≡ first_or n (children_from settings.endian s rows attrs n end d) → MembersOn settings s rows attrs n i from most end c' next
    unfolding part_end ◌>>=◌
    members-go p q is =
        let less = walking-less (w.walks any_size) l q is in
        let most-left = w.within in
        record { is_end = w.is_end; walks = λ size_of. walking_on (w.walks size_of) l q is (λ cs. part_then size_of p cs); within = omega arith }

    -- behind child c, by the end that was found
    behind-is : children_from settings.endian s rows attrs n end (sibling_row (lent_rows settings.endian s rows attrs n) c) ≡ children_after settings s rows attrs n i c
    unfolding children_after children_on
    behind-is = ap (λ (x : ℕ). children_from settings.endian s rows attrs n x (sibling_row (lent_rows settings.endian s rows attrs n) c)) w.is_end

    member-staged : AskedShort s rows n i → MemberStaged settings s rows attrs n i c
    member-staged a =
        record {
          there = l;
          behind =
              record {
                row = a;
                on =
                    subst (λ (x : ℕ). Ends settings.endian s rows attrs n x (sibling_row (lent_rows settings.endian s rows attrs n) c)) w.is_end
                    (walking-ending (w.walks any_size) l refl);
              };
        }

    staged-is : AskedShort s rows n i → {offset : ℕ} {st : Stage} → st ≡ stage.Member c offset largest → Staged settings s rows attrs n i st
    unfolding row_of
    staged-is a p =
        record { row = a; at_member = λ q. subst (MemberStaged settings s rows attrs n i) (ap row_of (sym p ∙ q)) (member-staged a) }

    fewer-behind : length (children_after settings s rows attrs n i c) < length (children_on settings s rows attrs n i from)
    fewer-behind =
        let one = walking-one (w.walks any_size) l in
        let same = ap length behind-is in
        let most-left = w.within in
        omega arith

    pub members-typed : AskedShort s rows n i → {offset : ℕ} {t : «Type»} → told ≡ Ok (part.Typed offset t) → Awaits settings s rows attrs n i
        (λ size_of. ends_over settings s rows attrs n size_of most (children_on settings s rows attrs n i from)) (length (children_on settings s rows attrs n i from))
        (Ok (wait.Type t (stage.Member c offset largest)))
    unfolding part_end wait_size stage_size stage_turns stage_of
    members-typed a {offset} {t} p =
        record {
          size_is =
              λ size_of. sym (bind-bind (size_of t) (grown rows c largest offset) (λ next. ends_over settings s rows attrs n size_of next (children_after settings s rows attrs n i c)))
              ∙ part_then size_of p (children_after settings s rows attrs n i c)
              ∙ ap (λ (cs : List ℕ). ends_over settings s rows attrs n size_of largest (c ∷ cs)) (sym behind-is)
              ∙ walking_here (w.walks size_of) l;
          staged = λ q. staged-is a (sym (ap stage_of q));
          fewer = λ q. subst (λ (st : Stage). stage_turns settings s rows attrs n i st < length (children_on settings s rows attrs n i from)) (ap stage_of q) fewer-behind;
        }

-- ---- the stages

module _ (settings : Settings) (s rows attrs : List ℕ) (n i : ℕ) where
  module _ {told : Result Prepared Refusal} (is : said_prepared told ≡ prepared_row settings s rows attrs n i) where
    pub begun-size : {size : ℕ} → told ≡ Ok (prepared.Size size)
        → Awaits settings s rows attrs n i (λ size_of. row_size settings (lent_rows settings.endian s rows attrs n) size_of i) (suc n) (Ok (wait.Nothing size))
    unfolding finished said_prepared ◌>>=◌
    begun-size p = awaits-nothing (λ size_of. row_is settings s rows attrs n i is size_of p refl)

    pub begun-refused : {why : Refusal} → told ≡ Err why → (z : Result Wait Refusal) → IsErrAnd z (λ e. e ≡ why)
        → Awaits settings s rows attrs n i (λ size_of. row_size settings (lent_rows settings.endian s rows attrs n) size_of i) (suc n) z
    unfolding finished said_prepared ◌>>=◌
    begun-refused p z exits = awaits-refused _ z exits (λ size_of. row_is settings s rows attrs n i is size_of p refl)

    pub begun-element : AskedShort s rows n i → {t : «Type»} {k : ℕ} → told ≡ Ok (prepared.Element t k)
        → Awaits settings s rows attrs n i (λ size_of. row_size settings (lent_rows settings.endian s rows attrs n) size_of i) (suc n) (Ok (wait.Type t (stage.Element k)))
    unfolding wait_size stage_size stage_turns stage_of finished said_prepared array_product run_of ends_of ◌>>=◌
    begun-element a {t} {k} p =
        record {
          size_is = λ size_of. row_is settings s rows attrs n i is size_of p refl;
          staged = λ q. record { row = a; at_member = λ u. absurd (subst IsMember (sym (ap stage_of q ∙ u)) tt) };
          fewer = λ q. subst (λ (st : Stage). stage_turns settings s rows attrs n i st < suc n) (ap stage_of q) (omega arith);
        }

    module _ (p : told ≡ Ok prepared.Ends) where
      pub begun-from : AskedShort s rows n i → {from : ℕ} → from ≡ next_row rows n i → FromAsked settings s rows attrs n i from
      begun-from a q =
          record {
            row = a;
            on =
                subst (Ends settings.endian s rows attrs n (sibling_row (lent_rows settings.endian s rows attrs n) i)) (sym q)
                (ends_asked settings s rows attrs n i is p a).ends_at.ending;
          }

      pub begun-ends : {from : ℕ} {r : Result Wait Refusal} → from ≡ next_row rows n i
          → Awaits settings s rows attrs n i (λ size_of. ends_over settings s rows attrs n size_of 0 (children_on settings s rows attrs n i from))
          (length (children_on settings s rows attrs n i from)) r
          → Awaits settings s rows attrs n i (λ size_of. row_size settings (lent_rows settings.endian s rows attrs n) size_of i) (suc n) r
      unfolding children_on children_at
      begun-ends {from} q a =
          let few = few-children settings.endian s rows attrs n (sibling_row (lent_rows settings.endian s rows attrs n) i) from in
          awaits-as a
          (λ size_of. row_ends settings s rows attrs n i is size_of p
          (ap (λ (x : ℕ). ends_over settings s rows attrs n size_of 0 (children_from settings.endian s rows attrs n (sibling_row (lent_rows settings.endian s rows attrs n) i) x)) q))
          (omega arith)

  module _ (k size : ℕ) {told : Result ℕ Refusal} (is : said told ≡ array_product settings s rows attrs i k size) where
    pub multiplied-is : {product : ℕ} → told ≡ Ok product → Awaits settings s rows attrs n i (λ size_of. array_product settings s rows attrs i k size) 0 (Ok (wait.Nothing product))
    unfolding said
    multiplied-is p = awaits-nothing (λ size_of. case-said said is p)

    pub multiplied-refused : {why : Refusal} → told ≡ Err why → (z : Result Wait Refusal) → IsErrAnd z (λ e. e ≡ why)
        → Awaits settings s rows attrs n i (λ size_of. array_product settings s rows attrs i k size) 0 z
    unfolding said
    multiplied-refused p z exits = awaits-refused _ z exits (λ size_of. case-said said is p)

  module _ (c offset largest size : ℕ) {told : Result ℕ Refusal} (is : said told ≡ grown rows c largest offset size) where
    pub grown-refused : {why : Refusal} → told ≡ Err why → (z : Result Wait Refusal) → IsErrAnd z (λ e. e ≡ why)
        → Awaits settings s rows attrs n i (λ size_of. stage_size settings s rows attrs n i size_of (stage.Member c offset largest) size)
        (length (children_after settings s rows attrs n i c)) z
    unfolding stage_size said ◌>>=◌
    grown-refused p z exits =
        awaits-refused _ z exits
        (λ size_of. goes_on said is p (λ next. ends_over settings s rows attrs n size_of next (children_after settings s rows attrs n i c)) refl)

    pub grown-next : {next from : ℕ} {r : Result Wait Refusal} → told ≡ Ok next → from ≡ sibling_row (lent_rows settings.endian s rows attrs n) c
        → Awaits settings s rows attrs n i (λ size_of. ends_over settings s rows attrs n size_of next (children_on settings s rows attrs n i from))
        (length (children_on settings s rows attrs n i from)) r
        → Awaits settings s rows attrs n i (λ size_of. stage_size settings s rows attrs n i size_of (stage.Member c offset largest) size) (length (children_after settings s rows attrs n i c)) r
    unfolding stage_size children_after said ◌>>=◌
    grown-next {next} p q a =
        let same = ap (λ (x : ℕ). length (children_on settings s rows attrs n i x)) q in
        awaits-as a
        (λ size_of. goes_on said is p (λ m. ends_over settings s rows attrs n size_of m (children_after settings s rows attrs n i c))
        (ap (λ (x : ℕ). ends_over settings s rows attrs n size_of next (children_on settings s rows attrs n i x)) q))
        (omega arith)

  pub staged-member : (c : ℕ) {from : ℕ} → MemberStaged settings s rows attrs n i c → from ≡ sibling_row (lent_rows settings.endian s rows attrs n) c → FromAsked settings s rows attrs n i from
  staged-member c a q = subst (FromAsked settings s rows attrs n i) (sym q) a.behind

  pub begin-staged : AskedShort s rows n i → Staged settings s rows attrs n i stage.Begin
  begin-staged a = record { row = a; at_member = λ p. absurd (subst IsMember (sym p) tt) }

  -- a stage that is known
  pub stage-as : {st x : Stage} (size : ℕ) {r : Result Wait Refusal} → st ≡ x
      → Awaits settings s rows attrs n i (λ size_of. stage_size settings s rows attrs n i size_of x size) (stage_turns settings s rows attrs n i x) r
      → Awaits settings s rows attrs n i (λ size_of. stage_size settings s rows attrs n i size_of st size) (stage_turns settings s rows attrs n i st) r
  stage-as size {r = r} p a =
      subst (λ (x : Stage). Awaits settings s rows attrs n i (λ size_of. stage_size settings s rows attrs n i size_of x size) (stage_turns settings s rows attrs n i x) r) (sym p) a

turns-type : (settings : Settings) (s rows attrs : List ℕ) (n i : ℕ) {r : Result Wait Refusal} {t : «Type»} {st : Stage} → r ≡ Ok (wait.Type t st)
    → wait_turns settings s rows attrs n i r ≡ suc (stage_turns settings s rows attrs n i st)
unfolding wait_turns
turns-type settings s rows attrs n i p = ap (wait_turns settings s rows attrs n i) p

-- ---- from one wait to the next

-- what a stage came to leads to the row's size; of a type that is waited for, the stage after it is ready
pub record Waiting (settings : Settings) (s rows attrs : List ℕ) (n i : ℕ) (size_of : «Type» → Said ℕ) (r : Result Wait Refusal) : Type 0 where
  pub size_is : wait_size settings s rows attrs n i size_of r ≡ row_size settings (lent_rows settings.endian s rows attrs n) size_of i
  pub staged : {t : «Type»} {st : Stage} → r ≡ Ok (wait.Type t st) → Staged settings s rows attrs n i st

module _ (settings : Settings) (s rows attrs : List ℕ) (n i : ℕ) (size_of : «Type» → Said ℕ) where
  pub waiting-begins : (size : ℕ) {r : Result Wait Refusal}
      → Awaits settings s rows attrs n i (λ f. stage_size settings s rows attrs n i f stage.Begin size) (stage_turns settings s rows attrs n i stage.Begin) r
      → Waiting settings s rows attrs n i size_of r
  unfolding stage_size
  waiting-begins size a = record { size_is = a.size_is size_of; staged = λ p. a.staged p }

  module _ {r : Result Wait Refusal} (on : Waiting settings s rows attrs n i size_of r) where
    -- a stage that is known
    came-to : {x : Result Wait Refusal} → r ≡ x
        → wait_size settings s rows attrs n i size_of x ≡ row_size settings (lent_rows settings.endian s rows attrs n) size_of i
    came-to p = ap (wait_size settings s rows attrs n i size_of) (sym p) ∙ on.size_is

    pub waiting-as : {x : Result Wait Refusal} → r ≡ x → Waiting settings s rows attrs n i size_of x
    waiting-as p = record { size_is = came-to p; staged = λ q. on.staged (p ∙ q) }

    pub waiting-size : {size : ℕ} → r ≡ Ok (wait.Nothing size) → said (Ok size) ≡ row_size settings (lent_rows settings.endian s rows attrs n) size_of i
    unfolding wait_size said
    waiting-size p = came-to p

    pub waiting-refused : {why : Refusal} → r ≡ Err why → refusal why ≡ row_size settings (lent_rows settings.endian s rows attrs n) size_of i
    unfolding wait_size
    waiting-refused p = came-to p

    module _ {t : «Type»} {st : Stage} (p : r ≡ Ok (wait.Type t st)) {told : Result ℕ Refusal} (is : said told ≡ size_of t) where
      type-then : {x : Result ℕ Refusal} {z : Said ℕ} → told ≡ x → z ≡ (said x >>= stage_size settings s rows attrs n i size_of st)
          → z ≡ row_size settings (lent_rows settings.endian s rows attrs n) size_of i
      unfolding wait_size
      type-then q h = goes_on said is q (stage_size settings s rows attrs n i size_of st) h ∙ came-to p

      pub type-unsaid : {why : Refusal} → told ≡ Err why → refusal why ≡ row_size settings (lent_rows settings.endian s rows attrs n) size_of i
      unfolding said ◌>>=◌
      type-unsaid q = type-then q refl

      module _ {size : ℕ} (q : told ≡ Ok size) {r' : Result Wait Refusal}
          (a : Awaits settings s rows attrs n i (λ f. stage_size settings s rows attrs n i f st size) (stage_turns settings s rows attrs n i st) r') where
        pub waiting-on : Waiting settings s rows attrs n i size_of r'
        unfolding said ◌>>=◌
        waiting-on = record { size_is = type-then q (a.size_is size_of); staged = λ u. a.staged u }

        pub waiting-less : {x : Result Wait Refusal} → r' ≡ x → wait_turns settings s rows attrs n i x < wait_turns settings s rows attrs n i r
        waiting-less u =
            let most = awaits-turns a in
            let same = ap (wait_turns settings s rows attrs n i) u in
            let turns : wait_turns settings s rows attrs n i r ≡ suc (stage_turns settings s rows attrs n i st) = turns-type settings s rows attrs n i p in
            omega arith
