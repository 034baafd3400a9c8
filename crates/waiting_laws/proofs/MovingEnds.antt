-- A move that waits makes its last step: nothing is left, and the volume has given back what goes.
use Rattle.std.proofs.Common.{◌≡◌, ◌≢◌, inl, inr, ℕ, ◌+◌, ◌≤◌, Bool, true, false, nat_lt, if◌then◌else◌, List, [], ◌∷◌, ◌++◌, length, Contains, Option, Some, None, refl, sym, ap, subst, ◌∙◌, arith}
use Rattle.std.proofs.lemmas.Bool.{ltb-false, false≢true}
use Rattle.pm_trait.specs.DeviceView.{DeviceView}
use Rattle.pm_trait.specs.Unfolds.{Step, Through}
use Rattle.layout.specs.Geometry.{inodes_of, page_of_slot}
use Rattle.layout.specs.Fields.{inode_kind, page_owner}
use Rattle.tree_model.specs.PathText.{Route}
use Rattle.tree_model.specs.Run.{State}
use Rattle.tree_model.specs.declared.reply.Reply.TheVariants.{Done}
use Rattle.image_reading.specs.Counts.{IsIn}
use Rattle.image_reading.specs.Reading.{IsDirectory, slot_owner}
use Rattle.image_reading.specs.Residue.{no_residue}
use Rattle.image_counts.proofs.Distinct.{in_front, in_back}
use Rattle.image_counts.proofs.Links.{not_both_kinds}
use Rattle.image_laws.specs.Drop.{ClearsRest}
use Rattle.rename_laws.specs.Intervals.{ClearsSource}
use Rattle.weave_laws.specs.Naming.{pages_left}
use Rattle.volatile_index.specs.Index.{inodes_of_index, pages_of}
use Rattle.volume.specs.Costs.{count_of, goes_of, pages_of_loss, pages_replaced}
use Rattle.volume.specs.Entered.{pages_of_option, LeavesPageOf, LeavesInodeIf}
use Rattle.volume.specs.Moves.{falling_of}
use Rattle.volume.specs.Planned.{IsGivenBack, IsEmptiedBy}
use Rattle.volume.specs.Volume.{VolumeView}
use Rattle.volume.specs.Beside.{KnowsBeside}
use Rattle.volume.specs.declared.next.Next.{Next}
use Rattle.volume.specs.declared.next.Next.TheVariants.{More, Ended}
use Rattle.volume.specs.declared.plan.Loss.{Loss}
use Rattle.volume.specs.declared.plan.Moving.{Moving}
use Rattle.volume.proofs.PageLists.{in_contained}
use Rattle.entry_steps.specs.Steps.{naming}
use Rattle.entry_steps.proofs.Lists.{not_none, one_page}
use Rattle.entry_steps.proofs.Facts.{in_option}
use Rattle.knowing_laws.specs.Knowing.{AreListedAt, pages_with}
use Rattle.removal_steps.specs.Steps.{AreGonePages, gone_pages, IsCut, number_of, unnaming, giving}
use Rattle.rename_ptr.specs.Steps.{clearing_source}
use Rattle.rename_ptr.specs.Renaming.{IsMovingAt}
use Rattle.rename_ptr.specs.Stages.{HasLosses, MayLose, GivesBack, LosesReplaced, EntersMoving, EntersAt, step_at, step_of, made_at, next_moving, next_first}
use Rattle.rename_ptr.specs.declared.rename.Progress.{Progress}
use Rattle.rename_ptr.specs.declared.rename.Progress.TheVariants.{Begun, Filled, Opened, Pointed, Moved, Left, Cleared, Disowned}
use Rattle.rename_ptr.specs.declared.rename.Stage.{Stage}
use Rattle.rename_ptr.specs.declared.rename.Stage.TheVariants.{Moving as Stepping}
use Rattle.rename_ptr.proofs.Ahead.{gives_none}
use Rattle.rename_ptr.proofs.Moves
use Rattle.waiting_laws.specs.Beside.{StandsWith, MakesStep, KeepsMeaning}
use Rattle.waiting_laws.specs.Moving.{WaitsToMove, left_by, MovingEndsLaw}
use Rattle.waiting_laws.proofs.MovingQuiet.{reads_same}
use Rattle.waiting_laws.proofs.MovingCourse.{left_with, no_next, has_pointed, ready_at, left_is}
use Rattle.waiting_laws.proofs.MovingEnded as ended
use Rattle.waiting_laws.proofs.MovingEnded.{IsLastStep}
use Rattle.waiting_laws.proofs.MovingGiven.{goer, goer_is, pages_gone, known_given}
use Rattle.waiting_laws.proofs.MovingSteps as stepping

-- ---- which stages are the last

first_more : (moving : Moving) (new : Option ℕ) → next_first moving new ≡ Ended Done → ⊥
first_more moving None e = no_next moving Pointed (sym e)
first_more moving (Some page) e = no_next moving Filled (sym e)

-- behind the clearing of the source nothing comes where nothing goes
left_ends : (moving : Moving) (some goes : Bool) → ◌≡◌ {A = Next Stage} (if some then More (Stepping moving Cleared) else if goes then More (Stepping moving Disowned) else Ended Done) (Ended Done)
    → (some ≡ false) × (goes ≡ false)
left_ends moving true goes e = absurd (no_next moving Cleared (sym e))
left_ends moving false true e = absurd (no_next moving Disowned (sym e))
left_ends moving false false e = (refl, refl)

nothing_cut : (pages : List ℕ) (given : Option ℕ) → length pages + count_of given ≡ 0 → (j : ℕ) → IsCut pages given j → ⊥
nothing_cut pages given zero j (inl (k, inside, is)) = omega (arith, zero, inside)
nothing_cut pages None zero j (inr is) = not_none j is
nothing_cut pages (Some page) zero j (inr is) = omega (arith, zero)

-- ---- the words

-- it is the last step, and the directory of the old name stays one
abbrev IsLastOf : ℕ → List ℕ → List ℕ → Moving → List ℕ → Type 0
IsLastOf P X K moving pages = IsLastStep P X K (pages ++ pages_left moving.given_back) (goes_of moving.replaced) (number_of moving.replaced) × IsDirectory K moving.from_directory

module _ {P : ℕ} {W : List ℕ} {state : State} (from to : Route) {moving : Moving} (at : IsMovingAt P W state from to moving) (pages : List ℕ) (are : AreGonePages P W moving.replaced pages)
    (count : length pages ≡ pages_of_loss moving.replaced) (X K : List ℕ) where
  abbrev before_clearing : List Step
  before_clearing = naming P moving.to_slot moving.inode ∷ unnaming P moving.from_slot ∷ []

  left_last : pages_replaced moving ≡ 0 → goes_of moving.replaced ≡ false → Through (made_at P moving pages Left) W X → ClearsSource P X K moving.from_slot moving.to_slot (falling_of moving) → IsLastOf P X K moving pages
  left_last none stays all clears =
      let has = has_pointed from to at before_clearing X all in
      let (C, commits, (D, leaves, same)) = has.rest in
      let here = same ∙ left_is from to at has C D commits leaves in
      let ready = ready_at from to at has in
      let clears_left = subst (λ (l : List ℕ). ClearsSource P l K moving.from_slot moving.to_slot (falling_of moving)) here clears in
      let gives = gives_none P moving pages count none K in
      let zero : length pages + count_of moving.given_back ≡ 0 = omega (arith, none, count) in
      let rest : ClearsRest P K K (IsCut pages moving.given_back) (goes_of moving.replaced ≡ true) (number_of moving.replaced) = record {
        size = refl;
        rests = λ j f cut low few. absurd (nothing_cut pages moving.given_back zero j cut);
        inode = λ goes f few. absurd (false≢true (sym stays ∙ goes));
        others = λ a out kept. refl;
      } in (
        subst (λ (l : List ℕ). IsLastStep P l K (pages ++ pages_left moving.given_back) (goes_of moving.replaced) (number_of moving.replaced)) (sym here)
            (ended.clearing_last from to at pages are has.pointed ready K clears_left K gives K rest refl),
        ended.directory_end from to at pages are has.pointed ready K clears_left K gives K rest,
      )

  disowned_last : Through (made_at P moving pages Disowned) W X → ClearsRest P X K (IsCut pages moving.given_back) (goes_of moving.replaced ≡ true) (number_of moving.replaced) → IsLastOf P X K moving pages
  disowned_last all rest =
      let has = has_pointed from to at (before_clearing ++ clearing_source P moving ∷ giving P pages moving.given_back ∷ []) X all in
      let (C, commits, (D, leaves, (J, clears, (G, gives, same)))) = has.rest in
      let ready = ready_at from to at has in
      let clears_left = subst (λ (l : List ℕ). ClearsSource P l J moving.from_slot moving.to_slot (falling_of moving)) (left_is from to at has C D commits leaves) clears in
      let rest_given = subst (λ (l : List ℕ). ClearsRest P l K (IsCut pages moving.given_back) (goes_of moving.replaced ≡ true) (number_of moving.replaced)) same rest in (
        subst (λ (l : List ℕ). IsLastStep P l K (pages ++ pages_left moving.given_back) (goes_of moving.replaced) (number_of moving.replaced)) (sym same)
            (ended.freeing from to at pages are has.pointed ready J clears_left G gives K rest_given),
        ended.directory_end from to at pages are has.pointed ready J clears_left G gives K rest_given,
      )

  no_pages : nat_lt 0 (pages_replaced moving) ≡ false → pages_replaced moving ≡ 0
  no_pages is = let most = ltb-false 0 (pages_replaced moving) is in omega (arith, most)

  last_by : (progress : Progress) → Through (made_at P moving pages progress) W X → (step_at P moving pages progress).Makes X K → next_moving moving progress ≡ Ended Done → IsLastOf P X K moving pages
  last_by Begun all makes e = absurd (first_more moving moving.new_page e)
  last_by Filled all makes e = absurd (no_next moving Opened (sym e))
  last_by Opened all makes e = absurd (no_next moving Pointed (sym e))
  last_by Pointed all makes e = absurd (no_next moving Moved (sym e))
  last_by Moved all makes e = absurd (no_next moving Left (sym e))
  last_by Left all makes e =
      let (none, stays) = left_ends moving (nat_lt 0 (pages_replaced moving)) (goes_of moving.replaced) e in
      left_last (no_pages none) stays all makes
  last_by Cleared all makes e = absurd (no_next moving Disowned (sym e))
  last_by Disowned all makes e = disowned_last all makes

-- ---- the volume

-- where nothing goes, all is given back
loses_none : (old new : VolumeView) (replaced : Option Loss) → goes_of replaced ≡ false → new ≡ old → LosesReplaced old new replaced
loses_none old new None stays same = same
loses_none old new (Some loss) stays same = subst (λ (goes : Bool). LeavesInodeIf goes old new loss.inode) (sym stays) same

page_none : (new : VolumeView) (directory : ℕ) (given : Option ℕ) → count_of given ≡ 0 → LeavesPageOf new new directory given
page_none new directory None none = refl
page_none new directory (Some page) none = absurd (omega (arith, none))

gives_by : (moving : Moving) (progress : Progress) (old new : VolumeView) → next_moving moving progress ≡ Ended Done → EntersMoving moving progress old new → GivesBack old new moving
gives_by moving Begun old new e enters = absurd (first_more moving moving.new_page e)
gives_by moving Filled old new e enters = absurd (no_next moving Opened (sym e))
gives_by moving Opened old new e enters = absurd (no_next moving Pointed (sym e))
gives_by moving Pointed old new e enters = absurd (no_next moving Moved (sym e))
gives_by moving Moved old new e enters = absurd (no_next moving Left (sym e))
gives_by moving Left old new e same =
    let (none, stays) = left_ends moving (nat_lt 0 (pages_replaced moving)) (goes_of moving.replaced) e in
    let few = ltb-false 0 (pages_replaced moving) none in
    record { lost = new; inode = loses_none old new moving.replaced stays same; page = page_none new moving.from_directory moving.given_back (omega (arith, few)) }
gives_by moving Cleared old new e enters = absurd (no_next moving Disowned (sym e))
gives_by moving Disowned old new e gives = gives

-- the pages that are left then are those that go
last_pages : (moving : Moving) (pages : List ℕ) (progress : Progress) → next_moving moving progress ≡ Ended Done → (left_with moving pages progress).pages ≡ pages ++ pages_left moving.given_back
last_pages moving pages Begun e = absurd (first_more moving moving.new_page e)
last_pages moving pages Filled e = absurd (no_next moving Opened (sym e))
last_pages moving pages Opened e = absurd (no_next moving Pointed (sym e))
last_pages moving pages Pointed e = absurd (no_next moving Moved (sym e))
last_pages moving pages Moved e = refl
last_pages moving pages Left e = refl
last_pages moving pages Cleared e = refl
last_pages moving pages Disowned e = refl

-- the owner of a slot is its page's
pub owner_of : (P : ℕ) (W : List ℕ) (j slot : ℕ) → j ≡ page_of_slot slot → page_owner P W j ≡ slot_owner P W slot
unfolding slot_owner
owner_of P W j slot here = ap (page_owner P W) here

-- the page that is given back is the directory's of the old name
pub given_owner : {P : ℕ} {W : List ℕ} {state : State} (from to : Route) {moving : Moving} (at : IsMovingAt P W state from to moving) (j : ℕ) → moving.given_back ≡ Some j → page_owner P W j ≡ moving.from_directory
given_owner {P} {W} from to {moving} at j is = owner_by moving.given_back (Moves.for_move from to at).given_back is
  where
    owner_by : (given : Option ℕ) → IsGivenBack (IsEmptiedBy P W moving) moving.from_slot given → given ≡ Some j → page_owner P W j ≡ moving.from_directory
    owner_by None back given = absurd (not_none j given)
    owner_by (Some page) back given = owner_of P W j moving.from_slot (sym (one_page page j given) ∙ back.1) ∙ (Moves.for_move from to at).source.slot_is.owner

-- a node that goes is one of the table, and not the directory of the old name
goer_within : (volume : VolumeView) (moving : Moving) (replaced : Option Loss) → inodes_of_index volume.index ≡ inodes_of volume.size → HasLosses volume moving → MayLose volume moving replaced
    → (1 ≤ goer replaced moving.from_directory) × (goer replaced moving.from_directory ≤ inodes_of volume.size) × (goes_of replaced ≡ true → moving.from_directory ≢ goer replaced moving.from_directory)
goer_within volume moving None each has may = let (least, most) = has.directory in (least, omega (arith, most, each), (λ goes. absurd (false≢true goes)))
goer_within volume moving (Some loss) each has (least, most, goes) = (least, omega (arith, most, each), (λ is. (goes is).1))

module _ (old : VolumeView) (before : DeviceView) (state : State) (from to : Route) (moving : Moving) (progress : Progress) (waits : WaitsToMove old before state from to moving progress)
    (e : next_moving moving progress ≡ Ended Done) where
  abbrev P : ℕ
  P = old.size

  abbrev pages : List ℕ
  pages = gone_pages old moving.replaced

  abbrev all : List ℕ
  all = pages ++ pages_left moving.given_back

  abbrev kept : VolumeView
  kept = stepping.kept old before state from to moving progress waits

  at : IsMovingAt P waits.at.first waits.start from to moving
  at = stepping.at_first old before state from to moving progress waits

  left_pages : (left_by old moving progress).pages ≡ all
  left_pages = last_pages moving pages progress e

  listed_at : (i j : ℕ) → 1 ≤ i → i ≤ inodes_of P → IsIn j all → Contains (pages_of old.index i) j → page_owner P waits.at.first j ≡ i
  listed_at i j least most among there = waits.listed i j least most (subst (λ (l : List ℕ). IsIn j l) (sym left_pages) among) there

  page_listed : AreListedAt kept (pages_of_option moving.given_back) moving.from_directory
  page_listed i j back least most other there =
      other (sym (listed_at i j least most (in_back j pages (pages_left moving.given_back) back) there) ∙ given_owner from to at j ((in_option moving.given_back j).0 back))

  pages_listed : AreListedAt kept (pages_with (goes_of moving.replaced) kept (goer moving.replaced moving.from_directory)) (goer moving.replaced moving.from_directory)
  pages_listed i j among least most other there =
      let went : IsIn j pages = subst (IsIn j) (pages_gone kept moving.replaced moving.from_directory) among in
      let (goes, page) = (waits.at.pages_are.among j).0 (in_contained j pages went) in
      other (sym (listed_at i j least most (in_front j pages (pages_left moving.given_back) went) there) ∙ page.owner ∙ sym (goer_is moving.replaced moving.from_directory goes))

  -- ---- the words J of the step

  module _ (J : List ℕ) (made : (step_of old (Stepping moving progress)).Makes before.words J) where
    last : IsLastOf P before.words J moving pages
    last = last_by from to at pages waits.at.pages_are waits.knows.losses.count before.words J progress waits.at.made made e

    pub crash_last : KeepsMeaning P before.words J
    crash_last = stepping.crash_keeps old before state from to moving progress waits J made last.0.crash

  -- ---- the volume behind it

  module _ (new : VolumeView) (after : DeviceView) (makes : MakesStep (step_of old (Stepping moving progress)) (EntersAt (Stepping moving progress)) old new before after) where
    abbrev behind_it : IsLastOf P before.words after.words moving pages
    behind_it = last after.words makes.takes.makes

    knows_new : KnowsBeside new after.words no_residue
    knows_new =
        let each = waits.stands.knows.nodes.each_inode in
        let (least, most, apart) = goer_within old moving moving.replaced each waits.knows.losses waits.knows.losses.inode in
        let directory = waits.knows.losses.directory in
        known_given kept new before.words after.words (left_by old moving progress) moving (least, most) behind_it.0
        (stepping.knows_kept old before state from to moving progress waits) waits.stands.sound.coherent left_pages (directory.0, omega (arith, directory, each)) (λ file. not_both_kinds after.words moving.from_directory file behind_it.1) apart
        page_listed pages_listed (gives_by moving progress kept new e makes.enters)

    pub ends : StandsWith new after state no_residue no_residue
    ends = record {
      stands = stepping.stands_again old before state from to moving progress waits new after makes state no_residue behind_it.0.means.coherent behind_it.0.beside (reads_same P before.words after.words behind_it.0.means state waits.stands.reads) knows_new;
      going = (stepping.goes_again old before state from to moving progress waits new after makes).0;
      unmarked = (stepping.goes_again old before state from to moving progress waits new after makes).1;
      no_pointer = refl;
    }

pub moving_ends : MovingEndsLaw
moving_ends old new before after state from to moving progress waits makes e = ends old before state from to moving progress waits e new after makes
