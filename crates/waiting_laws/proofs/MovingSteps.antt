-- A move that waits makes a step that commits nothing and isn't its last: it waits at the next stage, and no crash in the step changes a meaning.
use Rattle.std.proofs.Common.{◌≡◌, inl, inr, ℕ, ◌-◌, ◌≤◌, false, List, length, Contains, refl, sym, subst, ◌∙◌}
use Rattle.pm_trait.specs.DeviceView.{DeviceView}
use Rattle.pm_trait.specs.Unfolds.{Step, Through}
use Rattle.layout.specs.Fields.{page_owner}
use Rattle.layout.specs.Geometry.{inodes_of}
use Rattle.layout.specs.Superblock.{has_mark}
use Rattle.tree_model.specs.PathText.{Route}
use Rattle.tree_model.specs.Run.{State}
use Rattle.image_reading.specs.Counts.{IsIn}
use Rattle.image_reading.specs.Reading.{ReadsAs}
use Rattle.image_reading.specs.Residue.{Residue, IsTidyBeside}
use Rattle.image_reading.specs.Soundness.{IsCoherent}
use Rattle.image_laws.specs.Frame.{SameMeaning}
use Rattle.image_laws.specs.Quiet.{IsMix}
use Rattle.volatile_index.specs.Index.{pages_of}
use Rattle.volume.specs.Costs.{pages_of_loss}
use Rattle.volume.specs.Entered.{TakesPages}
use Rattle.volume.specs.Volume.{VolumeView}
use Rattle.volume.specs.Beside.{KnowsBeside, StandsBeside}
use Rattle.volume.specs.declared.next.Next.TheVariants.{More}
use Rattle.volume.specs.declared.plan.Moving.{Moving}
use Rattle.volume.proofs.Moments.{with_kept, IsSameBeside}
use Rattle.removal_steps.specs.Steps.{gone_pages}
use Rattle.rename_ptr.specs.Renaming.{IsMovingAt}
use Rattle.rename_ptr.specs.Stages.{IsAt, IsPlannedMove, EntersMoving, EntersAt, StandsStage, step_at, step_of, made_at, next_moving}
use Rattle.rename_ptr.specs.declared.rename.Progress.{Progress}
use Rattle.rename_ptr.specs.declared.rename.Progress.TheVariants.{Begun, Filled, Opened, Pointed, Moved, Left, Cleared, Disowned}
use Rattle.rename_ptr.specs.declared.rename.Stage.TheVariants.{Moving as Stepping}
use Rattle.rename_ptr.proofs.Ahead.{stores, next_cases}
use Rattle.rename_ptr.proofs.Known.{enters_beside}
use Rattle.waiting_laws.specs.Beside.{MakesStep, KeepsMeaning}
use Rattle.waiting_laws.specs.Moving.{WaitsToMove, left_by, MovingStepsLaw}
use Rattle.waiting_laws.proofs.Standing.{no_mark, stands_behind, quiet_crash}
use Rattle.waiting_laws.proofs.MovingQuiet.{step_means, reads_same}
use Rattle.waiting_laws.proofs.MovingKnown.{knows_with, known_quiet}
use Rattle.waiting_laws.proofs.MovingMark.{mark_kept, step_keeps}
use Rattle.waiting_laws.proofs.MovingCourse.{left_with, taken_at, IsQuietMove, quiet_move, same_next, no_next}

-- a step that is neither the commit nor the last takes pages alone
takes_at : (moving : Moving) (progress next : Progress) (a b : VolumeView) → (progress ≡ Pointed → ⊥) → next_moving moving progress ≡ More (Stepping moving next) → EntersMoving moving progress a b → TakesPages a b (taken_at moving progress)
takes_at moving Begun next a b other e takes = takes
takes_at moving Filled next a b other e same = same
takes_at moving Opened next a b other e same = same
takes_at moving Pointed next a b other e moves = absurd (other refl)
takes_at moving Moved next a b other e same = same
takes_at moving Left next a b other e same = same
takes_at moving Cleared next a b other e same = same
takes_at moving Disowned next a b other e gives = absurd (no_next moving next e)

-- What the course of a move has once a step was made to this stage: its steps from the words at its begin, and the pages that go.
record HasGoneOn (P : ℕ) (first now : List ℕ) (new : VolumeView) (moving : Moving) (pages : List ℕ) (next : Progress) : Type 0 where
  made : Through (made_at P moving pages next) first now
  gone : gone_pages new moving.replaced ≡ pages

module _ (old : VolumeView) (before : DeviceView) (state : State) (from to : Route) (moving : Moving) (progress : Progress) (waits : WaitsToMove old before state from to moving progress) where
  abbrev P : ℕ
  P = old.size

  abbrev pages : List ℕ
  pages = gone_pages old moving.replaced

  abbrev step : Step
  step = step_at P moving pages progress

  abbrev pub kept : VolumeView
  kept = with_kept (old.kept - step.events) old

  abbrev first : List ℕ
  first = waits.at.first

  count_is : length pages ≡ pages_of_loss moving.replaced
  count_is = waits.knows.losses.count

  -- its begin, as the laws of a rename have it
  pub at_first : IsMovingAt P first waits.start from to moving
  at_first = record { tidy = waits.planned.tidy; reads = waits.planned.reads; planned = waits.planned.planned; is_name = waits.named.0; of_bytes = waits.named.1 }

  pub coherent : IsCoherent P before.words
  coherent = waits.stands.sound.coherent

  pub knows_kept : KnowsBeside kept before.words (left_by old moving progress)
  knows_kept = knows_with old (old.kept - step.events) before.words (left_by old moving progress) waits.stands.knows

  -- ---- the words J of the step

  module _ (J : List ℕ) (made : step.Makes before.words J) where
    pub mark_same : has_mark J ≡ has_mark before.words
    mark_same = mark_kept before.words J (step_keeps P moving pages before.words J progress made)

    -- a crash in a step that changes no meaning
    pub crash_keeps : ((M : List ℕ) → IsMix before.words J M → SameMeaning P before.words M) → KeepsMeaning P before.words J
    crash_keeps same = quiet_crash P before.words J mark_same (no_mark old before state (left_by old moving progress) waits.stands waits.unmarked) same

    -- in one that is neither the commit nor the last
    module _ (next : Progress) (e : next_moving moving progress ≡ More (Stepping moving next)) (other : progress ≡ Pointed → ⊥) where
      quiet : IsQuietMove P before.words J moving pages progress next
      quiet = quiet_move from to at_first pages waits.at.pages_are before.words J progress other waits.at.store waits.at.made made next e

      pub crash_quiet : KeepsMeaning P before.words J
      crash_quiet = crash_keeps quiet.step.crash

  -- ---- the volume behind it

  module _ (new : VolumeView) (after : DeviceView) (makes : MakesStep (step_of old (Stepping moving progress)) (EntersAt (Stepping moving progress)) old new before after) where
    same_beside : IsSameBeside kept new
    same_beside = enters_beside kept new moving progress makes.enters

    -- Behind a step the volume goes on without a mark,
    pub goes_again : (new.stopped ≡ false) × (new.marked ≡ false)
    goes_again = (same_beside.stopped ∙ waits.going, same_beside.marked ∙ waits.unmarked)

    -- and stands for a state that these words read as, beside what they are tidy beside.
    pub stands_again : (later : State) (residue : Residue) → IsCoherent P after.words → IsTidyBeside P after.words residue → ReadsAs P after.words later → KnowsBeside new after.words residue → StandsBeside new after later residue
    stands_again later residue fit beside reads knows =
        stands_behind old new before after state later (left_by old moving progress) residue step (EntersAt (Stepping moving progress)) waits.stands waits.unmarked makes (stores P moving pages count_is progress waits.at.store)
        (record { size = same_beside.size; stopped = same_beside.stopped; marked = same_beside.marked; kept = same_beside.kept }) (mark_same after.words makes.takes.makes)
        (record {
          coherent = subst (λ (p : ℕ). IsCoherent p after.words) (sym same_beside.size) fit;
          beside = subst (λ (p : ℕ). IsTidyBeside p after.words residue) (sym same_beside.size) beside;
          reads = subst (λ (p : ℕ). ReadsAs p after.words later) (sym same_beside.size) reads;
          knows = knows;
        })

    module _ (next : Progress) (e : next_moving moving progress ≡ More (Stepping moving next)) (stands : StandsStage new after (Stepping moving next)) where
      -- by the next stage of the course
      gone_on : HasGoneOn P first after.words new moving pages next
      gone_on = next_cases P moving pages (λ there. there ≡ More (Stepping moving next) → HasGoneOn P first after.words new moving pages next) progress waits.at.store count_is
          (λ other is e. subst (HasGoneOn P first after.words new moving pages) (same_next moving other next e)
          (record { made = is.made first before.words after.words waits.at.made makes.takes.makes; gone = is.gone kept new makes.enters })) (λ last e. absurd (no_next moving next e)) e

      pub gone_same : gone_pages new moving.replaced ≡ pages
      gone_same = gone_on.gone

      -- where it lists a page that is left, by the words at the begin
      abbrev pub AreListed : ℕ → List ℕ → List ℕ → Type 0
      AreListed p begun l = (i j : ℕ) → 1 ≤ i → i ≤ inodes_of p → IsIn j (left_with moving l next).pages → Contains (pages_of new.index i) j → page_owner p begun j ≡ i

      -- its words, with those at its begin, in a volume of p pages of which these go
      abbrev HasBegun : ℕ → List ℕ → Type 0
      HasBegun p l = (at : IsAt p after.words moving l next) × IsPlannedMove p at.first waits.start from to moving × AreListed p at.first l

      has_begun : AreListed P first pages → HasBegun new.size (gone_pages new moving.replaced)
      has_begun listed = subst (λ (p : ℕ). HasBegun p (gone_pages new moving.replaced)) (sym same_beside.size) (subst (HasBegun P) (sym gone_on.gone) (
        record { first = first; planned = (waits.start, from, to, waits.planned); pages_are = waits.at.pages_are; made = gone_on.made; store = stands.at.0.store },
        waits.planned,
        listed,
      ))

      -- It waits at the next stage where the volume stands beside what it has left.
      pub waits_on : (later : State) → StandsBeside new after later (left_with moving pages next) → AreListed P first pages → WaitsToMove new after later from to moving next
      waits_on later stood listed = let (at, planned, lists) = has_begun listed in record {
        stands = subst (λ (l : List ℕ). StandsBeside new after later (left_with moving l next)) (sym gone_on.gone) stood;
        going = goes_again.0;
        unmarked = goes_again.1;
        at = at;
        knows = stands.at.1;
        start = waits.start;
        planned = planned;
        named = waits.named;
        listed = lists;
      }

      -- ---- where it isn't the commit

      module _ (other : progress ≡ Pointed → ⊥) where
        abbrev quietly : IsQuietMove P before.words after.words moving pages progress next
        quietly = quiet after.words makes.takes.makes next e other

        takes : TakesPages kept new (taken_at moving progress)
        takes = takes_at moving progress next kept new other e makes.enters

        knows_new : KnowsBeside new after.words (left_with moving pages next)
        knows_new =
            known_quiet kept new before.words after.words (left_with moving pages progress) (left_with moving pages next) (taken_at moving progress) knows_kept coherent waits.stands.beside quietly.step quietly.left quietly.taken takes

        -- a page that is taken is free at the begin
        taken_listed : (p : Progress) → Through (made_at P moving pages p) first before.words → KnowsBeside old before.words (left_with moving pages p) → (i j : ℕ) → 1 ≤ i → i ≤ inodes_of P → IsIn j (taken_at moving p)
            → Contains (pages_of old.index i) j → page_owner P first j ≡ i
        taken_listed Begun same knows i j least most among there = subst (λ (l : List ℕ). page_owner P l j ≡ i) same (((knows.nodes.pages i j least most (λ none. none)).0 there).owner)
        taken_listed Filled same knows i j least most among there = absurd among
        taken_listed Opened same knows i j least most among there = absurd among
        taken_listed Pointed same knows i j least most among there = absurd among
        taken_listed Moved same knows i j least most among there = absurd among
        taken_listed Left same knows i j least most among there = absurd among
        taken_listed Cleared same knows i j least most among there = absurd among
        taken_listed Disowned same knows i j least most among there = absurd among

        listed_new : AreListed P first pages
        listed_new i j least most among there =
            let was : Contains (pages_of old.index i) j = subst (λ (v : VolumeView). Contains (pages_of v.index i) j) takes there in
            elim (quietly.left j among) [ inl left ↦ waits.listed i j least most left was | inr new_page ↦ taken_listed progress waits.at.made waits.stands.knows i j least most new_page was ]

        pub steps : WaitsToMove new after state from to moving next
        steps =
            let same = step_means quietly.step in
            waits_on state (stands_again state (left_with moving pages next) same.coherent quietly.step.beside (reads_same P before.words after.words same state waits.stands.reads) knows_new) listed_new

pub moving_steps : MovingStepsLaw
moving_steps old new before after state from to moving progress next waits other makes e stands = steps old before state from to moving progress waits new after makes next e stands other
