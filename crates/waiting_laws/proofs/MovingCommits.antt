-- The step that commits a move: the new slot takes the number, and the volume takes in the names.
use Rattle.std.proofs.Common.{◌≡◌, ◌⊎◌, inl, inr, ℕ, List, [], refl, sym, subst, ◌∙◌}
use Rattle.pm_trait.specs.DeviceView.{DeviceView}
use Rattle.tree_model.specs.PathText.{Route}
use Rattle.tree_model.specs.Run.{State}
use Rattle.tree_model.specs.declared.command.Command.TheVariants.{Rename}
use Rattle.image_reading.specs.Reading.{ReadsAs}
use Rattle.image_reading.specs.Residue.{IsTidyBeside}
use Rattle.image_reading.specs.Soundness.{IsCoherent, Sound}
use Rattle.image_laws.specs.Create.{committed as numbered}
use Rattle.image_laws.specs.CreateStep.{IsStepped}
use Rattle.image_laws.specs.Move.{moved}
use Rattle.image_laws.specs.Quiet.{IsMix}
use Rattle.rename_laws.specs.Ready.{IsMoveReady}
use Rattle.rename_laws.proofs.MoveIntervals.{commit_law}
use Rattle.moving_laws.proofs.Entered.{moved_state_law}
use Rattle.volume.specs.Moves.{rising_of}
use Rattle.volume.specs.Volume.{VolumeView}
use Rattle.volume.specs.Beside.{KnowsBeside}
use Rattle.volume.specs.declared.plan.Moving.{Moving}
use Rattle.volume.proofs.Statuses.{same_state_beside}
use Rattle.removal_steps.specs.Steps.{gone_pages}
use Rattle.rename_ptr.specs.Steps.{target_of}
use Rattle.rename_ptr.specs.Renaming.{IsMovingAt}
use Rattle.rename_ptr.specs.Stages.{EntersAt, StandsStage, step_of}
use Rattle.rename_ptr.specs.declared.rename.Progress.TheVariants.{Pointed, Moved}
use Rattle.rename_ptr.specs.declared.rename.Stage.TheVariants.{Moving as Stepping}
use Rattle.rename_ptr.proofs.Moves
use Rattle.waiting_laws.specs.Beside.{MakesStep, Commits}
use Rattle.waiting_laws.specs.Crashes.{MovingCommitLaw}
use Rattle.waiting_laws.specs.Moving.{WaitsToMove, left_by, MovingCommitsLaw}
use Rattle.waiting_laws.proofs.Standing.{no_mark, sound_without}
use Rattle.waiting_laws.proofs.MovingQuiet.{IsQuietSince, reads_same}
use Rattle.waiting_laws.proofs.MovingBefore as before_it
use Rattle.waiting_laws.proofs.MovingBehind as behind
use Rattle.waiting_laws.proofs.MovingCourse.{left_with, HasPointed, has_pointed, ready_at, moved_is}
use Rattle.waiting_laws.proofs.MovingSteps as stepping
use Rattle.waiting_laws.proofs.MovingTaken as taken_in

module _ (old : VolumeView) (before : DeviceView) (state : State) (from to : Route) (moving : Moving) (n : ℕ) (waits : WaitsToMove old before state from to moving Pointed) where
  abbrev P : ℕ
  P = old.size

  abbrev pages : List ℕ
  pages = gone_pages old moving.replaced

  abbrev first : List ℕ
  first = waits.at.first

  at : IsMovingAt P first waits.start from to moving
  at = stepping.at_first old before state from to moving Pointed waits

  -- its first steps made the words with the pointer, by which the commit is that of the laws
  has : HasPointed from to at [] before.words
  has = has_pointed from to at [] before.words waits.at.made

  ready : IsMoveReady P first has.pointed (Moves.from_way from to at) (Moves.to_way from to at) moving.from_slot moving.to_directory moving.to_slot (target_of moving) (rising_of moving)
  ready = ready_at from to at has

  here_is : before.words ≡ has.pointed
  here_is = has.rest

  -- the state is that at its begin
  reads_start : ReadsAs P before.words waits.start
  reads_start = subst (λ (l : List ℕ). ReadsAs P l waits.start) (sym here_is) (reads_same P first has.pointed ready.means waits.start waits.planned.reads)

  same_start : waits.start ≡ state
  same_start = same_state_beside old before waits.start state (left_by old moving Pointed) (left_by old moving Pointed) (record {
    settled = waits.stands.settled;
    sound = waits.stands.sound;
    beside = waits.stands.beside;
    reads = reads_start;
    knows = waits.stands.knows;
    mark = waits.stands.mark;
    room = waits.stands.room;
  }) waits.stands

  -- the words of the commit, which fit together and are tidy beside what goes
  abbrev C : List ℕ
  C = moved P has.pointed moving.from_slot moving.to_slot

  since : IsQuietSince P C C (left_with moving pages Moved)
  since = behind.since_committed from to at pages waits.at.pages_are has.pointed ready

  -- ---- the words J of the step

  module _ (J : List ℕ) (made : (step_of old (Stepping moving Pointed)).Makes before.words J) where
    there_is : J ≡ C
    there_is = moved_is from to at has J (subst (λ (l : List ℕ). J ≡ numbered P l moving.to_slot moving.inode) here_is made)

    stepped : IsStepped P J state (Rename from to) n
    stepped = subst (λ (s : State). IsStepped P J s (Rename from to) n) same_start
        (subst (λ (l : List ℕ). IsStepped P l waits.start (Rename from to) n) (sym there_is)
        (moved_state_law P first has.pointed waits.start (Moves.from_way from to at) (Moves.to_way from to at) from to moving.from_slot moving.to_directory moving.to_slot n (target_of moving) (rising_of moving) ready
        (Moves.are_paths from to at) waits.planned.reads (Moves.fills from to at)))

    crash : (M : List ℕ) → IsMix before.words J M → (M ≡ before.words) ⊎ (M ≡ J)
    crash M mix =
        let mix_there : IsMix has.pointed C M = subst (λ (l : List ℕ). IsMix has.pointed l M) there_is (subst (λ (l : List ℕ). IsMix l J M) here_is mix) in
        elim (commit_law P first has.pointed M (Moves.from_way from to at) (Moves.to_way from to at) moving.from_slot moving.to_directory moving.to_slot (target_of moving) (rising_of moving) ready mix_there) [
          | inl e ↦ inl (e ∙ sym here_is)
          | inr e ↦ inr (e ∙ sym there_is)
        ]

    coherent : IsCoherent P J
    coherent = subst (λ (l : List ℕ). IsCoherent P l) (sym there_is) since.means.coherent

    sound : Sound P J
    sound = sound_without P J coherent (stepping.mark_same old before state from to moving Pointed waits J made ∙ no_mark old before state (left_by old moving Pointed) waits.stands waits.unmarked)

    pub commits : Commits P before.words J state (Rename from to) n
    commits = record { crash = crash; sound = sound; stepped = stepped }

  -- ---- the volume that has taken it in stands for it, beside what goes

  module _ (new : VolumeView) (after : DeviceView) (makes : MakesStep (step_of old (Stepping moving Pointed)) (EntersAt (Stepping moving Pointed)) old new before after) where
    abbrev committed : Commits P before.words after.words state (Rename from to) n
    committed = commits after.words makes.takes.makes

    abbrev here_after : after.words ≡ C
    here_after = there_is after.words makes.takes.makes

    pub waits_moved : StandsStage new after (Stepping moving Moved) → WaitsToMove new after committed.stepped.new from to moving Moved
    waits_moved stands =
        let kept = stepping.kept old before state from to moving Pointed waits in
        let knows = subst (λ (l : List ℕ). KnowsBeside kept l (left_by old moving Pointed)) here_is (stepping.knows_kept old before state from to moving Pointed waits) in
        let taken =
        taken_in.knows_moved kept new from to at pages waits.at.pages_are has.pointed ready (before_it.since_pointed from to at has.opened has.opens has.pointed has.points) knows waits.listed makes.enters in
        stepping.waits_on old before state from to moving Pointed waits new after makes Moved refl stands committed.stepped.new
        (stepping.stands_again old before state from to moving Pointed waits new after makes committed.stepped.new (left_with moving pages Moved) (coherent after.words makes.takes.makes)
        (subst (λ (l : List ℕ). IsTidyBeside P l (left_with moving pages Moved)) (sym here_after) since.beside) committed.stepped.reads
        (subst (λ (l : List ℕ). KnowsBeside new l (left_with moving pages Moved)) (sym here_after) taken.known))
        taken.lists

pub moving_commit_law : MovingCommitLaw
moving_commit_law volume device state from to moving n J waits made = commits volume device state from to moving n waits J made

pub moving_commits : MovingCommitsLaw
moving_commits old new before after state from to moving n waits makes stands =
    (commits old before state from to moving n waits after.words makes.takes.makes, waits_moved old before state from to moving n waits new after makes stands)
