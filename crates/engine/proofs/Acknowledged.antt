-- A line that was executed, and then acknowledged.
use Rattle.std.proofs.Common.{◌≡◌, ◌⊎◌, inl, inr, ℕ, List, [], ◌∷◌, refl, sym, ap, subst, ◌∙◌, arith}
use Rattle.std.specs.Prelude.{Option, Some, None, Ok, Err, IsTrue}
use Rattle.pm_trait.specs.declared.event.Event.TheVariants.{Ack}
use Rattle.pm_trait.specs.Trail.{Trail}
use Rattle.pm_trait.specs.Device.{HasRisen, with_event, acks_from, moment_of}
use Rattle.pm_trait.specs.DeviceView.{DeviceView}
use Rattle.pm_trait.proofs.ContinuesLaws.{acks_from-all, continues_by, moment_of-grown}
use Rattle.pm_trait.proofs.DeviceLaws.{leaves_weaker, leaves_next}
use Rattle.pm_trait.proofs.AckLaws.{leaves_ack, acks_none, acks_next, acks_ack, settled_ack}
use Rattle.tree_model.specs.Step.{Answer, Done, Count, Status, Bytes, Listed, Space, Refused, Unread, Fault, Stopped}
use Rattle.tree_model.specs.Run.{Line, State, LineStep}
use Rattle.tree_model.specs.declared.reply.Reply.{Reply}
use Rattle.layout.specs.Superblock.{has_mark}
use Rattle.volume.specs.Volume.{VolumeView}
use Rattle.volume.specs.Stands.{StandsFor, Knows}
use Rattle.image_reading.specs.Reading.{ReadsAs}
use Rattle.image_reading.specs.Residue.{Residue, IsTidyBeside}
use Rattle.image_reading.specs.Soundness.{Sound}
use Rattle.image_reading.specs.Tidy.{Tidy}
use Rattle.volume.specs.Beside.{StandsBeside, KnowsBeside}
use Rattle.pm_trait.specs.DeviceView.{Acknowledges}
use Rattle.volume.specs.Crashes.{MayReadAs}
use Rattle.engine.specs.Exec.{Executed, HasAnswered}
use Rattle.engine.specs.Replies.{IsTold}
use Rattle.engine.specs.Run.{command_of, IsAt}
use Rattle.engine.specs.Session.{SessionView}
use Rattle.tree_model.specs.Fences.{fences_of}
use Rattle.tree_model.specs.Places.{line_needs_places}
use Rattle.engine.proofs.After.{Acked, acked_then}
use Rattle.engine.proofs.Marks.{keeps_after}
use Rattle.engine.proofs.Quiet.{acts_answered}

-- an acknowledgement is one
pub ack_counts : (old : Option Trail) {new : Option Trail} → new ≡ with_event old Ack → Acked old new 1
ack_counts None appended told is = absurd (cc (appended, is))
ack_counts (Some trail) {new} appended told is =
    ap (λ (t : Option Trail). acks_from (Some trail) t (moment_of t)) appended ∙ acks_from-all trail (Ack ∷ [])

-- what a volume stands for is what its words read as
pub stands_at : (volume : VolumeView) (device : DeviceView) {state : State} → StandsFor volume device state → IsAt volume.size state device.words
stands_at volume device stands = record { tidy = stands.tidy; reads = stands.reads }

-- the state that a line leaves is one that a crash in it may leave
pub may_be_after : (P : ℕ) (old : State) (line : Line) (answer : Answer) (new : State) (words : List ℕ) → LineStep P old line answer new → IsAt P new words
    → MayReadAs P old (command_of (Some line)) words
may_be_after P old (Ok command) answer new words (inl step) is =
    record { sound = is.tidy.sound; tree = new.tree; reads = is.reads.tree; allowed = inr (inl step.tree) }
may_be_after P old (Ok command) answer new words (inr lacks) is =
    record { sound = is.tidy.sound; tree = new.tree; reads = is.reads.tree; allowed = inl (ap (λ (s : State). s.tree) lacks.unchanged) }
may_be_after P old (Err fault) answer new words step is =
    record { sound = is.tidy.sound; tree = new.tree; reads = is.reads.tree; allowed = ap (λ (s : State). s.tree) step.1 }

-- what a crash with no line running may leave, it may leave with any line running
pub may_more : (P : ℕ) (state : State) (line : Line) (image : List ℕ) → MayReadAs P state None image → MayReadAs P state (command_of (Some line)) image
may_more P state (Ok command) image may = record { sound = may.sound; tree = may.tree; reads = may.reads; allowed = inl may.allowed }
may_more P state (Err fault) image may = may

pub may_be_there : (P : ℕ) (state : State) (words : List ℕ) → IsAt P state words → MayReadAs P state None words
may_be_there P state words is = record { sound = is.tidy.sound; tree = state.tree; reads = is.reads.tree; allowed = refl }

-- ---- what an acknowledgement leaves

module _ (session : SessionView) (device acked : DeviceView) (same : acked.words ≡ device.words) (appended : acked.trail ≡ with_event device.trail Ack) (room : acked.spare ≡ device.spare) where
  -- a volume stands for a state whatever was acknowledged
  pub stands_acked : {state : State} → StandsFor session.volume device state → StandsFor session.volume acked state
  stands_acked {state} stands = record {
    settled = settled_ack same appended stands.settled;
    tidy = subst (λ (w : List ℕ). Tidy session.volume.size w) (sym same) stands.tidy;
    reads = subst (λ (w : List ℕ). ReadsAs session.volume.size w state) (sym same) stands.reads;
    knows = subst (λ (w : List ℕ). Knows session.volume w) (sym same) stands.knows;
    mark = stands.mark ∙ ap (λ (w : List ℕ). has_mark w) (sym same);
    room = let least = stands.room in omega (arith, least, room);
    no_call = stands.no_call;
  }

  beside_acked : {state : State} {residue : Residue} → StandsBeside session.volume device state residue → StandsBeside session.volume acked state residue
  beside_acked {state} {residue} stands = record {
    settled = settled_ack same appended stands.settled;
    sound = subst (λ (w : List ℕ). Sound session.volume.size w) (sym same) stands.sound;
    beside = subst (λ (w : List ℕ). IsTidyBeside session.volume.size w residue) (sym same) stands.beside;
    reads = subst (λ (w : List ℕ). ReadsAs session.volume.size w state) (sym same) stands.reads;
    knows = subst (λ (w : List ℕ). KnowsBeside session.volume w residue) (sym same) stands.knows;
    mark = stands.mark ∙ ap (λ (w : List ℕ). has_mark w) (sym same);
    room = let least = stands.room in omega (arith, least, room);
  }

  -- and the session has what is written of an answer
  pub told_acked : (answer : Answer) → IsTold session device answer → IsTold session acked answer
  told_acked Done told = told
  told_acked (Count n) told = told
  told_acked (Status s) told = told
  told_acked (Bytes bytes) told = told
  told_acked (Listed inode names) told = record {
    state = told.state;
    residue = told.residue;
    stands = beside_acked told.stands;
    going = told.going;
    directory = told.directory;
    names_are = told.names_are;
  }
  told_acked (Space free) told = told
  told_acked (Refused refusal) told = told
  told_acked (Unread fault) told = told
  told_acked Fault told = told
  told_acked Stopped told = told

module _ {P : ℕ} {old : State} {line : Line} {session : SessionView} {replied : Reply} (before after acked : DeviceView)
    (size : session.volume.size ≡ P) (done : Executed P old line session replied before after) (acks : Acknowledges after acked) where
  is_there : IsAt P done.new after.words
  is_there = subst (λ (p : ℕ). IsAt p done.new after.words) size (stands_at session.volume after done.stands)

  pub acknowledged : HasAnswered P old line session replied before acked
  acknowledged = record {
    answer = done.answer;
    new = done.new;
    replied = record { reply_is = done.replied.reply_is; told = told_acked session after acked acks.words acks.trail acks.room done.answer done.replied.told };
    step = done.step;
    stands = stands_acked session after acked acks.words acks.trail acks.room done.stands;
    acks = acks_next done.no_ack (acks_none _ done.any_moment.continues done.no_ack) (acks_ack _ done.stands.settled acks.trail (refl, is_there));
    any_moment = leaves_next done.no_ack (leaves_weaker (λ k image may. inl may) done.any_moment)
        (leaves_ack _ done.stands.settled acks.trail
        (inl (refl, may_be_after P old line done.answer done.new after.words done.step is_there))
        (inr (refl, may_be_there P done.new after.words is_there)));
    quiet = acts_answered (fences_of old line done.answer done.new) done.any_moment.continues (continues_by Ack acks.trail) done.no_ack (λ none. (done.quiet none).1) acks.trail;
    one_ack = λ told is_told. acked_then 0 1 done.any_moment.continues (leaves_ack (λ k image. Unit {0}) done.stands.settled acks.trail tt tt).continues (λ t i. done.no_ack) (ack_counts after.trail acks.trail) told is_told;
    fences = acks.fences ∙ done.fences;
    events = let before = done.events in let ack = moment_of-grown _ _ (Ack ∷ []) acks.trail in omega (arith, before, ack);
    mark = keeps_after acks.words done.mark;
    no_memory = λ is. subst (λ (refused : ℕ). IsTrue (line_needs_places old line) ⊎ HasRisen before.refused refused) (sym acks.refused) (done.no_memory is);
  }
