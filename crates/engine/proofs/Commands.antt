-- What a line leaves for which nothing was done, and what preparing it adds to what was done.
use Rattle.std.proofs.Common.{◌≡◌, inl, inr, ℕ, ◌&&◌, List, false, Option, Some, is_none, refl, sym, ap, subst, ◌∙◌, arith}
use Rattle.std.specs.Prelude.{IsTrue, ◌⊎◌, Result, Ok, Err, OnErr, IfOk, IsErr}
use Rattle.pm_trait.specs.Trail.{Trail}
use Rattle.pm_trait.specs.DeviceView.{DeviceView}
use Rattle.pm_trait.specs.Device.{HasRisen, LeavesOnly, StaysOnce, acks_from, moment_of}
use Rattle.pm_trait.proofs.ContinuesLaws.{continues_here, acks_from-here}
use Rattle.pm_trait.proofs.DeviceLaws.{leaves_here}
use Rattle.pm_trait.specs.declared.event.PmFault.{PmFault}
use Rattle.tree_model.specs.Capacity.{untaken}
use Rattle.tree_model.specs.Step.{Answer, Refused, Fault, least_free_id, refusal_of, outcome_of, step, RoomAfterWith}
use Rattle.tree_model.specs.Run.{Line, State, Steps, LineStep, LineFails, is_changing}
use Rattle.tree_model.specs.Fences.{fences_of as fences_of_line}
use Rattle.tree_model.specs.Places.{needs_places, line_needs_places}
use Rattle.tree_model.proofs.RefusalLaws.{refusal_other}
use Rattle.tree_model.proofs.FenceLaws.{no_fences-reading}
use Rattle.tree_model.specs.declared.command.Command.{Command}
use Rattle.tree_model.specs.declared.reply.Refusal.{Refusal}
use Rattle.tree_model.specs.declared.reply.Refusal.TheVariants.{NoMemory}
use Rattle.tree_model.specs.declared.reply.Reply.{Reply}
use Rattle.tree_model.specs.declared.reply.Reply.TheVariants as reply
use Rattle.image_reading.specs.Reading.{Reads}
use Rattle.volume.specs.Volume.{VolumeView}
use Rattle.volume.specs.Stands.{StandsFor}
use Rattle.volume.specs.Carried.{IsPlanFor}
use Rattle.volume.specs.Crashes.{MayReadAs}
use Rattle.volume.specs.Prepared.{IsRefusal, IsSameButPlaces, IsSameButRoom, Prepares}
use Rattle.volume.specs.declared.plan.Action.{Action}
use Rattle.layout.specs.Superblock.{has_mark}
use Rattle.volume.specs.Costs.{events_of, fences_of_plan, events_with_mark, fences_with_mark}
use Rattle.volume.specs.LineEvents.{events_of_line}
use Rattle.engine.specs.Exec.{Executed, HasFailed, IsPlannedFor, MightTake, Does, LeavesVolume}
use Rattle.engine.specs.Replies.{IsReplyOf, IsChangeReply}
use Rattle.engine.specs.Session.{SessionView, session_of}
use Rattle.engine.specs.Run.{command_of, tree_after_line, IsAt}
use Rattle.engine.proofs.Acknowledged.{stands_at, may_be_there, may_more}
use Rattle.engine.proofs.Causes.{not_refused}
use Rattle.engine.proofs.Marks.{fences_without, keeps_before, keeps_here}
use Rattle.engine.proofs.Stays.{stays_here}
use Rattle.engine.proofs.Told.{told_steps, state_is}

-- ---- a refused command changes nothing

refused_steps : (P : ℕ) (state : State) (c : Command) (refusal : Refusal) → refusal_of P state.tree state.room c ≡ Some refusal → Steps P state c (Refused refusal) state
refused_steps P state c refusal e = record {
  answered = sym (ap (λ o. (outcome_of o (untaken P) (least_free_id state.tree) state.tree state.room c).answer) e);
  tree = sym (ap (λ o. (outcome_of o (untaken P) (least_free_id state.tree) state.tree state.room c).tree) e);
  room = subst (λ o. RoomAfterWith o (least_free_id state.tree) state.tree state.room c state.room) (sym e) refl;
}

pub step_refused : (P : ℕ) (state : State) (c : Command) (refusal : Refusal) → {before after : DeviceView} → IsRefusal (untaken P) state c refusal before after → LineStep P state (Ok c) (Refused refusal) state
step_refused P state c refusal (inl e) = inl (refused_steps P state c refusal e)
step_refused P state c refusal (inr lacks) = inr (record { accepted = λ i. lacks.change i && is_none (lacks.accepted i); answered = ap Refused lacks.answered; unchanged = refl })

-- out of memory comes of a place that the command needs, or of room that the device refused
refused_cause : (P : ℕ) (state : State) (c : Command) (refusal : Refusal) {before after : DeviceView} → IsRefusal (untaken P) state c refusal before after → Refused refusal ≡ Refused NoMemory
    → IsTrue (needs_places state c) ⊎ HasRisen before.refused after.refused
refused_cause P state c refusal (inl e) is = absurd (refusal_other P state.tree state.room c (let same : refusal ≡ NoMemory = cc is in e ∙ ap Some same))
refused_cause P state c refusal (inr lacks) is = lacks.cause

-- ---- nothing was done

module _ (old new : SessionView) (before after : DeviceView) (size : new.volume.size ≡ old.volume.size) (words : after.words ≡ before.words) (told : after.trail ≡ before.trail) (same : after.fences ≡ before.fences) where
  pub does_still : (state : State) (line : Line) (answer : Answer) (replied : Reply) → StandsFor new.volume after state → IsReplyOf new after answer replied
      → LineStep old.volume.size state line answer state → fences_of_line state line answer state ≡ 0 → (answer ≡ Refused NoMemory → IsTrue (line_needs_places state line) ⊎ HasRisen before.refused after.refused)
      → Does old new before after state line (Ok replied)
  does_still state line answer replied stands is_reply steps none cause = record {
    executed = record {
      answer = answer;
      new = state;
      replied = is_reply;
      step = steps;
      stands = stands;
      any_moment = subst (λ (t : Option Trail). LeavesOnly t after.trail (λ acks image. (acks ≡ 0) × MayReadAs old.volume.size state (command_of (Some line)) image)) told
          (leaves_here _ stands.settled (refl, may_more old.volume.size state line after.words (may_be_there old.volume.size state after.words (subst (λ (p : ℕ). IsAt p state after.words) size (stands_at new.volume after stands)))));
      no_ack = subst (λ (t : Option Trail). acks_from t after.trail (moment_of after.trail) ≡ 0) told (acks_from-here (continues_here after.trail));
      fences = let few = ap (λ (n : ℕ). fences_with_mark (has_mark before.words) n) none ∙ fences_without (has_mark before.words) 0 (λ marked. refl) in omega (arith, few, same);
      events = let still = ap moment_of told in omega (arith, still);
      mark = keeps_here before after (fences_of_line state line answer state) words none;
      quiet = λ few. (words, told);
      no_memory = cause;
    };
    failed = tt;
    stays = stays_here _ told;
  }

  pub does_refused : (state : State) (c : Command) (refusal : Refusal) → StandsFor new.volume after state → IsRefusal (untaken old.volume.size) state c refusal before after
      → Does old new before after state (Ok c) (Ok (reply.Refused refusal))
  does_refused state c refusal stands refused =
      does_still state (Ok c) (Refused refusal) (reply.Refused refusal) stands (record { reply_is = refl; told = tt }) (step_refused old.volume.size state c refusal refused) refl
      (refused_cause old.volume.size state c refusal refused)

-- a command that changes nothing was answered
pub does_told : {volume : VolumeView} {device : DeviceView} {state : State} {c : Command} {action : Action} {old new : List ℕ} {replied : Reply} → IsPlanFor volume device state c action → is_changing c ≡ false
    → IsReplyOf (session_of volume new) device (step volume.size state.tree state.room c).answer replied → Does (session_of volume old) (session_of volume new) device device state (Ok c) (Ok replied)
does_told {volume} {device} {state} {c} {old = old} {new = new} {replied = replied} planned reads is_reply =
    let answer = (step volume.size state.tree state.room c).answer in
    does_still (session_of volume old) (session_of volume new) device device refl refl refl refl state (Ok c) answer replied planned.stands is_reply
    (inl (told_steps volume.size state c reads (state_is volume device planned.stands).room planned.planned.accepted)) (no_fences-reading state c answer state reads)
    (λ is. absurd (not_refused volume.size state c NoMemory planned.planned.accepted is))

-- ---- after a preparation

module _ (old mid new : SessionView) (before between after : DeviceView) where
  -- it stored nothing and made no fence, and the number of pages is the same
  pub does_after : (state : State) (line : Line) (result : Result Reply PmFault) → IsSameButPlaces old.volume mid.volume → IsSameButRoom before between → between.refused ≡ before.refused
      → Does mid new between after state line result → Does old new before after state line result
  does_after state line result view device same_refused does = record {
    executed = executed result does.executed;
    failed = failed result does.failed;
    stays =
        subst (λ (t : Option Trail). StaysOnce t after.trail (λ image. Reads old.volume.size image (tree_after_line old.volume.size state line))) device.trail
        (subst (λ (p : ℕ). StaysOnce between.trail after.trail (λ image. Reads p image (tree_after_line p state line))) view.same_size does.stays);
  }
    where
      moments : LeavesOnly between.trail after.trail (λ acks image. (acks ≡ 0) × MayReadAs mid.volume.size state (command_of (Some line)) image)
          → LeavesOnly before.trail after.trail (λ acks image. (acks ≡ 0) × MayReadAs old.volume.size state (command_of (Some line)) image)
      moments leaves =
          subst (λ (t : Option Trail). LeavesOnly t after.trail (λ acks image. (acks ≡ 0) × MayReadAs old.volume.size state (command_of (Some line)) image)) device.trail
          (subst (λ (p : ℕ). LeavesOnly between.trail after.trail (λ acks image. (acks ≡ 0) × MayReadAs p state (command_of (Some line)) image)) view.same_size leaves)

      none_acked : acks_from between.trail after.trail (moment_of after.trail) ≡ 0 → acks_from before.trail after.trail (moment_of after.trail) ≡ 0
      none_acked none = subst (λ (t : Option Trail). acks_from t after.trail (moment_of after.trail) ≡ 0) device.trail none

      executed : (result : Result Reply PmFault) → IfOk result (λ replied. Executed mid.volume.size state line new replied between after) → IfOk result (λ replied. Executed old.volume.size state line new replied before after)
      executed (Ok replied) done = record {
        answer = done.answer;
        new = done.new;
        replied = done.replied;
        step = subst (λ (p : ℕ). LineStep p state line done.answer done.new) view.same_size done.step;
        stands = done.stands;
        any_moment = moments done.any_moment;
        no_ack = none_acked done.no_ack;
        fences =
            let more = done.fences in
            let same = device.fences in
            let marked = ap (λ (words : List ℕ). fences_with_mark (has_mark words) (fences_of_line state line done.answer done.new)) device.words in
            omega (arith, more, same, marked);
        events =
            let more = done.events in
            let same = ap moment_of device.trail in
            let marked = ap (λ (words : List ℕ). events_with_mark (has_mark words) (fences_of_line state line done.answer done.new) (events_of_line state line done.answer done.new)) device.words in
            omega (arith, more, same, marked);
        mark = keeps_before device.words done.mark;
        quiet = λ none. let still = done.quiet none in (still.0 ∙ device.words, still.1 ∙ device.trail);
        no_memory = λ is. subst (λ (refused : ℕ). IsTrue (line_needs_places state line) ⊎ HasRisen refused after.refused) same_refused (done.no_memory is);
      }
      executed (Err fault) done = tt

      failed : (result : Result Reply PmFault) → OnErr result (HasFailed mid.volume.size state line between after) → OnErr result (HasFailed old.volume.size state line before after)
      failed (Ok replied) fails = tt
      failed (Err fault) fails = record {
        fails = subst (λ (p : ℕ). LineFails p state line Fault) view.same_size fails.fails;
        any_moment = moments fails.any_moment;
        no_ack = none_acked fails.no_ack;
        last = fails.last;
        action = fails.action;
        planned =
            subst (λ (words : List ℕ). IsPlannedFor old.volume.size words state line fails.action) device.words
            (subst (λ (p : ℕ). IsPlannedFor p between.words state line fails.action) view.same_size fails.planned);
        might = subst (λ (p : ℕ). MightTake p state line (fences_of_plan fails.action) (events_of fails.action)) view.same_size fails.might;
        least = let least = fails.least in let same = device.fences in omega (arith, least, same);
        fewer =
            let few = fails.fewer in
            let same = device.fences in
            let marked = ap (λ (words : List ℕ). fences_with_mark (has_mark words) (fences_of_plan fails.action)) device.words in
            omega (arith, few, same, marked);
        events =
            let few = fails.events in
            let same = ap moment_of device.trail in
            let marked = ap (λ (words : List ℕ). events_with_mark (has_mark words) (fences_of_plan fails.action) (events_of fails.action)) device.words in
            omega (arith, few, same, marked);
        mark = keeps_before device.words fails.mark;
      }

module _ (old mid new : VolumeView) (before between after : DeviceView) where
  pub leaves_after : (c : Command) (plan : Action) (result : Result Reply PmFault) → Prepares old mid before between c (Ok plan) → IfOk result (λ replied. ¬ IsChangeReply replied → is_changing c ≡ false)
      → LeavesVolume mid new between after result → LeavesVolume old new before after result
  leaves_after c plan (Ok replied) prepared reads leaves =
      let same_faults = prepared.device.faults in
      let same_refused = prepared.accepted.1 in
      let same_fences = prepared.device.fences in
      record {
        quiet = λ not.
            let left = leaves.quiet not in
            let same = prepared.reading (reads not) in
            record {
              words = left.words ∙ prepared.device.words;
              trail = left.trail ∙ prepared.device.trail;
              kept = subst (λ (v : VolumeView). IsSameButPlaces v new) same.0 left.kept;
            };
        same = λ not not_memory.
            let left = leaves.same not not_memory in
            let same = prepared.reading (reads not) in
            (left.0 ∙ same.0, left.1 ∙ ap (λ (d : DeviceView). d.spare) same.1);
        size = leaves.size ∙ prepared.view.same_size;
        going = leaves.going;
        stopped = tt;
        faults = let more = leaves.faults in omega (arith, more, same_faults);
        no_fault = leaves.no_fault ∙ same_faults;
        cause = tt;
        refused = let more = leaves.refused in omega (arith, more, same_refused);
        not_refused = λ not. leaves.not_refused not ∙ same_refused;
        fault_not_refused = tt;
        fences = let more = leaves.fences in omega (arith, more, same_fences);
        acks = leaves.acks ∙ prepared.device.acks;
      }
  leaves_after c plan (Err fault) prepared reads leaves =
      let same_faults = prepared.device.faults in
      let same_refused = prepared.accepted.1 in
      let same_fences = prepared.device.fences in
      record {
        quiet = tt;
        same = tt;
        size = leaves.size ∙ prepared.view.same_size;
        going = tt;
        stopped = leaves.stopped;
        faults = let more = leaves.faults in omega (arith, more, same_faults);
        no_fault = tt;
        cause = subst (λ (n : ℕ). HasRisen n after.faults) same_faults leaves.cause;
        refused = let more = leaves.refused in omega (arith, more, same_refused);
        not_refused = tt;
        fault_not_refused = leaves.fault_not_refused ∙ same_refused;
        fences = let more = leaves.fences in omega (arith, more, same_fences);
        acks = leaves.acks ∙ prepared.device.acks;
      }

-- a refusal takes no memory unless memory is what was short
pub leaves_refused : (old mid : VolumeView) (before between : DeviceView) (c : Command) (refusal : Refusal) → old.stopped ≡ false → Prepares old mid before between c (Err refusal)
    → LeavesVolume old mid before between (Ok (reply.Refused refusal))
leaves_refused old mid before between c refusal goes prepared = record {
  quiet = λ not. record { words = prepared.device.words; trail = prepared.device.trail; kept = prepared.view };
  same = λ not not_memory.
      let same = prepared.refused (λ is. not_memory (ap reply.Refused is)) in
      (same.0, ap (λ (d : DeviceView). d.spare) same.1);
  size = prepared.view.same_size;
  going = prepared.view.same_state ∙ goes;
  stopped = tt;
  faults = let same = prepared.device.faults in omega (arith, same);
  no_fault = prepared.device.faults;
  cause = tt;
  refused = prepared.device.refused;
  not_refused = λ not_memory.
      let same = prepared.refused (λ is. not_memory (ap reply.Refused is)) in ap (λ (d : DeviceView). d.refused) same.1;
  fault_not_refused = tt;
  fences = let same = prepared.device.fences in omega (arith, same);
  acks = prepared.device.acks;
}

-- ---- by the reply

pub reads_by : {X Y : Type 0} (result : Result Reply PmFault) → (X → Y) → IfOk result (λ replied. ¬ IsChangeReply replied → X) → IfOk result (λ replied. ¬ IsChangeReply replied → Y)
reads_by (Ok replied) by reads = λ not. by (reads not)
reads_by (Err fault) by reads = tt

pub reads_failed : (Y : Type 0) (result : Result Reply PmFault) → IsErr result → IfOk result (λ replied. ¬ IsChangeReply replied → Y)
reads_failed Y (Ok replied) wrong = absurd (cc wrong)
reads_failed Y (Err fault) wrong = tt

same_places : (volume : VolumeView) → IsSameButPlaces volume volume
same_places volume = record {
  same_size = refl;
  same_state = refl;
  same_mark = refl;
  same_kept = refl;
  index = record {
    each_inode = refl;
    entries = λ i. refl;
    pages = λ i. refl;
    place = λ i there. there;
    page_places = λ i. omega arith;
  };
  inodes = refl;
  data_pages = refl;
}

-- nothing was done
pub leaves_still : (volume : VolumeView) (device : DeviceView) (replied : Reply) → volume.stopped ≡ false → LeavesVolume volume volume device device (Ok replied)
leaves_still volume device replied goes = record {
  quiet = λ not. record { words = refl; trail = refl; kept = same_places volume };
  same = λ not not_memory. (refl, refl);
  size = refl;
  going = goes;
  stopped = tt;
  faults = omega arith;
  no_fault = refl;
  cause = tt;
  refused = omega arith;
  not_refused = λ not. refl;
  fault_not_refused = tt;
  fences = omega arith;
  acks = refl;
}
