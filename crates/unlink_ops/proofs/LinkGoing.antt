-- The naming of a file as a loop over its steps: what is left behind each, and what the volume has taken in.
use Rattle.std.proofs.Common.{◌≡◌, ℕ, ◌+◌, ◌-◌, ◌*◌, ◌<◌, ◌≤◌, true, false, List, [], ◌∷◌, ◌++◌, length, refl, sym, ap, subst, ◌∙◌, arith}
use Rattle.std.specs.Prelude.{Option, Some, None, Result, Ok, Err, IsErr}
use Rattle.pm_trait.specs.declared.event.PmFault.{PmFault}
use Rattle.pm_trait.specs.DeviceView.{DeviceView}
use Rattle.pm_trait.specs.Unfolds.{MayFence, Step, step_events, Takes, Unfolds, events_in}
use Rattle.pm_trait.proofs.Onward.{IsOnward, starts, one_more, fails, ends}
use Rattle.pm_trait.proofs.Unfolding as joining
use Rattle.pm_trait.proofs.Unfolding.{unfolds_failed_as}
use Rattle.fence_token.specs.declared.states.Clean.{Clean}
use Rattle.tree_model.specs.declared.reply.Reply.{Reply}
use Rattle.tree_model.specs.declared.reply.Reply.TheVariants.{Done}
use Rattle.volume.specs.Volume.{VolumeView}
use Rattle.volume.specs.Entered.{pages_of_option, with_taken, EntersName, PutsName}
use Rattle.volume.specs.Stages.{keeping}
use Rattle.volume.proofs.Moments.{with_kept, kept_already, name_beside, has_linked}
use Rattle.volume.specs.declared.next.Next.{Next}
use Rattle.volume.specs.declared.next.Next.TheVariants.{More, Ended}
use Rattle.volume.specs.declared.plan.NewName.{NewName}
use Rattle.volume.specs.declared.plan.Action.TheVariants.{Name as Naming}
use Rattle.entry_steps.specs.declared.place.NamePlace.{NamePlace}
use Rattle.entry_steps.specs.declared.place.NamePlace.TheVariants.{Slot, Page}
use Rattle.entry_steps.specs.Steps.{claim_steps, naming}
use Rattle.entry_steps.proofs.Waiting.{rest_of_place, place_left, place_events, claims}
use Rattle.unlink_ops.specs.declared.link.Stage.{Stage}
use Rattle.unlink_ops.specs.declared.link.Stage.TheVariants.{Begun, Written, Claimed}
use Rattle.unlink_ops.proofs.LinkCourse.{costs}
use Rattle.unlink_ops.specs.Linking.{linking_steps}
use Rattle.unlink_ops.specs.LinkStages.{RunningView, StandsStage, StandsNext, IsNext, IsAfter, IsAfterPlace, EntersAt, EntersAtStage, EntersAfterPlace, IsAt, begun, left_at, left_of, step_at, step_of}

-- ---- the steps

-- what is left behind a step
abbrev pub left_next : ℕ → Next RunningView → List Step
left_next P (More running) = left_of P running
left_next P (Ended reply) = []

module _ (P : ℕ) (link : NewName) where
  abbrev rest_at : Stage → List Step
  rest_at Begun = claim_steps P link.directory link.new_page ++ naming P link.slot link.inode ∷ []
  rest_at (Written file) = rest_of_place P link.directory link.slot link.inode file.place
  rest_at (Claimed file) = []

  left_is : (stage : Stage) → left_at P link stage ≡ step_at P link stage ∷ rest_at stage
  left_is Begun = refl
  left_is (Written file) = place_left P link.directory link.slot link.inode file.place
  left_is (Claimed file) = refl

  events_is : (stage : Stage) → step_events (step_at P link stage) ≡ (step_at P link stage).events
  events_is Begun = refl
  events_is (Written file) = place_events P link.directory link.slot link.inode file.place
  events_is (Claimed file) = refl

  rest_place : (place : NamePlace Clean) (next : Next RunningView) → IsAfterPlace link place next → left_next P next ≡ rest_of_place P link.directory link.slot link.inode place
  rest_place (Slot slot) next is = ap (left_next P) is
  rest_place (Page page) next (file, is) = ap (left_next P) is

  -- the words of a written name tell which place it has
  rest_written : (device : DeviceView) (next : Next RunningView) → IsAfter link Begun next → ((running : RunningView) → next ≡ More running → IsAt P running.link running.stage device) → left_next P next ≡ rest_at Begun
  rest_written device next (file, is) at = ap (left_next P) is ∙ claims P link.directory link.slot link.inode link.new_page file.place device (at _ is).1

  rest_left : (stage : Stage) (device : DeviceView) (next : Next RunningView) → IsAfter link stage next → ((running : RunningView) → next ≡ More running → IsAt P running.link running.stage device) → left_next P next ≡ rest_at stage
  rest_left Begun device next is at = rest_written device next is at
  rest_left (Written file) device next is at = rest_place file.place next is
  rest_left (Claimed file) device next is at = ap (left_next P) is

few_by : (P : ℕ) (link : NewName) (new_page : Option ℕ) → length (linking_steps P (record link { new_page = new_page })) ≤ 3
few_by P link None = omega arith
few_by P link (Some page) = omega arith

pub few : (P : ℕ) (link : NewName) → length (linking_steps P link) ≤ 3
few P link = few_by P link link.new_page

-- ---- the volume

-- nothing is taken in before the first step, and then the new page is, where there is one
abbrev taken_at : VolumeView → NewName → Stage → VolumeView
taken_at old link Begun = old
taken_at old link (Written file) = record old { data_pages = with_taken old.data_pages (pages_of_option link.new_page) }
taken_at old link (Claimed file) = record old { data_pages = with_taken old.data_pages (pages_of_option link.new_page) }

taken_mark : (old : VolumeView) (link : NewName) (stage : Stage) → (taken_at old link stage).marked ≡ old.marked
taken_mark old link Begun = refl
taken_mark old link (Written file) = refl
taken_mark old link (Claimed file) = refl

-- What the volume is by now, that was old before the call of this link began: it keeps the events of the steps that are left.
abbrev pub HasCome : ℕ → NewName → VolumeView → VolumeView → Next RunningView → Type 0
HasCome P link old now (More running) = (running.link ≡ link) × (now ≡ with_kept (old.kept + events_in (left_of P running)) (taken_at old running.link running.stage))
HasCome P link old now (Ended reply) = (reply ≡ Done) × EntersName old now link.directory link.name link.slot link.new_page

-- Where the loop is: the next stage stands, the steps that are left make of now what all make of entry, and the volume is as told.
pub record IsGoing (link : NewName) (old : VolumeView) (before : DeviceView) (now : VolumeView) (device : DeviceView) (next : Next RunningView) : Type 0 where
  pub size : now.size ≡ old.size
  pub stands : StandsNext now device next
  pub onward : IsOnward (512 * old.size) (linking_steps old.size link) before (left_next old.size next) device
  pub come : HasCome old.size link old now next

-- by what is left
pub reads_as : {link : NewName} {old : VolumeView} {before : DeviceView} {now : VolumeView} {device : DeviceView} {next other : Next RunningView} → next ≡ other → IsGoing link old before now device next → IsGoing link old before now device other
reads_as {link} {old} {before} {now} {device} is going = subst (IsGoing link old before now device) is going

pub started : (link : NewName) (old now : VolumeView) (device : DeviceView) → now ≡ keeping old (Naming link) → StandsStage now device (begun link) → MayFence device (512 * old.size) (events_in (linking_steps old.size link)) 3
    → IsGoing link old device now device (More (begun link))
started link old now device is stands begins = record {
  size = ap (λ (v : VolumeView). v.size) is;
  stands = stands;
  onward = starts (512 * old.size) 3 (linking_steps old.size link) device (few old.size link) begins;
  come = (refl, is ∙ ap (λ (n : ℕ). with_kept (old.kept + n) old) (costs old.size link));
}

-- ---- one step

-- the volume behind a step, when it has the new page already: the same, or with the name
taken_in : (P : ℕ) (link : NewName) (old mid new : VolumeView) (next : Next RunningView) (place : NamePlace Clean) → IsAfterPlace link place next
    → mid ≡ with_kept (old.kept + events_in (left_next P next)) (record old { data_pages = with_taken old.data_pages (pages_of_option link.new_page) }) → EntersAfterPlace link place mid new → HasCome P link old new next
taken_in P link old mid new next (Slot slot) ended is puts =
    let taken : VolumeView = record old { data_pages = with_taken old.data_pages (pages_of_option link.new_page) } in
    let spent : mid ≡ with_kept (old.kept + 0) taken = subst (λ (n : Next RunningView). mid ≡ with_kept (old.kept + events_in (left_next P n)) taken) ended is in
    let all : old.kept + 0 ≡ old.kept = omega arith in
    let kept : new.kept ≡ old.kept = (name_beside mid new link.directory link.name link.slot link.new_page puts).kept ∙ ap (λ (v : VolumeView). v.kept) spent ∙ all in
    let done = has_linked old taken new old.kept (old.kept + 0) link refl (subst (λ (v : VolumeView). PutsName v new link.directory link.name link.slot link.new_page) spent puts) in
    subst (HasCome P link old new) (sym ended) (refl, subst (λ (v : VolumeView). EntersName old v link.directory link.name link.slot link.new_page) (kept_already new old.kept kept) done)
taken_in P link old mid new next (Page page) (file, more) is same =
    subst (HasCome P link old new) (sym more) (refl, same ∙ subst (λ (n : Next RunningView). mid ≡ with_kept (old.kept + events_in (left_next P n)) (record old { data_pages = with_taken old.data_pages (pages_of_option link.new_page) })) more is)

-- and behind any
come_by : (P : ℕ) (link : NewName) (old mid new : VolumeView) (next : Next RunningView) (stage : Stage) → IsAfter link stage next → mid ≡ with_kept (old.kept + events_in (left_next P next)) (taken_at old link stage) → EntersAtStage link stage mid new
    → HasCome P link old new next
come_by P link old mid new next Begun (file, more) is takes =
    let spent = subst (λ (n : Next RunningView). mid ≡ with_kept (old.kept + events_in (left_next P n)) old) more is in
    subst (HasCome P link old new) (sym more) (refl, takes ∙ ap (λ (v : VolumeView). record v { data_pages = with_taken v.data_pages (pages_of_option link.new_page) }) spent)
come_by P link old mid new next (Written file) after is enters = taken_in P link old mid new next file.place after is enters
come_by P link old mid new next (Claimed file) ended is puts = taken_in P link old mid new next (Slot file.slot) ended is puts

place_size : (link : NewName) (place : NamePlace Clean) (a b : VolumeView) → EntersAfterPlace link place a b → b.size ≡ a.size
place_size link (Slot slot) a b puts = (name_beside a b link.directory link.name link.slot link.new_page puts).size
place_size link (Page page) a b same = ap (λ (v : VolumeView). v.size) same

enters_size : (link : NewName) (stage : Stage) (a b : VolumeView) → EntersAtStage link stage a b → b.size ≡ a.size
enters_size link Begun a b takes = ap (λ (v : VolumeView). v.size) takes
enters_size link (Written file) a b enters = place_size link file.place a b enters
enters_size link (Claimed file) a b puts = (name_beside a b link.directory link.name link.slot link.new_page puts).size

module _ (old : VolumeView) (before : DeviceView) (running : RunningView) (now : VolumeView) (device : DeviceView) (going : IsGoing running.link old before now device (More running)) where
  abbrev step : Step
  step = step_of old.size running

  abbrev rest : List Step
  rest = rest_at old.size running.link running.stage

  on : IsOnward (512 * old.size) (linking_steps old.size running.link) before (step ∷ rest) device
  on = subst (λ (l : List Step). IsOnward (512 * old.size) (linking_steps old.size running.link) before l device) (left_is old.size running.link running.stage) going.onward

  may_step_by : MayFence device (512 * now.size) (step_of now.size running).events 1
  may_step_by = subst (λ (p : ℕ). MayFence device (512 * p) (step_of p running).events 1) (sym going.size)
      (subst (λ (n : ℕ). MayFence device (512 * old.size) n 1) (events_is old.size running.link running.stage) (joining.starts step rest on.begins))

  step_failed_by : {T E : Type 0} (after : DeviceView) (fault : E) (result : Result (Unit {0}) PmFault) → IsErr result → Takes {T = T} (step_of now.size running) device after (Err fault) → Unfolds (linking_steps old.size running.link) before after result
  step_failed_by {T} {E} after fault result is takes = fails {T = T} {E = E} (512 * old.size) (linking_steps old.size running.link) before step rest device after fault result is
      (subst (λ (p : ℕ). Takes {T = T} {E = E} (step_of p running) device after (Err fault)) going.size takes) on

  module _ (new : VolumeView) (after : DeviceView) (next : Next RunningView) (is : IsNext running next) (stands : StandsNext new after next) (enters : EntersAt running (record now { kept = now.kept - (step_of now.size running).events }) new) where
    size_is : new.size ≡ old.size
    size_is = enters_size running.link running.stage (record now { kept = now.kept - (step_of now.size running).events }) new enters ∙ going.size

    at : (r : RunningView) → next ≡ More r → IsAt old.size r.link r.stage after
    at r more = subst (λ (p : ℕ). IsAt p r.link r.stage after) size_is (subst (StandsNext new after) more stands).words

    rest_is : left_next old.size next ≡ rest
    rest_is = rest_left old.size running.link running.stage after next is at

    left_less : old.kept + events_in (left_of old.size running) - (step_of now.size running).events ≡ old.kept + events_in (left_next old.size next)
    left_less =
        let here : (step_of now.size running).events ≡ step.events = ap (λ (p : ℕ). (step_of p running).events) going.size in
        let all : events_in (left_of old.size running) ≡ step_events step + events_in rest = ap events_in (left_is old.size running.link running.stage) in
        let one = events_is old.size running.link running.stage in
        let later : events_in (left_next old.size next) ≡ events_in rest = ap events_in rest_is in
        omega (arith, here, all, one, later)

    come : HasCome old.size running.link old new next
    come = come_by old.size running.link old (record now { kept = now.kept - (step_of now.size running).events }) new next running.stage is
        (ap (λ (v : VolumeView). with_kept (v.kept - (step_of now.size running).events) v) going.come.1 ∙ ap (λ (n : ℕ). with_kept n (taken_at old running.link running.stage)) left_less) enters

    moved_by : {T E : Type 0} (value : T) → Takes {E = E} (step_of now.size running) device after (Ok value) → IsGoing running.link old before new after next
    moved_by {T} {E} value takes = record {
      size = size_is;
      stands = stands;
      onward = subst (λ (l : List Step). IsOnward (512 * old.size) (linking_steps old.size running.link) before l after) (sym rest_is)
          (one_more {T = T} {E = E} (512 * old.size) (linking_steps old.size running.link) before step rest device after value (subst (λ (p : ℕ). Takes {T = T} {E = E} (step_of p running) device after (Ok value)) going.size takes) on);
      come = come;
    }

    fewer_by : length (left_next old.size next) < length (left_of old.size running)
    fewer_by =
        let one : length (left_next old.size next) ≡ length rest = ap (λ (l : List Step). length l) rest_is in
        let two : length (left_of old.size running) ≡ length (step ∷ rest) = ap (λ (l : List Step). length l) (left_is old.size running.link running.stage) in
        omega (arith, one, two)

-- ---- the loop, by the link of its plan

module _ {link : NewName} {old : VolumeView} {before : DeviceView} {running : RunningView} {now : VolumeView} {device : DeviceView} (going : IsGoing link old before now device (More running)) where
  ours : IsGoing running.link old before now device (More running)
  ours = subst (λ (l : NewName). IsGoing l old before now device (More running)) (sym going.come.0) going

  pub may_step : MayFence device (512 * now.size) (step_of now.size running).events 1
  may_step = may_step_by old before running now device ours

  pub marked_still : now.marked ≡ old.marked
  marked_still = ap (λ (v : VolumeView). v.marked) going.come.1 ∙ taken_mark old running.link running.stage

  -- its fence failed, and so did the call, by whatever name of its fault
  pub step_failed : {T U F : Type 0} {after : DeviceView} {fault : PmFault} (result : Result U F) → IsErr result → Takes {T = T} (step_of now.size running) device after (Err fault) → Unfolds (linking_steps old.size link) before after result
  step_failed (Ok value) failed takes = absurd (let clash : false ≡ true = failed in cc)
  step_failed {T} {after = after} {fault = fault} (Err other) failed takes =
      unfolds_failed_as other (subst (λ (l : NewName). Unfolds {T = Unit {0}} {E = PmFault} (linking_steps old.size l) before after (Err fault)) going.come.0
      (step_failed_by old before running now device ours {T = T} {E = PmFault} after fault (Err fault) refl takes))

  module _ (new : VolumeView) (after : DeviceView) (next : Next RunningView) (is : IsNext running next) (stands : StandsNext new after next) (enters : EntersAt running (record now { kept = now.kept - (step_of now.size running).events }) new) where
    pub moved : {T E : Type 0} {value : T} → Takes {E = E} (step_of now.size running) device after (Ok value) → IsGoing link old before new after next
    moved {T} {E} {value} takes = subst (λ (l : NewName). IsGoing l old before new after next) going.come.0 (moved_by old before running now device ours new after next is stands enters {T = T} {E = E} value takes)

    pub fewer : length (left_next old.size next) < length (left_of old.size running)
    fewer = fewer_by old before running now device ours new after next is stands enters

-- all steps were made, and the name is in the volume
pub ended : {link : NewName} {old : VolumeView} {before : DeviceView} {now : VolumeView} {device : DeviceView} {reply : Reply} → IsGoing link old before now device (Ended reply)
    → Unfolds {T = Unit {0}} {E = PmFault} (linking_steps old.size link) before device (Ok (tt {0}))
ended {link} {old} {before} {now} {device} going = ends (512 * old.size) (linking_steps old.size link) before device going.onward
