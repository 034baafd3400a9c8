-- The call of a write, from one of its steps to the next: how it begins, what the volume is by now, and how it ends.
use Rattle.std.proofs.Common.{◌≡◌, ℕ, ◌+◌, ◌-◌, ◌*◌, ◌<◌, true, false, List, [], ◌∷◌, length, refl, sym, ap, subst, ◌∙◌, arith, Option, Some, None, ◌⊎◌, inl, inr, ◌≤◌, Bool, nat_le}
use Rattle.std.proofs.lemmas.Bool.{leb-true, leb-false}
use Rattle.std.specs.Prelude.{Result, Ok, if◌then◌else◌}
use Rattle.std.proofs.lemmas.List.{nil_from_length}
use Rattle.pm_trait.specs.DeviceView.{DeviceView}
use Rattle.pm_trait.specs.Unfolds.{MayFence, Step, Takes, Unfolds, events_in, step_events}
use Rattle.pm_trait.proofs.DeviceViewLaws.{intervals_none}
use Rattle.tree_model.specs.declared.reply.Reply.{Reply}
use Rattle.tree_model.specs.declared.reply.Reply.TheVariants.{Count as Told}
use Rattle.tree_model.specs.PathText.{Route}
use Rattle.tree_model.specs.Run.{State}
use Rattle.tree_model.specs.Step.{Count}
use Rattle.tree_model.specs.declared.command.Command.{Command}
use Rattle.tree_model.specs.declared.command.Command.TheVariants.{Write}
use Rattle.volume.specs.Volume.{VolumeView}
use Rattle.volume.specs.Entered.{EntersPages, HasDone}
use Rattle.volume.specs.declared.next.Next.{Next}
use Rattle.volume.specs.declared.next.Next.TheVariants.{More, Ended}
use Rattle.volume.specs.declared.plan.Writing.{Writing}
use Rattle.volume.specs.declared.plan.Action.{Action}
use Rattle.volume.specs.declared.plan.Action.TheVariants.{Write as WriteBytes, WriteNothing}
use Rattle.volume.proofs.Grown.{none_entered}
use Rattle.volume.proofs.Moments.{IsSameBeside, with_kept}
use Rattle.volume.specs.Carried.{IsPlanFor, MayCarry}
use Rattle.volume.specs.Planned.{IsWritingFor}
use Rattle.volume.specs.Stages.{HasKept, keeping}
use Rattle.volume.proofs.KeptEvents.{bounded}
use Rattle.volume.proofs.PlannedPages.{may_take_written, written_in_index}
use Rattle.volume.proofs.Plans.{nothing_or}
use Rattle.data_ops.specs.declared.grow.Progress.{Progress}
use Rattle.data_ops.specs.declared.grow.Progress.TheVariants.{Begun}
use Rattle.data_ops.specs.declared.write.Stage.{Stage}
use Rattle.data_ops.specs.declared.write.Stage.TheVariants.{Nothing, Inside, Growing}
use Rattle.data_ops.specs.GrowthStages.{next_of_growth, KnowsGrowth}
use Rattle.data_ops.specs.Writing.{growth_of, IsWriteOf, HasStoredBytes, write_steps, overwriting}
use Rattle.data_ops.specs.WriteStages.{StandsStage, StandsNext, EntersAt, begun, step_of, next_of, next_growing, IsWriteAt, MayBegin, begun_writing}
use Rattle.data_ops.specs.Steps.{either_steps, growth_steps}
use Rattle.data_ops.proofs.Going.{Call, HasGone, IsBehind, all_behind, left_next, may_go, goes_on}
use Rattle.data_ops.proofs.Growth.{HasComeTo, HasComeOn, rank_of_growth, rank_of_next, fewer_steps, rest_of_growth, left_behind, growth_behind, growth_own, growth_come_on, can_fill, can_overwrite, none_beside, growth_beside}
use Rattle.data_ops.proofs.Carrying.{Runs, kept_begins, runs_idle, by_plan}
use Rattle.data_ops.proofs.WritingPlans.{none, follows_nothing, stored, own_offset, carried, carried_no_further, for_writing, may_write, none_added, may_grow, all_costs}
use Rattle.data_ops.proofs.Steps.{not_nothing, same_writing}

-- ---- from one of its stages to the next

-- ---- the steps

abbrev rest_of : ℕ → List ℕ → Stage → List Step
rest_of P bytes Nothing = []
rest_of P bytes (Inside writing) = []
rest_of P bytes (Growing writing progress) = rest_of_growth P (growth_of writing) bytes writing.new_pages progress

-- a stage's own, and the rest
abbrev pub all_of : ℕ → List ℕ → Stage → List Step
all_of P bytes stage = step_of P bytes stage ∷ rest_of P bytes stage

own_events : (volume : VolumeView) (device : DeviceView) (bytes : List ℕ) (stage : Stage) → StandsStage volume device bytes stage → step_events (step_of volume.size bytes stage) ≡ (step_of volume.size bytes stage).events
own_events volume device bytes Nothing stands = refl
own_events volume device bytes (Inside writing) stands = refl
own_events volume device bytes (Growing writing progress) stands = growth_own volume.size (growth_of writing) bytes device _ writing.new_pages progress stands.at.1

-- how many are left at most, and one for nothing to do
abbrev rank_of : Stage → ℕ
rank_of Nothing = 1
rank_of (Inside writing) = 1
rank_of (Growing writing progress) = rank_of_growth progress

abbrev pub rank : Next Stage → ℕ
rank (More stage) = rank_of stage
rank (Ended reply) = 0

growing_rank : (writing : Writing) (next : Option Progress) → rank (next_growing writing next) ≡ rank_of_next next
growing_rank writing (Some progress) = refl
growing_rank writing None = refl

pub fewer : (stage : Stage) → rank (next_of stage) < rank (More stage)
fewer Nothing = omega arith
fewer (Inside writing) = omega arith
fewer (Growing writing progress) =
    let is = growing_rank writing (next_of_growth progress writing.new_pages) in
    let less = fewer_steps progress writing.new_pages in
    omega (arith, is, less)

-- ---- what the volume is by now

abbrev pub HasComeStage : VolumeView → Action → List ℕ → VolumeView → Stage → Type 0
HasComeStage old plan bytes volume Nothing = (plan ≡ WriteNothing) × (length bytes ≡ 0) × (with_kept old.kept volume ≡ old)
HasComeStage old plan bytes volume (Inside writing) = (plan ≡ WriteBytes writing) × (length writing.new_pages ≡ 0) × (with_kept old.kept volume ≡ old)
HasComeStage old plan bytes volume (Growing writing progress) = (plan ≡ WriteBytes writing) × HasComeTo old volume writing.new_pages progress

abbrev pub HasCome : VolumeView → Action → List ℕ → VolumeView → Next Stage → Type 0
HasCome old plan bytes volume (More stage) = HasComeStage old plan bytes volume stage
HasCome old plan bytes volume (Ended reply) = (reply ≡ Told (length bytes)) × HasDone old (with_kept old.kept volume) plan

-- what isn't entered is as it was
stage_beside : (stage : Stage) (a b : VolumeView) → EntersAt stage a b → IsSameBeside a b
stage_beside Nothing a b same = none_beside a b same
stage_beside (Inside writing) a b same = none_beside a b same
stage_beside (Growing writing progress) a b enters = growth_beside writing.inode writing.new_pages progress a b enters

no_pages : (old : VolumeView) (inode : ℕ) (pages : List ℕ) → length pages ≡ 0 → EntersPages old old inode pages
no_pages old inode [] none = none_entered old inode
no_pages old inode (page ∷ pages) none = absurd (omega (arith, none))

told_as : (n m : ℕ) → n ≡ m → ◌≡◌ {A = Reply} (Told n) (Told m)
told_as n m is = ap (λ (k : ℕ). let reply : Reply = Told k in reply) is

-- ---- the loop

module _ (old : VolumeView) (plan : Action) (bytes : List ℕ) where
  abbrev pub call : Call Stage
  call = record {
    steps = all_of old.size bytes (begun plan);
    step = λ volume stage. step_of volume.size bytes stage;
    rest = λ volume stage. rest_of volume.size bytes stage;
    Stands = λ volume device next. StandsNext volume device bytes next;
    Come = λ volume next. HasCome old plan bytes volume next;
  }

  module _ (volume new : VolumeView) (device after : DeviceView) where
    growing_behind : (writing : Writing) (rest : List Step) (next : Option Progress) → IsBehind rest (left_behind new.size (growth_of writing) bytes writing.new_pages next) after → IsBehind rest (left_next call new (next_growing writing next)) after
    growing_behind writing rest (Some progress) is = is
    growing_behind writing rest None is = is

    behind : (stage : Stage) → IsBehind (rest_of new.size bytes stage) (left_next call new (next_of stage)) after
    behind Nothing = all_behind [] after
    behind (Inside writing) = all_behind [] after
    behind (Growing writing progress) = growing_behind writing _ (next_of_growth progress writing.new_pages) (growth_behind new.size (growth_of writing) bytes writing.new_pages progress after)

    come_growing : (writing : Writing) (next : Option Progress) → plan ≡ WriteBytes writing → writing.count ≡ length bytes → HasComeOn old new writing.inode writing.new_pages next → HasCome old plan bytes new (next_growing writing next)
    come_growing writing (Some progress) is count come = (is, come)
    come_growing writing None is count come = (told_as writing.count (length bytes) count, subst (HasDone old (with_kept old.kept new)) (sym is) come)

    come_on : (k : ℕ) (stage : Stage) → StandsStage volume device bytes stage → HasComeStage old plan bytes volume stage → EntersAt stage (with_kept k volume) new → HasCome old plan bytes new (next_of stage)
    come_on k Nothing stands (is, none, come) enters = (told_as 0 (length bytes) (sym none), subst (HasDone old (with_kept old.kept new)) (sym is) (ap (with_kept old.kept) enters ∙ come))
    come_on k (Inside writing) stands (is, none, come) enters = (
      told_as writing.count (length bytes) stands.at.0.count,
      subst (HasDone old (with_kept old.kept new)) (sym is)
          (subst (λ (v : VolumeView). EntersPages old v writing.inode writing.new_pages) (sym (ap (with_kept old.kept) enters ∙ come)) (no_pages old writing.inode writing.new_pages none)),
    )
    come_on k (Growing writing progress) stands (is, come) enters =
        come_growing writing (next_of_growth progress writing.new_pages) is stands.at.0.count (growth_come_on old volume new writing.inode k writing.new_pages progress come enters)

  module _ {volume : VolumeView} {before device : DeviceView} {stage : Stage} (gone : HasGone call old before volume device (More stage)) where
    pub may_make : MayFence device (512 * volume.size) (step_of volume.size bytes stage).events 1
    may_make = may_go call old before gone (own_events volume device bytes stage gone.stands)

    pub gone_on : {T E : Type 0} {value : T} {new : VolumeView} {after : DeviceView} {next : Next Stage} → Takes {E = E} (step_of volume.size bytes stage) device after (Ok value)
        → EntersAt stage (with_kept (volume.kept - (step_of volume.size bytes stage).events) volume) new → next ≡ next_of stage → StandsNext new after bytes next → HasGone call old before new after next
    gone_on {new = new} {after} {next} takes enters is stands =
        let k = volume.kept - (step_of volume.size bytes stage).events in
        let beside = stage_beside stage (with_kept k volume) new enters in
        goes_on call old before gone (own_events volume device bytes stage gone.stands) takes beside
        (subst (λ (n : Next Stage). IsBehind (rest_of volume.size bytes stage) (left_next call new n) after) (sym is)
        (subst (λ (p : ℕ). IsBehind (rest_of p bytes stage) (left_next call new (next_of stage)) after) beside.size (behind volume new device after stage)))
        stands (subst (HasCome old plan bytes new) (sym is) (come_on volume new device after k stage gone.stands gone.come enters))

-- ---- the plan gives what its first stage asks for, and is carried out from there

-- ---- a plan that writes

begun_by : (P : ℕ) (writing : Writing) (bytes : List ℕ) (inside : Bool) → all_of P bytes (if inside then Inside writing else Growing writing Begun) ≡ either_steps inside (overwriting P writing.inode writing.offset bytes ∷ []) (growth_steps P (growth_of writing) bytes writing.new_pages)
begun_by P writing bytes true = refl
begun_by P writing bytes false = refl

few_by : (P : ℕ) (writing : Writing) (bytes : List ℕ) (inside : Bool) → length (all_of P bytes (if inside then Inside writing else Growing writing Begun)) ≤ 3
few_by P writing bytes true = omega arith
few_by P writing bytes false = omega arith

-- how it begins, what is done at its end, and where a fence failed
abbrev pub RunsWrite : VolumeView → DeviceView → List ℕ → Action → Type 0
RunsWrite volume before bytes plan =
    Runs (call volume plan bytes) volume before plan (begun plan) (Count (length bytes)) (IsWriteOf bytes) (λ device result. (writing : Writing) → plan ≡ WriteBytes writing → HasStoredBytes volume.size before device writing bytes result)

module _ {volume : VolumeView} {before : DeviceView} {bytes : List ℕ} (writing : Writing) (planned : (state : State) × (path : Route) × IsPlanFor volume before state (Write path writing.offset bytes) (WriteBytes writing)) (ready : MayCarry volume before (WriteBytes writing)) where
  abbrev command : Command
  command = Write planned.1 writing.offset bytes

  is_write : IsWriteAt (keeping volume (WriteBytes writing)) writing bytes
  is_write =
      let (least, most) = written_in_index volume before planned.0 command writing planned.2 in
      record { bounded = bounded volume before planned.0 command (WriteBytes writing) planned.2; least = least; most = most; count = (for_writing planned.2).count_is }

  -- the steps of its first stage are those of the write
  all_steps : all_of volume.size bytes (begun_writing writing) ≡ write_steps volume.size writing bytes
  all_steps = begun_by volume.size writing bytes (nat_le (writing.offset + writing.count) writing.old_size)

  first_stage : (inside : Bool) → nat_le (writing.offset + writing.count) writing.old_size ≡ inside → HasKept (keeping volume (WriteBytes writing)) before (events_in (all_of volume.size bytes (if inside then Inside writing else Growing writing Begun)))
      → StandsStage (keeping volume (WriteBytes writing)) before bytes (if inside then Inside writing else Growing writing Begun)
      × HasComeStage volume (WriteBytes writing) bytes (keeping volume (WriteBytes writing)) (if inside then Inside writing else Growing writing Begun)
  first_stage true test has =
      let inside = leb-true (writing.offset + writing.count) writing.old_size test in (
        record { going = ready.going; whole = planned.2.stands.knows.whole; at = (is_write, can_overwrite (may_write planned.2 inside)); kept = has },
        (refl, none_added planned.2 inside, refl),
      )
  first_stage false test has =
      let more = leb-false (writing.offset + writing.count) writing.old_size test in
      let numbers = may_take_written volume before planned.0 command writing planned.2 in
      let grows = can_fill (may_grow planned.2 more) in
      let knows : KnowsGrowth (keeping volume (WriteBytes writing)) writing.inode writing.new_pages Begun =
      record { least = is_write.least; most = is_write.most; places = ready.reserved.places; numbers = record { once = numbers.once; free = numbers.free } } in
      (record { going = ready.going; whole = planned.2.stands.knows.whole; at = (is_write, grows, knows); kept = has }, (refl, refl))

  as_write : {T E : Type 0} {device : DeviceView} {result : Result T E} → Unfolds (all_of volume.size bytes (begun_writing writing)) before device result → Unfolds (write_steps volume.size writing bytes) before device result
  as_write {device = device} {result} made = subst (λ (l : List Step). Unfolds l before device result) all_steps made

  runs_writing : RunsWrite volume before bytes (WriteBytes writing)
  runs_writing = record {
    begun = kept_begins (call volume (WriteBytes writing) bytes) (begun_writing writing) planned.2 ready refl (all_costs volume.size writing bytes is_write.count ∙ ap events_in (sym all_steps))
        (few_by volume.size writing bytes (nat_le (writing.offset + writing.count) writing.old_size)) (first_stage (nat_le (writing.offset + writing.count) writing.old_size) refl);
    done = λ after device reply made come back. carried planned ready reply come.0 (as_write made) (subst (λ (v : VolumeView). EntersPages volume v writing.inode writing.new_pages) back come.1);
    stopped = λ after device fault made stops. carried_no_further planned ready fault (as_write made) stops;
    stored = λ device result made other is. subst (λ (w : Writing). HasStoredBytes volume.size before device w bytes result) (same_writing writing other is) (stored planned (as_write made));
  }

-- ---- and one with nothing to do

runs_nothing : {volume : VolumeView} {before : DeviceView} {bytes : List ℕ} (state : State) (path : Route) (offset : ℕ) → IsPlanFor volume before state (Write path offset bytes) WriteNothing → MayCarry volume before WriteNothing → RunsWrite volume before bytes WriteNothing
runs_nothing {volume} {before} {bytes} state path offset planned ready =
    let no_byte = none planned in
    runs_idle refl
    (kept_begins (call volume WriteNothing bytes) Nothing planned ready refl refl (omega arith)
    (λ has. (record { going = ready.going; whole = planned.stands.knows.whole; at = nil_from_length bytes no_byte; kept = has }, (refl, no_byte, refl))))
    ready.going refl (λ reply. intervals_none before reply planned.stands.settled) (λ to command ours for reply. follows_nothing to command ours for reply) (λ after reply come back. (come.0, sym back ∙ come.1))
    (λ device result writing is. absurd (not_nothing writing (sym is)))

-- ---- the whole call

module _ {volume : VolumeView} {before : DeviceView} {bytes : List ℕ} {plan : Action} (planned : (state : State) × (path : Route) × (offset : ℕ) × IsPlanFor volume before state (Write path offset bytes) plan) (ready : MayCarry volume before plan) where
  way : ((writing : Writing) × (plan ≡ WriteBytes writing)) ⊎ (plan ≡ WriteNothing)
  way =
      let (state, path, offset, for) = planned in
      nothing_or (((writing : Writing) × (plan ≡ WriteBytes writing)) ⊎ (plan ≡ WriteNothing)) WriteBytes (IsWritingFor volume.size before.words state path offset bytes) WriteNothing plan _ for.planned.plan_is inr (λ writing is for. inl (writing, is))

  pub runs : RunsWrite volume before bytes plan
  runs =
      let (state, path, offset, for) = planned in
      by_plan (λ (action : Action). IsPlanFor volume before state (Write path offset bytes) action → MayCarry volume before action → RunsWrite volume before bytes action) WriteBytes WriteNothing plan
      (λ writing for ready. let (to, same, here) = own_offset state (Write path offset bytes) (path, offset, refl) for in runs_writing writing (state, to, here) ready) (runs_nothing state path offset) way for ready

  pub may_begin : MayBegin volume before bytes plan
  may_begin = (way, ready.unmarked, runs.begun.stands)
