-- The call of a truncation, from one of its steps to the next: how it begins, what the volume is by now, and how it ends.
use Rattle.std.proofs.Common.{◌≡◌, ℕ, ◌+◌, ◌-◌, ◌*◌, ◌<◌, ◌≤◌, Bool, true, false, cond, nat_lt, List, [], ◌∷◌, length, refl, sym, ap, subst, ◌∙◌, arith, Option, Some, None, ◌⊎◌, inl, inr, if◌then◌else◌}
use Rattle.std.proofs.lemmas.Bool.{ltb-true}
use Rattle.std.specs.Prelude.{Result, Ok}
use Rattle.std.proofs.lemmas.Bool.Decides.{nat_tests}
use Rattle.pm_trait.specs.DeviceView.{DeviceView, MakesIntervals}
use Rattle.pm_trait.specs.Unfolds.{MayFence, Step, Takes, Unfolds, events_in, step_events, KeepsWords}
use Rattle.pm_trait.proofs.Unfolding.{words_kept}
use Rattle.layout.specs.Superblock.{IsSuperblockWord, has_mark}
use Rattle.pm_trait.proofs.DeviceViewLaws.{intervals_none}
use Rattle.tree_model.specs.declared.reply.Reply.{Reply}
use Rattle.tree_model.specs.declared.reply.Reply.TheVariants.{Done as Told}
use Rattle.tree_model.specs.PathText.{Route}
use Rattle.tree_model.specs.Run.{State}
use Rattle.tree_model.specs.Step.{Done}
use Rattle.tree_model.specs.declared.command.Command.{Command}
use Rattle.tree_model.specs.declared.command.Command.TheVariants.{Truncate}
use Rattle.volatile_index.specs.Index.{pages_of}
use Rattle.volume.specs.Volume.{VolumeView}
use Rattle.volume.specs.Entered.{LeavesLastPages, HasResized}
use Rattle.volume.specs.declared.next.Next.{Next}
use Rattle.volume.specs.declared.next.Next.TheVariants.{More, Ended}
use Rattle.volume.specs.declared.plan.Resizing.{Resizing}
use Rattle.volume.specs.declared.plan.Action.{Action}
use Rattle.volume.specs.declared.plan.Action.TheVariants.{Resize, KeepSize}
use Rattle.volume.proofs.Moments.{IsSameBeside, with_kept, kept_already, cut_beside, cut_keeping}
use Rattle.volume.specs.Carried.{IsPlanFor, MayCarry, IsAtomic, Carries}
use Rattle.volume.specs.Costs.{growth_events, commit_events, loss_events, events_of, fences_of_plan}
use Rattle.volume.specs.Prepared.{IsBoundedResizing}
use Rattle.volume.specs.Stages.{HasKept, keeping}
use Rattle.volume.proofs.KeptEvents.{bounded}
use Rattle.volume.proofs.PlannedPages.{may_take_resized, resized_in_index, may_lose_cut}
use Rattle.volume.specs.Planned.{IsResizingFor}
use Rattle.volume.proofs.Plans.{nothing_or}
use Rattle.volume.proofs.Grown.{none_lost}
use Rattle.entry_steps.proofs.Reserved.{enough}
use Rattle.data_ops.specs.Cutting.{TakesIn, growth_to, IsTruncation, MayResize, HasStoredSize, cut_steps, resize_steps}
use Rattle.data_ops.specs.GrowthStages.{next_of_growth, KnowsGrowth}
use Rattle.data_ops.specs.ResizeStages.{StandsStage, StandsNext, EntersCut, EntersAt, begun, step_of, next_growing, next_cutting, next_of, begun_resizing, MayBegin}
use Rattle.data_ops.specs.declared.grow.Progress.{Progress}
use Rattle.data_ops.specs.declared.grow.Progress.TheVariants.{Begun as GrowthBegun}
use Rattle.data_ops.specs.declared.truncate.CutProgress.{CutProgress}
use Rattle.data_ops.specs.declared.truncate.CutProgress.TheVariants.{Begun, Lowered, Trimmed}
use Rattle.data_ops.specs.declared.truncate.Stage.{Stage}
use Rattle.data_ops.specs.declared.truncate.Stage.TheVariants.{Nothing, Growing, Cutting}
use Rattle.data_ops.specs.Steps.{either_steps, growth_steps}
use Rattle.data_ops.proofs.Going.{Call, HasGone, IsBehind, all_behind, left_next, stored_events, may_go, goes_on}
use Rattle.data_ops.proofs.Carrying.{Runs, carries_made, carries_stopped, kept_begins, runs_idle, by_plan}
use Rattle.data_ops.proofs.Growth.{HasComeTo, HasComeOn, rank_of_growth, rank_of_next, fewer_steps, rest_of_growth, left_behind, growth_behind, growth_own, growth_come_on, knows_kept, can_fill, none_beside, growth_beside, entered_beside}
use Rattle.data_ops.proofs.Cuts.{rank_of_cut, rest_of_cut, left_behind_cut, cut_behind, cut_stores, can_be_cut, may_lose}
use Rattle.data_ops.proofs.TruncatingPlans.{has_resized, leaves_resized, all_costs, all_intervals, stores_size, is_atomic, has_stored, may_resize, cut_at, follows_nothing, less_by}
use Rattle.data_ops.proofs.Steps.{resize_keep, not_same_size, same_resizing, resizing_for, either_more}

-- ---- from one of its stages to the next

-- ---- the steps

abbrev rest_of : VolumeView → Stage → List Step
rest_of volume Nothing = []
rest_of volume (Growing resizing progress) = rest_of_growth volume.size (growth_to resizing) [] resizing.new_pages progress
rest_of volume (Cutting resizing progress) = rest_of_cut volume.size resizing (pages_of volume.index resizing.inode) progress

-- a stage's own, and the rest
abbrev pub all_of : VolumeView → Stage → List Step
all_of volume running = step_of volume running ∷ rest_of volume running

own_events : (volume : VolumeView) (device : DeviceView) (running : Stage) → StandsStage volume device running → step_events (step_of volume running) ≡ (step_of volume running).events
own_events volume device Nothing stands = refl
own_events volume device (Growing resizing progress) stands = growth_own volume.size (growth_to resizing) [] device _ resizing.new_pages progress stands.at.1
own_events volume device (Cutting resizing progress) stands =
    stored_events (step_of volume (Cutting resizing progress)) (cut_stores volume.size device.words resizing (pages_of volume.index resizing.inode) stands.at.2.enough progress stands.at.1)

-- how many are left at most, and one for nothing to do
abbrev rank_of : Stage → ℕ
rank_of Nothing = 1
rank_of (Growing resizing progress) = rank_of_growth progress
rank_of (Cutting resizing progress) = rank_of_cut progress

abbrev pub rank : Next Stage → ℕ
rank (More running) = rank_of running
rank (Ended reply) = 0

grown_rank : (resizing : Resizing) (next : Option Progress) → rank (next_growing resizing next) ≡ rank_of_next next
grown_rank resizing (Some progress) = refl
grown_rank resizing None = refl

lowered_rank : (resizing : Resizing) (some : Bool) → rank (if some then More (Cutting resizing Lowered) else Ended Told) < 3
lowered_rank resizing true = omega arith
lowered_rank resizing false = omega arith

-- a step brings it nearer to its end
pub fewer : (running : Stage) → rank (next_of running) < rank (More running)
fewer Nothing = omega arith
fewer (Growing resizing progress) = let same = grown_rank resizing (next_of_growth progress resizing.new_pages) in let less = fewer_steps progress resizing.new_pages in omega (arith, same, less)
fewer (Cutting resizing Begun) = lowered_rank resizing (nat_lt 0 resizing.cut)
fewer (Cutting resizing Lowered) = omega arith
fewer (Cutting resizing Trimmed) = omega arith

-- ---- what the volume is by now

-- The plan is carried out: the file's pages are taken in or given back.
pub record HasEnded (old now : VolumeView) (plan : Action) : Type 0 where
  pub nothing : plan ≡ KeepSize → with_kept old.kept now ≡ old
  pub resized : (resizing : Resizing) → plan ≡ Resize resizing → TakesIn old (with_kept old.kept now) resizing

abbrev pub HasComeStage : VolumeView → Action → VolumeView → Stage → Type 0
HasComeStage old plan now Nothing = (plan ≡ KeepSize) × (with_kept old.kept now ≡ old)
HasComeStage old plan now (Growing resizing progress) = (plan ≡ Resize resizing) × (resizing.old_size < resizing.new_size) × HasComeTo old now resizing.new_pages progress
HasComeStage old plan now (Cutting resizing progress) = (plan ≡ Resize resizing) × (resizing.new_size < resizing.old_size) × (with_kept old.kept now ≡ old)

abbrev pub HasCome : VolumeView → Action → VolumeView → Next Stage → Type 0
HasCome old plan now (More running) = HasComeStage old plan now running
HasCome old plan now (Ended reply) = (reply ≡ Told) × HasEnded old now plan

-- what a step enters leaves the rest of the volume
enters_beside : (running : Stage) (old new : VolumeView) → EntersAt running old new → IsSameBeside old new
enters_beside Nothing old new same = none_beside old new same
enters_beside (Growing resizing progress) old new enters = growth_beside resizing.inode resizing.new_pages progress old new enters
enters_beside (Cutting resizing Begun) old new same = none_beside old new same
enters_beside (Cutting resizing Lowered) old new same = none_beside old new same
enters_beside (Cutting resizing Trimmed) old new leaves = cut_beside old new resizing.inode resizing.cut leaves

-- ---- the loop

module _ (old : VolumeView) (plan : Action) where
  abbrev pub call : Call Stage
  call = record {
    steps = all_of old (begun plan);
    step = λ volume running. step_of volume running;
    rest = λ volume running. rest_of volume running;
    Stands = λ volume device next. StandsNext volume device next;
    Come = λ volume next. HasCome old plan volume next;
  }

  module _ (volume new : VolumeView) (device after : DeviceView) (k : ℕ) where
    -- ---- the steps that are left

    grown_behind : (resizing : Resizing) (rest : List Step) (next : Option Progress) → IsBehind rest (left_behind new.size (growth_to resizing) [] resizing.new_pages next) after → IsBehind rest (left_next call new (next_growing resizing next)) after
    grown_behind resizing rest (Some progress) is = is
    grown_behind resizing rest None is = is

    lowered_left : (v : VolumeView) (resizing : Resizing) (some : Bool) → left_next call v (if some then More (Cutting resizing Lowered) else Ended Told) ≡ cond some (all_of v (Cutting resizing Lowered)) []
    lowered_left v resizing true = refl
    lowered_left v resizing false = refl

    -- the list of a cut's file is the same until its last step
    cut_left_on : (resizing : Resizing) (progress : CutProgress) (enough : resizing.cut ≤ length (pages_of volume.index resizing.inode)) → EntersCut resizing progress (with_kept k volume) new
        → left_next call new (next_cutting resizing progress) ≡ left_behind_cut volume.size resizing (pages_of volume.index resizing.inode) enough progress
    cut_left_on resizing Begun enough same = ap (λ (v : VolumeView). left_next call v (next_cutting resizing Begun)) same ∙ lowered_left (with_kept k volume) resizing (nat_lt 0 resizing.cut)
    cut_left_on resizing Lowered enough same = ap (λ (v : VolumeView). left_next call v (next_cutting resizing Lowered)) same
    cut_left_on resizing Trimmed enough leaves = refl

    behind : (running : Stage) → StandsStage volume device running → EntersAt running (with_kept k volume) new → IsBehind (rest_of volume running) (left_next call new (next_of running)) after
    behind Nothing stands enters = all_behind [] after
    behind (Growing resizing progress) stands enters =
        subst (λ (p : ℕ). IsBehind (rest_of_growth p (growth_to resizing) [] resizing.new_pages progress) (left_next call new (next_of (Growing resizing progress))) after) (enters_beside (Growing resizing progress) (with_kept k volume) new enters).size
        (grown_behind resizing _ (next_of_growth progress resizing.new_pages) (growth_behind new.size (growth_to resizing) [] resizing.new_pages progress after))
    behind (Cutting resizing progress) stands enters =
        subst (λ (l : List Step). IsBehind (rest_of volume (Cutting resizing progress)) l after) (sym (cut_left_on resizing progress stands.at.2.enough enters))
        (cut_behind volume.size resizing (pages_of volume.index resizing.inode) stands.at.2.enough progress after)

    -- ---- what has come

    -- a plan of this resizing has ended
    ended_by : (resizing : Resizing) → plan ≡ Resize resizing → TakesIn old (with_kept old.kept new) resizing → HasEnded old new plan
    ended_by resizing is takes = record {
      nothing = λ keeps. absurd (not_same_size resizing (sym is ∙ keeps));
      resized = λ other has. subst (λ (r : Resizing). TakesIn old (with_kept old.kept new) r) (same_resizing resizing other (sym is ∙ has)) takes;
    }

    grown_come : (resizing : Resizing) (next : Option Progress) → plan ≡ Resize resizing → resizing.old_size < resizing.new_size → HasComeOn old new resizing.inode resizing.new_pages next → HasCome old plan new (next_growing resizing next)
    grown_come resizing (Some progress) is more come = (is, more, come)
    grown_come resizing None is more enters = (refl, ended_by resizing is (record { cut = λ less. absurd (omega (arith, less, more)); grown = λ most. enters }))

    still_old : with_kept old.kept volume ≡ old → new ≡ with_kept k volume → with_kept old.kept new ≡ old
    still_old come same = ap (with_kept old.kept) same ∙ come

    lowered_come : (resizing : Resizing) (some : Bool) → nat_lt 0 resizing.cut ≡ some → plan ≡ Resize resizing → resizing.new_size < resizing.old_size → with_kept old.kept new ≡ old → HasCome old plan new (if some then More (Cutting resizing Lowered) else Ended Told)
    lowered_come resizing true test is less same = (is, less, same)
    lowered_come resizing false test is less same =
        let none : resizing.cut ≡ 0 = grind (arith, nat_tests, test) in
        (refl, ended_by resizing is (subst (λ (v : VolumeView). TakesIn old v resizing) (sym same) (record { cut = λ again. subst (LeavesLastPages old old resizing.inode) (sym none) (none_lost old resizing.inode); grown = λ most. absurd (omega (arith, most, less)) })))

    come_on : (running : Stage) → HasComeStage old plan volume running → EntersAt running (with_kept k volume) new → HasCome old plan new (next_of running)
    come_on Nothing (is, come) same = (refl, record { nothing = λ keeps. still_old come same; resized = λ resizing has. absurd (not_same_size resizing (sym has ∙ is)) })
    come_on (Growing resizing progress) (is, more, come) enters = grown_come resizing (next_of_growth progress resizing.new_pages) is more (growth_come_on old volume new resizing.inode k resizing.new_pages progress come enters)
    come_on (Cutting resizing Begun) (is, less, come) same = lowered_come resizing (nat_lt 0 resizing.cut) refl is less (still_old come same)
    come_on (Cutting resizing Lowered) (is, less, come) same = (is, less, still_old come same)
    come_on (Cutting resizing Trimmed) (is, less, come) leaves = (
      refl,
      ended_by resizing is (record {
        cut = λ again. subst (λ (v : VolumeView). LeavesLastPages v (with_kept old.kept new) resizing.inode resizing.cut) come (cut_keeping old.kept (with_kept k volume) new resizing.inode resizing.cut leaves);
        grown = λ most. absurd (omega (arith, most, less));
      }),
    )

  module _ {volume : VolumeView} {before device : DeviceView} {running : Stage} (gone : HasGone call old before volume device (More running)) where
    pub may_make : MayFence device (512 * volume.size) (step_of volume running).events 1
    may_make = may_go call old before gone (own_events volume device running gone.stands)

    pub gone_on : {T E : Type 0} {value : T} {new : VolumeView} {after : DeviceView} {next : Next Stage} → Takes {E = E} (step_of volume running) device after (Ok value)
        → EntersAt running (with_kept (volume.kept - (step_of volume running).events) volume) new → next ≡ next_of running → StandsNext new after next → HasGone call old before new after next
    gone_on {new = new} {after} {next} takes enters is stands =
        let k = volume.kept - (step_of volume running).events in
        goes_on call old before gone (own_events volume device running gone.stands) takes (enters_beside running (with_kept k volume) new enters)
        (subst (λ (n : Next Stage). IsBehind (rest_of volume running) (left_next call new n) after) (sym is) (behind volume new device after k running gone.stands enters))
        stands (subst (HasCome old plan new) (sym is) (come_on volume new device after k running gone.come enters))

-- ---- the plan is carried out: what it begins with, and what stands once the file has its size on the device and its pages in the
-- volume

more_events : (resizing : Resizing) → 0 < events_of (Resize resizing)
more_events resizing =
    either_more (nat_lt resizing.old_size resizing.new_size) (growth_events resizing.old_size resizing.old_size (length resizing.new_pages)) (commit_events + loss_events resizing.cut false) (omega arith) (omega arith)

steps_by : (volume : VolumeView) (resizing : Resizing) (more : Bool) → all_of volume (if more then Growing resizing GrowthBegun else Cutting resizing Begun)
    ≡ either_steps more (growth_steps volume.size (growth_to resizing) [] resizing.new_pages) (cut_steps volume.size resizing (pages_of volume.index resizing.inode))
steps_by volume resizing true = refl
steps_by volume resizing false = refl

few_by : (volume : VolumeView) (resizing : Resizing) (more : Bool) → length (all_of volume (if more then Growing resizing GrowthBegun else Cutting resizing Begun)) ≤ 3
few_by volume resizing true = omega arith
few_by volume resizing false = omega arith

-- the steps are those of the file's pages, whatever is kept
all_kept : (volume : VolumeView) (k : ℕ) (running : Stage) → all_of volume running ≡ all_of (with_kept k volume) running
all_kept volume k Nothing = refl
all_kept volume k (Growing resizing progress) = refl
all_kept volume k (Cutting resizing progress) = refl

-- what is told of it besides its pages is as before
volume_same : {volume new : VolumeView} {resizing : Resizing} → HasResized volume new resizing → IsSameBeside volume new
volume_same {new = new} {resizing} resized =
    let cut = cut_beside resized.grown new resizing.inode resizing.cut resized.cut in
    let grown = entered_beside resized.pages in
    record { size = cut.size ∙ grown.size; stopped = cut.stopped ∙ grown.stopped; marked = cut.marked ∙ grown.marked; kept = cut.kept ∙ grown.kept }

-- by the size that the plan has
own_size : {volume : VolumeView} {device : DeviceView} {resizing : Resizing} (state : State) (command : Command) → IsTruncation command → IsPlanFor volume device state command (Resize resizing)
    → (path : Route) × (command ≡ Truncate path resizing.new_size) × IsPlanFor volume device state (Truncate path resizing.new_size) (Resize resizing)
own_size {volume} {device} {resizing} state command (path, size, is) plan =
    let at = subst (λ (c : Command). IsPlanFor volume device state c (Resize resizing)) is plan in
    let same = sym (resizing_for volume.size device.words state path size resizing at.planned.plan_is).1.new_is in
    (path, is ∙ ap (λ (n : ℕ). Truncate path n) same, subst (λ (n : ℕ). IsPlanFor volume device state (Truncate path n) (Resize resizing)) same at)

-- how it begins, what is done at its end, and where a fence failed
abbrev pub RunsTruncation : VolumeView → DeviceView → Action → Type 0
RunsTruncation volume old plan =
    Runs (call volume plan) volume old plan (begun plan) Done IsTruncation (λ device result. (resizing : Resizing) → plan ≡ Resize resizing → HasStoredSize volume.size old device resizing (pages_of volume.index resizing.inode) result)

-- the plan of another size
module _ {volume : VolumeView} {old : DeviceView} {resizing : Resizing} (planned : (state : State) × (path : Route) × IsPlanFor volume old state (Truncate path resizing.new_size) (Resize resizing)) (ready : MayCarry volume old (Resize resizing)) where
  may : MayResize volume.size old.words resizing (pages_of volume.index resizing.inode)
  may = may_resize planned.2

  -- ---- before its first step

  all_steps : all_of volume (begun_resizing resizing) ≡ resize_steps volume.size resizing (pages_of volume.index resizing.inode)
  all_steps = steps_by volume resizing (nat_lt resizing.old_size resizing.new_size)

  all_events : events_of (Resize resizing) ≡ events_in (all_of volume (begun_resizing resizing))
  all_events = all_costs volume.size old resizing (pages_of volume.index resizing.inode) may ∙ ap events_in (sym all_steps)

  bounds : IsBoundedResizing resizing
  bounds = bounded volume old planned.0 (Truncate planned.1 resizing.new_size) (Resize resizing) planned.2

  knows_growth : KnowsGrowth volume resizing.inode resizing.new_pages GrowthBegun
  knows_growth =
      let command = Truncate planned.1 resizing.new_size in
      let (least, most) = resized_in_index volume old planned.0 command resizing planned.2 in
      record { least = least; most = most; places = ready.reserved.places; numbers = may_take_resized volume old planned.0 command resizing planned.2 }

  -- its first stage, whichever way it goes
  first_stage : (more : Bool) → nat_lt resizing.old_size resizing.new_size ≡ more → HasKept (keeping volume (Resize resizing)) old (events_in (all_of volume (if more then Growing resizing GrowthBegun else Cutting resizing Begun)))
      → StandsStage (keeping volume (Resize resizing)) old (if more then Growing resizing GrowthBegun else Cutting resizing Begun)
      × HasComeStage volume (Resize resizing) (keeping volume (Resize resizing)) (if more then Growing resizing GrowthBegun else Cutting resizing Begun)
  first_stage true test has =
      let more = ltb-true resizing.old_size resizing.new_size test in
      let knows = knows_kept volume (keeping volume (Resize resizing)) (volume.kept + events_of (Resize resizing)) resizing.inode resizing.new_pages GrowthBegun refl knows_growth in (
        record { going = ready.going; whole = planned.2.stands.knows.whole; at = (bounds, can_fill (may.grow more), knows); kept = has },
        (refl, more, kept_already volume volume.kept refl),
      )
  first_stage false test has =
      let less = less_by resizing.old_size resizing.new_size may.other test in
      let loses = may_lose volume (keeping volume (Resize resizing)) (volume.kept + events_of (Resize resizing)) refl (may_lose_cut volume old planned.0 (Truncate planned.1 resizing.new_size) resizing planned.2) in (
        record { going = ready.going; whole = planned.2.stands.knows.whole; at = (bounds, can_be_cut (may.cut less), loses); kept = has },
        (refl, less, kept_already volume volume.kept refl),
      )

  -- ---- behind its last

  module _ {T E : Type 0} {new : DeviceView} {result : Result T E} (unfolds : Unfolds (all_of volume (begun_resizing resizing)) old new result) where
    made : Unfolds (resize_steps volume.size resizing (pages_of volume.index resizing.inode)) old new result
    made = subst (λ (l : List Step). Unfolds l old new result) all_steps unfolds

    pub stored : HasStoredSize volume.size old new resizing (pages_of volume.index resizing.inode) result
    stored = has_stored volume.size old resizing _ may new result planned.2.stands.settled made (cut_at planned.2)

    device : MakesIntervals old new (events_of (Resize resizing)) (fences_of_plan (Resize resizing)) result
    device = all_intervals volume.size old resizing _ may new result planned.2.stands.settled made

    beside : KeepsWords IsSuperblockWord old.words new.words
    beside = words_kept IsSuperblockWord (resize_keep volume.size resizing (pages_of volume.index resizing.inode)) made

    atomic : (state : State) (path : Route) → IsPlanFor volume old state (Truncate path resizing.new_size) (Resize resizing) → has_mark old.words ≡ false → IsAtomic volume.size old new state (Truncate path resizing.new_size)
    atomic state path here = is_atomic volume.size old resizing _ may new result here.stands.settled made (cut_at here)

  carried : {E F T : Type 0} {done : T} {new : DeviceView} {after : VolumeView} (reply : Reply) → reply ≡ Told → Unfolds {E = E} (all_of volume (begun_resizing resizing)) old new (Ok done) → TakesIn volume after resizing
      → Carries {E = F} volume after old new (Resize resizing) Done IsTruncation (Ok reply)
  carried {done = done} {new} {after} reply told unfolds takes =
      let all = device unfolds in
      let sized = stores_size volume.size old resizing _ may new (Ok done) planned.2.stands.settled (made unfolds) in
      let resized = has_resized planned.2 after takes in
      carries_made (λ (path : Route). Truncate path resizing.new_size) own_size planned ready (more_events resizing) (beside unfolds) (atomic unfolds) reply told all (volume_same resized) resized
      (λ state path here keeps. leaves_resized here after takes new sized all.settled (all.counted, all.grown) keeps)

  runs_resizing : RunsTruncation volume old (Resize resizing)
  runs_resizing = record {
    begun = kept_begins (call volume (Resize resizing)) (begun_resizing resizing) planned.2 ready (all_kept volume (volume.kept + events_of (Resize resizing)) (begun_resizing resizing)) all_events
        (few_by volume resizing (nat_lt resizing.old_size resizing.new_size)) (first_stage (nat_lt resizing.old_size resizing.new_size) refl);
    done = λ after device reply made come back. carried reply come.0 made (subst (λ (v : VolumeView). TakesIn volume v resizing) back (come.1.resized resizing refl));
    stopped = λ after new fault unfolds stops.
        carries_stopped (λ (path : Route). Truncate path resizing.new_size) own_size planned ready (more_events resizing) (beside unfolds) (atomic unfolds) fault (device unfolds) stops;
    stored = λ device result made other is. subst (λ (r : Resizing). HasStoredSize volume.size old device r (pages_of volume.index r.inode) result) (same_resizing resizing other is) (stored made);
  }

-- the plan with nothing to do
runs_nothing : {volume : VolumeView} {old : DeviceView} (state : State) (path : Route) (size : ℕ) → IsPlanFor volume old state (Truncate path size) KeepSize → MayCarry volume old KeepSize → RunsTruncation volume old KeepSize
runs_nothing {volume} {old} state path size planned ready =
    runs_idle refl
    (kept_begins (call volume KeepSize) Nothing planned ready refl refl (omega arith) (λ has. (record { going = ready.going; whole = planned.stands.knows.whole; at = tt; kept = has }, (refl, kept_already volume volume.kept refl))))
    ready.going refl (λ reply. intervals_none old reply planned.stands.settled) (λ to command ours for reply. follows_nothing to command ours for reply) (λ after reply come back. (come.0, sym back ∙ come.1.nothing refl))
    (λ device result resizing is. absurd (not_same_size resizing (sym is)))

-- ---- the whole call

module _ {volume : VolumeView} {old : DeviceView} {plan : Action} (planned : (state : State) × (path : Route) × (size : ℕ) × IsPlanFor volume old state (Truncate path size) plan) (ready : MayCarry volume old plan) where
  way : ((resizing : Resizing) × (plan ≡ Resize resizing)) ⊎ (plan ≡ KeepSize)
  way =
      let (state, path, size, for) = planned in
      nothing_or (((resizing : Resizing) × (plan ≡ Resize resizing)) ⊎ (plan ≡ KeepSize)) Resize (IsResizingFor volume.size old.words state path size) KeepSize plan _ for.planned.plan_is inr (λ resizing is for. inl (resizing, is))

  pub runs : RunsTruncation volume old plan
  runs =
      let (state, path, size, for) = planned in
      by_plan (λ (action : Action). IsPlanFor volume old state (Truncate path size) action → MayCarry volume old action → RunsTruncation volume old action) Resize KeepSize plan
      (λ resizing for ready. let (to, same, here) = own_size state (Truncate path size) (path, size, refl) for in runs_resizing (state, to, here) ready) (runs_nothing state path size) way for ready

  -- a plan that may be carried out may begin
  pub may_begin : MayBegin volume old plan
  may_begin = (way, ready.unmarked, runs.begun.stands)
