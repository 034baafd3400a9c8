-- Where usage is told.
use Rattle.std.proofs.Common.{◌≡◌, ◌≢◌, ◌⊎◌, inl, inr, ℕ, ◌*◌, List, length, refl, sym, ap, ◌∙◌}
use Rattle.std.specs.Prelude.{Option, Some, None}
use Rattle.pm_trait.specs.DeviceView.{DeviceView}
use Rattle.tree_model.specs.Run.{State}
use Rattle.image_reading.specs.Soundness.{pages_in_image}
use Rattle.engine.specs.Run.{last_state}
use Rattle.script.specs.Texts.{listing_text}
use Rattle.script.specs.Work.{work_text}
use Rattle.script.specs.declared.run_end.RunEnd.{RunEnd}
use Rattle.script.specs.declared.run_end.RunEnd.TheVariants as ends
use Rattle.schedules.specs.declared.weave_end.WeaveEnd.{WeaveEnd}
use Rattle.schedules.specs.declared.weave_end.WeaveEnd.TheVariants as weave_end
use Rattle.command_line.specs.declared.job.Job.{Job}
use Rattle.command_line.specs.declared.job.Job.TheVariants.{Mkfs, Run, Tree, Check, Crash, Work, Weave}
use Rattle.squirrel_cli.specs.declared.status.Status.{Status}
use Rattle.squirrel_cli.specs.declared.status.Status.TheVariants as status
use Rattle.squirrel_cli.specs.Mounts.{ClosesAfter, ClosesAs, HasRun}
use Rattle.squirrel_cli.specs.Replays.{HasReplayed, unlisted_end}
use Rattle.squirrel_cli.specs.Rows.{DoesJob, IsToldWhy, LeavesTidy, LeavesTidyUncut, MountsAndLeaves}
use Rattle.squirrel_cli.specs.Seen.{Seen}
use Rattle.squirrel_cli.specs.Tells.{HasListed, TellsAndCloses}
use Rattle.squirrel_cli.specs.Told.{IsToldOrCut}
use Rattle.squirrel_cli.specs.Weaves.{ClosesBehind, WeavesScript}
use Rattle.squirrel_cli.specs.Works.{HasWorked, sums_of}

-- no text is told with it
not_told : {wanted is : Status} {text : List ℕ} {took now : List ℕ → Type 0} → wanted ≢ status.Usage → IsToldOrCut wanted text is took now → is ≢ status.Usage
not_told other (inl told) usage = let e = told.0 in other (cc (e, usage))
not_told other (inr cut) usage = let e = cut.0 in cc (e, usage)

not_why : {words : List ℕ} {is : Status} {took now : List ℕ → Type 0} → IsToldWhy words is took now → is ≢ status.Usage
not_why (inl (none, told)) = not_told (λ e. cc e) told
not_why (inr (holds, (violation, first, told))) = not_told (λ e. cc e) told

abbrev Tidy : {S K : Type 0} → Seen S K → Seen S K → Status → Type 0
Tidy old new is = LeavesTidy old new

-- nor by a job that mounts
not_mounted : {S K : Type 0} (L F : Seen S K → Seen S K → Status → Type 0) (old new : Seen S K) (is : Status) → (F old new is → is ≢ status.Usage) → MountsAndLeaves L F old new is → is ≢ status.Usage
not_mounted L F old new is more (inl short) usage = let memory = short.is in cc (memory, usage)
not_mounted L F old new is more (inr (inl (unsound, refused))) usage = not_why refused.told usage
not_mounted L F old new is more (inr (inr (sound, tidy, inl fails))) usage = let fault = fails.is in cc (fault, usage)
not_mounted L F old new is more (inr (inr (sound, tidy, inr did))) usage = more did usage

-- nor by one that closes the volume
not_closed_as : (P : ℕ) (state : State) (ran after : DeviceView) (is : Status) → ClosesAs P state ran after is → is ≢ status.Usage
not_closed_as P state ran after is (inl (done, closes)) usage = cc (done, usage)
not_closed_as P state ran after is (inr (fault, closes)) usage = cc (fault, usage)

not_closed : (P : ℕ) (state : State) (text : List ℕ) (ran after : DeviceView) (is : Status) (took now : List ℕ → Type 0) → TellsAndCloses P state text ran after is took now → is ≢ status.Usage
not_closed P state text ran after is took now (inl (taken, closes)) usage = not_closed_as P state ran after is closes usage
not_closed P state text ran after is took now (inr (cut, prefix, same)) usage = cc (cut, usage)

not_ran : (P : ℕ) (state : State) (ran after : DeviceView) (is : Status) (end : RunEnd) → ClosesAfter end P state ran after is → is ≢ status.Usage
not_ran P state ran after is ends.Done closes usage = not_closed_as P state ran after is closes usage
not_ran P state ran after is ends.Faulted (told, same) usage = cc (told, usage)
not_ran P state ran after is ends.ReadFault (told, same) usage = cc (told, usage)
not_ran P state ran after is ends.WriteFault (told, same) usage = cc (told, usage)
not_ran P state ran after is ends.Limit (told, same) usage = cc (told, usage)

not_worked : {S K : Type 0} (seed count : ℕ) (old new : Seen S K) (is : Status) → HasWorked seed count old new is → is ≢ status.Usage
not_worked seed count old new is (inl fault) usage = let device = fault.is in cc (device, usage)
not_worked seed count old new is (inr works) usage = not_closed (pages_in_image old.device.words) (last_state works.ran.run.start works.ran.run.states) (work_text (sums_of (pages_in_image old.device.words) count works.ran.run.start works.ran.run.answers works.ran.run.states)) works.worked new.device is old.took new.took works.told usage

not_behind : (P : ℕ) (state : State) (ran after : DeviceView) (is : Status) (end : WeaveEnd) → ClosesBehind end P state ran after is → is ≢ status.Usage
not_behind P state ran after is weave_end.Done closes usage = not_closed_as P state ran after is closes usage
not_behind P state ran after is weave_end.Faulted (told, same) usage = cc (told, usage)
not_behind P state ran after is weave_end.WriteFault (told, same) usage = cc (told, usage)

not_woven : {S K : Type 0} (sessions : ℕ) (schedule : List ℕ) (old new : Seen S K) (is : Status) → WeavesScript sessions schedule old new is → is ≢ status.Usage
not_woven sessions schedule old new is (inl unwoven) usage = elim unwoven.stops.is [
  | inl memory ↦ cc (memory, usage)
  | inr (inl read) ↦ cc (read, usage)
  | inr (inr limit) ↦ cc (limit, usage)
]
not_woven sessions schedule old new is (inr (inl fails)) usage = let device = fails.is in cc (device, usage)
not_woven sessions schedule old new is (inr (inr woven)) usage = not_behind _ _ _ _ is woven.end woven.closes usage

-- it is told where no job is asked, or a volume of another size than the device
pub usage_asked : {S K : Type 0} (asked : Option Job) (old new : Seen S K) (is : Status) → DoesJob asked old new is → is ≡ status.Usage
    → (asked ≡ None) ⊎ ((pages : ℕ) × (asked ≡ Some (Mkfs pages)) × (length old.device.words ≢ 512 * pages))
usage_asked None old new is does usage = inl refl
usage_asked (Some (Mkfs pages)) old new is (inl (memory, silent, alone)) usage = absurd (cc (memory, usage))
usage_asked (Some (Mkfs pages)) old new is (inr (inl (other, told, same))) usage = inr (pages, refl, other)
usage_asked (Some (Mkfs pages)) old new is (inr (inr (size, inl fails))) usage = absurd (let fault = fails.is in cc (fault, usage))
usage_asked (Some (Mkfs pages)) old new is (inr (inr (size, inr has))) usage = absurd (not_told (λ e. cc e) has.told usage)
usage_asked (Some Run) old new is does usage = absurd (not_mounted Tidy HasRun old new is (λ runs. not_ran (pages_in_image old.device.words) (last_state runs.runs.run.start runs.runs.run.states) runs.ran new.device is runs.end runs.closes) does usage)
usage_asked (Some Tree) old new is does usage = absurd (not_mounted Tidy HasListed old new is (λ lists. not_closed (pages_in_image old.device.words) lists.mounted.start (listing_text lists.mounted.start.tree) lists.listed new.device is old.took new.took lists.told) does usage)
usage_asked (Some Check) old new is (inl (memory, same)) usage = absurd (cc (memory, usage))
usage_asked (Some Check) old new is (inr (inl (unsound, refused))) usage = absurd (not_why refused.told usage)
usage_asked (Some Check) old new is (inr (inr (sound, has))) usage = absurd (not_told (λ e. cc e) has.told usage)
usage_asked (Some (Crash moment keep again)) old new is (inl (memory, same)) usage = absurd (cc (memory, usage))
usage_asked (Some (Crash moment keep again)) old new is (inr copy) usage =
    let before = record old { device = copy.before } in
    let after = record new { device = copy.after } in
    absurd (not_mounted Tidy (HasReplayed moment keep) before after is (λ did other. elim did [
      | inl ends ↦ let e = sym (ap unlisted_end other) ∙ ends.ended in cc e
      | inr replays ↦ not_told (λ e. cc e) replays.told other
    ]) copy.replays usage)
usage_asked (Some (Work seed count)) old new is does usage = absurd (not_mounted Tidy (HasWorked seed count) old new is (not_worked seed count old new is) does usage)
usage_asked (Some (Weave sessions schedule)) old new is does usage = absurd (not_mounted LeavesTidyUncut (WeavesScript sessions schedule) old new is (not_woven sessions schedule old new is) does usage)
