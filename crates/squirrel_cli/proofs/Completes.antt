-- When a job is done.
use Rattle.std.proofs.Common.{◌≡◌, ◌≢◌, ◌⊎◌, inl, inr, ℕ, List, refl, sym, subst}
use Rattle.std.specs.Prelude.{Option, Some, None, IfSome}
use Rattle.pm_trait.specs.Device.{HasRisen}
use Rattle.pm_trait.specs.DeviceView.{DeviceView}
use Rattle.io_edge.specs.declared.source.Source.{Ghosts as Sources}
use Rattle.io_edge.specs.declared.sink.Sink.{Ghosts as Sinks}
use Rattle.layout.specs.Superblock.{HasMark}
use Rattle.tree_model.specs.Run.{State}
use Rattle.script.specs.declared.run_end.RunEnd.{RunEnd}
use Rattle.script.specs.declared.run_end.RunEnd.TheVariants as run_end
use Rattle.schedules.specs.declared.weave_end.WeaveEnd.{WeaveEnd}
use Rattle.schedules.specs.declared.weave_end.WeaveEnd.TheVariants as weave_end
use Rattle.crash_replay.specs.declared.moment.Moment.{Moment}
use Rattle.command_line.specs.declared.job.Job.{Job}
use Rattle.command_line.specs.declared.job.Job.TheVariants.{Mkfs, Run, Tree, Check, Crash, Work, Weave}
use Rattle.squirrel_cli.specs.declared.status.Status.{Status}
use Rattle.squirrel_cli.specs.declared.status.Status.TheVariants as status
use Rattle.squirrel_cli.specs.Asked.{ReadsScript}
use Rattle.squirrel_cli.specs.Causes.{TellsFaults}
use Rattle.squirrel_cli.specs.Complete.{ClosedLaw, ClosesVolume, CompleteLaw, HasNoFault, ReplayCompleteLaw}
use Rattle.squirrel_cli.specs.Ends.{IsMountable, IsReadyFor, IsShortFor, GaveAll}
use Rattle.squirrel_cli.specs.Mounts.{ClosesAfter, ClosesAs, HasRun}
use Rattle.squirrel_cli.specs.Replays.{HasReplayed, unlisted_end}
use Rattle.squirrel_cli.specs.Rows.{DoesJob, IsToldWhy, LeavesTidy, LeavesTidyUncut, MountsAndLeaves}
use Rattle.squirrel_cli.specs.Seen.{Seen, seen}
use Rattle.squirrel_cli.specs.Tells.{HasListed, TellsAndCloses}
use Rattle.squirrel_cli.specs.Told.{IsToldOrCut}
use Rattle.squirrel_cli.specs.Weaves.{ClosesBehind, WeavesScript}
use Rattle.squirrel_cli.specs.Whole.{IsKnownWithinLimits, IsWithinLimits, StopsBeforeLines}
use Rattle.squirrel_cli.specs.Works.{HasWorked}
use Rattle.squirrel_cli.proofs.Closing.{close_marked, close_never, run_marked, told_marked}
use Rattle.squirrel_cli.proofs.StatusEnds.{not_at_limit}

-- done, or memory was short
abbrev Ended : Status → Type 0
Ended is = (is ≡ status.Done) ⊎ (is ≡ status.NoMemory)

-- and neither at the limit
not_limited : {is : Status} → Ended is → is ≢ status.ScriptLimit
not_limited (inl done) limit = cc (done, limit)
not_limited (inr memory) limit = cc (memory, limit)

-- a close whose fence did not fail
close_ended : (P : ℕ) (state : State) (ran after : DeviceView) {is : Status} → ClosesAs P state ran after is → is ≢ status.DeviceFault → Ended is
close_ended P state ran after (inl (done, closes)) device = inl done
close_ended P state ran after (inr (fault, closes)) device = absurd (device fault)

-- the status of a run or a replay whose end is told, where nothing failed
run_ended : (P : ℕ) (state : State) (ran after : DeviceView) {is : Status} (end : RunEnd) → ClosesAfter end P state ran after is → is ≢ status.DeviceFault → is ≢ status.ReadFault → is ≢ status.WriteFault → Ended is ⊎ (is ≡ status.ScriptLimit)
run_ended P state ran after run_end.Done closes device read write = inl (close_ended P state ran after closes device)
run_ended P state ran after run_end.Faulted (told, same) device read write = absurd (device told)
run_ended P state ran after run_end.ReadFault (told, same) device read write = absurd (read told)
run_ended P state ran after run_end.WriteFault (told, same) device read write = absurd (write told)
run_ended P state ran after run_end.Limit (told, same) device read write = inr told

replay_ended : (is : Status) {end : RunEnd} → unlisted_end is ≡ Some end → is ≢ status.DeviceFault → is ≢ status.ReadFault → Ended is ⊎ (is ≡ status.ScriptLimit)
replay_ended status.Done ended device read = inl (inl refl)
replay_ended status.Usage ended device read = absurd (cc ended)
replay_ended status.NoMemory ended device read = inl (inr refl)
replay_ended status.NotVolume ended device read = absurd (cc ended)
replay_ended (status.Damaged violation) ended device read = absurd (cc ended)
replay_ended status.DeviceFault ended device read = absurd (device refl)
replay_ended status.ReadFault ended device read = absurd (read refl)
replay_ended status.WriteFault ended device read = absurd (cc ended)
replay_ended status.ScriptLimit ended device read = inr refl

told_ended : {is : Status} {text : List ℕ} {took now : List ℕ → Type 0} → IsToldOrCut status.Done text is took now → is ≢ status.WriteFault → Ended is
told_ended (inl told) write = inl told.0
told_ended (inr cut) write = absurd (write cut.0)

-- a text and the close after it
tells_ended : (P : ℕ) (state : State) (text : List ℕ) (ran after : DeviceView) {is : Status} (took now : List ℕ → Type 0) → TellsAndCloses P state text ran after is took now → is ≢ status.DeviceFault → is ≢ status.WriteFault → Ended is
tells_ended P state text ran after took now (inl (told, closes)) device write = close_ended P state ran after closes device
tells_ended P state text ran after took now (inr (cut, told, same)) device write = absurd (write cut)

tells_limit : (P : ℕ) (state : State) (text : List ℕ) (ran after : DeviceView) {is : Status} (took now : List ℕ → Type 0) → TellsAndCloses P state text ran after is took now → is ≢ status.ScriptLimit
tells_limit P state text ran after took now (inl (told, closes)) limit = close_never P state ran after closes limit (λ e. cc e) (λ e. cc e)
tells_limit P state text ran after took now (inr (cut, told, same)) limit = cc (cut, limit)

-- what is told of words that are no sound volume is neither done
why_not_done : {words : List ℕ} {is : Status} {took now : List ℕ → Type 0} → IsToldWhy words is took now → is ≢ status.Done
why_not_done (inl (not, inl told)) done = let e = told.0 in cc (e, done)
why_not_done (inl (not, inr cut)) done = let e = cut.0 in cc (e, done)
why_not_done (inr (holds, (violation, first, inl told))) done = let e = told.0 in cc (e, done)
why_not_done (inr (holds, (violation, first, inr cut))) done = let e = cut.0 in cc (e, done)

-- nor is it a limit
why_unlimited : {words : List ℕ} {is : Status} {took now : List ℕ → Type 0} → IsToldWhy words is took now → is ≢ status.ScriptLimit
why_unlimited (inl (not, inl told)) limit = let e = told.0 in cc (e, limit)
why_unlimited (inl (not, inr cut)) limit = let e = cut.0 in cc (e, limit)
why_unlimited (inr (holds, (violation, first, inl told))) limit = let e = told.0 in cc (e, limit)
why_unlimited (inr (holds, (violation, first, inr cut))) limit = let e = cut.0 in cc (e, limit)

abbrev Tidy : {S K : Type 0} → Seen S K → Seen S K → Status → Type 0
Tidy old new is = LeavesTidy old new

-- a job that mounts a sound volume
mounts_ended : {S K : Type 0} (L F : Seen S K → Seen S K → Status → Type 0) {A : Type 0} (old new : Seen S K) {is : Status} → IsMountable old.device.words → is ≢ status.DeviceFault → (F old new is → Ended is ⊎ A) → MountsAndLeaves L F old new is → Ended is ⊎ A
mounts_ended L F old new sound device more (inl short) = inl (inr short.is)
mounts_ended L F old new sound device more (inr (inl (unsound, refused))) = absurd (unsound sound)
mounts_ended L F old new sound device more (inr (inr (held, tidy, inl fails))) = absurd (device fails.is)
mounts_ended L F old new sound device more (inr (inr (held, tidy, inr did))) = more did

-- is at the limit only where what it does says so
mounts_limit : {S K : Type 0} (L F : Seen S K → Seen S K → Status → Type 0) {A : Type 0} (old new : Seen S K) {is : Status} → is ≡ status.ScriptLimit → (F old new is → A) → MountsAndLeaves L F old new is → A
mounts_limit L F old new limit more (inl short) = absurd (let memory = short.is in cc (memory, limit))
mounts_limit L F old new limit more (inr (inl (unsound, refused))) = absurd (why_unlimited refused.told limit)
mounts_limit L F old new limit more (inr (inr (held, tidy, inl fails))) = absurd (let fault = fails.is in cc (fault, limit))
mounts_limit L F old new limit more (inr (inr (held, tidy, inr did))) = more did

replayed_limit : {S K : Type 0} (moment : Moment) (keep : List ℕ) (old new : Seen S K) {is : Status} → is ≡ status.ScriptLimit → HasReplayed moment keep old new is → GaveAll old.left new.left
replayed_limit moment keep old new limit (inl stops) = stops.limit limit
replayed_limit moment keep old new limit (inr replays) = elim replays.told [
  | inl told ↦ absurd (let e = told.0 in cc (e, limit))
  | inr cut ↦ absurd (let e = cut.0 in cc (e, limit))
]

replayed_ended : {S K : Type 0} (moment : Moment) (keep : List ℕ) (old new : Seen S K) {is : Status} → is ≢ status.DeviceFault → is ≢ status.ReadFault → is ≢ status.WriteFault → HasReplayed moment keep old new is → Ended is ⊎ (is ≡ status.ScriptLimit)
replayed_ended moment keep old new {is} device read write (inl stops) = replay_ended is stops.ended device read
replayed_ended moment keep old new device read write (inr replays) = inl (told_ended replays.told write)

worked_ended : {S K : Type 0} (seed count : ℕ) (old new : Seen S K) {is : Status} → is ≢ status.DeviceFault → is ≢ status.WriteFault → HasWorked seed count old new is → Ended is ⊎ ⊥
worked_ended seed count old new device write (inl fault) = absurd (device fault.is)
worked_ended seed count old new device write (inr works) = inl (tells_ended _ _ _ _ _ _ _ works.told device write)

worked_limit : {S K : Type 0} (seed count : ℕ) (old new : Seen S K) {is : Status} → is ≡ status.ScriptLimit → HasWorked seed count old new is → ⊥
worked_limit seed count old new limit (inl fault) = let e = fault.is in cc (e, limit)
worked_limit seed count old new limit (inr works) = tells_limit _ _ _ _ _ _ _ works.told limit

listed_limit : {S K : Type 0} (old new : Seen S K) {is : Status} → is ≡ status.ScriptLimit → HasListed old new is → ⊥
listed_limit old new limit lists = tells_limit _ _ _ _ _ _ _ lists.told limit

-- a schedule, and the close after it
behind_ended : (P : ℕ) (state : State) (ran after : DeviceView) {is : Status} (end : WeaveEnd) → ClosesBehind end P state ran after is → is ≢ status.DeviceFault → is ≢ status.WriteFault → Ended is
behind_ended P state ran after weave_end.Done closes device write = close_ended P state ran after closes device
behind_ended P state ran after weave_end.Faulted (told, same) device write = absurd (device told)
behind_ended P state ran after weave_end.WriteFault (told, same) device write = absurd (write told)

behind_limit : (P : ℕ) (state : State) (ran after : DeviceView) {is : Status} (end : WeaveEnd) → ClosesBehind end P state ran after is → is ≢ status.ScriptLimit
behind_limit P state ran after weave_end.Done closes limit = close_never P state ran after closes limit (λ e. cc e) (λ e. cc e)
behind_limit P state ran after weave_end.Faulted (told, same) limit = cc (told, limit)
behind_limit P state ran after weave_end.WriteFault (told, same) limit = cc (told, limit)

behind_marked : (P : ℕ) (state : State) (ran after : DeviceView) {is : Status} (end : WeaveEnd) → ClosesBehind end P state ran after is → is ≡ status.Done → HasMark after.words
behind_marked P state ran after weave_end.Done closes done = close_marked P state ran after closes done
behind_marked P state ran after weave_end.Faulted (told, same) done = absurd (cc (told, done))
behind_marked P state ran after weave_end.WriteFault (told, same) done = absurd (cc (told, done))

stops_ended : {is : Status} {left now : Option (List ℕ)} → StopsBeforeLines is left now → is ≢ status.ReadFault → Ended is ⊎ (is ≡ status.ScriptLimit)
stops_ended stops read = elim stops.is [
  | inl memory ↦ inl (inr memory)
  | inr (inl told) ↦ absurd (read told)
  | inr (inr limit) ↦ inr limit
]

stops_not_done : {is : Status} {left now : Option (List ℕ)} → StopsBeforeLines is left now → is ≢ status.Done
stops_not_done stops done = elim stops.is [
  | inl memory ↦ cc (memory, done)
  | inr (inl told) ↦ cc (told, done)
  | inr (inr limit) ↦ cc (limit, done)
]

too_long : (left : Option (List ℕ)) → IfSome left (λ script. ¬ IsWithinLimits script) → IsKnownWithinLimits left → ⊥
too_long None over few = few
too_long (Some script) over few = over few

woven_limit : {S K : Type 0} (sessions : ℕ) (schedule : List ℕ) (old new : Seen S K) {is : Status} → is ≡ status.ScriptLimit → IsKnownWithinLimits old.left → WeavesScript sessions schedule old new is → ⊥
woven_limit sessions schedule old new limit few (inl unwoven) = too_long old.left (unwoven.stops.limit limit) few
woven_limit sessions schedule old new limit few (inr (inl fails)) = let fault = fails.is in cc (fault, limit)
woven_limit sessions schedule old new limit few (inr (inr woven)) = behind_limit _ _ _ _ woven.end woven.closes limit

woven_ended : {S K : Type 0} (sessions : ℕ) (schedule : List ℕ) (old new : Seen S K) {is : Status} → is ≢ status.DeviceFault → is ≢ status.ReadFault → is ≢ status.WriteFault → WeavesScript sessions schedule old new is
    → Ended is ⊎ (is ≡ status.ScriptLimit)
woven_ended sessions schedule old new device read write (inl unwoven) = stops_ended unwoven.stops read
woven_ended sessions schedule old new device read write (inr (inl fails)) = absurd (device fails.is)
woven_ended sessions schedule old new device read write (inr (inr woven)) = inl (behind_ended _ _ _ _ woven.end woven.closes device write)

-- ---- the laws

limits : {S K : Type 0} (job : Job) (old new : Seen S K) (is : Status) → DoesJob (Some job) old new is → is ≡ status.ScriptLimit → IsShortFor job old.left → ⊥
limits (Mkfs pages) old new is (inl (memory, silent, alone)) limit few = absurd (cc (memory, limit))
limits (Mkfs pages) old new is (inr (inl (other, usage, same))) limit few = absurd (cc (usage, limit))
limits (Mkfs pages) old new is (inr (inr (size, inl fails))) limit few = absurd (let e = fails.is in cc (e, limit))
limits (Mkfs pages) old new is (inr (inr (size, inr has))) limit few = elim has.told [
  | inl told ↦ absurd (let e = told.0 in cc (e, limit))
  | inr cut ↦ absurd (let e = cut.0 in cc (e, limit))
]
limits Run old new is does limit few = not_at_limit old.left new.left few (mounts_limit Tidy HasRun old new limit (λ runs. runs.limit limit) does)
limits Tree old new is does limit few = absurd (mounts_limit Tidy HasListed old new limit (listed_limit old new limit) does)
limits Check old new is (inl (memory, same)) limit few = absurd (cc (memory, limit))
limits Check old new is (inr (inl (unsound, refused))) limit few = absurd (why_unlimited refused.told limit)
limits Check old new is (inr (inr (sound, has))) limit few = elim has.told [
  | inl told ↦ absurd (let e = told.0 in cc (e, limit))
  | inr cut ↦ absurd (let e = cut.0 in cc (e, limit))
]
limits (Crash moment keep again) old new is (inl (memory, same)) limit few = absurd (cc (memory, limit))
limits (Crash moment keep again) old new is (inr copy) limit few =
    let before = record old { device = copy.before } in
    let after = record new { device = copy.after } in
    not_at_limit old.left new.left few (mounts_limit Tidy (HasReplayed moment keep) before after limit (replayed_limit moment keep before after limit) copy.replays)
limits (Work seed count) old new is does limit few = absurd (mounts_limit Tidy (HasWorked seed count) old new limit (worked_limit seed count old new limit) does)
limits (Weave sessions schedule) old new is does limit few = mounts_limit LeavesTidyUncut (WeavesScript sessions schedule) old new limit (woven_limit sessions schedule old new limit few) does

-- at the limit only a job that reads the script ends
abbrev Completed : Job → Status → Type 0
Completed job is = (is ≡ status.Done) ⊎ (is ≡ status.NoMemory) ⊎ ReadsScript job × (is ≡ status.ScriptLimit)

with_limit : (job : Job) {is : Status} → ReadsScript job → Ended is ⊎ (is ≡ status.ScriptLimit) → Completed job is
with_limit job reads (inl (inl done)) = inl done
with_limit job reads (inl (inr memory)) = inr (inl memory)
with_limit job reads (inr limit) = inr (inr (reads, limit))

with_none : (job : Job) {is : Status} → Ended is ⊎ ⊥ → Completed job is
with_none job (inl (inl done)) = inl done
with_none job (inl (inr memory)) = inr (inl memory)
with_none job (inr never) = absurd never

no_read : {before after : ℕ} → ¬ Unit {0} ⊎ ¬ HasRisen before after → HasRisen before after → ⊥
no_read (inl never) risen = never tt
no_read (inr still) risen = still risen

ends : {S K : Type 0} (job : Job) (old new : Seen S K) (is : Status) → DoesJob (Some job) old new is → TellsFaults old new is → IsReadyFor job old.device.words → HasNoFault old new
    → ¬ ReadsScript job ⊎ ¬ HasRisen old.read_faults new.read_faults → Completed job is
ends (Mkfs pages) old new is (inl (memory, silent, alone)) cause ready (device, write) reads = inr (inl memory)
ends (Mkfs pages) old new is (inr (inl (other, usage, same))) cause ready (device, write) reads = absurd (other ready)
ends (Mkfs pages) old new is (inr (inr (size, inl fails))) cause ready (device, write) reads = absurd (device (cause.device fails.is))
ends (Mkfs pages) old new is (inr (inr (size, inr has))) cause ready (device, write) reads = with_none (Mkfs pages) (inl (told_ended has.told (λ e. write (cause.write e))))
ends Run old new is does cause ready (device, write) reads =
    with_limit Run tt (mounts_ended Tidy HasRun old new ready (λ e. device (cause.device e)) (λ runs. run_ended _ _ _ _ runs.end runs.closes (λ e. device (cause.device e)) (λ e. no_read reads (cause.read e)) (λ e. write (cause.write e))) does)
ends Tree old new is does cause ready (device, write) reads =
    with_none Tree (mounts_ended Tidy HasListed old new ready (λ e. device (cause.device e)) (λ lists. inl (tells_ended _ _ _ _ _ _ _ lists.told (λ e. device (cause.device e)) (λ e. write (cause.write e)))) does)
ends Check old new is (inl (memory, same)) cause ready (device, write) reads = inr (inl memory)
ends Check old new is (inr (inl (unsound, refused))) cause ready (device, write) reads = absurd (unsound ready)
ends Check old new is (inr (inr (sound, has))) cause ready (device, write) reads = with_none Check (inl (told_ended has.told (λ e. write (cause.write e))))
ends (Crash moment keep again) old new is (inl (memory, same)) cause ready (device, write) reads = inr (inl memory)
ends (Crash moment keep again) old new is (inr copy) cause ready (device, write) reads =
    let before = record old { device = copy.before } in
    let after = record new { device = copy.after } in
    with_limit (Crash moment keep again) tt (mounts_ended Tidy (HasReplayed moment keep) before after (subst IsMountable (sym copy.fresh.words) ready) copy.unfailing
    (replayed_ended moment keep before after copy.unfailing (λ e. no_read reads (cause.read e)) (λ e. write (cause.write e))) copy.replays)
ends (Work seed count) old new is does cause ready (device, write) reads =
    with_none (Work seed count) (mounts_ended Tidy (HasWorked seed count) old new ready (λ e. device (cause.device e)) (worked_ended seed count old new (λ e. device (cause.device e)) (λ e. write (cause.write e))) does)
ends (Weave sessions schedule) old new is does cause ready (device, write) reads =
    with_limit (Weave sessions schedule) tt (mounts_ended LeavesTidyUncut (WeavesScript sessions schedule) old new ready (λ e. device (cause.device e))
    (woven_ended sessions schedule old new (λ e. device (cause.device e)) (λ e. no_read reads (cause.read e)) (λ e. write (cause.write e))) does)

pub complete_law-holds : {S K : Type 0} (source : Sources S) (sink : Sinks K) → CompleteLaw source sink
complete_law-holds source sink job before after script rest output written is does cause =
    let old = seen source sink before script output in
    let new = seen source sink after rest written in
    record {
      complete = ends job old new is does cause;
      short = λ few limit. limits job old new is does limit few;
    }

pub replay_complete_law-holds : {S K : Type 0} (source : Sources S) (sink : Sinks K) → ReplayCompleteLaw source sink
replay_complete_law-holds source sink moment keep before after script rest output written is replays cause sound few (device, write) read =
    let old = seen source sink before script output in
    let new = seen source sink after rest written in
    elim (mounts_ended Tidy (HasReplayed moment keep) old new sound (λ e. device (cause.device e)) (replayed_ended moment keep old new (λ e. device (cause.device e)) (λ e. read (cause.read e)) (λ e. write (cause.write e))) replays) [
      | inl ended ↦ ended
      | inr limit ↦ absurd (not_at_limit old.left new.left few (mounts_limit Tidy (HasReplayed moment keep) old new limit (replayed_limit moment keep old new limit) replays))
    ]

-- ---- what a job that is done leaves

mounts_done : {S K : Type 0} (L F : Seen S K → Seen S K → Status → Type 0) {A : Type 0} (old new : Seen S K) {is : Status} → is ≡ status.Done → (F old new is → A) → MountsAndLeaves L F old new is → A
mounts_done L F old new done more (inl short) = absurd (let memory = short.is in cc (memory, done))
mounts_done L F old new done more (inr (inl (unsound, refused))) = absurd (why_not_done refused.told done)
mounts_done L F old new done more (inr (inr (held, tidy, inl fails))) = absurd (let fault = fails.is in cc (fault, done))
mounts_done L F old new done more (inr (inr (held, tidy, inr did))) = more did

worked_marked : {S K : Type 0} (seed count : ℕ) (old new : Seen S K) {is : Status} → is ≡ status.Done → HasWorked seed count old new is → HasMark new.device.words
worked_marked seed count old new done (inl fault) = absurd (let e = fault.is in cc (e, done))
worked_marked seed count old new done (inr works) = told_marked _ _ _ _ _ _ _ works.told done

woven_marked : {S K : Type 0} (sessions : ℕ) (schedule : List ℕ) (old new : Seen S K) {is : Status} → is ≡ status.Done → WeavesScript sessions schedule old new is → HasMark new.device.words
woven_marked sessions schedule old new done (inl unwoven) = absurd (stops_not_done unwoven.stops done)
woven_marked sessions schedule old new done (inr (inl fails)) = absurd (let fault = fails.is in cc (fault, done))
woven_marked sessions schedule old new done (inr (inr woven)) = behind_marked _ _ _ _ woven.end woven.closes done

closed : {S K : Type 0} (job : Job) (old new : Seen S K) (is : Status) → DoesJob (Some job) old new is → ClosesVolume job → is ≡ status.Done → HasMark new.device.words
closed (Mkfs pages) old new is does closes done = absurd closes
closed Run old new is does closes done = mounts_done Tidy HasRun old new done (λ runs. run_marked _ _ _ _ runs.end runs.closes done) does
closed Tree old new is does closes done = mounts_done Tidy HasListed old new done (λ lists. told_marked _ _ _ _ _ _ _ lists.told done) does
closed Check old new is does closes done = absurd closes
closed (Crash moment keep again) old new is does closes done = absurd closes
closed (Work seed count) old new is does closes done = mounts_done Tidy (HasWorked seed count) old new done (worked_marked seed count old new done) does
closed (Weave sessions schedule) old new is does closes done = mounts_done LeavesTidyUncut (WeavesScript sessions schedule) old new done (woven_marked sessions schedule old new done) does

pub closed_law-holds : {S K : Type 0} (source : Sources S) (sink : Sinks K) → ClosedLaw source sink
closed_law-holds source sink job before after script rest output written is does closes done = closed job (seen source sink before script output) (seen source sink after rest written) is does closes done
