-- A mount, and the run after it.
use Rattle.std.proofs.Common.{◌≡◌, ◌⊎◌, inl, inr, ℕ, ◌+◌, ◌<◌, ◌++◌, List, length, refl, sym, ap, subst, ◌∙◌, arith}
use Rattle.std.proofs.lemmas.Bool.{cases_lt}
use Rattle.std.specs.Prelude.{Option, Some, None, Ok, Err, Bool, ◌==◌, slice_get}
use Rattle.pm_trait.specs.Trail.{Trail}
use Rattle.pm_trait.specs.Device.{HasRisen, Continues, acks_from, moment_of}
use Rattle.pm_trait.specs.DeviceView.{DeviceView, GrowsBy, IsSettledView}
use Rattle.pm_trait.specs.Unfolds.{KeepsWords}
use Rattle.layout.specs.Superblock.{IsSuperblockWord, closed_mark, has_mark, mark_word}
use Rattle.pm_trait.proofs.ContinuesLaws.{acks_from-joined}
use Rattle.pm_trait.proofs.DeviceLaws.{leaves_weaker, leaves_next}
use Rattle.pm_trait.proofs.AckLaws.{acks_none, acks_next}
use Rattle.tree_model.specs.Fences.{fences_of_run}
use Rattle.tree_model.specs.Run.{Line, State}
use Rattle.tree_model.specs.Tree.{Tree}
use Rattle.image_reading.specs.Reading.{Reads, ReadsAs}
use Rattle.image_reading.specs.Soundness.{pages_in_image}
use Rattle.image_reading.specs.Soundness.Rule.{head}
use Rattle.image_reading.specs.Tidy.{Tidy}
use Rattle.image_reading.proofs.Readings.{one_tree}
use Rattle.image_reading.proofs.Violations.{pages_law}
use Rattle.script.specs.declared.run_end.RunEnd.{RunEnd}
use Rattle.script.specs.declared.run_end.RunEnd.TheVariants as run_end
use Rattle.volume.specs.Costs.{fences_with_mark, mark_after}
use Rattle.volume.specs.Crashes.{MayReadAs, MeansState}
use Rattle.volume.specs.Stands.{IsStanding, StandsFor}
use Rattle.volume.specs.Volume.{VolumeView}
use Rattle.mount_scan.proofs.Answered.{one_state}
use Rattle.mount_scan.specs.Mounting.{IsTidy}
use Rattle.mount_scan.specs.Mounts.{HasMounted, IsOnlyMounted, Mounts}
use Rattle.engine.specs.Exec.{mark_left}
use Rattle.engine.specs.Quiet.{ActsOnly}
use Rattle.engine.specs.Run.{command_of, IsBetween, IsStateAfter}
use Rattle.engine.specs.Session.{Mounted}
use Rattle.engine.specs.Script.{IsCutShort, LeavesRun, RunsScript, ExecutesTold, events_of_marked_run}
use Rattle.engine.proofs.After.{acked_then}
use Rattle.script.specs.Texts.{acked_text, listing_text}
use Rattle.squirrel_cli.specs.Causes.{TellsFaults}
use Rattle.squirrel_cli.specs.Ends.{IsStart, end_of, GaveAll}
use Rattle.squirrel_cli.specs.GoingOn.{GoesOn, UnlessShort, LeavesGoing}
use Rattle.squirrel_cli.specs.Mounts.{ActsAfterMount, MountsAndRuns}
use Rattle.squirrel_cli.specs.Rows.{LeavesTidy, MountsAnd}
use Rattle.squirrel_cli.specs.Seen.{Seen}
use Rattle.squirrel_cli.specs.Told.{IsToldOrCut}
use Rattle.squirrel_cli.specs.declared.status.Status.{Status}
use Rattle.squirrel_cli.specs.declared.status.Status.TheVariants as status

-- the state before a command is one that a crash in it may leave
pub may_start : {P : ℕ} {start : State} {image : List ℕ} (line : Option Line) → MeansState P start image → MayReadAs P start (command_of line) image
may_start {start = start} None means = record { sound = means.sound; tree = start.tree; reads = means.reads.tree; allowed = refl }
may_start {start = start} (Some (Ok command)) means = record { sound = means.sound; tree = start.tree; reads = means.reads.tree; allowed = inl refl }
may_start {start = start} (Some (Err fault)) means = record { sound = means.sound; tree = start.tree; reads = means.reads.tree; allowed = refl }

-- before the first acknowledgement the first line runs
pub starts_between : {P : ℕ} (start : State) (states : List State) (lines : List Line) (k : ℕ) (image : List ℕ) → (k ≡ 0) × MeansState P start image → IsBetween P start states lines k image
starts_between {P} start states lines k image (none, means) =
    subst (λ (n : ℕ). IsBetween P start states lines n image) (sym none) (start, refl, may_start (slice_get lines 0) means)

-- what a call does after a mount
pub acts_after_mount : {F : ℕ → Type 0} {a b c : Option Trail} → Continues a b → acks_from a b (moment_of b) ≡ 0 → Continues b c → ActsOnly b c F → ActsAfterMount a b c F
acts_after_mount {F} {a} {b} {c} one none two acts = record {
  each = λ moment from upto no_ack. elim (cases_lt moment (moment_of b)) [
    | inl earlier ↦ inl earlier
    | inr later ↦
        let joined = acks_from-joined moment one two later in
        let since : acks_from b c moment ≡ acks_from a c moment = omega (arith, joined, none) in
        inr (subst F since (acts.each moment later upto no_ack))
  ];
}

-- the mark that the words at entry have is there when the run begins
pub mark_at_mount : (W mounted : List ℕ) → KeepsWords IsSuperblockWord W mounted → has_mark mounted ≡ has_mark W
mark_at_mount W mounted keeps = ap (λ (w : ℕ). w == closed_mark) (keeps mark_word (omega arith))

-- what a run from the mount on says with the mark of the mounted words is said with that of the words at entry
module _ {P : ℕ} {before mounted after : DeviceView} {end : RunEnd} {script rest : Option (List ℕ)} {took now : List ℕ → Type 0} (run : RunsScript P mounted after end script rest took now) (mount : Mounts P run.start before mounted) where
  abbrev pub fences : ℕ
  fences = fences_of_run run.start run.lines run.answers run.states

  pub as_entered : has_mark mounted.words ≡ has_mark before.words
  as_entered = mark_at_mount before.words mounted.words mount.beside

  pub fences_at_entry : length run.states ≡ length run.answers → after.fences ≡ mounted.fences + fences_with_mark (has_mark before.words) fences
  fences_at_entry each = subst (λ (m : Bool). after.fences ≡ mounted.fences + fences_with_mark m fences) as_entered (run.fences each)

  pub events_at_entry : length run.states ≡ length run.answers → GrowsBy (events_of_marked_run (has_mark before.words) run.start run.lines run.answers run.states) mounted after
  events_at_entry each = subst (λ (m : Bool). GrowsBy (events_of_marked_run m run.start run.lines run.answers run.states) mounted after) as_entered (run.events each)

  pub cut_at_entry : length run.states < length run.answers → IsCutShort P run.start run.lines run.states (mark_after (has_mark before.words) fences)
      (fences_with_mark (has_mark before.words) fences) (events_of_marked_run (has_mark before.words) run.start run.lines run.answers run.states) mounted after
  cut_at_entry fewer = subst (λ (m : Bool). IsCutShort P run.start run.lines run.states (mark_after m fences)
      (fences_with_mark m fences) (events_of_marked_run m run.start run.lines run.answers run.states) mounted after) as_entered (run.cut fewer)

-- The run of a whole job: what a run says from the mount on is said from the entry on.
unfoldable pub mounts_and_runs : {P : ℕ} {before mounted after : DeviceView} {end : RunEnd} {script rest : Option (List ℕ)} {took now : List ℕ → Type 0} → (run : RunsScript P mounted after end script rest took now)
    → ReadsAs P before.words run.start → Mounts P run.start before mounted → MountsAndRuns P before after end script rest took now
mounts_and_runs {P} {before} {mounted} {after} run reads mount = record {
  mounted = mounted;
  run = run;
  reads = reads;
  mount = mount;
  any_moment = leaves_next mount.no_ack (leaves_weaker (starts_between run.start run.states run.lines) mount.any_moment) run.any_moment;
  acks = acks_next mount.no_ack (acks_none (IsStateAfter P run.start run.states) mount.any_moment.continues mount.no_ack) run.acks;
  acked = λ told is.
      let all = acked_then 0 (length run.states) mount.any_moment.continues run.any_moment.continues (λ t i. mount.no_ack) run.acked told is in
      omega (arith, all);
  ack_count = let was = mount.acks in let more = run.ack_count in omega (arith, was, more);
  quiet = acts_after_mount mount.any_moment.continues mount.no_ack run.any_moment.continues run.quiet;
  halts = run.halts;
  refused = let was = mount.refused in let more = run.refused in omega (arith, was, more);
  no_memory = λ k is. elim (run.no_memory k is) [
    | inl places ↦ inl places
    | inr risen ↦ inr (subst (λ (refused : ℕ). HasRisen refused after.refused) mount.refused risen)
  ];
  fences = λ each. let was = mount.fences in let more = fences_at_entry run mount each in omega (arith, was, more);
  events = λ each. let was = mount.events in let more = events_at_entry run mount each in omega (arith, was, more);
  mark = λ each. record {
    mark = (run.mark each).mark ∙ ap (λ (m : ℕ). mark_left m (fences_of_run run.start run.lines run.answers run.states)) (mount.beside mark_word (omega arith));
    beside = λ a is other. (run.mark each).beside a is other ∙ mount.beside a is;
  };
  beside = λ a is other. run.beside a is other ∙ mount.beside a is;
  cut = λ fewer.
      let cut = cut_at_entry run mount fewer in
      record {
        line = cut.line;
        next = cut.next;
        its_fences = cut.its_fences;
        its_events = cut.its_events;
        might = cut.might;
        least = let was = mount.fences in let least = cut.least in omega (arith, was, least);
        fewer = let was = mount.fences in let few = cut.fewer in omega (arith, was, few);
        grown = let was = mount.events in let few = cut.grown in omega (arith, was, few);
      };
}

-- ---- the state that a run starts with

-- What runs on the mounted device starts with the state that the words at entry read as.
pub mounted_state : {P : ℕ} {before mounted : DeviceView} (start : State) → IsOnlyMounted P before mounted → ReadsAs P mounted.words start → ReadsAs P before.words start × Mounts P start before mounted
mounted_state {P} {before} {mounted} start only reads =
    subst (λ (state : State). ReadsAs P before.words state × Mounts P state before mounted)
    (one_state only.start start only.mount.reads reads) (only.reads, only.mount)

pub runs_mounted : {size P : ℕ} {before mounted after : DeviceView} {end : RunEnd} {script rest : Option (List ℕ)} {took now : List ℕ → Type 0} → size ≡ P → IsOnlyMounted P before mounted
    → RunsScript size mounted after end script rest took now → MountsAndRuns P before after end script rest took now
runs_mounted {mounted = mounted} {after = after} {end} {script} {rest} {took} {now} pages only run =
    let here = subst (λ (p : ℕ). RunsScript p mounted after end script rest took now) pages run in
    let (reads, mount) = mounted_state here.start only here.reads in
    mounts_and_runs here reads mount

-- ---- the counts, the limit

-- a fence that failed after the mount failed from the entry on
pub risen_from_entry : {A : Type 0} {before mounted after : ℕ} → mounted ≡ before → HasRisen mounted after ⊎ A → HasRisen before after ⊎ A
risen_from_entry {after = after} same (inl risen) = inl (subst (λ (faults : ℕ). HasRisen faults after) same risen)
risen_from_entry same (inr holds) = inr holds

-- what is tidy at some number of pages is so at its own
pub tidy_pages : {A : Type 0} {P : ℕ} (W : List ℕ) → A ⊎ Tidy P W → A ⊎ IsTidy W
tidy_pages W (inl other) = inl other
tidy_pages {P = P} W (inr tidy) = inr (subst (λ (pages : ℕ). Tidy pages W) (sym (pages_law P W (λ place. tidy.sound.coherent head place))) tidy)

pub limit_gives : (before after : Option (List ℕ)) (lines : List Line) → ExecutesTold run_end.Limit before after lines → GaveAll before after
limit_gives None after lines executes = tt
limit_gives (Some before) None lines executes = executes
limit_gives (Some before) (Some after) lines (bytes, split, long, called) = (bytes, split, long)

-- a run that ends at the limit was given all of its bytes
pub gave_at_limit : (is : Status) (end : RunEnd) (script rest : Option (List ℕ)) → end_of is ≡ Some end → ((lines : List Line) × ExecutesTold end script rest lines) → is ≡ status.ScriptLimit → GaveAll script rest
gave_at_limit is end script rest ended (lines, told) same =
    let limit : end ≡ run_end.Limit = let e = sym ended ∙ ap end_of same in cc e in
    limit_gives script rest lines (subst (λ (e : RunEnd). ExecutesTold e script rest lines) limit told)

-- ---- a job on a mounted volume

-- a task may begin on what the mount leaves
pub goes_on : {before mounted : DeviceView} {volume : VolumeView} → HasMounted volume before mounted → IsStart before → GoesOn volume mounted
goes_on mount start =
    let made = mount.only.mount.fences in
    let most = mount.only.mount.few in
    let same = mount.only.mount.acks in
    let fences = start.fences in
    let acks = start.acks in
    record { going = mount.going; stands = (mount.only.start, mount.stands); fences = omega (arith, fences, made, most); acks = omega (arith, acks, same) }

module _ {S K : Type 0} (old new : Seen S K) {mounted : DeviceView} {volume : VolumeView} (mount : HasMounted volume old.device mounted) where
  -- what is tidy at the volume's number of pages is so at its own
  tidy_entry : LeavesGoing volume.size mounted new.device → LeavesTidy old new
  tidy_entry leaves = risen_from_entry mount.only.mount.faults (tidy_pages new.device.words leaves.tidy)

  pub settled_entry : LeavesGoing volume.size mounted new.device → HasRisen old.device.faults new.device.faults ⊎ IsSettledView new.device
  settled_entry leaves = risen_from_entry mount.only.mount.faults leaves.settled

  -- a cause after the mount is one from the entry on
  pub cause_entry : {is : Status} → TellsFaults (record old { device = mounted }) new is → TellsFaults old new is
  cause_entry cause = record {
    device = λ same. subst (λ (faults : ℕ). HasRisen faults new.device.faults) mount.only.mount.faults (cause.device same);
    done = λ same. cause.done same ∙ mount.only.mount.faults;
    no_memory = λ same. cause.no_memory same ∙ mount.only.mount.faults;
    read = cause.read;
    no_read_fault = cause.no_read_fault;
    write = cause.write;
    no_write_fault = cause.no_write_fault;
  }

  -- what a task does from the mount on, or that memory was short for it, is what the job does
  pub mounted_row : (F G : Seen S K → Seen S K → Status → Type 0) (is : Status) → LeavesGoing volume.size mounted new.device → UnlessShort F (record old { device = mounted }) new is
      → (F (record old { device = mounted }) new is → G old new is) → MountsAnd G old new is
  mounted_row F G is leaves (inl (memory, untouched)) more = inl (record {
    is = memory;
    silent = record { script = untouched.script; output = untouched.output };
    device = inr (mount.sound, subst (IsOnlyMounted (pages_in_image old.device.words) old.device) (sym untouched.device) mount.only);
    unsound = λ not. absurd (not mount.sound);
  })
  mounted_row F G is leaves (inr did) more = inr (inr (mount.sound, tidy_entry leaves, inr (more did)))

-- ---- a session's volume

pub stands_on : {session volume : VolumeView} {device : DeviceView} → session ≡ volume → IsStanding volume device → IsStanding session device
stands_on {device = device} same stands = subst (λ (v : VolumeView). IsStanding v device) (sym same) stands

pub stands_for : {session volume : VolumeView} {device : DeviceView} {state : State} → session ≡ volume → StandsFor volume device state → StandsFor session device state
stands_for {device = device} {state = state} same stands = subst (λ (v : VolumeView). StandsFor v device state) (sym same) stands

-- ---- a session's run

pub goes_on_in : {session volume : VolumeView} {device : DeviceView} → session ≡ volume → GoesOn volume device → GoesOn session device
goes_on_in {device = device} same goes_on = subst (λ (v : VolumeView). GoesOn v device) (sym same) goes_on

-- a run leaves the device settled and tidy, where no fence failed
pub leaves_going : {end : RunEnd} {old new : Mounted} {volume : VolumeView} → old.volume ≡ volume → LeavesRun end old new → LeavesGoing volume.size old.device new.device
leaves_going {old = old} {new = new} {volume = volume} same leaves = record {
  settled = elim leaves.going [
    | inl risen ↦ inl risen
    | inr going ↦ let (state, stands) = leaves.stands going in inr stands.settled
  ];
  tidy = elim leaves.going [
    | inl risen ↦ inl risen
    | inr going ↦
        let (state, stands) = leaves.stands going in
        let size : new.volume.size ≡ volume.size = leaves.size ∙ ap (λ (v : VolumeView). v.size) same in
        inr (subst (λ (pages : ℕ). Tidy pages new.device.words) size stands.tidy)
  ];
  acks = leaves.acks;
}

-- ---- of the words that are mounted

-- what is told of the tree that the volume stands for is told of the one that the words read as
pub tree_of_start : {volume : VolumeView} {before mounted : DeviceView} (acked : ℕ) {is : Status} {took now : List ℕ → Type 0} {tree : Tree} → (mount : HasMounted volume before mounted) → Reads (pages_in_image before.words) before.words tree
    → IsToldOrCut status.Done (acked_text acked ++ listing_text mount.only.start.tree) is took now → IsToldOrCut status.Done (acked_text acked ++ listing_text tree) is took now
tree_of_start {before = before} acked {is = is} {took = took} {now = now} {tree = tree} mount reads told =
    let same = one_tree (pages_in_image before.words) before.words mount.only.start.tree tree mount.only.reads.tree reads in
    subst (λ (t : Tree). IsToldOrCut status.Done (acked_text acked ++ listing_text t) is took now) same told
