-- What a crash leaves of a device on which a script was run.
use Rattle.std.proofs.Common.{◌≡◌, ◌⊎◌, inl, inr, ℕ, ◌≤◌, List, refl, sym, ap, subst, ◌∙◌, arith}
use Rattle.std.proofs.lemmas.Bool.{cases_lt}
use Rattle.std.specs.Prelude.{Option, Some, None, [], ◌∷◌, ◌++◌, take}
use Rattle.pm_trait.specs.Trail.{Trail, IsCrashImage, trail_at, count_acks}
use Rattle.pm_memory.specs.Chosen.{IsChosenImage}
use Rattle.image_laws.specs.Frame.{IsSoundAs}
use Rattle.image_laws.proofs.Meaning.{meanings_chain}
use Rattle.pm_trait.specs.Device.{LeavesOnly, MayLeave, moment_of}
use Rattle.pm_trait.specs.DeviceView.{DeviceView}
use Rattle.pm_trait.proofs.ContinuesLaws.{may_leave-more}
use Rattle.tree_model.specs.Run.{Line, State}
use Rattle.tree_model.specs.Tree.{Tree}
use Rattle.image_reading.specs.Reading.{Reads}
use Rattle.image_reading.specs.Soundness.{Sound, pages_in_image}
use Rattle.image_reading.specs.Soundness.Rule.{head}
use Rattle.image_reading.proofs.Violations.{pages_law}
use Rattle.mount_scan.specs.Mounting.{IsSound}
use Rattle.remounts.specs.InTurn.{LeaveInTurn}
use Rattle.tree_model.specs.Step.{Answer}
use Rattle.script.specs.declared.run_end.RunEnd.{RunEnd}
use Rattle.script.specs.declared.run_end.RunEnd.TheVariants as run_end
use Rattle.image_laws.proofs.Trees.{tree_law}
use Rattle.script.specs.Texts.{acked_text, listing_text}
use Rattle.crash_replay.specs.Place.{place_in}
use Rattle.crash_replay.specs.declared.moment.Moment.{Moment}
use Rattle.squirrel_cli.specs.declared.status.Status.{Status}
use Rattle.squirrel_cli.specs.declared.status.Status.TheVariants as status
use Rattle.squirrel_cli.specs.Told.{IsToldUnlessShort, IsToldOrCut}
use Rattle.engine.specs.Run.{IsBetween}
use Rattle.engine.specs.Script.{RunsScript, WritesAnswers}
use Rattle.mount_scan.specs.Mounts.{HasMounted, IsOnlyMounted}
use Rattle.volume.specs.Volume.{VolumeView}
use Rattle.squirrel_cli.specs.declared.chosen.SecondCrash.{SecondCrash}
use Rattle.squirrel_cli.specs.Replays.{Anything, IsUnbegun, ListsLeft, acked_before}
use Rattle.squirrel_cli.specs.ReplaySteps.{HasLeft, LeavesSound, LeavesSoundSoFar, RunsMounted, crashes_of}

-- a sound image has as many pages as its length says
pub own_pages : {P : ℕ} (W : List ℕ) → Sound P W → pages_in_image W ≡ P
own_pages {P} W sound = pages_law P W (λ place. sound.coherent head place)

pub sound_image : {P : ℕ} (W : List ℕ) → Sound P W → IsSound W
sound_image W sound = subst (λ (pages : ℕ). Sound pages W) (sym (own_pages W sound)) sound

-- whatever a crash leaves is sound, where it was so far, and is one of a running line from there on
pub leaves_sound : {P : ℕ} {old new : Option Trail} {trail : Trail} (start : State) (states : List State) (lines : List Line)
    → LeavesSoundSoFar P old → LeavesOnly old new (IsBetween P start states lines) → new ≡ Some trail → LeavesSound trail
leaves_sound {P} {old} {new} start states lines so_far leaves told place image within crash =
    let there : MayLeave new place image = subst (λ (t : Option Trail). MayLeave t place image) (sym told) crash in
    let upto : place ≤ moment_of new = subst (λ (t : Option Trail). place ≤ moment_of t) (sym told) within in
    elim (cases_lt place (moment_of old)) [
      | inl earlier ↦
          let at_most : place ≤ moment_of old = omega (arith, earlier) in
          sound_image image (so_far place image at_most
          (may_leave-more old leaves.continues.more place image at_most (subst (λ (t : Option Trail). MayLeave t place image) leaves.continues.appended there)))
      | inr later ↦ let (state, after, reads) = leaves.each place image later upto there in sound_image image reads.sound
    ]

-- so it is in a mount of a device without events
pub mount_leaves_sound : {P : ℕ} {before mounted : DeviceView} → IsUnbegun before → IsOnlyMounted P before mounted → LeavesSoundSoFar P mounted.trail
mount_leaves_sound {before = before} unbegun only place image within may =
    let first : moment_of before.trail ≤ place = subst (λ (t : Option Trail). moment_of t ≤ place) (sym unbegun.recorded) (omega arith) in
    let (none, means) = only.mount.any_moment.each place image first within may in
    means.sound

pub mounted_leaves_sound : {volume : VolumeView} {before mounted : DeviceView} → IsUnbegun before → HasMounted volume before mounted → LeavesSoundSoFar volume.size mounted.trail
mounted_leaves_sound {mounted = mounted} unbegun mount = subst (λ (pages : ℕ). LeavesSoundSoFar pages mounted.trail) (sym mount.size) (mount_leaves_sound unbegun mount.only)

-- ---- of what a run's own sink took nothing is asked

pub any_writes : (took now : List ℕ → Type 0) (answers : List Answer) (end : RunEnd) → WritesAnswers end took answers now → WritesAnswers end Anything answers Anything
any_writes took now answers run_end.Done writes = λ bytes any. tt
any_writes took now answers run_end.Faulted writes = λ bytes any. tt
any_writes took now answers run_end.ReadFault writes = λ bytes any. tt
any_writes took now answers run_end.Limit writes = λ bytes any. tt
any_writes took now answers run_end.WriteFault writes = record {
  whole = writes.whole;
  last = writes.last;
  split = writes.split;
  count = writes.count;
  short = writes.short;
  takes = λ bytes any. tt;
}

unfoldable pub any_run : {P : ℕ} {before after : DeviceView} {end : RunEnd} {script rest : Option (List ℕ)} {took now : List ℕ → Type 0} → RunsScript P before after end script rest took now → RunsMounted P before after end script rest
any_run {end = end} {took = took} {now = now} run = record {
  start = run.start;
  reads = run.reads;
  lines = run.lines;
  answers = run.answers;
  states = run.states;
  run = run.run;
  ends = run.ends;
  cause = run.cause;
  no_fault = run.no_fault;
  executes = run.executes;
  writes = any_writes took now run.answers end run.writes;
  acks = run.acks;
  acked = run.acked;
  ack_count = run.ack_count;
  settled = run.settled;
  last = run.last;
  fences = run.fences;
  events = run.events;
  mark = run.mark;
  cut = run.cut;
  beside = run.beside;
  no_memory = run.no_memory;
  refused = run.refused;
  any_moment = run.any_moment;
  quiet = run.quiet;
  halts = run.halts;
}

-- ---- the words that a crash left

pub left_alone : {keep : List ℕ} {again : Option SecondCrash} {trail : Trail} {image : List ℕ} → again ≡ None → IsChosenImage trail keep image → IsCrashImage trail image → IsSound image → HasLeft keep again trail image
left_alone {image = image} none chosen crash whole = record {
  image = image;
  chosen = chosen;
  crash = crash;
  whole = whole;
  in_turn = subst (λ (a : Option SecondCrash). LeaveInTurn (crashes_of a) image image) (sym none) refl;
  sound = whole;
  means = meanings_chain.itself (pages_in_image image) image whole.coherent;
}

pub left_again : {keep : List ℕ} {again : Option SecondCrash} {second : SecondCrash} {trail : Trail} {image lent words : List ℕ} → again ≡ Some second → lent ≡ image
    → IsChosenImage trail keep image → IsCrashImage trail image → IsSound image → LeaveInTurn (record { moment = second.at; keep = second.keep } ∷ []) lent words → (IsSound lent → IsSoundAs (pages_in_image lent) lent words) → HasLeft keep again trail words
left_again {second = second} {image = image} {words = words} some same chosen crash whole in_turn means =
    let there : IsSoundAs (pages_in_image image) image words =
    subst (λ (I : List ℕ). IsSoundAs (pages_in_image I) I words) same (means (subst IsSound (sym same) whole)) in
    record {
      image = image;
      chosen = chosen;
      crash = crash;
      whole = whole;
      in_turn = subst (λ (a : Option SecondCrash). LeaveInTurn (crashes_of a) image words) (sym some)
          (subst (λ (I : List ℕ). LeaveInTurn (record { moment = second.at; keep = second.keep } ∷ []) I words) same in_turn);
      sound = sound_image words there.sound;
      means = there.same;
    }

-- what is listed of them is the tree of the image
pub lists_left : {moment : Moment} {keep : List ℕ} {again : Option SecondCrash} {mark place acked : ℕ} {trail : Trail} {lent words : List ℕ} {result : Status} {took now : List ℕ → Type 0} → lent ≡ words → place ≡ place_in trail.events mark moment
    → acked ≡ count_acks (take place trail.events) → HasLeft keep again (trail_at trail place) words
    → ((tree : Tree) → Reads (pages_in_image lent) lent tree → IsToldUnlessShort (acked_text acked ++ listing_text tree) result took now)
    → (result ≡ status.NoMemory) ⊎ ListsLeft moment keep mark trail result took now
lists_left {moment} {keep} {mark} {place} {acked} {trail} {lent} {words} {result} {took} {now} same placed counted left lists =
    let (tree, reads, form) = tree_law (pages_in_image left.image) left.image left.whole.coherent in
    let there : Reads (pages_in_image left.image) words tree = left.means.reads tree reads in
    let own : pages_in_image words ≡ pages_in_image left.image = pages_law (pages_in_image left.image) words (λ place. left.means.coherent head place) in
    let number : acked ≡ acked_before trail mark moment = counted ∙ ap (λ (k : ℕ). count_acks (take k trail.events)) placed in
    let here : Reads (pages_in_image lent) lent tree = subst (λ (W : List ℕ). Reads (pages_in_image W) W tree) (sym same) (subst (λ (pages : ℕ). Reads pages words tree) (sym own) there) in
    elim (lists tree here) [
      | inl memory ↦ inl memory
      | inr told ↦ inr (record {
        left = record {
          image = left.image;
          chosen = subst (λ (k : ℕ). IsChosenImage (trail_at trail k) keep left.image) placed left.chosen;
          crash = subst (λ (k : ℕ). IsCrashImage (trail_at trail k) left.image) placed left.crash;
          tree = tree;
          reads = reads;
        };
        told = subst (λ (n : ℕ). IsToldOrCut status.Done (acked_text n ++ listing_text tree) result took now) number told;
      })
    ]
