-- A volume that keeps the events of a call stands as it stood; and where a call stands behind a step that changes no meaning.
use Rattle.std.proofs.Common.{◌≡◌, inl, ℕ, ◌+◌, ◌-◌, ◌<◌, ◌≤◌, Bool, true, false, nat_lt, List, [], ◌∷◌, Contains, sym, ap, subst, arith, refl}
use Rattle.std.specs.Prelude.{None}
use Rattle.std.proofs.lemmas.Bool.{ltb-false}
use Rattle.pm_trait.specs.DeviceView.{DeviceView}
use Rattle.pm_trait.specs.Unfolds.{Step}
use Rattle.layout.specs.Geometry.{page_of_slot}
use Rattle.tree_model.specs.Run.{State}
use Rattle.tree_model.specs.declared.command.Command.{Command}
use Rattle.image_reading.specs.Reading.{ReadsAs}
use Rattle.image_reading.specs.Residue.{Residue, no_residue, IsTidyBeside}
use Rattle.image_reading.specs.Soundness.{IsCoherent}
use Rattle.weave_laws.specs.Beside.{AreAmong}
use Rattle.weave_laws.specs.Joined.{joined}
use Rattle.weave_laws.proofs.Disjoint.{wider_law}
use Rattle.volatile_index.specs.Index.{node_of, pages_of}
use Rattle.volume.specs.Costs.{mark_events, where_true, kept_events, events_of}
use Rattle.volume.specs.Volume.{VolumeView}
use Rattle.volume.specs.Beside.{KnowsBeside, StandsBeside}
use Rattle.volume.specs.Stages.{keeping}
use Rattle.volume.specs.declared.plan.Action.{Action}
use Rattle.volume.proofs.Moments.{with_kept}
use Rattle.waiting_laws.specs.Beside.{Holding, IsReady, StandsWith, MakesStep, Leaves, KeepsMeaning}
use Rattle.waiting_laws.proofs.Standing.{IsReached, behind, quiet, no_mark}
use Rattle.waiting_laws.proofs.NamingQuiet.{IsQuietStep}

pub knows_kept : {volume : VolumeView} {I : List ℕ} {residue : Residue} (k : ℕ) → KnowsBeside volume I residue → KnowsBeside (with_kept k volume) I residue
knows_kept k knows = record {
  whole = knows.whole;
  nodes = knows.nodes;
  each_inode = knows.each_inode;
  inodes = knows.inodes;
  each_page = knows.each_page;
  data_pages = knows.data_pages;
}

-- what a plan with an event reserves is enough for it, for all that run, and for closing
room_for : (events kept spare : ℕ) (marked : Bool) → marked ≡ false → 0 < events → where_true (nat_lt 0 events) (events + (kept_events marked + kept)) ≤ spare → mark_events + (kept + events) ≤ spare
room_for events kept spare marked none some =
    elim (nat_lt 0 events) as (λ t. nat_lt 0 events ≡ t → where_true t (events + (kept_events marked + kept)) ≤ spare → mark_events + (kept + events) ≤ spare) [
      | true ↦ λ is room. omega (arith, subst (λ (b : Bool). events + (kept_events b + kept) ≤ spare) none room)
      | false ↦ λ is room. (let less = ltb-false 0 events is in omega (arith, less, some))
    ] refl

module _ {volume : VolumeView} {device : DeviceView} {state : State} {command : Command} {action : Action} {others : Residue} (ready : IsReady volume device state command action others) (some : 0 < events_of action) where
  stands_kept : StandsBeside (keeping volume action) device state others
  stands_kept = record {
    settled = ready.prepared.stands.settled;
    sound = ready.prepared.stands.sound;
    beside = ready.prepared.stands.beside;
    reads = ready.prepared.stands.reads;
    knows = knows_kept (volume.kept + events_of action) ready.prepared.stands.knows;
    mark = ready.prepared.stands.mark;
    room = room_for (events_of action) volume.kept device.spare volume.marked ready.unmarked some ready.reserved.room;
  }

  -- the call has left nothing yet
  pub begins_with : StandsWith (keeping volume action) device state no_residue others
  begins_with = record { stands = stands_kept; going = ready.going; unmarked = ready.unmarked; no_pointer = ready.no_pointer }

-- ---- behind a step

-- what a call holds that has written a name: its slot and the page that this is in, the inode that it is to name, and its directory
abbrev pub name_held : ℕ → ℕ → ℕ → Holding
name_held d s i = record { slots = s ∷ []; pages = page_of_slot s ∷ []; inodes = i ∷ d ∷ [] }

-- a crash in a step that changes no meaning leaves what is sound and means the same
pub crash_quiet : {volume : VolumeView} {device : DeviceView} {state : State} {residue : Residue} {J slots pages inodes : List ℕ} → StandsBeside volume device state residue → volume.marked ≡ false
    → IsQuietStep volume.size device.words J slots pages inodes → KeepsMeaning volume.size device.words J
crash_quiet {volume} {device} {state} {residue} {J} {slots} {pages} {inodes} stands unmarked step =
    quiet volume.size device.words J slots pages inodes step.stores (no_mark volume device state residue stands unmarked) step.crash

-- what the words after it say, by another name of the volume's size
pub reached_by : (new : VolumeView) (P : ℕ) (words : List ℕ) (later : State) (next others : Residue) → new.size ≡ P → IsCoherent P words → IsTidyBeside P words (joined next others) → ReadsAs P words later
    → KnowsBeside new words (joined next others) → (joined next others).pointer ≡ None → IsReached new words later next others
reached_by new P words later next others size coherent beside reads knows none = record {
  coherent = subst (λ p. IsCoherent p words) (sym size) coherent;
  beside = subst (λ p. IsTidyBeside p words (joined next others)) (sym size) beside;
  reads = subst (λ p. ReadsAs p words later) (sym size) reads;
  knows = knows;
  no_pointer = none;
}

-- A step that changes no meaning leaves the call waiting: it stands beside the others, and stored to words of what it holds alone. Of the
-- volume it changed but numbers, and the events that are kept.
pub waits_on : (volume new : VolumeView) (kept : ℕ) (before after : DeviceView) (state : State) (own left others : Residue) (slots pages inodes : List ℕ) (held : Holding) (step : Step) (Enters : VolumeView → VolumeView → Type 0)
    (numbers pages_free : List Bool) → StandsWith (with_kept kept volume) before state own others → MakesStep step Enters (with_kept kept volume) new before after → step.stores ≡ true
    → new ≡ record volume { kept = kept - step.events; inodes = numbers; data_pages = pages_free } → IsQuietStep volume.size before.words after.words slots pages inodes
    → AreAmong slots pages inodes held.slots held.pages held.inodes → IsTidyBeside volume.size after.words (joined left others) → KnowsBeside new after.words (joined left others) → (joined left others).pointer ≡ None
    → Leaves volume new before after state left others held
waits_on volume new kept before after state own left others slots pages inodes held step Enters numbers pages_free with makes stores is quietly among tidy knows none = record {
  beside = behind (with_kept kept volume) new before after state state own left others step Enters slots pages inodes with makes stores
      (record { size = size; stopped = ap (λ (v : VolumeView). v.stopped) is; marked = ap (λ (v : VolumeView). v.marked) is; kept = ap (λ (v : VolumeView). v.kept) is }) quietly.stores
      (reached_by new volume.size after.words state left others size quietly.entries.same.coherent tidy
      (record { tree = quietly.entries.same.reads state.tree with.stands.reads.tree; room = quietly.entries.same.room state.room with.stands.reads.room }) knows none);
  stores = wider_law volume.size before.words after.words slots pages inodes held.slots held.pages held.inodes among quietly.stores;
  affects = record {
    size = size;
    others = λ x out. ap (λ (v : VolumeView). node_of v.index x) is;
    lists = λ x j there. inl (subst (λ (v : VolumeView). Contains (pages_of v.index x) j) is there);
  };
}
  where
    size : new.size ≡ volume.size
    size = ap (λ (v : VolumeView). v.size) is
