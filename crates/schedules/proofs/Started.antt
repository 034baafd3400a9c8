-- The first turn comes on the volume as mounted, or behind the mark was taken away.
use Rattle.std.proofs.Common.{◌≡◌, ◌⊎◌, inl, inr, ℕ, ◌≤◌, Bool, true, false, List, length, replicate, refl, sym, ap, subst, ◌∙◌, arith}
use Rattle.std.specs.Prelude.{Option, None, Ok, Result}
use Rattle.std.proofs.lemmas.Bool.{and_left, and_right}
use Rattle.std.proofs.lemmas.List.{length-map}
use Rattle.pm_trait.specs.DeviceView.{DeviceView, Reserves}
use Rattle.pm_trait.specs.Device.{IsSettledAt}
use Rattle.pm_trait.specs.Trail.{Trail}
use Rattle.pm_trait.proofs.Unfolding.{done}
use Rattle.io_edge.proofs.BytesLaws.{takes_none}
use Rattle.image_reading.specs.Reading.{ReadsAs}
use Rattle.image_reading.specs.Tidy.{Tidy}
use Rattle.layout.specs.Superblock.{has_mark, open_mark}
use Rattle.mark_ops.specs.Marking.{SetsMark}
use Rattle.script.specs.Lines.{lines_of}
use Rattle.script.specs.SessionLines.{session_call, session_calls}
use Rattle.tree_model.specs.Run.{State, Line}
use Rattle.volume.specs.Prepared.{IsSameButRoom}
use Rattle.volume.specs.Stands.{StandsFor, IsStanding, Knows}
use Rattle.volume.specs.Volume.{VolumeView}
use Rattle.session_lines.specs.Turns.{LeftView, has_change}
use Rattle.sessions.specs.Interleave.{InterleaveView, started}
use Rattle.sessions.specs.Laws.{StartsLaw}
use Rattle.sessions.specs.declared.interleave.TheConstants.{MOST_CALLS}
use Rattle.schedules.specs.Borders.{AreOfSessions, border_of}
use Rattle.schedules.specs.Laws.{IsFirst}
use Rattle.schedules.specs.Schedules.{IsShortOfMemory, RunsSchedule, TakesTurns, Unmarks, needs_unmark, start_of}
use Rattle.schedules.specs.Taken.{MayStart, lines_left}
use Rattle.schedules.specs.declared.weave_end.WeaveEnd.{WeaveEnd}
use Rattle.schedules.proofs.FirstBorder.{calls_below, is_first}

-- ---- room alone was taken

pub room_none : (device : DeviceView) → IsSameButRoom device device
room_none device = record { words = refl; trail = refl; room = omega arith; faults = refl; refused = omega arith; fences = refl; acks = refl }

pub room_reserved : {T E : Type 0} (old new : DeviceView) (events : ℕ) (result : Result T E) → Reserves old new events result → IsSameButRoom old new
room_reserved old new events result reserves = record {
  words = reserves.words;
  trail = reserves.trail;
  room = reserves.room;
  faults = reserves.faults;
  refused = reserves.refused;
  fences = reserves.fences;
  acks = reserves.acks;
}

pub stands_still : (volume : VolumeView) (before after : DeviceView) (state : State) → IsSameButRoom before after → StandsFor volume before state → StandsFor volume after state
stands_still volume before after state same stands =
    let less = same.room in
    let room = stands.room in
    record {
      settled =
          subst (λ (trail : Option Trail). IsSettledAt after.words trail) (sym same.trail) (subst (λ (words : List ℕ). IsSettledAt words before.trail) (sym same.words) stands.settled);
      tidy = subst (Tidy volume.size) (sym same.words) stands.tidy;
      reads = subst (λ (words : List ℕ). ReadsAs volume.size words state) (sym same.words) stands.reads;
      knows = subst (Knows volume) (sym same.words) stands.knows;
      mark = stands.mark ∙ ap has_mark (sym same.words);
      room = omega (arith, less, room);
      no_call = stands.no_call;
    }

-- ---- the first border

pub first_started : StartsLaw → (weave : InterleaveView) (device : DeviceView) (left : LeftView) (state : State) → MayStart weave device left → StandsFor weave.volume device state
    → (has_change left.lines ≡ true → weave.volume.marked ≡ false) → IsFirst (border_of weave device (replicate left.sessions None) state left)
first_started starts weave device left state may stands unmarked =
    subst (λ (w : InterleaveView). IsFirst (border_of w device (replicate left.sessions None) state left)) (sym may.is_started)
    (is_first starts weave.volume device state left stands may.going may.some may.few unmarked may.short)

-- the lines are those of a script
pub lines_are : (left : LeftView) (script : List ℕ) (number sessions : ℕ) → left.sessions ≡ number → left.lines ≡ session_calls number script → number ≡ sessions
    → left ≡ lines_left sessions script
lines_are left script number sessions sessions_is lines_is same =
    ap (λ (n : ℕ). record { sessions = n; lines = left.lines }) sessions_is ∙ ap (λ (lines : List (ℕ × Line)). record { sessions = number; lines = lines }) lines_is
    ∙ ap (λ (n : ℕ). lines_left n script) same

pub may_start : (weave : InterleaveView) (device : DeviceView) (left : LeftView) (script : List ℕ) → left ≡ lines_left (length weave.tasks) script
    → weave ≡ started weave.volume (length weave.tasks) → 1 ≤ length weave.tasks → length weave.tasks ≤ 16 → weave.volume.stopped ≡ false → IsStanding weave.volume device
    → length (lines_of script) ≤ MOST_CALLS → MayStart weave device left
may_start weave device left script lines begun some few going stands short =
    let sessions = ap (λ (l : LeftView). l.sessions) lines in
    let long = ap (λ (l : LeftView). length l.lines) lines ∙ length-map (lines_of script) (session_call (length weave.tasks)) in
    record {
      is_started = begun ∙ ap (started weave.volume) (sym sessions);
      some = omega (arith, some, sessions);
      few = omega (arith, few, sessions);
      going = going;
      stands = stands;
      of = subst (λ (l : LeftView). AreOfSessions l.sessions l.lines) (sym lines) (calls_below (length weave.tasks) script some);
      short = omega (arith, long, short);
    }

-- it is that of the script
pub start_same : (weave : InterleaveView) (device : DeviceView) (left : LeftView) (state : State) (script : List ℕ) → left ≡ lines_left (length weave.tasks) script
    → border_of weave device (replicate left.sessions None) state left ≡ start_of weave device state script
start_same weave device left state script is = ap (λ (l : LeftView). border_of weave device (replicate l.sessions None) state l) is

-- no line changes the volume, or it has no mark
abbrev pub NeedsNone : InterleaveView → LeftView → Type 0
NeedsNone weave left = (weave.volume.marked ≡ false) ⊎ (has_change left.lines ≡ false)

pub needs_none : (weave : InterleaveView) (left : LeftView) (script : List ℕ) → left ≡ lines_left (length weave.tasks) script → NeedsNone weave left → needs_unmark weave script ≡ false
needs_none weave left script lines (inl unmarked) = and_left weave.volume.marked _ unmarked
needs_none weave left script lines (inr none) = and_right weave.volume.marked _ (ap (λ (l : LeftView). has_change l.lines) (sym lines) ∙ none)

pub unmarked_for : (weave : InterleaveView) (left : LeftView) → NeedsNone weave left → has_change left.lines ≡ true → weave.volume.marked ≡ false
unmarked_for weave left (inl unmarked) change = unmarked
unmarked_for weave left (inr none) change = absurd (cc (none, change))

-- ---- without the mark

abbrev pub without_mark : InterleaveView → InterleaveView
without_mark weave = record weave { volume = record weave.volume { marked = false } }

pub start_unmarked : (old new : InterleaveView) (before after : DeviceView) (left : LeftView) → MayStart old before left → new ≡ without_mark old → IsStanding new.volume after
    → MayStart new after left
start_unmarked old new before after left may is stands =
    let begun : new ≡ started (record old.volume { marked = false }) left.sessions =
    is ∙ ap (λ (w : InterleaveView). record w { volume = record old.volume { marked = false } }) may.is_started in
    record {
      is_started = begun ∙ ap (λ (volume : VolumeView). started volume left.sessions) (sym (ap (λ (w : InterleaveView). w.volume) begun));
      some = may.some;
      few = may.few;
      going = ap (λ (w : InterleaveView). w.volume.stopped) is ∙ may.going;
      stands = stands;
      of = may.of;
      short = may.short;
    }

pub first_unmarked : StartsLaw → (old new : InterleaveView) (before after : DeviceView) (left : LeftView) (state : State) → MayStart old before left → new ≡ without_mark old
    → StandsFor new.volume after state → IsFirst (border_of new after (replicate left.sessions None) state left)
first_unmarked starts old new before after left state may is stands =
    first_started starts new after left state (start_unmarked old new before after left may is (state, stands)) stands (λ change. ap (λ (w : InterleaveView). w.volume.marked) is)

pub same_unmarked : (old new : InterleaveView) (after : DeviceView) (left : LeftView) (state : State) (script : List ℕ) → new ≡ without_mark old → left ≡ lines_left (length old.tasks) script
    → border_of new after (replicate left.sessions None) state left ≡ start_of new after state script
same_unmarked old new after left state script is lines =
    start_same new after left state script (lines ∙ ap (λ (w : InterleaveView). lines_left (length w.tasks) script) (sym is))

-- ---- what the device gave, of results of any kind

module _ {T E : Type 0} {P : ℕ} {state : State} {between after : DeviceView} where
  sets_done : {value : T} → SetsMark {T = T} {E = E} P open_mark state between after (Ok value) → SetsMark {T = Unit {0}} {E = Unit {0}} P open_mark state between after (Ok tt)
  sets_done sets = record { takes = done tt sets.takes; any_moment = sets.any_moment; there = sets.there }

-- ---- the whole run

module _ {state : State} {script schedule : List ℕ} {old new : InterleaveView} {before after : DeviceView} {took now : List ℕ → Type 0} where
  -- the mark stays
  pub runs_marked : {end : WeaveEnd} → needs_unmark old script ≡ false → TakesTurns schedule (start_of old before state script) end new after took now
      → RunsSchedule state script schedule end old new before after took now
  runs_marked unneeded takes = inr (record {
    first = old;
    began = before;
    unmarks = subst (λ (needed : Bool). Unmarks needed state old old before before) (sym unneeded) (refl, refl);
    takes = takes;
  })

  module _ {T E : Type 0} {between : DeviceView} (needed : needs_unmark old script ≡ true) (room : IsSameButRoom before between) where
    -- or is taken away
    pub runs_unmarked : {value : T} {first : InterleaveView} {began : DeviceView} {end : WeaveEnd} → first ≡ without_mark old
        → SetsMark {T = T} {E = E} old.volume.size open_mark state between began (Ok value) → TakesTurns schedule (start_of first began state script) end new after took now
        → RunsSchedule state script schedule end old new before after took now
    runs_unmarked {first = first} {began = began} is sets takes = inr (record {
      first = first;
      began = began;
      unmarks = subst (λ (needs : Bool). Unmarks needs state old first before began) (sym needed) (is, between, room, sets_done sets);
      takes = takes;
    })

pub short_of_memory : (weave : InterleaveView) (before after : DeviceView) (took : List ℕ → Type 0) → IsSameButRoom before after → IsShortOfMemory weave weave before after took took
short_of_memory weave before after took room = record { weave = refl; device = room; unwritten = takes_none took }
