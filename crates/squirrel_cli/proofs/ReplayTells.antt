-- What a replay tells of the lines of its script.
use Rattle.std.proofs.Common.{◌≡◌, ◌≢◌, ◌⊎◌, inl, inr, ℕ, zero, suc, ◌+◌, ◌≤◌, ◌<◌, List, [], ◌∷◌, length, refl, sym, ap, subst, ◌∙◌, arith}
use Rattle.std.proofs.lemmas.Bool.{cases_lt}
use Rattle.std.proofs.lemmas.List.{take_all}
use Rattle.std.proofs.lemmas.Option.{slice_get_within, slice_get_past}
use Rattle.std.specs.Prelude.{Option, Some, None, take, drop, slice_get}
use Rattle.pm_trait.specs.declared.event.Event.{Event}
use Rattle.pm_trait.specs.declared.event.Event.TheVariants.{Store, Flush, Fence, BadFence, Ack}
use Rattle.pm_trait.specs.Trail.{Trail, trail_at, count_acks, IsCrashImage}
use Rattle.pm_trait.specs.Device.{MayLeave, IsAckAt, IsSettledAt, acks_from, at_moment, moment_of}
use Rattle.pm_trait.specs.DeviceView.{DeviceView}
use Rattle.pm_trait.proofs.ContinuesLaws.{moment_of-continues, may_leave-more, acks_from-earlier}
use Rattle.pm_trait.proofs.DeviceLaws.{settled_leaves}
use Rattle.tree_model.specs.Step.{Answer}
use Rattle.tree_model.specs.Run.{Line, State}
use Rattle.tree_model.specs.Tree.{Tree}
use Rattle.tree_model.specs.Allowed.{Allowed}
use Rattle.image_reading.specs.Reading.{Reads}
use Rattle.image_reading.proofs.Readings.{one_tree}
use Rattle.engine.specs.Quiet.{MayStore, fences_at}
use Rattle.engine.specs.Run.{IsBetween, command_of, last_state, state_after}
use Rattle.crash_replay.specs.Place.{place_in}
use Rattle.crash_replay.specs.Replay.{PlacesTell, acked_at, acked_in_all}
use Rattle.crash_replay.specs.declared.moment.Moment.{Moment}
use Rattle.crash_replay.specs.declared.moment.Moment.TheVariants.{At, Before}
use Rattle.crash_replay.proofs.Replays.{replay_law-holds as places_law}
use Rattle.squirrel_cli.specs.ReplayLaw.{IsTreeAfter, MayBeLeftAfter, ReplayEndLaw, ReplayLaw}
use Rattle.squirrel_cli.specs.Replays.{IsUnbegun, Replayed, acked_before}
use Rattle.squirrel_cli.proofs.Leaving.{own_pages}

-- ---- states, and fences of lines that are not there

last_is_there : (start : State) (states : List State) → state_after start states (length states) ≡ Some (last_state start states)
last_is_there start [] = refl
last_is_there start (state ∷ states) = last_is_there state states

no_fences_past : (start : State) (lines : List Line) (answers : List Answer) (states : List State) (k : ℕ) → length states ≤ k → fences_at start lines answers states k ≡ 0
no_fences_past start [] answers states k past = refl
no_fences_past start (line ∷ lines) [] states k past = refl
no_fences_past start (line ∷ lines) (answer ∷ answers) [] k past = refl
no_fences_past start (line ∷ lines) (answer ∷ answers) (state ∷ states) zero past = absurd (omega (arith, past))
no_fences_past start (line ∷ lines) (answer ∷ answers) (state ∷ states) (suc k) past = no_fences_past state lines answers states k (omega (arith, past))

nothing_stores : (start : State) (lines : List Line) (answers : List Answer) (states : List State) (k : ℕ) → length states ≡ length answers → k ≡ length states → ¬ MayStore start lines answers states k
nothing_stores start lines answers states k same is (inl fault) =
    let past : length answers ≤ k = omega (arith, same, is) in
    let none = slice_get_past answers k past in
    cc (none, fault)
nothing_stores start lines answers states k same is (inr some) =
    let none = no_fences_past start lines answers states k (omega (arith, is)) in
    omega (arith, none, some)

-- ---- acknowledgements in a list of events

acks_at_most : (k : ℕ) (events : List Event) → count_acks (take k events) ≤ count_acks events
acks_at_most zero events = omega arith
acks_at_most (suc k) [] = omega arith
acks_at_most (suc k) (Store word value ∷ later) = acks_at_most k later
acks_at_most (suc k) (Flush line ∷ later) = acks_at_most k later
acks_at_most (suc k) (Fence ∷ later) = acks_at_most k later
acks_at_most (suc k) (BadFence ∷ later) = acks_at_most k later
acks_at_most (suc k) (Ack ∷ later) = let fewer = acks_at_most k later in omega (arith, fewer)

one_ack : (k : ℕ) (events : List Event) → slice_get events k ≡ Some Ack → count_acks (take (suc k) events) ≡ count_acks (take k events) + 1
one_ack k [] is = absurd (cc is)
one_ack zero (Store word value ∷ later) is = absurd (cc is)
one_ack zero (Flush line ∷ later) is = absurd (cc is)
one_ack zero (Fence ∷ later) is = absurd (cc is)
one_ack zero (BadFence ∷ later) is = absurd (cc is)
one_ack zero (Ack ∷ later) is = refl
one_ack (suc k) (Store word value ∷ later) is = one_ack k later is
one_ack (suc k) (Flush line ∷ later) is = one_ack k later is
one_ack (suc k) (Fence ∷ later) is = one_ack k later is
one_ack (suc k) (BadFence ∷ later) is = one_ack k later is
one_ack (suc k) (Ack ∷ later) is = let more = one_ack k later is in omega (arith, more)

one_more_ack : (k : ℕ) (events : List Event) → slice_get events k ≡ Some Ack → count_acks (take (k + 1) events) ≡ count_acks (take k events) + 1
one_more_ack k events is =
    let next : k + 1 ≡ suc k = omega arith in
    ap (λ (n : ℕ). count_acks (take n events)) next ∙ one_ack k events is

ack_or_not : (found : Option Event) → (found ≡ Some Ack) ⊎ (found ≢ Some Ack)
ack_or_not None = inr (λ e. cc e)
ack_or_not (Some (Store word value)) = inr (λ e. cc e)
ack_or_not (Some (Flush line)) = inr (λ e. cc e)
ack_or_not (Some Fence) = inr (λ e. cc e)
ack_or_not (Some BadFence) = inr (λ e. cc e)
ack_or_not (Some Ack) = inl refl

dropped_none : (place mark : ℕ) (events : List Event) → place ≤ mark → count_acks (drop mark (take place events)) ≡ 0
dropped_none zero zero events within = refl
dropped_none zero (suc mark) events within = refl
dropped_none (suc place) zero events within = absurd (omega (arith, within))
dropped_none (suc place) (suc mark) [] within = refl
dropped_none (suc place) (suc mark) (event ∷ later) within = dropped_none place mark later (omega (arith, within))

-- counted from an empty trail
from_nothing : {before after : Option Trail} {base : List ℕ} {trail : Trail} (k : ℕ) → before ≡ Some (record { base = base; events = [] }) → after ≡ Some trail → acks_from before after k ≡ count_acks (take k trail.events)
from_nothing {before} {after} {base} {trail} k none told =
    ap (λ (t : Option Trail). acks_from t after k) none ∙ ap (λ (t : Option Trail). acks_from (Some (record { base = base; events = [] })) t k) told

-- counted from a trail of so many events
from_mark : (mounted : Option Trail) {after : Option Trail} {trail : Trail} → after ≡ Some trail → acks_from mounted after (moment_of after) ≡ count_acks (drop (moment_of mounted) trail.events)
from_mark mounted {after} {trail} told =
    ap (λ (t : Option Trail). acks_from mounted t (moment_of t)) told
    ∙ ap (λ (events : List Event). count_acks (drop (moment_of mounted) events)) (take_all (length trail.events) trail.events (omega arith))

-- ---- a replay

module _ {moment : Moment} {keep : List ℕ} {P : ℕ} {before after : DeviceView} {script rest : Option (List ℕ)} (unbegun : IsUnbegun before) (replay : Replayed moment keep P before after script rest) where
  mark_within : moment_of replay.ran.mounted.trail ≤ length replay.trail.events
  mark_within = subst (λ (t : Option Trail). moment_of replay.ran.mounted.trail ≤ moment_of t) replay.recorded (moment_of-continues replay.ran.run.any_moment.continues)

  none_in_mount : count_acks (take (moment_of replay.ran.mounted.trail) replay.trail.events) ≡ 0
  none_in_mount =
      sym (from_nothing (moment_of replay.ran.mounted.trail) unbegun.recorded replay.recorded)
      ∙ acks_from-earlier before.trail (moment_of replay.ran.mounted.trail) replay.ran.run.any_moment.continues (omega arith)
      ∙ replay.ran.mount.no_ack

  tells : PlacesTell replay.trail.events (moment_of replay.ran.mounted.trail)
  tells = places_law replay.trail.events (moment_of replay.ran.mounted.trail) mark_within none_in_mount

  abbrev place : ℕ
  place = place_in replay.trail.events (moment_of replay.ran.mounted.trail) moment

  abbrev acked : ℕ
  acked = acked_before replay.trail (moment_of replay.ran.mounted.trail) moment

  place_within : place ≤ length replay.trail.events
  place_within = tells.within moment

  all_acked : acked_in_all replay.trail.events (moment_of replay.ran.mounted.trail) ≡ length replay.ran.run.states
  all_acked = sym (from_mark replay.ran.mounted.trail replay.recorded) ∙ replay.ran.run.acked replay.trail replay.recorded

  from_entry : (k : ℕ) → acks_from before.trail after.trail k ≡ count_acks (take k replay.trail.events)
  from_entry k = from_nothing k unbegun.recorded replay.recorded

  first : (k : ℕ) → moment_of before.trail ≤ k
  first k = subst (λ (t : Option Trail). moment_of t ≤ k) (sym unbegun.recorded) (omega arith)

  upto : {k : ℕ} → k ≤ length replay.trail.events → k ≤ moment_of after.trail
  upto {k} within = subst (λ (t : Option Trail). k ≤ moment_of t) (sym replay.recorded) within

  there : MayLeave after.trail place replay.image
  there = subst (λ (t : Option Trail). MayLeave t place replay.image) (sym replay.recorded) replay.crash

  between : IsBetween P replay.ran.run.start replay.ran.run.states replay.ran.run.lines acked replay.image
  between = subst (λ (n : ℕ). IsBetween P replay.ran.run.start replay.ran.run.states replay.ran.run.lines n replay.image) (from_entry place)
      (replay.ran.any_moment.each place replay.image (first place) (upto place_within) there)

  same_tree : (other : Tree) → Reads P replay.image other → replay.tree ≡ other
  same_tree other reads =
      let (state, is, may) = between in
      let own : Reads P replay.image replay.tree = subst (λ (pages : ℕ). Reads pages replay.image replay.tree) (own_pages replay.image may.sound) replay.reads in
      one_tree P replay.image replay.tree other own reads

  allowed : MayBeLeftAfter P replay.ran.run.start replay.ran.run.states replay.ran.run.lines acked replay.tree
  allowed =
      let (state, is, may) = between in
      (state, is, subst (λ (tree : Tree). Allowed P state.tree state.room (command_of (slice_get replay.ran.run.lines acked)) tree) (sym (same_tree may.tree may.reads)) may.allowed)

  -- in the mount
  in_mount : place ≤ moment_of replay.ran.mounted.trail → replay.tree ≡ replay.ran.run.start.tree
  in_mount within =
      let run = replay.ran.run.any_moment.continues in
      let may = may_leave-more replay.ran.mounted.trail run.more place replay.image within (subst (λ (t : Option Trail). MayLeave t place replay.image) run.appended there) in
      let (none, means) = replay.ran.mount.any_moment.each place replay.image (first place) within may in
      same_tree replay.ran.run.start.tree means.reads.tree

  before_all : place ≤ moment_of replay.ran.mounted.trail → acked_at replay.trail.events (moment_of replay.ran.mounted.trail) place ≡ 0 → (acked ≡ 0) × (replay.tree ≡ replay.ran.run.start.tree)
  before_all within none = (tells.counted place ∙ none, in_mount within)

  -- at the end
  after_last : place ≡ length replay.trail.events → IsTreeAfter replay.ran.run.start replay.ran.run.states (length replay.ran.run.states) replay.tree
  after_last is =
      let ends : place ≡ moment_of after.trail = is ∙ ap moment_of (sym replay.recorded) in
      let words = settled_leaves after.words after.trail place replay.image (replay.ran.run.settled replay.unfailed) ends there in
      let at_last = replay.ran.run.last replay.unfailed in (
        last_state replay.ran.run.start replay.ran.run.states,
        last_is_there replay.ran.run.start replay.ran.run.states,
        same_tree (last_state replay.ran.run.start replay.ran.run.states).tree
            (subst (λ (image : List ℕ). Reads P image (last_state replay.ran.run.start replay.ran.run.states).tree) (sym words) at_last.reads.tree),
      )

  -- behind every acknowledgement nothing comes
  behind_all : acked ≡ length replay.ran.run.states → IsTreeAfter replay.ran.run.start replay.ran.run.states (length replay.ran.run.states) replay.tree
  behind_all all = elim (cases_lt place (length replay.trail.events)) [
    | inr past ↦ after_last (let within = place_within in omega (arith, past, within))
    | inl inside ↦ elim (cases_lt place (moment_of replay.ran.mounted.trail)) [
      | inl mounting ↦
          let within : place ≤ moment_of replay.ran.mounted.trail = omega (arith, mounting) in
          let none : acked ≡ 0 = tells.counted place ∙ dropped_none place (moment_of replay.ran.mounted.trail) replay.trail.events within in
          let zero_lines : 0 ≡ length replay.ran.run.states = sym none ∙ all in
          subst (λ (n : ℕ). IsTreeAfter replay.ran.run.start replay.ran.run.states n replay.tree) zero_lines (replay.ran.run.start, refl, in_mount within)
      | inr running ↦ elim (ack_or_not (slice_get replay.trail.events place)) [
        | inl ack ↦
            let more = one_more_ack place replay.trail.events ack in
            let most = acks_at_most (place + 1) replay.trail.events in
            let whole = tells.counted (length replay.trail.events) in
            let every : take (length replay.trail.events) replay.trail.events ≡ replay.trail.events = take_all (length replay.trail.events) replay.trail.events (omega arith) in
            let total : count_acks replay.trail.events ≡ length replay.ran.run.states =
            ap count_acks (sym every) ∙ whole ∙ ap (λ (events : List Event). count_acks (drop (moment_of replay.ran.mounted.trail) events)) every ∙ all_acked in
            absurd (omega (arith, more, most, total, all))
        | inr other ↦
            let no_ack : ¬ IsAckAt after.trail place = λ is. other (subst (λ (t : Option Trail). IsAckAt t place) replay.recorded is) in
            let short : place < moment_of after.trail = subst (λ (t : Option Trail). place < moment_of t) (sym replay.recorded) inside in
            elim (replay.ran.quiet.each place (first place) short no_ack) [
              | inl mounting ↦ absurd (omega (arith, mounting, running))
              | inr stores ↦ absurd (nothing_stores replay.ran.run.start replay.ran.run.lines replay.ran.run.answers replay.ran.run.states (acks_from before.trail after.trail place) replay.unfailed (from_entry place ∙ all) stores)
            ]
      ]
    ]
  ]

  -- right before an acknowledgement
  before_ack : (call : ℕ) → acked + 1 ≡ call → slice_get replay.trail.events place ≡ Some Ack → IsTreeAfter replay.ran.run.start replay.ran.run.states call replay.tree
  before_ack call is ack =
      let inside = slice_get_within replay.trail.events place Ack ack in
      let short : place < moment_of after.trail = subst (λ (t : Option Trail). place < moment_of t) (sym replay.recorded) inside in
      let at_ack : IsAckAt after.trail place = subst (λ (t : Option Trail). IsAckAt t place) (sym replay.recorded) ack in
      let settled = replay.ran.acks.each place (first place) short at_ack in
      let number : acks_from before.trail after.trail (place + 1) ≡ call = from_entry (place + 1) ∙ one_more_ack place replay.trail.events ack ∙ is in
      let words : replay.image ≡ settled.image = settled_at settled.settled in
      let holds = settled.holds in (
        holds.state,
        subst (λ (n : ℕ). state_after replay.ran.run.start replay.ran.run.states n ≡ Some holds.state) number holds.after,
        same_tree holds.state.tree (subst (λ (image : List ℕ). Reads P image holds.state.tree) (sym words) holds.there.reads.tree),
      )
    where
      settled_at : {image : List ℕ} → IsSettledAt image (at_moment after.trail place) → replay.image ≡ image
      settled_at {image} settled =
          let here : IsSettledAt image (Some (trail_at replay.trail place)) = subst (λ (t : Option Trail). IsSettledAt image (at_moment t place)) replay.recorded settled in
          let every : take (length (take place replay.trail.events)) (take place replay.trail.events) ≡ take place replay.trail.events =
          take_all (length (take place replay.trail.events)) (take place replay.trail.events) (omega arith) in
          let may : MayLeave (Some (trail_at replay.trail place)) (length (take place replay.trail.events)) replay.image =
          subst (λ (events : List Event). IsCrashImage (record { base = replay.trail.base; events = events }) replay.image) (sym every) replay.crash in
          settled_leaves image (Some (trail_at replay.trail place)) (length (take place replay.trail.events)) replay.image here refl may

  in_call : (call fence : ℕ) → moment ≡ Before call fence → 1 ≤ call → call ≤ length replay.ran.run.states → acked + 1 ≡ call
  in_call call fence is one most =
      let here = tells.call call fence one (let all = all_acked in omega (arith, most, all)) in
      let placed : place ≡ place_in replay.trail.events (moment_of replay.ran.mounted.trail) (Before call fence) = ap (place_in replay.trail.events (moment_of replay.ran.mounted.trail)) is in
      let counted = tells.counted place in
      let same = ap (acked_at replay.trail.events (moment_of replay.ran.mounted.trail)) placed in
      let number = here.acked in
      omega (arith, counted, same, number)

  all_before : (asked : Moment) → place ≡ place_in replay.trail.events (moment_of replay.ran.mounted.trail) asked
      → acked_at replay.trail.events (moment_of replay.ran.mounted.trail) (place_in replay.trail.events (moment_of replay.ran.mounted.trail) asked) ≡ acked_in_all replay.trail.events (moment_of replay.ran.mounted.trail)
      → acked ≡ length replay.ran.run.states
  all_before asked placed all = tells.counted place ∙ ap (acked_at replay.trail.events (moment_of replay.ran.mounted.trail)) placed ∙ all ∙ all_acked

pub replay_law-holds : ReplayLaw
replay_law-holds moment keep P before after script rest unbegun replay = record {
  allowed = allowed unbegun replay;
  at_entry = λ is.
      let here = (tells unbegun replay).at_mark 0 (omega arith) in
      let placed : place unbegun replay ≡ place_in replay.trail.events (moment_of replay.ran.mounted.trail) (At 0) = ap (place_in replay.trail.events (moment_of replay.ran.mounted.trail)) is in
      before_all unbegun replay (let within = here.within in omega (arith, within, placed))
      (ap (acked_at replay.trail.events (moment_of replay.ran.mounted.trail)) placed ∙ here.acked);
  at_end = λ k is past.
      let (ends, here) = (tells unbegun replay).at_end k past in
      let placed : place unbegun replay ≡ place_in replay.trail.events (moment_of replay.ran.mounted.trail) (At k) = ap (place_in replay.trail.events (moment_of replay.ran.mounted.trail)) is in
      (all_before unbegun replay (At k) placed here.acked, after_last unbegun replay (placed ∙ ends));
  mount = λ fence is.
      let here = (tells unbegun replay).mount fence in
      let placed : place unbegun replay ≡ place_in replay.trail.events (moment_of replay.ran.mounted.trail) (Before 0 fence) = ap (place_in replay.trail.events (moment_of replay.ran.mounted.trail)) is in
      before_all unbegun replay (let within = here.within in omega (arith, within, placed))
      (ap (acked_at replay.trail.events (moment_of replay.ran.mounted.trail)) placed ∙ here.acked);
  call = λ call fence is one most. in_call unbegun replay call fence is one most;
  whole = λ call fence is one most asked.
      let here = (tells unbegun replay).call call fence one (let all = all_acked unbegun replay in omega (arith, most, all)) in
      let placed : place unbegun replay ≡ place_in replay.trail.events (moment_of replay.ran.mounted.trail) (Before call fence) = ap (place_in replay.trail.events (moment_of replay.ran.mounted.trail)) is in
      before_ack unbegun replay call (in_call unbegun replay call fence is one most)
      (ap (slice_get replay.trail.events) placed ∙ here.before_ack asked);
  no_call = λ call fence is past.
      let here = (tells unbegun replay).open_call call fence (let all = all_acked unbegun replay in omega (arith, past, all)) in
      let placed : place unbegun replay ≡ place_in replay.trail.events (moment_of replay.ran.mounted.trail) (Before call fence) = ap (place_in replay.trail.events (moment_of replay.ran.mounted.trail)) is in
      let all = all_before unbegun replay (Before call fence) placed here.acked in
      (all, behind_all unbegun replay all);
}

pub replay_end_law-holds : ReplayEndLaw
replay_end_law-holds k keep P before after script rest unbegun replay late =
    let start : moment_of before.trail ≡ 0 = ap moment_of unbegun.recorded in
    let end : moment_of after.trail ≡ length replay.trail.events = ap moment_of replay.recorded in
    let most = replay.ran.events replay.unfailed in
    (replay_law-holds (At k) keep P before after script rest unbegun replay).at_end k refl (omega (arith, start, end, most, late))
