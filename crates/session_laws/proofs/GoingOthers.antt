-- A call among others makes its next step: what that leaves of the others, which the call names nothing of.
use Rattle.std.proofs.Common.{◌≡◌, inl, inr, ℕ, ◌+◌, ◌≤◌, Bool, true, false, List, Some, refl, sym, subst, ◌∙◌, arith}
use Rattle.std.proofs.lemmas.Bool.{eqb-true, lt-leb}
use Rattle.pm_trait.specs.DeviceView.{DeviceView}
use Rattle.tree_model.specs.Tree.{node_at}
use Rattle.tree_model.specs.Run.{State}
use Rattle.naming_laws.specs.Naming.{names_inode, AreApart as NamesApart}
use Rattle.naming_laws.specs.Still.{Enters, FindsSame}
use Rattle.naming_laws.proofs.Apart.{apart_law}
use Rattle.image_reading.specs.Counts.{IsIn}
use Rattle.image_reading.specs.Residue.{Residue}
use Rattle.image_counts.specs.Laws.{supply_beside}
use Rattle.weave_laws.specs.Beside.{AreApart}
use Rattle.weave_laws.specs.Joined.{joined}
use Rattle.volume.specs.Volume.{VolumeView}
use Rattle.volume.specs.Beside.{StandsBeside, IsUntouched}
use Rattle.volume.specs.declared.next.Next.{Next}
use Rattle.volume.specs.declared.next.Next.TheVariants.{More, Ended}
use Rattle.volume.proofs.Beside.{untouched_nothing}
use Rattle.running_calls.specs.declared.running.Running.{Running}
use Rattle.running_calls.specs.Stages.{IsNext}
use Rattle.waiting_laws.specs.Beside.{Holding, Holds, NamesNothing, StandsWith, KeepsNodes}
use Rattle.waiting_laws.proofs.ApartHeld.{holds_apart_law}
use Rattle.running_laws.specs.Waits.{left_by, left_next, held_by, WaitsNext, HoldsLaw, NextHoldsLaw}
use Rattle.running_laws.specs.Steps.{Means, WentOnBeside, commits, has_committed, given_inode}
use Rattle.session_laws.specs.Calls.{Call, Calls, call_at, without, left_of_all, fences_of_call, IsNamed, AreApartCalls, IsToCome, HasBehind, CallWaits}
use Rattle.session_laws.specs.Order.{IsTakenOut}
use Rattle.session_laws.specs.Others.{PassesCall, StepsBeside}
use Rattle.session_laws.proofs.Lists.{left_behind, left_moved}
use Rattle.session_laws.proofs.OrderAlone.{stands_same}
use Rattle.session_laws.proofs.GoingEnters.{not_there, not_true, keeps_themselves, finds_itself, is_state, named_there, is_named, given_unused, given_apart, enters, keeps_unnamed}

-- what commits now has not committed yet
pub not_committed : (volume : VolumeView) (call : Call) → HasBehind volume call → commits call.running ≡ true → has_committed call.running ≡ false
not_committed volume call behind is =
    let now = eqb-true (fences_of_call volume call) (call.behind + 1) (sym behind.commit ∙ is) in
    behind.committed ∙ lt-leb (fences_of_call volume call) call.behind (omega (arith, now))

-- the step doesn't commit and leaves the state
quiet_state : (words later : State) (call : Call) → commits call.running ≡ false → Means (commits call.running) words later call.command (given_inode call.running) → later ≡ words
quiet_state words later call quiet means = subst (λ (b : Bool). Means b words later call.command (given_inode call.running)) quiet means

module _ (holds_law : HoldsLaw) (next_holds : NextHoldsLaw) (old new : VolumeView) (before after : DeviceView) (words : State) (calls : Calls) (s : ℕ) (call : Call)
    (next : Next Running) (taken : IsTakenOut old before words calls s call) (is : IsNext call.running next)
    (went : WentOnBeside old new before after words call.command call.running next (left_of_all old (without calls s))) where
  abbrev others : Calls
  others = without calls s

  abbrev rest : Residue
  rest = left_of_all old others

  abbrev own : Residue
  own = left_by old call.running

  abbrev held : Holding
  held = held_by old call.running

  abbrev later : State
  later = went.later

  with : StandsWith old before words own rest
  with = taken.others.beside

  pub call_holds : Holds old before.words own held
  call_holds = holds_law old before words call.command call.running rest taken.call_waits.waits

  pub same_state : commits call.running ≡ false → later ≡ words
  same_state quiet = quiet_state words later call quiet went.means

  -- the command is carried out where the step commits
  asked : commits call.running ≡ true → IsToCome old.size words call own rest
  asked commit = taken.call_waits.to_come (not_committed old call taken.call_waits.behind commit)

  entered : commits call.running ≡ true → Enters (supply_beside old.size rest) (given_inode call.running) words later call.command
  entered commit =
      enters (supply_beside old.size rest) words later call.command call.running commit went.means (asked commit).accepted
      (given_unused old before words rest call.running with)

  -- ---- one of the others

  module _ (r : ℕ) (other : Call) (there : call_at others r ≡ Some other) where
    abbrev rest_of : Residue
    rest_of = left_of_all old (without others r)

    abbrev inodes : List ℕ
    inodes = (held_by old other.running).inodes

    other_waits : CallWaits old before words other (joined own rest_of)
    other_waits = taken.others.each r other there

    other_holds : Holds old before.words (left_by old other.running) (held_by old other.running)
    other_holds = holds_law old before words other.command other.running (joined own rest_of) other_waits.waits

    from_other : AreApartCalls old call other
    from_other = taken.apart r other there

    stands : StandsBeside old before words (joined own (joined (left_by old other.running) rest_of))
    stands = (stands_same old before words own rest own (joined (left_by old other.running) rest_of)
        (left_behind own rest (joined (left_by old other.running) rest_of) (left_moved old others r other there)) with).stands

    apart : AreApart held.slots held.pages held.inodes (held_by old other.running).slots (held_by old other.running).pages inodes
    apart = holds_apart_law old before words own (left_by old other.running) rest_of held (held_by old other.running) stands call_holds other_holds from_other.held

    -- what the other names the command doesn't
    unnamed : commits call.running ≡ true → (i : ℕ) → IsNamed other.named i → names_inode words.tree call.command i ≡ false
    unnamed commit i here = not_true (names_inode words.tree call.command i)
        (λ named. from_other.named i (is_named old before words own rest with call.command call.named (asked commit).named i named) here)

    unnamed_held : commits call.running ≡ true → (i : ℕ) → IsIn i inodes → names_inode words.tree call.command i ≡ false
    unnamed_held commit i among = elim (other_waits.holds i among) [
      | inl named ↦ unnamed commit i named
      | inr none ↦ not_true (names_inode words.tree call.command i)
          (λ named. not_there (node_at words.tree i) none (named_there old before words own rest with call.command i named))
    ]

    keeps_by : (commit : Bool) → commits call.running ≡ commit → KeepsNodes inodes words later
    keeps_by true commit = keeps_unnamed old.size (given_inode call.running) (supply_beside old.size rest) words later call.command (is_state old before words own rest with)
        (entered commit) inodes (unnamed_held commit)
        (given_apart old call.running inodes from_other.held (λ i among. (other_holds.in_volume.of_inodes i among).from_one))
    keeps_by false quiet = keeps_themselves inodes words later (same_state quiet)

    passes : PassesCall old words later held other
    passes = record { apart = apart; keeps = keeps_by (commits call.running) refl }

    -- what it asks about it finds the same
    names_apart : commits call.running ≡ true → IsToCome old.size words other (left_by old other.running) (joined own rest_of) → NamesApart words.tree other.command call.command
    names_apart commit to_come i named = unnamed commit i (is_named old before words own rest with other.command other.named to_come.named i named)

    finds_by : (commit : Bool) → commits call.running ≡ commit → has_committed other.running ≡ false → FindsSame other.command words later
    finds_by true commit not_yet =
        let to_come = other_waits.to_come not_yet in
        apart_law old.size (supply_beside old.size (joined own rest_of)) (supply_beside old.size rest) (given_inode call.running) words later other.command call.command
        (is_state old before words own rest with) to_come.accepted (entered commit) (names_apart commit to_come)
    finds_by false quiet not_yet = finds_itself other.command words later (same_state quiet)

  -- ---- what it has left

  untouched_by : (now : Next Running) → IsNext call.running now → WaitsNext new after later call.command now rest → (i : ℕ) → ¬ IsIn i held.inodes → 1 ≤ i
      → IsUntouched new after.words (left_next new now) i
  untouched_by (More running) goes waits i none least =
      (holds_law new after later call.command running rest waits).untouched i (λ among. none (subst (IsIn i) (next_holds old new call.running running goes) among)) least
  untouched_by (Ended reply) goes waits i none least = untouched_nothing new after.words i

  bare_by : (now : Next Running) → WaitsNext new after later call.command now rest → NamesNothing new.size after.words (left_next new now)
  bare_by (More running) waits = (holds_law new after later call.command running rest waits).bare
  bare_by (Ended reply) waits = λ t left slot. absurd left

  pub steps_beside : StepsBeside old new before after words later (left_next new next) held others
  steps_beside = record {
    leaves = went.leaves;
    in_volume = call_holds.in_volume;
    passes = passes;
    untouched = untouched_by next is went.waits;
    bare = bare_by next went.waits;
    finds = λ r other there. finds_by r other there (commits call.running) refl;
  }
