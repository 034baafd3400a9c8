-- A command that changes, and that names nothing of the running calls': these wait beside one another, since a rename that ran alone would name all, and none of
-- them is in its way.
use Rattle.std.proofs.Common.{◌≡◌, inl, inr, ℕ, ◌≤◌, true, false, [], ◌∷◌, None, sym, subst, ◌∙◌, arith}
use Rattle.std.proofs.lemmas.Bool.{true≢false}
use Rattle.pm_trait.specs.DeviceView.{DeviceView}
use Rattle.tree_model.specs.Capacity.{Supply}
use Rattle.tree_model.specs.PathText.{Route}
use Rattle.tree_model.specs.Run.{State, IsVolumeState, is_changing}
use Rattle.tree_model.specs.Step.{refusal_with}
use Rattle.tree_model.specs.Tree.{Tree, Room, IsTree, parent}
use Rattle.tree_model.specs.declared.command.Command.{Command}
use Rattle.tree_model.specs.declared.command.Command.TheVariants.{Create, Mkdir, Link, Unlink, Rmdir, Rename, Write, Truncate, Read, Stat as Tell, List as Show, Df}
use Rattle.naming_laws.specs.Naming.{names_inode}
use Rattle.naming_laws.proofs.Named.{IsFound, at_first, found_at, present_named}
use Rattle.image_counts.proofs.States.{state_law}
use Rattle.image_counts.specs.Laws.{supply_beside}
use Rattle.volume.specs.Named.{AreNamedBy}
use Rattle.volume.specs.Volume.{VolumeView}
use Rattle.volume.specs.declared.named.NamedNodes.{NamedNodes}
use Rattle.volume.specs.declared.named.NamedNodes.TheVariants.{All, These}
use Rattle.volume.specs.declared.plan.Action.{Action}
use Rattle.running_calls.specs.Stages.{MayBegin}
use Rattle.running_laws.specs.Waits.{bytes_of_command}
use Rattle.running_laws.proofs.BeginReady.{begins_law}
use Rattle.running_laws.proofs.WaitStands.{holds_law}
use Rattle.session_laws.specs.Calls.{Call, Calls, left_of_all, ranges_of_all, IsNamed}
use Rattle.session_laws.specs.Going.{AreFree, IsReadyAmong}
use Rattle.session_laws.specs.Moving.{MoveWaits}
use Rattle.session_laws.proofs.BeginBeside.{free_of}
use Rattle.session_laws.proofs.HistoryAlike.{answers_alike_law}
use Rattle.session_laws.proofs.ReadyAsked.{ready_law}
use Rattle.sessions.specs.Interleave.{InterleaveView, AllWait, idle, beside, alone}
use Rattle.sessions.specs.Planned.{IsPlannedAmong}
use Rattle.sessions.specs.Steps.{IsFreeOfOthers}
use Rattle.sessions.proofs.CommandTasks.{same_named}
use Rattle.sessions.proofs.WeavesOn.{weaves_on_law}
use Rattle.sessions.proofs.WeavesOne.{WaitBeside, weaves_beside}

-- ---- what it names

abbrev NamesOne : Tree → Command → Type 0
NamesOne T command = (i : ℕ) × (names_inode T command i ≡ true)

names_found : (T : Tree) (command : Command) (path : Route) → IsFound T command path → NamesOne T command
names_found T command path (inl (i, there, named)) = (i, named)
names_found T command path (inr (holder, absent, held, named)) = (holder, named)

names_one : (T : Tree) → IsTree T → (supply : Supply) (room : Room) (command : Command) → is_changing command ≡ true → refusal_with supply T room command ≡ None
    → NamesOne T command
names_one T t supply room (Create path) changing accepted =
    names_found T (Create path) path
    (found_at T t supply room (Create path) accepted path (at_first path (parent path ∷ [])))
names_one T t supply room (Mkdir path) changing accepted = names_found T (Mkdir path) path (found_at T t supply room (Mkdir path) accepted path (at_first path (parent path ∷ [])))
names_one T t supply room (Link from to) changing accepted =
    names_found T (Link from to) from (found_at T t supply room (Link from to) accepted from (at_first from (to ∷ parent to ∷ [])))
names_one T t supply room (Unlink path) changing accepted =
    names_found T (Unlink path) path
    (found_at T t supply room (Unlink path) accepted path (at_first path (parent path ∷ [])))
names_one T t supply room (Rmdir path) changing accepted = names_found T (Rmdir path) path (found_at T t supply room (Rmdir path) accepted path (at_first path (parent path ∷ [])))
names_one T t supply room (Rename from to) changing accepted =
    names_found T (Rename from to) from (found_at T t supply room (Rename from to) accepted from (at_first from (parent from ∷ to ∷ parent to ∷ [])))
names_one T t supply room (Write path offset bytes) changing accepted =
    names_found T (Write path offset bytes) path (found_at T t supply room (Write path offset bytes) accepted path (at_first path []))
names_one T t supply room (Truncate path size) changing accepted =
    names_found T (Truncate path size) path
    (found_at T t supply room (Truncate path size) accepted path (at_first path []))
names_one T t supply room (Read path offset count) changing accepted = absurd (true≢false (sym changing))
names_one T t supply room (Tell path) changing accepted = absurd (true≢false (sym changing))
names_one T t supply room (Show path) changing accepted = absurd (true≢false (sym changing))
names_one T t supply room Df changing accepted = absurd (true≢false (sym changing))

-- one that names all is not free beside a call
free_none : (volume : VolumeView) (device : DeviceView) (words : State) (calls : Calls) (s : ℕ) (call : Call) (T : Tree) (command : Command) (named : NamedNodes) (i : ℕ)
    → MoveWaits volume device words calls s call → AreNamedBy T command named → AreFree named calls → names_inode T command i ≡ true → 1 ≤ i → ⊥
free_none volume device words calls s call T command All i waits names free is least = let none = free s in let runs = waits.runs in cc
free_none volume device words calls s call T command (These inodes) i waits names free is least =
    free s call waits.runs i ((names.1 i).1 is) (subst (λ (nodes : NamedNodes). IsNamed nodes i) (sym waits.named) least)

-- ---- none is in its way

module _ (old : InterleaveView) (before : DeviceView) (calls : Calls) (history : State) (session : ℕ) (command : Command) (named : NamedNodes) (action : Action)
    (planned : IsPlannedAmong old before calls history session command named action) where
  pub planned_names : AreNamedBy history.tree command named
  planned_names =
      (answers_alike_law (supply_beside old.volume.size (left_of_all old.volume calls)) (ranges_of_all calls) history planned.weaving.words command
      planned.weaving.history_is).named named planned.named_is

  pub planned_free : IsFreeOfOthers calls history command
  planned_free other names s call runs i both =
      let alike = answers_alike_law (supply_beside old.volume.size (left_of_all old.volume calls)) (ranges_of_all calls) history planned.weaving.words command
      planned.weaving.history_is in
      free_of named calls planned.free s call runs i
      (same_named history.tree command other named names (alike.named named planned.named_is) i both.named) both.named_too

-- ---- they wait beside one another, and it is ready

module _ (old : InterleaveView) (before : DeviceView) (calls : Calls) (history : State) (session : ℕ) (command : Command) (named : NamedNodes) (action : Action)
    (planned : IsPlannedAmong old before calls history session command named action) (changing : is_changing command ≡ true) where
  abbrev words : State
  words = planned.weaving.words

  unmarked : old.volume.marked ≡ false
  unmarked = elim planned.change [ inl reads ↦ absurd (true≢false (sym changing ∙ reads)) | inr none ↦ none ]

  valid : IsVolumeState old.volume.size words
  valid = let stands = (weaves_on_law old before calls history planned.weaving).stands in state_law old.volume.size before.words words stands.sound.coherent stands.reads

  not_alone : (s : ℕ) (call : Call) → MoveWaits old.volume before words calls s call → ⊥
  not_alone s call waits =
      let (i, named_one) = names_one words.tree valid.tree (supply_beside old.volume.size (left_of_all old.volume calls)) words.room command changing planned.planned.accepted in
      let least = (valid.fits.ids i (present_named words.tree valid.tree command i named_one)).0 in
      free_none old.volume before words calls s call words.tree command named i waits planned.named_is planned.free named_one least

  beside_by : AllWait old.volume before words calls → WaitBeside old.volume before words calls
  beside_by (idle none going kept stands) = weaves_beside old.volume before words calls none going kept stands unmarked
  beside_by (beside wait kept) = record { calls_wait = wait; kept = kept }
  beside_by (alone s call waits begun) = absurd (not_alone s call waits)

  pub planned_beside : WaitBeside old.volume before words calls
  planned_beside = beside_by planned.weaving.waits

  pub planned_ready : IsReadyAmong old.volume before words command action calls
  planned_ready =
      let few = (weaves_on_law old before calls history planned.weaving).few in
      ready_law holds_law old.volume before words calls command action planned_beside.calls_wait planned.may planned.planned planned.reserved (omega (arith, few))

  pub planned_may : MayBegin old.volume before (bytes_of_command command) action
  planned_may = begins_law old.volume before words command action (left_of_all old.volume calls) planned_ready.ready changing
