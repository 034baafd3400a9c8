-- A command that reads among running calls: it leaves the history, and is told there what it is told of the words.
use Rattle.std.proofs.Common.{◌≡◌, inl, inr, ℕ, false, List, [], Option, None, Some, Ok, refl, sym, ap, subst, ◌∙◌, arith}
use Rattle.std.proofs.lemmas.Bool.{true≢false, cases_eq}
use Rattle.pm_trait.specs.DeviceView.{DeviceView}
use Rattle.tree_model.specs.Capacity.{Supply}
use Rattle.tree_model.specs.Run.{State, Line, IsVolumeState, is_changing}
use Rattle.tree_model.specs.Step.{Answer, Bytes, answer_of, gaining, losing, tree_after}
use Rattle.tree_model.specs.Tree.{Tree, Room, IsRoom, is_directory}
use Rattle.tree_model.specs.declared.command.Command.{Command}
use Rattle.tree_model.specs.declared.command.Command.TheVariants.{Create, Mkdir, Link, Unlink, Rmdir, Rename, Write, Truncate, Read, Stat as Tell, List as Show, Df}
use Rattle.tree_model.proofs.RoomLaws.{room_after-same}
use Rattle.naming_laws.specs.Naming.{inode_need}
use Rattle.image_reading.specs.Residue.{no_residue}
use Rattle.image_counts.proofs.States.{state_law}
use Rattle.image_counts.specs.Laws.{supply_beside}
use Rattle.volume.specs.Volume.{VolumeView}
use Rattle.volume.specs.declared.named.NamedNodes.{NamedNodes}
use Rattle.volume.specs.declared.plan.Action.{Action}
use Rattle.rename_ptr.specs.declared.rename.Stage.TheVariants.{Moving as MovesName}
use Rattle.running_calls.specs.declared.running.Running.{Running}
use Rattle.running_calls.specs.declared.running.Running.TheVariants.{Moves}
use Rattle.running_laws.specs.Steps.{IsAfter}
use Rattle.session_laws.specs.Calls.{Call, Calls, call_at, left_of_all, range_of_call, ranges_of_all, CallsWait}
use Rattle.session_laws.specs.Histories.{EntersHistory}
use Rattle.session_laws.specs.Moving.{MoveWaits}
use Rattle.session_laws.proofs.HistoryAlike.{free_enters, reads_alike_law}
use Rattle.session_laws.proofs.HistoryBegins.{zero_unused}
use Rattle.sessions.specs.Interleave.{InterleaveView, AllWait, idle, beside, alone}
use Rattle.sessions.specs.Planned.{IsPlannedAmong}
use Rattle.sessions.specs.Steps.{HasReadBytes}
use Rattle.sessions.specs.declared.entry.WeaveReply.{WeaveReply}
use Rattle.sessions.proofs.CarryLists.{ranges_none, ranges_idle, same_history}
use Rattle.sessions.proofs.WeavesOn.{weaves_on_law}

-- ---- it leaves a state

reads_tree : (id : ℕ) (T : Tree) (command : Command) → is_changing command ≡ false → tree_after id T command ≡ T
reads_tree id T (Create path) reads = absurd (true≢false reads)
reads_tree id T (Mkdir path) reads = absurd (true≢false reads)
reads_tree id T (Link from to) reads = absurd (true≢false reads)
reads_tree id T (Unlink path) reads = absurd (true≢false reads)
reads_tree id T (Rmdir path) reads = absurd (true≢false reads)
reads_tree id T (Rename from to) reads = absurd (true≢false reads)
reads_tree id T (Write path offset bytes) reads = absurd (true≢false reads)
reads_tree id T (Truncate path size) reads = absurd (true≢false reads)
reads_tree id T (Read path offset count) reads = refl
reads_tree id T (Tell path) reads = refl
reads_tree id T (Show path) reads = refl
reads_tree id T Df reads = refl

reads_still : (id : ℕ) (state : State) (command : Command) → IsRoom state.tree state.room → tree_after id state.tree command ≡ state.tree → gaining state.tree command ≡ None
    → losing state.tree command ≡ None → IsAfter state state command id
reads_still id state command fits same gains loses = record {
  tree = sym same;
  room = (
    false,
    sym (room_after-same id state.tree state.room command false fits gains loses (λ x. ap (λ (T : Tree). is_directory T x) same)),
    subst (λ (T : Tree). IsRoom T state.room) (sym same) fits,
  );
}

reads_after : (id : ℕ) (state : State) (command : Command) → IsRoom state.tree state.room → is_changing command ≡ false → IsAfter state state command id
reads_after id state (Create path) fits reads = absurd (true≢false reads)
reads_after id state (Mkdir path) fits reads = absurd (true≢false reads)
reads_after id state (Link from to) fits reads = absurd (true≢false reads)
reads_after id state (Unlink path) fits reads = absurd (true≢false reads)
reads_after id state (Rmdir path) fits reads = absurd (true≢false reads)
reads_after id state (Rename from to) fits reads = absurd (true≢false reads)
reads_after id state (Write path offset bytes) fits reads = absurd (true≢false reads)
reads_after id state (Truncate path size) fits reads = absurd (true≢false reads)
reads_after id state (Read path offset count) fits reads = reads_still id state (Read path offset count) fits refl refl refl
reads_after id state (Tell path) fits reads = reads_still id state (Tell path) fits refl refl refl
reads_after id state (Show path) fits reads = reads_still id state (Show path) fits refl refl refl
reads_after id state Df fits reads = reads_still id state Df fits refl refl refl

pub reads_make_none : (command : Command) → is_changing command ≡ false → inode_need command ≡ 1 → ⊥
reads_make_none (Create path) reads one = true≢false reads
reads_make_none (Mkdir path) reads one = true≢false reads
reads_make_none (Link from to) reads one = true≢false reads
reads_make_none (Unlink path) reads one = true≢false reads
reads_make_none (Rmdir path) reads one = true≢false reads
reads_make_none (Rename from to) reads one = true≢false reads
reads_make_none (Write path offset bytes) reads one = true≢false reads
reads_make_none (Truncate path size) reads one = true≢false reads
reads_make_none (Read path offset count) reads one = omega (arith, one)
reads_make_none (Tell path) reads one = omega (arith, one)
reads_make_none (Show path) reads one = omega (arith, one)
reads_make_none Df reads one = omega (arith, one)

-- ---- where a rename runs alone no range is written

move_range : (call : Call) → (running : Running) → call.running ≡ running → range_of_call (record call { running = running }) ≡ [] → range_of_call call ≡ []
move_range call running is none = ap (λ (r : Running). range_of_call (record call { running = r })) is ∙ none

alone_ranges : (volume : VolumeView) (device : DeviceView) (words : State) (calls : Calls) (s : ℕ) (call : Call) → MoveWaits volume device words calls s call
    → ranges_of_all calls ≡ []
alone_ranges volume device words calls s call waits = ranges_none calls (λ r other runs. elim (cases_eq s r) [
  | inl same ↦
      let is : call ≡ other = same_call call other (sym waits.runs ∙ ap (call_at calls) same ∙ runs) in
      ap range_of_call (sym is) ∙ move_range call (Moves (MovesName waits.moving waits.progress)) waits.running_is refl
  | inr differ ↦ absurd (let none = waits.alone r differ in cc)
])
  where
    same_call : (one two : Call) → ◌≡◌ {A = Option Call} (Some one) (Some two) → one ≡ two
    same_call one two is = cc

-- ---- the bytes that are read

read_of : Answer → List ℕ
read_of (Bytes bytes) = bytes
read_of _ = []

command_in : Command → Line → Command
command_in other (Ok command) = command
command_in other _ = other

pub bytes_alike : (supply : Supply) (T U : Tree) (room other : Room) (command : Command) (old new : List ℕ) (told : WeaveReply)
    → answer_of supply T room command ≡ answer_of supply U other command
    → HasReadBytes old new U (Ok command) told → HasReadBytes old new T (Ok command) told
unfolding read_of command_in
bytes_alike supply T U room other command old new told alike bytes = record {
  kept = bytes.kept;
  read = λ path offset count read line is.
      let same : command ≡ Read path offset count = ap (command_in command) line in
      let answers : answer_of supply T room (Read path offset count) ≡ answer_of supply U other (Read path offset count) =
      subst (λ (c : Command). answer_of supply T room c ≡ answer_of supply U other c) same alike in
      bytes.read path offset count read line is ∙ sym (ap read_of answers);
}

-- ---- among running calls

-- its command leaves the history, where it is answered alike
pub record ReadsAlike (supply : Supply) (history words : State) (command : Command) : Type 0 where
  pub enters : EntersHistory supply history history command 0
  pub answers : answer_of supply history.tree history.room command ≡ answer_of supply words.tree words.room command

module _ (weave : InterleaveView) (device : DeviceView) (calls : Calls) (history : State) (session : ℕ) (command : Command) (named : NamedNodes) (action : Action)
    (planned : IsPlannedAmong weave device calls history session command named action) (reads : is_changing command ≡ false) where
  abbrev words : State
  words = planned.weaving.words

  abbrev supply : Supply
  supply = supply_beside weave.volume.size (left_of_all weave.volume calls)

  valid : IsVolumeState weave.volume.size words
  valid = let stands = (weaves_on_law weave device calls history planned.weaving).stands in state_law weave.volume.size device.words words stands.sound.coherent stands.reads

  after : IsAfter words words command 0
  after = reads_after 0 words command valid.room reads

  among : CallsWait weave.volume device words no_residue calls → ReadsAlike supply history words command
  among wait =
      let is = planned.weaving.history_is in
      let (entered, new, now) = free_enters weave.volume device supply words history calls command named wait is planned.named_is planned.free planned.planned.accepted words
      after in
      let tree : entered.tree ≡ history.tree = new.after.tree ∙ reads_tree 0 history.tree command reads in
      let room : entered.room ≡ history.room = sym now.room ∙ is.room in
      let same : entered ≡ history = (λ k. record { tree = tree k; room = room k }) in
      record {
        enters = subst (λ (state : State). EntersHistory supply history state command 0) same new;
        answers = reads_alike_law weave.volume device supply words history calls command named wait is reads planned.named_is planned.free planned.planned.accepted;
      }

  -- where none writes the words are the history
  itself : words ≡ history → ReadsAlike supply history words command
  itself same = subst (λ (state : State). ReadsAlike supply state words command) same (record {
    enters = record { accepted = planned.planned.accepted; unused = zero_unused weave.volume.size words valid; after = after };
    answers = refl;
  })

  alike_by : AllWait weave.volume device words calls → ReadsAlike supply history words command
  alike_by (idle none going kept stands) = itself (same_history (ranges_of_all calls) history words (ranges_idle calls none) planned.weaving.history_is)
  alike_by (beside wait kept) = among wait
  alike_by (alone s call waits begun) =
      itself (same_history (ranges_of_all calls) history words (alone_ranges weave.volume device words calls s call waits) planned.weaving.history_is)

  pub planned_alike : ReadsAlike supply history words command
  planned_alike = alike_by planned.weaving.waits
