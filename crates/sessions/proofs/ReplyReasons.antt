-- Which answers have a cause: a call that ran ends as a change that was made, and one that begins is short of memory for a reason.
use Rattle.std.proofs.Common.{◌≡◌, ◌≢◌, ◌⊎◌, inl, inr, ℕ, ◌≤◌, Bool, true, false, cond, List, [], ◌∷◌, ◌++◌, Option, None, Some, Ok, refl, sym, ap, subst, ◌∙◌, nat_lt, nat_cmp}
use Rattle.std.specs.Prelude.{IsTrue}
use Rattle.std.proofs.lemmas.Bool.{cases_eq, true≢false}
use Rattle.pm_trait.specs.Device.{HasRisen}
use Rattle.pm_trait.specs.DeviceView.{DeviceView}
use Rattle.tree_model.specs.Capacity.{Supply, untaken}
use Rattle.tree_model.specs.Places.{needs_places}
use Rattle.tree_model.specs.Replies.{reply_of}
use Rattle.tree_model.specs.Run.{State, Line, is_changing, fresh_state}
use Rattle.tree_model.specs.Step.{making as made_by, first, at, walk_faults, later_faults, faults_of_rename, refusal_with, answer_of, is_same_node}
use Rattle.tree_model.specs.Table.{Table}
use Rattle.tree_model.specs.PathText.{Route}
use Rattle.tree_model.specs.Tree.{Tree, Node, Room}
use Rattle.tree_model.specs.declared.command.Command.{Command}
use Rattle.tree_model.specs.declared.command.Command.TheVariants.{Create, Mkdir, Link, Unlink, Rmdir, Rename, Write, Truncate, Read, Stat as Tell, List as Show, Df}
use Rattle.tree_model.specs.declared.reply.Refusal.{Refusal}
use Rattle.tree_model.specs.declared.reply.Refusal.TheVariants.{NotDir, Root, Exists, IsDir, NotEmpty, IntoItself, TooBig, NoInodes, NoPages, NoMemory}
use Rattle.tree_model.specs.declared.reply.Reply.{Reply}
use Rattle.tree_model.specs.declared.reply.Reply.TheVariants.{Refused}
use Rattle.tree_model.proofs.RefusalLaws.{refusal_other}
use Rattle.volume.specs.Named.{refusal_of_walks}
use Rattle.volume.specs.Prepared.{IsRefusal}
use Rattle.layout.specs.declared.kinds.NodeKind.{NodeKind}
use Rattle.layout.specs.declared.kinds.NodeKind.TheVariants.{File, Directory}
use Rattle.image_reading.specs.Residue.{Residue}
use Rattle.mixing_laws.specs.Mixed.{Range}
use Rattle.mixing_laws.proofs.Alike.{AreAlike, alike_mixed}
use Rattle.mixing_laws.proofs.Finds.{same_need, with_names}
use Rattle.volume.specs.Volume.{VolumeView}
use Rattle.data_ops.specs.declared.truncate.Stage.TheVariants.{Nothing as SizeKept, Growing as GrowsBySize, Cutting}
use Rattle.data_ops.specs.declared.write.Stage.TheVariants.{Nothing as NothingWritten, Inside, Growing as GrowsByWrite}
use Rattle.running_calls.specs.declared.running.Running.{Running}
use Rattle.running_calls.specs.declared.running.Running.TheVariants.{Makes, Links, Removes, Moves, Writes, Resizes}
use Rattle.waiting_laws.specs.Removing.{of_kind}
use Rattle.waiting_laws.proofs.Preparing.{walks_refuse}
use Rattle.running_laws.specs.Waits.{Waits}
use Rattle.session_laws.specs.Calls.{Call, Calls, call_at}
use Rattle.session_laws.specs.Histories.{IsHistory}
use Rattle.session_laws.specs.Moving.{MoveWaits}
use Rattle.engine.specs.Replies.{IsChangeReply}
use Rattle.engine.proofs.Faults.{risen_earlier}
use Rattle.sessions.specs.Interleave.{InterleaveView, AllWait, idle, beside, alone, IsWeaving}
use Rattle.sessions.specs.Steps.{HasReason}
use Rattle.sessions.specs.declared.entry.StepReply.{StepReply}
use Rattle.sessions.specs.declared.entry.StepReply.TheVariants.{Running as RunsOn, Ended}
use Rattle.sessions.specs.declared.entry.WeaveReply.{WeaveReply}
use Rattle.sessions.specs.declared.entry.WeaveReply.TheVariants.{Plain}
use Rattle.sessions.proofs.GoesReplies.{AnswersAs}

-- ---- a change that was made

made_by_command : (supply : Supply) (T : Tree) (room : Room) (command : Command) → is_changing command ≡ true → IsChangeReply (reply_of (answer_of supply T room command))
made_by_command supply T room (Create path) changing = tt
made_by_command supply T room (Mkdir path) changing = tt
made_by_command supply T room (Link from to) changing = tt
made_by_command supply T room (Unlink path) changing = tt
made_by_command supply T room (Rmdir path) changing = tt
made_by_command supply T room (Rename from to) changing = tt
made_by_command supply T room (Write path offset bytes) changing = tt
made_by_command supply T room (Truncate path size) changing = tt
made_by_command supply T room (Read path offset count) changing = absurd (true≢false (sym changing))
made_by_command supply T room (Tell path) changing = absurd (true≢false (sym changing))
made_by_command supply T room (Show path) changing = absurd (true≢false (sym changing))
made_by_command supply T room Df changing = absurd (true≢false (sym changing))

-- what the tree answers a change is
pub is_made : (command : Command) (told : Reply) → is_changing command ≡ true → AnswersAs command told → IsChangeReply told
is_made command told changing answers =
    subst IsChangeReply (sym (answers (untaken 0) fresh_state.tree fresh_state.room)) (made_by_command (untaken 0) fresh_state.tree fresh_state.room command changing)

-- and memory isn't short for it
pub not_short : (told : Reply) → IsChangeReply told → ◌≡◌ {A = WeaveReply} (Plain told) (Plain (Refused NoMemory)) → ⊥
not_short told made is = let same : told ≡ Refused NoMemory = cc in subst IsChangeReply same made

-- ---- a call that ran

made_changes : (kind : NodeKind) (path : Route) → is_changing (made_by kind path) ≡ true
made_changes File path = refl
made_changes Directory path = refl

gone_changes : (kind : NodeKind) (path : Route) → is_changing (of_kind kind path) ≡ true
gone_changes File path = refl
gone_changes Directory path = refl

module _ (volume : VolumeView) (device : DeviceView) (words : State) (command : Command) (others : Residue) where
  waits_changing : (running : Running) → Waits volume device words command running others → is_changing command ≡ true
  waits_changing (Makes running) (path, is, waits) = ap is_changing is ∙ made_changes running.entry.kind path
  waits_changing (Links running) (from, path, is, waits) = ap is_changing is
  waits_changing (Removes running) (path, is, waits) = ap is_changing is ∙ gone_changes running.removal.loss.kind path
  waits_changing (Moves running) waits = absurd waits
  waits_changing (Writes NothingWritten) waits = absurd waits
  waits_changing (Writes (Inside writing)) waits = absurd waits
  waits_changing (Writes (GrowsByWrite writing progress)) waits = ap is_changing waits.2
  waits_changing (Resizes SizeKept) waits = absurd waits
  waits_changing (Resizes (GrowsBySize resizing progress)) waits = ap is_changing waits.1
  waits_changing (Resizes (Cutting resizing progress)) waits = ap is_changing waits.1

module _ (volume : VolumeView) (device : DeviceView) (words : State) (calls : Calls) (s : ℕ) (call : Call) (runs : call_at calls s ≡ Some call) where
  moves_only : (r : ℕ) (moved : Call) → MoveWaits volume device words calls r moved → is_changing call.command ≡ true
  moves_only r moved wait = elim (cases_eq r s) [
    | inl same ↦
        let both : ◌≡◌ {A = Option Call} (Some moved) (Some call) = sym wait.runs ∙ ap (call_at calls) same ∙ runs in
        let equal : call ≡ moved = cc in
        ap (λ (one : Call). is_changing one.command) equal ∙ ap is_changing wait.command_is
    | inr differ ↦ absurd (let none = wait.alone s differ in let clash : ◌≡◌ {A = Option Call} None (Some call) = sym none ∙ runs in cc)
  ]

  changing_by : AllWait volume device words calls → is_changing call.command ≡ true
  changing_by (idle none going kept stands) = absurd (let clash : ◌≡◌ {A = Option Call} None (Some call) = sym (none s) ∙ runs in cc)
  changing_by (beside wait kept) = waits_changing volume device words call.command _ call.running (wait.each s call runs).waits
  changing_by (alone r moved wait first) = moves_only r moved wait

pub ran_changes : (weave : InterleaveView) (device : DeviceView) (calls : Calls) (history : State) (s : ℕ) (call : Call) → IsWeaving weave device calls history
    → call_at calls s ≡ Some call → is_changing call.command ≡ true
ran_changes weave device calls history s call weaving runs = changing_by weave.volume device weaving.words calls s call runs weaving.waits

-- ---- no row of refusals has it

first_of_both : (front rest : List (Option Refusal)) (refusal : Refusal) → first (front ++ rest) ≡ Some refusal → (first front ≡ Some refusal) ⊎ (first rest ≡ Some refusal)
first_of_both [] rest refusal is = inr is
first_of_both (None ∷ front) rest refusal is = first_of_both front rest refusal is
first_of_both (Some fault ∷ front) rest refusal is = inl is

first_in_front : (front rest : List (Option Refusal)) (refusal : Refusal) → first front ≡ Some refusal → first (front ++ rest) ≡ Some refusal
first_in_front [] rest refusal is = absurd (cc is)
first_in_front (None ∷ front) rest refusal is = first_in_front front rest refusal is
first_in_front (Some fault ∷ front) rest refusal is = is

abbrev IsOther : Option Refusal → Type 0
IsOther fault = fault ≢ Some NoMemory

abbrev AreOthers : List (Option Refusal) → Type 0
AreOthers [] = Unit {0}
AreOthers (fault ∷ faults) = IsOther fault × AreOthers faults

first_other : (faults : List (Option Refusal)) → AreOthers faults → IsOther (first faults)
first_other [] others = λ is. cc
first_other (None ∷ faults) others = first_other faults others.1
first_other (Some refusal ∷ faults) others = others.0

at_other : (refusal : Refusal) (b : Bool) → refusal ≢ NoMemory → IsOther (at refusal b)
at_other refusal true other = λ is. other cc
at_other refusal false other = λ is. cc

either_row : (b : Bool) (row : List (Option Refusal)) → AreOthers row → AreOthers (cond b [] row)
either_row true row others = tt
either_row false row others = others

moved_others : (supply : Supply) (T : Tree) (room : Room) (from to : Route) → AreOthers (faults_of_rename supply T room from to)
moved_others supply T room from to =
    (at_other NotDir _ (λ is. cc), (at_other IsDir _ (λ is. cc), (at_other NotEmpty _ (λ is. cc), (at_other IntoItself _ (λ is. cc), (at_other NoPages _ (λ is. cc), tt)))))

later_others : (supply : Supply) (T : Tree) (room : Room) (c : Command) → AreOthers (later_faults supply T room c)
later_others supply T room (Create path) =
    (at_other Root _ (λ is. cc), (at_other Exists _ (λ is. cc), (at_other NoInodes _ (λ is. cc), (at_other NoPages _ (λ is. cc), tt))))
later_others supply T room (Mkdir path) =
    (at_other Root _ (λ is. cc), (at_other Exists _ (λ is. cc), (at_other NoInodes _ (λ is. cc), (at_other NoPages _ (λ is. cc), tt))))
later_others supply T room (Link from to) =
    (at_other Root _ (λ is. cc), (at_other Exists _ (λ is. cc), (at_other IsDir _ (λ is. cc), (at_other NoPages _ (λ is. cc), tt))))
later_others supply T room (Unlink path) = (at_other Root _ (λ is. cc), (at_other IsDir _ (λ is. cc), tt))
later_others supply T room (Rmdir path) = (at_other Root _ (λ is. cc), (at_other NotDir _ (λ is. cc), (at_other NotEmpty _ (λ is. cc), tt)))
later_others supply T room (Rename from to) =
    (at_other Root _ (λ is. cc), either_row (is_same_node T from to) (faults_of_rename supply T room from to) (moved_others supply T room from to))
later_others supply T room (Write path offset bytes) = (at_other IsDir _ (λ is. cc), (at_other TooBig _ (λ is. cc), (at_other NoPages _ (λ is. cc), tt)))
later_others supply T room (Truncate path size) = (at_other IsDir _ (λ is. cc), (at_other TooBig _ (λ is. cc), (at_other NoPages _ (λ is. cc), tt)))
later_others supply T room (Read path offset count) = (at_other IsDir _ (λ is. cc), (at_other TooBig _ (λ is. cc), tt))
later_others supply T room (Tell path) = tt
later_others supply T room (Show path) = (at_other NotDir _ (λ is. cc), tt)
later_others supply T room Df = tt

row_other : (supply : Supply) (T : Tree) (room : Room) (c : Command) → refusal_with supply T room c ≢ Some NoMemory
row_other supply T room c is = elim (first_of_both (walk_faults T c) (later_faults supply T room c) NoMemory is) [
  | inl walks ↦ refusal_other 0 T room c (first_in_front (walk_faults T c) (later_faults (untaken 0) T room c) NoMemory walks)
  | inr later ↦ first_other (later_faults supply T room c) (later_others supply T room c) later
]

-- a refusal of the walks is no such one
pub walks_reason : (before after : DeviceView) (history : State) (command : Command) (refusal : Refusal) (number : ℕ) → refusal_of_walks history.tree command ≡ Some refusal
    → HasReason before after None history (Ok command) (Ended number (Plain (Refused refusal)))
walks_reason before after history command refusal number refused is =
    let same : refusal ≡ NoMemory = cc in
    absurd (row_other (untaken 0) history.tree history.room command (walks_refuse (untaken 0) history command refusal refused ∙ ap (λ (r : Refusal). Some r) same))

-- ---- a command that was prepared

-- it needs a place in the history as in the words
module _ (T : Tree) (nodes : Table nat_cmp Node) (alike : AreAlike T (record { names = T.names; nodes = nodes })) (room : Room) where
  same_needs : (c : Command) → needs_places (record { tree = record { names = T.names; nodes = nodes }; room = room }) c ≡ needs_places (record { tree = T; room = room }) c
  same_needs (Create path) = refl
  same_needs (Mkdir path) = refl
  same_needs (Link from to) = refl
  same_needs (Unlink path) = refl
  same_needs (Rmdir path) = refl
  same_needs (Rename from to) = refl
  same_needs (Write path offset bytes) = ap (nat_lt 0) (same_need T nodes alike room (Write path offset bytes))
  same_needs (Truncate path size) = ap (nat_lt 0) (same_need T nodes alike room (Truncate path size))
  same_needs (Read path offset count) = refl
  same_needs (Tell path) = refl
  same_needs (Show path) = refl
  same_needs Df = refl

needs_alike : (ranges : List Range) (history words : State) (command : Command) → IsHistory ranges history words → needs_places words command ≡ needs_places history command
needs_alike ranges history words command is =
    ap (λ (room : Room). needs_places (record { tree = words.tree; room = room }) command) is.room
    ∙ with_names (λ (W : Tree). AreAlike history.tree W → needs_places (record { tree = W; room = history.room }) command ≡ needs_places history command)
    history.tree words.tree is.tree.names (λ alike. same_needs history.tree words.tree.nodes alike history.room command)
    (alike_mixed ranges history.tree words.tree is.tree)

pub prepared_reason : (supply : Supply) (ranges : List Range) (before between after : DeviceView) (history words : State) (command : Command) (refusal : Refusal) (number : ℕ)
    → IsHistory ranges history words → IsRefusal supply words command refusal before between → after.refused ≡ between.refused
    → HasReason before after None history (Ok command) (Ended number (Plain (Refused refusal)))
prepared_reason supply ranges before between after history words command refusal number is refused same told = elim refused [
  | inl row ↦
      let short : refusal ≡ NoMemory = cc in
      absurd (row_other supply words.tree words.room command (row ∙ ap (λ (r : Refusal). Some r) short))
  | inr lacks ↦ elim lacks.cause [
    | inl needs ↦ inl (subst IsTrue (needs_alike ranges history words command is) needs)
    | inr risen ↦ inr (subst (HasRisen before.refused) (sym same) risen)
  ]
]

-- ---- an answer of the tree's

pub answer_other : (supply : Supply) (T : Tree) (room : Room) (command : Command) → reply_of (answer_of supply T room command) ≢ Refused NoMemory
answer_other supply T room (Create path) is = cc
answer_other supply T room (Mkdir path) is = cc
answer_other supply T room (Link from to) is = cc
answer_other supply T room (Unlink path) is = cc
answer_other supply T room (Rmdir path) is = cc
answer_other supply T room (Rename from to) is = cc
answer_other supply T room (Write path offset bytes) is = cc
answer_other supply T room (Truncate path size) is = cc
answer_other supply T room (Read path offset count) is = cc
answer_other supply T room (Tell path) is = cc
answer_other supply T room (Show path) is = cc
answer_other supply T room Df is = cc

-- ---- one that isn't of memory, and one from before its preparing

pub other_reason : (before after : DeviceView) (history : State) (line : Line) (number : ℕ) (answer : WeaveReply) → answer ≢ Plain (Refused NoMemory)
    → HasReason before after None history line (Ended number answer)
other_reason before after history line number answer other is = absurd (other is)

pub reason_back : (before between after : DeviceView) (history : State) (line : Line) (reply : StepReply) → before.refused ≤ between.refused
    → HasReason between after None history line reply → HasReason before after None history line reply
reason_back before between after history line (RunsOn number) less reason = tt
reason_back before between after history line (Ended number answer) less reason = λ is. elim (reason is) [
  | inl needs ↦ inl needs
  | inr risen ↦ inr (risen_earlier before.refused between.refused after.refused less risen)
]
