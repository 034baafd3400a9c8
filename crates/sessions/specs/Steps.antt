-- What a step of a session does: to the calls that run, to the history, and to the device.
use Rattle.std.specs.Prelude.{◌≡◌, ◌≢◌, ◌⊎◌, ℕ, ◌+◌, ◌≤◌, ◌<◌, nat_le, nat_lt, Bool, true, false, IsTrue, not, ◌&&◌, ◌||◌, List, [], ◌∷◌, ◌++◌, length, set, take, drop, Option, None, Some, Ok, Err, Result, Contains}
use Rattle.pm_trait.specs.Trail.{Trail}
use Rattle.pm_trait.specs.Device.{LeavesOnly, AcksSettled, HasRisen, EndsInFault, acks_from, moment_of}
use Rattle.pm_trait.specs.DeviceView.{DeviceView, Acknowledges}
use Rattle.pm_trait.specs.Unfolds.{Fenced, KeepsWords}
use Rattle.layout.specs.Superblock.{IsSuperblockWord}
use Rattle.tree_model.specs.Run.{State, Line, is_changing}
use Rattle.tree_model.specs.PathText.{Route}
use Rattle.tree_model.specs.Capacity.{Supply}
use Rattle.tree_model.specs.Tree.{Tree, id_at, node_at, bytes_of}
use Rattle.tree_model.specs.Step.{id_of}
use Rattle.tree_model.specs.Fences.{fences_of, fences_of_accepted, size_before}
use Rattle.tree_model.specs.Places.{line_needs_places}
use Rattle.tree_model.specs.declared.command.Command.{Command}
use Rattle.tree_model.specs.declared.command.Command.TheVariants.{Create, Mkdir, Link, Unlink, Rmdir, Rename, Write, Truncate, Read, Stat as Tell, List as Show, Df}
use Rattle.tree_model.specs.declared.reply.Refusal.TheVariants.{NoMemory}
use Rattle.tree_model.specs.declared.reply.Reply.{Reply}
use Rattle.tree_model.specs.declared.reply.Reply.TheVariants.{Done, Count, Status, Bytes, Names, Space, Refused, Unread, Stopped, Fault}
use Rattle.naming_laws.specs.Naming.{inode_need}
use Rattle.image_reading.specs.Counts.{IsIn}
use Rattle.image_reading.specs.Residue.{Residue}
use Rattle.image_counts.specs.Laws.{supply_beside}
use Rattle.mixing_laws.specs.Mixed.{Range}
use Rattle.volume.specs.Volume.{VolumeView}
use Rattle.volume.specs.Prepared.{IsSameButRoom}
use Rattle.volume.specs.Named.{AreNamedBy, refusal_of_walks}
use Rattle.volume.specs.declared.named.NamedNodes.{NamedNodes}
use Rattle.running_laws.specs.Steps.{commits, has_committed, given_inode}
use Rattle.session_laws.specs.Calls.{Call, Calls, call_at, without, left_of_all, ranges_of_all, fences_of_call}
use Rattle.session_laws.specs.Histories.{EntersHistory, IsCrashOf}
use Rattle.engine.specs.Replies.{IsChangeReply}
use Rattle.sessions.specs.Busy.{AreBothNamed}
use Rattle.sessions.specs.History.{IsLegal, StepsTree}
use Rattle.sessions.specs.Interleave.{InterleaveView, IsWeaving}
use Rattle.sessions.specs.Tasks.{task_in}
use Rattle.sessions.specs.Texts.{answer_in}
use Rattle.sessions.specs.declared.task.Task.{Task}
use Rattle.sessions.specs.declared.entry.Entry.{Entry}
use Rattle.sessions.specs.declared.entry.StepReply.{StepReply}
use Rattle.sessions.specs.declared.entry.StepReply.TheVariants.{Running, Ended}
use Rattle.sessions.specs.declared.entry.WeaveReply.{WeaveReply}
use Rattle.sessions.specs.declared.entry.WeaveReply.TheVariants.{Plain, Busy}

-- ---- which call makes the step

-- the one that the session runs, or the next one that begins
abbrev pub number_of : ℕ → Option Call → ℕ
number_of begun None = begun + 1
number_of begun (Some call) = call.number

abbrev pub begun_after : ℕ → Option Call → ℕ
begun_after begun None = begun + 1
begun_after begun (Some call) = begun

-- the same of what the code has
abbrev pub number_in : ℕ → Option Task → ℕ
number_in begun None = begun + 1
number_in begun (Some task) = task.number

abbrev pub begun_in : ℕ → Option Task → ℕ
begun_in begun None = begun + 1
begun_in begun (Some task) = begun

-- A session gives the same call until it has ended.
abbrev pub GivesSame : Calls → ℕ → Line → Type 0
GivesSame calls session line = (call : Call) → call_at calls session ≡ Some call → line ≡ Ok call.command

-- ---- its entry

-- what the other running calls hold, which isn't free for it
pub record HasHeld (entry : Entry) (others : Residue) : Type 0 where
  pub inodes : entry.inodes ≡ length others.inodes
  pub pages : entry.pages ≡ length others.pages

-- a call that ends with its entry is answered as that says; one that runs on behind it is to be answered `Done`
abbrev pub IsToldAs : StepReply → WeaveReply → Type 0
IsToldAs (Running number) answer = answer ≡ Plain Done
IsToldAs (Ended number reply) answer = reply ≡ answer

-- The entry is the tree's, and a node that it makes has the inode that the call was given when it began.
pub record HasGiven (P : ℕ) (entry : Entry) (history later : State) (ran : Call) : Type 0 where
  pub steps : StepsTree P entry history ran.command later
  pub id_is : steps.id ≡ given_inode ran.running

-- Its entry came, legal from the history before.
pub record HasEntered (old new : InterleaveView) (calls : Calls) (session : ℕ) (line : Line) (history later : State) (reply : StepReply) : Type 0 where
  pub entry : Entry
  pub added : new.entries ≡ old.entries ++ entry ∷ []
  pub session_is : entry.session ≡ session
  pub number_is : entry.number ≡ number_of old.begun (call_at calls session)
  pub held : HasHeld entry (left_of_all old.volume (without calls session))
  pub legal : IsLegal old.volume.size entry line history later
  pub given : (ran : Call) → call_at calls session ≡ Some ran → HasGiven old.volume.size entry history later ran
  pub told : IsToldAs reply entry.reply

-- a call whose entry came before ends with what that says
abbrev pub IsDoneAtEnd : StepReply → Type 0
IsDoneAtEnd (Running number) = Unit {0}
IsDoneAtEnd (Ended number reply) = reply ≡ Plain Done

-- None came.
pub record HasNoEntry (old new : InterleaveView) (history later : State) (reply : StepReply) : Type 0 where
  pub told : IsDoneAtEnd reply
  pub same : new.entries ≡ old.entries
  pub history_same : later ≡ history

-- it has an entry before the step where it has committed, and behind it where it has committed or ended
abbrev pub is_entered_before : Option Call → Bool
is_entered_before None = false
is_entered_before (Some call) = has_committed call.running

abbrev pub is_entered_behind : Option Call → Bool
is_entered_behind None = true
is_entered_behind (Some call) = has_committed call.running

-- the entry comes exactly in that step
abbrev pub Enters : Bool → InterleaveView → InterleaveView → Calls → ℕ → Line → State → State → StepReply → Type 0
Enters true old new calls session line history later reply = HasEntered old new calls session line history later reply
Enters false old new calls session line history later reply = HasNoEntry old new history later reply

-- ---- its reply

-- the call that runs on has its number, and one that has ended has no call
abbrev pub IsLeftAs : StepReply → ℕ → Option Call → Type 0
IsLeftAs (Running number) own left = (call : Call) × (left ≡ Some call) × (call.number ≡ own) × (number ≡ own)
IsLeftAs (Ended number reply) own left = (left ≡ None) × (number ≡ own)

-- The least inode that the command and a running call name both, and the number of that call.
pub record IsInTheWay (calls : Calls) (history : State) (command : Command) (inode holder : ℕ) : Type 0 where
  pub named : NamedNodes
  pub names : AreNamedBy history.tree command named
  pub session : ℕ
  pub other : Call
  pub runs : call_at calls session ≡ Some other
  pub holder_is : other.number ≡ holder
  pub both : AreBothNamed named other.named inode
  pub least : (s : ℕ) (any : Call) → call_at calls s ≡ Some any → (i : ℕ) → AreBothNamed named any.named i → inode ≤ i

abbrev pub IsFreeOfOthers : Calls → State → Command → Type 0
IsFreeOfOthers calls history command =
    (named : NamedNodes) → AreNamedBy history.tree command named → (s : ℕ) (other : Call) → call_at calls s ≡ Some other → (i : ℕ) → ¬ AreBothNamed named other.named i

-- A call that begins is Busy exactly where its walks lead somewhere and a running call is in its way.
abbrev pub IsBusyWhere : WeaveReply → Calls → State → Command → Type 0
IsBusyWhere (Plain reply) calls history command = (refusal_of_walks history.tree command ≢ None) ⊎ IsFreeOfOthers calls history command
IsBusyWhere (Busy inode holder) calls history command = (refusal_of_walks history.tree command ≡ None) × IsInTheWay calls history command inode holder

abbrev pub IsBusyRightly : StepReply → Option Call → Calls → State → Line → Type 0
IsBusyRightly (Running number) (Some call) calls history line = Unit {0}
IsBusyRightly (Running number) None calls history (Ok command) = IsFreeOfOthers calls history command
IsBusyRightly (Running number) None calls history (Err fault) = ⊥
IsBusyRightly (Ended number reply) (Some call) calls history line = (inode holder : ℕ) → reply ≢ Busy inode holder
IsBusyRightly (Ended number reply) None calls history (Ok command) = IsBusyWhere reply calls history command
IsBusyRightly (Ended number reply) None calls history (Err fault) = (inode holder : ℕ) → reply ≢ Busy inode holder

-- ---- the bytes of the last read

-- After a read they are those of the entry's tree; else they are as they were.
pub record HasReadBytes (old new : List ℕ) (tree : Tree) (line : Line) (reply : WeaveReply) : Type 0 where
  pub kept : ((count : ℕ) → reply ≢ Plain (Bytes count)) → new ≡ old
  pub read : (path : Route) (offset count read : ℕ) → line ≡ Ok (Read path offset count) → reply ≡ Plain (Bytes read) → new ≡ take count (drop offset (bytes_of tree (id_of tree path)))

abbrev pub BytesBehind : List ℕ → List ℕ → Tree → Line → StepReply → Type 0
BytesBehind old new tree line (Running number) = new ≡ old
BytesBehind old new tree line (Ended number reply) = HasReadBytes old new tree line reply

-- ---- what the session runs behind it

-- A call that goes on is the same.
pub record IsSameCall (ran call : Call) : Type 0 where
  pub command : call.command ≡ ran.command
  pub named : call.named ≡ ran.named
  pub given : given_inode call.running ≡ given_inode ran.running

-- One that begins is its line's, and names what that names in the history.
abbrev pub IsCallAt : Option Call → Option Call → Line → Tree → Type 0
IsCallAt None None line T = Unit {0}
IsCallAt (Some ran) None line T = Unit {0}
IsCallAt None (Some call) line T = (line ≡ Ok call.command) × AreNamedBy T call.command call.named
IsCallAt (Some ran) (Some call) line T = IsSameCall ran call

abbrev pub fences_of_left : VolumeView → Option Call → ℕ
fences_of_left volume None = 0
fences_of_left volume (Some call) = fences_of_call volume call

-- a call that goes on has a fence less
abbrev pub GetsOn : VolumeView → VolumeView → Option Call → Option Call → Type 0
GetsOn old new None left = Unit {0}
GetsOn old new (Some ran) left = fences_of_call old ran ≡ 1 + fences_of_left new left

-- ---- a call without a plan

abbrev pub is_refused : Reply → Bool
is_refused Done = false
is_refused (Count count) = false
is_refused (Status stat) = false
is_refused (Bytes count) = false
is_refused (Names inode count) = false
is_refused (Space free) = false
is_refused (Refused refusal) = true
is_refused (Unread fault) = false
is_refused Fault = false
is_refused Stopped = false

-- it is Busy, faulty or refused, or it reads
abbrev pub has_no_plan : Line → WeaveReply → Bool
has_no_plan line (Busy inode holder) = true
has_no_plan (Err fault) (Plain reply) = true
has_no_plan (Ok command) (Plain reply) = not (is_changing command) || is_refused reply

-- Space for events alone was taken, and then it was acknowledged.
pub record IsAckedAlone (before after : DeviceView) : Type 0 where
  pub between : DeviceView
  pub room : IsSameButRoom before between
  pub acked : Acknowledges between after

-- So a call that begins and has none stores nothing.
abbrev pub IsQuietWhere : StepReply → Option Call → Line → DeviceView → DeviceView → Type 0
IsQuietWhere (Running number) ran line before after = Unit {0}
IsQuietWhere (Ended number answer) (Some call) line before after = Unit {0}
IsQuietWhere (Ended number answer) None line before after = has_no_plan line answer ≡ true → IsAckedAlone before after

-- ---- its events

-- Space for events was taken; then come stores and flushes up to one fence, or none of these. How many they are is left open.
pub record ReservesAndFences {T E : Type 0} (before after : DeviceView) (result : Result T E) : Type 0 where
  pub reserved : DeviceView
  pub room : IsSameButRoom before reserved
  pub has_store : Bool
  pub most : ℕ
  pub fenced : Fenced has_store most reserved after result

abbrev pub IsAckedAtEnd : StepReply → DeviceView → DeviceView → Type 0
IsAckedAtEnd (Running number) fenced after = after ≡ fenced
IsAckedAtEnd (Ended number reply) fenced after = Acknowledges fenced after

-- It makes no other events than these, and where the call has ended an acknowledgement.
pub record HasEvents (before after : DeviceView) (reply : StepReply) : Type 0 where
  pub fenced : DeviceView
  pub interval : ReservesAndFences {T = Unit {0}} {E = Unit {0}} before fenced (Ok tt)
  pub acked : IsAckedAtEnd reply fenced after

-- ---- its fences and acknowledgement

-- At most one fence; and one where the call goes on, or has fences left.
pub record HasFenced (before after : DeviceView) (reply : StepReply) (ran : Option Call) : Type 0 where
  pub most : after.fences ≤ before.fences + 1
  pub goes_on : (call : Call) → ran ≡ Some call → after.fences ≡ before.fences + 1
  pub left : (number : ℕ) → reply ≡ Running number → after.fences ≡ before.fences + 1

-- at its end an acknowledgement
abbrev pub acks_of : StepReply → ℕ
acks_of (Running number) = 0
acks_of (Ended number reply) = 1

-- where the trail is told, it has so many of them more
abbrev pub HasAcked : DeviceView → DeviceView → StepReply → Type 0
HasAcked before after reply = (told : Trail) → after.trail ≡ Some told → acks_from before.trail after.trail (moment_of after.trail) ≡ acks_of reply

-- ---- how many fences its call takes

-- those of the answer that the reply is
abbrev pub fences_of_reply : State → Line → WeaveReply → State → ℕ
fences_of_reply history line (Busy inode holder) later = 0
fences_of_reply history line (Plain reply) later = fences_of history line (answer_in history.tree line reply) later

-- the least number from 2 on that no node has and no other call holds
pub record IsLeastGiven (T : Tree) (others : Residue) (id : ℕ) : Type 0 where
  pub from_two : 2 ≤ id
  pub unused : node_at T id ≡ None
  pub unheld : ¬ IsIn id others.inodes
  pub least : (lower : ℕ) → 2 ≤ lower → lower < id → (node_at T lower ≢ None) ⊎ IsIn lower others.inodes

-- A call that begins and runs on has one less left than its command takes between the history and what its entry leaves.
pub record HasLeft (P : ℕ) (others : Residue) (new : VolumeView) (history : State) (call : Call) : Type 0 where
  pub entered : State
  pub enters : EntersHistory (supply_beside P others) history entered call.command (given_inode call.running)
  pub fences : fences_of_accepted history call.command entered ≡ 1 + fences_of_call new call
  -- where it makes a node, that gets this inode
  pub given : inode_need call.command ≡ 1 → IsLeastGiven history.tree others (given_inode call.running)

-- One that begins and ends has taken them all.
abbrev pub TakesAll : ℕ → Residue → VolumeView → DeviceView → DeviceView → Option Call → Option Call → State → Line → State → StepReply → Type 0
TakesAll P others new before after (Some ran) left history line later reply = Unit {0}
TakesAll P others new before after None (Some call) history line later reply = HasLeft P others new history call
TakesAll P others new before after None None history line later (Running number) = ⊥
TakesAll P others new before after None None history line later (Ended number reply) = after.fences ≡ before.fences + fences_of_reply history line reply later

-- ---- which answers have a cause

-- A call that ran ends as a change that was made.
abbrev pub IsMade : WeaveReply → Type 0
IsMade (Busy inode holder) = ⊥
IsMade (Plain reply) = IsChangeReply reply

-- One that begins and needs no place of a table is short of memory only where the device refused room.
abbrev pub HasReason : DeviceView → DeviceView → Option Call → State → Line → StepReply → Type 0
HasReason before after ran history line (Running number) = Unit {0}
HasReason before after (Some call) history line (Ended number reply) = IsMade reply
HasReason before after None history line (Ended number reply) =
    reply ≡ Plain (Refused NoMemory) → IsTrue (line_needs_places history line) ⊎ HasRisen before.refused after.refused

-- ---- a crash

-- the range that a line writes, or that a growth by it begins
pub data IsRangeOf (history : State) : Line → Range → Type 0 where
  write : (path : Route) (range : Range) → id_at history.tree path ≡ Some range.file → IsRangeOf history (Ok (Write path range.offset range.bytes)) range
  truncate : (path : Route) (size : ℕ) (range : Range) → range.bytes ≡ [] → IsRangeOf history (Ok (Truncate path size)) range

-- Ranges of running writes, this line's among them.
abbrev pub AreRunning : Calls → State → Line → List Range → Type 0
AreRunning calls history line ranges = (range : Range) → Contains ranges range → Contains (ranges_of_all calls) range ⊎ IsRangeOf history line range

-- It is sound, and reads as a state that is one of these, but for bytes of such ranges.
pub record MayBeLeft (P : ℕ) (calls : Calls) (history : State) (line : Line) (IsOne : State → Type 0) (image : List ℕ) : Type 0 where
  pub state : State
  pub state_is : IsOne state
  pub ranges : List Range
  pub running : AreRunning calls history line ranges
  pub crash : IsCrashOf P image ranges state

-- the history before the step, unless it was acknowledged, or one with the tree behind it
abbrev pub IsBeforeOrBehind : State → State → ℕ → State → Type 0
IsBeforeOrBehind history later acks state = (acks ≡ 0) × (state ≡ history) ⊎ (state.tree ≡ later.tree)

-- the first step of the command may be its commit: it takes a name away, writes below the size, or cuts
abbrev pub may_commit_first : State → Command → Bool
may_commit_first history (Create path) = false
may_commit_first history (Mkdir path) = false
may_commit_first history (Link from to) = false
may_commit_first history (Unlink path) = true
may_commit_first history (Rmdir path) = true
may_commit_first history (Rename from to) = false
may_commit_first history (Write path offset bytes) = nat_le (offset + length bytes) (size_before history path)
may_commit_first history (Truncate path size) = nat_lt size (size_before history path)
may_commit_first history (Read path offset count) = false
may_commit_first history (Tell path) = false
may_commit_first history (Show path) = false
may_commit_first history Df = false

abbrev pub may_commit : Option Call → State → Line → Bool
may_commit (Some call) history line = commits call.running
may_commit None history (Ok command) = may_commit_first history command
may_commit None history (Err fault) = false

-- the history before it, or in a step that may commit what this call's entry leaves
abbrev pub IsBeforeOrEntered : ℕ → Option Call → State → Line → State → Type 0
IsBeforeOrEntered P ran history line state = (state ≡ history) ⊎ (may_commit ran history line ≡ true) × ((entry : Entry) × IsLegal P entry line history state)

-- ---- the step

-- The fence succeeded, or there was none: the calls run on and wait, the history goes on.
pub record StepsOn (old new : InterleaveView) (before after : DeviceView) (calls : Calls) (history : State) (session : ℕ) (line : Line) (reply : StepReply) : Type 0 where
  pub later_calls : Calls
  pub later : State
  pub weaving : IsWeaving new after later_calls later
  pub others : (s : ℕ) → s ≢ session → call_at later_calls s ≡ call_at calls s
  pub others_left : (s : ℕ) (other : Call) → s ≢ session → call_at calls s ≡ Some other → fences_of_call new.volume other ≡ fences_of_call old.volume other
  pub begun : new.begun ≡ begun_after old.begun (call_at calls session)
  pub left : IsLeftAs reply (number_of old.begun (call_at calls session)) (call_at later_calls session)
  pub enters : Enters (not (is_entered_before (call_at calls session)) && is_entered_behind (call_at later_calls session)) old new calls session line history later reply
  pub call_is : IsCallAt (call_at calls session) (call_at later_calls session) line history.tree
  pub gets_on : GetsOn old.volume new.volume (call_at calls session) (call_at later_calls session)
  pub takes_all : TakesAll old.volume.size (left_of_all old.volume calls) new.volume before after (call_at calls session) (call_at later_calls session) history line later reply
  pub busy : IsBusyRightly reply (call_at calls session) calls history line
  pub reason : HasReason before after (call_at calls session) history line reply
  pub bytes : BytesBehind old.bytes new.bytes history.tree line reply
  pub quiet : IsQuietWhere reply (call_at calls session) line before after
  pub events : HasEvents before after reply
  pub fences : HasFenced before after reply (call_at calls session)
  pub acks : after.acks ≡ before.acks + acks_of reply
  pub acked : HasAcked before after reply
  -- at its acknowledgement every word has one candidate, and the words read as the history behind it
  pub settled : AcksSettled before.trail after.trail (λ acks words. IsCrashOf old.volume.size words (ranges_of_all later_calls) later)
  pub faults : after.faults ≡ before.faults
  -- a crash leaves the history before it, until its acknowledgement, or the one behind it
  pub any_moment : LeavesOnly before.trail after.trail (λ acks image. MayBeLeft old.volume.size calls history line (IsBeforeOrBehind history later acks) image)

-- The line is a change which the history accepts, and which takes a fence.
abbrev pub IsFencedChange : Supply → State → Line → Type 0
IsFencedChange supply history (Ok command) =
    (is_changing command ≡ true) × (id : ℕ) × (entered : State) × EntersHistory supply history entered command id × (1 ≤ fences_of_accepted history command entered)
IsFencedChange supply history (Err fault) = ⊥

-- The fence failed: the call has ended so, and nothing is done any more. One that began is of such a change, and no running call is in its way.
pub record StepFails (old new : InterleaveView) (before after : DeviceView) (calls : Calls) (history : State) (session : ℕ) (line : Line) (reply : StepReply) : Type 0 where
  pub told : reply ≡ Ended (number_of old.begun (call_at calls session)) (Plain Fault)
  pub cause : HasRisen before.faults after.faults
  pub busy : IsBusyRightly (Running (number_of old.begun (call_at calls session))) (call_at calls session) calls history line
  pub began : call_at calls session ≡ None → IsFencedChange (supply_beside old.volume.size (left_of_all old.volume calls)) history line
  pub entries : new.entries ≡ old.entries
  pub tasks : new.tasks ≡ set old.tasks session None
  pub begun : new.begun ≡ begun_after old.begun (call_at calls session)
  pub bytes : new.bytes ≡ old.bytes
  pub events : ReservesAndFences {T = Unit {0}} {E = Unit {0}} before after (Err tt)
  pub fences : after.fences ≡ before.fences
  pub no_ack : after.acks ≡ before.acks
  pub none_acked : acks_from before.trail after.trail (moment_of after.trail) ≡ 0
  -- a crash leaves the history before it, or where the step may commit the one with its entry
  pub any_moment : LeavesOnly before.trail after.trail (λ acks image. MayBeLeft old.volume.size calls history line (IsBeforeOrEntered old.volume.size (call_at calls session) history line) image)
  pub halts : EndsInFault after.trail

-- It is the volume that it was, with or without the mark, and there are as many sessions.
pub record KeepsFrame (old new : InterleaveView) : Type 0 where
  pub size : new.volume.size ≡ old.volume.size
  pub marked : new.volume.marked ≡ old.volume.marked
  pub sessions : length new.tasks ≡ length old.tasks

pub record Steps (old new : InterleaveView) (before after : DeviceView) (calls : Calls) (history : State) (session : ℕ) (line : Line) (reply : StepReply) : Type 0 where
  pub frame : KeepsFrame old new
  -- no word of the superblock is another, the mark among them
  pub beside : KeepsWords IsSuperblockWord before.words after.words
  pub going : new.volume.stopped ≡ false → StepsOn old new before after calls history session line reply
  pub failed : new.volume.stopped ≡ true → StepFails old new before after calls history session line reply

-- An earlier step's fence failed: the call has ended so, and nothing is done.
pub record IsStopped (old new : InterleaveView) (session : ℕ) (reply : StepReply) : Type 0 where
  pub told : reply ≡ Ended (number_in old.begun (task_in old.tasks session)) (Plain Stopped)
  pub volume : new.volume ≡ old.volume
  pub tasks : new.tasks ≡ set old.tasks session None
  pub entries : new.entries ≡ old.entries
  pub begun : new.begun ≡ begun_in old.begun (task_in old.tasks session)
  pub bytes : new.bytes ≡ old.bytes

-- ---- what a step asks for

-- the line doesn't change, or the volume has no mark
abbrev pub MayChange : VolumeView → Line → Type 0
MayChange volume (Ok command) = is_changing command ≡ true → volume.marked ≡ false
MayChange volume (Err fault) = Unit {0}

-- The calls wait, the session gives the same call as before, and a call that changes finds no mark.
pub record MayStep (weave : InterleaveView) (device : DeviceView) (calls : Calls) (history : State) (session : ℕ) (line : Line) : Type 0 where
  pub weaving : IsWeaving weave device calls history
  pub same : GivesSame calls session line
  pub change : MayChange weave.volume line

abbrev pub IsAsked : InterleaveView → DeviceView → ℕ → Line → Type 0
IsAsked weave device session line = (calls : Calls) × (history : State) × MayStep weave device calls history session line
