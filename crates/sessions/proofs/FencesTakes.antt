-- A call that begins takes as many fences as its command between the history and what its entry leaves: with its first step, and those that are left.
use Rattle.std.proofs.Common.{◌≡◌, ℕ, ◌+◌, Bool, true, false, not, ◌||◌, Option, None, Some, Ok, Err, refl, sym, ap, subst, ◌∙◌, arith}
use Rattle.std.proofs.lemmas.Bool.{true≢false}
use Rattle.pm_trait.specs.DeviceView.{DeviceView}
use Rattle.tree_model.specs.Fences.{fences_of_accepted}
use Rattle.tree_model.specs.Run.{State, Line, is_changing}
use Rattle.tree_model.specs.declared.command.Command.{Command}
use Rattle.tree_model.specs.declared.command.Command.TheVariants.{Create, Mkdir, Link, Unlink, Rmdir, Rename, Write, Truncate, Read, Stat as Tell, List as Show, Df}
use Rattle.tree_model.specs.declared.reply.Reply.{Reply}
use Rattle.tree_model.specs.declared.reply.Reply.TheVariants.{Done, Count, Status, Bytes, Names, Space, Refused, Unread, Stopped, Fault}
use Rattle.image_reading.specs.Residue.{Residue}
use Rattle.volume.specs.Stages.{keeping}
use Rattle.volume.specs.Volume.{VolumeView}
use Rattle.volume.specs.declared.next.Next.{Next}
use Rattle.volume.specs.declared.next.Next.TheVariants.{More, Ended as HasEnded}
use Rattle.volume.specs.declared.plan.Action.{Action}
use Rattle.running_calls.specs.declared.running.Running.{Running}
use Rattle.running_laws.specs.Waits.{bytes_of_command}
use Rattle.session_laws.specs.Calls.{Call, Calls, left_of_all}
use Rattle.session_laws.specs.Going.{next_call}
use Rattle.engine.specs.Replies.{IsChangeReply}
use Rattle.sessions.specs.Advanced.{MadeStep}
use Rattle.sessions.specs.Interleave.{InterleaveView}
use Rattle.sessions.specs.Steps.{HasLeft, HasReason, TakesAll, fences_of_reply, has_no_plan, is_entered_behind}
use Rattle.sessions.specs.declared.entry.StepReply.{StepReply}
use Rattle.sessions.specs.declared.entry.StepReply.TheVariants.{Running as RunsOn, Ended}
use Rattle.sessions.specs.declared.entry.WeaveReply.{WeaveReply}
use Rattle.sessions.specs.declared.entry.WeaveReply.TheVariants.{Plain, Busy}
use Rattle.sessions.proofs.GoesMade.{told_next, reply_next}
use Rattle.sessions.proofs.GoesReplies.{AnswersAs}
use Rattle.sessions.proofs.ReplyReasons.{is_made, not_short}

-- ---- a call that begins

-- where it goes on it has the rest left, and where it ends it has taken all, whatever it leaves
abbrev pub TakesNext : InterleaveView → VolumeView → DeviceView → DeviceView → Calls → State → Call → Next Running → Type 0
TakesNext old new before after calls history call (More running) = HasLeft old.volume.size (left_of_all old.volume calls) new history (record call { running = running })
TakesNext old new before after calls history call (HasEnded reply) = (later : State) → after.fences ≡ before.fences + fences_of_accepted history call.command later

-- and so of its first step, which was made
abbrev pub TakesFirst : InterleaveView → DeviceView → Calls → State → Action → Call → Type 0
TakesFirst old before calls history action call =
    (new : VolumeView) (fenced : DeviceView) (next : Next Running) → MadeStep (keeping old.volume action) new before fenced (bytes_of_command call.command) call.running next
    → TakesNext old new before fenced calls history call next

-- of a change that was made
fences_made : (history : State) (command : Command) (told : Reply) (later : State) → IsChangeReply told
    → fences_of_reply history (Ok command) (Plain told) later ≡ fences_of_accepted history command later
fences_made history command Done later made = refl
fences_made history command (Count count) later made = refl
fences_made history command (Status stat) later made = absurd made
fences_made history command (Bytes count) later made = absurd made
fences_made history command (Names inode count) later made = absurd made
fences_made history command (Space free) later made = absurd made
fences_made history command (Refused refusal) later made = absurd made
fences_made history command (Unread fault) later made = absurd made
fences_made history command Fault later made = absurd made
fences_made history command Stopped later made = absurd made

pub takes_begun : (old : InterleaveView) (new : VolumeView) (before after : DeviceView) (calls : Calls) (history later : State) (call : Call) (next : Next Running) (enters : Bool)
    → is_changing call.command ≡ true → is_entered_behind (next_call call next) ≡ enters → (enters ≡ true → AnswersAs call.command (told_next next))
    → TakesNext old new before after calls history call next
    → TakesAll old.volume.size (left_of_all old.volume calls) new before after None (next_call call next) history (Ok call.command) later (reply_next call next)
takes_begun old new before after calls history later call (More running) enters changing entered told takes = takes
takes_begun old new before after calls history later call (HasEnded reply) enters changing entered told takes =
    takes later ∙ ap (λ (n : ℕ). before.fences + n) (sym (fences_made history call.command reply later (is_made call.command reply changing (told (sym entered)))))

-- memory isn't short for what it ends with
pub begun_reason : (before after : DeviceView) (history : State) (call : Call) (next : Next Running) (enters : Bool) → is_changing call.command ≡ true
    → is_entered_behind (next_call call next) ≡ enters → (enters ≡ true → AnswersAs call.command (told_next next))
    → HasReason before after None history (Ok call.command) (reply_next call next)
begun_reason before after history call (More running) enters changing entered told = tt
begun_reason before after history call (HasEnded reply) enters changing entered told =
    λ is. absurd (not_short reply (is_made call.command reply changing (told (sym entered))) is)

-- ---- a call without a plan

reader_none : (history : State) (command : Command) (later : State) → is_changing command ≡ false → fences_of_accepted history command later ≡ 0
reader_none history (Create path) later reads = absurd (true≢false reads)
reader_none history (Mkdir path) later reads = absurd (true≢false reads)
reader_none history (Link from to) later reads = absurd (true≢false reads)
reader_none history (Unlink path) later reads = absurd (true≢false reads)
reader_none history (Rmdir path) later reads = absurd (true≢false reads)
reader_none history (Rename from to) later reads = absurd (true≢false reads)
reader_none history (Write path offset bytes) later reads = absurd (true≢false reads)
reader_none history (Truncate path size) later reads = absurd (true≢false reads)
reader_none history (Read path offset count) later reads = refl
reader_none history (Tell path) later reads = refl
reader_none history (Show path) later reads = refl
reader_none history Df later reads = refl

reads_only : (changes : Bool) → (not changes || false) ≡ true → changes ≡ false
reads_only true none = absurd (true≢false (sym none))
reads_only false none = refl

none_told : (history : State) (line : Line) (reply : Reply) (later : State) → has_no_plan line (Plain reply) ≡ true → fences_of_reply history line (Plain reply) later ≡ 0
none_told history (Ok command) Done later none = reader_none history command later (reads_only (is_changing command) none)
none_told history (Ok command) (Count count) later none = reader_none history command later (reads_only (is_changing command) none)
none_told history (Err fault) Done later none = refl
none_told history (Err fault) (Count count) later none = refl
none_told history line (Status stat) later none = refl
none_told history line (Bytes count) later none = refl
none_told history line (Names inode count) later none = refl
none_told history line (Space free) later none = refl
none_told history line (Refused refusal) later none = refl
none_told history line (Unread fault) later none = refl
none_told history line Fault later none = refl
none_told history line Stopped later none = refl

pub none_taken : (history : State) (line : Line) (answer : WeaveReply) (later : State) → has_no_plan line answer ≡ true → fences_of_reply history line answer later ≡ 0
none_taken history line (Busy inode holder) later none = refl
none_taken history line (Plain reply) later none = none_told history line reply later none

-- so it takes none where its device has none more
pub takes_none : (P : ℕ) (others : Residue) (new : VolumeView) (before after : DeviceView) (history : State) (line : Line) (number : ℕ) (answer : WeaveReply)
    → has_no_plan line answer ≡ true → after.fences ≡ before.fences → TakesAll P others new before after None None history line history (Ended number answer)
takes_none P others new before after history line number answer none same =
    let count = none_taken history line answer history none in omega (arith, same, count)

-- ---- from before its preparing

pub takes_back : (P Q : ℕ) (left others : Residue) (new : VolumeView) (before between after : DeviceView) (behind : Option Call) (history : State) (line : Line) (later : State)
    (reply : StepReply) → P ≡ Q → left ≡ others → between.fences ≡ before.fences → TakesAll P left new between after None behind history line later reply
    → TakesAll Q others new before after None behind history line later reply
takes_back P Q left others new before between after (Some call) history line later reply size same fences takes =
    subst (λ (residue : Residue). HasLeft Q residue new history call) same (subst (λ (n : ℕ). HasLeft n left new history call) size takes)
takes_back P Q left others new before between after None history line later (RunsOn number) size same fences takes = takes
takes_back P Q left others new before between after None history line later (Ended number answer) size same fences takes =
    takes ∙ ap (λ (n : ℕ). n + fences_of_reply history line answer later) fences
