-- A call that makes a node has its entry in no first step, so that its node has the inode which it was given when it began.
use Rattle.std.proofs.Common.{◌≡◌, inl, inr, ℕ, ◌+◌, ◌≤◌, true, Option, None, Some, Ok, Err, refl, sym, ap, subst, ◌∙◌, arith}
use Rattle.std.proofs.lemmas.Bool.{true≢false, cases_eq}
use Rattle.std.proofs.lemmas.Option.{same_Some}
use Rattle.pm_trait.specs.DeviceView.{DeviceView}
use Rattle.tree_model.specs.Capacity.{Supply}
use Rattle.tree_model.specs.Fences.{fences_of_accepted}
use Rattle.tree_model.specs.Run.{State, Line}
use Rattle.tree_model.specs.Step as answers
use Rattle.tree_model.specs.Step.{answer_of}
use Rattle.tree_model.specs.Tree.{Tree, Room}
use Rattle.tree_model.specs.declared.command.Command.{Command}
use Rattle.tree_model.specs.declared.command.Command.TheVariants.{Create, Mkdir, Link, Unlink, Rmdir, Rename, Write, Truncate, Read, Stat as Tell, List as Show, Df}
use Rattle.tree_model.specs.declared.reply.Reply.TheVariants.{Done}
use Rattle.naming_laws.specs.Naming.{inode_need}
use Rattle.image_reading.specs.Residue.{Residue}
use Rattle.volume.specs.Volume.{VolumeView}
use Rattle.running_calls.specs.declared.running.Running.{Running}
use Rattle.running_calls.specs.declared.running.Running.TheVariants.{Makes, Links, Removes, Moves, Writes, Resizes}
use Rattle.running_laws.specs.Steps.{has_committed, given_inode}
use Rattle.session_laws.specs.Calls.{Call, Calls, AreIdle, call_at}
use Rattle.sessions.specs.Interleave.{AllWait, idle, beside, alone}
use Rattle.sessions.specs.Steps.{IsCallAt, IsToldAs, IsBusyRightly, IsBusyWhere, TakesAll, is_entered_behind, fences_of_reply}
use Rattle.sessions.specs.declared.entry.StepReply.{StepReply}
use Rattle.sessions.specs.declared.entry.StepReply.TheVariants.{Running as RunsOn, Ended}
use Rattle.sessions.specs.declared.entry.WeaveReply.{WeaveReply}
use Rattle.sessions.specs.declared.entry.WeaveReply.TheVariants.{Plain, Busy}
use Rattle.sessions.proofs.GoesIds.{in_range}

-- ---- a command that makes a node

-- It is answered so, and takes two fences.
pub record MakesNode (c : Command) : Type 0 where
  pub done : (supply : Supply) (T : Tree) (room : Room) → answer_of supply T room c ≡ answers.Done
  pub two : (old new : State) → 2 ≤ fences_of_accepted old c new

pub makes_node : (c : Command) → inode_need c ≡ 1 → MakesNode c
makes_node (Create path) one = record { done = λ supply T room. refl; two = λ old new. omega arith }
makes_node (Mkdir path) one = record { done = λ supply T room. refl; two = λ old new. omega arith }
makes_node (Link from to) one = absurd (omega (arith, one))
makes_node (Unlink path) one = absurd (omega (arith, one))
makes_node (Rmdir path) one = absurd (omega (arith, one))
makes_node (Rename from to) one = absurd (omega (arith, one))
makes_node (Write path offset bytes) one = absurd (omega (arith, one))
makes_node (Truncate path size) one = absurd (omega (arith, one))
makes_node (Read path offset count) one = absurd (omega (arith, one))
makes_node (Tell path) one = absurd (omega (arith, one))
makes_node (Show path) one = absurd (omega (arith, one))
makes_node Df one = absurd (omega (arith, one))

-- ---- a call that runs on behind its commit

none_given : (running : Running) → has_committed running ≡ true → given_inode running ≡ 0
none_given (Makes running) committed = absurd (true≢false (sym committed))
none_given (Links running) committed = refl
none_given (Removes running) committed = refl
none_given (Moves running) committed = refl
none_given (Writes running) committed = refl
none_given (Resizes running) committed = refl

-- makes no node
committed_makes_none : (volume : VolumeView) (device : DeviceView) (words : State) (calls : Calls) (s : ℕ) (call : Call) → AllWait volume device words calls → call_at calls s ≡ Some call
    → has_committed call.running ≡ true → inode_need call.command ≡ 1 → ⊥
committed_makes_none volume device words calls s call (idle none going kept stands) runs committed one = let no_call = none s in cc
committed_makes_none volume device words calls s call (beside wait kept) runs committed one =
    let least = (in_range volume device words call.command _ call.running (wait.each s call runs).waits one).0 in
    let none = none_given call.running committed in
    omega (arith, least, none)
committed_makes_none volume device words calls s call (alone r moves waits begun) runs committed one = elim (cases_eq r s) [
  | inl here ↦
      let same = same_Some moves call (sym waits.runs ∙ ap (call_at calls) here ∙ runs) in
      let none = ap (λ (c : Call). inode_need c.command) (sym same) ∙ ap inode_need waits.command_is in
      omega (arith, one, none)
  | inr apart ↦ let no_call = waits.alone s apart in cc
]

-- ---- the first step of a call that gets its entry in it

same_command : (one other : Command) → ◌≡◌ {A = Line} (Ok one) (Ok other) → one ≡ other
same_command one other same = cc

-- At most one fence came, and so it makes no node.
pub first_makes_none : (P : ℕ) (others : Residue) (new : VolumeView) (before after : DeviceView) (later_calls : Calls) (history words later : State) (line : Line) (left : Option Call) (reply : StepReply)
    → call_at later_calls 0 ≡ left → is_entered_behind left ≡ true → IsCallAt None left line history.tree → AllWait new after words later_calls
    → TakesAll P others new before after None left history line later reply → after.fences ≤ before.fences + 1 → IsToldAs reply (Plain Done)
    → (c : Command) → line ≡ Ok c → inode_need c ≡ 1 → ⊥
first_makes_none P others new before after later_calls history words later line None (RunsOn number) runs entered call_is wait takes most told c line_is one = takes
first_makes_none P others new before after later_calls history words later line None (Ended number reply) runs entered call_is wait takes most told c line_is one =
    let fences = takes ∙ ap (λ (r : WeaveReply). before.fences + fences_of_reply history line r later) told
    ∙ ap (λ (l : Line). before.fences + fences_of_reply history l (Plain Done) later) line_is in
    let two = (makes_node c one).two history later in
    omega (arith, fences, two, most)
first_makes_none P others new before after later_calls history words later line (Some call) reply runs entered call_is wait takes most told c line_is one =
    committed_makes_none new after words later_calls 0 call wait runs entered (ap inode_need (same_command call.command c (sym call_is.0 ∙ line_is)) ∙ one)

-- Where no call runs none is in its way.
pub none_in_the_way : (calls : Calls) (history : State) (reply : StepReply) (answer : WeaveReply) (line : Line) → AreIdle calls → IsBusyRightly reply None calls history line
    → IsToldAs reply answer → (inode holder : ℕ) → answer ≡ Busy inode holder → ⊥
none_in_the_way calls history (RunsOn number) answer line none rightly told inode holder busy =
    let clash : ◌≡◌ {A = WeaveReply} (Busy inode holder) (Plain Done) = sym busy ∙ told in cc
none_in_the_way calls history (Ended number reply) answer (Ok c) none rightly told inode holder busy =
    let way = (subst (λ (r : WeaveReply). IsBusyWhere r calls history c) (told ∙ busy) rightly).1 in
    let no_call = none way.session in
    let runs = way.runs in
    cc
none_in_the_way calls history (Ended number reply) answer (Err fault) none rightly told inode holder busy = rightly inode holder (told ∙ busy)
