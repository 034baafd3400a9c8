-- What a crash between or within turns leaves.
use Rattle.std.specs.Prelude.{◌≡◌, ◌⊎◌, ℕ, ◌+◌, ◌≤◌, true, false, List, [], ◌∷◌}
use Rattle.tree_model.specs.declared.reply.Reply.{Reply}
use Rattle.tree_model.specs.declared.reply.Reply.TheVariants.{Done, Count, Status, Bytes, Names, Space, Refused, Unread, Stopped, Fault}
use Rattle.session_laws.specs.Calls.{call_at, ranges_of_all}
use Rattle.session_laws.specs.Histories.{IsCrashOf}
use Rattle.sessions.specs.Steps.{MayBeLeft, IsBeforeOrBehind, IsBeforeOrEntered}
use Rattle.sessions.specs.declared.entry.StepReply.{StepReply}
use Rattle.sessions.specs.declared.entry.StepReply.TheVariants.{Running, Ended}
use Rattle.sessions.specs.declared.entry.WeaveReply.TheVariants.{Plain, Busy}
use Rattle.schedules.specs.Turns.{Border, Turn}

-- ---- acknowledgements

-- of a call that ended, unless a fence has failed
abbrev pub acks_of_reply : Reply → ℕ
acks_of_reply Done = 1
acks_of_reply (Count count) = 1
acks_of_reply (Status stat) = 1
acks_of_reply (Bytes count) = 1
acks_of_reply (Names inode count) = 1
acks_of_reply (Space free) = 1
acks_of_reply (Refused refusal) = 1
acks_of_reply (Unread fault) = 1
acks_of_reply Fault = 0
acks_of_reply Stopped = 0

abbrev pub acks_in : StepReply → ℕ
acks_in (Running number) = 0
acks_in (Ended number (Plain reply)) = acks_of_reply reply
acks_in (Ended number (Busy inode holder)) = 1

abbrev pub acks_of_turns : List Turn → ℕ
acks_of_turns [] = 0
acks_of_turns (turn ∷ turns) = acks_in turn.reply + acks_of_turns turns

-- ---- a crash

-- The history before the step, unless it was acknowledged, or behind it; where the fence fails, before it or with the entry of a step that may commit. Bytes mix in ranges of running writes alone.
abbrev pub IsLeftIn : Border → Turn → ℕ → List ℕ → Type 0
IsLeftIn old turn acks image =
    (turn.behind.weave.volume.stopped ≡ false) × (acks ≤ acks_in turn.reply) × MayBeLeft old.weave.volume.size old.calls old.history turn.line (IsBeforeOrBehind old.history turn.behind.history acks) image
    ⊎ (old.weave.volume.stopped ≡ false) × (turn.behind.weave.volume.stopped ≡ true) × (acks ≡ 0)
    × MayBeLeft old.weave.volume.size old.calls old.history turn.line (IsBeforeOrEntered old.weave.volume.size (call_at old.calls turn.session) old.history turn.line) image

-- A crash comes within one of the turns, where the acknowledgements are those of the turns before it, and its own; or behind them all, or before any.
abbrev pub IsLeftBy : Border → List Turn → ℕ → List ℕ → Type 0
IsLeftBy old [] acks image = (acks ≡ 0) × IsCrashOf old.weave.volume.size image (ranges_of_all old.calls) old.history
IsLeftBy old (turn ∷ turns) acks image =
    IsLeftIn old turn acks image
    ⊎ (later : ℕ) × (acks ≡ acks_in turn.reply + later) × IsLeftBy turn.behind turns later image
