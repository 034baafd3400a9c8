-- The text of a reply that carries its whole answer: each but those to a read and to a listing.
use Rattle.std.specs.Prelude.{ℕ, List, []}
use Rattle.tree_model.specs.Step.{Answer, Done, Count, Status, Bytes, Listed, Space, Refused, Unread, Fault, Stopped}
use Rattle.tree_model.specs.declared.reply.Reply.{Reply}
use Rattle.tree_model.specs.declared.reply.Reply.TheVariants as reply
use Rattle.script.specs.Texts.{answer_text}

abbrev pub IsPlain : Reply → Type 0
IsPlain reply.Done = Unit {0}
IsPlain (reply.Count n) = Unit {0}
IsPlain (reply.Status s) = Unit {0}
IsPlain (reply.Bytes n) = ⊥
IsPlain (reply.Names directory n) = ⊥
IsPlain (reply.Space f) = Unit {0}
IsPlain (reply.Refused refusal) = Unit {0}
IsPlain (reply.Unread fault) = Unit {0}
IsPlain reply.Fault = Unit {0}
IsPlain reply.Stopped = Unit {0}

-- the answer that a plain reply carries; without the bytes of a read and the names of a listing
abbrev pub carried : Reply → Answer
carried reply.Done = Done
carried (reply.Count n) = Count n
carried (reply.Status s) = Status s
carried (reply.Bytes n) = Bytes []
carried (reply.Names directory n) = Listed directory []
carried (reply.Space f) = Space f
carried (reply.Refused refusal) = Refused refusal
carried (reply.Unread fault) = Unread fault
carried reply.Fault = Fault
carried reply.Stopped = Stopped

abbrev pub reply_text : Reply → List ℕ
reply_text reply = answer_text (carried reply)
