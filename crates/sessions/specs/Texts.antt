-- What is written of a reply.
use Rattle.std.specs.Prelude.{ℕ, List, [], ◌++◌, take, drop, Ok, Err}
use Rattle.pm_trait.specs.DeviceView.{DeviceView}
use Rattle.tree_model.specs.Tree.{Tree, bytes_of}
use Rattle.tree_model.specs.Step.{Answer, id_of, names_in}
use Rattle.tree_model.specs.Step as answers
use Rattle.tree_model.specs.Run.{Line}
use Rattle.tree_model.specs.declared.command.Command.{Command}
use Rattle.tree_model.specs.declared.command.Command.TheVariants.{Create, Mkdir, Link, Unlink, Rmdir, Rename, Write, Truncate, Read, Stat as Tell, List as Show, Df}
use Rattle.tree_model.specs.declared.reply.Reply.{Reply}
use Rattle.tree_model.specs.declared.reply.Reply.TheVariants.{Done, Count, Status, Bytes, Names, Space, Refused, Unread, Stopped, Fault}
use Rattle.script.specs.Texts.{answer_text, session_text, busy_text}
use Rattle.engine.specs.Replies.{IsReplyOf}
use Rattle.engine.specs.Session.{session_of}
use Rattle.sessions.specs.Interleave.{InterleaveView}
use Rattle.sessions.specs.declared.entry.WeaveReply.{WeaveReply}
use Rattle.sessions.specs.declared.entry.WeaveReply.TheVariants.{Plain, Busy}

-- the bytes that a command reads in a tree
abbrev pub bytes_read : Tree → Command → List ℕ
bytes_read T (Create path) = []
bytes_read T (Mkdir path) = []
bytes_read T (Link from to) = []
bytes_read T (Unlink path) = []
bytes_read T (Rmdir path) = []
bytes_read T (Rename from to) = []
bytes_read T (Write path offset bytes) = []
bytes_read T (Truncate path size) = []
bytes_read T (Read path offset count) = take count (drop offset (bytes_of T (id_of T path)))
bytes_read T (Tell path) = []
bytes_read T (Show path) = []
bytes_read T Df = []

abbrev pub bytes_of_line : Tree → Line → List ℕ
bytes_of_line T (Ok command) = bytes_read T command
bytes_of_line T (Err fault) = []

-- the answer that a reply to this line is, with the names of a listing and the bytes of a read in the tree
abbrev pub answer_in : Tree → Line → Reply → Answer
answer_in T line Done = answers.Done
answer_in T line (Count count) = answers.Count count
answer_in T line (Status stat) = answers.Status stat
answer_in T line (Bytes count) = answers.Bytes (bytes_of_line T line)
answer_in T line (Names inode count) = answers.Listed inode (names_in T inode)
answer_in T line (Space free) = answers.Space free
answer_in T line (Refused refusal) = answers.Refused refusal
answer_in T line (Unread fault) = answers.Unread fault
answer_in T line Fault = answers.Fault
answer_in T line Stopped = answers.Stopped

-- the line of a reply
abbrev pub weave_text : Tree → Line → WeaveReply → List ℕ
weave_text T line (Plain reply) = answer_text (answer_in T line reply)
weave_text T line (Busy inode holder) = busy_text inode holder

-- with the number of its session before it
abbrev pub told_text : ℕ → Tree → Line → WeaveReply → List ℕ
told_text session T line reply = session_text session ++ weave_text T line reply

-- the volume has these names, and these were the bytes read last
abbrev pub IsTold : InterleaveView → DeviceView → Tree → Line → WeaveReply → Type 0
IsTold weave device T line (Plain reply) = IsReplyOf (session_of weave.volume weave.bytes) device (answer_in T line reply) reply
IsTold weave device T line (Busy inode holder) = Unit {0}
