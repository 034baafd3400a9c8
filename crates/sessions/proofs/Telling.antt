-- What is written of a reply is there behind the step that ended its call: the bytes of a read, and the names of a listing.
use Rattle.std.proofs.Common.{◌≡◌, ◌≢◌, inl, inr, ℕ, Bool, true, false, length, take, drop, Option, None, Some, Ok, Err, refl, sym, ap, subst, ◌∙◌}
use Rattle.pm_trait.specs.DeviceView.{DeviceView}
use Rattle.tree_model.specs.Capacity.{Supply, untaken}
use Rattle.tree_model.specs.PathText.{Route}
use Rattle.tree_model.specs.Replies.{reply_of}
use Rattle.tree_model.specs.Run.{State, Line}
use Rattle.tree_model.specs.Tree.{Tree, is_directory, bytes_of}
use Rattle.tree_model.specs.Step.{id_of, names_in, refusal_with, answer_of, tree_after, outcome_of, step_with}
use Rattle.tree_model.specs.declared.command.Command.{Command}
use Rattle.tree_model.specs.declared.command.Command.TheVariants.{Create, Mkdir, Link, Unlink, Rmdir, Rename, Write, Truncate, Read, Stat as Tell, List as Show, Df}
use Rattle.tree_model.specs.declared.reply.Refusal.{Refusal}
use Rattle.tree_model.specs.declared.reply.Refusal.TheVariants.{NoMemory}
use Rattle.tree_model.specs.declared.reply.Reply.{Reply}
use Rattle.tree_model.specs.declared.reply.Reply.TheVariants.{Done, Count, Status, Bytes, Names, Space, Refused, Unread, Stopped, Fault}
use Rattle.mixing_laws.specs.Mixed.{IsMixed}
use Rattle.mixing_laws.proofs.Finds.{finds_alike_law}
use Rattle.image_counts.proofs.States.{state_law}
use Rattle.engine.specs.Replies.{IsReplyOf}
use Rattle.engine.specs.Session.{session_of}
use Rattle.engine.proofs.Told.{listed_there}
use Rattle.session_laws.specs.Calls.{Calls, ranges_of_all}
use Rattle.sessions.specs.History.{IsLegal, supply_of}
use Rattle.sessions.specs.Interleave.{InterleaveView}
use Rattle.sessions.specs.Laws.{TellsLaw}
use Rattle.sessions.specs.Steps.{StepsOn, Enters, HasEntered}
use Rattle.sessions.specs.Texts.{IsTold, answer_in, bytes_of_line}
use Rattle.sessions.specs.declared.entry.Entry.{Entry}
use Rattle.sessions.specs.declared.entry.StepReply.TheVariants.{Ended}
use Rattle.sessions.specs.declared.entry.WeaveReply.{WeaveReply}
use Rattle.sessions.specs.declared.entry.WeaveReply.TheVariants.{Plain, Busy}
use Rattle.sessions.proofs.AnswerCrash.{weaving_stands}

-- ---- which command has such a reply

-- a read of so many bytes in the tree, and a listing, which leaves the tree
pub record IsReadOf (T : Tree) (line : Line) (count : ℕ) : Type 0 where
  pub path : Route
  pub offset : ℕ
  pub most : ℕ
  pub line_is : line ≡ Ok (Read path offset most)
  pub count_is : count ≡ length (take most (drop offset (bytes_of T (id_of T path))))

pub record IsListOf (supply : Supply) (old new : State) (line : Line) (inode count : ℕ) : Type 0 where
  pub path : Route
  pub line_is : line ≡ Ok (Show path)
  pub accepted : refusal_with supply old.tree old.room (Show path) ≡ None
  pub inode_is : inode ≡ id_of old.tree path
  pub count_is : count ≡ length (names_in old.tree inode)
  pub tree : new.tree ≡ old.tree

module _ (supply : Supply) (id : ℕ) (old : State) where
  read_of_answer : (c : Command) (count : ℕ) → reply_of (answer_of supply old.tree old.room c) ≡ Bytes count → IsReadOf old.tree (Ok c) count
  read_of_answer (Create path) count is = absurd (cc is)
  read_of_answer (Mkdir path) count is = absurd (cc is)
  read_of_answer (Link from to) count is = absurd (cc is)
  read_of_answer (Unlink path) count is = absurd (cc is)
  read_of_answer (Rmdir path) count is = absurd (cc is)
  read_of_answer (Rename from to) count is = absurd (cc is)
  read_of_answer (Write path offset bytes) count is = absurd (cc is)
  read_of_answer (Truncate path size) count is = absurd (cc is)
  read_of_answer (Read path offset most) count is = record { path = path; offset = offset; most = most; line_is = refl; count_is = cc is }
  read_of_answer (Tell path) count is = absurd (cc is)
  read_of_answer (Show path) count is = absurd (cc is)
  read_of_answer Df count is = absurd (cc is)

  read_of_step : (o : Option Refusal) (c : Command) (count : ℕ) → reply_of (outcome_of o supply id old.tree old.room c).answer ≡ Bytes count → IsReadOf old.tree (Ok c) count
  read_of_step None c count is = read_of_answer c count is
  read_of_step (Some refusal) c count is = absurd (cc is)

  list_of_answer : (c : Command) (new : State) (inode count : ℕ) → refusal_with supply old.tree old.room c ≡ None → new.tree ≡ tree_after id old.tree c
      → reply_of (answer_of supply old.tree old.room c) ≡ Names inode count → IsListOf supply old new (Ok c) inode count
  list_of_answer (Create path) new inode count accepted tree is = absurd (cc is)
  list_of_answer (Mkdir path) new inode count accepted tree is = absurd (cc is)
  list_of_answer (Link from to) new inode count accepted tree is = absurd (cc is)
  list_of_answer (Unlink path) new inode count accepted tree is = absurd (cc is)
  list_of_answer (Rmdir path) new inode count accepted tree is = absurd (cc is)
  list_of_answer (Rename from to) new inode count accepted tree is = absurd (cc is)
  list_of_answer (Write path offset bytes) new inode count accepted tree is = absurd (cc is)
  list_of_answer (Truncate path size) new inode count accepted tree is = absurd (cc is)
  list_of_answer (Read path offset most) new inode count accepted tree is = absurd (cc is)
  list_of_answer (Tell path) new inode count accepted tree is = absurd (cc is)
  list_of_answer (Show path) new inode count accepted tree is =
      let inodes : id_of old.tree path ≡ inode = cc is in
      let counts : length (names_in old.tree (id_of old.tree path)) ≡ count = cc is in
      record {
        path = path;
        line_is = refl;
        accepted = accepted;
        inode_is = sym inodes;
        count_is = sym counts ∙ ap (λ (i : ℕ). length (names_in old.tree i)) inodes;
        tree = tree;
      }
  list_of_answer Df new inode count accepted tree is = absurd (cc is)

  list_of_step : (o : Option Refusal) (c : Command) (new : State) (inode count : ℕ) → refusal_with supply old.tree old.room c ≡ o
      → new.tree ≡ (outcome_of o supply id old.tree old.room c).tree → reply_of (outcome_of o supply id old.tree old.room c).answer ≡ Names inode count
      → IsListOf supply old new (Ok c) inode count
  list_of_step None c new inode count refusal tree is = list_of_answer c new inode count refusal tree is
  list_of_step (Some refusal) c new inode count refused tree is = absurd (cc is)

-- ---- an entry that tells it

plain_is : (entry : Entry) (one other : Reply) → entry.reply ≡ Plain one → entry.reply ≡ Plain other → one ≡ other
plain_is entry one other is told = let same : ◌≡◌ {A = WeaveReply} (Plain one) (Plain other) = sym is ∙ told in cc

not_busy : (entry : Entry) (told : Reply) (inode holder : ℕ) → entry.reply ≡ Busy inode holder → entry.reply ≡ Plain told → ⊥
not_busy entry told inode holder is plain = let clash : ◌≡◌ {A = WeaveReply} (Busy inode holder) (Plain told) = sym is ∙ plain in cc

pub read_entered : (volume : ℕ) (entry : Entry) (line : Line) (old new : State) (count : ℕ) → IsLegal volume entry line old new → entry.reply ≡ Plain (Bytes count) → IsReadOf old.tree line count
read_entered volume entry (Ok c) old new count (inl steps) told =
    read_of_step (supply_of volume entry) steps.id old (refusal_with (supply_of volume entry) old.tree old.room c) c count
    (plain_is entry (reply_of (step_with (supply_of volume entry) steps.id old.tree old.room c).answer) (Bytes count) steps.reply_is told)
read_entered volume entry (Ok c) old new count (inr (inl lacks)) told = absurd (cc (plain_is entry (Refused NoMemory) (Bytes count) lacks.reply_is told))
read_entered volume entry (Ok c) old new count (inr (inr busy)) told = absurd (not_busy entry (Bytes count) busy.inode busy.holder busy.reply_is told)
read_entered volume entry (Err fault) old new count (unread, same) told = absurd (cc (plain_is entry (Unread fault) (Bytes count) unread told))

list_entered : (volume : ℕ) (entry : Entry) (line : Line) (old new : State) (inode count : ℕ) → IsLegal volume entry line old new → entry.reply ≡ Plain (Names inode count)
    → IsListOf (supply_of volume entry) old new line inode count
list_entered volume entry (Ok c) old new inode count (inl steps) told =
    list_of_step (supply_of volume entry) steps.id old (refusal_with (supply_of volume entry) old.tree old.room c) c new inode count refl steps.tree
    (plain_is entry (reply_of (step_with (supply_of volume entry) steps.id old.tree old.room c).answer) (Names inode count) steps.reply_is told)
list_entered volume entry (Ok c) old new inode count (inr (inl lacks)) told = absurd (cc (plain_is entry (Refused NoMemory) (Names inode count) lacks.reply_is told))
list_entered volume entry (Ok c) old new inode count (inr (inr busy)) told = absurd (not_busy entry (Names inode count) busy.inode busy.holder busy.reply_is told)
list_entered volume entry (Err fault) old new inode count (unread, same) told = absurd (cc (plain_is entry (Unread fault) (Names inode count) unread told))

-- ---- trees with the same paths

ids_same : (one other : Tree) (path : Route) → one.names ≡ other.names → id_of one path ≡ id_of other path
ids_same one other path same = ap (λ names. id_of (record { names = names; nodes = one.nodes }) path) same

names_same : (one other : Tree) (inode : ℕ) → one.names ≡ other.names → names_in one inode ≡ names_in other inode
names_same one other inode same = ap (λ names. names_in (record { names = names; nodes = one.nodes }) inode) same

-- ---- behind the step

module _ (old new : InterleaveView) (before after : DeviceView) (calls : Calls) (history : State) (session : ℕ) (line : Line) (number : ℕ) where
  -- the entry of a call that ended otherwise than `Done`
  entered : (b : Bool) (later : State) (told : Reply) → Done ≢ told → Enters b old new calls session line history later (Ended number (Plain told))
      → HasEntered old new calls session line history later (Ended number (Plain told))
  entered true later told other enters = enters
  entered false later told other none = absurd (other (let same : ◌≡◌ {A = WeaveReply} (Plain told) (Plain Done) = none.told in cc))

  bytes_told : (count : ℕ) → StepsOn old new before after calls history session line (Ended number (Plain (Bytes count)))
      → IsReplyOf (session_of new.volume new.bytes) after (answer_in history.tree line (Bytes count)) (Bytes count)
  bytes_told count on =
      let has = entered _ on.later (Bytes count) (λ same. cc same) on.enters in
      let read = read_entered old.volume.size has.entry line history on.later count has.legal (sym has.told) in
      let bytes = on.bytes.read read.path read.offset read.most count read.line_is refl in
      let as_line : bytes_of_line history.tree line ≡ take read.most (drop read.offset (bytes_of history.tree (id_of history.tree read.path))) =
      ap (bytes_of_line history.tree) read.line_is in
      record { reply_is = ap Bytes (read.count_is ∙ ap length (sym as_line)); told = bytes ∙ sym as_line }

  names_told : (inode count : ℕ) → StepsOn old new before after calls history session line (Ended number (Plain (Names inode count)))
      → IsReplyOf (session_of new.volume new.bytes) after (answer_in history.tree line (Names inode count)) (Names inode count)
  names_told inode count on =
      let has = entered _ on.later (Names inode count) (λ same. cc same) on.enters in
      let lists = list_entered old.volume.size has.entry line history on.later inode count has.legal (sym has.told) in
      let there = weaving_stands new after on.later_calls on.later on.weaving in
      let words = on.weaving.words in
      let mixed = subst (λ (T : Tree). IsMixed (ranges_of_all on.later_calls) T words.tree) lists.tree on.weaving.history_is.tree in
      let alike = (finds_alike_law (untaken new.volume.size) words.room (Show lists.path) (ranges_of_all on.later_calls) history.tree words.tree mixed).refusal in
      let tree = (state_law new.volume.size after.words words there.stands.sound.coherent there.stands.reads).tree in
      let directory = listed_there new.volume.size words.tree words.room lists.path tree (alike ∙ lists.accepted) in
      let inode_is = lists.inode_is ∙ sym (ids_same words.tree history.tree lists.path mixed.names) in
      record {
        reply_is = ap (Names inode) lists.count_is;
        told = record {
          state = words;
          residue = there.residue;
          stands = there.stands;
          going = there.going;
          directory = ap (is_directory words.tree) inode_is ∙ directory;
          names_are = sym (names_same words.tree history.tree inode mixed.names);
        };
      }

  told : (reply : WeaveReply) → StepsOn old new before after calls history session line (Ended number reply) → IsTold new after history.tree line reply
  told (Busy inode holder) on = tt
  told (Plain Done) on = record { reply_is = refl; told = tt }
  told (Plain (Count count)) on = record { reply_is = refl; told = tt }
  told (Plain (Status stat)) on = record { reply_is = refl; told = tt }
  told (Plain (Bytes count)) on = bytes_told count on
  told (Plain (Names inode count)) on = names_told inode count on
  told (Plain (Space free)) on = record { reply_is = refl; told = tt }
  told (Plain (Refused refusal)) on = record { reply_is = refl; told = tt }
  told (Plain (Unread fault)) on = record { reply_is = refl; told = tt }
  told (Plain Stopped) on = record { reply_is = refl; told = tt }
  told (Plain Fault) on = record { reply_is = refl; told = tt }

pub tells_law : TellsLaw
tells_law old new before after calls history session line number reply on = told old new before after calls history session line number reply on

-- ---- written

-- it is told of what the code has too
pub told_there : (weave inside : InterleaveView) (device : DeviceView) (T : Tree) (line : Line) (reply : WeaveReply) (plain : Reply) → inside ≡ weave → reply ≡ Plain plain
    → IsTold weave device T line reply → IsReplyOf (session_of inside.volume inside.bytes) device (answer_in T line plain) plain
told_there weave inside device T line reply plain same is told =
    subst (λ (w : InterleaveView). IsReplyOf (session_of w.volume w.bytes) device (answer_in T line plain) plain) (sym same) (subst (IsTold weave device T line) is told)
