-- An accepted command has a room after it, and the plain answer and state of a line are an answer and a state of it.
use Rattle.std.proofs.Common.{◌≡◌, ℕ, inl, inr, Bool, true, false, cond, ◌&&◌, Option, Some, None, is_none, Ok, Err, refl, sym, ap, subst, ◌∙◌, true≢false}
use Rattle.layout.specs.Geometry.{IsVolumeSize}
use Rattle.tree_model.specs.Tree.{Tree, Room, IsTree, IsRoom, is_directory, room_fits}
use Rattle.tree_model.specs.Capacity.{Supply, untaken, Fits}
use Rattle.tree_model.specs.Step.{Answer, gaining, losing, refusal_of, refusal_with, outcome_of, step, tree_after, room_after, least_free_id, RoomAfter, RoomAfterWith}
use Rattle.tree_model.specs.Run.{State, Line, IsVolumeState, fresh_state, LineStep, is_changing, plain_answer, plain_next, plain_state}
use Rattle.tree_model.specs.declared.command.Command.{Command}
use Rattle.tree_model.specs.declared.command.Command.TheVariants.{Create, Mkdir, Link, Unlink, Rmdir, Rename, Write, Truncate, Read, Stat as Tell, List as Show, Df}
use Rattle.tree_model.specs.declared.reply.Refusal.{Refusal}
use Rattle.tree_model.proofs.RoomLaws.{room_after-same}
use Rattle.tree_model.proofs.StepLaws.{IsTree-fresh, IsTree-step}
use Rattle.tree_model.proofs.FitsLaws.{IsRoom-fresh, IsRoom-step, Fits-fresh, Fits-step}
use Rattle.tree_model.proofs.RoomsKept.{NamesMove, has_room}
use Rattle.tree_model.proofs.NamesMoves.{NamesMove-create, NamesMove-mkdir, NamesMove-link, NamesMove-unlink, NamesMove-rmdir, NamesMove-write, NamesMove-same}
use Rattle.tree_model.proofs.RenameMoves.{NamesMove-rename}

NamesMove-accepted : (supply : Supply) (T : Tree) (room : Room) (id : ℕ) (c : Command) → IsTree T → refusal_with supply T room c ≡ None → NamesMove T c (tree_after id T c)
NamesMove-accepted supply T room id (Create path) t e = NamesMove-create supply T room id path t e
NamesMove-accepted supply T room id (Mkdir path) t e = NamesMove-mkdir supply T room id path t e
NamesMove-accepted supply T room id (Link from to) t e = NamesMove-link supply T room id from to t e
NamesMove-accepted supply T room id (Unlink path) t e = NamesMove-unlink supply T room id path t e
NamesMove-accepted supply T room id (Rmdir path) t e = NamesMove-rmdir supply T room id path t e
NamesMove-accepted supply T room id (Rename from to) t e = NamesMove-rename supply T room id from to t e
NamesMove-accepted supply T room id (Write path offset bytes) t e = NamesMove-write T id path offset bytes
NamesMove-accepted supply T room id (Truncate path size) t e = NamesMove-same T (tree_after id T (Truncate path size)) (Truncate path size) refl refl refl
NamesMove-accepted supply T room id (Read path offset count) t e = NamesMove-same T T (Read path offset count) refl refl refl
NamesMove-accepted supply T room id (Tell path) t e = NamesMove-same T T (Tell path) refl refl refl
NamesMove-accepted supply T room id (Show path) t e = NamesMove-same T T (Show path) refl refl refl
NamesMove-accepted supply T room id Df t e = NamesMove-same T T Df refl refl refl

accepted_room : (supply : Supply) (T : Tree) (room : Room) (id : ℕ) (c : Command) → IsTree T → IsRoom T room → refusal_with supply T room c ≡ None
    → (gives : Bool) × IsRoom (tree_after id T c) (room_after id T room c gives)
accepted_room supply T room id c t fits e = has_room T room c id t fits (NamesMove-accepted supply T room id c t e)

pub room_after-is_there : (supply : Supply) (id : ℕ) (T : Tree) (room : Room) (c : Command) (o : Option Refusal) → refusal_with supply T room c ≡ o → IsTree T → IsRoom T room
    → (new : Room) × RoomAfterWith o id T room c new
room_after-is_there supply id T room c None e t fits =
    let there = accepted_room supply T room id c t fits e in (room_after id T room c there.0, (there.0, refl, there.1))
room_after-is_there supply id T room c (Some refusal) e t fits = (room, refl)

-- ---- the plain run

-- the room that keeps a page where it may is one of the two
kept_or_given-room : (T : Tree) (room : Room) (id : ℕ) (c : Command) (gives kept : Bool) → IsRoom (tree_after id T c) (room_after id T room c gives)
    → room_fits (tree_after id T c) (room_after id T room c false) ≡ kept
    → RoomAfterWith None id T room c (cond kept (room_after id T room c false) (room_after id T room c true))
kept_or_given-room T room id c gives true fits is = (false, refl, is)
kept_or_given-room T room id c true false fits is = (true, refl, fits)
kept_or_given-room T room id c false false fits is = absurd (true≢false (sym fits ∙ is))

-- a reading command leaves tree and room
unchanging : (volume : ℕ) (old : State) (c : Command) → is_changing c ≡ false → old.tree ≡ tree_after (least_free_id old.tree) old.tree c
unchanging volume old (Create path) e = absurd (true≢false e)
unchanging volume old (Mkdir path) e = absurd (true≢false e)
unchanging volume old (Link from to) e = absurd (true≢false e)
unchanging volume old (Unlink path) e = absurd (true≢false e)
unchanging volume old (Rmdir path) e = absurd (true≢false e)
unchanging volume old (Rename from to) e = absurd (true≢false e)
unchanging volume old (Write path offset bytes) e = absurd (true≢false e)
unchanging volume old (Truncate path size) e = absurd (true≢false e)
unchanging volume old (Read path offset count) e = refl
unchanging volume old (Tell path) e = refl
unchanging volume old (Show path) e = refl
unchanging volume old Df e = refl

-- and what it leaves is what may be after it
abbrev pub LeavesPlain : Option Refusal → Bool → ℕ → State → Command → Type 0
LeavesPlain o changes volume old c =
    ((plain_state (changes && is_none o) volume old c).tree ≡ (outcome_of o (untaken volume) (least_free_id old.tree) old.tree old.room c).tree)
    × RoomAfter o old.tree old.room c (plain_state (changes && is_none o) volume old c).room

directories_stay : (volume : ℕ) (old : State) (c : Command) → is_changing c ≡ false → (d : ℕ) → is_directory (tree_after (least_free_id old.tree) old.tree c) d ≡ is_directory old.tree d
directories_stay volume old c e d = ap (λ T. is_directory T d) (sym (unchanging volume old c e))

gains_nothing : (T : Tree) (c : Command) → is_changing c ≡ false → (gaining T c ≡ None) × (losing T c ≡ None)
gains_nothing T (Create path) e = absurd (true≢false e)
gains_nothing T (Mkdir path) e = absurd (true≢false e)
gains_nothing T (Link from to) e = absurd (true≢false e)
gains_nothing T (Unlink path) e = absurd (true≢false e)
gains_nothing T (Rmdir path) e = absurd (true≢false e)
gains_nothing T (Rename from to) e = absurd (true≢false e)
gains_nothing T (Write path offset bytes) e = absurd (true≢false e)
gains_nothing T (Truncate path size) e = absurd (true≢false e)
gains_nothing T (Read path offset count) e = (refl, refl)
gains_nothing T (Tell path) e = (refl, refl)
gains_nothing T (Show path) e = (refl, refl)
gains_nothing T Df e = (refl, refl)

leaves_plain : (o : Option Refusal) (changes : Bool) (volume : ℕ) (old : State) (c : Command) → refusal_of volume old.tree old.room c ≡ o → is_changing c ≡ changes
    → IsTree old.tree → IsRoom old.tree old.room → LeavesPlain o changes volume old c
leaves_plain (Some refusal) true volume old c e is t fits = (refl, refl)
leaves_plain (Some refusal) false volume old c e is t fits = (refl, refl)
leaves_plain None true volume old c e is t fits =
    let id = least_free_id old.tree in
    let there = accepted_room (untaken volume) old.tree old.room id c t fits e in
    (refl, kept_or_given-room old.tree old.room id c there.0 (room_fits (tree_after id old.tree c) (room_after id old.tree old.room c false)) there.1 refl)
leaves_plain None false volume old c e is t fits =
    let id = least_free_id old.tree in
    let nothing = gains_nothing old.tree c is in
    let stays = room_after-same id old.tree old.room c false fits nothing.0 nothing.1 (directories_stay volume old c is) in
    (unchanging volume old c is, (false, sym stays, subst (λ T. IsRoom T old.room) (unchanging volume old c is) fits))

pub plain_line : (volume : ℕ) (old : State) (line : Line) → IsVolumeState volume old → LineStep volume old line (plain_answer volume old line) (plain_next volume old line)
plain_line volume old (Ok c) state =
    let left = leaves_plain (refusal_of volume old.tree old.room c) (is_changing c) volume old c refl refl state.tree state.room in
    inl (record { answered = refl; tree = left.0; room = left.1 })
plain_line volume old (Err fault) state = (refl, refl)

-- ---- states of the volume

state_after : (volume : ℕ) (old new : State) (c : Command) → IsVolumeState volume old → new.tree ≡ (step volume old.tree old.room c).tree
    → RoomAfter (refusal_of volume old.tree old.room c) old.tree old.room c new.room → IsVolumeState volume new
state_after volume old new c state tree room =
    let kept = Fits-step volume old.tree old.room new.room c state.tree state.room state.fits room in
    let kept_room = IsRoom-step volume old.tree old.room new.room c state.room room in
    record {
      tree = subst IsTree (sym tree) (IsTree-step volume old.tree old.room c state.tree);
      room = subst (λ T. IsRoom T new.room) (sym tree) kept_room;
      fits = subst (λ T. Fits volume T new.room) (sym tree) kept;
    }

pub IsVolumeState-line : (volume : ℕ) (old new : State) (line : Line) (answer : Answer) → IsVolumeState volume old → LineStep volume old line answer new → IsVolumeState volume new
IsVolumeState-line volume old new (Ok c) answer state (inl done) = state_after volume old new c state done.tree done.room
IsVolumeState-line volume old new (Ok c) answer state (inr lacks) = subst (IsVolumeState volume) (sym lacks.unchanged) state
IsVolumeState-line volume old new (Err fault) answer state same = subst (IsVolumeState volume) (sym same.1) state

pub IsVolumeState-fresh : (volume : ℕ) → IsVolumeSize volume → IsVolumeState volume fresh_state
IsVolumeState-fresh volume size = record { tree = IsTree-fresh; room = IsRoom-fresh; fits = Fits-fresh volume size }
