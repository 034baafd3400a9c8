-- Two trees while files are being written: the words of a volume may have bytes of a write that isn't in the tree of its history yet.
use Rattle.std.specs.Prelude.{◌≡◌, ◌↔◌, ℕ, ◌<◌, IsTrue, true, Bool, List, [], ◌∷◌, length, map, Some, None}
use Rattle.std.specs.List.{Contains}
use Rattle.tree_model.specs.Allowed.{is_mix}
use Rattle.tree_model.specs.PathText.{Route}
use Rattle.tree_model.specs.Tree.{Tree, Room, id_at, node_at, bytes_of, is_file}
use Rattle.tree_model.specs.Capacity.{Supply}
use Rattle.tree_model.specs.Step.{walk_faults, need, refusal_with, answer_of, tree_after, room_after, with_bytes, resized, overwritten}
use Rattle.tree_model.specs.Run.{IsVolumeState}
use Rattle.tree_model.specs.declared.command.Command.{Command}
use Rattle.tree_model.specs.declared.command.Command.TheVariants.{Write, Truncate}
use Rattle.image_reading.specs.Counts.{IsIn}
use Rattle.naming_laws.specs.Naming.{names_inode}

-- a write that runs: its file, and the range that it writes
pub record Range : Type 0 where
  pub file : ℕ
  pub offset : ℕ
  pub bytes : List ℕ

abbrev pub files_of : List Range → List ℕ
files_of ranges = map (λ range. range.file) ranges

-- The file is in both trees, and each of its bytes is the one that it was, or, in the range, the one that is written there.
pub record IsMixedFile (range : Range) (T U : Tree) : Type 0 where
  pub file : is_file T range.file ≡ true
  pub file_still : is_file U range.file ≡ true
  pub bytes : IsTrue (is_mix range.offset range.bytes 0 (bytes_of T range.file) (bytes_of U range.file))

-- U is T but for bytes of these ranges.
pub record IsMixed (ranges : List Range) (T U : Tree) : Type 0 where
  pub names : U.names ≡ T.names
  pub others : (id : ℕ) → ¬ IsIn id (files_of ranges) → node_at U id ≡ node_at T id
  pub files : (range : Range) → Contains ranges range → IsMixedFile range T U

-- ---- where nothing is written

abbrev pub NoneMixedLaw : Type 0
NoneMixedLaw = (T U : Tree) → IsMixed [] T U ↔ (U ≡ T)

-- The order of the ranges doesn't matter.
abbrev pub MixedInOrderLaw : Type 0
MixedInOrderLaw = (ranges others : List Range) (T U : Tree) → ((range : Range) → Contains ranges range ↔ Contains others range) → IsMixed ranges T U → IsMixed others T U

-- ---- a range is begun

-- Bytes of one more range are stored; a write that has stored none of its bytes is one too.
abbrev pub MoreMixedLaw : Type 0
MoreMixedLaw = (ranges : List Range) (range : Range) (T U : Tree) (mixed : List ℕ) → IsMixed ranges T U → ¬ IsIn range.file (files_of ranges) → is_file U range.file ≡ true
    → IsTrue (is_mix range.offset range.bytes 0 (bytes_of U range.file) mixed) → IsMixed (range ∷ ranges) T (with_bytes U range.file mixed)

abbrev pub UnmixedLaw : Type 0
UnmixedLaw = (ranges : List Range) (range : Range) (T U : Tree) → IsMixed ranges T U → ¬ IsIn range.file (files_of ranges) → is_file U range.file ≡ true → IsMixed (range ∷ ranges) T U

-- the part of a range that lies below the size
abbrev pub StoredBelowLaw : Type 0
StoredBelowLaw = (offset : ℕ) (bytes old : List ℕ) → IsTrue (is_mix offset bytes 0 old (resized (overwritten old offset bytes) (length old)))

-- ---- what a command finds and does

-- The command finds the same in both trees: no fault hangs on a byte.
pub record FindsAlike (supply : Supply) (room : Room) (c : Command) (T U : Tree) : Type 0 where
  pub walks : walk_faults U c ≡ walk_faults T c
  pub named : (id : ℕ) → names_inode U c id ≡ names_inode T c id
  pub refusal : refusal_with supply U room c ≡ refusal_with supply T room c
  pub need : need U room c ≡ need T room c

abbrev pub FindsAlikeLaw : Type 0
FindsAlikeLaw = (supply : Supply) (room : Room) (c : Command) (ranges : List Range) (T U : Tree) → IsMixed ranges T U → FindsAlike supply room c T U

-- It gives the same answer, and leaves the same room and trees that differ in bytes of these ranges alone.
pub record DoesAlike (supply : Supply) (id : ℕ) (room : Room) (c : Command) (T U : Tree) (ranges : List Range) : Type 0 where
  pub answer : answer_of supply U room c ≡ answer_of supply T room c
  pub tree : IsMixed ranges (tree_after id T c) (tree_after id U c)
  pub room_same : (gives : Bool) → room_after id U room c gives ≡ room_after id T room c gives

-- A command that names none of the files
abbrev pub DoesAlikeLaw : Type 0
DoesAlikeLaw = (volume : ℕ) (supply : Supply) (id : ℕ) (ranges : List Range) (T U : Tree) (room : Room) (c : Command) → IsVolumeState volume (record { tree = U; room = room })
    → refusal_with supply U room c ≡ None → node_at U id ≡ None → ((file : ℕ) → names_inode U c file ≡ true → ¬ IsIn file (files_of ranges)) → IsMixed ranges T U
    → DoesAlike supply id room c T U ranges

-- the command writes this range, or it is a truncation, which has none
pub data IsOfRange (range : Range) (path : Route) : Command → Type 0 where
  write : 0 < length range.bytes → IsOfRange range path (Write path range.offset range.bytes)
  truncate : (size : ℕ) → range.bytes ≡ [] → IsOfRange range path (Truncate path size)

-- and the write of a range itself, after which nothing of it is mixed
abbrev pub OwnRangeLaw : Type 0
OwnRangeLaw = (volume : ℕ) (supply : Supply) (id : ℕ) (range : Range) (ranges : List Range) (T U : Tree) (room : Room) (path : Route) (c : Command) → IsVolumeState volume (record { tree = U; room = room })
    → IsOfRange range path c → id_at U path ≡ Some range.file → ¬ IsIn range.file (files_of ranges) → IsMixed (range ∷ ranges) T U → DoesAlike supply id room c T U ranges
