-- What the listing of a tree has written and what it has still to write, by the places on the way to the last path.
use Rattle.std.specs.Prelude.{◌≡◌, ◌⊎◌, ℕ, ◌+◌, ◌-◌, ◌<◌, ◌≤◌, true, if◌then◌else◌, List, [], ◌∷◌, ◌++◌, length, map, filter, drop, flat_map, slice_index_or, Some, is_some}
use Rattle.tree_model.specs.PathText.{Route}
use Rattle.tree_model.specs.Tree.{Tree, rest_after, id_at, is_directory, bytes_of}
use Rattle.tree_model.specs.Step.{names_in}
use Rattle.script.specs.Lines.{space}
use Rattle.script.specs.Texts.{bytes_text, entry_words, line_text}
use Rattle.volatile_index.specs.Index.{NodeView, entries_of}
use Rattle.engine.specs.declared.places.Place.{Place}

-- ---- a place: a directory, and which of its names comes next

abbrev pub place_at : ℕ → ℕ → Place
place_at directory next = record { directory = directory; next = next }

-- the name before the next one
abbrev pub name_passed : Tree → Place → List ℕ
name_passed T place = slice_index_or (names_in T place.directory) (place.next - 1) []

-- the path through places: the name before the next one of each
abbrev pub route_through : Tree → List Place → Route
route_through T places = map (λ place. name_passed T place) places

-- a place in the directory of this path
pub record IsPlaceAt (T : Tree) (path : Route) (place : Place) : Type 0 where
  pub named : id_at T path ≡ Some place.directory
  pub directory : is_directory T place.directory ≡ true
  pub within : place.next ≤ length (names_in T place.directory)

-- Places on the way below this path: the first is in its directory, and each other one in that of the path through those before it.
abbrev pub IsWayFrom : Tree → Route → List Place → Type 0
IsWayFrom T path [] = Unit {0}
IsWayFrom T path (place ∷ deeper) = IsPlaceAt T path place × IsWayFrom T (path ++ name_passed T place ∷ []) deeper

-- a name has been passed at each place
abbrev pub AreAllPassed : List Place → Type 0
AreAllPassed [] = Unit {0}
AreAllPassed (place ∷ deeper) = (1 ≤ place.next) × AreAllPassed deeper

-- and at each but the last, the deepest
abbrev pub ArePassed : List Place → Type 0
ArePassed [] = Unit {0}
ArePassed (place ∷ []) = Unit {0}
ArePassed (place ∷ deeper ∷ deepest) = (1 ≤ place.next) × ArePassed (deeper ∷ deepest)

-- places on the way from the root
pub record IsWay (T : Tree) (places : List Place) : Type 0 where
  pub way : IsWayFrom T [] places
  pub passed : ArePassed places

-- the path through these places names the inode
pub record LeadsTo (T : Tree) (places : List Place) (inode : ℕ) : Type 0 where
  pub way : IsWayFrom T [] places
  pub passed : AreAllPassed places
  pub named : id_at T (route_through T places) ≡ Some inode

-- no place has passed more names than the index has of its directory
abbrev pub AreWithin : List NodeView → List Place → Type 0
AreWithin index [] = Unit {0}
AreWithin index (place ∷ deeper) = (place.next ≤ length (entries_of index place.directory)) × AreWithin index deeper

-- ---- what comes after a place

-- the entry of a path, and those of the paths below it
abbrev pub entries_from : Tree → Route → List (Route × ℕ)
entries_from T path = filter (λ e. is_some (rest_after path e.0)) T.names.entries

-- those of the next name at a place and of each later one, each with all that is below it
abbrev pub entries_at : Tree → Route → Place → List (Route × ℕ)
entries_at T path place = flat_map (λ name. entries_from T (path ++ name ∷ [])) (drop place.next (names_in T place.directory))

-- those after the last path: what the deepest place has, then what each one above it has
abbrev pub entries_after : Tree → Route → List Place → List (Route × ℕ)
entries_after T path [] = []
entries_after T path (place ∷ deeper) = entries_after T (path ++ name_passed T place ∷ []) deeper ++ entries_at T path place

-- ---- the steps of a listing, as the places change

-- the deepest place is gone
pub record IsLeft (old new : List Place) : Type 0 where
  pub deepest : Place
  pub old_is : old ≡ new ++ deepest ∷ []

-- the deepest place has one name more behind it
pub record IsPassed (index : List NodeView) (old new : List Place) : Type 0 where
  pub front : List Place
  pub directory : ℕ
  pub next : ℕ
  pub within : next < length (entries_of index directory)
  pub old_is : old ≡ front ++ place_at directory next ∷ []
  pub new_is : new ≡ front ++ place_at directory (next + 1) ∷ []

-- nothing has changed, or the inode's first name has become the deepest place
abbrev pub IsSameOrEntered : ℕ → List Place → List Place → Type 0
IsSameOrEntered inode old new = (new ≡ old) ⊎ (new ≡ old ++ place_at inode 0 ∷ [])

-- ---- and what is written by them

-- The next name of the deepest place that has one was passed, and this inode's is the path through the places now.
pub record StepsOnto (T : Tree) (old new : List Place) (inode : ℕ) : Type 0 where
  pub leads : LeadsTo T new inode
  pub entries : entries_after T [] old ≡ entries_from T (route_through T new) ++ entries_after T [] new

-- The deepest place was left, which had no next name.
pub record StepsUp (T : Tree) (old new : List Place) : Type 0 where
  pub way : IsWay T new
  pub entries : entries_after T [] old ≡ entries_after T [] new

-- The entry of the path through the places is taken off what is to be written; a directory has become a place.
pub record StepsInto (T : Tree) (old new : List Place) (inode : ℕ) : Type 0 where
  pub way : IsWay T new
  pub entries : entries_from T (route_through T old) ++ entries_after T [] old ≡ (route_through T old, inode) ∷ entries_after T [] new

-- ---- the text

-- a line for each entry
abbrev pub lines_text : Tree → List (Route × ℕ) → List ℕ
lines_text T entries = flat_map (λ e. line_text (entry_words T e)) entries

-- what stands behind the path of a node
abbrev pub contents_text : Tree → ℕ → List ℕ
contents_text T inode = if is_directory T inode then [] else space ∷ bytes_text (bytes_of T inode)

-- the entries before those after the places
pub record AreBefore (T : Tree) (entries : List (Route × ℕ)) (places : List Place) : Type 0 where
  pub way : IsWay T places
  pub whole : T.names.entries ≡ entries ++ entries_after T [] places
