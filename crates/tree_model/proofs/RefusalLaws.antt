-- No row of refusals has NoMemory: that comes of memory alone.
use Rattle.std.proofs.Common.{◌≢◌, Bool, true, false, cond, ℕ, List, [], ◌∷◌, ◌++◌, Option, Some, None, Result, Ok, Err}
use Rattle.tree_model.specs.PathText.{Route}
use Rattle.tree_model.specs.Tree.{Tree, Room, parent, id_at, is_directory}
use Rattle.tree_model.specs.Capacity.{Supply, untaken}
use Rattle.tree_model.specs.Walk.{Place, root_place, place_at, walk, walk_on, walk_to_parent, step_into, only_directory}
use Rattle.tree_model.specs.Step.{first, at, fault_of, walk_faults, later_faults, faults_of_rename, refusal_of, is_same_node}
use Rattle.tree_model.specs.declared.command.Command.{Command}
use Rattle.tree_model.specs.declared.command.Command.TheVariants.{Create, Mkdir, Link, Unlink, Rmdir, Rename, Write, Truncate, Read, Stat as Tell, List as Show, Df}
use Rattle.tree_model.specs.declared.reply.Refusal.{Refusal}
use Rattle.tree_model.specs.declared.reply.Refusal.TheVariants.{NotDir, Root, Exists, IsDir, NotEmpty, IntoItself, TooBig, NoInodes, NoPages, NoMemory}

-- ---- rows

abbrev IsOther : Option Refusal → Type 0
IsOther fault = fault ≢ Some NoMemory

abbrev AreOthers : List (Option Refusal) → Type 0
AreOthers [] = Unit {0}
AreOthers (fault ∷ faults) = IsOther fault × AreOthers faults

first_other : (faults : List (Option Refusal)) → AreOthers faults → IsOther (first faults)
first_other [] others = λ is. cc
first_other (None ∷ faults) others = first_other faults others.1
first_other (Some refusal ∷ faults) others = others.0

all_others : (faults more : List (Option Refusal)) → AreOthers faults → AreOthers more → AreOthers (faults ++ more)
all_others [] more others rest = rest
all_others (fault ∷ faults) more others rest = (others.0, all_others faults more others.1 rest)

at_other : (refusal : Refusal) (b : Bool) → refusal ≢ NoMemory → IsOther (at refusal b)
at_other refusal true other = λ is. other cc
at_other refusal false other = λ is. cc

-- ---- walks

abbrev WalksOtherwise : Result Place Refusal → Type 0
WalksOtherwise reached = reached ≢ Err NoMemory

either : (b : Bool) (x y : Result Place Refusal) → WalksOtherwise x → WalksOtherwise y → WalksOtherwise (cond b x y)
either true x y one two = one
either false x y one two = two

place_other : (path : Route) (id : Option ℕ) → WalksOtherwise (place_at path id)
place_other path None = λ is. cc
place_other path (Some id) = λ is. cc

step_other : (T : Tree) (reached : Result Place Refusal) (name : List ℕ) → WalksOtherwise reached → WalksOtherwise (step_into T reached name)
step_other T (Err fault) name other = other
step_other T (Ok here) name other =
    let next = here.path ++ name ∷ [] in
    either (is_directory T here.id) (place_at next (id_at T next)) (Err NotDir) (place_other next (id_at T next)) (λ is. cc)

walk_on_other : (T : Tree) (reached : Result Place Refusal) (names : Route) → WalksOtherwise reached → WalksOtherwise (walk_on T reached names)
walk_on_other T reached [] other = other
walk_on_other T reached (name ∷ names) other = walk_on_other T (step_into T reached name) names (step_other T reached name other)

fault_other : (reached : Result Place Refusal) → WalksOtherwise reached → IsOther (fault_of reached)
fault_other (Ok here) other = λ is. cc
fault_other (Err fault) other = λ is. other cc

walk_other : (T : Tree) (path : Route) → WalksOtherwise (walk T path)
walk_other T path = walk_on_other T (Ok root_place) path (λ is. cc)

directory_other : (T : Tree) (reached : Result Place Refusal) → WalksOtherwise reached → WalksOtherwise (only_directory T reached)
directory_other T (Err fault) other = other
directory_other T (Ok here) other = either (is_directory T here.id) (Ok here) (Err NotDir) (λ is. cc) (λ is. cc)

walked : (T : Tree) (path : Route) → IsOther (fault_of (walk T path))
walked T path = fault_other (walk T path) (walk_other T path)

parent_walked : (T : Tree) (path : Route) → IsOther (fault_of (walk_to_parent T path))
parent_walked T path = fault_other (walk_to_parent T path) (directory_other T (walk T (parent path)) (walk_other T (parent path)))

walks_others : (T : Tree) (c : Command) → AreOthers (walk_faults T c)
walks_others T (Create path) = (parent_walked T path, tt)
walks_others T (Mkdir path) = (parent_walked T path, tt)
walks_others T (Link from to) = (walked T from, (parent_walked T to, tt))
walks_others T (Unlink path) = (walked T path, tt)
walks_others T (Rmdir path) = (walked T path, tt)
walks_others T (Rename from to) = (walked T from, (parent_walked T to, tt))
walks_others T (Write path offset bytes) = (walked T path, tt)
walks_others T (Truncate path size) = (walked T path, tt)
walks_others T (Read path offset count) = (walked T path, tt)
walks_others T (Tell path) = (walked T path, tt)
walks_others T (Show path) = (walked T path, tt)
walks_others T Df = tt

-- ---- the rest of a row

either_row : (b : Bool) (x y : List (Option Refusal)) → AreOthers x → AreOthers y → AreOthers (cond b x y)
either_row true x y one two = one
either_row false x y one two = two

rename_others : (supply : Supply) (T : Tree) (room : Room) (from to : Route) → AreOthers (faults_of_rename supply T room from to)
rename_others supply T room from to = (at_other NotDir _ (λ is. cc), (at_other IsDir _ (λ is. cc), (at_other NotEmpty _ (λ is. cc), (at_other IntoItself _ (λ is. cc), (at_other NoPages _ (λ is. cc), tt)))))

later_others : (supply : Supply) (T : Tree) (room : Room) (c : Command) → AreOthers (later_faults supply T room c)
later_others supply T room (Create path) = (at_other Root _ (λ is. cc), (at_other Exists _ (λ is. cc), (at_other NoInodes _ (λ is. cc), (at_other NoPages _ (λ is. cc), tt))))
later_others supply T room (Mkdir path) = (at_other Root _ (λ is. cc), (at_other Exists _ (λ is. cc), (at_other NoInodes _ (λ is. cc), (at_other NoPages _ (λ is. cc), tt))))
later_others supply T room (Link from to) = (at_other Root _ (λ is. cc), (at_other Exists _ (λ is. cc), (at_other IsDir _ (λ is. cc), (at_other NoPages _ (λ is. cc), tt))))
later_others supply T room (Unlink path) = (at_other Root _ (λ is. cc), (at_other IsDir _ (λ is. cc), tt))
later_others supply T room (Rmdir path) = (at_other Root _ (λ is. cc), (at_other NotDir _ (λ is. cc), (at_other NotEmpty _ (λ is. cc), tt)))
later_others supply T room (Rename from to) =
    (at_other Root _ (λ is. cc), either_row (is_same_node T from to) [] (faults_of_rename supply T room from to) tt (rename_others supply T room from to))
later_others supply T room (Write path offset bytes) = (at_other IsDir _ (λ is. cc), (at_other TooBig _ (λ is. cc), (at_other NoPages _ (λ is. cc), tt)))
later_others supply T room (Truncate path size) = (at_other IsDir _ (λ is. cc), (at_other TooBig _ (λ is. cc), (at_other NoPages _ (λ is. cc), tt)))
later_others supply T room (Read path offset count) = (at_other IsDir _ (λ is. cc), (at_other TooBig _ (λ is. cc), tt))
later_others supply T room (Tell path) = tt
later_others supply T room (Show path) = (at_other NotDir _ (λ is. cc), tt)
later_others supply T room Df = tt

pub refusal_other : (volume : ℕ) (T : Tree) (room : Room) (c : Command) → refusal_of volume T room c ≢ Some NoMemory
refusal_other volume T room c =
    first_other (walk_faults T c ++ later_faults (untaken volume) T room c)
    (all_others (walk_faults T c) (later_faults (untaken volume) T room c) (walks_others T c) (later_others (untaken volume) T room c))
