-- What the fences of lines are at most, and where they are none.
use Rattle.std.proofs.Common.{◌≡◌, ℕ, ◌+◌, ◌*◌, ◌≤◌, Bool, true, false, cond, ◌||◌, ◌==◌, nat_lt, nat_le, List, [], ◌∷◌, ◌++◌, length, Option, Some, None, Ok, Err, refl, arith}
use Rattle.layout.specs.Geometry.{pieces}
use Rattle.tree_model.specs.PathText.{Route}
use Rattle.tree_model.specs.Tree.{Tree, Room, page_bytes}
use Rattle.tree_model.specs.Step.{Answer, Done, Count, Status, Bytes, Listed, Space, Refused, Unread, Fault, Stopped, is_full, is_same_node, gaining, page_for_name, resolved}
use Rattle.tree_model.specs.Run.{State, Line, is_changing}
use Rattle.tree_model.specs.Fences.{most_fences, one_where, needs_pages, gave, gone, clears_owners, size_before, pages_before, fences_for_loss, fences_of_growth, fences_of_write, fences_of_truncate, fences_of_rename, fences_of_accepted, fences_of_change, fences_of, fences_of_run}
use Rattle.tree_model.specs.declared.command.Command.{Command}
use Rattle.tree_model.specs.declared.command.Command.TheVariants.{Create, Mkdir, Link, Unlink, Rmdir, Rename, Write, Truncate, Read, Stat as Tell, List as Show, Df}

-- ---- at most

one_where-le : (b : Bool) → one_where b ≤ 1
one_where-le true = omega arith
one_where-le false = omega arith

page_for_name-le : (T : Tree) (room : Room) (o : Option ℕ) → page_for_name T room o ≤ 1
page_for_name-le T room None = omega arith
page_for_name-le T room (Some directory) = one_where-le (is_full T room directory)

choice-le : (b : Bool) (x y limit : ℕ) → x ≤ limit → y ≤ limit → cond b x y ≤ limit
choice-le true x y limit p q = p
choice-le false x y limit p q = q

loss-le : (old : State) (c : Command) (path : Route) (new : State) → fences_for_loss old c path new ≤ 2
loss-le old c path new =
    let owners = one_where-le (clears_owners old c path new) in
    let rest = one_where-le (gave old c new || gone old path new) in
    omega (arith, owners, rest)

growth-le : (old : State) (c : Command) → fences_of_growth old c ≤ 3
growth-le old c = choice-le (needs_pages old c) 3 2 3 (omega arith) (omega arith)

write-le : (old : State) (path : Route) (offset : ℕ) (bytes : List ℕ) → fences_of_write old path offset bytes ≤ 3
write-le old path offset bytes =
    choice-le (length bytes == 0) 0 _ 3 (omega arith)
    (choice-le (nat_le (offset + length bytes) (size_before old path)) 1 _ 3 (omega arith) (growth-le old (Write path offset bytes)))

truncate-le : (old : State) (path : Route) (size : ℕ) → fences_of_truncate old path size ≤ 3
truncate-le old path size =
    choice-le (size == size_before old path) 0 _ 3 (omega arith)
    (choice-le (nat_lt (size_before old path) size) _ _ 3 (growth-le old (Truncate path size))
    (choice-le (nat_lt (pieces size page_bytes) (pages_before old path)) 3 1 3 (omega arith) (omega arith)))

rename-le : (old : State) (from to : Route) (new : State) → fences_of_rename old from to new ≤ most_fences
rename-le old from to new =
    let page = page_for_name-le old.tree old.room (gaining old.tree (Rename from to)) in
    let loss = loss-le old (Rename from to) to new in
    choice-le (is_same_node old.tree from to) 0 _ most_fences (omega arith) (omega (arith, page, loss))

accepted-le : (old : State) (c : Command) (new : State) → fences_of_accepted old c new ≤ most_fences
accepted-le old (Create path) new = let page = page_for_name-le old.tree old.room (gaining old.tree (Create path)) in omega (arith, page)
accepted-le old (Mkdir path) new = let page = page_for_name-le old.tree old.room (gaining old.tree (Mkdir path)) in omega (arith, page)
accepted-le old (Link from to) new = let page = page_for_name-le old.tree old.room (gaining old.tree (Link from to)) in omega (arith, page)
accepted-le old (Unlink path) new = let loss = loss-le old (Unlink path) path new in omega (arith, loss)
accepted-le old (Rmdir path) new = let given = one_where-le (gave old (Rmdir path) new) in omega (arith, given)
accepted-le old (Rename from to) new = rename-le old from to new
accepted-le old (Write path offset bytes) new = let few = write-le old path offset bytes in omega (arith, few)
accepted-le old (Truncate path size) new = let few = truncate-le old path size in omega (arith, few)
accepted-le old (Read path offset count) new = omega arith
accepted-le old (Tell path) new = omega arith
accepted-le old (Show path) new = omega arith
accepted-le old Df new = omega arith

change-le : (old : State) (line : Line) (new : State) → fences_of_change old line new ≤ most_fences
change-le old (Ok c) new = accepted-le old (resolved old.tree c) new
change-le old (Err fault) new = omega arith

pub fences_of-le : (old : State) (line : Line) (answer : Answer) (new : State) → fences_of old line answer new ≤ most_fences
fences_of-le old line Done new = change-le old line new
fences_of-le old line (Count n) new = change-le old line new
fences_of-le old line (Status s) new = omega arith
fences_of-le old line (Bytes bytes) new = omega arith
fences_of-le old line (Listed inode names) new = omega arith
fences_of-le old line (Space free) new = omega arith
fences_of-le old line (Refused refusal) new = omega arith
fences_of-le old line (Unread fault) new = omega arith
fences_of-le old line Fault new = omega arith
fences_of-le old line Stopped new = omega arith

-- ---- none

reader_change : (old : State) (c : Command) (new : State) → is_changing c ≡ false → fences_of_accepted old c new ≡ 0
reader_change old (Create path) new e = cc
reader_change old (Mkdir path) new e = cc
reader_change old (Link from to) new e = cc
reader_change old (Unlink path) new e = cc
reader_change old (Rmdir path) new e = cc
reader_change old (Rename from to) new e = cc
reader_change old (Write path offset bytes) new e = cc
reader_change old (Truncate path size) new e = cc
reader_change old (Read path offset count) new e = refl
reader_change old (Tell path) new e = refl
reader_change old (Show path) new e = refl
reader_change old Df new e = refl

-- a reading command takes none, whatever its answer
pub no_fences-reading : (old : State) (c : Command) (answer : Answer) (new : State) → is_changing (resolved old.tree c) ≡ false → fences_of old (Ok c) answer new ≡ 0
no_fences-reading old c Done new e = reader_change old (resolved old.tree c) new e
no_fences-reading old c (Count n) new e = reader_change old (resolved old.tree c) new e
no_fences-reading old c (Status s) new e = refl
no_fences-reading old c (Bytes bytes) new e = refl
no_fences-reading old c (Listed inode names) new e = refl
no_fences-reading old c (Space free) new e = refl
no_fences-reading old c (Refused refusal) new e = refl
no_fences-reading old c (Unread fault) new e = refl
no_fences-reading old c Fault new e = refl
no_fences-reading old c Stopped new e = refl

-- ---- a new name

-- ---- runs

-- the state that the last line left
abbrev pub last_left : State → List State → State
last_left start [] = start
last_left start (state ∷ states) = last_left state states

-- a line more adds its fences
pub fences_of_run-more : (start : State) (lines : List Line) (answers : List Answer) (states : List State) (line : Line) (answer : Answer) (new : State)
    → length lines ≡ length states → length states ≡ length answers
    → fences_of_run start (lines ++ line ∷ []) (answers ++ answer ∷ []) (states ++ new ∷ []) ≡ fences_of_run start lines answers states + fences_of (last_left start states) line answer new
fences_of_run-more start [] [] [] line answer new many same = omega arith
fences_of_run-more start [] [] (s ∷ states) line answer new many same = absurd (omega (arith, many))
fences_of_run-more start [] (a ∷ answers) [] line answer new many same = absurd (omega (arith, same))
fences_of_run-more start [] (a ∷ answers) (s ∷ states) line answer new many same = absurd (omega (arith, many))
fences_of_run-more start (l ∷ lines) answers [] line answer new many same = absurd (omega (arith, many))
fences_of_run-more start (l ∷ lines) [] (s ∷ states) line answer new many same = absurd (omega (arith, same))
fences_of_run-more start (l ∷ lines) (a ∷ answers) (s ∷ states) line answer new many same =
    let rest = fences_of_run-more s lines answers states line answer new (omega (arith, many)) (omega (arith, same)) in omega (arith, rest)

-- a run takes at most so many a line
pub fences_of_run-le : (start : State) (lines : List Line) (answers : List Answer) (states : List State) → fences_of_run start lines answers states ≤ most_fences * length lines
fences_of_run-le start [] answers states = omega arith
fences_of_run-le start (l ∷ lines) [] states = omega arith
fences_of_run-le start (l ∷ lines) (a ∷ answers) [] = omega arith
fences_of_run-le start (l ∷ lines) (a ∷ answers) (s ∷ states) =
    let one = fences_of-le start l a s in
    let rest = fences_of_run-le s lines answers states in
    omega (arith, one, rest)
