-- How many fences a line takes, from its answer and the states before and after it.
use Rattle.std.specs.Prelude.{ℕ, ◌+◌, ◌*◌, Bool, false, ◌&&◌, ◌||◌, ◌==◌, nat_lt, nat_le, if◌then◌else◌, List, [], ◌∷◌, length, Option, Some, None, is_none, Ok, Err}
use Rattle.layout.specs.Geometry.{pieces}
use Rattle.tree_model.specs.PathText.{Route}
use Rattle.tree_model.specs.Tree.{id_at, node_at, bytes_of, page_bytes, file_pages, pages_in}
use Rattle.tree_model.specs.Step.{Answer, Done, Count, Status, Bytes, Listed, Space, Refused, Unread, Fault, Stopped, id_of, is_same_node, losing, need, pages_after, resolved}
use Rattle.tree_model.specs.Run.{Line, State}
use Rattle.tree_model.specs.declared.command.Command.{Command}
use Rattle.tree_model.specs.declared.command.Command.TheVariants.{Create, Mkdir, Link, Unlink, Rmdir, Rename, Write, Truncate, Read, Stat as Tell, List as Show, Df}

-- no line takes more
abbrev pub most_fences : ℕ
most_fences = 8

abbrev pub one_where : Bool → ℕ
one_where holds = if holds then 1 else 0

-- ---- what a command needed and gave up

-- one more where a directory needed a page for the new name, for the page's owner
abbrev pub fences_for_name : State → Command → ℕ
fences_for_name old c = need old.tree old.room c

abbrev pub needs_pages : State → Command → Bool
needs_pages old c = nat_lt 0 (need old.tree old.room c)

-- the directory has fewer pages than if it had given none back
abbrev pub gave_from : State → Command → Option ℕ → State → Bool
gave_from old c None new = false
gave_from old c (Some directory) new = nat_lt (pages_in new.room directory) (pages_after old.tree old.room c false directory)

-- the directory that lost a name gave a page back
abbrev pub gave : State → Command → State → Bool
gave old c new = gave_from old c (losing old.tree c) new

abbrev pub is_gone : Option ℕ → State → Bool
is_gone None new = false
is_gone (Some id) new = is_none (node_at new.tree id)

-- the id that the path named is not in the tree after
abbrev pub gone : State → Route → State → Bool
gone old path new = is_gone (id_at old.tree path) new

abbrev pub size_before : State → Route → ℕ
size_before old path = length (bytes_of old.tree (id_of old.tree path))

abbrev pub pages_before : State → Route → ℕ
pages_before old path = file_pages (bytes_of old.tree (id_of old.tree path))

-- some page lost its owner: a directory's, or those of a file that is gone
abbrev pub clears_owners : State → Command → Route → State → Bool
clears_owners old c path new = gave old c new || (gone old path new && nat_lt 0 (pages_before old path))

-- one for owners, and one for the rest of descriptors and for the inode of what the path named
abbrev pub fences_for_loss : State → Command → Route → State → ℕ
fences_for_loss old c path new = one_where (clears_owners old c path new) + one_where (gave old c new || gone old path new)

-- ---- an accepted command

-- a new page has an interval of its own here, and its owner another
abbrev pub fences_of_rename : State → Route → Route → State → ℕ
fences_of_rename old from to new =
    if is_same_node old.tree from to then 0
    else 4 + 2 * fences_for_name old (Rename from to) + fences_for_loss old (Rename from to) to new

-- a file gets a greater size
abbrev pub fences_of_growth : State → Command → ℕ
fences_of_growth old c = if needs_pages old c then 3 else 2

abbrev pub fences_of_write : State → Route → ℕ → List ℕ → ℕ
fences_of_write old path offset bytes =
    if length bytes == 0 then 0
    else if nat_le (offset + length bytes) (size_before old path) then 1
    else fences_of_growth old (Write path offset bytes)

abbrev pub fences_of_truncate : State → Route → ℕ → ℕ
fences_of_truncate old path size =
    if size == size_before old path then 0
    else if nat_lt (size_before old path) size then fences_of_growth old (Truncate path size)
    else if nat_lt (pieces size page_bytes) (pages_before old path) then 3 else 1

abbrev pub fences_of_accepted : State → Command → State → ℕ
fences_of_accepted old (Create path) new = 2 + fences_for_name old (Create path)
fences_of_accepted old (Mkdir path) new = 2 + fences_for_name old (Mkdir path)
fences_of_accepted old (Link from to) new = 2 + fences_for_name old (Link from to)
fences_of_accepted old (Unlink path) new = 2 + fences_for_loss old (Unlink path) path new
fences_of_accepted old (Rmdir path) new = 3 + one_where (gave old (Rmdir path) new)
fences_of_accepted old (Rename from to) new = fences_of_rename old from to new
fences_of_accepted old (Write path offset bytes) new = fences_of_write old path offset bytes
fences_of_accepted old (Truncate path size) new = fences_of_truncate old path size
fences_of_accepted old (Read path offset count) new = 0
fences_of_accepted old (Tell path) new = 0
fences_of_accepted old (Show path) new = 0
fences_of_accepted old Df new = 0

-- ---- a line

abbrev pub fences_of_change : State → Line → State → ℕ
fences_of_change old (Ok c) new = fences_of_accepted old (resolved old.tree c) new
fences_of_change old (Err fault) new = 0

-- The fences of a line with this answer, between these states. Nothing but a change takes one.
abbrev pub fences_of : State → Line → Answer → State → ℕ
fences_of old line Done new = fences_of_change old line new
fences_of old line (Count n) new = fences_of_change old line new
fences_of old line (Status s) new = 0
fences_of old line (Bytes bytes) new = 0
fences_of old line (Listed inode names) new = 0
fences_of old line (Space free) new = 0
fences_of old line (Refused refusal) new = 0
fences_of old line (Unread fault) new = 0
fences_of old line Fault new = 0
fences_of old line Stopped new = 0

-- the fences of the lines that left a state
abbrev pub fences_of_run : State → List Line → List Answer → List State → ℕ
fences_of_run start [] answers states = 0
fences_of_run start (line ∷ lines) [] states = 0
fences_of_run start (line ∷ lines) (answer ∷ answers) [] = 0
fences_of_run start (line ∷ lines) (answer ∷ answers) (state ∷ states) =
    fences_of start line answer state + fences_of_run state lines answers states
