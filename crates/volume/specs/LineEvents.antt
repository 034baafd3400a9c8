-- How many stores, flushes and fences a line takes, from its answer and the states before and after it.
use Rattle.std.specs.Prelude.{ℕ, ◌+◌, ◌-◌, ◌*◌, Bool, false, not, ◌&&◌, ◌||◌, ◌==◌, nat_lt, nat_le, if◌then◌else◌, List, [], ◌∷◌, length, Ok, Err}
use Rattle.layout.specs.Geometry.{pieces}
use Rattle.tree_model.specs.PathText.{Route}
use Rattle.tree_model.specs.Tree.{parent, is_directory, page_bytes}
use Rattle.tree_model.specs.Step.{Answer, Done, Count, Status, Bytes, Listed, Space, Refused, Unread, Fault, Stopped, id_of, is_there, is_same_node, need, resolved}
use Rattle.tree_model.specs.Run.{Line, State}
use Rattle.tree_model.specs.Fences.{one_where, needs_pages, gave, gone, size_before, pages_before}
use Rattle.tree_model.specs.declared.command.Command.{Command}
use Rattle.tree_model.specs.declared.command.Command.TheVariants.{Create, Mkdir, Link, Unlink, Rmdir, Rename, Write, Truncate, Read, Stat as Tell, List as Show, Df}
use Rattle.volume.specs.Costs.{where_true, fence_events, word_events, inode_events, name_events, slot_rest_events, page_events, commit_events, clearing_events, loss_events, span_events, growth_events}

-- ---- an accepted command

-- the words of a new name with so many events beside them; where its directory needs a page all of the page's, and then its owner
abbrev pub events_of_new_name : State → Command → ℕ → ℕ
events_of_new_name old c beside =
    ((if needs_pages old c then page_events else name_events) + beside + fence_events)
    + where_true (needs_pages old c) commit_events + commit_events

-- the pages that lost their owner: a directory's, and those of a file that is gone
abbrev pub pages_lost : State → Command → Route → State → ℕ
pages_lost old c path new = where_true (gone old path new) (pages_before old path) + one_where (gave old c new)

-- what is cleared behind them, and of the node that the path named
abbrev pub events_for_loss : State → Command → Route → State → ℕ
events_for_loss old c path new = loss_events (pages_lost old c path new) (gone old path new)

abbrev pub events_of_removal : State → Command → Route → State → ℕ
events_of_removal old c path new = commit_events + clearing_events 1 + events_for_loss old c path new

-- the name gets another parent
abbrev pub changes_parent : State → Route → Route → Bool
changes_parent old from to = not (id_of old.tree (parent from) == id_of old.tree (parent to))

-- A directory that gets another parent, and replaces none, raises the links of the new one.
abbrev pub raises_links : State → Route → Route → Bool
raises_links old from to = is_directory old.tree (id_of old.tree from) && changes_parent old from to && not (is_there old.tree to)

-- One that gets another parent lowers those of the old one, and a node that is replaced its own or its parent's.
abbrev pub lowers_links : State → Route → Route → Bool
lowers_links old from to = (is_directory old.tree (id_of old.tree from) && changes_parent old from to) || is_there old.tree to

-- the pointer of the new slot, with the words of its name where it has none yet
abbrev pub events_of_pointing : State → Route → Route → ℕ
events_of_pointing old from to = if is_there old.tree to || needs_pages old (Rename from to) then word_events else slot_rest_events

abbrev pub events_of_rename : State → Route → Route → State → ℕ
events_of_rename old from to new =
    if is_same_node old.tree from to then 0
    else where_true (needs_pages old (Rename from to)) (page_events + fence_events + commit_events)
    + (events_of_pointing old from to + one_where (raises_links old from to) * word_events + fence_events)
    + 2 * commit_events
    + (word_events + clearing_events (one_where (lowers_links old from to)))
    + events_for_loss old (Rename from to) to new

abbrev pub events_of_write : State → Route → ℕ → List ℕ → ℕ
events_of_write old path offset bytes =
    if length bytes == 0 then 0
    else if nat_le (offset + length bytes) (size_before old path) then span_events offset (offset + length bytes) + fence_events
    else growth_events (size_before old path) offset (need old.tree old.room (Write path offset bytes))

abbrev pub events_of_truncate : State → Route → ℕ → ℕ
events_of_truncate old path size =
    if size == size_before old path then 0
    else if nat_lt (size_before old path) size then growth_events (size_before old path) (size_before old path) (need old.tree old.room (Truncate path size))
    else commit_events + loss_events (pages_before old path - pieces size page_bytes) false

abbrev pub events_of_accepted : State → Command → State → ℕ
events_of_accepted old (Create path) new = events_of_new_name old (Create path) inode_events
events_of_accepted old (Mkdir path) new = events_of_new_name old (Mkdir path) (inode_events + word_events)
events_of_accepted old (Link from to) new = events_of_new_name old (Link from to) word_events
events_of_accepted old (Unlink path) new = events_of_removal old (Unlink path) path new
events_of_accepted old (Rmdir path) new = events_of_removal old (Rmdir path) path new
events_of_accepted old (Rename from to) new = events_of_rename old from to new
events_of_accepted old (Write path offset bytes) new = events_of_write old path offset bytes
events_of_accepted old (Truncate path size) new = events_of_truncate old path size
events_of_accepted old (Read path offset count) new = 0
events_of_accepted old (Tell path) new = 0
events_of_accepted old (Show path) new = 0
events_of_accepted old Df new = 0

-- ---- a line

abbrev pub events_of_change : State → Line → State → ℕ
events_of_change old (Ok c) new = events_of_accepted old (resolved old.tree c) new
events_of_change old (Err fault) new = 0

-- The events of a line with this answer, between these states, without its acknowledgement. Nothing but a change makes one.
abbrev pub events_of_line : State → Line → Answer → State → ℕ
events_of_line old line Done new = events_of_change old line new
events_of_line old line (Count n) new = events_of_change old line new
events_of_line old line (Status s) new = 0
events_of_line old line (Bytes bytes) new = 0
events_of_line old line (Listed inode names) new = 0
events_of_line old line (Space free) new = 0
events_of_line old line (Refused refusal) new = 0
events_of_line old line (Unread fault) new = 0
events_of_line old line Fault new = 0
events_of_line old line Stopped new = 0

-- the events of the lines that left a state, each with its acknowledgement
abbrev pub events_of_run : State → List Line → List Answer → List State → ℕ
events_of_run start [] answers states = 0
events_of_run start (line ∷ lines) [] states = 0
events_of_run start (line ∷ lines) (answer ∷ answers) [] = 0
events_of_run start (line ∷ lines) (answer ∷ answers) (state ∷ states) =
    events_of_line start line answer state + 1 + events_of_run state lines answers states
