-- What a plan costs on the device: its events, which are reserved before, and its fences.
use Rattle.std.specs.Prelude.{ℕ, ◌+◌, ◌-◌, ◌*◌, ◌/◌, Bool, false, not, ◌&&◌, ◌||◌, nat_lt, nat_le, if◌then◌else◌, min, List, [], ◌∷◌, length, Option, Some, None, is_some}
use Rattle.layout.specs.Geometry.{pieces}
use Rattle.layout.specs.Fields.{inode_fields}
use Rattle.layout.specs.declared.kinds.NodeKind.{NodeKind}
use Rattle.layout.specs.declared.kinds.NodeKind.TheVariants.{File, Directory}
use Rattle.tree_model.specs.Tree.{page_bytes}
use Rattle.volume.specs.Moves.{rising_of, falling_of}
use Rattle.volume.specs.declared.plan.NewEntry.{NewEntry}
use Rattle.volume.specs.declared.plan.NewName.{NewName}
use Rattle.volume.specs.declared.plan.Moving.{Moving}
use Rattle.volume.specs.declared.plan.Action.{Action}
use Rattle.volume.specs.declared.plan.Action.TheVariants.{Make, Name, Remove, Move, Write as WriteBytes, WriteNothing, Resize, KeepSize, KeepNames, Read as ReadBytes, Status, Names, Space}
use Rattle.volume.specs.declared.plan.Loss.{Loss}
use Rattle.volume.specs.declared.plan.Removal.{Removal}
use Rattle.volume.specs.declared.plan.Writing.{Writing}
use Rattle.volume.specs.declared.plan.Resizing.{Resizing}

-- ---- parts

abbrev pub count_of : {T : Type 0} → Option T → ℕ
count_of None = 0
count_of (Some x) = 1

abbrev pub where_true : Bool → ℕ → ℕ
where_true holds n = if holds then n else 0

-- A fence. A word with the flush of its line: a slot's number or pointer, a link count, an owner, a size.
abbrev pub fence_events : ℕ
fence_events = 1

abbrev pub word_events : ℕ
word_events = 1 + 1

-- the words of an inode, in one line
abbrev pub inode_events : ℕ
inode_events = inode_fields + 1

-- the words of a name, and all words of a slot but its number, in two lines
abbrev pub name_events : ℕ
name_events = 14 + 2

abbrev pub slot_rest_events : ℕ
slot_rest_events = 15 + 2

-- a page's 512 words in 64 lines, with the kind and the offset in its descriptor
abbrev pub page_events : ℕ
page_events = 512 + 64 + 2 + 1

-- the kind and the offset of a descriptor
abbrev pub descriptor_rest_events : ℕ
descriptor_rest_events = 2 + 1

-- a directory's new page in a move: its words, then its owner
abbrev pub new_page_events : Option ℕ → ℕ
new_page_events page = where_true (is_some page) (page_events + fence_events + (word_events + fence_events))

-- so many pages lose their owners, and then these the rest of their descriptors, with an inode that goes
abbrev pub loss_events : ℕ → Bool → ℕ
loss_events pages goes =
    where_true (nat_lt 0 pages) (pages * word_events + fence_events)
    + where_true (nat_lt 0 pages || goes) (pages * descriptor_rest_events + where_true goes inode_events + fence_events)

-- a name's slot is cleared after its number, and so many link counts fall with it
abbrev pub clearing_events : ℕ → ℕ
clearing_events falls = slot_rest_events + falls * word_events + fence_events

abbrev pub commit_events : ℕ
commit_events = word_events + fence_events

-- the words of a new name; where it stands in a new page all of the page's, the name's with them
abbrev pub place_events : Option ℕ → ℕ
place_events new_page = if is_some new_page then page_events else name_events

-- a new page gets its owner
abbrev pub claim_events : Option ℕ → ℕ
claim_events new_page = where_true (is_some new_page) commit_events

-- how many pieces of a size the bytes from first to before end touch
abbrev pub touched_pieces : ℕ → ℕ → ℕ → ℕ
touched_pieces size first end = if nat_lt first end then pieces end size - first / size else 0

-- the words of these bytes, with the flushes of their lines
abbrev pub span_events : ℕ → ℕ → ℕ
span_events first end = touched_pieces 8 first end + touched_pieces 64 first end

-- ---- the pages that a removal and a move take away

abbrev pub goes_of : Option Loss → Bool
goes_of None = false
goes_of (Some loss) = loss.goes

abbrev pub pages_of_loss : Option Loss → ℕ
pages_of_loss None = 0
pages_of_loss (Some loss) = loss.pages

abbrev pub pages_removed : Removal → ℕ
pages_removed removal = removal.loss.pages + count_of removal.given_back

abbrev pub pages_replaced : Moving → ℕ
pages_replaced moving = pages_of_loss moving.replaced + count_of moving.given_back

-- ---- events

abbrev pub links_events : NodeKind → ℕ
links_events File = 0
links_events Directory = word_events

-- in the pages that were there from the first byte that is written, or from the old end, to their end; then so many new pages
abbrev pub growth_events : ℕ → ℕ → ℕ → ℕ
growth_events old_size offset pages =
    span_events (min offset old_size) (pieces old_size page_bytes * page_bytes) + pages * page_events + fence_events
    + where_true (nat_lt 0 pages) (pages * word_events + fence_events)
    + commit_events

abbrev pub events_of_write : Writing → ℕ
events_of_write writing =
    if nat_le (writing.offset + writing.count) writing.old_size
    then span_events writing.offset (writing.offset + writing.count) + fence_events
    else growth_events writing.old_size writing.offset (length writing.new_pages)

abbrev pub events_of_resize : Resizing → ℕ
events_of_resize resizing =
    if nat_lt resizing.old_size resizing.new_size
    then growth_events resizing.old_size resizing.old_size (length resizing.new_pages)
    else commit_events + loss_events resizing.cut false

-- the pointer of the new slot, with the words of its name where it has none yet
abbrev pub pointing_events : Moving → ℕ
pointing_events moving = if is_some moving.replaced || is_some moving.new_page then word_events else slot_rest_events

-- the pointer, with a link count that rises; the number of the new slot, and that of the old one; the pointer again, with the rest of
-- the old slot and a link count that falls; what the replaced node and the old slot's page leave
abbrev pub events_of_move : Moving → ℕ
events_of_move moving =
    new_page_events moving.new_page
    + (pointing_events moving + count_of (rising_of moving) * word_events + fence_events)
    + 2 * commit_events
    + (word_events + clearing_events (count_of (falling_of moving)))
    + loss_events (pages_replaced moving) (goes_of moving.replaced)

-- a name with the node that it gets, or with the links of its file; then the owner of its page, and then the slot's number
abbrev pub events_of_entry : NewEntry → ℕ
events_of_entry entry =
    (place_events entry.new_page + inode_events + links_events entry.kind + fence_events)
    + claim_events entry.new_page + commit_events

abbrev pub events_of_name : NewName → ℕ
events_of_name link =
    (place_events link.new_page + word_events + fence_events)
    + claim_events link.new_page + commit_events

-- the stores, flushes and fences of a plan
abbrev pub events_of : Action → ℕ
events_of (Make entry) = events_of_entry entry
events_of (Name link) = events_of_name link
events_of (Remove removal) = commit_events + clearing_events 1 + loss_events (pages_removed removal) removal.loss.goes
events_of (Move moving) = events_of_move moving
events_of (WriteBytes writing) = events_of_write writing
events_of (Resize resizing) = events_of_resize resizing
events_of WriteNothing = 0
events_of KeepSize = 0
events_of KeepNames = 0
events_of (ReadBytes reading) = 0
events_of (Status inode) = 0
events_of (Names inode) = 0
events_of Space = 0

-- the mark, settled by a fence of its own
abbrev pub mark_events : ℕ
mark_events = commit_events

-- the events for which a volume keeps room beside those of its plans: those of closing, and on a marked one those of taking the mark away
abbrev pub kept_events : Bool → ℕ
kept_events marked = mark_events + where_true marked mark_events

-- what a plan has reserved on a volume with the mark or without it, where running calls have so many events left: one that stores
-- nothing needs no room
abbrev pub reserved_events : Bool → ℕ → Action → ℕ
reserved_events marked kept action = where_true (nat_lt 0 (events_of action)) (events_of action + (kept_events marked + kept))

-- ---- fences

-- a new page gets its owner; it was filled in the interval of its name
abbrev pub fences_for_claim : Option ℕ → ℕ
fences_for_claim new_page = where_true (is_some new_page) 1

-- a new page in a move, which fills it in an interval of its own
abbrev pub fences_for_page : Option ℕ → ℕ
fences_for_page page = where_true (is_some page) 2

-- one for owners, and one for the rest of descriptors and for an inode that goes
abbrev pub fences_for_loss : ℕ → Bool → ℕ
fences_for_loss pages goes = where_true (nat_lt 0 pages) 1 + where_true (nat_lt 0 pages || goes) 1

abbrev pub fences_for_growth : List ℕ → ℕ
fences_for_growth [] = 2
fences_for_growth (page ∷ pages) = 3

abbrev pub fences_of_write : Writing → ℕ
fences_of_write writing = if nat_le (writing.offset + writing.count) writing.old_size then 1 else fences_for_growth writing.new_pages

abbrev pub fences_of_resize : Resizing → ℕ
fences_of_resize resizing =
    if nat_lt resizing.old_size resizing.new_size then fences_for_growth resizing.new_pages
    else 1 + fences_for_loss resizing.cut false

abbrev pub fences_of_move : Moving → ℕ
fences_of_move moving =
    fences_for_page moving.new_page + 4 + fences_for_loss (pages_replaced moving) (goes_of moving.replaced)

-- how many fences the call of a plan makes: one for each of its steps that has a store
abbrev pub fences_of_plan : Action → ℕ
fences_of_plan (Make entry) = 2 + fences_for_claim entry.new_page
fences_of_plan (Name link) = 2 + fences_for_claim link.new_page
fences_of_plan (Remove removal) = 2 + fences_for_loss (pages_removed removal) removal.loss.goes
fences_of_plan (Move moving) = fences_of_move moving
fences_of_plan (WriteBytes writing) = fences_of_write writing
fences_of_plan (Resize resizing) = fences_of_resize resizing
fences_of_plan WriteNothing = 0
fences_of_plan KeepSize = 0
fences_of_plan KeepNames = 0
fences_of_plan (ReadBytes reading) = 0
fences_of_plan (Status inode) = 0
fences_of_plan (Names inode) = 0
fences_of_plan Space = 0

-- ---- the mark

-- so many fences, and before the first of them the one that takes the mark away, where it is there
abbrev pub fences_with_mark : Bool → ℕ → ℕ
fences_with_mark marked fences = where_true (marked && nat_lt 0 fences) 1 + fences

-- and the events with it
abbrev pub events_with_mark : Bool → ℕ → ℕ → ℕ
events_with_mark marked fences events = where_true (marked && nat_lt 0 fences) mark_events + events

-- whether the mark is still there after so many fences
abbrev pub mark_after : Bool → ℕ → Bool
mark_after marked fences = marked && not (nat_lt 0 fences)
