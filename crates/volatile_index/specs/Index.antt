-- What the index holds of each inode, and what its calls do to that.
use Rattle.std.specs.Prelude.{◌≡◌, ◌≢◌, ℕ, zero, suc, ◌+◌, ◌≤◌, Bool, false, List, [], ◌∷◌, ◌++◌, length, slice_index_or, Result, IsTrue, IsOk, OnOk, OnErr}
use Rattle.volatile_index.specs.declared.entry.Entry.{Entry}
use Rattle.volatile_index.specs.Entries.{IsSorted, IsAbsent, IsWithEntry}

-- what is held of one inode, whether there is memory for one entry more, wherever it goes, and how many pages the list holds
-- before it needs memory
pub record NodeView : Type 0 where
  pub entries : List Entry
  pub has_place : Bool
  pub pages : List ℕ
  pub page_places : ℕ

abbrev pub empty_node : NodeView
empty_node = record { entries = []; has_place = false; pages = []; page_places = 0 }

-- inodes are numbered from 1
unfoldable pub node_of : List NodeView → ℕ → NodeView
node_of index zero = empty_node
node_of index (suc k) = slice_index_or index k empty_node

abbrev pub inodes_of_index : List NodeView → ℕ
inodes_of_index index = length index

abbrev pub entries_of : List NodeView → ℕ → List Entry
entries_of index inode = (node_of index inode).entries

abbrev pub has_place_of : List NodeView → ℕ → Bool
has_place_of index inode = (node_of index inode).has_place

abbrev pub pages_of : List NodeView → ℕ → List ℕ
pages_of index inode = (node_of index inode).pages

abbrev pub page_places_of : List NodeView → ℕ → ℕ
page_places_of index inode = (node_of index inode).page_places

-- nothing is held of the inode
pub record IsEmpty (node : NodeView) : Type 0 where
  pub entries : node.entries ≡ []
  pub pages : node.pages ≡ []

-- ---- what a call does to one node

-- Memory is taken for one more entry, or refused: never where the place is there already.
pub record ReservesEntry {T E : Type 0} (result : Result T E) (old new : NodeView) : Type 0 where
  pub ok : OnOk result (IsTrue new.has_place)
  pub enough : IsTrue old.has_place → IsOk result
  pub place : IsTrue old.has_place → IsTrue new.has_place
  pub entries : new.entries ≡ old.entries
  pub pages : new.pages ≡ old.pages
  pub page_places : new.page_places ≡ old.page_places

-- The entry is put in, in the order of names. Whether there is a place for another is not told.
pub record PutsEntry (entry : Entry) (old new : NodeView) : Type 0 where
  pub entries : IsWithEntry old.entries new.entries entry
  pub sorted : IsSorted new.entries
  pub pages : new.pages ≡ old.pages
  pub page_places : new.page_places ≡ old.page_places

-- The entry of the name is taken out, and there is no other. A place that was there stays.
pub record RemovesEntry (name : List ℕ) (old new : NodeView) : Type 0 where
  pub entries : (slot : ℕ) × IsWithEntry new.entries old.entries (record { name = name; slot = slot })
  pub absent : IsAbsent new.entries name
  pub sorted : IsSorted new.entries
  pub place : IsTrue old.has_place → IsTrue new.has_place
  pub pages : new.pages ≡ old.pages
  pub page_places : new.page_places ≡ old.page_places

-- Memory is taken for n more pages, or refused: never where the places are there already.
pub record ReservesPages {T E : Type 0} (n : ℕ) (result : Result T E) (old new : NodeView) : Type 0 where
  pub ok : OnOk result (length new.pages + n ≤ new.page_places)
  pub err : OnErr result (new.page_places ≡ old.page_places)
  pub enough : length old.pages + n ≤ old.page_places → IsOk result
  pub page_places : old.page_places ≤ new.page_places
  pub pages : new.pages ≡ old.pages
  pub entries : new.entries ≡ old.entries
  pub place : new.has_place ≡ old.has_place

-- The node has these pages, in the places that were there.
pub record IsWithPages (pages_now : List ℕ) (old new : NodeView) : Type 0 where
  pub pages : new.pages ≡ pages_now
  pub page_places : new.page_places ≡ old.page_places
  pub entries : new.entries ≡ old.entries
  pub place : new.has_place ≡ old.has_place

-- One page is taken out, wherever it stands, and the others keep their order and their places.
pub record DropsPage (page : ℕ) (old new : NodeView) : Type 0 where
  pub front : List ℕ
  pub back : List ℕ
  pub old_is : old.pages ≡ front ++ page ∷ back
  pub new_is : IsWithPages (front ++ back) old new

-- ---- and to the index

-- but for one inode all is as before
pub record IsSameElsewhere (inode : ℕ) (before after : List NodeView) : Type 0 where
  pub inodes : inodes_of_index after ≡ inodes_of_index before
  pub others : (other : ℕ) → other ≢ inode → node_of after other ≡ node_of before other

-- one inode's node changes so, and no other
pub record ChangesNode (inode : ℕ) (before after : List NodeView) (Change : NodeView → NodeView → Type 0) : Type 0 where
  pub node : Change (node_of before inode) (node_of after inode)
  pub elsewhere : IsSameElsewhere inode before after
