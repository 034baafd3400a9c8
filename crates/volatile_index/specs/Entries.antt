-- Entries of a directory, in the order of the bytes of their names.
use Rattle.std.specs.Prelude.{◌≡◌, ◌≢◌, ℕ, ◌<◌, ◌≤◌, ◌==◌, List, ◌∷◌, ◌++◌, Contains, count_by}
use Rattle.std.specs.List.{AllPairs}
use Rattle.std.specs.declared.cmp.Ordering.TheVariants.{Less}
use Rattle.layout.specs.Geometry.{page_of_slot}
use Rattle.layout.specs.Name.{name_cmp}
use Rattle.volatile_index.specs.declared.entry.Entry.{Entry}

-- each name is less than each later one
abbrev pub IsSorted : List Entry → Type 0
IsSorted entries = AllPairs (λ earlier later. name_cmp earlier.name later.name ≡ Less) entries

-- no entry has the name
abbrev pub IsAbsent : List Entry → List ℕ → Type 0
IsAbsent entries name = (entry : Entry) → Contains entries entry → entry.name ≢ name

-- some entry has the name
abbrev pub IsPresent : List Entry → List ℕ → Type 0
IsPresent entries name = (slot : ℕ) × Contains entries (record { name = name; slot = slot })

-- the longer list is the shorter one with an entry more among the others
pub record IsWithEntry (shorter longer : List Entry) (entry : Entry) : Type 0 where
  pub front : List Entry
  pub back : List Entry
  pub shorter_is : shorter ≡ front ++ back
  pub longer_is : longer ≡ front ++ entry ∷ back

-- how many entries stand in the slots of a page
abbrev pub names_in : List Entry → ℕ → ℕ
names_in entries page = count_by (λ (entry : Entry). page_of_slot entry.slot == page) entries

-- some entries stand in the slots of the page, but fewer than 32
abbrev pub IsOpen : List Entry → ℕ → Type 0
IsOpen entries page = (0 < names_in entries page) × (names_in entries page < 32)

-- the least page of those
abbrev pub IsLeastOpen : List Entry → ℕ → Type 0
IsLeastOpen entries page = IsOpen entries page × ((other : ℕ) → IsOpen entries other → page ≤ other)
