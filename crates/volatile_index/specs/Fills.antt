-- The pages in whose slots entries stand, sorted by number, each with its count of entries.
use Rattle.std.specs.Prelude.{◌≡◌, ◌≢◌, ℕ, ◌+◌, ◌<◌, ◌≤◌, Bool, List, [], ◌∷◌, length, if◌then◌else◌, ◌==◌, slice_index_or}
use Rattle.volatile_index.specs.declared.entry.Entry.{Entry}
use Rattle.volatile_index.specs.declared.fills.Fill.{Fill}
use Rattle.volatile_index.specs.Entries.{IsSorted, names_in}

-- the fills, and whether there is memory for one more
pub record FillsView : Type 0 where
  pub fills : List Fill
  pub has_room : Bool

-- how many entries stand in the page: those of its fill, or none
abbrev pub names_at : List Fill → ℕ → ℕ
names_at [] page = 0
names_at (fill ∷ fills) page = if fill.page == page then fill.names else names_at fills page

abbrev pub no_fill : Fill
no_fill = record { page = 0; names = 0 }

-- the page of the fill at a place, and its count
abbrev pub page_of : List Fill → ℕ → ℕ
page_of fills k = (slice_index_or fills k no_fill).page

abbrev pub names_of : List Fill → ℕ → ℕ
names_of fills k = (slice_index_or fills k no_fill).names

-- each page is less than each later one
abbrev pub IsRising : List Fill → Type 0
IsRising fills = (i j : ℕ) → i < j → j < length fills → page_of fills i < page_of fills j

-- the page's fill stands at the place
pub record IsFillAt (fills : List Fill) (page place : ℕ) : Type 0 where
  pub within : place < length fills
  pub is : page_of fills place ≡ page

-- the page has no fill, and one would stand at the place
pub record IsFillGap (fills : List Fill) (page place : ℕ) : Type 0 where
  pub within : place ≤ length fills
  pub less : (k : ℕ) → k < place → page_of fills k < page
  pub greater : (k : ℕ) → place ≤ k → k < length fills → page < page_of fills k

-- all fills before the place are full
abbrev pub AreFull : List Fill → ℕ → Type 0
AreFull fills place = (k : ℕ) → k < place → 32 ≤ names_of fills k

-- the first fill with fewer than 32 entries stands at the place, or there is none and the place is the end
pub record IsFirstOpen (fills : List Fill) (place : ℕ) : Type 0 where
  pub within : place ≤ length fills
  pub full : AreFull fills place
  pub has_room : place < length fills → names_of fills place < 32

-- what is true of fills between any two calls
pub record IsSound (fills : List Fill) (first_open : ℕ) : Type 0 where
  pub rising : IsRising fills
  pub some : (k : ℕ) → k < length fills → 1 ≤ names_of fills k
  pub first : IsFirstOpen fills first_open

-- one entry more stands in the page, and as many as before in each other
pub record Raises (page : ℕ) (old new : List Fill) : Type 0 where
  pub here : names_at new page ≡ names_at old page + 1
  pub others : (other : ℕ) → other ≢ page → names_at new other ≡ names_at old other

-- some entries stand in the page, but fewer than 32
abbrev pub IsOpenIn : List Fill → ℕ → Type 0
IsOpenIn fills page = (0 < names_at fills page) × (names_at fills page < 32)

-- the least page of those
abbrev pub IsLeastOpenIn : List Fill → ℕ → Type 0
IsLeastOpenIn fills page = IsOpenIn fills page × ((other : ℕ) → IsOpenIn fills other → page ≤ other)

-- the entries are sorted, and the fills count those of each page
pub record AreCounted (entries : List Entry) (fills : List Fill) : Type 0 where
  pub sorted : IsSorted entries
  pub counts : (page : ℕ) → names_at fills page ≡ names_in entries page
