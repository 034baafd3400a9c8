-- Where the entry of a name stands in a sorted list, or would stand.
use Rattle.std.proofs.Common.{◌≡◌, ◌≢◌, ℕ, zero, suc, ◌≤◌, List, [], ◌∷◌, ◌++◌, length, take, drop, take-append-drop, get_or, slice_get, Contains, All, IsSomeAnd, refl, sym, ap, inl, inr, arith, Less, Greater}
use Rattle.std.specs.List.{AllWithin}
use Rattle.std.proofs.lemmas.Bool.{cases_lt}
use Rattle.std.proofs.lemmas.List.Elements.{All-contains, All-append, All-cons, All-take, All-drop}
use Rattle.std.proofs.lemmas.List.Kept.{AllPairs-cons}
use Rattle.volatile_index.specs.declared.entry.Entry.{Entry}
use Rattle.layout.specs.Name.{name_cmp}
use Rattle.volatile_index.specs.Entries.{IsSorted, IsAbsent, IsPresent, IsWithEntry}
use Rattle.volatile_index.proofs.EntryLaws.{contains_more, differs, turned_back, sorted_head, sorted_tail}
use Rattle.volatile_index.specs.Place.{IsGap}

-- ---- what a search finds

pub gap_absent : (name : List ℕ) (entries : List Entry) (place : ℕ) → IsGap entries place name → IsAbsent entries name
gap_absent name entries place gap entry there = All-contains (λ entry. entry.name ≢ name) entries entry other there
  where
    other : All (λ entry. entry.name ≢ name) entries
    other k d lt = elim (cases_lt k place) [
      | inl low ↦ differs (get_or entries k d).name name Less (gap.less k d (omega arith) low) (λ e. (cc))
      | inr high ↦ differs (get_or entries k d).name name Greater (gap.greater k d high lt) (λ e. (cc))
    ]

contains_found : (name : List ℕ) (entries : List Entry) (place : ℕ) → IsSomeAnd (slice_get entries place) (λ entry. entry.name ≡ name) → (entry : Entry) × Contains entries entry × (entry.name ≡ name)
contains_found name [] place h = absurd h
contains_found name (entry ∷ entries) zero h = (entry, (0, omega arith, refl), h)
contains_found name (first ∷ entries) (suc place) h = let (entry, there, is) = contains_found name entries place h in (entry, contains_more first entries entry there, is)

pub found_not_absent : (name : List ℕ) (entries : List Entry) (place : ℕ) → IsSomeAnd (slice_get entries place) (λ entry. entry.name ≡ name) → ¬ IsAbsent entries name
found_not_absent name entries place h absent = let (entry, there, is) = contains_found name entries place h in absent entry there is

pub gap_not_present : (name : List ℕ) (entries : List Entry) (place : ℕ) → IsGap entries place name → ¬ IsPresent entries name
gap_not_present name entries place gap (slot, there) = gap_absent name entries place gap (record { name = name; slot = slot }) there refl

-- ---- an entry put in

put_sorted : (entries : List Entry) (place : ℕ) (entry : Entry) → IsSorted entries → place ≤ length entries
    → AllWithin (λ other. name_cmp other.name entry.name ≡ Less) entries 0 place → AllWithin (λ other. name_cmp other.name entry.name ≡ Greater) entries place (length entries)
    → IsSorted (take place entries ++ entry ∷ drop place entries)
put_sorted entries zero entry sorted within less greater =
    AllPairs-cons (λ earlier later. name_cmp earlier.name later.name ≡ Less) entry entries
    (λ k d lt. turned_back (get_or entries k d).name entry.name (greater k d (omega arith) lt)) sorted
put_sorted [] (suc place) entry sorted within less greater = absurd (omega arith)
put_sorted (first ∷ entries) (suc place) entry sorted within less greater =
    AllPairs-cons (λ earlier later. name_cmp earlier.name later.name ≡ Less) first (take place entries ++ entry ∷ drop place entries)
    (All-append Later (take place entries) (entry ∷ drop place entries) (All-take Later place entries others)
    (All-cons Later entry (drop place entries) (less 0 first (omega arith) (omega arith)) (All-drop Later place entries others)))
    (put_sorted entries place entry (sorted_tail first entries sorted) (omega arith)
    (λ k d low high. less (suc k) d (omega arith) (omega arith)) (λ k d low high. greater (suc k) d (omega arith) (omega arith)))
  where
    Later : Entry → Type 0
    Later later = name_cmp first.name later.name ≡ Less

    others : All Later entries
    others = sorted_head first entries sorted

pub sorted_with : (entries : List Entry) (place : ℕ) (entry : Entry) → IsSorted entries → IsGap entries place entry.name → IsSorted (take place entries ++ entry ∷ drop place entries)
sorted_with entries place entry sorted gap = put_sorted entries place entry sorted gap.within gap.less gap.greater

pub with_entry : (entries : List Entry) (place : ℕ) (entry : Entry) → IsWithEntry entries (take place entries ++ entry ∷ drop place entries) entry
with_entry entries place entry = record {
  front = take place entries;
  back = drop place entries;
  shorter_is = sym (take-append-drop place entries);
  longer_is = refl;
}

-- ---- an entry taken out

pub sorted_without : (entries : List Entry) (place : ℕ) → IsSorted entries → IsSorted (take place entries ++ drop (suc place) entries)
sorted_without [] zero sorted = sorted
sorted_without [] (suc place) sorted = sorted
sorted_without (first ∷ entries) zero sorted = sorted_tail first entries sorted
sorted_without (first ∷ entries) (suc place) sorted =
    AllPairs-cons (λ earlier later. name_cmp earlier.name later.name ≡ Less) first (take place entries ++ drop (suc place) entries)
    (All-append Later (take place entries) (drop (suc place) entries) (All-take Later place entries others) (All-drop Later (suc place) entries others))
    (sorted_without entries place (sorted_tail first entries sorted))
  where
    Later : Entry → Type 0
    Later later = name_cmp first.name later.name ≡ Less

    others : All Later entries
    others = sorted_head first entries sorted

split_at : (entries : List Entry) (place : ℕ) (name : List ℕ) → IsSomeAnd (slice_get entries place) (λ entry. entry.name ≡ name)
    → (slot : ℕ) × (entries ≡ take place entries ++ record { name = name; slot = slot } ∷ drop (suc place) entries)
split_at [] place name h = absurd h
split_at (first ∷ entries) zero name h = (first.slot, ap (λ n. record { name = n; slot = first.slot } ∷ entries) h)
split_at (first ∷ entries) (suc place) name h = let (slot, is) = split_at entries place name h in (slot, ap (λ es. first ∷ es) is)

pub without_entry : (entries : List Entry) (place : ℕ) (name : List ℕ) → IsSomeAnd (slice_get entries place) (λ entry. entry.name ≡ name)
    → (slot : ℕ) × IsWithEntry (take place entries ++ drop (suc place) entries) entries (record { name = name; slot = slot })
without_entry entries place name h =
    let (slot, is) = split_at entries place name h in
    (slot, record { front = take place entries; back = drop (suc place) entries; shorter_is = refl; longer_is = is })
