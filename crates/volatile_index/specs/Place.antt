-- Where the entry of a name would stand.
use Rattle.std.specs.Prelude.{◌≡◌, ℕ, ◌≤◌, List, length}
use Rattle.std.specs.List.{AllWithin}
use Rattle.std.specs.declared.cmp.Ordering.TheVariants.{Less, Greater}
use Rattle.volatile_index.specs.declared.entry.Entry.{Entry}
use Rattle.layout.specs.Name.{name_cmp}

-- the names before the place are less, and the others greater
pub record IsGap (entries : List Entry) (place : ℕ) (name : List ℕ) : Type 0 where
  pub within : place ≤ length entries
  pub less : AllWithin (λ entry. name_cmp entry.name name ≡ Less) entries 0 place
  pub greater : AllWithin (λ entry. name_cmp entry.name name ≡ Greater) entries place (length entries)
