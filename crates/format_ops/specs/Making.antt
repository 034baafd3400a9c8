-- The steps of a format. pages is the number of pages.
use Rattle.std.specs.Prelude.{◌≡◌, ℕ, true, List, [], ◌∷◌, length}
use Rattle.pm_trait.specs.Unfolds.{Step, events_in}
use Rattle.fence_token.specs.Setting.{setting}
use Rattle.layout.specs.Geometry.{first_data_word_of}
use Rattle.layout.specs.Superblock.{magic}
use Rattle.format_ops.specs.Tables.{HasTableValues, SameBeside, tables_events}

-- From I to J every word before the data pages but the first has got the value that a formatted volume has there.
pub record HasTables (pages : ℕ) (I J : List ℕ) : Type 0 where
  pub long : length J ≡ length I
  pub written : HasTableValues pages 1 (first_data_word_of pages) J
  pub beside : SameBeside 1 (first_data_word_of pages) I J

-- every word before the data pages but the first
abbrev pub filling_tables : ℕ → Step
filling_tables pages = record { Makes = HasTables pages; stores = true; events = tables_events pages }

-- the magic goes, by which an old volume is hidden; the tables; the magic, the commit
abbrev pub steps_of : ℕ → List Step
steps_of pages = setting 0 0 ∷ filling_tables pages ∷ setting 0 magic ∷ []

-- the stores, flushes and fences of all of them
abbrev pub format_events : ℕ → ℕ
format_events pages = events_in (steps_of pages)
