-- A name that is written and waits for its number, beside other calls. P is the number of pages, I the words.
use Rattle.std.specs.Prelude.{◌≡◌, ℕ, true, List, Option, Some, None, Contains}
use Rattle.layout.specs.Geometry.{page_of_slot}
use Rattle.layout.specs.Fields.{page_owner, slot_words, slot_name}
use Rattle.layout.specs.Name.{IsNameWords}
use Rattle.tree_model.specs.PathText.{Route}
use Rattle.tree_model.specs.Tree.{Tree, parent, last_name, id_at, is_directory}
use Rattle.fence_token.specs.declared.states.Clean.{Clean}
use Rattle.image_reading.specs.Counts.{IsIn}
use Rattle.weave_laws.specs.Waiting.{IsBarePage, IsWaitingName}
use Rattle.volatile_index.specs.Index.{pages_of}
use Rattle.volume.specs.Volume.{VolumeView}
use Rattle.volume.specs.Entered.{pages_of_option, HasNamePlace}
use Rattle.entry_steps.specs.declared.place.NamePlace.{NamePlace}
use Rattle.entry_steps.specs.declared.place.NamePlace.TheVariants.{Slot, Page}

-- The name stands in the first slot of a new page that has no owner, and nothing is at the path.
pub record IsUnclaimedName (P : ℕ) (I : List ℕ) (T : Tree) (path : Route) (d s page : ℕ) : Type 0 where
  pub above : id_at T (parent path) ≡ Some d
  pub directory : is_directory T d ≡ true
  pub absent : id_at T path ≡ None
  pub page_is : page_of_slot s ≡ page
  pub unowned : page_owner P I page ≡ 0
  pub bare : IsBarePage P I page
  pub words : IsNameWords (slot_words P I s)
  pub name_is : slot_name P I s ≡ last_name path

-- It stands in a page of the directory, or in a new one.
abbrev pub IsNameIn : ℕ → List ℕ → Tree → Route → ℕ → ℕ → NamePlace Clean → Type 0
IsNameIn P I T path d s (Slot dentry) = IsWaitingName P I T path d s
IsNameIn P I T path d s (Page page) = IsUnclaimedName P I T path d s page

-- The index has room for the name, and no list has its new page.
pub record KnowsPlace (volume : VolumeView) (directory : ℕ) (new_page : Option ℕ) : Type 0 where
  pub place : HasNamePlace volume directory new_page
  pub unlisted : (i j : ℕ) → IsIn j (pages_of_option new_page) → ¬ Contains (pages_of volume.index i) j
