-- A directory takes a page: the interval that fills it and the one that stores its owner change no meaning.
use Rattle.std.proofs.Common.{◌≡◌, ℕ, List, ◌∙◌}
use Rattle.layout.specs.Fields.{page_owner}
use Rattle.tree_model.specs.PathText.{Route}
use Rattle.image_reading.specs.Reading.{IsDirectory, Names, Reached}
use Rattle.image_reading.specs.Soundness.{IsCoherent}
use Rattle.image_counts.specs.Entries.{IsFreePage}
use Rattle.image_laws.specs.Create.{owned, IsPageQuiet}
use Rattle.image_laws.specs.Taking.{FillsPage, TakingLaw}
use Rattle.image_laws.specs.Agrees.{Alike}
use Rattle.image_laws.specs.Frame.{SameMeaning}
use Rattle.image_laws.specs.Free.{Stores}
use Rattle.image_laws.proofs.Free.{stores_law, alike_stores, same_stores}
use Rattle.image_laws.proofs.Meaning.{same_chained}
use Rattle.image_laws.proofs.NewPage.{owned_stores}

module _ (P : ℕ) (W A : List ℕ) (p : Route) (d j : ℕ) (coherent : IsCoherent P W) (named : Names P W p d) (directory : IsDirectory W d) (page : IsFreePage P W j) (fills : FillsPage P W A j) where
  pub same_page : SameMeaning P W A
  same_page = same_stores P W A coherent fills.stores

  pub alike_page : Alike P W A
  alike_page = alike_stores P W A coherent fills.stores

  pub d_reached : Reached P A d
  d_reached = (p, (same_page.names p d).0 named)

  pub d_directory : IsDirectory A d
  d_directory = (alike_page.inodes d (p, named)).kind ∙ directory

  pub unowned : page_owner P A j ≡ 0
  unowned = fills.owners j page.0 ∙ page.1

  pub owning_stores : Stores P A (owned P A j d)
  owning_stores = owned_stores P A j d same_page.coherent d_reached d_directory page.0 unowned fills.kind fills.numbers fills.pointers

  pub quiet : IsPageQuiet P W A (owned P A j d)
  quiet = record {
    making = λ M m. stores_law P W A M coherent fills.stores m;
    owning = λ M m. same_chained P W A M same_page (stores_law P A (owned P A j d) M same_page.coherent owning_stores m);
  }

pub taking_law : TakingLaw
taking_law P W A p d j coherent named directory page fills = quiet P W A p d j coherent named directory page fills
