-- A directory takes a page with nothing else.
use Rattle.std.proofs.Common.{ℕ, List}
use Rattle.image_reading.specs.Soundness.{IsCoherent}
use Rattle.image_counts.specs.Entries.{IsFreePage}
use Rattle.image_laws.specs.Create.{MakesEmptyPage, PageQuietLaw}
use Rattle.image_laws.specs.Taking.{FillsPage}
use Rattle.image_laws.proofs.NewPage.{made_stores, made_owner}
use Rattle.image_laws.proofs.Taking.{taking_law}

pub fills_empty : (P : ℕ) (W A : List ℕ) (j : ℕ) → IsCoherent P W → IsFreePage P W j → MakesEmptyPage P W A j → FillsPage P W A j
fills_empty P W A j coherent page makes = record {
  stores = made_stores P W A j coherent page makes;
  owners = made_owner P W A j coherent page makes;
  kind = makes.kind;
  numbers = makes.numbers;
  pointers = makes.pointers;
}

pub page_quiet_law : PageQuietLaw
page_quiet_law P W A p d j coherent named directory page makes = taking_law P W A p d j coherent named directory page (fills_empty P W A j coherent page makes)
