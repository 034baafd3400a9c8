use Rattle.image_reading.proofs.Linked.{LinkedFrom}
use Rattle.image_reading.proofs.HeldPages.{HeldFrom}
use Rattle.image_reading.proofs.pages.link_pages.Given as goal

abbrev pub invariant-loop-page : goal.invariant-loop-page
invariant-loop-page l = record {
  linked : LinkedFrom l.image.geometry.pages l.image.words.now l.page l.first l.next;
  held : HeldFrom l.image.geometry.pages l.image.words.now l.page l.held;
}

abbrev pub decreases-loop-page : goal.decreases-loop-page
decreases-loop-page l = l.page
