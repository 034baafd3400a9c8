use Rattle.std.proofs.Common.{ℕ, List, sym, subst}
use Rattle.image_reading.specs.Scan.{AreCounted}
use Rattle.image_reading.specs.Scanned.{AreNames}
use Rattle.image_reading.specs.Soundness.{IsCoherent}
use Rattle.image_reading.proofs.Chained.{pages_are}
use Rattle.image_reading.proofs.scan.Scan.scanned.Goals as goal

pub returns-clause-known : goal.returns-clause-known
returns-clause-known c =
    let P = c.args.self.now.geometry.pages in
    let I = c.args.words.now in
    record {
      coherent = subst (λ (n : ℕ). IsCoherent n I) (pages_are P I c.requires.made_for) c.requires.coherent;
      known = c.requires.known.walk.known;
      pointer = c.requires.known.pointer;
      names = subst (λ (s : List ℕ). AreNames P I s) (sym c.as_slice.ensures.value) c.requires.known.names;
      counted = subst (λ (t : List ℕ). AreCounted P I t) (sym c.as_slice-2.ensures.value) c.requires.known.counted;
    }
