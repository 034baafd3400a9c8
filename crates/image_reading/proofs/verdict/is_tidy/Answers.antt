use Rattle.std.proofs.Common.{◌≡◌, ℕ, List, sym, ap, subst, ◌∙◌}
use Rattle.layout.specs.declared.geometry.Geometry.{Geometry}
use Rattle.image_reading.specs.Soundness.{pages_in_image}
use Rattle.image_reading.specs.Tidy.{IsTidied}
use Rattle.image_reading.proofs.Chained.{pages_are}
use Rattle.image_reading.proofs.verdict.is_tidy.Goals as goal

-- what is tidy as the image that is read is tidy as these words
same_tidy : (I J : List ℕ) (P Q : ℕ) → J ≡ I → P ≡ Q → (IsTidied Q J → IsTidied P I) × (IsTidied P I → IsTidied Q J)
same_tidy I J P Q words pages = (
  (λ tidy. subst (λ (n : ℕ). IsTidied n I) (sym pages) (subst (λ (w : List ℕ). IsTidied Q w) words tidy)),
  (λ tidy. subst (λ (w : List ℕ). IsTidied Q w) (sym words) (subst (λ (n : ℕ). IsTidied n I) pages tidy)),
)

pub returns : goal.returns
returns c =
    let geometry = c.args.scan.now.geometry in
    let image = c.scanned.result.image in
    let pages : pages_in_image c.args.words.now ≡ image.geometry.pages = pages_are geometry.pages c.args.words.now c.requires.made_for ∙ ap (λ (g : Geometry). g.pages) (sym c.scanned.ensures.geometry) in
    let both = same_tidy c.args.words.now image.words.now (pages_in_image c.args.words.now) image.geometry.pages c.scanned.ensures.words pages in
    ((λ t. both.0 (c.has_no_repairs.ensures.0 t)), (λ tidy. c.has_no_repairs.ensures.1 (both.1 tidy)))
