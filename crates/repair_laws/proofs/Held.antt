-- Where descriptors have the same words, the same slots are held.
use Rattle.std.proofs.Common.{◌≡◌, ℕ, ◌<◌, List, sym, ◌∙◌, arith}
use Rattle.layout.specs.Fields.{word, page_kind, page_owner}
use Rattle.layout.specs.Geometry.{data_pages_of, page_of_slot, descriptor_word_of}
use Rattle.layout.proofs.GeometryLaws.{page_of_slot_below}
use Rattle.image_reading.specs.Reading.{slot_owner, IsHeld}

abbrev pub SameDescriptors : ℕ → List ℕ → List ℕ → Type 0
SameDescriptors P I J = (j f : ℕ) → j < data_pages_of P → f < 8 → word J (descriptor_word_of P j f) ≡ word I (descriptor_word_of P j f)

pub turned : (P : ℕ) (I J : List ℕ) → SameDescriptors P I J → SameDescriptors P J I
turned P I J same j f lt small = sym (same j f lt small)

pub still_held : (P : ℕ) (I J : List ℕ) → SameDescriptors P I J → (s : ℕ) → IsHeld P I s → IsHeld P J s
unfolding slot_owner page_kind page_owner
still_held P I J same s held =
    let lt = page_of_slot_below P s held.in_range in record {
      in_range = held.in_range;
      kind = same (page_of_slot s) 1 lt (omega arith) ∙ held.kind;
      owned = λ none. held.owned (sym (same (page_of_slot s) 0 lt (omega arith)) ∙ none);
    }
