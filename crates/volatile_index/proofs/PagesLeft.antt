-- What is left of pages once one is taken out.
use Rattle.std.proofs.Common.{◌≡◌, ℕ, suc, ◌<◌, List, ◌∷◌, ◌++◌, length, take, drop, get_or, sym, ap, ◌∙◌, drop-cons}
use Rattle.std.specs.List.{remove}
use Rattle.std.proofs.lemmas.List.{take-append-drop}
use Rattle.volatile_index.specs.Index.{NodeView, IsWithPages, DropsPage}

split_at : (pages : List ℕ) (place page : ℕ) → place < length pages → get_or pages place page ≡ page → pages ≡ take place pages ++ page ∷ drop (suc place) pages
split_at pages place page inside is = sym (take-append-drop place pages) ∙ ap (λ rest. take place pages ++ rest) (drop-cons pages place page inside ∙ ap (λ first. first ∷ drop (suc place) pages) is)

-- the page at this place is taken out
pub dropped : (pages : List ℕ) (place page : ℕ) → place < length pages → get_or pages place page ≡ page → (old new : NodeView) → old.pages ≡ pages → IsWithPages (remove pages place) old new → DropsPage page old new
dropped pages place page inside is old new same with = record {
  front = take place pages;
  back = drop (suc place) pages;
  old_is = same ∙ split_at pages place page inside is;
  new_is = with;
}
