-- Places for the pages of files.
use Rattle.std.proofs.Common.{◌≡◌, inl, inr, ℕ, ◌+◌, List, [], ◌∷◌, length, refl, sym, ap, subst, ◌∙◌, arith}
use Rattle.std.proofs.lemmas.Bool.{cases_eq}
use Rattle.std.specs.Int.{div_ceil}
use Rattle.layout.specs.Geometry.{inodes_of}
use Rattle.layout.specs.Fields.{inode_size}
use Rattle.image_reading.specs.Reading.{HasBytes, pages_of_size}
use Rattle.volatile_index.specs.Index.{NodeView, node_of, inodes_of_index, IsSameElsewhere}
use Rattle.mount_scan.specs.Building.{HasPlacesOf, HasPlaces}

nothing : (xs : List ℕ) → length xs ≡ 0 → xs ≡ []
nothing [] none = refl
nothing (x ∷ xs) none = absurd (omega arith)

module _ (P : ℕ) (I : List ℕ) where
  pub no_places : (index : List NodeView) → inodes_of_index index ≡ inodes_of P → ((i : ℕ) → (node_of index i).entries ≡ []) → ((i : ℕ) → (node_of index i).pages ≡ []) → HasPlaces P I 0 index
  no_places index size entries pages = record {
    each_inode = size;
    made = λ i least most. absurd (omega (arith, least, most));
    entries = λ i low. entries i;
    pages = λ i low. pages i;
  }

  pub places_added : (n count : ℕ) (old new : List NodeView) → (HasBytes I (n + 1) → count ≡ pages_of_size (inode_size I (n + 1))) → (¬ HasBytes I (n + 1) → count ≡ 0) → IsSameElsewhere (n + 1) old new
      → length (node_of new (n + 1)).pages ≡ length (node_of old (n + 1)).pages + count → (node_of new (n + 1)).entries ≡ (node_of old (n + 1)).entries
      → HasPlaces P I n old → HasPlaces P I (n + 1) new
  places_added n count old new file other elsewhere long entries has = record {
    each_inode = elsewhere.inodes ∙ has.each_inode;
    made = λ i least most. elim (cases_eq i (n + 1)) [
      | inl same ↦ subst (λ (k : ℕ). HasPlacesOf I k (node_of new k)) (sym same) here
      | inr apart ↦ subst (HasPlacesOf I i) (sym (elsewhere.others i apart)) (has.made i least (omega (arith, most, apart)))
    ];
    entries = λ i low. ap (λ (held : NodeView). held.entries) (elsewhere.others i (λ same. omega (arith, low, same))) ∙ has.entries i (omega (arith, low));
    pages = λ i low. ap (λ (held : NodeView). held.pages) (elsewhere.others i (λ same. omega (arith, low, same))) ∙ has.pages i (omega (arith, low));
  }
    where
      here : HasPlacesOf I (n + 1) (node_of new (n + 1))
      here =
          let none = ap length (has.pages (n + 1) (omega arith)) in
          record {
            entries = entries ∙ has.entries (n + 1) (omega arith);
            of_file = λ is. let size = file is in omega (arith, long, none, size);
            of_others = λ is. let zero = other is in nothing (node_of new (n + 1)).pages (omega (arith, long, none, zero));
          }

-- as many pages as bytes of a size take
pub pages_counted : (count size : ℕ) → count ≡ div_ceil size 4096 → count ≡ pages_of_size size
unfolding pages_of_size
pages_counted count size is = omega (arith, is)
