-- Entries of nodes with their pages alone: where each id has the same, they are as many, of as many pages.
use Rattle.std.proofs.Common.{◌≡◌, ℕ, cond, true, false, T, List, [], ◌∷◌, map, length, sum_by, Option, Some, None, refl, sym, ◌∙◌, arith, nat_cmp}
use Rattle.std.proofs.lemmas.List.Sums.{sum_by-cons}
use Rattle.std.proofs.lemmas.List.{length-map}
use Rattle.std.specs.Ordering.{eq_by_cmp}
use Rattle.std.specs.Cmp.{nat_cmp_total}
use Rattle.std.specs.FinMap.{nat_cmp-IsAntisymmetric}
use Rattle.std.specs.FinMap.Entries.{find, below_all, is_sorted, same_entries}
use Rattle.tree_model.specs.Tree.{Node, node_pages}
use Rattle.tree_model.proofs.EntryLaws.{both, front, back}

abbrev pub pages_at : Option Node → Option ℕ
pages_at None = None
pages_at (Some node) = Some (node_pages node)

abbrev pub paged : List (ℕ × Node) → List (ℕ × ℕ)
paged es = map (λ e. (e.0, node_pages e.1)) es

find-paged : (id : ℕ) (es : List (ℕ × Node)) → find nat_cmp id (paged es) ≡ pages_at (find nat_cmp id es)
find-paged id [] = refl
find-paged id (e ∷ es) =
    let rest = find-paged id es in
    elim (eq_by_cmp nat_cmp id e.0) as (λ b. cond b (Some (node_pages e.1)) (find nat_cmp id (paged es)) ≡ pages_at (cond b (Some e.1) (find nat_cmp id es))) [
      | true ↦ refl
      | false ↦ rest
    ]

below_all-paged : (id : ℕ) (es : List (ℕ × Node)) → T (below_all nat_cmp id es) → T (below_all nat_cmp id (paged es))
below_all-paged id [] h = tt
below_all-paged id (e ∷ es) h = both _ _ (front _ _ h) (below_all-paged id es (back _ _ h))

is_sorted-paged : (es : List (ℕ × Node)) → T (is_sorted nat_cmp es) → T (is_sorted nat_cmp (paged es))
is_sorted-paged [] h = tt
is_sorted-paged (e ∷ es) h = both _ _ (below_all-paged e.0 es (front _ _ h)) (is_sorted-paged es (back _ _ h))

pub same_by_pages : (es fs : List (ℕ × Node)) → T (is_sorted nat_cmp es) → T (is_sorted nat_cmp fs) → ((id : ℕ) → pages_at (find nat_cmp id es) ≡ pages_at (find nat_cmp id fs))
    → paged es ≡ paged fs
same_by_pages es fs g h same =
    same_entries nat_cmp nat_cmp_total nat_cmp-IsAntisymmetric (paged es) (paged fs) (is_sorted-paged es g) (is_sorted-paged fs h)
    (λ id. find-paged id es ∙ same id ∙ sym (find-paged id fs))

pub sum_by-paged : (es : List (ℕ × Node)) → sum_by (λ e. e.1) (paged es) ≡ sum_by (λ e. node_pages e.1) es
sum_by-paged [] = refl
sum_by-paged (e ∷ es) =
    let rest = sum_by-paged es in
    let one = sum_by-cons (λ (e : ℕ × ℕ). e.1) (e.0, node_pages e.1) (paged es) in
    let all = sum_by-cons (λ (e : ℕ × Node). node_pages e.1) e es in
    omega (arith, rest, one, all)

pub length-paged : (es : List (ℕ × Node)) → length (paged es) ≡ length es
length-paged es = length-map es (λ (e : ℕ × Node). (e.0, node_pages e.1))
