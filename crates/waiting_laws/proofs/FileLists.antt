-- Lists of pages that a volume has of its inodes.
use Rattle.std.proofs.Common.{◌≡◌, inl, inr, ℕ, zero, suc, ◌+◌, ◌-◌, ◌<◌, ◌≤◌, List, length, drop, Some, sym, ap, subst, ◌∙◌, arith, length-drop}
use Rattle.std.specs.Prelude.{Contains, slice_get}
use Rattle.std.proofs.lemmas.Bool.{cases_lt}
use Rattle.std.proofs.lemmas.List.{get_or_past, get_or-drop}
use Rattle.std.proofs.lemmas.List.Elements.{All-drop, All-contains, All-contains_itself}
use Rattle.std.proofs.lemmas.Option.{slice_get_within, slice_get-get_or, get_or_from_slice_get}
use Rattle.volatile_index.specs.Index.{NodeView, empty_node, node_of, inodes_of_index, pages_of}
use Rattle.volume.specs.declared.plan.Resizing.{Resizing}
use Rattle.data_ops.specs.Cutting.{gone_pages}

-- what has a list with a page is one of the index
pub listed_within : (index : List NodeView) (x j : ℕ) → Contains (pages_of index x) j → (1 ≤ x) × (x ≤ inodes_of_index index)
unfolding node_of
listed_within index zero j (k, low, at) = absurd (omega (arith, low))
listed_within index (suc x) j listed = elim (cases_lt x (length index)) [
  | inl lt ↦ (omega arith, omega (arith, lt))
  | inr ge ↦ (let (k, low, at) = subst (λ (node : NodeView). Contains node.pages j) (get_or_past index x empty_node ge) listed in absurd (omega (arith, low)))
]

-- what stands behind the first so many of a list is in it,
pub dropped_in : (n : ℕ) (pages : List ℕ) (j : ℕ) → Contains (drop n pages) j → Contains pages j
dropped_in n pages j there = All-contains (Contains pages) (drop n pages) j (All-drop (Contains pages) n pages (All-contains_itself pages)) there

-- so many places on
pub dropped_at : (n : ℕ) (pages : List ℕ) (k j : ℕ) → slice_get (drop n pages) k ≡ Some j → slice_get pages (n + k) ≡ Some j
dropped_at n pages k j at =
    let low = slice_get_within (drop n pages) k j at in
    let all = length-drop n pages in
    let inside : n + k < length pages = omega (arith, low, all) in
    slice_get-get_or pages (n + k) 0 inside ∙ ap Some (sym (get_or-drop n pages k 0) ∙ get_or_from_slice_get (drop n pages) k j 0 at)

-- so many are the last pages of a list
pub gone_long : (resizing : Resizing) (pages : List ℕ) → resizing.cut ≤ length pages → length (gone_pages resizing pages) ≡ resizing.cut
gone_long resizing pages enough = let all = length-drop (length pages - resizing.cut) pages in omega (arith, all, enough)
