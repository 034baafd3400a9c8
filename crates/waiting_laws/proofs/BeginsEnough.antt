-- What a call has left fits into what is free beside the others: it isn't in use by the tree.
use Rattle.std.proofs.Common.{◌⊎◌, inl, inr, ℕ, ◌+◌, ◌<◌, ◌≤◌, List, ◌++◌, length, arith}
use Rattle.std.proofs.lemmas.List.{length-append}
use Rattle.layout.specs.Geometry.{inodes_of, data_pages_of}
use Rattle.tree_model.specs.Capacity.{inodes_in_use, pages_in_use, free_inodes, free_pages}
use Rattle.tree_model.specs.Run.{State}
use Rattle.image_reading.specs.Reading.{Reached}
use Rattle.image_reading.specs.Repairs.{IsKept, IsLitterPage, IsLitterInode}
use Rattle.image_reading.specs.Residue.{Residue}
use Rattle.image_reading.proofs.Residues.{counted}
use Rattle.image_counts.specs.Laws.{ReadsBeside, HasInodes, supply_beside}
use Rattle.image_counts.proofs.Beside.{kept_within}
use Rattle.image_counts.proofs.Counting.{count_fewer, count_either, count_run}
use Rattle.image_counts.proofs.Inodes.{inode_count_law}
use Rattle.image_counts.proofs.Pages.{kept_page_law}
use Rattle.weave_laws.specs.Joined.{joined}
use Rattle.waiting_laws.specs.Begins.{OwnEnoughLaw}

module _ (P : ℕ) (I : List ℕ) (state : State) (own others : Residue) (holds : ReadsBeside P I (joined own others) state) where
  -- ---- inodes

  inodes : HasInodes P I state.tree
  inodes = inode_count_law P I state holds.coherent holds.reads

  inode_within : (i : ℕ) → Reached P I i ⊎ IsLitterInode P I i → (1 ≤ i) × (i < 1 + inodes_of P)
  inode_within i has = elim has [
    | inl reached ↦ (inodes.least i reached, (let most = inodes.most i reached in omega (arith, most)))
    | inr litter ↦ (litter.least, (let most = litter.most in omega (arith, most)))
  ]

  -- those of the tree and those that are left are no more than there are
  all_inodes : inodes_in_use state.tree + length (own.inodes ++ others.inodes) ≤ inodes_of P
  all_inodes =
      count_fewer (λ i. Reached P I i ⊎ IsLitterInode P I i) (λ i. (1 ≤ i) × (i < 1 + inodes_of P)) (inodes_in_use state.tree + length (own.inodes ++ others.inodes)) (inodes_of P) inode_within
      (count_either (Reached P I) (IsLitterInode P I) (inodes_in_use state.tree) (length (own.inodes ++ others.inodes)) (λ i reached litter. litter.unreached reached) inodes.count
      (counted (IsLitterInode P I) (own.inodes ++ others.inodes) holds.beside.of_inodes))
      (count_run 1 (inodes_of P))

  enough_inodes : length own.inodes ≤ free_inodes (supply_beside P others) state.tree
  enough_inodes = let all = all_inodes in let both = length-append own.inodes others.inodes in omega (arith, all, both)

  -- ---- pages

  page_within : (j : ℕ) → IsKept P I j ⊎ IsLitterPage P I j → (0 ≤ j) × (j < 0 + data_pages_of P)
  page_within j has = elim has [
    | inl kept ↦ (omega arith, (let below = kept_within P I j kept in omega (arith, below)))
    | inr litter ↦ (omega arith, (let below = litter.in_range in omega (arith, below)))
  ]

  all_pages : pages_in_use state.tree state.room + length (own.pages ++ others.pages) ≤ data_pages_of P
  all_pages =
      count_fewer (λ j. IsKept P I j ⊎ IsLitterPage P I j) (λ j. (0 ≤ j) × (j < 0 + data_pages_of P)) (pages_in_use state.tree state.room + length (own.pages ++ others.pages)) (data_pages_of P) page_within
      (count_either (IsKept P I) (IsLitterPage P I) (pages_in_use state.tree state.room) (length (own.pages ++ others.pages)) (λ j kept litter. litter.free kept) (kept_page_law P I state holds.coherent holds.reads)
      (counted (IsLitterPage P I) (own.pages ++ others.pages) holds.beside.of_pages))
      (count_run 0 (data_pages_of P))

  enough_pages : length own.pages ≤ free_pages (supply_beside P others) state.tree state.room
  enough_pages = let all = all_pages in let both = length-append own.pages others.pages in omega (arith, all, both)

pub own_enough_law : OwnEnoughLaw
own_enough_law P I state own others holds = (enough_inodes P I state own others holds, enough_pages P I state own others holds)
