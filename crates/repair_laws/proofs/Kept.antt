-- Which pages are kept can be told, and their slots are held.
use Rattle.std.proofs.Common.{◌≡◌, inl, inr, ℕ, ◌+◌, ◌<◌, List, arith}
use Rattle.std.proofs.lemmas.Bool.{cases_lt}
use Rattle.layout.specs.Fields.{inode_size, page_owner, page_offset}
use Rattle.layout.specs.Geometry.{data_pages_of, page_of_slot}
use Rattle.layout.proofs.GeometryLaws.{slot_below}
use Rattle.image_reading.specs.Counts.{Count, AtMost}
use Rattle.image_reading.specs.Reading.{IsDirectory, HasBytes, slot_owner, IsHeld, Reached, IsNameOf, IsChildOf, IsLinkCount, pages_of_size}
use Rattle.image_reading.specs.Repairs.{IsKept, IsKeptDirectoryPage}
use Rattle.image_reading.specs.Soundness.{Rule, IsCoherent, HasLinks}
use Rattle.image_counts.proofs.Decided.{IsDecided, room_or_not, room_below}
use Rattle.image_counts.proofs.Distinct.{fewer}
use Rattle.image_counts.proofs.Inodes.{reached_or_not}
use Rattle.image_counts.proofs.Links.{not_both_kinds}
use Rattle.image_laws.proofs.Paths.{reached_pos}
use Rattle.image_laws.proofs.Trees.{tree_law}

module _ (P : ℕ) (I : List ℕ) (coherent : IsCoherent P I) where
  file_page_or_not : (j : ℕ) → j < data_pages_of P → Reached P I (page_owner P I j) → HasBytes I (page_owner P I j) → IsDecided (IsKept P I j)
  file_page_or_not j within reached file = elim (cases_lt (page_offset P I j) (pages_of_size (inode_size I (page_owner P I j)))) [
    | inl below ↦ inl (inl (record { in_range = within; owner = reached; file = file; below = below }))
    | inr above ↦ inr (λ kept. elim kept [
      | inl page ↦ let below = page.below in omega (arith, above, below)
      | inr room ↦ not_both_kinds I (page_owner P I j) file room.directory
    ])
  ]

  directory_page_or_not : (j : ℕ) → Reached P I (page_owner P I j) → IsDirectory I (page_owner P I j) → IsDecided (IsKept P I j)
  directory_page_or_not j reached directory = elim (room_or_not P I (page_owner P I j) j reached directory) [
    | inl room ↦ inl (inr room)
    | inr none ↦ inr (λ kept. elim kept [
      | inl page ↦ not_both_kinds I (page_owner P I j) page.file directory
      | inr room ↦ none room
    ])
  ]

  pub told_reached : (i : ℕ) → IsDecided (Reached P I i)
  told_reached i = let (T, reads, form) = tree_law P I coherent in reached_or_not P I T coherent reads i

  pub kept_or_not : (j : ℕ) → j < data_pages_of P → IsDecided (IsKept P I j)
  kept_or_not j within = elim (told_reached (page_owner P I j)) [
    | inr unreached ↦ inr (λ kept. elim kept [ inl page ↦ unreached page.owner | inr room ↦ unreached room.reached ])
    | inl reached ↦ elim ((coherent Rule.kinds (page_owner P I j)).kind reached) [
      | inl file ↦ file_page_or_not j within reached file
      | inr directory ↦ directory_page_or_not j reached directory
    ]
  ]

  -- a slot of a kept directory page is held
  pub kept_held : (s : ℕ) → IsKeptDirectoryPage P I (page_of_slot s) → IsHeld P I s
  unfolding slot_owner
  kept_held s page =
      let lt = room_below P I (page_owner P I (page_of_slot s)) (page_of_slot s) page in record {
        in_range = slot_below P s lt;
        kind = (coherent Rule.page_kinds (page_of_slot s)).directory lt page.reached page.directory;
        owned = reached_pos P I (page_owner P I (page_of_slot s)) page.reached;
      }

-- ---- links

at_most_counted : (m k n : ℕ) (Q : ℕ → Type 0) → Count Q k → n ≡ m + k → AtMost m Q n
at_most_counted m k n Q (ys, dy, are, long) is xs distinct all = let h = fewer xs ys distinct (λ x among. (are x).1 (all x among)) in omega (arith, h, long, is)

-- counted links are enough
pub counted_enough : (P : ℕ) (I : List ℕ) (i n : ℕ) → IsLinkCount P I i n → HasLinks P I i n
counted_enough P I i n count = record {
  file = λ file. at_most_counted 0 n n (IsNameOf P I i) (count.file file) (omega arith);
  directory = λ directory. let (m, children, is) = count.directory directory in at_most_counted 2 m n (IsChildOf P I i) children is;
}
