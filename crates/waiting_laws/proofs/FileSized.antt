-- The words with another size of a file: nothing else changes, so the names and pages stay.
use Rattle.std.proofs.Common.{◌≡◌, ℕ, ◌≤◌, List, [], ◌∙◌, arith}
use Rattle.layout.specs.Geometry.{inodes_of, inode_word_of, descriptor_word_of}
use Rattle.layout.specs.Fields.{word, page_owner, page_kind, page_offset}
use Rattle.image_reading.specs.Counts.{IsIn}
use Rattle.image_reading.specs.Residue.{Residue}
use Rattle.image_counts.specs.Entries.{IsPageIn}
use Rattle.image_laws.proofs.Addresses.{descriptor-ne_inode}
use Rattle.image_laws.proofs.Resize.{only_size}
use Rattle.image_laws.proofs.Words.{other_word}
use Rattle.content_laws.specs.Growth.{sized}
use Rattle.knowing_laws.specs.Knowing.{KeepsPagesBut, ChangesNumbers}
use Rattle.waiting_laws.proofs.FileKnown.{unused_as, same_numbers}

module _ (P : ℕ) (I : List ℕ) (i z : ℕ) (least : 1 ≤ i) (most : i ≤ inodes_of P) where
  abbrev K : List ℕ
  K = sized I i z

  descriptor_same : (j f : ℕ) → word K (descriptor_word_of P j f) ≡ word I (descriptor_word_of P j f)
  descriptor_same j f = other_word I (inode_word_of i 2) z (descriptor_word_of P j f) (descriptor-ne_inode P j f i 2 least most (omega arith))

  pub owner_same : (j : ℕ) → page_owner P K j ≡ page_owner P I j
  unfolding page_owner
  owner_same j = descriptor_same j 0

  kind_same : (j : ℕ) → page_kind P K j ≡ page_kind P I j
  unfolding page_kind
  kind_same j = descriptor_same j 1

  pub offset_same : (j : ℕ) → page_offset P K j ≡ page_offset P I j
  unfolding page_offset
  offset_same j = descriptor_same j 2

  pub numbers : ChangesNumbers P I K [] []
  numbers = same_numbers P I K (λ x some few. (only_size P I i z least most).node_kind x) (λ j low. unused_as P I K j (owner_same j) (kind_same j))

  pub keeps_pages : (before after : Residue) (pages : List ℕ) → ((j : ℕ) → ¬ IsIn j after.pages → ¬ IsIn j pages → ¬ IsIn j before.pages) → KeepsPagesBut P I K before after pages
  keeps_pages before after pages left = record { left = left; owners = λ j low kept other. owner_same j; offsets = λ j low kept other. offset_same j }

  pub still_in : (x j : ℕ) → IsPageIn P I x j → IsPageIn P K x j
  still_in x j page = record { in_range = page.in_range; owner = owner_same j ∙ page.owner }
