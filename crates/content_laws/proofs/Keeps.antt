-- An image that has the words of a tidy one, but for bytes of files, a file's size and its new pages' descriptors, is tidy.
use Rattle.std.proofs.Common.{◌≡◌, ◌≢◌, ◌↔◌, ◌⊎◌, inl, inr, ℕ, ◌+◌, ◌<◌, ◌≤◌, List, length, Some, slice_get, sym, ap, subst, ◌∙◌, arith}
use Rattle.std.specs.Prelude.{Contains}
use Rattle.layout.specs.Fields.{word, inode_kind, inode_size, page_owner, page_offset}
use Rattle.layout.specs.Geometry.{inodes_of, data_pages_of, inode_word_of, descriptor_word_of, slot_word_of}
use Rattle.tree_model.specs.PathText.{Route}
use Rattle.image_reading.specs.Reading.{HasBytes, IsHeld, Names, Reached, pages_of_size, IsPageOf}
use Rattle.image_reading.specs.Repairs.{IsKept}
use Rattle.image_reading.specs.Soundness.{IsCoherent}
use Rattle.image_reading.specs.Tidy.{IsTidied}
use Rattle.image_counts.specs.Entries.{IsFreePage}
use Rattle.image_laws.proofs.KeptPages.{page_same}
use Rattle.content_laws.specs.Gained.{HasGained}
use Rattle.content_laws.proofs.KeptFile as file
use Rattle.content_laws.proofs.KeptFile.{KeepsOthers, tidy_below}
use Rattle.content_laws.proofs.Lists.{place_of, contains_or_not}

pub record Keeps (P : ℕ) (W K : List ℕ) (i : ℕ) (pages : List ℕ) : Type 0 where
  pub tidy : IsTidied P W
  pub coherent : IsCoherent P K
  pub reached : Reached P W i
  pub file : HasBytes W i
  pub names : (q : Route) (x : ℕ) → Names P W q x ↔ Names P K q x
  pub version : word K 1 ≡ word W 1
  pub inode : (x f : ℕ) → 1 ≤ x → x ≤ inodes_of P → f < 16 → (x ≢ i) ⊎ (f ≢ 2) → word K (inode_word_of x f) ≡ word W (inode_word_of x f)
  pub descriptor : (j f : ℕ) → j < data_pages_of P → f < 8 → ¬ Contains pages j → word K (descriptor_word_of P j f) ≡ word W (descriptor_word_of P j f)
  pub slot : (s f : ℕ) → f < 16 → IsHeld P W s → word K (slot_word_of P s f) ≡ word W (slot_word_of P s f)
  pub free : (j : ℕ) → Contains pages j → IsFreePage P W j
  pub new : (k j : ℕ) → slice_get pages k ≡ Some j → IsPageOf P K i (pages_of_size (inode_size W i) + k) j
  pub count : pages_of_size (inode_size K i) ≡ pages_of_size (inode_size W i) + length pages

module _ (P : ℕ) (W K : List ℕ) (i : ℕ) (pages : List ℕ) (h : Keeps P W K i pages) where
  others : KeepsOthers P W K i (Contains pages)
  others = record {
    tidy = h.tidy;
    reached = h.reached;
    file = h.file;
    coherent = h.coherent;
    names = h.names;
    version = h.version;
    inodes = h.inode;
    slots = λ s f held lt. h.slot s f lt held;
    descriptors = h.descriptor;
    before = λ j c. inl (h.free j c).1;
    after = λ j c. let (k, lt, at) = place_of pages j c in inr (h.new k j at).owner;
  }

  dec_new : (j : ℕ) → Dec (Contains pages j)
  dec_new j = elim (contains_or_not pages j) [ inl c ↦ yes c | inr none ↦ no none ]

  -- a new page is kept
  new_kept : (j : ℕ) → Contains pages j → IsKept P K j
  new_kept j c =
      let (k, lt, at) = place_of pages j c in
      let page = h.new k j at in
      let count = h.count in
      let offset = page.offset in
      inl (record {
        in_range = page.in_range;
        owner = subst (Reached P K) (sym page.owner) (file.forth P W K i (Contains pages) others i h.reached);
        file = ap (inode_kind K) page.owner ∙ file.reached_kind P W K i (Contains pages) others i h.reached ∙ h.file;
        below = subst (λ x. page_offset P K j < pages_of_size (inode_size K x)) (sym page.owner) (omega (arith, count, offset, lt));
      })

  -- an old one is below the old end, which is below the new one
  below : (j : ℕ) → j < data_pages_of P → (Contains pages j → ⊥) → page_owner P W j ≡ i → page_offset P W j < pages_of_size (inode_size K i)
  below j lt none own = let low = tidy_below P W i h.tidy h.reached h.file j lt own in let count = h.count in omega (arith, low, count)

  pub keeps_tidy : IsTidied P K
  keeps_tidy = file.kept_tidy P W K i (Contains pages) others below dec_new (λ j c l. l.free (new_kept j c))

  -- ---- what an index holds

  pub keeps_page : (x k j : ℕ) → ¬ Contains pages j → IsPageOf P K x k j ↔ IsPageOf P W x k j
  keeps_page x k j none = page_same (file.paged P W K i (Contains pages) others) x k j none

  pub keeps_index : HasGained P W K i pages
  keeps_index = record {
    reached = λ x. (file.back P W K i (Contains pages) others x, file.forth P W K i (Contains pages) others x);
    kinds = file.inode_kind_same P W K i (Contains pages) others;
    entries = file.slots_kept P W K i (Contains pages) others;
    names = file.name_kept P W K i (Contains pages) others;
    inodes = file.number_kept P W K i (Contains pages) others;
    gained = h.new;
    owners = λ j lt none. (file.paged P W K i (Contains pages) others).owner j lt none;
    files = λ x k j r none. keeps_page x k j none;
  }
