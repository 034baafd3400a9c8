-- After a truncation to less nothing is to be repaired, and what an index holds then.
use Rattle.std.proofs.Common.{◌≡◌, ◌≢◌, ◌↔◌, ◌⊎◌, inl, inr, ℕ, ◌<◌, ◌≤◌, List, sym, ap, subst, ◌∙◌, arith}
use Rattle.std.proofs.lemmas.Bool.{cases_lt}
use Rattle.layout.specs.Fields.{inode_size, page_owner, page_offset}
use Rattle.layout.specs.Geometry.{data_pages_of, inode_word_of}
use Rattle.layout.proofs.Widths.{descriptor_field_read}
use Rattle.tree_model.specs.Step.{resized}
use Rattle.tree_model.specs.Tree.{Tree, File, bytes_of}
use Rattle.tree_model.proofs.TreeLaws.{node_at-with_bytes_here}
use Rattle.image_reading.specs.Reading.{pages_of_size, Reads}
use Rattle.image_reading.specs.Repairs.{IsLitterPage}
use Rattle.image_reading.specs.Tidy.{IsTidied}
use Rattle.image_counts.specs.Entries.{IsPageIn, IsFreePage}
use Rattle.image_laws.specs.Quiet.{IsMix}
use Rattle.image_laws.proofs.Free.{mix_one}
use Rattle.image_laws.proofs.Resizes.{resize_tree_law, resize_room_law}
use Rattle.content_laws.specs.Cut.{CanCut, IsPastCut, Cuts, with_size, LeavesLowered, LoweringLaw, LeavesCut, CutLaw, HasCut, CutIndexLaw}
use Rattle.content_laws.specs.Growth.{sized}
use Rattle.content_laws.proofs.Bytes.{length-resized}
use Rattle.content_laws.proofs.CutQuiet as quiet
use Rattle.content_laws.proofs.CutWords as words
use Rattle.content_laws.proofs.KeptFile as file
use Rattle.content_laws.proofs.KeptFile.{KeepsOthers}

-- ---- the size

module _ (P : ℕ) (W : List ℕ) (i z : ℕ) (can : CanCut P W i z) where
  either : (M : List ℕ) → IsMix W (sized W i z) M → (M ≡ W) ⊎ (M ≡ sized W i z)
  either M mix = mix_one W M (inode_word_of i 2) z (words.inside P W i z can) mix

  other_size : inode_size (sized W i z) i ≢ inode_size W i
  other_size e = let new = words.size_is P W i z can in let less = can.less in omega (arith, e, new, less)

  -- the size word tells the two apart
  by_size : (M N : List ℕ) → IsMix W (sized W i z) M → IsMix W (sized W i z) N → inode_size N i ≡ inode_size M i → N ≡ M
  by_size M N m n same = elim (either M m) [
    | inl old ↦ elim (either N n) [
      | inl also ↦ also ∙ sym old
      | inr new ↦ absurd (other_size (ap (λ X. inode_size X i) (sym new) ∙ same ∙ ap (λ X. inode_size X i) old))
    ]
    | inr new ↦ elim (either N n) [
      | inl old ↦ absurd (other_size (ap (λ X. inode_size X i) (sym new) ∙ sym same ∙ ap (λ X. inode_size X i) old))
      | inr also ↦ also ∙ sym new
    ]
  ]

  -- in W the file is longer
  not_yet : (T : Tree) → ¬ Reads P W (with_size T i z)
  not_yet T reads =
      let bytes = resized (bytes_of T i) z in
      let content = ((reads.nodes i (File bytes)).0 (node_at-with_bytes_here T i bytes)).1.1 in
      let size = content.size in
      let long = length-resized (bytes_of T i) z in
      let less = can.less in
      omega (arith, size, long, less)

  pub lowered : LeavesLowered P W i z
  lowered = record {
    commit = either;
    hangs = by_size;
    not_yet = not_yet;
    coherent = (words.resized_file P W i z can).coherent;
    reads = λ T reads. resize_tree_law P W i z T (resized (bytes_of T i) z) (words.can_resize P W i z can) (quiet.stored_first P W i z can T reads) reads;
    room = λ room has. resize_room_law P W i z room (words.can_resize P W i z can) has;
  }

-- ---- the end

module _ (P : ℕ) (W : List ℕ) (i z : ℕ) (can : CanCut P W i z) (J K : List ℕ) (h : Cuts P W J K i z) where
  no_owner : (j : ℕ) → IsPastCut P W i z j → page_owner P K j ≡ 0
  unfolding page_owner
  no_owner j g = words.past_zero P W i z can J K h j 0 g (descriptor_field_read K 0 (omega arith))

  keeps : KeepsOthers P W K i (IsPastCut P W i z)
  keeps =
      let resizing = words.resized_file P W i z can in
      let last = quiet.same_end P W i z can J K h in
      record {
        tidy = can.tidy;
        reached = can.reached;
        file = can.file;
        coherent = last.coherent;
        version = words.head_same P W i z can J K h 1 (omega arith);
        names = λ q x. ((λ b. (last.names q x).0 ((resizing.names q x).0 b)), (λ b. (resizing.names q x).1 ((last.names q x).1 b)));
        inodes = words.inode_same P W i z can J K h;
        slots = λ t f held lt. words.slot_same P W i z can J K h t f;
        descriptors = λ j f lt l8 none. words.descriptor_same P W i z can J K h j f l8 none;
        before = λ j g. inr g.owner;
        after = λ j g. inl (no_owner j g);
      }

  -- a page of the file that stays is below its end
  below_end : (j : ℕ) → j < data_pages_of P → (IsPastCut P W i z j → ⊥) → page_owner P W j ≡ i → page_offset P W j < pages_of_size z
  below_end j lt none own = elim (cases_lt (page_offset P W j) (pages_of_size z)) [
    | inl below ↦ below
    | inr past ↦ absurd (none (record { in_range = lt; owner = own; past = past }))
  ]

  cleared : (j : ℕ) → IsPastCut P W i z j → IsLitterPage P K j → ⊥
  cleared j g l = let (f, lt, nonzero) = l.nonzero in nonzero (words.past_zero P W i z can J K h j f g lt)

  tidy : IsTidied P K
  tidy = file.kept_tidy P W K i (IsPastCut P W i z) keeps
      (λ j lt none own. subst (λ y. page_offset P W j < pages_of_size y) (sym (words.size_end P W i z can J K h)) (below_end j lt none own))
      (words.dec_past P W i z can) cleared

  pub cut : LeavesCut P W K i z
  cut = record { last = quiet.same_end P W i z can J K h; tidy = tidy }

  -- ---- what an index holds

  -- a page with an owner is the one that it was
  owned_before : (x j : ℕ) → 1 ≤ x → IsPageIn P K x j → IsPageIn P W x j × (IsPastCut P W i z j → ⊥)
  owned_before x j some page =
      let none : IsPastCut P W i z j → ⊥ = λ g. (let zero = no_owner j g in let own = page.owner in omega (arith, some, zero, own)) in
      (record { in_range = page.in_range; owner = sym ((file.paged P W K i (IsPastCut P W i z) keeps).owner j page.in_range none) ∙ page.owner }, none)

  owned_after : (x j : ℕ) → (IsPastCut P W i z j → ⊥) → IsPageIn P W x j → IsPageIn P K x j
  owned_after x j none page = record { in_range = page.in_range; owner = (file.paged P W K i (IsPastCut P W i z) keeps).owner j page.in_range none ∙ page.owner }

  kept_pages : (j : ℕ) → IsPageIn P K i j ↔ (IsPageIn P W i j × (page_offset P W j < pages_of_size z))
  kept_pages j = (
    (λ page. let (was, none) = owned_before i j (words.pos P W i z can) page in (was, below_end j was.in_range none was.owner)),
    (λ (was, below). owned_after i j (λ g. let past = g.past in omega (arith, past, below)) was),
  )

  other_pages : (x j : ℕ) → 1 ≤ x → x ≢ i → IsPageIn P K x j ↔ IsPageIn P W x j
  other_pages x j some ne = ((λ page. (owned_before x j some page).0), (λ page. owned_after x j (λ g. ne (sym page.owner ∙ g.owner)) page))

  free_pages : (j : ℕ) → IsFreePage P K j ↔ (IsFreePage P W j ⊎ IsPastCut P W i z j)
  free_pages j = (
    (λ (lt, zero). elim (words.dec_past P W i z can j) [
      | yes g ↦ inr g
      | no none ↦ inl (lt, sym ((file.paged P W K i (IsPastCut P W i z) keeps).owner j lt none) ∙ zero)
    ]),
    (λ free. elim free [
      | inl was ↦
          let none : IsPastCut P W i z j → ⊥ = λ g. (let own = g.owner in let zero = was.1 in let some = words.pos P W i z can in omega (arith, own, zero, some)) in
          (was.0, (file.paged P W K i (IsPastCut P W i z) keeps).owner j was.0 none ∙ was.1)
      | inr g ↦ (g.in_range, no_owner j g)
    ]),
  )

  offsets : (x j : ℕ) → 1 ≤ x → IsPageIn P K x j → page_offset P K j ≡ page_offset P W j
  offsets x j some page = (file.paged P W K i (IsPastCut P W i z) keeps).offset j page.in_range (owned_before x j some page).1

  pub has_cut : HasCut P W K i z
  has_cut = record {
    size = words.size_end P W i z can J K h;
    reached = λ x. (file.back P W K i (IsPastCut P W i z) keeps x, file.forth P W K i (IsPastCut P W i z) keeps x);
    kinds = file.inode_kind_same P W K i (IsPastCut P W i z) keeps;
    entries = file.entries_kept P W K i (IsPastCut P W i z) keeps;
    numbers = file.number_kept P W K i (IsPastCut P W i z) keeps;
    kept = kept_pages;
    others = other_pages;
    offsets = offsets;
    free_pages = free_pages;
  }

pub lowering_law : LoweringLaw
lowering_law P W i z can = lowered P W i z can

pub cut_law : CutLaw
cut_law P W J K i z can h = cut P W i z can J K h

pub cut_index_law : CutIndexLaw
cut_index_law P W J K i z can h = has_cut P W i z can J K h
