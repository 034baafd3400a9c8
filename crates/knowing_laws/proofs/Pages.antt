-- What is known of the pages of each inode, once the list of one has grown.
use Rattle.std.proofs.Common.{◌≡◌, ◌≢◌, ◌↔◌, ◌⊎◌, inl, inr, ℕ, ◌+◌, ◌≤◌, List, [], ◌++◌, length, Some, sym, ap, subst, ◌∙◌, ◌<◌}
use Rattle.std.specs.Prelude.{Contains, slice_get}
use Rattle.std.proofs.lemmas.Bool.{cases_eq}
use Rattle.layout.specs.Geometry.{inodes_of, data_pages_of}
use Rattle.layout.specs.Fields.{page_offset, page_owner}
use Rattle.image_reading.specs.Counts.{IsIn, IsDistinct}
use Rattle.image_reading.specs.Residue.{Residue}
use Rattle.image_counts.specs.Entries.{IsEntryOf, IsPageIn}
use Rattle.volatile_index.specs.Index.{NodeView, entries_of, pages_of}
use Rattle.volatile_index.specs.declared.entry.Entry.{Entry}
use Rattle.volume.specs.Volume.{VolumeView}
use Rattle.volume.specs.Beside.{KnowsNodesBeside, KnowsBeside}
use Rattle.entry_steps.proofs.Facts.{ToldPages, is_in, pages_gained}
use Rattle.knowing_laws.specs.Knowing.{IsFileOf, KeepsPagesBut, ChangesNumbers, ArePagesOf, PagesKnownLaw}

-- the volume with another index
abbrev pub with_index : VolumeView → List NodeView → VolumeView
with_index volume index = record volume { index = index }

-- where no number changes its state, what the nodes say is what there is to show
pub known_by_nodes : (old : VolumeView) (index : List NodeView) (I J : List ℕ) (before after : Residue) → KnowsBeside old I before → length J ≡ length I → ChangesNumbers old.size I J [] [] → KnowsNodesBeside old.size index J after
    → KnowsBeside (with_index old index) J after
known_by_nodes old index I J before after knows long change nodes = record {
  whole = long ∙ knows.whole;
  nodes = nodes;
  each_inode = knows.each_inode;
  inodes = λ i least most. let a = knows.inodes i least most in let b = change.other_inodes i least most (λ none. none) in ((λ free. b.0 (a.0 free)), (λ free. a.1 (b.1 free)));
  each_page = knows.each_page;
  data_pages = λ j low. let a = knows.data_pages j low in let b = change.other_pages j low (λ none. none) in ((λ free. b.0 (a.0 free)), (λ free. a.1 (b.1 free)));
}

-- ---- the list of inode i grows

-- Each list has the pages that the words say, once each. Where one stands: where it stood, with the offset that it had, or behind.
pub record IsGrown (old : VolumeView) (index : List NodeView) (I J : List ℕ) (after : Residue) (i : ℕ) (pages : List ℕ) : Type 0 where
  pub listed : (x j : ℕ) → 1 ≤ x → x ≤ inodes_of old.size → ¬ IsIn j after.pages → Contains (pages_of index x) j ↔ IsPageIn old.size J x j
  pub once : (x : ℕ) → 1 ≤ x → x ≤ inodes_of old.size → IsDistinct (pages_of index x)
  pub offsets : (x k j : ℕ) → IsFileOf old.size I x → ¬ IsIn j after.pages → slice_get (pages_of index x) k ≡ Some j
      → (page_offset old.size J j ≡ k) ⊎ ((x ≡ i) × (n : ℕ) × (slice_get pages n ≡ Some j) × (k ≡ length (pages_of old.index i) + n))

module _ (old : VolumeView) (index : List NodeView) (I J : List ℕ) (before after : Residue) (i : ℕ) (pages : List ℕ) (knows : KnowsBeside old I before) (least : 1 ≤ i) (most : i ≤ inodes_of old.size)
    (keeps : KeepsPagesBut old.size I J before after pages) (are : ArePagesOf old J pages i) (here : pages_of index i ≡ pages_of old.index i ++ pages) (elsewhere : (x : ℕ) → x ≢ i → pages_of index x ≡ pages_of old.index x) where
  lists : ToldPages old.size index (λ x j. Contains (pages_of old.index x) j ⊎ ((x ≡ i) × IsIn j pages))
      (λ x k j. (Contains (pages_of old.index x) j × (slice_get (pages_of old.index x) k ≡ Some j)) ⊎ ((x ≡ i) × (n : ℕ) × (slice_get pages n ≡ Some j) × (k ≡ length (pages_of old.index i) + n)))
  lists =
      let were : ToldPages old.size old.index (λ x j. Contains (pages_of old.index x) j) (λ x k j. slice_get (pages_of old.index x) k ≡ Some j) = record {
        pages = λ x j some upto. ((λ there. there), (λ there. there));
        once = knows.nodes.once;
        places = λ x k j some upto stands. stands;
      } in
      pages_gained were index i least most elsewhere pages here are.once (λ j among. are.unlisted i j among least most)

  owned_still : (x j : ℕ) → ¬ IsIn j after.pages → ¬ IsIn j pages → IsPageIn old.size I x j ↔ IsPageIn old.size J x j
  owned_still x j kept other = let same : j < data_pages_of old.size → page_owner old.size J j ≡ page_owner old.size I j = λ low. keeps.owners j low kept other in (
    (λ was. record { in_range = was.in_range; owner = same was.in_range ∙ was.owner }),
    (λ is. record { in_range = is.in_range; owner = sym (same is.in_range) ∙ is.owner }),
  )

  listed : (x j : ℕ) → 1 ≤ x → x ≤ inodes_of old.size → ¬ IsIn j after.pages → Contains (pages_of index x) j ↔ IsPageIn old.size J x j
  listed x j some upto kept = let list = lists.pages x j some upto in elim (is_in j pages) [
    | yes among ↦ (
      (λ there. elim (list.0 there) [
        | inl was ↦ absurd (are.unlisted x j among some upto was)
        | inr (same, added) ↦ subst (λ y. IsPageIn old.size J y j) (sym same) (are.owned j among)
      ]),
      (λ inside. list.1 (inr (sym inside.owner ∙ (are.owned j among).owner, among))),
    )
    | no none ↦ let was = knows.nodes.pages x j some upto (keeps.left j kept none) in let still = owned_still x j kept none in (
      (λ there. elim (list.0 there) [ inl stood ↦ still.0 (was.0 stood) | inr (same, added) ↦ absurd (none added) ]),
      (λ inside. list.1 (inl (was.1 (still.1 inside)))),
    )
  ]

  -- a page of an old list has the offset that it had
  old_offset : (x k j : ℕ) → IsFileOf old.size I x → ¬ IsIn j after.pages → Contains (pages_of old.index x) j → slice_get (pages_of old.index x) k ≡ Some j → page_offset old.size J j ≡ k
  old_offset x k j file kept there stood =
      let other : ¬ IsIn j pages = λ among. are.unlisted x j among file.least file.most there in
      let inside = (knows.nodes.pages x j file.least file.most (keeps.left j kept other)).0 there in
      keeps.offsets j inside.in_range kept other ∙ knows.nodes.offsets x k j file.reached file.file (keeps.left j kept other) stood

  pub grown : IsGrown old index I J after i pages
  grown = record {
    listed = listed;
    once = lists.once;
    offsets = λ x k j file kept stands. elim (lists.places x k j file.least file.most stands) [ inl (there, stood) ↦ inl (old_offset x k j file kept there stood) | inr behind ↦ inr behind ];
  }

-- ---- pages come to a file

pub pages_known : PagesKnownLaw
pages_known old new I J before after i pages knows long least most entries keeps follow change puts = subst (λ (v : VolumeView). KnowsBeside v J after) (sym puts.rest) (known_by_nodes old new.index I J before after knows long change nodes)
  where
    elsewhere : (x : ℕ) → x ≢ i → pages_of new.index x ≡ pages_of old.index x
    elsewhere x other = ap (λ (node : NodeView). node.pages) (puts.index.elsewhere.others x other)

    same_entries : (x : ℕ) → entries_of new.index x ≡ entries_of old.index x
    same_entries x = elim (cases_eq x i) [
      | inl same ↦ subst (λ y. entries_of new.index y ≡ entries_of old.index y) (sym same) puts.index.node.entries
      | inr other ↦ ap (λ (node : NodeView). node.entries) (puts.index.elsewhere.others x other)
    ]

    now : IsGrown old new.index I J after i pages
    now = grown old new.index I J before after i pages knows least most keeps follow.are puts.index.node.pages elsewhere

    nodes : KnowsNodesBeside old.size new.index J after
    nodes = record {
      each_inode = puts.index.elsewhere.inodes ∙ knows.nodes.each_inode;
      entries = λ d slot bytes some upto. subst (λ (l : List Entry). Contains l (record { name = bytes; slot = slot }) ↔ IsEntryOf old.size J d bytes slot) (sym (same_entries d))
          (let a = knows.nodes.entries d slot bytes some upto in let b = entries.entries d slot bytes in ((λ there. b.0 (a.0 there)), (λ is. a.1 (b.1 is))));
      pages = now.listed;
      once = now.once;
      offsets = λ x k j reached file kept stands. elim (now.offsets x k j (entries.files x reached file) kept stands) [
        | inl is ↦ is
        | inr (same, n, at, count) ↦ follow.offsets n j at ∙ sym count
      ];
    }
