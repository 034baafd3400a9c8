-- What a volume knows behind a step that changes the words of one file.
use Rattle.std.proofs.Common.{◌≡◌, ◌↔◌, ℕ, ◌<◌, ◌≤◌, List, [], length, Contains, Some, refl, sym, subst, ◌∙◌}
use Rattle.std.specs.Prelude.{None, slice_get}
use Rattle.layout.specs.Geometry.{inodes_of, data_pages_of}
use Rattle.layout.specs.Fields.{inode_kind, page_owner, page_kind, page_offset}
use Rattle.image_reading.specs.Counts.{IsIn}
use Rattle.image_reading.specs.Reading.{HasBytes, Reached}
use Rattle.image_reading.specs.Residue.{Residue}
use Rattle.image_counts.specs.Entries.{IsPageIn, IsUnusedPage}
use Rattle.content_laws.proofs.Lists.{contains_at}
use Rattle.weave_laws.proofs.Sized as changed
use Rattle.weave_laws.proofs.Sized.{ChangesFile}
use Rattle.volatile_index.specs.Index.{pages_of}
use Rattle.volume.specs.Volume.{VolumeView}
use Rattle.volume.specs.Beside.{KnowsNodesBeside, KnowsBeside}
use Rattle.volume.specs.Entered.{TakesPages, IsTaken, with_taken}
use Rattle.volume.proofs.Moments.{with_kept}
use Rattle.entry_steps.proofs.Facts.{ToldFree, free_as, taken_told}
use Rattle.knowing_laws.specs.Knowing.{KeepsEntries, KeepsPagesBut, ChangesNumbers}
use Rattle.knowing_laws.proofs.Quiet.{quiet_known_law}
use Rattle.waiting_laws.proofs.FileEntries.{keeps_entries}

-- ---- numbers

-- two words of a descriptor say whether the page is used
pub unused_as : (P : ℕ) (I J : List ℕ) (j : ℕ) → page_owner P J j ≡ page_owner P I j → page_kind P J j ≡ page_kind P I j → IsUnusedPage P I j ↔ IsUnusedPage P J j
unused_as P I J j owner kind = ((λ (none, free). (owner ∙ none, kind ∙ free)), (λ (none, free). (sym owner ∙ none, sym kind ∙ free)))

-- the kind of an inode says whether it is free
pub free_inode_as : (I J : List ℕ) (x : ℕ) → inode_kind J x ≡ inode_kind I x → (inode_kind I x ≡ 0) ↔ (inode_kind J x ≡ 0)
free_inode_as I J x same = ((λ free. same ∙ free), (λ free. sym same ∙ free))

-- each number is free where it was
pub same_numbers : (P : ℕ) (I J : List ℕ) → ((x : ℕ) → 1 ≤ x → x ≤ inodes_of P → inode_kind J x ≡ inode_kind I x) → ((j : ℕ) → j < data_pages_of P → IsUnusedPage P I j ↔ IsUnusedPage P J j) → ChangesNumbers P I J [] []
same_numbers P I J kinds unused = record {
  inodes_within = λ x none. absurd none;
  other_inodes = λ x some few none. free_inode_as I J x (kinds x some few);
  other_pages = λ j low none. unused j low;
}

-- a page that is in use is taken
pub used_taken : (volume : VolumeView) (I : List ℕ) (residue : Residue) → KnowsBeside volume I residue → (j : ℕ) → j < data_pages_of volume.size → ¬ IsUnusedPage volume.size I j → IsTaken volume.data_pages j
used_taken volume I residue knows j low used = (subst (λ (n : ℕ). j < n) (sym knows.each_page) low, (λ free. used ((knows.data_pages j low).0 free)))

-- ---- no number and no list changes

-- what is known hangs not on the events that are kept
pub known_keeping : (k : ℕ) (volume : VolumeView) (I : List ℕ) (residue : Residue) → KnowsBeside volume I residue → KnowsBeside (with_kept k volume) I residue
known_keeping k volume I residue knows = record {
  whole = knows.whole;
  nodes = knows.nodes;
  each_inode = knows.each_inode;
  inodes = knows.inodes;
  each_page = knows.each_page;
  data_pages = knows.data_pages;
}

pub known_still : (k : ℕ) (volume : VolumeView) (I J : List ℕ) (before after : Residue) → KnowsBeside volume I before → length J ≡ length I → KeepsEntries volume.size I J → KeepsPagesBut volume.size I J before after []
    → ChangesNumbers volume.size I J [] [] → KnowsBeside (with_kept k volume) J after
known_still k volume I J before after knows long entries pages numbers =
    quiet_known_law (with_kept k volume) (with_kept k volume) (with_kept k volume) I J before after None [] (known_keeping k volume I before knows) long entries pages
    (record { change = numbers; inodes_used = λ x none. absurd none; pages_used = λ j none. absurd none }) refl refl

-- ---- pages come into use, and bytes change

-- Words of bytes may stand where the descriptor of a page would that the volume hasn't: of such a page nothing is asked here.
module _ {i : ℕ} {Page : ℕ → Type 0} (volume : VolumeView) (I J : List ℕ) (before after : Residue) (change : ChangesFile volume.size I J i Page) (long : length J ≡ length I) (knows : KnowsBeside volume I before) (pages : List ℕ)
    (among : (j : ℕ) → Page j → IsIn j pages) (left : (j : ℕ) → ¬ IsIn j after.pages → ¬ IsIn j before.pages × ¬ IsIn j pages) (used : (j : ℕ) → IsIn j pages → ¬ IsUnusedPage volume.size J j) where
  other : (j : ℕ) → ¬ IsIn j after.pages → ¬ Page j
  other j kept is = (left j kept).1 (among j is)

  listed : (x page : ℕ) → 1 ≤ x → x ≤ inodes_of volume.size → ¬ IsIn page after.pages → Contains (pages_of volume.index x) page ↔ IsPageIn volume.size J x page
  listed x page least most kept =
      let was = knows.nodes.pages x page least most (left page kept).0 in (
        (λ there. let inside = was.0 there in record { in_range = inside.in_range; owner = (changed.paged change).owner page inside.in_range (other page kept) ∙ inside.owner }),
        (λ inside. was.1 (record { in_range = inside.in_range; owner = sym ((changed.paged change).owner page inside.in_range (other page kept)) ∙ inside.owner })),
      )

  offsets : (x k page : ℕ) → Reached volume.size J x → HasBytes J x → ¬ IsIn page after.pages → slice_get (pages_of volume.index x) k ≡ Some page → page_offset volume.size J page ≡ k
  offsets x k page reached file kept at =
      let was = (keeps_entries change).files x reached file in
      let inside = (knows.nodes.pages x page was.least was.most (left page kept).0).0 (contains_at (pages_of volume.index x) k page at) in
      (changed.paged change).offset page inside.in_range (other page kept) ∙ knows.nodes.offsets x k page was.reached was.file (left page kept).0 at

  nodes : KnowsNodesBeside volume.size volume.index J after
  nodes = record {
    each_inode = knows.nodes.each_inode;
    entries = λ d slot bytes least most.
        let a = knows.nodes.entries d slot bytes least most in
        let b = (keeps_entries change).entries d slot bytes in
        ((λ there. b.0 (a.0 there)), (λ e. a.1 (b.1 e)));
    pages = listed;
    once = knows.nodes.once;
    offsets = offsets;
  }

  same_use : (j : ℕ) → j < data_pages_of volume.size → ¬ IsIn j pages → IsUnusedPage volume.size I j ↔ IsUnusedPage volume.size J j
  same_use j low out = let not_of : ¬ Page j = λ is. out (among j is) in unused_as volume.size I J j ((changed.paged change).owner j low not_of) ((changed.paged change).kind j low not_of)

  numbers : ToldFree (data_pages_of volume.size) (with_taken volume.data_pages pages) (λ j. IsUnusedPage volume.size J j)
  numbers =
      let was : ToldFree (data_pages_of volume.size) volume.data_pages (λ j. IsUnusedPage volume.size I j) = record { each = knows.each_page; free = knows.data_pages } in
      free_as (taken_told was pages) (λ j low. (
        (λ (free, out). (same_use j low out).0 free),
        (λ free. let out : ¬ IsIn j pages = λ is. used j is free in ((same_use j low out).1 free, out)),
      ))

  -- once the pages are taken it knows the words
  pub known_filled : (new : VolumeView) → TakesPages volume new pages → KnowsBeside new J after
  known_filled new takes =
      subst (λ (v : VolumeView). KnowsBeside v J after) (sym takes) (record {
        whole = long ∙ knows.whole;
        nodes = nodes;
        each_inode = knows.each_inode;
        inodes = λ x least most.
            let same = free_inode_as I J x (changed.kind_same change x least most) in
            let was = knows.inodes x least most in
            ((λ free. same.0 (was.0 free)), (λ none. was.1 (same.1 none)));
        each_page = numbers.each;
        data_pages = numbers.free;
      })
