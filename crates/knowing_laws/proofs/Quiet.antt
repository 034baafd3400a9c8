-- What a volume knows once the numbers are taken that came into use; and what it knows of pages where their lists stay.
use Rattle.std.proofs.Common.{◌≡◌, ◌↔◌, inl, inr, ℕ, ◌+◌, ◌-◌, ◌<◌, ◌≤◌, Bool, false, List, [], ◌∷◌, length, Contains, Some, None, refl, sym, ap, subst, ◌∙◌, arith}
use Rattle.entry_steps.proofs.Lists.{contains_at}
use Rattle.std.specs.Prelude.{slice_get, slice_set}
use Rattle.layout.specs.Geometry.{inodes_of, data_pages_of}
use Rattle.layout.specs.Fields.{inode_kind, page_owner}
use Rattle.image_reading.specs.Counts.{IsIn, IsDistinct}
use Rattle.image_reading.specs.Reading.{HasBytes, Reached}
use Rattle.image_reading.specs.Residue.{Residue}
use Rattle.image_counts.specs.Entries.{IsEntryOf, IsPageIn, IsUnusedPage}
use Rattle.allocators.specs.Numbers.{IsFree}
use Rattle.volatile_index.specs.Index.{NodeView, inodes_of_index, entries_of, pages_of}
use Rattle.volume.specs.Volume.{VolumeView}
use Rattle.volume.specs.Beside.{KnowsNodesBeside, KnowsBeside}
use Rattle.volume.specs.Entered.{with_taken}
use Rattle.entry_steps.proofs.Facts.{ToldFree, free_as, taken_told}
use Rattle.knowing_laws.specs.Knowing.{IsFileOf, KeepsEntries, KeepsPagesBut, UsesNumbers, QuietKnownLaw}

-- ---- numbers of inodes, from 0

pub inodes_told : (n : ℕ) (numbers : List Bool) (I : List ℕ) → length numbers ≡ n → ((i : ℕ) → 1 ≤ i → i ≤ n → IsFree numbers (i - 1) ↔ (inode_kind I i ≡ 0))
    → ToldFree n numbers (λ k. inode_kind I (k + 1) ≡ 0)
inodes_told n numbers I each free = record {
  each = each;
  free = λ k low. let back : k + 1 - 1 ≡ k = omega arith in subst (λ (m : ℕ). IsFree numbers m ↔ (inode_kind I (k + 1) ≡ 0)) back (free (k + 1) (omega arith) (omega (arith, low)));
}

pub told_inodes : (n : ℕ) (numbers : List Bool) (I : List ℕ) → ToldFree n numbers (λ k. inode_kind I (k + 1) ≡ 0) → (i : ℕ) → 1 ≤ i → i ≤ n → IsFree numbers (i - 1) ↔ (inode_kind I i ≡ 0)
told_inodes n numbers I told i least most =
    let low : i - 1 < n = omega (arith, least, most) in
    let back : i - 1 + 1 ≡ i = omega (arith, least) in
    subst (λ (x : ℕ). IsFree numbers (i - 1) ↔ (inode_kind I x ≡ 0)) back (told.free (i - 1) low)

-- ---- where the lists of pages stay

module _ (P : ℕ) (old new : List NodeView) (I J : List ℕ) (before after : Residue) (knows : KnowsNodesBeside P old I before) (keeps : KeepsPagesBut P I J before after [])
    (files : (i : ℕ) → Reached P J i → HasBytes J i → IsFileOf P I i) (same : (i : ℕ) → pages_of new i ≡ pages_of old i) where
  pages_kept : (i page : ℕ) → 1 ≤ i → i ≤ inodes_of P → ¬ IsIn page after.pages → Contains (pages_of new i) page ↔ IsPageIn P J i page
  pages_kept i page least most kept =
      let was = knows.pages i page least most (keeps.left page kept (λ none. none)) in
      let owner : page < data_pages_of P → page_owner P J page ≡ page_owner P I page = λ low. keeps.owners page low kept (λ none. none) in
      subst (λ (l : List ℕ). Contains l page ↔ IsPageIn P J i page) (sym (same i)) (
        (λ there. let inside = was.0 there in record { in_range = inside.in_range; owner = owner inside.in_range ∙ inside.owner }),
        (λ inside. was.1 (record { in_range = inside.in_range; owner = sym (owner inside.in_range) ∙ inside.owner })),
      )

  pub nodes_kept : inodes_of_index new ≡ inodes_of_index old
      → ((d slot : ℕ) (bytes : List ℕ) → 1 ≤ d → d ≤ inodes_of P → Contains (entries_of new d) (record { name = bytes; slot = slot }) ↔ IsEntryOf P J d bytes slot)
      → KnowsNodesBeside P new J after
  nodes_kept each entries = record {
    each_inode = each ∙ knows.each_inode;
    entries = entries;
    pages = pages_kept;
    once = λ i least most. subst IsDistinct (sym (same i)) (knows.once i least most);
    offsets = λ i k page reached bytes kept stands.
        let file = files i reached bytes in
        let was = knows.offsets i k page file.reached file.file (keeps.left page kept (λ none. none)) (ap (λ (l : List ℕ). slice_get l k) (sym (same i)) ∙ stands) in
        let inside = (pages_kept i page file.least file.most kept).0 (contains_at (pages_of new i) k page stands) in
        keeps.offsets page inside.in_range kept (λ none. none) ∙ was;
  }

-- ---- numbers are taken

module _ (old : VolumeView) (I J : List ℕ) (before after : Residue) (knows : KnowsBeside old I before) (pages : List ℕ) where
  nodes_quiet : KeepsEntries old.size I J → KeepsPagesBut old.size I J before after [] → KnowsNodesBeside old.size old.index J after
  nodes_quiet keeps still = nodes_kept old.size old.index old.index I J before after knows.nodes still keeps.files (λ i. refl) refl
      (λ d slot bytes least most.
      let a = knows.nodes.entries d slot bytes least most in
      let b = keeps.entries d slot bytes in
      ((λ there. b.0 (a.0 there)), (λ e. a.1 (b.1 e))))

  module _ (inodes : List ℕ) (uses : UsesNumbers old.size I J inodes pages) where
    pages_taken : ToldFree (data_pages_of old.size) (with_taken old.data_pages pages) (λ j. IsUnusedPage old.size J j)
    pages_taken =
        let was : ToldFree (data_pages_of old.size) old.data_pages (λ j. IsUnusedPage old.size I j) = record { each = knows.each_page; free = knows.data_pages } in
        free_as (taken_told was pages) (λ j low. (
          (λ (free, out). (uses.change.other_pages j low out).0 free),
          (λ free. let out : ¬ IsIn j pages = λ among. uses.pages_used j among free in ((uses.change.other_pages j low out).1 free, out)),
        ))

  inodes_same : UsesNumbers old.size I J [] pages → ToldFree (inodes_of old.size) old.inodes (λ k. inode_kind J (k + 1) ≡ 0)
  inodes_same uses = free_as (inodes_told (inodes_of old.size) old.inodes I knows.each_inode knows.inodes) (λ k low. uses.change.other_inodes (k + 1) (omega arith) (omega (arith, low)) (λ none. none))

  inode_taken : (inode : ℕ) → UsesNumbers old.size I J (inode ∷ []) pages → ToldFree (inodes_of old.size) (slice_set old.inodes (inode - 1) false) (λ k. inode_kind J (k + 1) ≡ 0)
  inode_taken inode uses =
      let some = (uses.change.inodes_within inode (inl refl)).0 in
      free_as (taken_told (inodes_told (inodes_of old.size) old.inodes I knows.each_inode knows.inodes) ((inode - 1) ∷ [])) (λ k low. (
        (λ (free, out). (uses.change.other_inodes (k + 1) (omega arith) (omega (arith, low)) (λ among. elim among [ inl same ↦ out (inl (omega (arith, same))) | inr none ↦ none ])).0 free),
        (λ free.
            let other : ¬ IsIn (k + 1) (inode ∷ []) = λ among. uses.inodes_used (k + 1) among free in
            ((uses.change.other_inodes (k + 1) (omega arith) (omega (arith, low)) other).1 free, (λ among. elim among [ inl same ↦ other (inl (omega (arith, same, some))) | inr none ↦ none ]))),
      ))

pub quiet_known_law : QuietKnownLaw
quiet_known_law old taken new I J before after None pages knows long keeps still uses takes enters =
    let taken_pages = pages_taken old I J before after knows pages [] uses in
    subst (λ (v : VolumeView). KnowsBeside v J after) (sym (enters ∙ takes)) (record {
      whole = long ∙ knows.whole;
      nodes = nodes_quiet old I J before after knows pages keeps still;
      each_inode = knows.each_inode;
      inodes = told_inodes (inodes_of old.size) old.inodes J (inodes_same old I J before after knows pages uses);
      each_page = taken_pages.each;
      data_pages = taken_pages.free;
    })
quiet_known_law old taken new I J before after (Some inode) pages knows long keeps still uses takes enters =
    let taken_pages = pages_taken old I J before after knows pages (inode ∷ []) uses in
    let numbers = inode_taken old I J before after knows pages inode uses in
    let view = enters ∙ ap (λ (v : VolumeView). record v { inodes = slice_set v.inodes (inode - 1) false }) takes in
    subst (λ (v : VolumeView). KnowsBeside v J after) (sym view) (record {
      whole = long ∙ knows.whole;
      nodes = nodes_quiet old I J before after knows pages keeps still;
      each_inode = numbers.each;
      inodes = told_inodes (inodes_of old.size) (slice_set old.inodes (inode - 1) false) J numbers;
      each_page = taken_pages.each;
      data_pages = taken_pages.free;
    })
