-- What a volume knows once a name is out of its index.
use Rattle.std.proofs.Common.{◌≡◌, inl, inr, ℕ, ◌+◌, List, [], Contains, refl, sym, ap, subst, ◌∙◌, arith}
use Rattle.std.specs.Prelude.{Some, slice_get}
use Rattle.std.proofs.lemmas.Bool.{cases_eq}
use Rattle.layout.specs.Geometry.{inodes_of, data_pages_of}
use Rattle.layout.specs.Fields.{inode_kind}
use Rattle.image_reading.specs.Residue.{Residue}
use Rattle.image_counts.specs.Entries.{IsEntryOf, IsUnusedPage}
use Rattle.volatile_index.specs.Index.{pages_of}
use Rattle.volume.specs.Volume.{VolumeView}
use Rattle.volume.specs.Beside.{KnowsNodesBeside, KnowsBeside}
use Rattle.volume.specs.Entered.{LeavesName}
use Rattle.entry_steps.proofs.Facts.{Facts, IsTold, ToldFree, free_as, leaves_name}
use Rattle.knowing_laws.specs.Knowing.{KeepsPagesBut, ChangesNumbers, TakesNameAway, NameGoneLaw}
use Rattle.knowing_laws.proofs.Quiet.{inodes_told, told_inodes, nodes_kept}

-- what the volume holds: the entries by the words, the pages by its own lists
abbrev held : VolumeView → List ℕ → Facts
held volume I = record {
  entry = λ d bytes slot. IsEntryOf volume.size I d bytes slot;
  page = λ i j. Contains (pages_of volume.index i) j;
  place = λ i k j. slice_get (pages_of volume.index i) k ≡ Some j;
  free_inode = λ k. inode_kind I (k + 1) ≡ 0;
  free_page = λ j. IsUnusedPage volume.size I j;
  stopped = volume.stopped;
}

told_held : (volume : VolumeView) (I : List ℕ) (residue : Residue) → KnowsBeside volume I residue → IsTold volume.size volume (held volume I)
told_held volume I residue knows = record {
  size = refl;
  stopped = refl;
  each_inode = knows.nodes.each_inode;
  entries = knows.nodes.entries;
  pages = record { pages = λ i j least most. ((λ there. there), (λ there. there)); once = knows.nodes.once; places = λ i k j least most stands. stands };
  inodes = inodes_told (inodes_of volume.size) volume.inodes I knows.each_inode knows.inodes;
  data_pages = record { each = knows.each_page; free = knows.data_pages };
}

module _ (old new : VolumeView) (I J : List ℕ) (before after : Residue) (d : ℕ) (name : List ℕ) (knows : KnowsBeside old I before) (leaves : LeavesName old new d name) where
  same_pages : (i : ℕ) → pages_of new.index i ≡ pages_of old.index i
  same_pages i = elim (cases_eq i d) [
    | inl same ↦ subst (λ (x : ℕ). pages_of new.index x ≡ pages_of old.index x) (sym same) leaves.index.node.pages
    | inr other ↦ ap (λ node. node.pages) (leaves.index.elsewhere.others i other)
  ]

  nodes_gone : TakesNameAway old.size I J d name → KeepsPagesBut old.size I J before after [] → KnowsNodesBeside old.size new.index J after
  nodes_gone away still = nodes_kept old.size old.index new.index I J before after knows.nodes still away.files same_pages leaves.index.elsewhere.inodes
      (λ e slot bytes least most.
      let a = (leaves_name (told_held old I before knows) new d name leaves).entries e slot bytes least most in
      let b = away.entries e slot bytes in
      ((λ there. b.1 (a.0 there)), (λ entry. a.1 (b.0 entry))))

  module _ (numbers : ChangesNumbers old.size I J [] []) where
    inodes_still : ToldFree (inodes_of old.size) old.inodes (λ k. inode_kind J (k + 1) ≡ 0)
    inodes_still = free_as (inodes_told (inodes_of old.size) old.inodes I knows.each_inode knows.inodes) (λ k low. numbers.other_inodes (k + 1) (omega arith) (omega (arith, low)) (λ none. none))

    pages_still : ToldFree (data_pages_of old.size) old.data_pages (λ j. IsUnusedPage old.size J j)
    pages_still =
        let was : ToldFree (data_pages_of old.size) old.data_pages (λ j. IsUnusedPage old.size I j) = record { each = knows.each_page; free = knows.data_pages } in
        free_as was (λ j low. numbers.other_pages j low (λ none. none))

pub name_gone_law : NameGoneLaw
name_gone_law old new I J before after d name knows long away still numbers leaves =
    subst (λ (v : VolumeView). KnowsBeside v J after) (sym leaves.rest) (record {
      whole = long ∙ knows.whole;
      nodes = nodes_gone old new I J before after d name knows leaves away still;
      each_inode = knows.each_inode;
      inodes = told_inodes (inodes_of old.size) old.inodes J (inodes_still old new I J before after d name knows leaves numbers);
      each_page = knows.each_page;
      data_pages = (pages_still old new I J before after d name knows leaves numbers).free;
    })
