-- What a volume knows behind a step that takes no numbers and gives none; and that words of the same meaning read as the same state.
use Rattle.std.proofs.Common.{◌≡◌, ◌↔◌, inl, inr, ℕ, ◌<◌, ◌≤◌, List, [], length, refl, sym, ap, subst, ◌∙◌}
use Rattle.std.specs.Prelude.{None}
use Rattle.std.proofs.lemmas.Bool.{cases_eq}
use Rattle.layout.specs.Geometry.{inodes_of, data_pages_of}
use Rattle.layout.specs.Fields.{inode_kind, page_owner, page_kind}
use Rattle.tree_model.specs.Run.{State}
use Rattle.image_reading.specs.Reading.{HasBytes, Reached, ReadsAs}
use Rattle.image_reading.specs.Residue.{Residue}
use Rattle.image_reading.specs.Soundness.{IsCoherent}
use Rattle.image_counts.specs.Entries.{IsEntryOf, IsUnusedPage}
use Rattle.image_counts.proofs.Paths.{in_range}
use Rattle.image_laws.specs.Agrees.{Alike}
use Rattle.image_laws.specs.Frame.{SameMeaning}
use Rattle.image_laws.specs.Free.{Stores}
use Rattle.image_laws.proofs.Free.{alike_stores}
use Rattle.image_laws.proofs.Meaning.{slot_name_same, same_owner, reached_slot, reached_slot_forward, reached_back}
use Rattle.volatile_index.specs.Index.{NodeView, pages_of}
use Rattle.volume.specs.Volume.{VolumeView}
use Rattle.volume.specs.Beside.{KnowsBeside}
use Rattle.volume.specs.Entered.{LeavesName}
use Rattle.volume.proofs.Moments.{with_kept}
use Rattle.knowing_laws.specs.Knowing.{IsFileOf, KeepsEntries, KeepsPagesBut, ChangesNumbers}
use Rattle.knowing_laws.proofs.Quiet.{quiet_known_law}

-- ---- words that mean the same

pub reads_same : (P : ℕ) (I J : List ℕ) (state : State) → SameMeaning P I J → ReadsAs P I state → ReadsAs P J state
reads_same P I J state same reads = record { tree = same.reads state.tree reads.tree; room = same.room state.room reads.room }

-- a step that stores to free words alone leaves the entries, and the files
module _ (P : ℕ) (I J : List ℕ) (coherent : IsCoherent P I) (stores : Stores P I J) where
  alike : Alike P I J
  alike = alike_stores P I J coherent stores

  entry_forth : (d slot : ℕ) (bytes : List ℕ) → IsEntryOf P I d bytes slot → IsEntryOf P J d bytes slot
  entry_forth d slot bytes entry =
      let (same, reached) = reached_slot_forward P I J alike slot entry.slot in
      record { slot = reached; owner = same_owner P I J alike slot same ∙ entry.owner; name = slot_name_same P I J alike slot entry.slot ∙ entry.name }

  entry_back : (d slot : ℕ) (bytes : List ℕ) → IsEntryOf P J d bytes slot → IsEntryOf P I d bytes slot
  entry_back d slot bytes entry =
      let (same, was) = reached_slot P I J alike slot entry.slot in
      record { slot = was; owner = sym (same_owner P I J alike slot same) ∙ entry.owner; name = sym (slot_name_same P I J alike slot was) ∙ entry.name }

  file_before : (i : ℕ) → Reached P J i → HasBytes J i → IsFileOf P I i
  file_before i reached bytes =
      let was = reached_back P I J alike i reached in
      let (least, most) = in_range P I coherent i was in
      record { least = least; most = most; reached = was; file = sym (alike.inodes i was).kind ∙ bytes }

  pub entries_stay : KeepsEntries P I J
  entries_stay = record { entries = λ d slot bytes. (entry_forth d slot bytes, entry_back d slot bytes); files = file_before }

-- ---- numbers

-- two words of a descriptor say whether the page is used
pub unused_as : (P : ℕ) (I J : List ℕ) (j : ℕ) → page_owner P J j ≡ page_owner P I j → page_kind P J j ≡ page_kind P I j → IsUnusedPage P I j ↔ IsUnusedPage P J j
unused_as P I J j owner kind = ((λ (none, free). (owner ∙ none, kind ∙ free)), (λ (none, free). (sym owner ∙ none, sym kind ∙ free)))

-- the kind of an inode says whether it is free
pub free_inode_as : (I J : List ℕ) (x : ℕ) → inode_kind J x ≡ inode_kind I x → (inode_kind I x ≡ 0) ↔ (inode_kind J x ≡ 0)
free_inode_as I J x same = ((λ free. same ∙ free), (λ free. sym same ∙ free))

-- each number is free where it was
pub same_numbers : (P : ℕ) (I J : List ℕ) → ((x : ℕ) → 1 ≤ x → x ≤ inodes_of P → inode_kind J x ≡ inode_kind I x) → ((j : ℕ) → j < data_pages_of P → IsUnusedPage P I j ↔ IsUnusedPage P J j) → ChangesNumbers P I J [] []
same_numbers P I J kinds unused = record {
  inodes_within = λ x none. absurd none;
  other_inodes = λ x least most none. free_inode_as I J x (kinds x least most);
  other_pages = λ j low none. unused j low;
}

-- ---- a volume

-- what is known hangs not on the events that are kept
pub known_keeping : (k : ℕ) (volume : VolumeView) (I : List ℕ) (residue : Residue) → KnowsBeside volume I residue → KnowsBeside (with_kept k volume) I residue
known_keeping k volume I residue knows = record {
  whole = knows.whole;
  nodes = knows.nodes;
  each_inode = knows.each_inode;
  inodes = knows.inodes;
  each_page = knows.each_page;
  data_pages = knows.data_pages;
}

-- no number and no list changes
pub known_still : (k : ℕ) (volume : VolumeView) (I J : List ℕ) (before after : Residue) → KnowsBeside volume I before → length J ≡ length I → KeepsEntries volume.size I J → KeepsPagesBut volume.size I J before after []
    → ChangesNumbers volume.size I J [] [] → KnowsBeside (with_kept k volume) J after
known_still k volume I J before after knows long entries pages numbers =
    quiet_known_law (with_kept k volume) (with_kept k volume) (with_kept k volume) I J before after None [] (known_keeping k volume I before knows) long entries pages
    (record { change = numbers; inodes_used = λ x none. absurd none; pages_used = λ j none. absurd none }) refl refl

-- no list of pages changes with a name
pub same_pages : (old new : VolumeView) (d : ℕ) (name : List ℕ) → LeavesName old new d name → (i : ℕ) → pages_of new.index i ≡ pages_of old.index i
same_pages old new d name leaves i = elim (cases_eq i d) [
  | inl same ↦ subst (λ (x : ℕ). pages_of new.index x ≡ pages_of old.index x) (sym same) leaves.index.node.pages
  | inr other ↦ ap (λ (node : NodeView). node.pages) (leaves.index.elsewhere.others i other)
]
