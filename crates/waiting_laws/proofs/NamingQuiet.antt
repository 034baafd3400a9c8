-- What the volume knows behind a step that changes no meaning: the entries are those that there were, and numbers are taken.
use Rattle.std.proofs.Common.{◌≡◌, ◌≢◌, ◌↔◌, inl, inr, ℕ, ◌<◌, ◌≤◌, List, [], sym, ◌∙◌}
use Rattle.layout.specs.Geometry.{inodes_of, data_pages_of, page_of_slot}
use Rattle.layout.proofs.GeometryLaws.{page_of_slot_below}
use Rattle.layout.specs.Fields.{inode_kind}
use Rattle.tree_model.specs.Tree.{Directory}
use Rattle.image_reading.specs.Counts.{IsIn}
use Rattle.image_reading.specs.Reading.{HasBytes, IsDirectory, Reached, IsReachedSlot}
use Rattle.image_reading.specs.Residue.{Residue}
use Rattle.image_reading.specs.Soundness.{Rule, IsCoherent}
use Rattle.image_counts.specs.Entries.{IsEntryOf, IsUnusedPage}
use Rattle.image_counts.proofs.Links.{not_both_kinds}
use Rattle.image_counts.proofs.Paths.{in_range}
use Rattle.image_laws.specs.Frame.{SameMeaning}
use Rattle.image_laws.specs.Quiet.{IsMix}
use Rattle.image_laws.proofs.Free.{SameEntries}
use Rattle.weave_laws.specs.Beside.{StoresIn, AreInVolume}
use Rattle.entry_steps.proofs.Facts.{is_in}
use Rattle.knowing_laws.specs.Knowing.{KeepsEntries, KeepsPagesBut, UsesNumbers}
use Rattle.waiting_laws.proofs.NamingWords.{owner_stays, offset_stays, unused_stays, inode_kind_stays, slot_kept, slot_owner_stays}

-- The step stores to words of these alone, the same slots are reached, and none of them is stored to. A crash in it changes no meaning.
pub record IsQuietStep (P : ℕ) (I J slots pages inodes : List ℕ) : Type 0 where
  pub coherent : IsCoherent P I
  pub range : AreInVolume P pages inodes
  pub stores : StoresIn P I J slots pages inodes
  pub entries : SameEntries P I J
  pub apart : (t : ℕ) → IsReachedSlot P I t → ¬ IsIn t slots × ¬ IsIn (page_of_slot t) pages
  pub crash : (M : List ℕ) → IsMix I J M → SameMeaning P I M

module _ {P : ℕ} {I J slots pages inodes : List ℕ} (step : IsQuietStep P I J slots pages inodes) where
  reached_same : (x : ℕ) → Reached P I x ↔ Reached P J x
  reached_same x = ((λ (p, names). (p, (step.entries.same.names p x).0 names)), (λ (p, names). (p, (step.entries.same.names p x).1 names)))

  directory_same : (x : ℕ) → Reached P I x → IsDirectory I x ↔ IsDirectory J x
  directory_same x reached = step.entries.same.nodes x Directory reached

  file_back : (x : ℕ) → Reached P I x → HasBytes J x → HasBytes I x
  file_back x reached file = elim ((step.coherent Rule.kinds x).kind reached) [
    | inl was ↦ was
    | inr two ↦ absurd (not_both_kinds J x file ((directory_same x reached).0 two))
  ]

  -- what is reached has the kind that it had
  kind_reached : (x : ℕ) → Reached P I x → inode_kind J x ≡ inode_kind I x
  kind_reached x reached = elim ((step.coherent Rule.kinds x).kind reached) [
    | inr two ↦ (directory_same x reached).0 two ∙ sym two
    | inl one ↦ elim ((step.entries.same.coherent Rule.kinds x).kind ((reached_same x).0 reached)) [
      | inl file ↦ file ∙ sym one
      | inr two ↦ absurd (not_both_kinds I x one ((directory_same x reached).1 two))
    ]
  ]

  -- ---- entries

  page_below : (t : ℕ) → IsReachedSlot P I t → page_of_slot t < data_pages_of P
  page_below t reached = page_of_slot_below P t reached.live.held.in_range

  entry_forth : (d t : ℕ) (bytes : List ℕ) → IsEntryOf P I d bytes t → IsEntryOf P J d bytes t
  entry_forth d t bytes was =
      let (slot, page) = step.apart t was.slot in
      record {
        slot = (step.entries.slots t).0 was.slot;
        owner = slot_owner_stays step.range step.stores t (page_below t was.slot) page ∙ was.owner;
        name = (slot_kept step.range step.stores t slot page).name ∙ was.name;
      }

  entry_back : (d t : ℕ) (bytes : List ℕ) → IsEntryOf P J d bytes t → IsEntryOf P I d bytes t
  entry_back d t bytes is =
      let reached = (step.entries.slots t).1 is.slot in
      let (slot, page) = step.apart t reached in
      record {
        slot = reached;
        owner = sym (slot_owner_stays step.range step.stores t (page_below t reached) page) ∙ is.owner;
        name = sym (slot_kept step.range step.stores t slot page).name ∙ is.name;
      }

  pub keeps_entries : KeepsEntries P I J
  keeps_entries = record {
    entries = λ d t bytes. (entry_forth d t bytes, entry_back d t bytes);
    files = λ x reached file.
        let was = (reached_same x).1 reached in
        let (least, most) = in_range P I step.coherent x was in
        record { least = least; most = most; reached = was; file = file_back x was file };
  }

  -- ---- pages and numbers

  module _ (before after : Residue) (more : (j : ℕ) → IsIn j before.pages → IsIn j after.pages) (left : (j : ℕ) → IsIn j pages → IsIn j after.pages) where
    pub keeps_owners : KeepsPagesBut P I J before after []
    keeps_owners = record {
      left = λ j kept none was. kept (more j was);
      owners = λ j low kept none. owner_stays step.range step.stores j low (λ among. kept (left j among));
      offsets = λ j low kept none. offset_stays step.range step.stores j low (λ among. kept (left j among));
    }

  -- Pages that are stored to come into use; and so do these inodes, each other that is stored to being reached.
  module _ (taken new_pages : List ℕ) (used : (i : ℕ) → IsIn i taken → IsIn i inodes × (inode_kind J i ≢ 0)) (pages_used : (j : ℕ) → IsIn j new_pages → ¬ IsUnusedPage P J j)
      (old_pages : (j : ℕ) → IsIn j pages → ¬ IsIn j new_pages → IsUnusedPage P I j ↔ IsUnusedPage P J j) (others : (x : ℕ) → IsIn x inodes → ¬ IsIn x taken → Reached P I x) where
    other_kind : (x : ℕ) → 1 ≤ x → x ≤ inodes_of P → ¬ IsIn x taken → inode_kind J x ≡ inode_kind I x
    other_kind x least most out = elim (is_in x inodes) [
      | yes among ↦ kind_reached x (others x among out)
      | no none ↦ inode_kind_stays step.range step.stores x least most none
    ]

    pub takes_numbers : UsesNumbers P I J taken new_pages
    takes_numbers = record {
      change = record {
        inodes_within = λ x among. let inode = step.range.of_inodes x (used x among).0 in (inode.from_one, inode.in_range);
        other_inodes = λ x least most out. let same = other_kind x least most out in ((λ none. same ∙ none), (λ none. sym same ∙ none));
        other_pages = λ j low out. elim (is_in j pages) [
          | yes among ↦ old_pages j among out
          | no none ↦ unused_stays step.range step.stores j low none
        ];
      };
      inodes_used = λ x among. (used x among).1;
      pages_used = pages_used;
    }
