-- What a growth holds while it waits, and that it may go on.
use Rattle.std.proofs.Common.{◌≡◌, ◌⊎◌, ◌≢◌, inl, inr, ℕ, ◌<◌, ◌≤◌, List, [], ◌∷◌, ◌++◌, sym, subst, ◌∙◌, arith}
use Rattle.std.specs.Prelude.{Contains}
use Rattle.pm_trait.specs.DeviceView.{DeviceView}
use Rattle.layout.specs.Geometry.{data_pages_of}
use Rattle.layout.specs.Fields.{inode_kind, page_owner}
use Rattle.tree_model.specs.Run.{State}
use Rattle.image_reading.specs.Counts.{IsIn}
use Rattle.image_reading.specs.Litter.{IsInode}
use Rattle.image_reading.specs.Residue.{Residue}
use Rattle.image_counts.proofs.Distinct.{in_front, in_back, in_either}
use Rattle.weave_laws.specs.Joined.{joined}
use Rattle.weave_laws.proofs.Contained.{in_contained}
use Rattle.volatile_index.specs.Index.{pages_of}
use Rattle.volume.specs.Volume.{VolumeView}
use Rattle.data_ops.specs.declared.grow.Growth.{Growth}
use Rattle.data_ops.specs.declared.grow.Progress.{Progress}
use Rattle.data_ops.specs.declared.grow.Progress.TheVariants.{Begun, Filled, Owned}
use Rattle.waiting_laws.specs.Beside.{Holds}
use Rattle.waiting_laws.specs.Growing.{file_held_by, pages_left_by, HasItsNewPages, WaitsToGrow, GrowthHoldsLaw, GrowthStandsLaw}
use Rattle.waiting_laws.proofs.FileBare.{left_bare}
use Rattle.waiting_laws.proofs.FilePages as files

-- no new page is another inode's
new_not_of : (P : ℕ) (I : List ℕ) (inode : ℕ) (pages : List ℕ) (progress : Progress) → HasItsNewPages P I inode pages progress → (x j : ℕ) → ¬ IsIn x (inode ∷ []) → 1 ≤ x → Contains pages j → page_owner P I j ≢ x
new_not_of P I inode pages Begun words x j other least is owner = words
new_not_of P I inode pages Filled words x j other least is owner = let none = (words j is).0 in omega (arith, none, owner, least)
new_not_of P I inode pages Owned words x j other least is owner = other (inl (sym owner ∙ (words j is).owner))

-- it is the file's, or nobody's
new_owner : (P : ℕ) (I : List ℕ) (inode : ℕ) (pages : List ℕ) (progress : Progress) → HasItsNewPages P I inode pages progress → (j : ℕ) → Contains pages j → (page_owner P I j ≡ inode) ⊎ (page_owner P I j ≡ 0)
new_owner P I inode pages Begun words j is = absurd words
new_owner P I inode pages Filled words j is = inr (words j is).0
new_owner P I inode pages Owned words j is = inl (words j is).owner

module _ (volume : VolumeView) (device : DeviceView) (state : State) (growth : Growth) (bytes pages : List ℕ) (progress : Progress) (others : Residue) (waiting : WaitsToGrow volume device state growth bytes pages progress others) where
  abbrev i : ℕ
  i = growth.inode

  abbrev own : List ℕ
  own = pages_of volume.index i

  abbrev residue : Residue
  residue = joined (pages_left_by i pages) others

  file_there : IsInode volume.size i
  file_there = let (least, most) = files.in_inodes volume device state residue waiting.beside.stands i waiting.file in record { from_one = least; in_range = most }

  pub within : (j : ℕ) → IsIn j (own ++ pages) → j < data_pages_of volume.size
  within j among = elim (in_either j own pages among) [
    | inl old ↦ (waiting.old_pages j (in_contained j own old)).in_range
    | inr new ↦ ((waiting.beside.stands.beside.of_pages.each j).0 (in_front j pages others.pages new)).in_range
  ]

  inode_is : (x : ℕ) → IsIn x (i ∷ []) → x ≡ i
  inode_is x among = elim among [ inl same ↦ same | inr none ↦ absurd none ]

  used : (x : ℕ) → IsIn x (i ∷ []) → inode_kind device.words x ≢ 0
  used x among =
      let one = files.file volume device state residue waiting.beside.stands i waiting.file in
      subst (λ y. inode_kind device.words y ≢ 0) (sym (inode_is x among)) (λ none. omega (arith, one, none))

  pub holds : Holds volume device.words (pages_left_by i pages) (file_held_by volume i pages)
  holds = record {
    in_volume = record { of_pages = within; of_inodes = λ x among. subst (IsInode volume.size) (sym (inode_is x among)) file_there };
    of_slots = λ s none. absurd none;
    of_pages = λ j among. elim (in_either j own pages among) [ inl old ↦ inr (inl (waiting.old_pages j (in_contained j own old)).owner) | inr new ↦ inl new ];
    used = used;
    bare = left_bare volume.size device.words i pages waiting.beside.stands.sound.coherent (files.reached volume device state residue waiting.beside.stands i waiting.file)
        (files.file volume device state residue waiting.beside.stands i waiting.file) (λ j among. new_owner volume.size device.words i pages progress waiting.new_pages j (in_contained j pages among));
    left_slots = λ s none. none;
    left_pages = λ j among. in_back j own pages among;
    left_inodes = λ x none. absurd none;
    untouched = λ x other least. record {
      apart = record {
        slots = λ s none. absurd none;
        pages = λ j among. new_not_of volume.size device.words i pages progress waiting.new_pages x j other least (in_contained j pages among);
        links = λ none. none;
      };
      listed = λ j among. waiting.unlisted x j among;
    };
  }

pub growth_holds_law : GrowthHoldsLaw
growth_holds_law volume device state growth bytes pages progress others waiting = holds volume device state growth bytes pages progress others waiting

pub growth_stands_law : GrowthStandsLaw
growth_stands_law volume device state growth bytes pages progress others waiting kept = record { at = waiting.at; knows = waiting.knows; kept = kept }
