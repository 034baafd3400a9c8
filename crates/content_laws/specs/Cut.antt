-- The intervals of a truncation to less: the size; owners of the pages past the new end; the rest of their descriptors.
use Rattle.std.specs.Prelude.{◌≡◌, ◌≢◌, ◌↔◌, ◌⊎◌, ℕ, ◌<◌, ◌≤◌, List, length, Some, Contains}
use Rattle.layout.specs.Fields.{word, descriptor_words, inode_kind, inode_size, page_owner, page_offset, slot_inode}
use Rattle.layout.specs.Geometry.{inodes_of, data_pages_of, descriptor_word_of}
use Rattle.tree_model.specs.PathText.{Route}
use Rattle.tree_model.specs.Run.{State}
use Rattle.tree_model.specs.Step.{resized, with_bytes}
use Rattle.tree_model.specs.Tree.{Tree, Room, bytes_of, id_at}
use Rattle.tree_model.specs.declared.command.Command.TheVariants.{Truncate}
use Rattle.image_reading.specs.Reading.{HasBytes, Reached, IsReachedSlot, pages_of_size, Reads, HasRoom, ReadsAs}
use Rattle.image_reading.specs.Soundness.{IsCoherent}
use Rattle.image_reading.specs.Tidy.{IsTidied}
use Rattle.image_counts.specs.Entries.{IsEntryOf, IsPageIn, IsFreePage}
use Rattle.image_laws.specs.CreateStep.{IsStepped}
use Rattle.image_laws.specs.Drop.{GivesPages}
use Rattle.image_laws.specs.Frame.{SameMeaning}
use Rattle.image_laws.specs.Quiet.{IsMix}
use Rattle.image_laws.specs.Stages.{MayFree}
use Rattle.content_laws.specs.Growth.{sized}

-- i is a file of a tidy image, and z is less than its size.
pub record CanCut (P : ℕ) (W : List ℕ) (i z : ℕ) : Type 0 where
  pub tidy : IsTidied P W
  pub reached : Reached P W i
  pub file : HasBytes W i
  pub less : z < inode_size W i

-- Page j of file i stands past the end that size z gives it.
pub record IsPastCut (P : ℕ) (W : List ℕ) (i z j : ℕ) : Type 0 where
  pub in_range : j < data_pages_of P
  pub owner : page_owner P W j ≡ i
  pub past : pages_of_size z ≤ page_offset P W j

-- From J to K the rest of the descriptors of the pages that were given back becomes zero.
pub record ClearsPages (P : ℕ) (J K : List ℕ) (given : ℕ → Type 0) : Type 0 where
  pub size : length K ≡ length J
  pub rests : (j f : ℕ) → given j → 1 ≤ f → f < descriptor_words J → word K (descriptor_word_of P j f) ≡ 0
  pub others : (a : ℕ) → ((j f : ℕ) → given j → 1 ≤ f → f < descriptor_words J → a ≢ descriptor_word_of P j f) → word K a ≡ word J a

-- the intervals after the size
pub record Cuts (P : ℕ) (W J K : List ℕ) (i z : ℕ) : Type 0 where
  pub gives : GivesPages P (sized W i z) J (IsPastCut P W i z)
  pub clears : ClearsPages P J K (IsPastCut P W i z)

-- ---- what a crash leaves, by what stands before each interval, and the end

-- the tree with the first z bytes of the file
abbrev pub with_size : Tree → ℕ → ℕ → Tree
with_size T i z = with_bytes T i (resized (bytes_of T i) z)

-- While the size is stored a crash leaves W, which has not the new tree yet, or the new size, by the size word alone. With the new
-- size the words fit together; tree and room are those of W, but for the file's bytes past its end.
pub record LeavesLowered (P : ℕ) (W : List ℕ) (i z : ℕ) : Type 0 where
  pub commit : (M : List ℕ) → IsMix W (sized W i z) M → (M ≡ W) ⊎ (M ≡ sized W i z)
  pub hangs : (M N : List ℕ) → IsMix W (sized W i z) M → IsMix W (sized W i z) N → inode_size N i ≡ inode_size M i → N ≡ M
  pub not_yet : (T : Tree) → ¬ Reads P W (with_size T i z)
  pub coherent : IsCoherent P (sized W i z)
  pub reads : (T : Tree) → Reads P W T → Reads P (sized W i z) (with_size T i z)
  pub room : (room : Room) → HasRoom P W room → HasRoom P (sized W i z) room

abbrev pub LoweringLaw : Type 0
LoweringLaw = (P : ℕ) (W : List ℕ) (i z : ℕ) → CanCut P W i z → LeavesLowered P W i z

-- The pages that are given stand past the end of file i.
pub record MayTrim (P : ℕ) (I : List ℕ) (i : ℕ) (given : ℕ → Type 0) : Type 0 where
  pub coherent : IsCoherent P I
  pub reached : Reached P I i
  pub file : HasBytes I i
  pub decided : (j : ℕ) → given j ⊎ (given j → ⊥)
  pub past : (j : ℕ) → given j → IsPastCut P I i (inode_size I i) j

-- While they lose their owner, each mix of old and new words means the same,
abbrev pub TrimmingLaw : Type 0
TrimmingLaw = (P : ℕ) (I J M pages : List ℕ) (i : ℕ) → MayTrim P I i (Contains pages) → GivesPages P I J (Contains pages) → IsMix I J M → SameMeaning P I M

-- and once they have none, also while the rest of their descriptors becomes zero.
abbrev pub ReleasingLaw : Type 0
ReleasingLaw = (P : ℕ) (I J M pages : List ℕ) (i : ℕ) → MayFree P I (Contains pages) ⊥ i → ClearsPages P I J (Contains pages) → IsMix I J M → SameMeaning P I M

-- The last image means what the new size leaves, and is tidy.
pub record LeavesCut (P : ℕ) (W K : List ℕ) (i z : ℕ) : Type 0 where
  pub last : SameMeaning P (sized W i z) K
  pub tidy : IsTidied P K

abbrev pub CutLaw : Type 0
CutLaw = (P : ℕ) (W J K : List ℕ) (i z : ℕ) → CanCut P W i z → Cuts P W J K i z → LeavesCut P W K i z

-- The last image reads as the state after the command: its tree, and the room of W.
pub record IsTruncated (P : ℕ) (K : List ℕ) (old : State) (path : Route) (z n : ℕ) : Type 0 where
  pub stepped : IsStepped P K old (Truncate path z) n
  pub room : HasRoom P K old.room

-- (No node is new: id n is not read.)
abbrev pub CutStepLaw : Type 0
CutStepLaw = (P : ℕ) (W J K : List ℕ) (old : State) (path : Route) (i z n : ℕ) → CanCut P W i z → Cuts P W J K i z → id_at old.tree path ≡ Some i → ReadsAs P W old
    → IsTruncated P K old path z n

-- ---- what an index holds

-- K has what W has, but file i is of size z, has the pages below its end alone, and the others are free.
pub record HasCut (P : ℕ) (W K : List ℕ) (i z : ℕ) : Type 0 where
  pub size : inode_size K i ≡ z
  pub reached : (x : ℕ) → Reached P K x ↔ Reached P W x
  pub kinds : (x : ℕ) → 1 ≤ x → x ≤ inodes_of P → inode_kind K x ≡ inode_kind W x
  pub entries : (d s : ℕ) (bytes : List ℕ) → IsEntryOf P K d bytes s ↔ IsEntryOf P W d bytes s
  pub numbers : (s : ℕ) → IsReachedSlot P W s → slot_inode P K s ≡ slot_inode P W s
  pub kept : (j : ℕ) → IsPageIn P K i j ↔ (IsPageIn P W i j × (page_offset P W j < pages_of_size z))
  pub others : (x j : ℕ) → 1 ≤ x → x ≢ i → IsPageIn P K x j ↔ IsPageIn P W x j
  pub offsets : (x j : ℕ) → 1 ≤ x → IsPageIn P K x j → page_offset P K j ≡ page_offset P W j
  pub free_pages : (j : ℕ) → IsFreePage P K j ↔ (IsFreePage P W j ⊎ IsPastCut P W i z j)

abbrev pub CutIndexLaw : Type 0
CutIndexLaw = (P : ℕ) (W J K : List ℕ) (i z : ℕ) → CanCut P W i z → Cuts P W J K i z → HasCut P W K i z
