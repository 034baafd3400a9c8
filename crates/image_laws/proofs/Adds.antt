-- The laws of the word that commits create, mkdir and link.
use Rattle.std.proofs.Common.{◌≡◌, ℕ, ◌<◌, List, length, set, refl, arith}
use Rattle.layout.specs.Fields.{slot_inode}
use Rattle.layout.specs.Geometry.{slots_of, slot_word_of}
use Rattle.layout.proofs.GeometryLaws.{slot_word_within}
use Rattle.image_reading.specs.Soundness.{Rule, IsCoherent}
use Rattle.image_laws.specs.Add.{AddLaw, AddTreeLaw, AddRoomLaw}
use Rattle.image_laws.proofs.Addresses.{some_inode}
use Rattle.image_laws.proofs.AddRoom.{room_added}
use Rattle.image_laws.proofs.AddSlot.{added_coherent, added_names, added_node}
use Rattle.image_laws.proofs.AddTree.{reads_added}
use Rattle.image_laws.proofs.OnlySlot.{OnlySlot, only_slot, slot_inode-set}

pub only : (P : ℕ) (I : List ℕ) (s v : ℕ) → IsCoherent P I → OnlySlot P I (set I (slot_word_of P s 0) v) s
only P I s v coherent = only_slot P I s v (some_inode P ((coherent Rule.head 0).size refl))

pub stored : (P : ℕ) (I : List ℕ) (s v : ℕ) → IsCoherent P I → s < slots_of P → slot_inode P (set I (slot_word_of P s 0) v) s ≡ v
stored P I s v coherent lt = slot_inode-set P I s v ((coherent Rule.head 0).whole refl) lt

-- a slot's words are in the image
pub inside : (P : ℕ) (I : List ℕ) (s f : ℕ) → IsCoherent P I → s < slots_of P → f < 16 → slot_word_of P s f < length I
inside P I s f coherent lt few = let below = slot_word_within P s f lt few in let size = (coherent Rule.head 0).whole refl in omega (arith, below, size)

pub add_law : AddLaw
add_law P I p d s i c =
    let o = only P I s i c.coherent in
    let e = stored P I s i c.coherent c.slot.held.in_range in
    record {
      coherent = added_coherent P I (set I (slot_word_of P s 0) i) p d s i c o e;
      names = added_names P I (set I (slot_word_of P s 0) i) p d s i c o e;
      nodes = added_node P I (set I (slot_word_of P s 0) i) p d s i c o e;
    }

pub add_tree_law : AddTreeLaw
add_tree_law P I p path d s i c is = reads_added P I (set I (slot_word_of P s 0) i) p path d s i c (add_law P I p d s i c) is

pub add_room_law : AddRoomLaw
add_room_law P I p d s i c =
    room_added P I (set I (slot_word_of P s 0) i) p d s i c (only P I s i c.coherent) (stored P I s i c.coherent c.slot.held.in_range)
