-- The laws of the words that commit unlink, rmdir and rename.
use Rattle.std.proofs.Common.{ℕ, List, set}
use Rattle.layout.specs.Fields.{slot_inode}
use Rattle.layout.specs.Geometry.{slot_word_of}
use Rattle.tree_model.specs.PathText.{Route}
use Rattle.image_laws.specs.Remove.{CanRemove, RemoveLaw}
use Rattle.image_laws.specs.Move.{CanMove, MoveLaw, moved}
use Rattle.image_laws.proofs.Adds.{only, stored}
use Rattle.image_laws.proofs.OnlySlot.{GetsNumber, only_node}
use Rattle.image_laws.proofs.MoveSlot.{moved_coherent, moved_names}
use Rattle.image_laws.proofs.RemoveSlot.{removed_coherent, removed_names, gone}

pub removes : (P : ℕ) (I : List ℕ) (p : Route) (s : ℕ) → CanRemove P I p s → GetsNumber P I (set I (slot_word_of P s 0) 0) s 0
removes P I p s c = record { only = only P I s 0 c.coherent; number = stored P I s 0 c.coherent c.live.held.in_range }

pub remove_law : RemoveLaw
unfolding gone
remove_law P I p s c =
    let a = removes P I p s c in
    record {
      coherent = removed_coherent P I (set I (slot_word_of P s 0) 0) p s c a;
      names = removed_names P I (set I (slot_word_of P s 0) 0) p s c a;
      nodes = only_node a.only c.live.held;
    }

pub moves : (P : ℕ) (I : List ℕ) (pa pb : Route) (s d : ℕ) → CanMove P I pa pb s d → GetsNumber P I (moved P I s d) d (slot_inode P I s)
moves P I pa pb s d c = record { only = only P I d (slot_inode P I s) c.coherent; number = stored P I d (slot_inode P I s) c.coherent c.held.in_range }

pub move_law : MoveLaw
move_law P I pa pb s d c =
    let a = moves P I pa pb s d c in
    record {
      coherent = moved_coherent P I (moved P I s d) pa pb s d c a;
      names = moved_names P I (moved P I s d) pa pb s d c a;
      nodes = only_node a.only c.held;
    }
