-- The inode of a planned entry where no call runs.
use Rattle.std.proofs.Common.{◌≡◌, ℕ, List, sym, arith}
use Rattle.tree_model.specs.Step.{least_free_id}
use Rattle.tree_model.specs.Run.{State}
use Rattle.image_reading.specs.Reading.{ReadsAs}
use Rattle.image_reading.specs.Tidy.{IsTidied}
use Rattle.image_counts.proofs.Inodes.{free_inode_law}
use Rattle.volume.specs.Planned.{IsLeastInode}

-- the least inode is the least free id's
pub least_id : (P : ℕ) (I : List ℕ) (state : State) (inode : ℕ) → IsTidied P I → ReadsAs P I state → IsLeastInode P I inode → inode ≡ least_free_id state.tree
least_id P I state inode tidied reads is =
    sym ((free_inode_law P I state tidied reads).least inode is.from_two is.free
    (λ other low high none. is.least other low high (omega (arith, low), (let most = is.free.1 in omega (arith, high, most)), none)))
