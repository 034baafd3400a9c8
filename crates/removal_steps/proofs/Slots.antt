-- Slots and inodes on a settled device.
use Rattle.std.proofs.Common.{◌≡◌, ℕ, ◌*◌, ◌<◌, ◌≤◌, List, length, Some, arith}
use Rattle.std.specs.Prelude.{Option}
use Rattle.pm_trait.specs.Trail.{Trail}
use Rattle.pm_trait.specs.Device.{IsClean, IsSettledAt}
use Rattle.layout.specs.Geometry.{IsVolumeSize, inodes_of, slots_of}
use Rattle.inode_state.specs.Inode.{IsInodeWord}
use Rattle.inode_state.proofs.InodeLaws.{inode_word_in_volume}
use Rattle.dentry_state.specs.Dentry.{IsSlotWord}
use Rattle.dentry_state.proofs.DentryLaws.{slot_word_in_volume}

pub slot_settled : {now : List ℕ} {trail : Option Trail} (P s : ℕ) → s < slots_of P → length now ≡ 512 * P → IsSettledAt now trail → (word : ℕ) → IsSlotWord P s word → IsClean now trail word
slot_settled P s in_range whole settled word is = let within = slot_word_in_volume P s word in_range is in settled.each word (omega (arith, within, whole))

pub inode_settled : {now : List ℕ} {trail : Option Trail} (P i : ℕ) → IsVolumeSize P → 1 ≤ i → i ≤ inodes_of P → length now ≡ 512 * P → IsSettledAt now trail → (word : ℕ) → IsInodeWord i word → IsClean now trail word
inode_settled P i size least most whole settled word is = let within = inode_word_in_volume P i word size least most is in settled.each word (omega (arith, within, whole))

-- the node that an option holds
pub same_node : (i node : ℕ) → ◌≡◌ {A = Option ℕ} (Some i) (Some node) → i ≡ node
same_node i node e = cc
