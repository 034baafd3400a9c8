-- What a read of a file leaves in its buffer.
use Rattle.std.specs.Prelude.{◌≡◌, ℕ, ◌+◌, ◌-◌, ◌/◌, ◌%◌, ◌<◌, IsTrue, min, List, length, slice_index, take, drop}
use Rattle.pm_trait.specs.DeviceView.{DeviceView}
use Rattle.layout.specs.Fields.{page_byte}
use Rattle.tree_model.specs.Tree.{is_file}
use Rattle.tree_model.specs.Run.{State}
use Rattle.image_reading.specs.Residue.{Residue}
use Rattle.volume.specs.Volume.{VolumeView}
use Rattle.volume.specs.Beside.{StandsBeside, IsUntouched}

-- byte `at` of the file that has these pages, in order
abbrev pub file_byte : ℕ → List ℕ → List ℕ → ℕ → ℕ
file_byte volume_pages words pages at = page_byte volume_pages words (slice_index pages (at / 4096)) (at % 4096)

-- the bytes are those of the file from the offset on
abbrev pub AreFileBytes : ℕ → List ℕ → List ℕ → ℕ → List ℕ → Type 0
AreFileBytes volume_pages words pages offset bytes = (k : ℕ) → k < length bytes → slice_index bytes k ≡ file_byte volume_pages words pages (offset + k)

-- the volume stands for a state in which the inode is a file, which no running call touches
abbrev pub HasFile : VolumeView → DeviceView → ℕ → Type 0
HasFile volume device inode = (state : State) × (residue : Residue) × StandsBeside volume device state residue × IsTrue (is_file state.tree inode) × IsUntouched volume device.words residue inode

-- So many bytes of a file from the offset on are the first of the buffer, as many as it holds and the file has left; the others
-- are as before.
pub record IsRead (bytes : List ℕ) (offset : ℕ) (before after : List ℕ) (count : ℕ) : Type 0 where
  pub count_is : count ≡ min (length before) (length bytes - offset)
  pub bytes_are : take count after ≡ take (length before) (drop offset bytes)
  pub rest : drop count after ≡ drop count before
