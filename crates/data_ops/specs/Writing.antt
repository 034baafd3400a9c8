-- Bytes that are written into a file: the words that the intervals of a write store. P is the number of pages.
use Rattle.std.specs.Prelude.{◌≡◌, ℕ, ◌+◌, ◌/◌, ◌%◌, ◌^◌, ◌<◌, ◌≤◌, true, nat_le, List, [], ◌∷◌, length, Result, OnOk}
use Rattle.pm_trait.specs.DeviceView.{DeviceView}
use Rattle.tree_model.specs.PathText.{Route}
use Rattle.tree_model.specs.Run.{State}
use Rattle.tree_model.specs.declared.command.Command.{Command}
use Rattle.tree_model.specs.declared.command.Command.TheVariants.{Write}
use Rattle.layout.specs.Fields.{inode_size, page_byte}
use Rattle.image_reading.specs.Reading.{ReadsAs, IsPageOf}
use Rattle.content_laws.specs.Inside.{CanWrite, WritesInside}
use Rattle.volume.specs.Costs.{span_events, fence_events}
use Rattle.volume.specs.declared.plan.Action.TheVariants.{Write as WriteBytes}
use Rattle.volume.specs.Planned.{IsPlanned}
use Rattle.volume.specs.declared.plan.Writing.{Writing}
use Rattle.pm_trait.specs.Unfolds.{Step, Unfolds}
use Rattle.data_ops.specs.declared.grow.Growth.{Growth}
use Rattle.data_ops.specs.Files.{HasPages}
use Rattle.data_ops.specs.Growing.{MayGrow, StoresGrowth}
use Rattle.data_ops.specs.Steps.{growth_steps, either_steps}
use Rattle.volume.specs.Commit.{HangsOnWords}
use Rattle.data_ops.specs.Hanging.{IsRangeWord}

-- it writes these bytes, wherever
abbrev pub IsWriteOf : List ℕ → Command → Type 0
IsWriteOf bytes command = (path : Route) × (offset : ℕ) × (command ≡ Write path offset bytes)

-- The range has a byte and lies below the size of the file, whose pages these are.
pub record MayWriteInside (P : ℕ) (W : List ℕ) (i offset : ℕ) (bytes pages : List ℕ) : Type 0 where
  pub can : CanWrite P W i offset bytes
  pub held : HasPages P W i pages
  pub some : 0 < length bytes

-- how the file grows where the bytes end past its size
abbrev pub growth_of : Writing → Growth
growth_of writing = record { inode = writing.inode; old_size = writing.old_size; new_size = writing.offset + writing.count; offset = writing.offset }

-- What a write asks for, inside the size of its file and past it. These are the file's pages.
pub record MayWriteBytes (P : ℕ) (W : List ℕ) (writing : Writing) (bytes pages : List ℕ) : Type 0 where
  pub count : writing.count ≡ length bytes
  pub small : writing.offset + writing.count ≤ 2 ^ 40
  pub inside : writing.offset + writing.count ≤ writing.old_size → MayWriteInside P W writing.inode writing.offset bytes pages
  pub past : writing.old_size < writing.offset + writing.count → MayGrow P W (growth_of writing) bytes pages writing.new_pages

-- The words read as the state, and the writing is what an accepted command of this path does.
pub record IsWritingAt (P : ℕ) (W : List ℕ) (state : State) (path : Route) (bytes : List ℕ) (writing : Writing) : Type 0 where
  pub reads : ReadsAs P W state
  pub planned : IsPlanned P W state (Write path writing.offset bytes) (WriteBytes writing)

-- From W to J the range is written, and every byte of the file's pages behind its size stays, also in a word that the range shares.
pub record StoresInside (P : ℕ) (W J : List ℕ) (i offset : ℕ) (bytes : List ℕ) : Type 0 where
  pub writes : WritesInside P W J i offset bytes
  pub kept : (o j : ℕ) → inode_size W i ≤ o → IsPageOf P W i (o / 4096) j → page_byte P J j (o % 4096) ≡ page_byte P W j (o % 4096)

-- the bytes of the range below the size
abbrev pub overwriting : ℕ → ℕ → ℕ → List ℕ → Step
overwriting P inode offset bytes = record { Makes = λ I J. StoresInside P I J inode offset bytes; stores = true; events = span_events offset (offset + length bytes) + fence_events }

-- The steps of a write: inside the size the bytes alone, and past it those of a growth.
abbrev pub write_steps : ℕ → Writing → List ℕ → List Step
write_steps P writing bytes = either_steps (nat_le (writing.offset + writing.count) writing.old_size)
    (overwriting P writing.inode writing.offset bytes ∷ [])
    (growth_steps P (growth_of writing) bytes writing.new_pages)

-- From W to J the bytes are written, inside the size or with a growth past it.
pub record StoresBytes (P : ℕ) (W J : List ℕ) (writing : Writing) (bytes : List ℕ) : Type 0 where
  pub inside : writing.offset + writing.count ≤ writing.old_size → StoresInside P W J writing.inode writing.offset bytes
  pub past : writing.old_size < writing.offset + writing.count → StoresGrowth P W J writing.inode (writing.offset + writing.count) writing.offset bytes writing.new_pages

-- The steps were made in turn, each settled before the next. Where it succeeds the words are those, and no other word has changed. What
-- a crash leaves hangs on the size and on the words of the file's old pages that hold a byte of the range below the old size.
pub record HasStoredBytes {T E : Type 0} (P : ℕ) (before after : DeviceView) (writing : Writing) (bytes : List ℕ) (result : Result T E) : Type 0 where
  pub in_turn : Unfolds (write_steps P writing bytes) before after result
  pub made : OnOk result (StoresBytes P before.words after.words writing bytes)
  pub commit_word : HangsOnWords P before.trail after.trail (IsRangeWord P before.words writing.inode writing.offset bytes)
