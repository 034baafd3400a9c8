-- A file that grows, and the words that its intervals store: three, and two without new pages. P is the number of pages, W the words before.
use Rattle.std.specs.Prelude.{◌≡◌, ℕ, ◌+◌, ◌*◌, ◌/◌, ◌^◌, ◌<◌, ◌≤◌, min, List, [], length, drop, Some, None}
use Rattle.layout.specs.Fields.{inode_size}
use Rattle.layout.specs.Geometry.{pieces}
use Rattle.tree_model.specs.PathText.{Route}
use Rattle.tree_model.specs.Run.{State}
use Rattle.tree_model.specs.Step.{refusal_of}
use Rattle.tree_model.specs.Tree.{id_at, page_bytes}
use Rattle.tree_model.specs.declared.command.Command.{Command}
use Rattle.tree_model.specs.declared.command.Command.TheVariants.{Write, Truncate}
use Rattle.page_state.specs.Spans.{span_of}
use Rattle.page_state.specs.Page.{IsNewWordOf}
use Rattle.image_reading.specs.Reading.{ReadsAs}
use Rattle.content_laws.specs.Growth.{CanGrow, FillsFile, TakesPages, sized}
use Rattle.volume.specs.Costs.{span_events, page_events, word_events, descriptor_rest_events, fence_events}
use Rattle.data_ops.specs.declared.grow.Growth.{Growth}
use Rattle.data_ops.specs.Files.{HasPages, AreFree}

-- ---- what stands before

-- The file may grow so, over its old pages and these new ones; a range that begins below the old size has a byte.
pub record MayGrow (P : ℕ) (W : List ℕ) (growth : Growth) (bytes old_pages new_pages : List ℕ) : Type 0 where
  pub can : CanGrow P W growth.inode growth.new_size growth.offset bytes new_pages
  pub old_size : inode_size W growth.inode ≡ growth.old_size
  pub held : HasPages P W growth.inode old_pages
  pub free : AreFree P W new_pages
  pub reaches : growth.old_size ≤ growth.offset + length bytes
  pub some : growth.offset < growth.old_size → 0 < length bytes

-- What the fill of its old pages asks for: these are the file's.
pub record MayFill (P : ℕ) (W : List ℕ) (growth : Growth) (bytes pages : List ℕ) : Type 0 where
  pub held : HasPages P W growth.inode pages
  pub size : inode_size W growth.inode ≡ growth.old_size
  pub small : growth.old_size ≤ 2 ^ 40
  pub range : growth.offset + length bytes ≤ 2 ^ 40
  pub reaches : growth.old_size ≤ growth.offset + length bytes
  pub some : growth.offset < growth.old_size → 0 < length bytes

-- a command by which the file at the path grows so
pub data IsGrowing (growth : Growth) (bytes : List ℕ) (path : Route) : Command → Type 0 where
  write : growth.new_size ≡ growth.offset + length bytes → 0 < length bytes → IsGrowing growth bytes path (Write path growth.offset bytes)
  truncate : bytes ≡ [] → growth.offset ≡ growth.old_size → IsGrowing growth bytes path (Truncate path growth.new_size)

-- The words read as the state, and the command is accepted and grows the file so.
pub record IsGrowthBy (P : ℕ) (W : List ℕ) (state : State) (command : Command) (growth : Growth) (bytes : List ℕ) : Type 0 where
  pub reads : ReadsAs P W state
  pub accepted : refusal_of P state.tree state.room command ≡ None
  pub path : Route
  pub names : id_at state.tree path ≡ Some growth.inode
  pub grows : IsGrowing growth bytes path command

-- ---- what it costs

-- the words in old pages, from the range or the old size to their end
abbrev pub old_page_events : Growth → ℕ
old_page_events growth = span_events (min growth.offset growth.old_size) (pieces growth.old_size page_bytes * page_bytes)

-- and so many new pages, with the fence
abbrev pub fill_events : Growth → ℕ → ℕ
fill_events growth pages = old_page_events growth + pages * page_events + fence_events

-- the owners of so many pages, with the fence
abbrev pub owner_events : ℕ → ℕ
owner_events pages = pages * word_events + fence_events

-- the rest of the descriptors of so many pages, with the fence
abbrev pub release_events : ℕ → ℕ
release_events pages = pages * descriptor_rest_events + fence_events

-- ---- what it leaves

-- a word of the file's last pages that holds a byte of the range, or one behind the old size
abbrev pub IsTailWord : ℕ → Growth → List ℕ → List ℕ → ℕ → Type 0
IsTailWord P growth bytes pages word =
    let first = min growth.offset growth.old_size / page_bytes in IsNewWordOf (span_of first growth.old_size growth.offset bytes) P (drop first pages) word

-- From W to J the file has grown to size z, with the range, in the intervals of the laws.
pub record StoresGrowth (P : ℕ) (W J : List ℕ) (i z offset : ℕ) (bytes pages : List ℕ) : Type 0 where
  pub filled : List ℕ
  pub taken : List ℕ
  pub fills : FillsFile P W filled i offset bytes pages
  pub takes : TakesPages P filled taken i pages
  pub size : J ≡ sized taken i z
