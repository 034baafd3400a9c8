-- The room after commands that leave the directories.
use Rattle.std.specs.Prelude.{◌≡◌, ℕ, ◌+◌, ◌-◌, Bool, if◌then◌else◌, Some, None}
use Rattle.std.specs.Cmp.{nat_cmp_total}
use Rattle.tree_model.specs.Table.{insert}
use Rattle.tree_model.specs.Tree.{Tree, Room, is_directory, pages_in}
use Rattle.tree_model.specs.Step.{gaining, losing, page_for_name, tree_after}
use Rattle.tree_model.specs.declared.command.Command.{Command}

-- the tree after has the directories of the tree before
abbrev pub LeavesDirectories : ℕ → Tree → Command → Type 0
LeavesDirectories id T c = (directory : ℕ) → is_directory (tree_after id T c) directory ≡ is_directory T directory

-- no directory gains a name, and none loses one: the room stays
pub record LeavesNames (T : Tree) (c : Command) : Type 0 where
  pub gains : gaining T c ≡ None
  pub loses : losing T c ≡ None

-- one directory gains a name and loses one
pub record ExchangesNames (T : Tree) (c : Command) (directory : ℕ) : Type 0 where
  pub gains : gaining T c ≡ Some directory
  pub loses : losing T c ≡ Some directory

-- the pages of a directory that gained a name and then lost one
abbrev pub pages_exchanged : Tree → Room → ℕ → Bool → ℕ
pages_exchanged T room directory gives =
    let gained = pages_in room directory + page_for_name T room (Some directory) in
    if gives then gained - 1 else gained

-- The room where one directory gains and loses a name: its number alone changes.
abbrev pub IsRoomExchanged : Tree → Room → ℕ → Room → Type 0
IsRoomExchanged T room directory new = (gives : Bool) × (new ≡ insert nat_cmp_total room directory (pages_exchanged T room directory gives))
