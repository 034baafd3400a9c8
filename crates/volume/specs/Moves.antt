-- What a move does to the links of directories and of a file that is replaced.
use Rattle.std.specs.Prelude.{ℕ, Bool, false, true, not, ◌&&◌, ◌||◌, ◌==◌, if◌then◌else◌, Option, Some, None, is_some, is_none}
use Rattle.layout.specs.declared.kinds.NodeKind.{NodeKind}
use Rattle.layout.specs.declared.kinds.NodeKind.TheVariants.{File, Directory}
use Rattle.volume.specs.declared.plan.Loss.{Loss}
use Rattle.volume.specs.declared.plan.Moving.{Moving}

abbrev pub is_directory_kind : NodeKind → Bool
is_directory_kind File = false
is_directory_kind Directory = true

abbrev pub inode_of_loss : Option Loss → Option ℕ
inode_of_loss None = None
inode_of_loss (Some loss) = Some loss.inode

-- A directory that gets another parent, and replaces none, raises the links of the new one.
abbrev pub rising_of : Moving → Option ℕ
rising_of moving =
    if is_directory_kind moving.kind && not (moving.from_directory == moving.to_directory) && is_none moving.replaced
    then Some moving.to_directory else None

-- A directory that gets another parent, or replaces a directory, lowers those of the old one; a file that is replaced lowers its own.
abbrev pub falling_of : Moving → Option ℕ
falling_of moving =
    if is_directory_kind moving.kind
    then (if not (moving.from_directory == moving.to_directory) || is_some moving.replaced then Some moving.from_directory else None)
    else inode_of_loss moving.replaced
