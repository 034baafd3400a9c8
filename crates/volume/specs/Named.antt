-- What a command names, and the refusals that come before it is known. T is the tree.
use Rattle.std.specs.Prelude.{◌≡◌, ◌↔◌, ℕ, Bool, true, false, ◌||◌, [], ◌∷◌, ◌++◌, Contains, Option, Some, None, Result, MatchResult}
use Rattle.pm_trait.specs.DeviceView.{DeviceView}
use Rattle.tree_model.specs.Tree.{Tree, is_root}
use Rattle.tree_model.specs.Run.{State}
use Rattle.tree_model.specs.Step.{first, at, walk_faults}
use Rattle.tree_model.specs.declared.command.Command.{Command}
use Rattle.tree_model.specs.declared.command.Command.TheVariants.{Create, Mkdir, Link, Unlink, Rmdir, Rename, Write, Truncate, Read, Stat as Tell, List as Show, Df}
use Rattle.tree_model.specs.declared.reply.Refusal.{Refusal}
use Rattle.tree_model.specs.declared.reply.Refusal.TheVariants.{Root}
use Rattle.image_reading.specs.Residue.{Residue}
use Rattle.naming_laws.specs.Naming.{names_inode, names_all}
use Rattle.volume.specs.Volume.{VolumeView}
use Rattle.volume.specs.Beside.{StandsBeside}
use Rattle.volume.specs.declared.named.NamedNodes.{NamedNodes}
use Rattle.volume.specs.declared.named.NamedNodes.TheVariants.{All, These}

-- whether the root stands where the command wants a name
abbrev pub is_at_root : Command → Bool
is_at_root (Create path) = is_root path
is_at_root (Mkdir path) = is_root path
is_at_root (Link from to) = is_root to
is_at_root (Unlink path) = is_root path
is_at_root (Rmdir path) = is_root path
is_at_root (Rename from to) = is_root from || is_root to
is_at_root (Write path offset bytes) = false
is_at_root (Truncate path size) = false
is_at_root (Read path offset count) = false
is_at_root (Tell path) = false
is_at_root (Show path) = false
is_at_root Df = false

-- the first fault of the walks, or that of the root
abbrev pub refusal_of_walks : Tree → Command → Option Refusal
refusal_of_walks T c = first (walk_faults T c ++ at Root (is_at_root c) ∷ [])

-- all nodes, or exactly those of these inodes
abbrev pub AreNamedBy : Tree → Command → NamedNodes → Type 0
AreNamedBy T c All = names_all c ≡ true
AreNamedBy T c (These inodes) = (names_all c ≡ false) × ((i : ℕ) → Contains inodes (Some i) ↔ (names_inode T c i ≡ true))

-- what the command names beside whatever calls run, or the refusal of its walks
abbrev pub IsNamedOrRefused : VolumeView → DeviceView → Command → Result NamedNodes Refusal → Type 0
IsNamedOrRefused volume device command result =
    (state : State) (residue : Residue) → StandsBeside volume device state residue → MatchResult result
    (λ named. (refusal_of_walks state.tree command ≡ None) × AreNamedBy state.tree command named)
    (λ refusal. refusal_of_walks state.tree command ≡ Some refusal)
