-- Which nodes two calls name both.
use Rattle.std.specs.Prelude.{◌≡◌, ℕ, ◌≤◌, nat_le, if◌then◌else◌, List, Option, None, Some}
use Rattle.volume.specs.declared.named.NamedNodes.{NamedNodes}
use Rattle.session_laws.specs.Calls.{IsNamed}
use Rattle.sessions.specs.Tasks.{task_in}
use Rattle.sessions.specs.declared.going.InTheWay.{InTheWay}
use Rattle.sessions.specs.declared.task.Task.{Task}

-- ---- of two calls

pub record AreBothNamed (one other : NamedNodes) (inode : ℕ) : Type 0 where
  pub named : IsNamed one inode
  pub named_too : IsNamed other inode

abbrev pub AreNoneOfBoth : NamedNodes → NamedNodes → Type 0
AreNoneOfBoth one other = (inode : ℕ) → ¬ AreBothNamed one other inode

-- the least inode that both name
pub record IsLeastOfBoth (one other : NamedNodes) (inode : ℕ) : Type 0 where
  pub both : AreBothNamed one other inode
  pub least : (i : ℕ) → AreBothNamed one other i → inode ≤ i

-- ---- of a command and running calls

-- a session runs a call of this number that names the inode too
pub record IsInTheWayOf (tasks : List (Option Task)) (named : NamedNodes) (inode holder : ℕ) : Type 0 where
  pub session : ℕ
  pub task : Task
  pub runs : task_in tasks session ≡ Some task
  pub holder_is : task.number ≡ holder
  pub both : AreBothNamed named task.named inode

abbrev pub AreNoneInTheWay : List (Option Task) → NamedNodes → Type 0
AreNoneInTheWay tasks named = (inode holder : ℕ) → ¬ IsInTheWayOf tasks named inode holder

-- the one with the least inode
pub record IsLeastInTheWay (tasks : List (Option Task)) (named : NamedNodes) (way : InTheWay) : Type 0 where
  pub in_the_way : IsInTheWayOf tasks named way.inode way.holder
  pub least : (inode holder : ℕ) → IsInTheWayOf tasks named inode holder → way.inode ≤ inode

-- what was found, or this inode where it is less
abbrev pub nearer_of : Option InTheWay → Option ℕ → ℕ → Option InTheWay
nearer_of found None holder = found
nearer_of None (Some inode) holder = Some (record { inode = inode; holder = holder })
nearer_of (Some way) (Some inode) holder = if nat_le way.inode inode then Some way else Some (record { inode = inode; holder = holder })
