-- No step of a removal stores to the superblock.
use Rattle.std.proofs.Common.{◌≡◌, ℕ, Bool, true, List, Option}
use Rattle.pm_trait.specs.Unfolds.{KeepsWords}
use Rattle.layout.specs.Superblock.{IsSuperblockWord}
use Rattle.image_laws.proofs.Beside.{dropped_keeps, clears_keeps, gives_keeps, rest_keeps}
use Rattle.removal_steps.specs.Steps.{IsCut, unnaming, clearing, giving, freeing}

pub unnaming_keeps : (P slot : ℕ) (words next : List ℕ) → (unnaming P slot).Makes words next → KeepsWords IsSuperblockWord words next
unnaming_keeps P slot words next makes = dropped_keeps P words next slot makes

pub clearing_keeps : (P slot inode : ℕ) (words next : List ℕ) → (clearing P slot inode).Makes words next → KeepsWords IsSuperblockWord words next
clearing_keeps P slot inode words next makes = clears_keeps P words next slot inode makes

pub giving_keeps : (P : ℕ) (pages : List ℕ) (emptied : Option ℕ) (words next : List ℕ) → (giving P pages emptied).Makes words next → KeepsWords IsSuperblockWord words next
giving_keeps P pages emptied words next makes = gives_keeps P words next (IsCut pages emptied) makes

pub freeing_keeps : (P : ℕ) (pages : List ℕ) (emptied : Option ℕ) (goes : Bool) (inode : ℕ) (words next : List ℕ) → (freeing P pages emptied goes inode).Makes words next
    → KeepsWords IsSuperblockWord words next
freeing_keeps P pages emptied goes inode words next makes = rest_keeps P words next (IsCut pages emptied) (goes ≡ true) inode makes
