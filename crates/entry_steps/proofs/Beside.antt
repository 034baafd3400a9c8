-- No step of a new name stores to the superblock.
use Rattle.std.proofs.Common.{ℕ, List, ◌++◌, Option, Some, None}
use Rattle.pm_trait.specs.Unfolds.{Step, KeepsWords, AllKeep}
use Rattle.layout.specs.Superblock.{IsSuperblockWord}
use Rattle.image_laws.proofs.Beside.{named_page_keeps, owned_keeps, committed_keeps}
use Rattle.entry_steps.specs.Steps.{first_slot, filling_named, owning, claim_steps, naming}

pub filling_named_keeps : (P page : ℕ) (name words next : List ℕ) → (filling_named P page name).Makes words next → KeepsWords IsSuperblockWord words next
filling_named_keeps P page name words next makes = named_page_keeps P words next page (first_slot page) name makes

pub owning_keeps : (P page directory : ℕ) (words next : List ℕ) → (owning P page directory).Makes words next → KeepsWords IsSuperblockWord words next
owning_keeps P page directory words next makes = owned_keeps P words next page directory makes

pub naming_keeps : (P slot inode : ℕ) (words next : List ℕ) → (naming P slot inode).Makes words next → KeepsWords IsSuperblockWord words next
naming_keeps P slot inode words next makes = committed_keeps P words next slot inode makes

-- nor does that of a page's owner, where there is one, or a later one
pub claim_keep : (P directory : ℕ) (page : Option ℕ) (later : List Step) → AllKeep IsSuperblockWord later → AllKeep IsSuperblockWord (claim_steps P directory page ++ later)
claim_keep P directory None later all = all
claim_keep P directory (Some page) later all = (owning_keeps P page directory, all)
