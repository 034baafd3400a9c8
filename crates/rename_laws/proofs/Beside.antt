-- What a step of a rename makes leaves the words of the superblock as they are.
use Rattle.std.proofs.Common.{ℕ, ◌+◌, List, Option, Some, None}
use Rattle.pm_trait.specs.Unfolds.{KeepsWords}
use Rattle.layout.specs.Superblock.{IsSuperblockWord}
use Rattle.image_laws.specs.Links.{IsLinkWord}
use Rattle.image_laws.proofs.Addresses.{head-ne_inode, head-ne_slot}
use Rattle.image_laws.proofs.Beside.{words_keep}
use Rattle.rename_laws.specs.Intervals.{ClearsSource}
use Rattle.rename_laws.specs.Ready.{IsNewNameWord, PointsAt}
use Rattle.rename_laws.specs.Target.{Target, Vacant, Opened, Taken}

low_not_link : (links : Option ℕ) (a : ℕ) → IsSuperblockWord a → ¬ IsLinkWord links a
low_not_link None a low = λ none. none
low_not_link (Some y) a low = head-ne_inode y 1 a low

low_not_name : (P d : ℕ) (target : Target) (a : ℕ) → IsSuperblockWord a → ¬ IsNewNameWord P d target a
low_not_name P d (Vacant name) a low = λ (k, few, is). head-ne_slot P d (2 + k) a low is
low_not_name P d (Opened j name) a low = λ none. none
low_not_name P d (Taken r) a low = λ none. none

pub points_keeps : (P : ℕ) (I J : List ℕ) (s d : ℕ) (target : Target) (rising : Option ℕ) → PointsAt P I J s d target rising → KeepsWords IsSuperblockWord I J
points_keeps P I J s d target rising points = words_keep I J (λ a low. points.others a (head-ne_slot P d 1 a low) (low_not_name P d target a low) (low_not_link rising a low))

pub source_keeps : (P : ℕ) (I J : List ℕ) (s d : ℕ) (falling : Option ℕ) → ClearsSource P I J s d falling → KeepsWords IsSuperblockWord I J
source_keeps P I J s d falling clears = words_keep I J (λ a low. clears.others a (head-ne_slot P d 1 a low) (λ f least few. head-ne_slot P s f a low) (low_not_link falling a low))
