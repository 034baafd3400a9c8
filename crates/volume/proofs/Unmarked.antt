-- What a call leaves of a volume without the mark is sound where its words fit together.
use Rattle.std.proofs.Common.{◌≡◌, ℕ, false, List, ap, ◌∙◌, arith}
use Rattle.std.specs.Prelude.{Option, Result, ◌==◌}
use Rattle.pm_trait.specs.Device.{LeavesOnly}
use Rattle.pm_trait.specs.DeviceView.{DeviceView, IsSettledView}
use Rattle.pm_trait.specs.Unfolds.{Quietly, Step, Unfolds, KeepsWords, AllKeep}
use Rattle.pm_trait.proofs.Unfolding.{leaves_as, leaves_both, leaves_kept}
use Rattle.layout.specs.Superblock.{IsSuperblockWord, closed_mark, has_mark}
use Rattle.tree_model.specs.Tree.{Tree}
use Rattle.tree_model.specs.Run.{State}
use Rattle.tree_model.specs.Allowed.{Allowed}
use Rattle.tree_model.specs.declared.command.Command.{Command}
use Rattle.image_reading.specs.Reading.{Reads}
use Rattle.image_reading.specs.Soundness.{IsCoherent}
use Rattle.image_reading.proofs.Tidied.{unmarked_sound}
use Rattle.volume.specs.Crashes.{MayReadAs}

-- The image's words fit together, and it reads as a tree that a crash in this command may leave.
pub record ReadsAllowed (P : ℕ) (state : State) (command : Option Command) (image : List ℕ) : Type 0 where
  pub coherent : IsCoherent P image
  pub tree : Tree
  pub reads : Reads P image tree
  pub allowed : Allowed P state.tree state.room command tree

-- words with the same superblock have the same mark
pub same_mark : (I J : List ℕ) → KeepsWords IsSuperblockWord I J → has_mark J ≡ has_mark I
same_mark I J same = ap (λ (value : ℕ). value == closed_mark) (same 5 (omega arith))

pub may_read : (P : ℕ) (state : State) (command : Option Command) (image : List ℕ) → has_mark image ≡ false → ReadsAllowed P state command image → MayReadAs P state command image
may_read P state command image unmarked allowed = record { sound = unmarked_sound unmarked allowed.coherent; tree = allowed.tree; reads = allowed.reads; allowed = allowed.allowed }

-- so of what a crash leaves of steps that keep the superblock
pub moments_read : {T E : Type 0} {steps : List Step} {a c : DeviceView} {result : Result T E} (P : ℕ) (state : State) (command : Option Command) → IsSettledView a → has_mark a.words ≡ false → AllKeep IsSuperblockWord steps
    → Unfolds steps a c result → LeavesOnly a.trail c.trail (Quietly (ReadsAllowed P state command)) → LeavesOnly a.trail c.trail (Quietly (MayReadAs P state command))
moments_read {a = a} P state command settled unmarked keep made leaves =
    leaves_as (λ image (allowed, kept). may_read P state command image (same_mark a.words image kept ∙ unmarked) allowed)
    (leaves_both (ReadsAllowed P state command) (KeepsWords IsSuperblockWord a.words) leaves (leaves_kept IsSuperblockWord settled keep made))
