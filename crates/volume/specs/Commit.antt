-- On which words the reading of a command that crashed hangs.
use Rattle.std.specs.Prelude.{◌≡◌, ℕ, ◌≤◌, List, Option}
use Rattle.pm_trait.specs.Trail.{Trail}
use Rattle.pm_trait.specs.Device.{moment_of, MayLeave, Continues}
use Rattle.layout.specs.Fields.{word}
use Rattle.tree_model.specs.Tree.{Tree}
use Rattle.image_reading.specs.Reading.{Reads}

-- The new trail goes on from the old one. At each moment from the end of the old one to the end of the new one, all that a
-- crash may leave with one value of the commit word reads as one tree: no other word that was stored changes a reading, in
-- any mix.
pub record HangsOn (P : ℕ) (old new : Option Trail) (commit : ℕ) : Type 0 where
  pub continues : Continues old new
  pub each : (moment : ℕ) (image other : List ℕ) (tree : Tree) → moment_of old ≤ moment → moment ≤ moment_of new → MayLeave new moment image → MayLeave new moment other
      → word other commit ≡ word image commit → Reads P image tree → Reads P other tree

-- The same of several words: all that a crash may leave with equal commit words reads as one tree.
pub record HangsOnWords (P : ℕ) (old new : Option Trail) (IsCommit : ℕ → Type 0) : Type 0 where
  pub continues : Continues old new
  pub each : (moment : ℕ) (image other : List ℕ) (tree : Tree) → moment_of old ≤ moment → moment ≤ moment_of new → MayLeave new moment image → MayLeave new moment other
      → ((at : ℕ) → IsCommit at → word other at ≡ word image at) → Reads P image tree → Reads P other tree
