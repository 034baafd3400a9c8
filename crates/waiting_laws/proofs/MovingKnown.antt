-- What a volume knows whatever events it keeps, and behind a step of a move that commits nothing and isn't its last: its numbers are taken.
use Rattle.std.proofs.Common.{◌↔◌, ◌⊎◌, inl, inr, ℕ, ◌<◌, List, [], None, refl, sym, ◌∙◌}
use Rattle.layout.specs.Geometry.{data_pages_of}
use Rattle.image_reading.specs.Counts.{IsIn}
use Rattle.image_reading.specs.Residue.{Residue, IsTidyBeside}
use Rattle.image_reading.specs.Soundness.{IsCoherent}
use Rattle.image_counts.specs.Entries.{IsUnusedPage}
use Rattle.volume.specs.Volume.{VolumeView}
use Rattle.volume.specs.Beside.{KnowsBeside}
use Rattle.volume.specs.Entered.{TakesPages}
use Rattle.volume.proofs.Moments.{with_kept}
use Rattle.entry_steps.proofs.Facts.{is_in}
use Rattle.knowing_laws.specs.Knowing.{KeepsPagesBut, UsesNumbers}
use Rattle.knowing_laws.proofs.Quiet.{quiet_known_law}
use Rattle.waiting_laws.proofs.MovingQuiet.{IsQuietStep, step_means, keeps_entries, unused_same}

-- the volume knows what it knew, whatever events it keeps
pub knows_with : (volume : VolumeView) (kept : ℕ) (words : List ℕ) (residue : Residue) → KnowsBeside volume words residue → KnowsBeside (with_kept kept volume) words residue
knows_with volume kept words residue knows = record {
  whole = knows.whole;
  nodes = knows.nodes;
  each_inode = knows.each_inode;
  inodes = knows.inodes;
  each_page = knows.each_page;
  data_pages = knows.data_pages;
}

-- a page that is left is in use by its words
left_used : (P : ℕ) (Y : List ℕ) (residue : Residue) → IsTidyBeside P Y residue → (j : ℕ) → IsIn j residue.pages → ¬ IsUnusedPage P Y j
left_used P Y residue beside j among (owner, kind) = elim (beside.marks j among) [ inl owned ↦ owned owner | inr some ↦ some kind ]

module _ (P : ℕ) (X Y : List ℕ) (before after : Residue) (step : IsQuietStep P X Y before after) (taken : List ℕ) (tidy : IsTidyBeside P X before)
    (left : (j : ℕ) → IsIn j after.pages → IsIn j before.pages ⊎ IsIn j taken) (new : (j : ℕ) → IsIn j taken → IsIn j after.pages) where
  pages_kept : KeepsPagesBut P X Y before after []
  pages_kept = record {
    left = λ j out none among. out (step.within j among);
    owners = λ j low out none. step.paged.owner j low out;
    offsets = λ j low out none. step.paged.offset j low out;
  }

  other_unused : (j : ℕ) → j < data_pages_of P → ¬ IsIn j taken → IsUnusedPage P X j ↔ IsUnusedPage P Y j
  other_unused j low none = elim (is_in j after.pages) [
    | yes among ↦ elim (left j among) [
      | inl early ↦ ((λ free. absurd (left_used P X before tidy j early free)), (λ free. absurd (left_used P Y after step.beside j among free)))
      | inr late ↦ absurd (none late)
    ]
    | no out ↦ unused_same step.paged j low out
  ]

  uses_numbers : UsesNumbers P X Y [] taken
  uses_numbers = record {
    change = record {
      inodes_within = λ i none. absurd none;
      other_inodes = λ i least most out. let kind = step.kinds i least most in ((λ zero. kind ∙ zero), (λ zero. sym kind ∙ zero));
      other_pages = other_unused;
    };
    inodes_used = λ i none. absurd none;
    pages_used = λ j among. left_used P Y after step.beside j (new j among);
  }

pub known_quiet : (old new : VolumeView) (X Y : List ℕ) (before after : Residue) (taken : List ℕ) → KnowsBeside old X before → IsCoherent old.size X → IsTidyBeside old.size X before → IsQuietStep old.size X Y before after
    → ((j : ℕ) → IsIn j after.pages → IsIn j before.pages ⊎ IsIn j taken) → ((j : ℕ) → IsIn j taken → IsIn j after.pages) → TakesPages old new taken → KnowsBeside new Y after
known_quiet old new X Y before after taken knows coherent tidy step left into takes =
    quiet_known_law old new new X Y before after None taken knows step.long (keeps_entries old.size X Y coherent (step_means step) step.entries)
    (pages_kept old.size X Y before after step taken tidy left into) (uses_numbers old.size X Y before after step taken tidy left into) takes refl
