-- The last words of a rename are tidy, and read as the tree with the path in its new place.
use Rattle.std.proofs.Common.{◌≡◌, ℕ, List, ◌∷◌, Option, sym, ap, ◌∙◌}
use Rattle.layout.specs.Fields.{slot_name}
use Rattle.tree_model.specs.PathText.{Route}
use Rattle.image_laws.proofs.MoveTree.{move_tree_law}
use Rattle.rename_laws.specs.End.{renamed, CommittedLaw, MovedTidyLaw, MovedReadsLaw}
use Rattle.rename_laws.specs.Intervals.{Finishes}
use Rattle.rename_laws.specs.Ready.{IsMoveReady}
use Rattle.rename_laws.specs.Target.{Target}
use Rattle.rename_laws.proofs.MoveIntervals as intervals
use Rattle.rename_laws.proofs.MoveNear as before
use Rattle.rename_laws.proofs.MoveTidy as ends
use Rattle.rename_laws.proofs.MoveTidy.{HasEnded}

-- the end, as the words before the commit tell of it
pub ended : (P : ℕ) (W I J G K : List ℕ) (pa pb : Route) (s x d : ℕ) (target : Target) (rising falling : Option ℕ) → IsMoveReady P W I pa pb s x d target rising
    → Finishes P W I J G K s x d target falling → HasEnded P I K s d
ended P W I J G K pa pb s x d target rising falling ready ends = intervals.has_ended P W I pa pb s x d target rising ready J G falling ends.given K ends.frees

pub tidy_law : MovedTidyLaw
tidy_law P W I J G K pa pb s x d target rising falling ready finishes =
    ends.tidy P I K pa pb s d ready.can_move (before.near P W I pa pb s x d target rising ready) (ended P W I J G K pa pb s x d target rising falling ready finishes)

pub committed_law : CommittedLaw
committed_law P W I pa pb from to s x d target rising T ready paths reads =
    let source : slot_name P I s ≡ slot_name P W s = before.source_name P W I pa pb s x d target rising ready in
    move_tree_law P I pa pb from to s d T ready.can_move (paths.from_is ∙ ap (λ n. n ∷ pa) (sym source)) (paths.to_is ∙ ap (λ n. n ∷ pb) (sym ready.name_is)) (ready.means.reads T reads)

pub reads_law : MovedReadsLaw
reads_law P W I J G K pa pb from to s x d target rising falling T ready finishes paths reads =
    (ended P W I J G K pa pb s x d target rising falling ready finishes).means.reads (renamed T from to) (committed_law P W I pa pb from to s x d target rising T ready paths reads)
