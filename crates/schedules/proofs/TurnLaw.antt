-- Behind any turn all stands again, and a turn fewer may come.
use Rattle.std.proofs.Common.{inl, inr, ◌∙◌, ap}
use Rattle.std.proofs.lemmas.Bool.{cases_Bool}
use Rattle.volume.specs.Volume.{VolumeView}
use Rattle.schedules.specs.Laws.{TurnLaw}
use Rattle.schedules.proofs.GoingTurns.{going_taken}
use Rattle.schedules.proofs.HaltedTurns.{failed_taken, still_taken}

pub turn_law : TurnLaw
turn_law schedule count old turn border is_turn = elim (cases_Bool old.weave.volume.stopped) [
  | inl was ↦ still_taken schedule count old turn border is_turn (ap (λ (volume : VolumeView). volume.stopped) (is_turn.still was).still.volume ∙ was) was
  | inr was ↦ elim (cases_Bool turn.behind.weave.volume.stopped) [
    | inl is ↦ failed_taken schedule count old turn border is_turn is was
    | inr is ↦ going_taken schedule count old turn border is_turn was is
  ]
]
