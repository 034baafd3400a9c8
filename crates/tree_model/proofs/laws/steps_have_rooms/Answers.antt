use Rattle.std.proofs.Common.{refl}
use Rattle.tree_model.specs.Capacity.{untaken}
use Rattle.tree_model.specs.Step.{least_free_id, refusal_of, refusal_with}
use Rattle.tree_model.proofs.PlainRuns.{room_after-is_there}
use Rattle.tree_model.proofs.laws.steps_have_rooms.Goals as goal

pub returns : goal.returns
returns c = record {
  rooms = λ volume T room c t fits. room_after-is_there (untaken volume) (least_free_id T) T room c (refusal_of volume T room c) refl t fits;
  rooms_with = λ supply id T room c t fits. room_after-is_there supply id T room c (refusal_with supply T room c) refl t fits;
}
