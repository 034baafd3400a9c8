-- The commit of a rename leaves a state that the step allows.
use Rattle.std.proofs.Common.{refl}
use Rattle.image_laws.proofs.Meaning.{same_itself}
use Rattle.image_laws.proofs.MoveRoom.{move_room_law}
use Rattle.rename_laws.proofs.MovedNames as here
use Rattle.rename_laws.proofs.MovedStep.{move_stepped}
use Rattle.image_laws.specs.Move.{moved}
use Rattle.moving_laws.specs.Moving.{MovedStateLaw}

pub moved_state_law : MovedStateLaw
moved_state_law P W I old pa pb from to s x d n target rising ready paths reads fills =
    let c = ready.can_move in
    move_stepped P W I (moved P I s d) old pa pb from to s x d n target rising ready (record {
      means = same_itself P (moved P I s d) (here.after P I pa pb s d c).coherent;
      kinds = λ y r. refl;
      room = move_room_law P I pa pb s d c;
    }) paths reads fills
