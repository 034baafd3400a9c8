use Rattle.image_laws.specs.DropStep as steps
use Rattle.unlink_ops.proofs.removal.apply_unlink.Goals as goal

pub remove_name-requires-clause-planned : goal.remove_name-requires-clause-planned
remove_name-requires-clause-planned g c =
    let (state, path, plan) = c.requires.planned in
    (state, steps.file, path, plan)
