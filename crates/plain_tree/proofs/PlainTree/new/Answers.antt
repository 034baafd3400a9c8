-- The fresh state is a state of any volume.
use Rattle.tree_model.proofs.PlainRuns.{IsVolumeState-fresh}
use Rattle.plain_tree.proofs.PlainTree.new.Goals as goal

pub invariant_of-result : goal.invariant_of-result
invariant_of-result c =
    rw (c.in_ok-tree.ensures, c.in_ok-room.ensures) (IsVolumeState-fresh c.args.geometry.pages c.args.geometry.volume_size)
