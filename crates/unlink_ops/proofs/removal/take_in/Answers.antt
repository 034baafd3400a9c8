use Rattle.unlink_ops.proofs.Passing.{goes_given}
use Rattle.unlink_ops.proofs.removal.take_in.Goals as goal

pub give_inode-requires : goal.give_inode-requires
give_inode-requires c = record { may_go = goes_given c.args.volume.now c.give_page.new.self c.args.removal.now c.requires.losses c.give_page.ensures }
