use Rattle.rename_ptr.proofs.Known.{may_give_lost}
use Rattle.rename_ptr.proofs.enter.give_back.Goals as goal

pub give_page-requires-clause-may_give : goal.give_page-requires-clause-may_give
give_page-requires-clause-may_give c = may_give_lost c.args.volume.now c.give_node.new.volume c.args.moving.now c.requires.losses c.give_node.ensures
