use Rattle.std.proofs.Common.{ℕ, List, sym, subst}
use Rattle.volume.specs.Costs.{commit_events}
use Rattle.volume.specs.Entered.{MayPutName}
use Rattle.entry_steps.proofs.Keeping.{name_still, place_still}
use Rattle.unlink_ops.proofs.LinkStands.{same_index}
use Rattle.unlink_ops.proofs.link.commit.Goals as goal

pub put_name-requires-clause-may_put : goal.put_name-requires-clause-may_put
put_name-requires-clause-may_put g c =
    let link = c.args.link.now in
    let same = same_index commit_events c.in_ok-settle.ensures.same c.settle.ensures.volume in
    subst (λ (name : List ℕ). MayPutName c.settle.new.volume link.directory name) (sym c.copied.ensures) (name_still c.args.volume.now c.settle.new.volume same link.directory link.name c.requires.stands.name)

pub put_name-requires-clause-reserved : goal.put_name-requires-clause-reserved
put_name-requires-clause-reserved g c =
    let link = c.args.link.now in
    let same = same_index commit_events c.in_ok-settle.ensures.same c.settle.ensures.volume in
    place_still c.args.volume.now c.settle.new.volume same link.directory link.new_page c.requires.stands.place
