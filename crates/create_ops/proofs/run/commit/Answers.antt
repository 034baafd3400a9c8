use Rattle.std.proofs.Common.{ℕ, List, sym, ap, subst}
use Rattle.volume.specs.Volume.{VolumeView}
use Rattle.volume.specs.Entered.{MayPutName}
use Rattle.volume.specs.Costs.{commit_events}
use Rattle.entry_steps.proofs.Keeping.{settled, name_still}
use Rattle.create_ops.proofs.run.commit.Goals as goal

pub put_name-requires-clause-may_put : goal.put_name-requires-clause-may_put
put_name-requires-clause-may_put g c =
    let paid = settled commit_events c.in_ok-settle.ensures.same c.in_ok-settle.ensures.volume in
    subst (λ (name : List ℕ). MayPutName c.settle.new.volume c.args.entry.now.directory name) (sym c.copied.ensures)
    (name_still c.args.volume.now c.settle.new.volume (ap (λ (v : VolumeView). v.index) {x = c.settle.new.volume} paid) c.args.entry.now.directory c.args.entry.now.name c.requires.stands.name)
