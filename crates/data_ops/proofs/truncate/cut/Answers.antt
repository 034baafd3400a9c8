use Rattle.std.proofs.Common.{sym, ◌∙◌}
use Rattle.volatile_index.specs.Index.{pages_of}
use Rattle.volume.specs.Stages.{next_by}
use Rattle.entry_steps.proofs.Keeping.{settled}
use Rattle.data_ops.specs.declared.truncate.Stage.TheVariants.{Cutting}
use Rattle.data_ops.proofs.Cuts.{long, may_lose, cut_stands_as}
use Rattle.data_ops.proofs.truncate.cut.Goals as goal

pub enter_cut-requires : goal.enter_cut-requires
enter_cut-requires g c =
    let done = sym c.settle.ensures.same ∙ c.in_ok-settle.was in
    record { may = may_lose c.args.volume.now c.settle.new.volume _ (settled _ (sym done) c.settle.ensures.volume) c.requires.stands.at.2 }

pub returns-clause-stage : goal.returns-clause-stage
returns-clause-stage g c =
    let volume = c.args.volume.now in
    let device = g.P.Pm.view c.args.pm.now in
    let resizing = c.args.resizing.now in
    let progress = c.args.progress.now in
    let done = sym c.settle.ensures.same ∙ c.in_ok-settle.was in
    let events = c.cut_events-events.ensures volume.size (pages_of volume.index resizing.inode) (long volume device resizing progress c.requires.stands) in
    cut_stands_as volume c.settle.new.volume c.enter_cut.new.volume device (g.P.Pm.view c.cut_step-made.new.pm) resizing progress (next_by c.next_cut.result (Cutting resizing c.next_cut.new.progress)) c.geometry.ensures c.pages-pages.ensures done events c.geometry.result.now.volume_size
    c.requires.stands c.requires.begins.settled c.cut_step-made.ensures.takes (settled _ (sym done) c.settle.ensures.volume) c.enter_cut.ensures c.next_cut.ensures
