use Rattle.std.proofs.Common.{◌∙◌, sym, ap}
use Rattle.volume.specs.Volume.{VolumeView}
use Rattle.schedules.proofs.Ends.{takes_done, takes_faulted, takes_cut}
use Rattle.schedules.proofs.running.take_turns.Goals as goal

pub returns-in-Err-clause-takes : goal.returns-in-Err-clause-takes
returns-in-Err-clause-takes g c calls history first = takes_cut first c.requires.lines c.in-Err.field-0 (c.in-Err.ensures.takes calls history first)

pub returns-then-stopped-clause-takes : goal.returns-then-stopped-clause-takes
returns-then-stopped-clause-takes g c calls history first =
    takes_faulted first c.requires.lines c.in-Ok.field-0 (c.in-Ok.ensures.takes calls history first)
    (ap (λ (volume : VolumeView). volume.stopped) (sym c.volume.ensures) ∙ sym c.stopped.ensures ∙ c.if-stopped.true)

pub returns-else-stopped-clause-takes : goal.returns-else-stopped-clause-takes
returns-else-stopped-clause-takes g c calls history first =
    takes_done first c.requires.lines c.in-Ok.field-0 (c.in-Ok.ensures.takes calls history first)
    (ap (λ (volume : VolumeView). volume.stopped) (sym c.volume.ensures) ∙ sym c.stopped.ensures ∙ c.if-stopped.false)
