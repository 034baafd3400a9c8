use Rattle.rename_ptr.proofs.Stepping
use Rattle.rename_ptr.proofs.rename.make_step.Goals as goal

pub gone_pages-pages-requires : goal.gone_pages-pages-requires
gone_pages-pages-requires g c = record { in_range = Stepping.loss_in_index c.args.volume.now (g.P.Pm.view c.args.pm.now) c.args.moving.now c.args.progress c.requires.stands }

pub take_step-requires-clause-at : goal.take_step-requires-clause-at
take_step-requires-clause-at g c = Stepping.at_as c.args.volume.now (g.P.Pm.view c.args.pm.now) c.args.moving.now c.args.progress c.requires.stands c.geometry-geometry.ensures c.gone_pages-pages.ensures

pub take_step-requires-clause-begins : goal.take_step-requires-clause-begins
take_step-requires-clause-begins g c = Stepping.fence_as c.args.volume.now (g.P.Pm.view c.args.pm.now) c.args.moving.now c.args.progress c.requires.stands c.geometry-geometry.ensures c.gone_pages-pages.ensures c.requires.begins

pub returns : goal.returns
returns g c = record { takes = Stepping.takes_as c.args.volume.now (g.P.Pm.view c.args.pm.now) c.args.moving.now c.args.progress c.requires.stands c.geometry-geometry.ensures c.gone_pages-pages.ensures c.take_step.ensures.takes }
