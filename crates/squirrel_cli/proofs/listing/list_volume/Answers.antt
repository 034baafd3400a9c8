use Rattle.std.proofs.Common.{refl}
use Rattle.squirrel_cli.specs.GoingOn.{ListsOn}
use Rattle.squirrel_cli.specs.Seen.{seen_alone}
use Rattle.squirrel_cli.specs.Tells.{HasListed}
use Rattle.squirrel_cli.proofs.Closing.{lists_entry}
use Rattle.squirrel_cli.proofs.Mounted.{cause_entry, goes_on, mounted_row, settled_entry}
use Rattle.squirrel_cli.proofs.Refusals.{refused_cause, refused_row, refused_settled}
use Rattle.squirrel_cli.proofs.listing.list_volume.Goals as goal

pub list_tree-requires : goal.list_tree-requires
list_tree-requires g c = record { goes_on = goes_on c.in-Ok.ensures.answers c.requires.start }

pub returns-in-Ok-clause-lists : goal.returns-in-Ok-clause-lists
returns-in-Ok-clause-lists g c =
    let mount = c.in-Ok.ensures.answers in
    let old = seen_alone g.K.Sink (g.P.Pm.view c.args.pm.now) c.args.out.now in
    let new = seen_alone g.K.Sink (g.P.Pm.view c.list_tree.new.pm) c.list_tree.new.out in
    mounted_row old new mount (ListsOn c.in-Ok.volume) HasListed c.list_tree.result c.list_tree.ensures.leaves c.list_tree.ensures.lists (λ lists. lists_entry old new mount lists)

pub returns-in-Ok-clause-cause : goal.returns-in-Ok-clause-cause
returns-in-Ok-clause-cause g c =
    cause_entry (seen_alone g.K.Sink (g.P.Pm.view c.args.pm.now) c.args.out.now)
    (seen_alone g.K.Sink (g.P.Pm.view c.list_tree.new.pm) c.list_tree.new.out) c.in-Ok.ensures.answers c.list_tree.ensures.cause

pub returns-in-Ok-clause-settled : goal.returns-in-Ok-clause-settled
returns-in-Ok-clause-settled g c =
    settled_entry (seen_alone g.K.Sink (g.P.Pm.view c.args.pm.now) c.args.out.now)
    (seen_alone g.K.Sink (g.P.Pm.view c.list_tree.new.pm) c.list_tree.new.out) c.in-Ok.ensures.answers c.list_tree.ensures.leaves

pub returns-in-Err-clause-lists : goal.returns-in-Err-clause-lists
returns-in-Err-clause-lists g c =
    refused_row (seen_alone g.K.Sink (g.P.Pm.view c.args.pm.now) c.args.out.now) (seen_alone g.K.Sink (g.P.Pm.view c.mount.new.pm) c.refuse.new.out) HasListed c.in-Err.error c.in-Err.ensures.answers c.refuse.ensures.told refl c.refuse.ensures.unwritten

pub returns-in-Err-clause-cause : goal.returns-in-Err-clause-cause
returns-in-Err-clause-cause g c =
    refused_cause (seen_alone g.K.Sink (g.P.Pm.view c.args.pm.now) c.args.out.now) (seen_alone g.K.Sink (g.P.Pm.view c.mount.new.pm) c.refuse.new.out) c.in-Err.error c.in-Err.ensures.answers c.refuse.ensures.told c.refuse.ensures.cause refl

pub returns-in-Err-clause-settled : goal.returns-in-Err-clause-settled
returns-in-Err-clause-settled g c = refused_settled (g.P.Pm.view c.args.pm.now) (g.P.Pm.view c.mount.new.pm) c.in-Err.error c.in-Err.ensures.answers c.requires.start.settled
