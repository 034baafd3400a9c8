use Rattle.std.proofs.Common.{ℕ, List, inr, sym, subst}
use Rattle.image_reading.specs.Soundness.{pages_in_image}
use Rattle.image_reading.specs.Reading.{Reads}
use Rattle.squirrel_cli.specs.Ends.{IsMountable}
use Rattle.squirrel_cli.specs.declared.status.Status.TheVariants.{Done}
use Rattle.squirrel_cli.proofs.Mounted.{stands_for, stands_on, tree_of_start}
use Rattle.squirrel_cli.proofs.Refusals.{refused_memory, told_as, writes_tell}
use Rattle.squirrel_cli.proofs.ReplayRuns.{never_risen}
use Rattle.squirrel_cli.proofs.replaying.list_words.Goals as goal

pub write_left-requires-clause-stands : goal.write_left-requires-clause-stands
write_left-requires-clause-stands g c =
    let mount = c.in-Ok-mount.ensures.answers in
    stands_on c.in-Ok-start.ensures.volume (mount.only.start, mount.stands)

pub memory_alone-requires : goal.memory_alone-requires
memory_alone-requires g c = refused_memory c.in-Err.error _ _ (subst IsMountable (sym c.in-Ok.ensures.words) c.requires.mountable) never_risen c.in-Err.ensures.answers

pub returns-clause-lists : goal.returns-clause-lists
returns-clause-lists g c tree reads =
    let mount = c.in-Ok-mount.ensures.answers in
    let here = subst (λ (words : List ℕ). Reads (pages_in_image words) words tree) (sym c.in-Ok.ensures.words) reads in
    let written = c.write_left.ensures mount.only.start (stands_for c.in-Ok-start.ensures.volume mount.stands) in
    inr (tree_of_start c.args.acked mount here (told_as Done c.write_left.result written c.status_of_write.ensures))

pub returns-clause-cause : goal.returns-clause-cause
returns-clause-cause g c =
    let mount = c.in-Ok-mount.ensures.answers in
    let written = c.write_left.ensures mount.only.start (stands_for c.in-Ok-start.ensures.volume mount.stands) in
    writes_tell Done c.write_left.result written (λ e. cc e) c.status_of_write.ensures
