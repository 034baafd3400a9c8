use Rattle.std.proofs.Common.{sym, subst}
use Rattle.mount_scan.specs.Mounting.{IsSound}
use Rattle.squirrel_cli.proofs.Leaving.{left_alone, left_again}
use Rattle.squirrel_cli.proofs.replaying.words_left.Goals as goal

pub returns-in_default : goal.returns-in_default
returns-in_default c =
    let whole = c.requires.sound c.args.place c.in_ok-image.image.items c.requires.in_range c.in_ok-image.ensures.crash_image in
    left_alone c.in_default.is c.in_ok-image.ensures.chosen c.in_ok-image.ensures.crash_image whole

pub returns-in-Ok : goal.returns-in-Ok
returns-in-Ok c =
    let whole = c.requires.sound c.args.place c.in_ok-image.image.items c.requires.in_range c.in_ok-image.ensures.crash_image in
    left_again c.in-Some.is c.as_slice.ensures.value c.in_ok-image.ensures.chosen c.in_ok-image.ensures.crash_image whole c.in-Ok.ensures.in_turn c.in-Ok.ensures.means

pub memory_alone-requires : goal.memory_alone-requires
memory_alone-requires c =
    let whole = c.requires.sound c.args.place c.in_ok-image.image.items c.requires.in_range c.in_ok-image.ensures.crash_image in
    c.in-Err.ensures.fails (subst IsSound (sym c.as_slice.ensures.value) whole)
