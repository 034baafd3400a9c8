use Rattle.std.proofs.Common.{subst, arith}
use Rattle.command_line.specs.Wanted.{Wants}
use Rattle.command_line.specs.declared.wanted.Wanted.{Wanted}
use Rattle.command_line.proofs.Ranges.{mkfs_size}
use Rattle.squirrel.proofs.device.device_for.Goals as goal

pub make-requires : goal.make-requires
make-requires g c =
    let (asked, image) = subst (λ (wanted : Wanted). Wants c.args.words.now wanted) c.in-Make.is c.in_ok-device_of.ensures in
    let size = mkfs_size c.args.words.now c.in-Make.pages asked in
    omega (arith, size)
