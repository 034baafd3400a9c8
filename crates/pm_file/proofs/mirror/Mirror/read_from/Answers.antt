use Rattle.std.proofs.Common.{arith}
use Rattle.pm_file.proofs.Rounds.{none_once, no_round}
use Rattle.pm_file.proofs.mirror.Mirror.read_from.Goals as goal

pub invariant_of-result-clause-past : goal.invariant_of-result-clause-past
invariant_of-result-clause-past g c = λ line. let none = no_round _ _ line c.requires.room.rounds in omega (arith, none)

pub invariant_of-result-clause-noted : goal.invariant_of-result-clause-noted
invariant_of-result-clause-noted g c = λ line first. let none = no_round _ _ line c.requires.room.rounds in absurd (omega (arith, none, first))

pub invariant_of-result-clause-once : goal.invariant_of-result-clause-once
invariant_of-result-clause-once g c = none_once _ c.requires.room.flushed
