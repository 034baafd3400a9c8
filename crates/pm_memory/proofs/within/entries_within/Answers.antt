use Rattle.std.proofs.Common.{◌≡◌, ◌+◌, ◌-◌, get_or, length, arith}
use Rattle.pm_memory.proofs.Kept.{blank}
use Rattle.pm_memory.proofs.Alike.{goes_on, stops, ends}
use Rattle.pm_memory.proofs.within.entries_within.Goals as goal

pub returns-then-left-entry-clause-alike : goal.returns-then-left-entry-clause-alike
returns-then-left-entry-clause-alike c =
    stops c.args.entries.now c.args.moment c.loop-i.i c.loop-i.left blank c.loop-i-test.true c.if-left-entry.true c.loop-i.invariant

pub loop-i-preserved : goal.loop-i-preserved
loop-i-preserved c =
    goes_on c.args.entries.now c.args.moment c.loop-i.i c.loop-i.left blank (c.loop-i.left - ((get_or c.args.entries.now c.loop-i.i blank).acks + 1)) c.loop-i-test.true c.if-left-entry.false (omega arith) c.loop-i.invariant

pub returns-clause-alike : goal.returns-clause-alike
returns-clause-alike c =
    let end : c.loop-i.i ≡ length c.args.entries.now = omega (arith, c.loop-i-test.false, c.loop-i.auto.i-end) in
    λ acks. rw (← end) (ends c.args.entries.now c.args.moment c.loop-i.i c.loop-i.left end c.loop-i.invariant acks)
