use Rattle.std.proofs.Common.{◌≡◌, ◌+◌, ◌<◌, true, [], ◌∷◌, length, sym, ap, subst, arith}
use Rattle.std.proofs.lemmas.List.{length-append}
use Rattle.std.proofs.lemmas.Option.{slice_get_within}
use Rattle.volume.proofs.LowestPages.{AreFreeBelow, one_more, one_left, lowest_listed}
use Rattle.volume.proofs.prepare.contents.lowest_numbers.Goals as goal

pub unreachable-requires : goal.unreachable-requires
unreachable-requires c =
    let fewer : length c.loop-number.numbers.items < c.args.count = omega (arith, c.loop-number.numbers.ok, c.len.ensures, c.loop-number-test.true) in
    one_left c.args.free.now c.loop-number.from c.args.count c.loop-number.numbers.items c.loop-number.invariant.listed fewer c.requires.enough (c.in_default.ensures {u = tt})

pub overflow_add-from : goal.overflow_add-from
overflow_add-from c =
    let within = slice_get_within c.args.free.now c.in-Some.number true c.in-Some.ensures.free in
    let few = c.requires.few in
    omega (arith, within, few)

pub loop-number-preserved : goal.loop-number-preserved
loop-number-preserved c =
    let fewer : length c.loop-number.numbers.items < c.args.count = omega (arith, c.loop-number.numbers.ok, c.len.ensures, c.loop-number-test.true) in
    let pushed = c.in_ok-push.ensures.items in
    let long = ap length pushed in
    let sum = length-append c.loop-number.numbers.items (c.in-Some.number ∷ []) in
    record {
      listed = subst (AreFreeBelow c.args.free.now (c.in-Some.number + 1)) (sym pushed) (one_more c.args.free.now c.loop-number.from c.in-Some.number c.loop-number.numbers.items c.loop-number.invariant.listed c.in-Some.ensures);
      few = omega (arith, long, sum, fewer);
    }

pub returns : goal.returns
returns c =
    let most = c.loop-number.invariant.few in
    let all : length c.loop-number.numbers.items ≡ c.args.count = omega (arith, c.loop-number.numbers.ok, c.len.ensures, c.loop-number-test.false, most) in
    lowest_listed c.args.free.now c.loop-number.from c.args.count c.loop-number.numbers.items c.loop-number.invariant.listed all
