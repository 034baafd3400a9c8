use Rattle.std.proofs.Common.{refl}
use Rattle.pm_trait.proofs.Unfolding.{then, failed, last}
use Rattle.recovery.proofs.Course.{begins_first, begins_second, begins_third, begins_fourth, repaired}
use Rattle.recovery.proofs.Objects.{left_there, pointer_there, has_objects}
use Rattle.recovery.proofs.recover.repair.Goals as goal

pub clear_word-requires-clause-ready : goal.clear_word-requires-clause-ready
clear_word-requires-clause-ready g c = record { one = refl; there = left_there c.args.repairs (g.P.Pm.view c.args.pm.now).words c.requires.sound.coherent c.requires.planned }

pub clear_word-requires-clause-begins : goal.clear_word-requires-clause-begins
clear_word-requires-clause-begins g c = begins_first c.args.repairs c.requires.sound c.requires.settled c.requires.room c.requires.countable

pub clear_word-requires-2-clause-ready : goal.clear_word-requires-2-clause-ready
clear_word-requires-2-clause-ready g c = record { one = refl; there = pointer_there c.args.repairs (g.P.Pm.view c.args.pm.now).words c.requires.sound.coherent c.requires.planned }

pub clear_word-requires-2-clause-begins : goal.clear_word-requires-2-clause-begins
clear_word-requires-2-clause-begins g c = begins_second c.args.repairs c.requires.sound c.requires.settled c.requires.room c.requires.countable (g.P.Pm.view c.clear_word.new.pm) c.in_ok-clear_word.ensures.takes

pub clear_objects-requires-clause-ready : goal.clear_objects-requires-clause-ready
clear_objects-requires-clause-ready g c = has_objects c.args.repairs (g.P.Pm.view c.args.pm.now).words c.requires.sound.coherent c.requires.planned

pub clear_objects-requires-clause-begins : goal.clear_objects-requires-clause-begins
clear_objects-requires-clause-begins g c = begins_third c.args.repairs c.requires.sound c.requires.settled c.requires.room c.requires.countable (g.P.Pm.view c.clear_word.new.pm) c.in_ok-clear_word.ensures.takes (g.P.Pm.view c.clear_word-2.new.pm) c.in_ok-clear_word-2.ensures.takes

pub free_objects-requires-clause-ready : goal.free_objects-requires-clause-ready
free_objects-requires-clause-ready g c = has_objects c.args.repairs (g.P.Pm.view c.args.pm.now).words c.requires.sound.coherent c.requires.planned

pub free_objects-requires-clause-begins : goal.free_objects-requires-clause-begins
free_objects-requires-clause-begins g c = begins_fourth c.args.repairs c.requires.sound c.requires.settled c.requires.room c.requires.countable (g.P.Pm.view c.clear_word.new.pm) c.in_ok-clear_word.ensures.takes (g.P.Pm.view c.clear_word-2.new.pm) c.in_ok-clear_word-2.ensures.takes (g.P.Pm.view c.clear_objects.new.pm) c.in_ok-clear_objects.ensures.takes

pub returns-in_err-clear_word : goal.returns-in_err-clear_word
returns-in_err-clear_word g c =
    let made = failed c.from_residual.result c.from_residual.ensures.0 c.in_err-clear_word.ensures.takes in
    let told = repaired c.args.repairs c.requires.sound c.requires.planned c.requires.settled made in
    record { in_turn = made; any_moment = told.any_moment; mended = told.mended; device = told.device; beside = told.beside; quiet = told.quiet }

pub returns-in_err-clear_word-2 : goal.returns-in_err-clear_word-2
returns-in_err-clear_word-2 g c =
    let made = then c.in_ok-clear_word.ensures.takes (failed c.from_residual-in_err-clear_word-2.result c.from_residual-in_err-clear_word-2.ensures.0 c.in_err-clear_word-2.ensures.takes) in
    let told = repaired c.args.repairs c.requires.sound c.requires.planned c.requires.settled made in
    record { in_turn = made; any_moment = told.any_moment; mended = told.mended; device = told.device; beside = told.beside; quiet = told.quiet }

pub returns-in_err-clear_objects : goal.returns-in_err-clear_objects
returns-in_err-clear_objects g c =
    let made = then c.in_ok-clear_word.ensures.takes (then c.in_ok-clear_word-2.ensures.takes (failed c.from_residual-in_err-clear_objects.result c.from_residual-in_err-clear_objects.ensures.0 c.in_err-clear_objects.ensures.takes)) in
    let told = repaired c.args.repairs c.requires.sound c.requires.planned c.requires.settled made in
    record { in_turn = made; any_moment = told.any_moment; mended = told.mended; device = told.device; beside = told.beside; quiet = told.quiet }

pub returns : goal.returns
returns g c =
    let made = then c.in_ok-clear_word.ensures.takes (then c.in_ok-clear_word-2.ensures.takes (then c.in_ok-clear_objects.ensures.takes (last c.free_objects.result c.free_objects.ensures.takes))) in
    let told = repaired c.args.repairs c.requires.sound c.requires.planned c.requires.settled made in
    record { in_turn = made; any_moment = told.any_moment; mended = told.mended; device = told.device; beside = told.beside; quiet = told.quiet }
