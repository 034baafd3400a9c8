use Rattle.std.proofs.Common.{List, ℕ, sym, subst}
use Rattle.volume.specs.Entered.{MayPutName}
use Rattle.volume.proofs.MayStill.{may_put_left}
use Rattle.rename_ptr.specs.Stages.{HasPlaceFor}
use Rattle.rename_ptr.proofs.enter.move_name.Goals as goal

pub put_name-requires-clause-may_put : goal.put_name-requires-clause-may_put
put_name-requires-clause-may_put c =
    let m = c.args.moving.now in
    let old = c.args.volume.now in
    let place = subst (HasPlaceFor old m) c.in-None.is c.requires.names.target in
    subst (λ (name : List ℕ). MayPutName c.remove_name.new.self m.to_directory name) (sym c.copied.ensures)
    (may_put_left old c.remove_name.new.self m.from_directory m.from_name c.remove_name.ensures m.to_directory m.to_name place.0)
