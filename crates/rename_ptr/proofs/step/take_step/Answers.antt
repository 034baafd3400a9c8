use Rattle.std.proofs.Common.{subst}
use Rattle.layout.specs.Name.{IsName, IsBytes}
use Rattle.rename_ptr.specs.declared.rename.Progress.TheVariants.{Begun, Filled, Opened, Pointed, Moved, Left, Cleared, Disowned}
use Rattle.rename_ptr.proofs.Standing.{at_as, may_take, can_point_first, can_own, can_point, can_take, can_leave, can_clear, can_disown, can_free}
use Rattle.rename_ptr.proofs.step.take_step.Goals as goal

pub fill_or_point-requires-clause-page : goal.fill_or_point-requires-clause-page
fill_or_point-requires-clause-page g c =
    let P = c.args.geometry.now.pages in
    let I = (g.P.Pm.view c.args.pm.now).words in
    let name = c.as_slice-bytes.ensures in
    may_take P I c.args.moving.now c.args.pages.now (subst IsName name.bytes name.name) (subst IsBytes name.bytes name.of_bytes) (at_as P I c.args.moving.now c.args.pages.now c.args.progress Begun c.in-Begun.is c.requires.at)

pub fill_or_point-requires-clause-ready : goal.fill_or_point-requires-clause-ready
fill_or_point-requires-clause-ready g c =
    let P = c.args.geometry.now.pages in
    let I = (g.P.Pm.view c.args.pm.now).words in
    let name = c.as_slice-bytes.ensures in
    can_point_first P I c.args.moving.now c.args.pages.now (subst IsName name.bytes name.name) (subst IsBytes name.bytes name.of_bytes) (at_as P I c.args.moving.now c.args.pages.now c.args.progress Begun c.in-Begun.is c.requires.at)

pub own_page-requires-clause-ready : goal.own_page-requires-clause-ready
own_page-requires-clause-ready g c =
    let P = c.args.geometry.now.pages in
    let I = (g.P.Pm.view c.args.pm.now).words in
    let name = c.as_slice-bytes.ensures in
    can_own P I c.args.moving.now c.args.pages.now (subst IsName name.bytes name.name) (subst IsBytes name.bytes name.of_bytes) (at_as P I c.args.moving.now c.args.pages.now c.args.progress Filled c.in-Filled.is c.requires.at)

pub point-requires-clause-ready : goal.point-requires-clause-ready
point-requires-clause-ready g c =
    let P = c.args.geometry.now.pages in
    let I = (g.P.Pm.view c.args.pm.now).words in
    let name = c.as_slice-bytes.ensures in
    can_point P I c.args.moving.now c.args.pages.now (subst IsName name.bytes name.name) (subst IsBytes name.bytes name.of_bytes) (at_as P I c.args.moving.now c.args.pages.now c.args.progress Opened c.in-Opened.is c.requires.at)

pub take_number-requires-clause-ready : goal.take_number-requires-clause-ready
take_number-requires-clause-ready g c =
    let P = c.args.geometry.now.pages in
    let I = (g.P.Pm.view c.args.pm.now).words in
    let name = c.as_slice-bytes.ensures in
    can_take P I c.args.moving.now c.args.pages.now (subst IsName name.bytes name.name) (subst IsBytes name.bytes name.of_bytes) (at_as P I c.args.moving.now c.args.pages.now c.args.progress Pointed c.in-Pointed.is c.requires.at)

pub leave_number-requires-clause-ready : goal.leave_number-requires-clause-ready
leave_number-requires-clause-ready g c =
    let P = c.args.geometry.now.pages in
    let I = (g.P.Pm.view c.args.pm.now).words in
    let name = c.as_slice-bytes.ensures in
    can_leave P I c.args.moving.now c.args.pages.now (subst IsName name.bytes name.name) (subst IsBytes name.bytes name.of_bytes) (at_as P I c.args.moving.now c.args.pages.now c.args.progress Moved c.in-Moved.is c.requires.at)

pub clear_source-requires-clause-ready : goal.clear_source-requires-clause-ready
clear_source-requires-clause-ready g c =
    let P = c.args.geometry.now.pages in
    let I = (g.P.Pm.view c.args.pm.now).words in
    let name = c.as_slice-bytes.ensures in
    can_clear P I c.args.moving.now c.args.pages.now (subst IsName name.bytes name.name) (subst IsBytes name.bytes name.of_bytes) (at_as P I c.args.moving.now c.args.pages.now c.args.progress Left c.in-Left.is c.requires.at)

pub disown-requires-clause-ready : goal.disown-requires-clause-ready
disown-requires-clause-ready g c =
    let P = c.args.geometry.now.pages in
    let I = (g.P.Pm.view c.args.pm.now).words in
    let name = c.as_slice-bytes.ensures in
    can_disown P I c.args.moving.now c.args.pages.now (subst IsName name.bytes name.name) (subst IsBytes name.bytes name.of_bytes) (at_as P I c.args.moving.now c.args.pages.now c.args.progress Cleared c.in-Cleared.is c.requires.at)

pub clear_rest-requires-clause-ready : goal.clear_rest-requires-clause-ready
clear_rest-requires-clause-ready g c =
    let P = c.args.geometry.now.pages in
    let I = (g.P.Pm.view c.args.pm.now).words in
    let name = c.as_slice-bytes.ensures in
    can_free P I c.args.moving.now c.args.pages.now (subst IsName name.bytes name.name) (subst IsBytes name.bytes name.of_bytes) (at_as P I c.args.moving.now c.args.pages.now c.args.progress Disowned c.in-Disowned.is c.requires.at)
