use Rattle.std.proofs.Common.{◌≤◌, ℕ, List, sym, ap, subst, ◌∙◌}
use Rattle.std.proofs.lemmas.Result.{err_from_is_err_and}
use Rattle.layout.specs.Fields.{slot_inode}
use Rattle.volatile_index.specs.Index.{inodes_of_index}
use Rattle.volume.specs.Volume.{VolumeView}
use Rattle.volume.specs.Beside.{StandsBeside}
use Rattle.volume.specs.Planned.{IsNameAt}
use Rattle.volume.proofs.Holders.{would_hold, in_entries}
use Rattle.volume.proofs.RemovalRows.{name_fails, name_absent, name_found, name_is}
use Rattle.volume.proofs.volume.Volume.name_at.Goals as goal

pub returns-in_err-last-clause-row : goal.returns-in_err-last-clause-row
returns-in_err-last-clause-row g c = λ state residue stands.
    let p = err_from_is_err_and c.from_residual.result c.from_residual.ensures.1 in
    rw (p.1, p.2) (name_fails c.args.self.now (g.P.Pm.view c.args.pm.now) state residue stands c.args.path.now _ (c.in_err-last.ensures.directory state residue stands))

pub find-requires-clause-from_one : goal.find-requires-clause-from_one
find-requires-clause-from_one g c =
    let (state, residue, stands) = c.requires.stands in
    let holder = would_hold state.tree c.args.path.now c.in_ok-last.field-0 c.in-Some.last (c.in_ok-last.ensures.directory state residue stands) c.in_ok-last.ensures.name c.in-Some.is in
    (in_entries c.args.self.now (g.P.Pm.view c.args.pm.now) state residue stands c.args.path.now _ _ holder).0

pub find-requires-clause-in_range : goal.find-requires-clause-in_range
find-requires-clause-in_range g c =
    let (state, residue, stands) = c.requires.stands in
    let holder = would_hold state.tree c.args.path.now c.in_ok-last.field-0 c.in-Some.last (c.in_ok-last.ensures.directory state residue stands) c.in_ok-last.ensures.name c.in-Some.is in
    let most = (in_entries c.args.self.now (g.P.Pm.view c.args.pm.now) state residue stands c.args.path.now _ _ holder).1 in
    subst (λ (volume : VolumeView). c.in-Some.last.directory ≤ inodes_of_index volume.index) (sym c.self.view_is) most

pub returns-in_default-find-clause-row : goal.returns-in_default-find-clause-row
returns-in_default-find-clause-row g c = λ state residue stands.
    let holder = would_hold state.tree c.args.path.now c.in_ok-last.field-0 c.in-Some.last (c.in_ok-last.ensures.directory state residue stands) c.in_ok-last.ensures.name c.in-Some.is in
    let at_inside = subst (λ (volume : VolumeView). StandsBeside volume (g.P.Pm.view c.args.pm.now) state residue) (sym c.self.view_is) stands in
    name_absent _ _ state residue at_inside c.args.path.now _ _ holder c.in_default-find.ensures.slot

pub slot_at-requires-clause-slot_in_range : goal.slot_at-requires-clause-slot_in_range
slot_at-requires-clause-slot_in_range g c =
    let (state, residue, stands) = c.requires.stands in
    let holder = would_hold state.tree c.args.path.now c.in_ok-last.field-0 c.in-Some.last (c.in_ok-last.ensures.directory state residue stands) c.in_ok-last.ensures.name c.in-Some.is in
    let at_inside = subst (λ (volume : VolumeView). StandsBeside volume (g.P.Pm.view c.args.pm.now) state residue) (sym c.self.view_is) stands in
    (name_is _ _ state residue at_inside c.args.path.now _ _ holder c.in-Some-find.slot c.in-Some-find.ensures.slot).slot_is.slot.live.held.in_range

pub returns-clause-row : goal.returns-clause-row
returns-clause-row g c = λ state residue stands.
    let holder = would_hold state.tree c.args.path.now c.in_ok-last.field-0 c.in-Some.last (c.in_ok-last.ensures.directory state residue stands) c.in_ok-last.ensures.name c.in-Some.is in
    let at_inside = subst (λ (volume : VolumeView). StandsBeside volume (g.P.Pm.view c.args.pm.now) state residue) (sym c.self.view_is) stands in
    name_found _ _ state residue at_inside c.args.path.now _ _ holder c.in-Some-find.slot c.in-Some-find.ensures.slot

pub returns-clause-named : goal.returns-clause-named
returns-clause-named g c = λ state residue stands.
    let holder = would_hold state.tree c.args.path.now c.in_ok-last.field-0 c.in-Some.last (c.in_ok-last.ensures.directory state residue stands) c.in_ok-last.ensures.name c.in-Some.is in
    let at_inside = subst (λ (volume : VolumeView). StandsBeside volume (g.P.Pm.view c.args.pm.now) state residue) (sym c.self.view_is) stands in
    let named = name_is _ _ state residue at_inside c.args.path.now _ _ holder c.in-Some-find.slot c.in-Some-find.ensures.slot in
    let inode = c.slot_at.ensures.inode ∙ ap (λ (words : List ℕ). slot_inode c.self.inside.geometry.pages words c.in-Some-find.slot) c.image.ensures in
    let at_slot = subst (IsNameAt c.self.inside.geometry.pages (g.P.Pm.view c.args.pm.now).words state c.args.path.now c.in-Some.last.directory c.in-Some.last.name c.in-Some-find.slot) (sym inode) named in
    subst (λ (volume : VolumeView). IsNameAt volume.size (g.P.Pm.view c.args.pm.now).words state c.args.path.now c.in-Some.last.directory c.in-Some.last.name c.in-Some-find.slot c.slot_at.result.inode) c.self.view_is at_slot
