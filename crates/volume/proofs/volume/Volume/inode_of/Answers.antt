use Rattle.std.proofs.Common.{◌≤◌, ℕ, List, Some, sym, ap, subst, ◌∙◌}
use Rattle.layout.specs.Fields.{slot_inode}
use Rattle.image_reading.specs.Reading.{Reached}
use Rattle.volatile_index.specs.Index.{inodes_of_index}
use Rattle.volume.specs.Volume.{VolumeView}
use Rattle.volume.specs.Beside.{StandsBeside, IsStandingBeside}
use Rattle.volume.proofs.WalkedBeside.{in_index, slot_there}
use Rattle.volume.proofs.Holders.{named_there, named_absent}
use Rattle.volume.proofs.volume.Volume.inode_of.Goals as goal

pub find-requires-clause-from_one : goal.find-requires-clause-from_one
find-requires-clause-from_one g c = (in_index c.args.self.now (g.P.Pm.view c.args.pm.now) c.args.last.now.directory c.requires.stands c.requires.reached).0

pub find-requires-clause-in_range : goal.find-requires-clause-in_range
find-requires-clause-in_range g c =
    let most = (in_index c.args.self.now (g.P.Pm.view c.args.pm.now) c.args.last.now.directory c.requires.stands c.requires.reached).1 in
    subst (λ (volume : VolumeView). c.args.last.now.directory ≤ inodes_of_index volume.index) (sym c.self.view_is) most

pub returns-in_err-slot : goal.returns-in_err-slot
returns-in_err-slot g c = λ state residue path stands holder.
    let at_inside = subst (λ (volume : VolumeView). StandsBeside volume (g.P.Pm.view c.args.pm.now) state residue) (sym c.self.view_is) stands in
    c.from_residual.ensures ∙ sym (named_absent _ _ state residue at_inside path _ _ holder c.in_err-slot.ensures.slot)

pub slot_at-requires-clause-slot_in_range : goal.slot_at-requires-clause-slot_in_range
slot_at-requires-clause-slot_in_range g c =
    let standing = subst (λ (volume : VolumeView). IsStandingBeside volume (g.P.Pm.view c.args.pm.now)) (sym c.self.view_is) c.requires.stands in
    let reached = subst (λ (volume : VolumeView). Reached volume.size (g.P.Pm.view c.args.pm.now).words c.args.last.now.directory) (sym c.self.view_is) c.requires.reached in
    slot_there _ _ c.args.last.now.directory c.in_ok-slot.slot c.args.last.now.name standing reached c.in_ok-slot.ensures.slot

pub returns : goal.returns
returns g c = λ state residue path stands holder.
    let at_inside = subst (λ (volume : VolumeView). StandsBeside volume (g.P.Pm.view c.args.pm.now) state residue) (sym c.self.view_is) stands in
    let inode = c.slot_at.ensures.inode ∙ ap (λ (words : List ℕ). slot_inode c.self.inside.geometry.pages words c.in_ok-slot.slot) c.image.ensures in
    ap (λ (i : ℕ). Some i) inode ∙ sym (named_there _ _ state residue at_inside path _ _ holder c.in_ok-slot.slot c.in_ok-slot.ensures.slot)
