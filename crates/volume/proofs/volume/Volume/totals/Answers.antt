use Rattle.std.proofs.Common.{◌≡◌, ℕ, ◌+◌, ◌≤◌, length, ap, subst, ◌∙◌, arith}
use Rattle.layout.specs.Geometry.{IsVolumeSize, inodes_of}
use Rattle.volatile_index.specs.Entries.{IsSorted}
use Rattle.volatile_index.specs.Index.{entries_of}
use Rattle.volume.specs.Volume.{VolumeView}
use Rattle.volume.proofs.Summed.{AreTotalsTo, totals_begun, totals_more, names_fit, bytes_fit, totals_all}
use Rattle.volume.proofs.volume.Volume.totals.Goals as goal

pub loop-number-init : goal.loop-number-init
loop-number-init g c = totals_begun c.args.self.now (g.P.Pm.view c.args.pm.now) c.requires.stands

pub overflow_add-totals : goal.overflow_add-totals
overflow_add-totals g c =
    let size = subst (λ (volume : VolumeView). IsVolumeSize volume.size) c.self.view_is c.self.inside.geometry.volume_size in
    let same = ap (λ (volume : VolumeView). inodes_of volume.size) c.self.view_is in
    let most : c.loop-number.number + 1 ≤ inodes_of c.args.self.now.size = omega (arith, c.loop-number-test.true, same, c.self.inside.geometry.inodes_exact) in
    let sorted = subst (λ (volume : VolumeView). IsSorted (entries_of volume.index (c.loop-number.number + 1))) c.self.view_is c.count.ensures.sorted in
    let counted = c.count.ensures.count ∙ ap (λ (volume : VolumeView). length (entries_of volume.index (c.loop-number.number + 1))) c.self.view_is in
    let fit = names_fit c.args.self.now (g.P.Pm.view c.args.pm.now) c.requires.stands c.loop-number.number c.loop-number.totals c.loop-number.invariant most c.count.result size sorted counted in
    omega (arith, fit)

pub overflow_add-totals-in-loop-number : goal.overflow_add-totals-in-loop-number
overflow_add-totals-in-loop-number g c =
    let size = subst (λ (volume : VolumeView). IsVolumeSize volume.size) c.self.view_is c.self.inside.geometry.volume_size in
    let same = ap (λ (volume : VolumeView). inodes_of volume.size) c.self.view_is in
    let most : c.loop-number.number + 1 ≤ inodes_of c.args.self.now.size = omega (arith, c.loop-number-test.true, same, c.self.inside.geometry.inodes_exact) in
    let fit = bytes_fit c.args.self.now (g.P.Pm.view c.args.pm.now) c.requires.stands c.loop-number.number c.loop-number.totals c.loop-number.invariant most c.size_of_file.result size c.size_of_file.ensures in
    omega (arith, fit)

pub loop-number-preserved : goal.loop-number-preserved
loop-number-preserved g c =
    let same = ap (λ (volume : VolumeView). inodes_of volume.size) c.self.view_is in
    let most : c.loop-number.number + 1 ≤ inodes_of c.args.self.now.size = omega (arith, c.loop-number-test.true, same, c.self.inside.geometry.inodes_exact) in
    let sorted = subst (λ (volume : VolumeView). IsSorted (entries_of volume.index (c.loop-number.number + 1))) c.self.view_is c.count.ensures.sorted in
    let counted = c.count.ensures.count ∙ ap (λ (volume : VolumeView). length (entries_of volume.index (c.loop-number.number + 1))) c.self.view_is in
    totals_more c.args.self.now (g.P.Pm.view c.args.pm.now) c.requires.stands c.loop-number.number c.loop-number.totals c.loop-number.invariant most c.count.result c.size_of_file.result sorted counted c.size_of_file.ensures

pub returns : goal.returns
returns g c =
    let same = ap (λ (volume : VolumeView). inodes_of volume.size) c.self.view_is in
    let end : c.loop-number.number ≡ inodes_of c.args.self.now.size = omega (arith, c.loop-number-test.false, c.loop-number.auto.number-end, same, c.self.inside.geometry.inodes_exact) in
    totals_all c.args.self.now (g.P.Pm.view c.args.pm.now) c.requires.stands c.loop-number.totals (subst (λ (n : ℕ). AreTotalsTo c.args.self.now (g.P.Pm.view c.args.pm.now) n c.loop-number.totals) end c.loop-number.invariant)
