use Rattle.std.proofs.Common.{◌≡◌, ℕ, List, sym, ap, ◌∙◌, arith}
use Rattle.layout.specs.Geometry.{inodes_of}
use Rattle.layout.specs.Fields.{inode_kind, inode_size}
use Rattle.volume.specs.Volume.{VolumeView}
use Rattle.volume.proofs.Summed.{file_size, no_file_size}
use Rattle.volume.proofs.volume.Volume.size_of_file.Goals as goal

pub inode_at-fields-requires-clause-inode_in_range : goal.inode_at-fields-requires-clause-inode_in_range
inode_at-fields-requires-clause-inode_in_range g c =
    let same = ap (λ (volume : VolumeView). inodes_of volume.size) c.self.view_is in
    omega (arith, c.requires.most, same, c.self.inside.geometry.inodes_exact)

pub returns-then-fields-ne-FILE : goal.returns-then-fields-ne-FILE
returns-then-fields-ne-FILE g c = λ state stands.
    let device = g.P.Pm.view c.args.pm.now in
    let kind : inode_kind device.words c.args.inode ≡ c.inode_at-fields.result.kind = ap (λ (words : List ℕ). inode_kind words c.args.inode) (sym c.image.ensures) ∙ sym c.inode_at-fields.ensures.kind in
    no_file_size c.args.self.now device state stands c.args.inode (λ is. c.if-fields-ne-FILE.true (sym kind ∙ is))

pub returns : goal.returns
returns g c = λ state stands.
    let device = g.P.Pm.view c.args.pm.now in
    let kind : inode_kind device.words c.args.inode ≡ c.inode_at-fields.result.kind = ap (λ (words : List ℕ). inode_kind words c.args.inode) (sym c.image.ensures) ∙ sym c.inode_at-fields.ensures.kind in
    let size = c.inode_at-fields.ensures.size ∙ ap (λ (words : List ℕ). inode_size words c.args.inode) c.image.ensures in
    size ∙ sym (file_size c.args.self.now device state stands c.args.inode c.requires.least c.requires.most (kind ∙ c.if-fields-ne-FILE.false))
