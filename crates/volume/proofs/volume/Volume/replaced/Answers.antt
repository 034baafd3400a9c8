use Rattle.std.proofs.Common.{ℕ, List, ◌||◌, ◌==◌, refl, sym, ap, subst, ◌∙◌, arith, true≢false}
use Rattle.layout.specs.Geometry.{inodes_of}
use Rattle.layout.specs.Fields.{inode_links}
use Rattle.layout.specs.declared.kinds.NodeKind.{NodeKind}
use Rattle.image_reading.specs.Counts.{Count}
use Rattle.image_reading.specs.Residue.{no_residue}
use Rattle.image_counts.specs.Entries.{IsPageIn}
use Rattle.volume.specs.Volume.{VolumeView}
use Rattle.volume.specs.Moves.{is_directory_kind}
use Rattle.volume.specs.declared.plan.Loss.{Loss}
use Rattle.volume.proofs.Beside.{untouched_nothing}
use Rattle.volume.proofs.PageLists.{pages_counted_beside}
use Rattle.volume.proofs.WalkedBeside.{in_index}
use Rattle.volume.proofs.Statuses.{node_reached_beside, node_within_beside}
use Rattle.volume.proofs.RenameRows.{there_now, no_names_counted, no_file_by_directory, empty_directory, file_by_file, some_names_counted, filled_directory}
use Rattle.volume.proofs.volume.Volume.replaced.Goals as goal

pub count-requires-clause-from_one : goal.count-requires-clause-from_one
count-requires-clause-from_one g c = let (state, stands, there) = c.requires.there in (in_index c.args.self.now (g.P.Pm.view c.args.pm.now) c.args.inode (state, no_residue, stands) (node_reached_beside c.args.self.now (g.P.Pm.view c.args.pm.now) state no_residue stands c.args.inode there)).0

pub count-requires-clause-in_range : goal.count-requires-clause-in_range
count-requires-clause-in_range g c = let (state, stands, there) = c.requires.there in (in_index c.args.self.now (g.P.Pm.view c.args.pm.now) c.args.inode (state, no_residue, stands) (node_reached_beside c.args.self.now (g.P.Pm.view c.args.pm.now) state no_residue stands c.args.inode there)).1

pub loss_of-requires-clause-least : goal.loss_of-requires-clause-least
loss_of-requires-clause-least g c = let (state, stands, there) = c.requires.there in (in_index c.args.self.now (g.P.Pm.view c.args.pm.now) c.args.inode (state, no_residue, stands) (node_reached_beside c.args.self.now (g.P.Pm.view c.args.pm.now) state no_residue stands c.args.inode there)).0

pub loss_of-requires-clause-most : goal.loss_of-requires-clause-most
loss_of-requires-clause-most g c = let (state, stands, there) = c.requires.there in (in_index c.args.self.now (g.P.Pm.view c.args.pm.now) c.args.inode (state, no_residue, stands) (node_reached_beside c.args.self.now (g.P.Pm.view c.args.pm.now) state no_residue stands c.args.inode there)).1

pub inode_at-links-requires-clause-from_one : goal.inode_at-links-requires-clause-from_one
inode_at-links-requires-clause-from_one g c = let (state, stands, there) = c.requires.there in (node_within_beside c.args.self.now (g.P.Pm.view c.args.pm.now) state no_residue stands c.args.inode there).0

pub inode_at-links-requires-clause-inode_in_range : goal.inode_at-links-requires-clause-inode_in_range
inode_at-links-requires-clause-inode_in_range g c =
    let (state, stands, there) = c.requires.there in
    let most = (node_within_beside c.args.self.now (g.P.Pm.view c.args.pm.now) state no_residue stands c.args.inode there).1 in
    let same = ap (λ (volume : VolumeView). inodes_of volume.size) c.self.view_is in
    omega (arith, most, same, c.self.inside.geometry.inodes_exact)

pub loss_of-requires-in-File-File-clause-least : goal.loss_of-requires-in-File-File-clause-least
loss_of-requires-in-File-File-clause-least g c = let (state, stands, there) = c.requires.there in (in_index c.args.self.now (g.P.Pm.view c.args.pm.now) c.args.inode (state, no_residue, stands) (node_reached_beside c.args.self.now (g.P.Pm.view c.args.pm.now) state no_residue stands c.args.inode there)).0

pub loss_of-requires-in-File-File-clause-most : goal.loss_of-requires-in-File-File-clause-most
loss_of-requires-in-File-File-clause-most g c = let (state, stands, there) = c.requires.there in (in_index c.args.self.now (g.P.Pm.view c.args.pm.now) c.args.inode (state, no_residue, stands) (node_reached_beside c.args.self.now (g.P.Pm.view c.args.pm.now) state no_residue stands c.args.inode there)).1

pub returns-in-Directory-File : goal.returns-in-Directory-File
returns-in-Directory-File g c = λ state stands.
    no_file_by_directory state.tree c.args.kind c.args.inode (there_now c.args.self.now (g.P.Pm.view c.args.pm.now) c.args.inode c.requires.there state stands) c.in-Directory-File.is-0
    (c.kind_of.ensures state stands ∙ ap is_directory_kind c.in-Directory-File.is-1)

pub returns-else-count-gt0 : goal.returns-else-count-gt0
returns-else-count-gt0 g c = λ state stands.
    let device = (g.P.Pm.view c.args.pm.now) in
    let directory = c.kind_of.ensures state stands ∙ ap is_directory_kind c.in-Directory-Directory.is-1 in
    let there = there_now c.args.self.now device c.args.inode c.requires.there state stands in
    let within = node_within_beside c.args.self.now device state no_residue stands c.args.inode there in
    let none = no_names_counted state.tree c.args.inode c.count.result (c.count.ensures.names device state no_residue stands directory) (omega (arith, c.if-count-gt0.false)) in
    let is = c.loss_of.ensures.is in
    let goes = ap (λ (loss : Loss). loss.goes) is in (
      empty_directory state.tree c.args.kind c.args.inode there c.in-Directory-Directory.is-0 directory none,
      record {
        inode_is = ap (λ (loss : Loss). loss.inode) is;
        kind_is = ap (λ (loss : Loss). loss.kind) is;
        goes_is = goes ∙ ap (λ (kind : NodeKind). is_directory_kind kind || (inode_links device.words c.args.inode == 1)) (sym c.in-Directory-Directory.is-0);
        pages = λ all. subst (Count (IsPageIn c.args.self.now.size device.words c.args.inode)) (sym (c.loss_of.ensures.pages refl)) (pages_counted_beside c.args.self.now device state no_residue stands c.args.inode (untouched_nothing c.args.self.now device.words c.args.inode) within.0 within.1);
        no_pages = λ none. absurd (true≢false (sym goes ∙ none));
      },
    )

pub returns-in-File-File : goal.returns-in-File-File
returns-in-File-File g c = λ state stands.
    let device = (g.P.Pm.view c.args.pm.now) in
    let file = c.kind_of.ensures state stands ∙ ap is_directory_kind c.in-File-File.is-1 in
    let there = there_now c.args.self.now device c.args.inode c.requires.there state stands in
    let within = node_within_beside c.args.self.now device state no_residue stands c.args.inode there in
    let links = c.inode_at-links.ensures.links ∙ ap (λ (words : List ℕ). inode_links words c.args.inode) c.image.ensures in
    let is = c.loss_of-in-File-File.ensures.is in
    let goes = ap (λ (loss : Loss). loss.goes) is in (
      file_by_file state.tree c.args.kind c.args.inode there c.in-File-File.is-0 file,
      record {
        inode_is = ap (λ (loss : Loss). loss.inode) is;
        kind_is = ap (λ (loss : Loss). loss.kind) is;
        goes_is = goes ∙ ap (λ n. n == 1) links ∙ ap (λ (kind : NodeKind). is_directory_kind kind || (inode_links device.words c.args.inode == 1)) (sym c.in-File-File.is-0);
        pages = λ all. subst (Count (IsPageIn c.args.self.now.size device.words c.args.inode)) (sym (c.loss_of-in-File-File.ensures.pages (sym goes ∙ all))) (pages_counted_beside c.args.self.now device state no_residue stands c.args.inode (untouched_nothing c.args.self.now device.words c.args.inode) within.0 within.1);
        no_pages = λ none. c.loss_of-in-File-File.ensures.no_pages (sym goes ∙ none);
      },
    )

pub returns-then-count-gt0 : goal.returns-then-count-gt0
returns-then-count-gt0 g c = λ state stands.
    let device = (g.P.Pm.view c.args.pm.now) in
    let directory = c.kind_of.ensures state stands ∙ ap is_directory_kind c.in-Directory-Directory.is-1 in
    let there = there_now c.args.self.now device c.args.inode c.requires.there state stands in
    let some = some_names_counted state.tree c.args.inode c.count.result (c.count.ensures.names device state no_residue stands directory) c.if-count-gt0.true in
    filled_directory state.tree c.args.kind c.args.inode there c.in-Directory-Directory.is-0 directory some
