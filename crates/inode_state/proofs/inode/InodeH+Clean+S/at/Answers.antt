use Rattle.std.proofs.Common.{◌∙◌, ap, subst, refl, arith, ◌≤◌, ℕ, List}
use Rattle.inode_state.specs.Inode.{InodeView, fields_at}
use Rattle.inode_state.proofs.InodeLaws.{same_fields, inode_word_in_volume}
use Rattle.inode_state.proofs.Stored.{clean_as}
use Rattle.inode_state.proofs.inode.InodeH+Clean+S.at.Goals as goal

pub returns-clause-clean : goal.returns-clause-clean
returns-clause-clean g c =
    let now = (g.P.Pm.view c.args.pm.now).words in
    let geometry = c.args.geometry.now in
    let read = c.inode_at-fields.ensures in
    let in_range = subst (λ (k : ℕ). c.args.inode ≤ k) geometry.inodes_exact c.requires.in_range in
    clean_as c.args.inode c.of.result.number (fields_at now c.args.inode) c.of.result.fields
    (ap (λ (inode : InodeView). inode.number) c.of.ensures)
    (ap (λ (inode : InodeView). inode.fields) c.of.ensures ∙ same_fields c.inode_at-fields.result (fields_at c.image.result.now c.args.inode) read.kind read.links read.size read.own
    ∙ ap (λ (words : List ℕ). fields_at words c.args.inode) c.image.ensures)
    (record {
      stands = record {
        inside = λ word is. let within = inode_word_in_volume geometry.pages c.args.inode word geometry.volume_size c.requires.from_one in_range is in omega (arith, within, c.requires.whole);
        reads = refl;
      };
      clean = c.requires.settled;
    })
