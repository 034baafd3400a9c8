use Rattle.std.proofs.Common.{◌≡◌, ◌∙◌, sym, ap, nat_cmp, length, arith}
use Rattle.std.specs.Cmp.{nat_cmp_total}
use Rattle.tree_model.specs.Capacity.{inodes_in_use}
use Rattle.plain_tree.proofs.TableLaws.{length-table_of}
use Rattle.plain_tree.proofs.tables.Tables.node_count.Goals as goal

pub returns : goal.returns
returns c =
    let held = c.len.ensures in
    let long : c.len.result ≡ length c.self.inside.nodes.items = omega (arith, held, c.self.inside.nodes.ok.0) in
    long ∙ sym (length-table_of nat_cmp nat_cmp_total c.self.inside.nodes.items c.self.invariant.1) ∙ ap inodes_in_use c.self.view_is
