use Rattle.std.proofs.Common.{◌∙◌, sym, ap, nat_cmp}
use Rattle.std.specs.Cmp.{nat_cmp_total}
use Rattle.std.specs.FinMap.Entries.{find}
use Rattle.tree_model.specs.Tree.{bytes_of_node, bytes_of}
use Rattle.tree_model.proofs.TableLaws.{get-table_of}
use Rattle.plain_tree.proofs.tables.Tables.bytes_of.Goals as goal

pub returns : goal.returns
returns c =
    c.bytes_of_id.ensures ∙ ap (λ nodes. bytes_of_node (find nat_cmp c.args.id nodes)) c.deref.ensures.value
    ∙ ap bytes_of_node (sym (get-table_of nat_cmp_total c.self.inside.nodes.items c.args.id)) ∙ ap (λ T. bytes_of T c.args.id) c.self.view_is
