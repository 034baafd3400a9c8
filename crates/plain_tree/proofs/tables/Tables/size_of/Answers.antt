use Rattle.std.proofs.Common.{◌∙◌, sym, ap, nat_cmp, length}
use Rattle.std.specs.Cmp.{nat_cmp_total}
use Rattle.std.specs.FinMap.Entries.{find}
use Rattle.tree_model.specs.Tree.{bytes_of, bytes_of_node}
use Rattle.tree_model.proofs.TableLaws.{get-table_of}
use Rattle.plain_tree.proofs.tables.Tables.size_of.Goals as goal

pub returns : goal.returns
returns c =
    c.size_of_id.ensures ∙ ap (λ nodes. length (bytes_of_node (find nat_cmp c.args.id nodes))) c.deref.ensures.value
    ∙ ap (λ found. length (bytes_of_node found)) (sym (get-table_of nat_cmp_total c.self.inside.nodes.items c.args.id)) ∙ ap (λ T. length (bytes_of T c.args.id)) c.self.view_is
