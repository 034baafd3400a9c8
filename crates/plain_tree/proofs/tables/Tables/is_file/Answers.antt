use Rattle.std.proofs.Common.{◌∙◌, sym, ap, nat_cmp}
use Rattle.std.specs.Cmp.{nat_cmp_total}
use Rattle.std.specs.FinMap.Entries.{find}
use Rattle.tree_model.specs.Tree.{is_file_node, is_file}
use Rattle.tree_model.proofs.TableLaws.{get-table_of}
use Rattle.plain_tree.proofs.tables.Tables.is_file.Goals as goal

pub returns : goal.returns
returns c =
    c.is_file_id.ensures ∙ ap (λ nodes. is_file_node (find nat_cmp c.args.id nodes)) c.deref.ensures.value
    ∙ ap is_file_node (sym (get-table_of nat_cmp_total c.self.inside.nodes.items c.args.id)) ∙ ap (λ T. is_file T c.args.id) c.self.view_is
