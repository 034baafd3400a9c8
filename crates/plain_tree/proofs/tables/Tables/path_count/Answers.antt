use Rattle.std.proofs.Common.{◌∙◌, ◌==◌, sym, ap, cond, count_by}
use Rattle.tree_model.specs.Tree.{route_cmp, route_cmp_total, path_count}
use Rattle.plain_tree.proofs.TableLaws.{sum_by-table_of}
use Rattle.plain_tree.proofs.tables.Tables.path_count.Goals as goal

pub returns : goal.returns
returns c =
    c.paths_of.ensures ∙ ap (count_by (λ e. e.1 == c.args.id)) c.deref.ensures.value
    ∙ sym (sum_by-table_of route_cmp route_cmp_total (λ e. cond (e.1 == c.args.id) 1 0) c.self.inside.names.items c.self.invariant.0)
    ∙ ap (λ T. path_count T c.args.id) c.self.view_is
