use Rattle.std.proofs.Common.{◌∙◌, sym, ap, cond, count_by}
use Rattle.std.proofs.lemmas.List.Sums.{length-filter}
use Rattle.tree_model.specs.Tree.{route_cmp, route_cmp_total, is_in, name_count}
use Rattle.plain_tree.specs.Entries.{tree_of}
use Rattle.plain_tree.proofs.TableLaws.{sum_by-table_of}
use Rattle.plain_tree.proofs.tables.Tables.name_count.Goals as goal

pub returns : goal.returns
returns c =
    let names = c.self.inside.names.items in
    let tree = tree_of names c.self.inside.nodes.items in
    c.names_among.ensures ∙ ap (count_by (λ e. is_in c.args.self.now c.args.directory e.0)) c.deref.ensures.value
    ∙ ap (λ T. count_by (λ e. is_in T c.args.directory e.0) names) (sym c.self.view_is)
    ∙ sym (sum_by-table_of route_cmp route_cmp_total (λ e. cond (is_in tree c.args.directory e.0) 1 0) names c.self.invariant.0)
    ∙ sym (length-filter (λ e. is_in tree c.args.directory e.0) tree.names.entries)
    ∙ ap (λ T. name_count T c.args.directory) c.self.view_is
