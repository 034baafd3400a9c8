use Rattle.std.proofs.Common.{◌+◌, ◌&&◌, ◌∙◌, sym, ap, cond, count_by}
use Rattle.tree_model.specs.Tree.{route_cmp, route_cmp_total, is_in, is_directory, entries_in, path_count}
use Rattle.plain_tree.specs.Entries.{tree_of}
use Rattle.plain_tree.proofs.TableLaws.{sum_by-table_of}
use Rattle.plain_tree.proofs.CountLaws.{count_by-filter}
use Rattle.plain_tree.proofs.tables.Tables.link_count.Goals as goal

pub returns-then-is_directory : goal.returns-then-is_directory
returns-then-is_directory c =
    let names = c.self.inside.names.items in
    let tree = tree_of names c.self.inside.nodes.items in
    let id = c.args.id in
    let counted = c.subdirectories_among.ensures ∙ ap (count_by (λ e. is_in c.args.self.now id e.0 && is_directory c.args.self.now e.1)) c.deref.ensures.value
    ∙ ap (λ T. count_by (λ e. is_in T id e.0 && is_directory T e.1) names) (sym c.self.view_is)
    ∙ sym (sum_by-table_of route_cmp route_cmp_total (λ e. cond (is_in tree id e.0 && is_directory tree e.1) 1 0) names c.self.invariant.0)
    ∙ sym (count_by-filter (λ e. is_directory tree e.1) (λ e. is_in tree id e.0) tree.names.entries)
    ∙ ap (λ T. count_by (λ e. is_directory T e.1) (entries_in T id)) c.self.view_is in
    ap (λ n. 2 + n) counted ∙ sym (ap (λ t. cond t (2 + count_by (λ e. is_directory c.args.self.now e.1) (entries_in c.args.self.now id)) (path_count c.args.self.now id)) (sym c.is_directory.ensures ∙ c.if-is_directory.true))
