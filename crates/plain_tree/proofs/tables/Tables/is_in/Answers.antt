use Rattle.std.proofs.Common.{◌≢◌, ◌∙◌, sym, ap, length, arith}
use Rattle.std.specs.FinMap.Entries.{find}
use Rattle.tree_model.specs.Tree.{route_cmp, route_cmp_total, is_number, id_at, parent}
use Rattle.tree_model.proofs.TableLaws.{get-table_of}
use Rattle.plain_tree.proofs.CountLaws.{is_in-named}
use Rattle.plain_tree.proofs.tables.Tables.is_in.Goals as goal

pub returns : goal.returns
returns c =
    let above = parent c.args.route.now in
    let long : length c.args.route.now ≢ 0 = grind (arith, c.is_empty.ensures, c.if-is_empty.false) in
    c.is_number.ensures
    ∙ ap (λ found. is_number found c.args.directory) (c.id_at_route.ensures ∙ ap (λ route. find route_cmp route c.deref.result.now) c.parent.ensures
    ∙ ap (find route_cmp above) c.deref.ensures.value
    ∙ sym (get-table_of route_cmp_total c.self.inside.names.items above) ∙ ap (λ T. id_at T above) c.self.view_is)
    ∙ sym (is_in-named c.args.self.now c.args.directory c.args.route.now long)
