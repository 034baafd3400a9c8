use Rattle.std.proofs.Common.{◌∙◌, sym, ap}
use Rattle.std.specs.FinMap.Entries.{find}
use Rattle.tree_model.specs.Tree.{route_cmp, route_cmp_total, id_at}
use Rattle.tree_model.proofs.TableLaws.{get-table_of}
use Rattle.plain_tree.specs.Fronts.{front_of}
use Rattle.plain_tree.proofs.tables.Tables.id_at.Goals as goal

pub returns-clause-is : goal.returns-clause-is
returns-clause-is c =
    let path = front_of c.args.front c.args.path.now in
    c.id_at_front.ensures.is ∙ ap (find route_cmp path) c.deref.ensures.value
    ∙ sym (get-table_of route_cmp_total c.self.inside.names.items path) ∙ ap (λ T. id_at T path) c.self.view_is
