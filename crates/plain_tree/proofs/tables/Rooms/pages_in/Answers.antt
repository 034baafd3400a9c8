use Rattle.std.proofs.Common.{◌∙◌, sym, ap, nat_cmp}
use Rattle.std.specs.Option.{unwrap_or}
use Rattle.std.specs.Cmp.{nat_cmp_total}
use Rattle.std.specs.FinMap.Entries.{find}
use Rattle.tree_model.specs.Tree.{pages_in}
use Rattle.tree_model.proofs.TableLaws.{get-table_of}
use Rattle.plain_tree.proofs.tables.Rooms.pages_in.Goals as goal

pub returns : goal.returns
returns c =
    c.unwrap_or.ensures
    ∙ ap (λ found. unwrap_or found 0) (c.pages_of_id.ensures ∙ ap (find nat_cmp c.args.directory) c.deref.ensures.value
    ∙ sym (get-table_of nat_cmp_total c.self.inside.pages.items c.args.directory))
    ∙ ap (λ room. pages_in room c.args.directory) c.self.view_is
