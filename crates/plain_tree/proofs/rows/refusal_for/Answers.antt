use Rattle.std.proofs.Common.{◌∙◌, sym, ap}
use Rattle.tree_model.specs.Step.{refusal_of}
use Rattle.plain_tree.proofs.rows.refusal_for.Goals as goal

pub returns-in-Unlink : goal.returns-in-Unlink
returns-in-Unlink c =
    c.fault_of_unlink.ensures c.args.geometry.now.pages c.args.rooms.now ∙ ap (refusal_of c.args.geometry.now.pages c.args.tree.now c.args.rooms.now) (sym c.in-Unlink.is)

pub returns-in-Rmdir : goal.returns-in-Rmdir
returns-in-Rmdir c =
    c.fault_of_rmdir.ensures c.args.geometry.now.pages c.args.rooms.now ∙ ap (refusal_of c.args.geometry.now.pages c.args.tree.now c.args.rooms.now) (sym c.in-Rmdir.is)

pub returns-in-Read : goal.returns-in-Read
returns-in-Read c =
    c.fault_of_read.ensures c.args.geometry.now.pages c.args.rooms.now c.in-Read.offset ∙ ap (refusal_of c.args.geometry.now.pages c.args.tree.now c.args.rooms.now) (sym c.in-Read.is)

pub returns-in-List : goal.returns-in-List
returns-in-List c =
    c.fault_of_list.ensures c.args.geometry.now.pages c.args.rooms.now ∙ ap (refusal_of c.args.geometry.now.pages c.args.tree.now c.args.rooms.now) (sym c.in-List.is)
