use Rattle.std.proofs.Common.{◌∙◌, sym, ap, is_some, cond, []}
use Rattle.tree_model.specs.Capacity.{untaken}
use Rattle.tree_model.specs.Step.{first, faults_of_rename, is_same_node}
use Rattle.plain_tree.specs.Rows.{faults_before_rename}
use Rattle.plain_tree.proofs.FaultLaws.{first-fault, first-rest}
use Rattle.plain_tree.proofs.rows.fault_of_rename.Goals as goal

pub returns-then-is_some : goal.returns-then-is_some
returns-then-is_some c =
    let T = c.args.tree.now in
    let from = c.args.from.now in
    let to = c.args.to.now in
    let moves = faults_of_rename (untaken c.args.geometry.now.pages) T c.args.rooms.now from to in
    c.fault_of_walks-fault.ensures ∙ first-fault (faults_before_rename T from to) (cond (is_same_node T from to) [] moves)
    (ap is_some (sym c.fault_of_walks-fault.ensures) ∙ sym c.is_some.ensures ∙ c.if-is_some.true)

pub returns-then-is_same_node : goal.returns-then-is_same_node
returns-then-is_same_node c =
    let T = c.args.tree.now in
    let from = c.args.from.now in
    let to = c.args.to.now in
    let moves = faults_of_rename (untaken c.args.geometry.now.pages) T c.args.rooms.now from to in
    ap (λ t. first (cond t [] moves)) (sym c.if-is_same_node.true ∙ c.is_same_node.ensures)
    ∙ first-rest (faults_before_rename T from to) (cond (is_same_node T from to) [] moves)
    (ap is_some (sym c.fault_of_walks-fault.ensures) ∙ sym c.is_some.ensures ∙ c.if-is_some.false)

pub returns : goal.returns
returns c =
    let T = c.args.tree.now in
    let from = c.args.from.now in
    let to = c.args.to.now in
    let moves = faults_of_rename (untaken c.args.geometry.now.pages) T c.args.rooms.now from to in
    c.fault_of_move.ensures ∙ ap (λ t. first (cond t [] moves)) (sym c.if-is_same_node.false ∙ c.is_same_node.ensures)
    ∙ first-rest (faults_before_rename T from to) (cond (is_same_node T from to) [] moves)
    (ap is_some (sym c.fault_of_walks-fault.ensures) ∙ sym c.is_some.ensures ∙ c.if-is_some.false)
