use Rattle.std.proofs.Common.{ℕ, List, [], ◌∷◌, ◌++◌, take, append-nil, sym, ap, ◌∙◌, subst, nat_cmp}
use Rattle.std.specs.Cmp.{nat_cmp_total}
use Rattle.std.proofs.lemmas.List.{take_all}
use Rattle.tree_model.specs.Table.{table_of}
use Rattle.tree_model.specs.Tree.{Node}
use Rattle.plain_tree.specs.Entries.{AreDistinct, node_of, pages_moved, room_moved}
use Rattle.plain_tree.proofs.RoomLaws.{listed, listed-more, AreDistinct-listed, table_of-listed}
use Rattle.plain_tree.proofs.tables.Rooms.moved.Goals as goal
use Rattle.plain_tree.proofs.tables.Rooms.moved.Goals.{in-Directory+in_ok-after+in_ok-push, in_default}

pub loop-entry-preserved : goal.loop-entry-preserved
loop-entry-preserved c =
    let f = pages_moved c.args.self.now c.args.moves.now.gaining c.args.moves.now.losing c.args.moves.now.taken c.args.gives in
    let nodes = c.deref-entry-items.result.now in
    let i = c.loop-entry.entry-index in
    let entry = c.entry-item.result in
    let more = listed-more f nodes i entry c.loop-entry-test.true in
    let here = ap (λ (e : ℕ × Node). listed f (take i nodes) ++ listed f (e ∷ [])) c.entry-item.is in
    elim c.match-entry.branch [
      | in-Directory+in_ok-after+in_ok-push w ↦
          let is = sym c.entry.view_is ∙ ap (λ n. (c.entry.inside.id, node_of n)) w.in-Directory.is in
          ap (λ v. v.items) w.pages-is
          ∙ w.in_ok-push.ensures.items
          ∙ ap (λ es. es ++ (c.entry.inside.id, w.in_ok-after.after) ∷ []) c.loop-entry.invariant
          ∙ ap (λ n. listed f (take i nodes) ++ (c.entry.inside.id, n) ∷ []) w.in_ok-after.ensures
          ∙ ap (λ (e : ℕ × Node). listed f (take i nodes) ++ listed f (e ∷ [])) (sym is)
          ∙ here ∙ sym more
      | in_default w ↦
          let is = sym c.entry.view_is ∙ ap (λ n. (c.entry.inside.id, node_of n)) w.in_default.is in
          ap (λ v. v.items) w.pages-is
          ∙ c.loop-entry.invariant
          ∙ sym (append-nil (listed f (take i nodes)))
          ∙ ap (λ (e : ℕ × Node). listed f (take i nodes) ++ listed f (e ∷ [])) (sym is)
          ∙ here ∙ sym more
    ]

pub invariant_of-result : goal.invariant_of-result
invariant_of-result c =
    let f = pages_moved c.args.self.now c.args.moves.now.gaining c.args.moves.now.losing c.args.moves.now.taken c.args.gives in
    let all = c.loop-entry.invariant ∙ ap (listed f) (take_all c.loop-entry.entry-index c.deref-entry-items.result.now c.loop-entry-test.false ∙ c.deref-entry-items.ensures.value) in
    subst (λ (es : List (ℕ × ℕ)). AreDistinct nat_cmp es) (sym all) (AreDistinct-listed f c.tree.inside.nodes.items c.tree.invariant.1)

pub returns : goal.returns
returns c =
    let f = pages_moved c.args.self.now c.args.moves.now.gaining c.args.moves.now.losing c.args.moves.now.taken c.args.gives in
    let all = c.loop-entry.invariant ∙ ap (listed f) (take_all c.loop-entry.entry-index c.deref-entry-items.result.now c.loop-entry-test.false ∙ c.deref-entry-items.ensures.value) in
    ap (table_of nat_cmp_total) all ∙ table_of-listed f c.tree.inside.nodes.items c.tree.invariant.1
    ∙ ap (λ T. room_moved c.args.self.now c.args.moves.now.gaining c.args.moves.now.losing c.args.moves.now.taken c.args.gives T) c.tree.view_is
