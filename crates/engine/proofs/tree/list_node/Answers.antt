use Rattle.std.proofs.Common.{◌≡◌, ◌++◌, ◌∷◌, [], ℕ, List, sym, ap, subst, ◌∙◌, arith}
use Rattle.std.proofs.lemmas.List.{append-nil, length-append}
use Rattle.io_edge.proofs.BytesLaws.{writes_as, writes_broken}
use Rattle.script.specs.Texts.{entry_words, line_text}
use Rattle.layout.specs.Geometry.{inodes_of}
use Rattle.tree_model.specs.Step.{status_of}
use Rattle.tree_model.specs.declared.reply.Stat.{Stat}
use Rattle.image_reading.specs.Residue.{no_residue}
use Rattle.volume.proofs.Beside.{stands_beside, has_node_beside}
use Rattle.engine.specs.declared.places.Place.{Place}
use Rattle.engine.specs.Places.{LeadsTo, StepsInto, place_at, route_through}
use Rattle.engine.proofs.NextPlaces.{is_tree, node_led_to, numbered}
use Rattle.engine.proofs.PlaceLaws.{few_places, place_there, steps_by, steps_into}
use Rattle.engine.proofs.tree.list_node.Goals as goal

pub stat-stat-requires-clause-there : goal.stat-stat-requires-clause-there
stat-stat-requires-clause-there g c =
    let (state, stands, leads) = c.requires.leads in
    has_node_beside c.args.volume.now (g.P.Pm.view c.args.pm.now) c.args.inode (node_led_to c.args.volume.now (g.P.Pm.view c.args.pm.now) state stands c.args.places.now.items c.args.inode leads)

pub write_line-requires-clause-told : goal.write_line-requires-clause-told
write_line-requires-clause-told g c = λ state stands.
    let told = c.stat-stat.ensures state no_residue (stands_beside stands) in
    told ∙ ap (status_of state.tree) (sym (ap (λ (s : Stat). s.inode) told))

pub write_line-requires-clause-leads : goal.write_line-requires-clause-leads
write_line-requires-clause-leads g c =
    let (state, stands, leads) = c.requires.leads in
    let inode = ap (λ (s : Stat). s.inode) (c.stat-stat.ensures state no_residue (stands_beside stands)) in (
      state,
      stands,
      subst (λ (places : List Place). LeadsTo state.tree places c.stat-stat.result.inode) (sym c.deref.ensures.value)
          (subst (λ (n : ℕ). LeadsTo state.tree c.args.places.now.items n) (sym inode) leads),
    )

pub returns-in_err-write_line-clause-writes : goal.returns-in_err-write_line-clause-writes
returns-in_err-write_line-clause-writes g c = λ state stands leads.
    let inode = ap (λ (s : Stat). s.inode) (c.stat-stat.ensures state no_residue (stands_beside stands)) in
    let text : List Place → ℕ → List ℕ = λ places n. line_text (entry_words state.tree (route_through state.tree places, n)) in
    let line = text c.deref.result.now c.stat-stat.result.inode in
    let there = subst (λ (places : List Place). LeadsTo state.tree places c.stat-stat.result.inode) (sym c.deref.ensures.value)
    (subst (λ (n : ℕ). LeadsTo state.tree c.args.places.now.items n) (sym inode) leads) in
    let same : line ++ [] ≡ text c.args.places.now.items c.args.inode =
    append-nil line ∙ ap (λ (places : List Place). text places c.stat-stat.result.inode) c.deref.ensures.value ∙ ap (λ (n : ℕ). text c.args.places.now.items n) inode in
    writes_as _ _ _ _ (line ++ []) (text c.args.places.now.items c.args.inode) c.from_residual.result same
    (writes_broken {T = Unit {0}} line [] c.from_residual.result c.from_residual.ensures.0 (c.in_err-write_line.ensures state stands there))

pub enter-requires : goal.enter-requires
enter-requires g c =
    let (state, stands, leads) = c.requires.leads in
    let volume = c.args.volume.now in
    let device = g.P.Pm.view c.args.pm.now in
    let items = c.args.places.now.items in
    let tree = is_tree volume device state stands in
    let directory = sym (ap (λ (s : Stat). s.dir) (c.stat-stat.ensures state no_residue (stands_beside stands))) ∙ c.if-stat.true in
    let few = few_places state.tree tree (inodes_of volume.size) (items ++ place_at c.args.inode 0 ∷ []) (numbered volume device state stands)
    (place_there state.tree tree items c.args.inode leads directory) in
    let long = length-append items (place_at c.args.inode 0 ∷ []) in
    let size = c.args.places.now.ok.0 in
    let room = c.requires.room in
    record { room = omega (arith, few, long, size, room) }

pub returns-then-stat-clause-steps : goal.returns-then-stat-clause-steps
returns-then-stat-clause-steps g c = λ state stands leads.
    let items = c.args.places.now.items in
    let directory = sym (ap (λ (s : Stat). s.dir) (c.stat-stat.ensures state no_residue (stands_beside stands))) ∙ c.if-stat.true in
    subst (λ (new : List Place). StepsInto state.tree items new c.args.inode) (sym c.enter.ensures.items)
    (steps_into state.tree (is_tree c.args.volume.now (g.P.Pm.view c.args.pm.now) state stands) items c.args.inode leads directory)

pub returns-else-stat-clause-steps : goal.returns-else-stat-clause-steps
returns-else-stat-clause-steps g c = λ state stands leads.
    let file = sym (ap (λ (s : Stat). s.dir) (c.stat-stat.ensures state no_residue (stands_beside stands))) ∙ c.if-stat.false in
    steps_by state.tree (is_tree c.args.volume.now (g.P.Pm.view c.args.pm.now) state stands) c.args.places.now.items c.args.inode leads file

pub returns-then-stat-clause-writes : goal.returns-then-stat-clause-writes
returns-then-stat-clause-writes g c = λ state stands leads.
    let inode = ap (λ (s : Stat). s.inode) (c.stat-stat.ensures state no_residue (stands_beside stands)) in
    let text : List Place → ℕ → List ℕ = λ places n. line_text (entry_words state.tree (route_through state.tree places, n)) in
    let there = subst (λ (places : List Place). LeadsTo state.tree places c.stat-stat.result.inode) (sym c.deref.ensures.value)
    (subst (λ (n : ℕ). LeadsTo state.tree c.args.places.now.items n) (sym inode) leads) in
    let same : text c.deref.result.now c.stat-stat.result.inode ≡ text c.args.places.now.items c.args.inode =
    ap (λ (places : List Place). text places c.stat-stat.result.inode) c.deref.ensures.value ∙ ap (λ (n : ℕ). text c.args.places.now.items n) inode in
    writes_as _ _ _ _ (text c.deref.result.now c.stat-stat.result.inode) (text c.args.places.now.items c.args.inode) _ same (c.in_ok-write_line.ensures state stands there)

pub returns-else-stat-clause-writes : goal.returns-else-stat-clause-writes
returns-else-stat-clause-writes g c = λ state stands leads.
    let inode = ap (λ (s : Stat). s.inode) (c.stat-stat.ensures state no_residue (stands_beside stands)) in
    let text : List Place → ℕ → List ℕ = λ places n. line_text (entry_words state.tree (route_through state.tree places, n)) in
    let there = subst (λ (places : List Place). LeadsTo state.tree places c.stat-stat.result.inode) (sym c.deref.ensures.value)
    (subst (λ (n : ℕ). LeadsTo state.tree c.args.places.now.items n) (sym inode) leads) in
    let same : text c.deref.result.now c.stat-stat.result.inode ≡ text c.args.places.now.items c.args.inode =
    ap (λ (places : List Place). text places c.stat-stat.result.inode) c.deref.ensures.value ∙ ap (λ (n : ℕ). text c.args.places.now.items n) inode in
    writes_as _ _ _ _ (text c.deref.result.now c.stat-stat.result.inode) (text c.args.places.now.items c.args.inode) _ same (c.in_ok-write_line.ensures state stands there)
