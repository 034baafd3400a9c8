use Rattle.std.proofs.Common.{◌++◌, ◌∷◌, [], ℕ, List, sym, ap, subst, ◌∙◌, append-nil}
use Rattle.io_edge.proofs.BytesLaws.{writes_as, writes_then, writes_broken}
use Rattle.layout.specs.Geometry.{inodes_of}
use Rattle.script.specs.Texts.{entry_words, line_text, listing_text}
use Rattle.tree_model.specs.PathText.{Route}
use Rattle.tree_model.specs.Tree.{root_id}
use Rattle.engine.specs.declared.places.Place.{Place}
use Rattle.engine.specs.Places.{AreWithin, LeadsTo, StepsInto, lines_text, route_through}
use Rattle.engine.proofs.NextPlaces.{is_tree, numbered, within_by, within_into, within_up}
use Rattle.engine.proofs.PlacesLeft.{nearer_into, nearer_up}
use Rattle.engine.proofs.PlaceLaws.{before_first, before_one, before_up, few_places, leads_to_root, lines_one, lines_split, root_split}
use Rattle.engine.proofs.tree.write_tree.Goals as goal

pub list_node-requires-clause-leads : goal.list_node-requires-clause-leads
list_node-requires-clause-leads g c =
    let (state, stands) = c.requires.stands in
    let tree = is_tree c.args.volume.now (g.P.Pm.view c.args.pm.now) state stands in
    (state, stands, subst (λ (places : List Place). LeadsTo state.tree places root_id) (sym c.clear.ensures.items) (leads_to_root state.tree tree))

pub returns-in_err-list_node-clause-writes : goal.returns-in_err-list_node-clause-writes
returns-in_err-list_node-clause-writes g c = λ state stands.
    let tree = is_tree c.args.volume.now (g.P.Pm.view c.args.pm.now) state stands in
    let empty = c.clear.ensures.items in
    let line : List ℕ = line_text (entry_words state.tree ([], root_id)) in
    let (rest, split) = root_split state.tree tree in
    let leads = subst (λ (places : List Place). LeadsTo state.tree places root_id) (sym empty) (leads_to_root state.tree tree) in
    let same = ap (λ (places : List Place). line_text (entry_words state.tree (route_through state.tree places, root_id))) empty in
    writes_as _ _ _ _ (line ++ rest) (listing_text state.tree) c.from_residual.result (sym split)
    (writes_broken line rest c.from_residual.result c.from_residual.ensures.0
    (writes_as _ _ _ _ _ line _ same (c.in_err-list_node.ensures.writes state stands leads)))

pub paths-init : goal.paths-init
paths-init g c =
    let empty = c.clear.ensures.items in
    record {
      writes = λ state stands.
          let tree = is_tree c.args.volume.now (g.P.Pm.view c.args.pm.now) state stands in
          let line : List ℕ = line_text (entry_words state.tree ([], root_id)) in
          let leads = subst (λ (places : List Place). LeadsTo state.tree places root_id) (sym empty) (leads_to_root state.tree tree) in
          let same = ap (λ (places : List Place). line_text (entry_words state.tree (route_through state.tree places, root_id))) empty in
          let steps = subst (λ (places : List Place). StepsInto state.tree places c.list_node.new.places.items root_id) empty (c.in_ok-list_node.ensures.steps state stands leads) in (
            ([], root_id) ∷ [],
            before_first state.tree tree c.list_node.new.places.items steps,
            writes_as _ _ _ _ _ (lines_text state.tree (([], root_id) ∷ [])) _ (same ∙ sym (append-nil line)) (c.in_ok-list_node.ensures.writes state stands leads),
          );
      within =
          within_into c.args.volume.now.index root_id c.clear.new.self.items c.list_node.new.places.items
          (subst (λ (places : List Place). AreWithin c.args.volume.now.index places) (sym empty) tt) c.list_node.ensures.places;
      room = c.list_node.ensures.room ∙ c.clear.ensures.capacity;
    }

pub next_inode-requires-clause-way : goal.next_inode-requires-clause-way
next_inode-requires-clause-way g c =
    let (state, stands) = c.requires.stands in
    let (entries, before, written) = c.paths.invariant.writes state stands in
    (state, stands, before.way)

pub list_node-requires-in-Some-clause-leads : goal.list_node-requires-in-Some-clause-leads
list_node-requires-in-Some-clause-leads g c =
    let (state, stands) = c.requires.stands in
    let (entries, before, written) = c.paths.invariant.writes state stands in
    (state, stands, (c.in-Some.ensures.steps state stands before.way).leads)

pub list_node-requires-in-Some-clause-within : goal.list_node-requires-in-Some-clause-within
list_node-requires-in-Some-clause-within g c =
    within_by c.args.volume.now.index c.paths.places.items c.next_inode.new.places.items c.paths.invariant.within c.in-Some.ensures.places

pub paths-smaller-in-Continue-branch-2 : goal.paths-smaller-in-Continue-branch-2
paths-smaller-in-Continue-branch-2 g c =
    let volume = c.args.volume.now in
    let device = g.P.Pm.view c.args.pm.now in
    let (state, stands) = c.requires.stands in
    let tree = is_tree volume device state stands in
    let (entries, before, written) = c.paths.invariant.writes state stands in
    let onto = c.in-Some.ensures.steps state stands before.way in
    let into = c.in_ok-list_node-2.ensures.steps state stands onto.leads in
    let few = few_places state.tree tree (inodes_of volume.size) c.list_node-in-Some.new.places.items (numbered volume device state stands) into.way.way in
    nearer_into volume.index (inodes_of volume.size) c.in-Some.inode c.paths.places.items c.next_inode.new.places.items c.list_node-in-Some.new.places.items
    c.in-Some.ensures.places c.in_ok-list_node-2.ensures.places few

pub paths-preserved-in-Continue-branch-2 : goal.paths-preserved-in-Continue-branch-2
paths-preserved-in-Continue-branch-2 g c = record {
  writes = λ state stands.
      let (entries, before, written) = c.paths.invariant.writes state stands in
      let onto = c.in-Some.ensures.steps state stands before.way in
      let into = c.in_ok-list_node-2.ensures.steps state stands onto.leads in
      let e : Route × ℕ = (route_through state.tree c.next_inode.new.places.items, c.in-Some.inode) in
      let first = lines_text state.tree entries in
      let line : List ℕ = line_text (entry_words state.tree e) in (
        entries ++ e ∷ [],
        before_one state.tree entries c.paths.places.items c.next_inode.new.places.items c.list_node-in-Some.new.places.items c.in-Some.inode before onto into,
        writes_as _ _ _ _ (first ++ line) (lines_text state.tree (entries ++ e ∷ [])) _ (sym (lines_one state.tree entries e))
            (writes_then (g.K.Sink.took c.args.sink.now) (g.K.Sink.took c.paths.sink) (g.K.Sink.took c.list_node-in-Some.new.sink) _ _ _ first line tt _ written
            (c.in_ok-list_node-2.ensures.writes state stands onto.leads)),
      );
  within =
      within_into c.args.volume.now.index c.in-Some.inode c.next_inode.new.places.items c.list_node-in-Some.new.places.items
      (within_by c.args.volume.now.index c.paths.places.items c.next_inode.new.places.items c.paths.invariant.within c.in-Some.ensures.places) c.in_ok-list_node-2.ensures.places;
  room = c.in_ok-list_node-2.ensures.room ∙ c.in-Some.ensures.room ∙ c.paths.invariant.room;
}

pub returns-in_err-list_node-2-clause-writes : goal.returns-in_err-list_node-2-clause-writes
returns-in_err-list_node-2-clause-writes g c = λ state stands.
    let tree = is_tree c.args.volume.now (g.P.Pm.view c.args.pm.now) state stands in
    let (entries, before, written) = c.paths.invariant.writes state stands in
    let onto = c.in-Some.ensures.steps state stands before.way in
    let e : Route × ℕ = (route_through state.tree c.next_inode.new.places.items, c.in-Some.inode) in
    let first = lines_text state.tree entries in
    let line : List ℕ = line_text (entry_words state.tree e) in
    let broken = c.from_residual-in_err-list_node-2 in
    let (rest, split) = lines_split state.tree entries c.paths.places.items c.next_inode.new.places.items c.in-Some.inode tree before onto in
    writes_as _ _ _ _ ((first ++ line) ++ rest) (listing_text state.tree) broken.result (sym split)
    (writes_broken (first ++ line) rest broken.result broken.ensures.0
    (writes_then (g.K.Sink.took c.args.sink.now) (g.K.Sink.took c.paths.sink) (g.K.Sink.took c.list_node-in-Some.new.sink) _ _ _ first line tt _ written
    (c.in_err-list_node-2.ensures.writes state stands onto.leads)))

pub paths-smaller : goal.paths-smaller
paths-smaller g c = nearer_up c.args.volume.now.index (inodes_of c.args.volume.now.size) c.paths.places.items c.next_inode.new.places.items c.in_default.ensures.places

pub paths-preserved : goal.paths-preserved
paths-preserved g c = record {
  writes = λ state stands.
      let (entries, before, written) = c.paths.invariant.writes state stands in
      (entries, before_up state.tree entries c.paths.places.items c.next_inode.new.places.items before (c.in_default.ensures.steps state stands before.way), written);
  within = within_up c.args.volume.now.index c.paths.places.items c.next_inode.new.places.items c.paths.invariant.within c.in_default.ensures.places;
  room = c.in_default.ensures.room ∙ c.paths.invariant.room;
}
