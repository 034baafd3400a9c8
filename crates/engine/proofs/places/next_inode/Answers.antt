use Rattle.std.proofs.Common.{◌+◌, ◌-◌, ◌<◌, [], ◌∷◌, ◌++◌, ℕ, List, take, Some, sym, ap, subst, ◌∙◌, arith}
use Rattle.layout.specs.Geometry.{slots_of}
use Rattle.layout.specs.Fields.{slot_inode}
use Rattle.image_reading.specs.Residue.{no_residue}
use Rattle.volatile_index.specs.Index.{entries_of}
use Rattle.volume.proofs.Walked.{reached_at, slot_there, below_there}
use Rattle.volume.proofs.Beside.{stands_beside}
use Rattle.engine.specs.declared.places.Place.{Place}
use Rattle.engine.specs.Places.{IsWay, StepsOnto, StepsUp, place_at, route_through}
use Rattle.engine.proofs.NextPlaces.{contains_got, split_last, set_last, deepest, in_index, has_next}
use Rattle.engine.proofs.PlaceLaws.{steps_up, steps_onto}
use Rattle.engine.proofs.places.next_inode.Goals as goal

pub count-requires-clause-from_one : goal.count-requires-clause-from_one
count-requires-clause-from_one g c = (in_index c.args.places.now c.requires.some c.len-last.ensures c.index-place.ensures c.requires.way).0

pub count-requires-clause-in_range : goal.count-requires-clause-in_range
count-requires-clause-in_range g c = (in_index c.args.places.now c.requires.some c.len-last.ensures c.index-place.ensures c.requires.way).1

pub returns-then-place-count-clause-steps : goal.returns-then-place-count-clause-steps
returns-then-place-count-clause-steps g c = λ state stands way.
    let items = c.args.places.now.items in
    let front = take (c.len-last.result - 1) items in
    let split = split_last c.args.places.now c.requires.some c.len-last.ensures c.index-place.ensures in
    let here = deepest c.args.places.now c.requires.some c.len-last.ensures c.index-place.ensures way in
    let counted = c.count.ensures.names (g.P.Pm.view c.args.pm.now) state no_residue (stands_beside stands) here.directory in
    subst (λ (new : List Place). StepsUp state.tree items new) (ap (λ (n : ℕ). take (n - 1) items) c.len-last.ensures ∙ sym c.pop.ensures.rest)
    (subst (λ (old : List Place). StepsUp state.tree old front) (sym split)
    (steps_up state.tree front c.index-place.result.now (subst (λ (old : List Place). IsWay state.tree old) split way) (omega (arith, counted, c.if-place-count.true))))

pub nth-requires-clause-from_one : goal.nth-requires-clause-from_one
nth-requires-clause-from_one g c = (in_index c.args.places.now c.requires.some c.len-last.ensures c.index-place.ensures c.requires.way).0

pub nth-requires-clause-in_range : goal.nth-requires-clause-in_range
nth-requires-clause-in_range g c = (in_index c.args.places.now c.requires.some c.len-last.ensures c.index-place.ensures c.requires.way).1

pub nth-requires-clause-place : goal.nth-requires-clause-place
nth-requires-clause-place g c =
    omega (arith, c.count.ensures.entries, has_next c.args.places.now c.requires.some c.len-last.ensures c.index-place.ensures c.requires.way c.count.ensures.names c.if-place-count.false)

pub overflow_add-place : goal.overflow_add-place
overflow_add-place g c =
    omega (arith, c.count.type_inv, has_next c.args.places.now c.requires.some c.len-last.ensures c.index-place.ensures c.requires.way c.count.ensures.names c.if-place-count.false)

pub slot_at-requires-clause-slot_in_range : goal.slot_at-requires-clause-slot_in_range
slot_at-requires-clause-slot_in_range g c =
    let (state, stands, way) = c.requires.way in
    let place = c.index-place.result.now in
    let here = deepest c.args.places.now c.requires.some c.len-last.ensures c.index-place.ensures way in
    let device = g.P.Pm.view c.args.pm.now in
    let entry = c.nth.result.now in
    let there = contains_got (entries_of c.args.volume.now.index place.directory) place.next entry c.nth.ensures.entry in
    let reached = reached_at c.args.volume.now device state (route_through state.tree (take (c.len-last.result - 1) c.args.places.now.items)) place.directory stands here.named in
    subst (λ (pages : ℕ). entry.slot < slots_of pages) (sym c.geometry.ensures)
    (slot_there c.args.volume.now device place.directory entry.slot entry.name (state, stands) reached there)

-- the places now, as they end
pub returns-clause-places : goal.returns-clause-places
returns-clause-places g c = record {
  front = take (c.len-last.result - 1) c.args.places.now.items;
  directory = c.index-place.result.now.directory;
  next = c.index-place.result.now.next;
  within = omega (arith, c.count.ensures.entries, has_next c.args.places.now c.requires.some c.len-last.ensures c.index-place.ensures c.requires.way c.count.ensures.names c.if-place-count.false);
  old_is = split_last c.args.places.now c.requires.some c.len-last.ensures c.index-place.ensures;
  new_is = set_last c.args.places.now c.requires.some c.len-last.ensures c.index-place.ensures c.index_mut.ensures.value;
}

pub returns-clause-steps : goal.returns-clause-steps
returns-clause-steps g c = λ state stands way.
    let items = c.args.places.now.items in
    let front = take (c.len-last.result - 1) items in
    let place = c.index-place.result.now in
    let device = g.P.Pm.view c.args.pm.now in
    let here = deepest c.args.places.now c.requires.some c.len-last.ensures c.index-place.ensures way in
    let counted = c.count.ensures.names device state no_residue (stands_beside stands) here.directory in
    let low = has_next c.args.places.now c.requires.some c.len-last.ensures c.index-place.ensures c.requires.way c.count.ensures.names c.if-place-count.false in
    let split = split_last c.args.places.now c.requires.some c.len-last.ensures c.index-place.ensures in
    let new = set_last c.args.places.now c.requires.some c.len-last.ensures c.index-place.ensures c.index_mut.ensures.value in
    let entry = c.nth.result.now in
    let there = contains_got (entries_of c.args.volume.now.index place.directory) place.next entry c.nth.ensures.entry in
    let inode = c.slot_at.ensures.inode ∙ (λ i. slot_inode (c.geometry.ensures i) (c.image.ensures i) entry.slot) in
    let named = below_there c.args.volume.now device state (route_through state.tree front) place.directory entry.slot entry.name stands here.named there in
    subst (λ (ps : List Place). StepsOnto state.tree items ps c.slot_at.result.inode) (sym new)
    (subst (λ (ps : List Place). StepsOnto state.tree ps (front ++ place_at place.directory (place.next + 1) ∷ []) c.slot_at.result.inode) (sym split)
    (steps_onto state.tree front place.directory place.next c.slot_at.result.inode entry.name
    (subst (λ (ps : List Place). IsWay state.tree ps) split way)
    (omega (arith, low, counted)) (c.nth.ensures.name device state no_residue (stands_beside stands) here.directory)
    (named ∙ ap Some (sym inode))))
