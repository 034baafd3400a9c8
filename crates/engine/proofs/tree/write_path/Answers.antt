use Rattle.std.proofs.Common.{◌+◌, ◌++◌, [], take, sym, arith}
use Rattle.std.specs.Prelude.{flat_map, slice_index_or}
use Rattle.io_edge.proofs.BytesLaws.{writes_then, writes_as, writes_broken}
use Rattle.script.specs.Entries.{below_text}
use Rattle.script.specs.Texts.{path_text}
use Rattle.image_reading.specs.Residue.{no_residue}
use Rattle.volume.proofs.Beside.{stands_beside}
use Rattle.engine.specs.Places.{route_through}
use Rattle.engine.proofs.NextPlaces.{within_at}
use Rattle.engine.proofs.PathTexts.{element, path_more, path_split}
use Rattle.engine.proofs.PlaceLaws.{way_at, passed_at}
use Rattle.engine.proofs.Told.{directory_within}
use Rattle.engine.proofs.tree.write_path.Goals as goal

pub overflow_sub-place : goal.overflow_sub-place
overflow_sub-place g c =
    let (device, state, stands, way, passed) = c.requires.way in
    let got = element c.args.places.now c.loop-place.place-index (record { directory = 0; next = 0 }) c.loop-place-test.true in
    passed_at c.args.places.now c.loop-place.place-index _ passed got

pub nth-requires-clause-from_one : goal.nth-requires-clause-from_one
nth-requires-clause-from_one g c =
    let (device, state, stands, way, passed) = c.requires.way in
    let got = element c.args.places.now c.loop-place.place-index (record { directory = 0; next = 0 }) c.loop-place-test.true in
    (directory_within c.args.volume.now device _ (stands_beside stands) (way_at state.tree [] c.args.places.now c.loop-place.place-index _ way got).directory).0

pub nth-requires-clause-in_range : goal.nth-requires-clause-in_range
nth-requires-clause-in_range g c =
    let (device, state, stands, way, passed) = c.requires.way in
    let got = element c.args.places.now c.loop-place.place-index (record { directory = 0; next = 0 }) c.loop-place-test.true in
    (directory_within c.args.volume.now device _ (stands_beside stands) (way_at state.tree [] c.args.places.now c.loop-place.place-index _ way got).directory).1

pub nth-requires-clause-place : goal.nth-requires-clause-place
nth-requires-clause-place g c =
    let (device, state, stands, way, passed) = c.requires.way in
    let got = element c.args.places.now c.loop-place.place-index (record { directory = 0; next = 0 }) c.loop-place-test.true in
    let within = within_at c.args.volume.now.index c.args.places.now c.loop-place.place-index _ c.requires.within got in
    let some = passed_at c.args.places.now c.loop-place.place-index _ passed got in
    omega (arith, within, some)

pub returns-in_err-write_below : goal.returns-in_err-write_below
returns-in_err-write_below g c = λ device state stands way passed.
    let places = c.args.places.now in
    let k = c.loop-place.place-index in
    let place = slice_index_or places k (record { directory = 0; next = 0 }) in
    let got = element places k (record { directory = 0; next = 0 }) c.loop-place-test.true in
    let at = way_at state.tree [] places k place way got in
    let name = c.nth.ensures.name device state no_residue (stands_beside stands) at.directory in
    let written = flat_map below_text (route_through state.tree (take k places)) in
    let (rest, split) = path_split state.tree places k place c.nth.result.now.name got name in
    writes_as _ _ _ _ ((written ++ below_text c.nth.result.now.name) ++ rest) (path_text (route_through state.tree places)) c.from_residual.result (sym split)
    (writes_broken (written ++ below_text c.nth.result.now.name) rest c.from_residual.result c.from_residual.ensures.0
    (writes_then (g.K.Sink.took c.args.sink.now) (g.K.Sink.took c.loop-place.sink) (g.K.Sink.took c.write_below.new.sink) _ _ _ written (below_text c.nth.result.now.name) tt _ (c.loop-place.invariant.writes device state stands way passed) c.in_err-write_below.ensures))

pub loop-place-preserved : goal.loop-place-preserved
loop-place-preserved g c = record {
  writes = λ device state stands way passed.
      let places = c.args.places.now in
      let k = c.loop-place.place-index in
      let place = slice_index_or places k (record { directory = 0; next = 0 }) in
      let got = element places k (record { directory = 0; next = 0 }) c.loop-place-test.true in
      let at = way_at state.tree [] places k place way got in
      let name = c.nth.ensures.name device state no_residue (stands_beside stands) at.directory in
      let written = flat_map below_text (route_through state.tree (take k places)) in
      writes_as _ _ _ _ (written ++ below_text c.nth.result.now.name) (flat_map below_text (route_through state.tree (take (k + 1) places))) _ (sym (path_more state.tree places k place c.nth.result.now.name got name))
      (writes_then (g.K.Sink.took c.args.sink.now) (g.K.Sink.took c.loop-place.sink) (g.K.Sink.took c.write_below.new.sink) _ _ _ written (below_text c.nth.result.now.name) tt _ (c.loop-place.invariant.writes device state stands way passed) c.in_ok-write_below.ensures);
}
