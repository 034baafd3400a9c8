use Rattle.std.proofs.Common.{◌<◌, ◌≤◌, ◌+◌, ◌++◌, ℕ, List, take, drop, Ok, sym, ap, ◌∙◌, arith, take_all}
use Rattle.std.specs.Prelude.{slice_get}
use Rattle.io_edge.proofs.BytesLaws.{writes_none, writes_then, writes_as, writes_broken}
use Rattle.engine.specs.Listing.{entry_text, entries_text}
use Rattle.engine.proofs.ListingLaws.{entries_more, entries_split}
use Rattle.engine.proofs.Told.{directory_within}
use Rattle.engine.proofs.listing.write_entries.Goals as goal

pub loop-k-init : goal.loop-k-init
loop-k-init g c = record { writes = λ device names lists counted. writes_none _ _ tt }

pub nth-requires-clause-from_one : goal.nth-requires-clause-from_one
nth-requires-clause-from_one g c = let (device, names, lists) = c.requires.listing in (directory_within c.args.volume.now device c.args.directory lists.stands lists.directory).0

pub nth-requires-clause-in_range : goal.nth-requires-clause-in_range
nth-requires-clause-in_range g c = let (device, names, lists) = c.requires.listing in (directory_within c.args.volume.now device c.args.directory lists.stands lists.directory).1

pub nth-requires-clause-place : goal.nth-requires-clause-place
nth-requires-clause-place g c =
    let all = c.requires.all in
    let within : c.loop-k.k < c.args.count = c.loop-k-test.true in
    omega (arith, all, within)

pub returns-in_err-write_entry : goal.returns-in_err-write_entry
returns-in_err-write_entry g c = λ device names lists counted.
    let name = ap (λ (ns : List (List ℕ)). slice_get ns c.loop-k.k) lists.names_are ∙ c.nth.ensures.name device lists.state lists.residue lists.stands lists.directory in
    let first = entries_text (take c.loop-k.k names) in
    let one = entry_text c.nth.result.now.name in
    writes_as _ _ _ _ ((first ++ one) ++ entries_text (drop (c.loop-k.k + 1) names)) (entries_text names) c.from_residual.result (sym (entries_split names c.loop-k.k c.nth.result.now.name name))
    (writes_broken (first ++ one) (entries_text (drop (c.loop-k.k + 1) names)) c.from_residual.result c.from_residual.ensures.0
    (writes_then (g.K.Sink.took c.args.sink.now) (g.K.Sink.took c.loop-k.sink) (g.K.Sink.took c.write_entry.new.sink) _ _ _ first one tt _ (c.loop-k.invariant.writes device names lists counted) c.in_err-write_entry.ensures))

pub loop-k-preserved : goal.loop-k-preserved
loop-k-preserved g c = record {
  writes = λ device names lists counted.
      let name = ap (λ (ns : List (List ℕ)). slice_get ns c.loop-k.k) lists.names_are ∙ c.nth.ensures.name device lists.state lists.residue lists.stands lists.directory in
      let first = entries_text (take c.loop-k.k names) in
      let one = entry_text c.nth.result.now.name in
      writes_as _ _ _ _ (first ++ one) (entries_text (take (c.loop-k.k + 1) names)) _ (sym (entries_more names c.loop-k.k c.nth.result.now.name name))
      (writes_then (g.K.Sink.took c.args.sink.now) (g.K.Sink.took c.loop-k.sink) (g.K.Sink.took c.write_entry.new.sink) _ _ _ first one tt _ (c.loop-k.invariant.writes device names lists counted) c.in_ok-write_entry.ensures);
}

pub returns : goal.returns
returns g c = λ device names lists counted.
    let over : c.args.count ≤ c.loop-k.k = c.loop-k-test.false in
    let whole = ap entries_text (take_all c.loop-k.k names (omega (arith, over, counted))) in
    writes_as _ _ _ _ (entries_text (take c.loop-k.k names)) (entries_text names) (Ok tt) whole (c.loop-k.invariant.writes device names lists counted)
