use Rattle.std.proofs.Common.{◌<◌, length, arith, slice_index}
use Rattle.std.proofs.lemmas.Grind.{get_or_default_zero}
use Rattle.std.proofs.lemmas.List.{length-set}
use Rattle.pm_file.proofs.Rounds.{ListsRound, fewer_in_round, once_more, lists_more, past_more, below_more}
use Rattle.pm_file.proofs.mirror.Mirror.flush.Goals as goal

pub note-requires : goal.note-requires
note-requires g c =
    let self = c.args.self.now in
    let in_range : c.args.line < length self.rounds.items = omega (arith, self.whole_lines, c.requires) in
    let earlier : slice_index self.rounds.items c.args.line < self.round = omega (arith, c.index.ensures, c.if-index-self.true, get_or_default_zero self.rounds.items c.args.line c.index.result.now in_range) in
    let lists : ListsRound self.rounds.items self.round self.flushed.items = record { noted = self.noted; only = self.only } in
    omega (arith, fewer_in_round self.rounds.items self.flushed.items self.round c.args.line self.started in_range lists self.once earlier, self.room)

pub invariant_of-self-clause-past : goal.invariant_of-self-clause-past
invariant_of-self-clause-past g c =
    let self = c.args.self.now in
    let in_range : c.args.line < length self.rounds.items = omega (arith, self.whole_lines, c.requires) in
    past_more self.rounds.items self.round c.args.line in_range self.past

pub invariant_of-self-clause-in_range : goal.invariant_of-self-clause-in_range
invariant_of-self-clause-in_range g c =
    let self = c.args.self.now in
    let in_range : c.args.line < length self.rounds.items = omega (arith, self.whole_lines, c.requires) in
    rw c.note.ensures.items (below_more self.rounds.items self.flushed.items self.round c.args.line in_range self.in_range)

pub invariant_of-self-clause-noted : goal.invariant_of-self-clause-noted
invariant_of-self-clause-noted g c =
    let self = c.args.self.now in
    let in_range : c.args.line < length self.rounds.items = omega (arith, self.whole_lines, c.requires) in
    let lists : ListsRound self.rounds.items self.round self.flushed.items = record { noted = self.noted; only = self.only } in
    rw c.note.ensures.items (lists_more self.rounds.items self.flushed.items self.round c.args.line in_range lists).noted

pub invariant_of-self-clause-only : goal.invariant_of-self-clause-only
invariant_of-self-clause-only g c =
    let self = c.args.self.now in
    let in_range : c.args.line < length self.rounds.items = omega (arith, self.whole_lines, c.requires) in
    let lists : ListsRound self.rounds.items self.round self.flushed.items = record { noted = self.noted; only = self.only } in
    rw c.note.ensures.items (lists_more self.rounds.items self.flushed.items self.round c.args.line in_range lists).only

pub invariant_of-self-clause-once : goal.invariant_of-self-clause-once
invariant_of-self-clause-once g c =
    let self = c.args.self.now in
    let in_range : c.args.line < length self.rounds.items = omega (arith, self.whole_lines, c.requires) in
    let earlier : slice_index self.rounds.items c.args.line < self.round = omega (arith, c.index.ensures, c.if-index-self.true, get_or_default_zero self.rounds.items c.args.line c.index.result.now in_range) in
    let lists : ListsRound self.rounds.items self.round self.flushed.items = record { noted = self.noted; only = self.only } in
    rw c.note.ensures.items (once_more self.rounds.items self.flushed.items self.round c.args.line lists self.once earlier)

pub invariant_of-self-clause-room : goal.invariant_of-self-clause-room
invariant_of-self-clause-room g c =
    let self = c.args.self.now in
    let long = length-set self.rounds.items c.args.line self.round in
    omega (arith, long, self.room, c.note.ensures.capacity)
