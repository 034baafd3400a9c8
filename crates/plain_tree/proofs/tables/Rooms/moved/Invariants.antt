use Rattle.std.proofs.Common.{◌≡◌, take}
use Rattle.plain_tree.specs.Entries.{pages_moved}
use Rattle.plain_tree.proofs.RoomLaws.{listed}
use Rattle.plain_tree.proofs.tables.Rooms.moved.Given as goal

abbrev pub invariant-loop-entry : goal.invariant-loop-entry
invariant-loop-entry l = l.pages.items ≡ listed (pages_moved l.self l.moves.gaining l.moves.losing l.moves.taken l.gives) (take l.entry-index l.entry-items)
