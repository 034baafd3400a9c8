use Rattle.pm_memory.proofs.Tallied.{have_room_from}
use Rattle.pm_memory.proofs.tally.Tallies.of_entries.Goals as goal

pub add_before-requires : goal.add_before-requires
add_before-requires c = have_room_from c.args.entries.now c.loop-i.i c.loop-i.tallies c.requires c.loop-i.invariant.tallies
