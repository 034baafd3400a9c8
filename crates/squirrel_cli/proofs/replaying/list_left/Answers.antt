use Rattle.squirrel_cli.proofs.Leaving.{lists_left}
use Rattle.squirrel_cli.proofs.replaying.list_left.Goals as goal

pub returns-in-Ok-clause-lists : goal.returns-in-Ok-clause-lists
returns-in-Ok-clause-lists g c = lists_left c.as_slice.ensures.value c.place_of-place.ensures.place c.acks_before.ensures c.in-Ok.ensures c.list_words.ensures.lists
