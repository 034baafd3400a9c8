use Rattle.script.proofs.PlaceLaws.{first_is}
use Rattle.script.proofs.places.first_place.Goals as goal

pub returns : goal.returns
returns c = first_is c.args.wanted c.args.bytes.now c.memchr.result c.memchr.ensures
