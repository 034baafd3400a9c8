use Rattle.layout.proofs.GeometryLaws.{differ}
use Rattle.layout.proofs.geometry.addresses_differ.Goals as goal

pub returns : goal.returns
returns c = differ
