use Rattle.layout.proofs.GeometryLaws.{in_range}
use Rattle.layout.proofs.geometry.addresses_in_range.Goals as goal

pub returns : goal.returns
returns c pages size = in_range pages
