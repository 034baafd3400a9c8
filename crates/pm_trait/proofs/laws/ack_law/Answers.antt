use Rattle.std.proofs.Common.{refl, arith}
use Rattle.pm_trait.proofs.AckLaws.{settled_ack, leaves_ack, acks_ack}
use Rattle.pm_trait.proofs.laws.ack_law.Goals as goal

pub returns : goal.returns
returns c = λ now trail settled. record {
  settled = settled_ack refl refl settled;
  leaves = leaves_ack _ settled refl (omega arith, refl) (omega arith, refl);
  acknowledged = acks_ack _ settled refl (refl, refl);
}
