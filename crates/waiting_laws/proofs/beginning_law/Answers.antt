use Rattle.waiting_laws.proofs.BeginsApart.{begins_apart_law}
use Rattle.waiting_laws.proofs.BeginsEnough.{own_enough_law}
use Rattle.waiting_laws.proofs.BeginsIdle.{idle_law}
use Rattle.waiting_laws.proofs.BeginsTorn.{torn_keeps}
use Rattle.waiting_laws.proofs.beginning_law.Goals as goal

pub returns-clause-apart : goal.returns-clause-apart
returns-clause-apart c = begins_apart_law

pub returns-clause-enough : goal.returns-clause-enough
returns-clause-enough c = own_enough_law

pub returns-clause-idle : goal.returns-clause-idle
returns-clause-idle c = idle_law

pub returns-clause-torn : goal.returns-clause-torn
returns-clause-torn c = λ P I J old new i offset bytes inodes tears apart. torn_keeps P I J old new i offset bytes inodes tears.file tears apart
