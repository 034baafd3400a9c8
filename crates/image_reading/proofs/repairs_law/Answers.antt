use Rattle.image_reading.proofs.Counts.{one_repairs}
use Rattle.image_reading.proofs.Residues.{residue_law, tidied_law}
use Rattle.image_reading.proofs.repairs_law.Goals as goal

pub returns-clause-one : goal.returns-clause-one
returns-clause-one c = one_repairs

pub returns-clause-residue : goal.returns-clause-residue
returns-clause-residue c = residue_law

pub returns-clause-tidied : goal.returns-clause-tidied
returns-clause-tidied c = tidied_law
