use Rattle.waiting_laws.proofs.CostsNaming.{making_costs, linking_costs}
use Rattle.waiting_laws.proofs.CostsRemoving.{removing_costs}
use Rattle.waiting_laws.proofs.CostsMoving.{moving_costs}
use Rattle.waiting_laws.proofs.CostsResizing.{resizing_costs}
use Rattle.waiting_laws.proofs.costs_law.Goals as goal
use Rattle.waiting_laws.proofs.CostsWriting.{writing_plan, writing_goes_on, writing_ends}

pub returns-clause-making : goal.returns-clause-making
returns-clause-making c = making_costs

pub returns-clause-linking : goal.returns-clause-linking
returns-clause-linking c = linking_costs

pub returns-clause-removing : goal.returns-clause-removing
returns-clause-removing c = removing_costs

pub returns-clause-moving : goal.returns-clause-moving
returns-clause-moving c = moving_costs

pub returns-clause-resizing : goal.returns-clause-resizing
returns-clause-resizing c = resizing_costs

pub returns-clause-writing : goal.returns-clause-writing
returns-clause-writing c = record { plan = writing_plan; goes_on = writing_goes_on; ends = writing_ends }
