use Rattle.plan_laws.proofs.plan_room_law.Goals as goal
use Rattle.plan_laws.proofs.PlanRooms as lemmas

pub returns : goal.returns
returns c = lemmas.plan_room_law
