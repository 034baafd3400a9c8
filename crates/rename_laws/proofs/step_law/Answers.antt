use Rattle.rename_laws.proofs.Differs.{difference_law}
use Rattle.rename_laws.proofs.FullSource.{full_source_law}
use Rattle.rename_laws.proofs.MovedRoom.{moved_room_law}
use Rattle.rename_laws.proofs.MovedStep.{move_step_law, move_gives_law}
use Rattle.rename_laws.proofs.step_law.Goals as goal

pub returns-clause-room : goal.returns-clause-room
returns-clause-room c = moved_room_law

pub returns-clause-step : goal.returns-clause-step
returns-clause-step c = move_step_law

pub returns-clause-gives : goal.returns-clause-gives
returns-clause-gives c = move_gives_law

pub returns-clause-full : goal.returns-clause-full
returns-clause-full c = full_source_law

pub returns-clause-differs : goal.returns-clause-differs
returns-clause-differs c = difference_law
