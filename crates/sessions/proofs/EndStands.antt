-- Where no session runs a call, the volume stands for the history.
use Rattle.std.proofs.Common.{subst, ◌∙◌}
use Rattle.pm_trait.specs.DeviceView.{DeviceView}
use Rattle.tree_model.specs.Run.{State}
use Rattle.image_reading.specs.Residue.{Residue}
use Rattle.volume.specs.Volume.{VolumeView}
use Rattle.volume.specs.Beside.{StandsBeside}
use Rattle.volume.specs.Stands.{StandsFor}
use Rattle.volume.proofs.Beside.{beside_stands}
use Rattle.session_laws.specs.Calls.{AreIdle, Calls, ranges_of_all}
use Rattle.session_laws.proofs.Lists.{left_idle, events_idle}
use Rattle.sessions.specs.Interleave.{InterleaveView, AllWait, idle, beside, alone, HaveEnded}
use Rattle.sessions.proofs.CarryLists.{ranges_idle, same_history}

words_stand : (volume : VolumeView) (device : DeviceView) (words : State) (calls : Calls) → AllWait volume device words calls → AreIdle calls → StandsFor volume device words
words_stand volume device words calls (idle none going kept stands) free = beside_stands stands kept
words_stand volume device words calls (beside wait kept) free =
    beside_stands (subst (λ (left : Residue). StandsBeside volume device words left) (left_idle volume calls free) wait.beside.stands) (kept ∙ events_idle volume calls free)
words_stand volume device words calls (alone s call waits begun) free = let none = free s in let runs = waits.runs in cc

pub ended_stands : (weave : InterleaveView) (device : DeviceView) (history : State) → HaveEnded weave device history → StandsFor weave.volume device history
ended_stands weave device history (calls, weaving, free) =
    subst (StandsFor weave.volume device) (same_history (ranges_of_all calls) history weaving.words (ranges_idle calls free) weaving.history_is)
    (words_stand weave.volume device weaving.words calls weaving.waits free)
