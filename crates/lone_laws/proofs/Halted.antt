-- A turn of the only session whose fence fails, and those behind it.
use Rattle.std.proofs.Common.{◌≡◌, ℕ, ◌+◌, true, List, [], ◌∷◌, length, map, None, Some, Ok, Err, refl, sym, ap, subst, ◌∙◌}
use Rattle.std.proofs.lemmas.Option.{same_Some}
use Rattle.tree_model.specs.Run.{State, Line, LineFails}
use Rattle.tree_model.specs.Step.{Answer, Fault, Stopped}
use Rattle.tree_model.specs.declared.reply.Reply.TheVariants as replies
use Rattle.image_reading.specs.Residue.{Residue, no_residue}
use Rattle.image_counts.specs.Laws.{supply_beside}
use Rattle.volume.specs.Volume.{VolumeView}
use Rattle.session_lines.specs.Turns.{next_line}
use Rattle.session_laws.specs.Calls.{Call, call_at, left_of_all}
use Rattle.sessions.specs.Steps.{IsFencedChange, number_in}
use Rattle.sessions.specs.Tasks.{task_in}
use Rattle.schedules.specs.Borders.{AllStand}
use Rattle.schedules.specs.Turns.{Border, Turn, AreTurns, border_behind}
use Rattle.lone_laws.proofs.Lines.{IsLone, TakesLines, has_ended, lone_behind}
use Rattle.lone_laws.proofs.OneCall.{may_fail_free, nothing_left}
use Rattle.lone_laws.proofs.Phases.{IsCarried, Stands}

-- ---- the fence fails

fails_at : (P : ℕ) (others : Residue) (history : State) (line : Line) → others ≡ no_residue → IsFencedChange (supply_beside P others) history line → LineFails P history line Fault
fails_at P others history (Ok c) none (changing, id, entered, enters, some) = record {
  accepted = may_fail_free P history (supply_beside P others) c (ap (supply_beside P) none) changing enters.accepted;
  answered = refl;
}
fails_at P others history (Err fault) none accepted = absurd accepted

fails_on : (P : ℕ) (base : State) (old : Border) (line : Line) → AllStand old → next_line old.left.lines 0 ≡ Some line → (call : Call) → call_at old.calls 0 ≡ Some call → IsCarried P base call
    → LineFails P base line Fault
fails_on P base old line all line_is call runs carried =
    subst (λ (l : Line). LineFails P base l Fault) (same_Some (Ok call.command) line (sym (all.same 0 call runs) ∙ line_is)) (record { accepted = carried.may_fail; answered = refl })

-- A call that began in it is of an accepted change, and so is one that ran.
pub fails_alone : (P : ℕ) (base : State) (old : Border) (line : Line) → old.weave.volume.size ≡ P → AllStand old → length old.weave.tasks ≡ 1 → next_line old.left.lines 0 ≡ Some line
    → (call_at old.calls 0 ≡ None → IsFencedChange (supply_beside old.weave.volume.size (left_of_all old.weave.volume old.calls)) old.history line) → Stands P base old
    → LineFails P base line Fault
fails_alone P base old line size all one line_is accepted (Stands.idle none same counted) =
    subst (λ (s : State). LineFails P s line Fault) same (subst (λ (n : ℕ). LineFails n old.history line Fault) size
    (fails_at old.weave.volume.size (left_of_all old.weave.volume old.calls) old.history line (nothing_left old.weave old.device old.calls old.history all.weaving one none) (accepted none)))
fails_alone P base old line size all one line_is accepted (Stands.waits call runs carried waits same counted) = fails_on P base old line all line_is call runs carried
fails_alone P base old line size all one line_is accepted (Stands.has_entry call runs carried committed step counted) = fails_on P base old line all line_is call runs carried

-- ---- behind it

-- each line is answered so
abbrev pub AreStopped : List Line → List Answer → Type 0
AreStopped taken answers = answers ≡ map (λ (line : Line). Stopped) taken

pub stopped_alone : (schedule : List ℕ) (count : ℕ) (now : Border) (turns : List Turn) → IsLone now → now.weave.volume.stopped ≡ true → AreTurns schedule count now turns
    → TakesLines AreStopped now turns × ((border_behind now turns).weave.volume.stopped ≡ true)
stopped_alone schedule count now [] lone halted are = (record { taken = []; lines = refl; answers = []; given = refl; texts = refl }, halted)
stopped_alone schedule count now (turn ∷ turns) lone halted (is, later) =
    let still = (is.still halted).still in
    let (rest, stays) = stopped_alone schedule (count + 1) turn.behind turns (lone_behind schedule count now turn lone is) (ap (λ (volume : VolumeView). volume.stopped) still.volume ∙ halted) later in (
      has_ended schedule count now turn lone is (number_in now.weave.begun (task_in now.weave.tasks turn.session)) replies.Stopped Stopped still.told refl AreStopped AreStopped turns
          (λ taken answers stopped. ap (λ (rest : List Answer). Stopped ∷ rest) stopped)
          rest,
      stays,
    )
