-- The status that tells an end of a run.
use Rattle.std.proofs.Common.{◌≡◌, ℕ, List, Option, None, length, ◌+◌, refl, sym, ap, ◌∙◌, arith}
use Rattle.std.specs.Prelude.{Some}
use Rattle.std.proofs.lemmas.List.{length-append}
use Rattle.script.specs.declared.run_end.RunEnd.{RunEnd}
use Rattle.script.specs.declared.run_end.RunEnd.TheVariants as run_end
use Rattle.squirrel_cli.specs.declared.status.Status.{Status}
use Rattle.squirrel_cli.specs.declared.status.Status.TheVariants as status
use Rattle.engine.specs.Session.{SessionView, on}
use Rattle.engine.specs.Script.{HasCause, LeavesRun}
use Rattle.squirrel_cli.specs.Causes.{TellsFaults}
use Rattle.squirrel_cli.specs.Seen.{Seen}
use Rattle.squirrel_cli.specs.Ends.{end_of, GaveAll, IsShortScript}

pub ends_as : {is other : Status} {end wanted : RunEnd} → end_of is ≡ Some end → is ≡ other → end_of other ≡ Some wanted → end ≡ wanted
ends_as ended same other_ends = let e = sym ended ∙ ap end_of same ∙ other_ends in cc e

-- a short script does not reach the limit
pub not_at_limit : (before after : Option (List ℕ)) → IsShortScript before → GaveAll before after → ⊥
not_at_limit None after short gave = short
not_at_limit (Some bytes) None short gave = gave
not_at_limit (Some bytes) (Some rest) short (given, e, long) =
    let whole : length bytes ≡ length given + length rest = ap length e ∙ length-append given rest in
    omega (arith, whole, long, short)

-- the status tells a failed read and a failed write alone
pub tells_read_fault : (is : Status) → end_of is ≡ Some run_end.ReadFault → is ≡ status.ReadFault
tells_read_fault status.Done e = absurd (cc e)
tells_read_fault status.Usage e = absurd (cc e)
tells_read_fault status.NoMemory e = absurd (cc e)
tells_read_fault status.NotVolume e = absurd (cc e)
tells_read_fault (status.Damaged violation) e = absurd (cc e)
tells_read_fault status.DeviceFault e = absurd (cc e)
tells_read_fault status.ReadFault e = refl
tells_read_fault status.WriteFault e = absurd (cc e)
tells_read_fault status.ScriptLimit e = absurd (cc e)

pub tells_write_fault : (is : Status) → end_of is ≡ Some run_end.WriteFault → is ≡ status.WriteFault
tells_write_fault status.Done e = absurd (cc e)
tells_write_fault status.Usage e = absurd (cc e)
tells_write_fault status.NoMemory e = absurd (cc e)
tells_write_fault status.NotVolume e = absurd (cc e)
tells_write_fault (status.Damaged violation) e = absurd (cc e)
tells_write_fault status.DeviceFault e = absurd (cc e)
tells_write_fault status.ReadFault e = absurd (cc e)
tells_write_fault status.WriteFault e = refl
tells_write_fault status.ScriptLimit e = absurd (cc e)

-- a status tells the causes of the end of the run
pub status_cause : {S K : Type 0} (before after : Seen S K) {old new : SessionView} (is : Status) (end : RunEnd) → end_of is ≡ Some end
    → HasCause end before.read_faults after.read_faults before.write_faults after.write_faults → LeavesRun end (on old before.device) (on new after.device) → TellsFaults before after is
status_cause before after is end ended cause leaves = record {
  device = λ same. leaves.faulted (ends_as ended same refl);
  done = λ same. (leaves.done (ends_as ended same refl)).0;
  no_memory = λ same. absurd (let told = sym (ap end_of same) ∙ ended in cc told);
  read = λ same. cause.read (ends_as ended same refl);
  no_read_fault = λ not. cause.no_read_fault (λ e. not (tells_read_fault is (ended ∙ ap Some e)));
  write = λ same. cause.write (ends_as ended same refl);
  no_write_fault = λ not. cause.no_write_fault (λ e. not (tells_write_fault is (ended ∙ ap Some e)));
}
