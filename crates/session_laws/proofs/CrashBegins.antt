-- A crash in the first step of a call leaves the history so far, or where the step commits the one with its command, but for bytes of running ranges.
use Rattle.std.proofs.Common.{◌≡◌, inl, inr, ℕ, Bool, true, false, List, ◌∷◌, ◌++◌, Option, Some, None, refl, sym, subst}
use Rattle.pm_trait.specs.DeviceView.{DeviceView}
use Rattle.tree_model.specs.Run.{State}
use Rattle.tree_model.specs.declared.command.Command.{Command}
use Rattle.image_reading.specs.Residue.{no_residue}
use Rattle.image_counts.specs.Laws.{supply_beside}
use Rattle.image_laws.specs.Quiet.{IsMix}
use Rattle.mixing_laws.specs.Mixed.{Range}
use Rattle.volume.specs.Volume.{VolumeView}
use Rattle.volume.specs.declared.plan.Action.{Action}
use Rattle.running_laws.specs.Waits.{bytes_of_command}
use Rattle.running_laws.specs.Crashes.{CrashIs, FirstCrashLaw}
use Rattle.running_laws.specs.Steps.{IsAfter, commits, given_inode, range_of}
use Rattle.session_laws.specs.Calls.{Call, Calls, left_of_all, listed_range, ranges_of_all, CallsWait}
use Rattle.session_laws.specs.Going.{IsReadyAmong, IsCallOf}
use Rattle.session_laws.specs.Histories.{IsHistory, IsCrashOf, MayBeLeft, BeginCrashLaw}
use Rattle.session_laws.proofs.CrashLeaves.{crash_before, crash_kept, crash_torn}
use Rattle.session_laws.proofs.HistoryBegins.{begin_enters, begin_stores}

module _ (volume : VolumeView) (device : DeviceView) (words history : State) (calls : Calls) (command : Command) (action : Action) (call : Call) (J M : List ℕ)
    (wait : CallsWait volume device words no_residue calls) (ready : IsReadyAmong volume device words command action calls) (of : IsCallOf words command action call calls)
    (is : IsHistory (ranges_of_all calls) history words) (mix : IsMix device.words J M) where
  torn : (range : Range) → range_of (bytes_of_command command) call.running ≡ Some range
      → CrashIs false (Some range) volume.size device.words J words command (given_inode call.running)
      → IsCrashOf volume.size M (range ∷ ranges_of_all calls) history
  torn range writes tears =
      crash_torn volume.size device.words J M words wait.beside.stands.reads mix range (range ∷ ranges_of_all calls) history
      (begin_stores volume device words history calls command action call wait ready of is range writes) tears

  left : (is_commit : Bool) (o : Option Range) → commits call.running ≡ is_commit → range_of (bytes_of_command command) call.running ≡ o
      → CrashIs is_commit o volume.size device.words J words command (given_inode call.running)
      → MayBeLeft volume.size (listed_range o ++ ranges_of_all calls) (supply_beside volume.size (left_of_all volume calls)) is_commit command (given_inode call.running) history M
  left true None commit writes crash = elim (crash.crash M mix) [
    | inl before ↦ inl (subst (λ (I : List ℕ). IsCrashOf volume.size I (ranges_of_all calls) history) (sym before)
        (crash_before volume.size device.words words (ranges_of_all calls) history wait.beside.stands.sound wait.beside.stands.reads is))
    | inr behind ↦
        let stepped = crash.stepped in
        let after : IsAfter words stepped.new command (given_inode call.running) = record { tree = stepped.tree; room = stepped.room } in
        let (entered, new, now) = begin_enters volume device words history calls command action call wait ready of is stepped.new commit after in
        inr (
          refl,
          entered,
          new,
          subst (λ (I : List ℕ). IsCrashOf volume.size I (ranges_of_all calls) entered) (sym behind)
              (crash_before volume.size J stepped.new (ranges_of_all calls) entered crash.sound stepped.reads now),
        )
  ]
  left true (Some range) commit writes crash = inl (torn range writes crash.1)
  left false None commit writes crash = inl (crash_kept volume.size device.words J M words wait.beside.stands.reads mix (ranges_of_all calls) history is crash)
  left false (Some range) commit writes crash = inl (torn range writes crash)

pub begin_crash_law : FirstCrashLaw → BeginCrashLaw
begin_crash_law first volume device words history calls command action call J M wait ready of is makes mix =
    let id = given_inode call.running in
    let supply = supply_beside volume.size (left_of_all volume calls) in
    let ranges : Command → List Range = λ c. listed_range (range_of (bytes_of_command c) call.running) ++ ranges_of_all calls in
    subst (λ (c : Command). MayBeLeft volume.size (ranges c) supply (commits call.running) command id history M) (sym of.command_is)
    (left volume device words history calls command action call J M wait ready of is mix (commits call.running) (range_of (bytes_of_command command) call.running) refl refl
    (first volume device words command action call.running (left_of_all volume calls) J ready.ready of.some of.running of.beside makes))
