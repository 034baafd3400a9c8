-- A crash in a later step of a call leaves the history so far, or where the step commits the one with its command, but for bytes of running ranges.
use Rattle.std.proofs.Common.{◌≡◌, inl, inr, ℕ, Bool, true, false, List, ◌++◌, Option, Some, None, refl, sym, ap, subst, ◌∙◌}
use Rattle.pm_trait.specs.DeviceView.{DeviceView}
use Rattle.tree_model.specs.PathText.{Route}
use Rattle.tree_model.specs.Accepted.{IsFileAt, Accepted}
use Rattle.tree_model.specs.Capacity.{Supply}
use Rattle.tree_model.specs.Tree.{Tree, File, id_at, node_at, is_file, is_file_node}
use Rattle.tree_model.specs.Step.{refusal_with, tree_after}
use Rattle.tree_model.specs.Run.{State, IsVolumeState}
use Rattle.tree_model.specs.declared.command.Command.{Command}
use Rattle.tree_model.proofs.AcceptedLaws.{Accepted-from_row}
use Rattle.tree_model.proofs.TreeKept.{same_some}
use Rattle.image_reading.specs.Residue.{no_residue}
use Rattle.image_counts.specs.Laws.{supply_beside}
use Rattle.image_laws.specs.Quiet.{IsMix}
use Rattle.mixing_laws.specs.Mixed.{Range, IsOfRange}
use Rattle.mixing_laws.proofs.Ranges.{unmixed_law}
use Rattle.volume.specs.Volume.{VolumeView}
use Rattle.running_laws.specs.Waits.{bytes_of_command}
use Rattle.running_laws.specs.Crashes.{CrashIs, LaterCrashLaw}
use Rattle.running_laws.specs.Steps.{IsAfter, commits, given_inode, range_of}
use Rattle.session_laws.specs.Calls.{Call, Calls, call_at, without, left_of_all, listed_range, ranges_of_all, CallsWait}
use Rattle.session_laws.specs.Histories.{IsHistory, IsCrashOf, MayBeLeft, GoOnCrashLaw}
use Rattle.session_laws.proofs.CrashLeaves.{crash_before, crash_kept}
use Rattle.session_laws.proofs.HistoryApart.{IsRangeOf, volume_state, call_range, names_range, other_file}
use Rattle.session_laws.proofs.HistoryGoes.{goes_enters}
use Rattle.session_laws.proofs.HistoryNext.{not_committed}
use Rattle.session_laws.proofs.HistoryRanges.{history_with_call}

-- ---- a file that was written is one still

module _ (supply : Supply) (state : State) (id : ℕ) where
  file_at : (T : Tree) (path : Route) (i : ℕ) (source : IsFileAt state.tree path) (bytes : List ℕ) → id_at state.tree path ≡ Some i → node_at T source.id ≡ Some (File bytes)
      → is_file T i ≡ true
  file_at T path i source bytes named written = ap (is_file T) (same_some i source.id (sym named ∙ source.named)) ∙ ap is_file_node written

  written : (range : Range) (path : Route) (command : Command) → IsOfRange range path command → Accepted supply state.tree state.room command
      → id_at state.tree path ≡ Some range.file
      → is_file (tree_after id state.tree command) range.file ≡ true
  written range path command (IsOfRange.write some) a named = file_at (tree_after id state.tree command) path range.file a.source _ named (a.written id)
  written range path command (IsOfRange.truncate size empty) a named = file_at (tree_after id state.tree command) path range.file a.source _ named (a.written id)

  file_still : (volume : VolumeView) (call : Call) (range : Range) → IsVolumeState volume.size state → refusal_with supply state.tree state.room call.command ≡ None
      → IsRangeOf volume state call.command call.running range → is_file (tree_after id state.tree call.command) range.file ≡ true
  file_still volume call range valid accepted of =
      written range of.path call.command of.writes (Accepted-from_row supply state.tree state.room call.command valid.tree accepted) of.named

-- ---- the crash

module _ (volume : VolumeView) (device : DeviceView) (words history : State) (calls : Calls) (s : ℕ) (call : Call) (J M : List ℕ)
    (wait : CallsWait volume device words no_residue calls) (runs : call_at calls s ≡ Some call) (is : IsHistory (ranges_of_all calls) history words)
    (mix : IsMix device.words J M) where
  -- its own range is written, and nothing of it is mixed
  with_own : (entered later : State) → commits call.running ≡ true → IsAfter words later call.command (given_inode call.running)
      → IsHistory (ranges_of_all (without calls s)) entered later
      → (o : Option Range) → range_of (bytes_of_command call.command) call.running ≡ o → IsHistory (listed_range o ++ ranges_of_all (without calls s)) entered later
  with_own entered later commit after now None writes = now
  with_own entered later commit after now (Some range) writes =
      let others = ranges_of_all (without calls s) in
      let of = call_range volume device words no_residue calls wait s call runs range writes in
      let named = names_range volume device words no_residue calls wait s call runs range writes in
      let to_come = (wait.each s call runs).to_come (not_committed call.running commit) in
      let supply = supply_beside volume.size (left_of_all volume (without calls s)) in
      let file = ap (λ (T : Tree). is_file T range.file) after.tree
      ∙ file_still supply words (given_inode call.running) volume call range (volume_state volume device words no_residue calls wait) to_come.accepted of in
      record {
        tree = unmixed_law others range entered.tree later.tree now.tree (other_file volume device words no_residue calls wait s call runs range.file named) file;
        room = now.room;
      }

  left : (is_commit : Bool) → commits call.running ≡ is_commit → CrashIs is_commit None volume.size device.words J words call.command (given_inode call.running)
      → MayBeLeft volume.size (ranges_of_all calls) (supply_beside volume.size (left_of_all volume (without calls s))) is_commit call.command (given_inode call.running) history M
  left true commit crash = elim (crash.crash M mix) [
    | inl before ↦ inl (subst (λ (I : List ℕ). IsCrashOf volume.size I (ranges_of_all calls) history) (sym before)
        (crash_before volume.size device.words words (ranges_of_all calls) history wait.beside.stands.sound wait.beside.stands.reads is))
    | inr behind ↦
        let stepped = crash.stepped in
        let after : IsAfter words stepped.new call.command (given_inode call.running) = record { tree = stepped.tree; room = stepped.room } in
        let (entered, new, now) = goes_enters volume device words history calls s call wait runs is stepped.new commit after in
        let all = history_with_call calls s call entered stepped.new runs
        (with_own entered stepped.new commit after now (range_of (bytes_of_command call.command) call.running) refl) in
        inr (
          refl,
          entered,
          new,
          subst (λ (I : List ℕ). IsCrashOf volume.size I (ranges_of_all calls) entered) (sym behind)
              (crash_before volume.size J stepped.new (ranges_of_all calls) entered crash.sound stepped.reads all),
        )
  ]
  left false commit crash = inl (crash_kept volume.size device.words J M words wait.beside.stands.reads mix (ranges_of_all calls) history is crash)

pub go_on_crash_law : LaterCrashLaw → GoOnCrashLaw
go_on_crash_law later volume device words history calls s call J M wait runs is makes mix =
    left volume device words history calls s call J M wait runs is mix (commits call.running) refl
    (later volume device words call.command call.running _ J (wait.each s call runs).waits makes)
