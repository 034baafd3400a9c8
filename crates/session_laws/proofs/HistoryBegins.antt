-- A call begins: its first step enters its command into the history where it commits, and else stores at most bytes of its range.
use Rattle.std.proofs.Common.{◌≡◌, ℕ, ◌≤◌, ◌<◌, Bool, true, false, cond, IsTrue, List, ◌∷◌, ◌++◌, length, set, Option, Some, None, is_some, refl, sym, ap, subst, ◌∙◌, arith}
use Rattle.pm_trait.specs.DeviceView.{DeviceView}
use Rattle.tree_model.specs.Allowed.{is_mix}
use Rattle.tree_model.specs.Tree.{Node, node_at, bytes_of}
use Rattle.tree_model.specs.Step.{with_bytes}
use Rattle.tree_model.specs.Run.{State, IsVolumeState}
use Rattle.tree_model.specs.declared.command.Command.{Command}
use Rattle.naming_laws.specs.Naming.{names_inode}
use Rattle.image_reading.specs.Counts.{IsIn}
use Rattle.image_reading.specs.Residue.{no_residue}
use Rattle.image_counts.specs.Laws.{supply_beside}
use Rattle.mixing_laws.specs.Mixed.{Range, files_of, IsMixed}
use Rattle.mixing_laws.proofs.Does.{does_alike_law}
use Rattle.mixing_laws.proofs.Mixes.{stored_below_law}
use Rattle.mixing_laws.proofs.Ranges.{more_mixed_law}
use Rattle.volume.specs.Volume.{VolumeView}
use Rattle.volume.specs.declared.next.Next.{Next}
use Rattle.volume.specs.declared.plan.Action.{Action}
use Rattle.running_calls.specs.declared.running.Running.{Running}
use Rattle.running_calls.specs.Stages.{IsNext}
use Rattle.running_laws.specs.Waits.{bytes_of_command}
use Rattle.running_laws.specs.Steps.{IsAfter, MeansFirst, MeansUncommitted, commits, given_inode, range_of}
use Rattle.session_laws.specs.Calls.{Call, Calls, call_at, left_of_all, listed_range, ranges_of_all, CallsWait}
use Rattle.session_laws.specs.Going.{IsReadyAmong, IsCallOf, next_call}
use Rattle.session_laws.specs.Histories.{IsHistory, HistoryBeginsLaw}
use Rattle.session_laws.proofs.HistoryApart.{named_by, volume_state, free_file}
use Rattle.session_laws.proofs.HistoryEnters.{Enters, enters}
use Rattle.session_laws.proofs.HistoryNext.{range_next, ranges_next, range_behind}
use Rattle.session_laws.proofs.HistoryPlans.{PlansRange, planned_range, begun_given}
use Rattle.session_laws.proofs.HistoryRanges.{history_from_front}
use Rattle.session_laws.proofs.Lists.{without_idle}

-- id 0 is no node's
pub zero_unused : (volume : ℕ) (state : State) → IsVolumeState volume state → node_at state.tree 0 ≡ None
zero_unused volume state valid = none (node_at state.tree 0) refl
  where
    none : (o : Option Node) → node_at state.tree 0 ≡ o → o ≡ None
    none None is = refl
    none (Some node) is = let one : 1 ≤ 0 = (valid.fits.ids 0 (ap is_some is)).0 in absurd (omega (arith, one))

module _ (volume : VolumeView) (device : DeviceView) (words history : State) (calls : Calls) (command : Command) (action : Action) (call : Call)
    (wait : CallsWait volume device words no_residue calls) (ready : IsReadyAmong volume device words command action calls) (of : IsCallOf words command action call calls)
    (is : IsHistory (ranges_of_all calls) history words) where
  valid : IsVolumeState volume.size words
  valid = volume_state volume device words no_residue calls wait

  apart : (i : ℕ) → names_inode words.tree command i ≡ true → ¬ IsIn i (files_of (ranges_of_all calls))
  apart i names = free_file volume device words no_residue calls wait call.named of.free i (named_by volume.size words command call.named valid of.named i names)

  plans : (range : Range) → range_of (bytes_of_command command) call.running ≡ Some range → PlansRange words command range
  plans range writes =
      let planned = ready.ready.planned in
      let supply = supply_beside volume.size (left_of_all volume calls) in
      planned_range volume.size device.words words valid supply command action call.running range planned.accepted planned.plan_is of.running writes

  pub begin_enters : (later : State) → commits call.running ≡ true → IsAfter words later command (given_inode call.running)
      → Enters (supply_beside volume.size (left_of_all volume calls)) (ranges_of_all calls) history later command (given_inode call.running)
  begin_enters later commit after =
      let id = given_inode call.running in
      let supply = supply_beside volume.size (left_of_all volume calls) in
      let accepted = ready.ready.planned.accepted in
      let unused = ap (node_at words.tree) (begun_given action call.running of.running commit) ∙ zero_unused volume.size words valid in
      enters supply (ranges_of_all calls) (ranges_of_all calls) history words later command id is accepted unused
      (does_alike_law volume.size supply id (ranges_of_all calls) history.tree words.tree words.room command valid accepted unused apart is.tree) after

  -- bytes of its range are stored
  pub begin_stores : (range : Range) → range_of (bytes_of_command command) call.running ≡ Some range → (mixed : List ℕ)
      → IsTrue (is_mix range.offset range.bytes 0 (bytes_of words.tree range.file) mixed) → (later : State) → later.tree ≡ with_bytes words.tree range.file mixed
      → later.room ≡ words.room
      → IsHistory (range ∷ ranges_of_all calls) history later
  begin_stores range writes mixed mix later tree room =
      let plan = plans range writes in
      record {
        tree = subst (IsMixed (range ∷ ranges_of_all calls) history.tree) (sym tree)
            (more_mixed_law (ranges_of_all calls) range history.tree words.tree mixed is.tree (apart range.file plan.named) plan.file mix);
        room = room ∙ is.room;
      }

  uncommitted : (later : State) (o : Option Range) → range_of (bytes_of_command command) call.running ≡ o → MeansUncommitted o words later
      → IsHistory (listed_range o ++ ranges_of_all calls) history later
  uncommitted later None writes same = subst (IsHistory (ranges_of_all calls) history) (sym same) is
  uncommitted later (Some range) writes stored =
      begin_stores range writes _ (stored_below_law range.offset range.bytes (bytes_of words.tree range.file)) later stored.tree stored.room

  module _ (s : ℕ) (next : Next Running) (idle : call_at calls s ≡ None) (below : s < length calls) (behind : IsNext call.running next) where
    among : (o : Option Range) (before now : State) → range_next (bytes_of_command call.command) next ≡ o → IsHistory (listed_range o ++ ranges_of_all calls) before now
        → IsHistory (ranges_of_all (set calls s (next_call call next))) before now
    among o before now left history_is =
        let ranges = sym (ranges_next call next ∙ ap listed_range left) in
        let others = sym (without_idle calls s idle) in
        history_from_front calls s (next_call call next) before now below
        (subst (λ (l : List Range). IsHistory l before now) (λ k. ranges k ++ ranges_of_all (others k)) history_is)

    left_if : (b : Bool) → commits call.running ≡ b → range_next (bytes_of_command call.command) next ≡ cond b None (range_of (bytes_of_command command) call.running)
    left_if b commit =
        range_behind (bytes_of_command call.command) call.running next behind
        ∙ (λ k. cond (commit k) None (range_of (bytes_of_command (of.command_is k)) call.running))

pub history_begins_law : HistoryBeginsLaw
history_begins_law volume device words later history calls s command action call next wait idle below ready of behind is means = record {
  quiet = λ no.
      let bytes = bytes_of_command command in
      among volume device words history calls command action call wait ready of is s next idle below behind (range_of bytes call.running) history later
      (left_if volume device words history calls command action call wait ready of is s next idle below behind false no)
      (uncommitted volume device words history calls command action call wait ready of is later (range_of bytes call.running) refl
      (subst (λ b. MeansFirst b (range_of bytes call.running) words later command (given_inode call.running)) no means));
  enters = λ yes.
      let (entered, new, now) = begin_enters volume device words history calls command action call wait ready of is later yes
      (subst (λ b. MeansFirst b (range_of (bytes_of_command command) call.running) words later command (given_inode call.running)) yes means) in (
        entered,
        new,
        among volume device words history calls command action call wait ready of is s next idle below behind None entered later
            (left_if volume device words history calls command action call wait ready of is s next idle below behind true yes) now,
      );
}
