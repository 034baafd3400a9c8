-- A call goes on: a step that commits enters its command into the history, and no other does.
use Rattle.std.proofs.Common.{◌≡◌, inl, ℕ, Bool, true, false, cond, List, ◌++◌, set, Option, Some, None, refl, sym, ap, subst, ◌∙◌}
use Rattle.pm_trait.specs.DeviceView.{DeviceView}
use Rattle.tree_model.specs.Tree.{Node, node_at}
use Rattle.tree_model.specs.Capacity.{Supply}
use Rattle.tree_model.specs.Step.{refusal_with}
use Rattle.tree_model.specs.Run.{State, IsVolumeState}
use Rattle.tree_model.specs.declared.command.Command.{Command}
use Rattle.naming_laws.specs.Naming.{names_inode}
use Rattle.image_reading.specs.Counts.{IsIn}
use Rattle.image_reading.specs.Residue.{Residue, no_residue}
use Rattle.image_counts.specs.Laws.{supply_beside}
use Rattle.mixing_laws.specs.Mixed.{Range, files_of, DoesAlike}
use Rattle.mixing_laws.proofs.Does.{does_alike_law}
use Rattle.mixing_laws.proofs.Own.{own_range_law}
use Rattle.volume.specs.Volume.{VolumeView}
use Rattle.volume.specs.declared.next.Next.{Next}
use Rattle.running_calls.specs.declared.running.Running.{Running}
use Rattle.running_calls.specs.declared.running.Running.TheVariants.{Makes, Links, Removes, Moves, Writes, Resizes}
use Rattle.running_calls.specs.Stages.{IsNext}
use Rattle.waiting_laws.specs.Beside.{StandsWith}
use Rattle.weave_laws.specs.Joined.{joined}
use Rattle.running_laws.specs.Waits.{bytes_of_command, Waits}
use Rattle.running_laws.specs.Steps.{IsAfter, Means, commits, given_inode, range_of}
use Rattle.session_laws.specs.Calls.{Call, Calls, call_at, without, left_of_all, listed_range, range_of_call, ranges_of_all, CallsWait}
use Rattle.session_laws.specs.Going.{next_call}
use Rattle.session_laws.specs.Histories.{IsHistory, HistoryGoesOnLaw}
use Rattle.session_laws.proofs.HistoryApart.{named_by, volume_state, call_range, names_range, other_file}
use Rattle.session_laws.proofs.HistoryBegins.{zero_unused}
use Rattle.session_laws.proofs.HistoryEnters.{Enters, enters}
use Rattle.session_laws.proofs.HistoryNext.{ranges_next, range_behind, not_committed}
use Rattle.session_laws.proofs.HistoryRanges.{call_below, history_from_front, history_of_call}

-- ---- the node that it makes

-- An inode that a call has left is no node's.
left_unused : (volume : VolumeView) (device : DeviceView) (state : State) (own others : Residue) → StandsWith volume device state own others → (i : ℕ)
    → IsIn i (joined own others).inodes
    → node_at state.tree i ≡ None
left_unused volume device state own others with i among = none (node_at state.tree i) refl
  where
    none : (o : Option Node) → node_at state.tree i ≡ o → o ≡ None
    none None is = refl
    none (Some node) is = absurd (((with.stands.beside.of_inodes.each i).0 among).unreached ((with.stands.reads.tree.nodes i node).0 is).0)

given_unused : (volume : VolumeView) (device : DeviceView) (state : State) (command : Command) (running : Running) (others : Residue) → IsVolumeState volume.size state
    → Waits volume device state command running others → node_at state.tree (given_inode running) ≡ None
given_unused volume device state command (Makes running) others valid (path, same, waits) = left_unused volume device state _ others waits.beside running.entry.inode (inl refl)
given_unused volume device state command (Links running) others valid waits = zero_unused volume.size state valid
given_unused volume device state command (Removes running) others valid waits = zero_unused volume.size state valid
given_unused volume device state command (Moves running) others valid waits = zero_unused volume.size state valid
given_unused volume device state command (Writes running) others valid waits = zero_unused volume.size state valid
given_unused volume device state command (Resizes running) others valid waits = zero_unused volume.size state valid

module _ (volume : VolumeView) (device : DeviceView) (words history : State) (calls : Calls) (s : ℕ) (call : Call) (wait : CallsWait volume device words no_residue calls)
    (runs : call_at calls s ≡ Some call) (is : IsHistory (ranges_of_all calls) history words) where
  valid : IsVolumeState volume.size words
  valid = volume_state volume device words no_residue calls wait

  front : IsHistory (range_of_call call ++ ranges_of_all (without calls s)) history words
  front = history_of_call calls s call history words runs is

  -- ---- its command is carried out

  own_or_none : (supply : Supply) (id : ℕ) → refusal_with supply words.tree words.room call.command ≡ None → node_at words.tree id ≡ None
      → ((i : ℕ) → names_inode words.tree call.command i ≡ true → ¬ IsIn i (files_of (ranges_of_all (without calls s))))
      → (o : Option Range) → range_of (bytes_of_command call.command) call.running ≡ o → IsHistory (listed_range o ++ ranges_of_all (without calls s)) history words
      → DoesAlike supply id words.room call.command history.tree words.tree (ranges_of_all (without calls s))
  own_or_none supply id accepted unused apart None writes mixed =
      does_alike_law volume.size supply id (ranges_of_all (without calls s)) history.tree words.tree words.room call.command valid accepted unused apart mixed.tree
  own_or_none supply id accepted unused apart (Some range) writes mixed =
      let of = call_range volume device words no_residue calls wait s call runs range writes in
      let named = names_range volume device words no_residue calls wait s call runs range writes in
      own_range_law volume.size supply id range (ranges_of_all (without calls s)) history.tree words.tree words.room of.path call.command valid of.writes of.named
      (other_file volume device words no_residue calls wait s call runs range.file named) mixed.tree

  pub goes_enters : (later : State) → commits call.running ≡ true → IsAfter words later call.command (given_inode call.running)
      → Enters (supply_beside volume.size (left_of_all volume (without calls s))) (ranges_of_all (without calls s)) history later call.command (given_inode call.running)
  goes_enters later commit after =
      let id = given_inode call.running in
      let supply = supply_beside volume.size (left_of_all volume (without calls s)) in
      let waits = wait.each s call runs in
      let to_come = waits.to_come (not_committed call.running commit) in
      let unused = given_unused volume device words call.command call.running _ valid waits.waits in
      let apart : (i : ℕ) → names_inode words.tree call.command i ≡ true → ¬ IsIn i (files_of (ranges_of_all (without calls s))) =
      λ i names. other_file volume device words no_residue calls wait s call runs i (named_by volume.size words call.command call.named valid to_come.named i names) in
      enters supply (range_of_call call ++ ranges_of_all (without calls s)) (ranges_of_all (without calls s)) history words later call.command id front to_come.accepted unused
      (own_or_none supply id to_come.accepted unused apart (range_of (bytes_of_command call.command) call.running) refl front) after

  -- ---- the ranges behind the step

  module _ (next : Next Running) (behind : IsNext call.running next) where
    among : (b : Bool) (before now : State) → commits call.running ≡ b
        → IsHistory (listed_range (cond b None (range_of (bytes_of_command call.command) call.running)) ++ ranges_of_all (without calls s)) before now
        → IsHistory (ranges_of_all (set calls s (next_call call next))) before now
    among b before now commit mixed =
        let left = range_behind (bytes_of_command call.command) call.running next behind in
        history_from_front calls s (next_call call next) before now (call_below calls s call runs)
        (subst (λ (o : List Range). IsHistory (o ++ ranges_of_all (without calls s)) before now)
        (sym (ranges_next call next ∙ ap listed_range (left ∙ ap (λ c. cond c None (range_of (bytes_of_command call.command) call.running)) commit))) mixed)

pub history_goes_on_law : HistoryGoesOnLaw
history_goes_on_law volume device words later history calls s call next wait runs behind is means = record {
  quiet = λ no.
      let same : later ≡ words = subst (λ b. Means b words later call.command (given_inode call.running)) no means in
      among volume device words history calls s call wait runs is next behind false history later no
      (subst (IsHistory (range_of_call call ++ ranges_of_all (without calls s)) history) (sym same) (front volume device words history calls s call wait runs is));
  enters = λ yes.
      let (entered, new, now) = goes_enters volume device words history calls s call wait runs is later yes
      (subst (λ b. Means b words later call.command (given_inode call.running)) yes means) in
      (entered, new, among volume device words history calls s call wait runs is next behind true entered later yes now);
}
