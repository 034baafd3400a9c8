-- The file of a running range is held by its call, and named by it. So a command that is free of the calls names none of these files, and two
-- ranges have two files.
use Rattle.std.proofs.Common.{◌≡◌, inl, inr, ℕ, true, [], Option, Some, None, refl, sym, subst, true≢false}
use Rattle.pm_trait.specs.DeviceView.{DeviceView}
use Rattle.tree_model.specs.PathText.{Route}
use Rattle.tree_model.specs.Tree.{Node, id_at, node_at, is_file, is_file_node}
use Rattle.tree_model.specs.Run.{State, IsVolumeState}
use Rattle.tree_model.specs.declared.command.Command.{Command}
use Rattle.tree_model.specs.declared.command.Command.TheVariants.{Write, Truncate}
use Rattle.tree_model.proofs.TreeKept.{same_some}
use Rattle.naming_laws.specs.Naming.{names_inode}
use Rattle.naming_laws.proofs.Named.{present_named}
use Rattle.image_reading.specs.Counts.{IsIn}
use Rattle.image_reading.specs.Residue.{Residue}
use Rattle.image_counts.proofs.States.{state_law}
use Rattle.mixing_laws.specs.Mixed.{Range, files_of, IsOfRange}
use Rattle.mixing_laws.proofs.Ranges.{range_or_not}
use Rattle.weave_laws.specs.Joined.{joined}
use Rattle.volume.specs.Volume.{VolumeView}
use Rattle.volume.specs.Named.{AreNamedBy}
use Rattle.volume.specs.declared.named.NamedNodes.{NamedNodes}
use Rattle.volume.specs.declared.named.NamedNodes.TheVariants.{All, These}
use Rattle.data_ops.specs.declared.write.Stage.{Stage as WriteStage}
use Rattle.data_ops.specs.declared.write.Stage.TheVariants.{Nothing as NothingWritten, Inside, Growing as GrowsByWrite}
use Rattle.data_ops.specs.declared.truncate.Stage.{Stage as ResizeStage}
use Rattle.data_ops.specs.declared.truncate.Stage.TheVariants.{Nothing as SizeKept, Growing as GrowsBySize, Cutting}
use Rattle.running_calls.specs.declared.running.Running.{Running}
use Rattle.running_calls.specs.declared.running.Running.TheVariants.{Makes, Links, Removes, Moves, Writes, Resizes}
use Rattle.running_laws.specs.Waits.{held_by, bytes_of_command, Waits, WaitsToWrite, WaitsToResize}
use Rattle.running_laws.specs.Steps.{range_of, range_of_write, range_of_resize}
use Rattle.session_laws.specs.Calls.{Call, Calls, call_at, without, ranges_of_all, left_of_all, IsNamed, CallsWait}
use Rattle.session_laws.specs.Going.{AreFree}
use Rattle.session_laws.proofs.Lists.{call_kept}
use Rattle.session_laws.proofs.HistoryRanges.{call_of_range}

-- ---- the file of a range

-- The call holds it, and it is a file at a path to which the command writes the range, or gives a size.
pub record IsRangeOf (volume : VolumeView) (state : State) (command : Command) (running : Running) (range : Range) : Type 0 where
  pub held : IsIn range.file (held_by volume running).inodes
  pub file : is_file state.tree range.file ≡ true
  pub path : Route
  pub named : id_at state.tree path ≡ Some range.file
  pub writes : IsOfRange range path command

pub none_is : {X : Type 0} (range : Range) → ◌≡◌ {A = Option Range} None (Some range) → X
none_is range is = cc

module _ (volume : VolumeView) (device : DeviceView) (state : State) where
  write_range : (command : Command) (stage : WriteStage) (others : Residue) → WaitsToWrite volume device state command stage others → (range : Range)
      → range_of_write (bytes_of_command command) stage ≡ Some range → IsRangeOf volume state command (Writes stage) range
  write_range command NothingWritten others waits range is = none_is range is
  write_range command (Inside writing) others waits range is = absurd waits
  write_range command (GrowsByWrite writing progress) others (path, bytes, same, named, at, some, on) range is =
      let stage = GrowsByWrite writing progress in
      let own : Range = record { file = writing.inode; offset = writing.offset; bytes = bytes } in
      subst (λ (c : Command). range_of_write (bytes_of_command c) stage ≡ Some range → IsRangeOf volume state c (Writes stage) range) (sym same)
      (λ is. subst (IsRangeOf volume state (Write path writing.offset bytes) (Writes stage)) (same_some own range is)
      (record { held = inl refl; file = on.file; path = path; named = named; writes = IsOfRange.write some })) is

  resize_range : (command : Command) (stage : ResizeStage) (others : Residue) → WaitsToResize volume device state command stage others → (range : Range)
      → range_of_resize stage ≡ Some range → IsRangeOf volume state command (Resizes stage) range
  resize_range command SizeKept others waits range is = none_is range is
  resize_range command (Cutting resizing progress) others waits range is = none_is range is
  resize_range command (GrowsBySize resizing progress) others (path, same, named, at, on) range is =
      let stage = GrowsBySize resizing progress in
      let own : Range = record { file = resizing.inode; offset = resizing.old_size; bytes = [] } in
      subst (λ (c : Command). IsRangeOf volume state c (Resizes stage) range) (sym same)
      (subst (IsRangeOf volume state (Truncate path resizing.new_size) (Resizes stage)) (same_some own range is)
      (record { held = inl refl; file = on.file; path = path; named = named; writes = IsOfRange.truncate resizing.new_size refl }))

  pub waiting_range : (command : Command) (running : Running) (others : Residue) → Waits volume device state command running others → (range : Range)
      → range_of (bytes_of_command command) running ≡ Some range → IsRangeOf volume state command running range
  waiting_range command (Makes running) others waits range is = none_is range is
  waiting_range command (Links running) others waits range is = none_is range is
  waiting_range command (Removes running) others waits range is = none_is range is
  waiting_range command (Moves running) others waits range is = none_is range is
  waiting_range command (Writes running) others waits range is = write_range command running others waits range is
  waiting_range command (Resizes running) others waits range is = resize_range command running others waits range is

-- ---- what is named

-- a command names by its inodes
pub named_by : (volume : ℕ) (state : State) (command : Command) (named : NamedNodes) → IsVolumeState volume state → AreNamedBy state.tree command named → (i : ℕ)
    → names_inode state.tree command i ≡ true → IsNamed named i
named_by volume state command All valid all i names = (valid.fits.ids i (present_named state.tree valid.tree command i names)).0
named_by volume state command (These inodes) valid these i names = (these.1 i).1 names

no_file : (o : Option Node) → is_file_node o ≡ true → o ≡ None → ⊥
no_file None file none = true≢false (sym file)
no_file (Some node) file none = cc

module _ (volume : VolumeView) (device : DeviceView) (words : State) (own : Residue) (calls : Calls) (wait : CallsWait volume device words own calls) where
  pub volume_state : IsVolumeState volume.size words
  volume_state = state_law volume.size device.words words wait.beside.stands.sound.coherent wait.beside.stands.reads

  pub call_range : (s : ℕ) (call : Call) → call_at calls s ≡ Some call → (range : Range) → range_of (bytes_of_command call.command) call.running ≡ Some range
      → IsRangeOf volume words call.command call.running range
  call_range s call runs range is =
      waiting_range volume device words call.command call.running (joined own (left_of_all volume (without calls s))) (wait.each s call runs).waits range is

  pub names_range : (s : ℕ) (call : Call) → call_at calls s ≡ Some call → (range : Range) → range_of (bytes_of_command call.command) call.running ≡ Some range
      → IsNamed call.named range.file
  names_range s call runs range is =
      let of = call_range s call runs range is in
      elim ((wait.each s call runs).holds range.file of.held) [ inl named ↦ named | inr none ↦ absurd (no_file (node_at words.tree range.file) of.file none) ]

  -- ---- what is apart from them

  -- what a free command names is the file of no range,
  pub free_file : (named : NamedNodes) → AreFree named calls → (i : ℕ) → IsNamed named i → ¬ IsIn i (files_of (ranges_of_all calls))
  free_file named free i is among = elim (range_or_not (ranges_of_all calls) i) [
    | inl h ↦ let (range, held, same) = h in
        let (s, call, runs, of) = call_of_range calls range held in
        apart named free s call runs (subst (IsNamed call.named) same (names_range s call runs range of)) is
    | inr none ↦ none among
  ]
    where
      apart : (named : NamedNodes) → AreFree named calls → (s : ℕ) (call : Call) → call_at calls s ≡ Some call → IsNamed call.named i → IsNamed named i → ⊥
      apart All free s call runs mine is = let none = free s in cc
      apart (These inodes) free s call runs mine is = free s call runs i is mine

  -- and what a call names that of no other call's
  pub other_file : (s : ℕ) (call : Call) → call_at calls s ≡ Some call → (i : ℕ) → IsNamed call.named i → ¬ IsIn i (files_of (ranges_of_all (without calls s)))
  other_file s call runs i is among = elim (range_or_not (ranges_of_all (without calls s)) i) [
    | inl h ↦ let (range, held, same) = h in
        let (r, other, there, of) = call_of_range (without calls s) range held in
        let (differ, runs_too) = call_kept calls s r other there in
        (wait.apart s r call other differ runs runs_too).named i is (subst (IsNamed other.named) same (names_range r other runs_too range of))
    | inr none ↦ none among
  ]
