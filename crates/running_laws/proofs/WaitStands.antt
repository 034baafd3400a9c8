-- A call that waits, whatever its command: it stands beside what it has left and the others, what it has left lies in what it holds, and it may go on.
use Rattle.std.proofs.Common.{◌≡◌, ℕ, List, [], sym, ap, subst}
use Rattle.pm_trait.specs.DeviceView.{DeviceView}
use Rattle.pm_trait.specs.Unfolds.{events_in}
use Rattle.tree_model.specs.Run.{State}
use Rattle.tree_model.specs.PathText.{Route}
use Rattle.tree_model.specs.declared.command.Command.{Command}
use Rattle.tree_model.specs.declared.command.Command.TheVariants.{Write}
use Rattle.image_reading.specs.Residue.{Residue}
use Rattle.volume.specs.Volume.{VolumeView}
use Rattle.volume.specs.Stages.{HasKept}
use Rattle.volume.specs.declared.plan.Writing.{Writing}
use Rattle.data_ops.specs.Cutting.{growth_to}
use Rattle.data_ops.specs.Writing.{growth_of}
use Rattle.data_ops.specs.WriteStages as writes
use Rattle.data_ops.specs.WriteStages.{IsWriteAt}
use Rattle.data_ops.specs.declared.grow.Progress.{Progress}
use Rattle.data_ops.specs.declared.truncate.Stage.TheVariants.{Nothing as SizeKept, Growing as GrowsBySize, Cutting}
use Rattle.data_ops.specs.declared.write.Stage.TheVariants.{Nothing as NothingWritten, Inside, Growing as GrowsByWrite}
use Rattle.running_calls.specs.declared.running.Running.TheVariants.{Makes, Links, Removes, Moves, Writes, Resizes}
use Rattle.waiting_laws.specs.Growing.{WaitsToGrow}
use Rattle.waiting_laws.proofs.CuttingWaits.{cut_holds_law}
use Rattle.waiting_laws.proofs.GrowingHeld.{growth_holds_law}
use Rattle.waiting_laws.proofs.LinkingHolds.{linking_holds, linking_stands}
use Rattle.waiting_laws.proofs.MakingHolds.{making_holds, making_stands}
use Rattle.waiting_laws.proofs.RemovingHolds.{removing_holds_law}
use Rattle.waiting_laws.proofs.RemovingStands.{removing_stands_law}
use Rattle.running_laws.specs.Waits.{bytes_of_command, StandsBesideLaw, HoldsLaw, StandsLaw}

pub stands_beside_law : StandsBesideLaw
stands_beside_law volume device state command (Makes running) others (path, is, waits) = waits.beside
stands_beside_law volume device state command (Links running) others (from, path, is, waits) = waits.beside
stands_beside_law volume device state command (Removes running) others (path, is, waits) = waits.beside
stands_beside_law volume device state command (Moves running) others none = absurd none
stands_beside_law volume device state command (Writes NothingWritten) others none = absurd none
stands_beside_law volume device state command (Writes (Inside writing)) others none = absurd none
stands_beside_law volume device state command (Writes (GrowsByWrite writing progress)) others (path, bytes, is, at, writes, some, waits) = waits.beside
stands_beside_law volume device state command (Resizes SizeKept) others none = absurd none
stands_beside_law volume device state command (Resizes (GrowsBySize resizing progress)) others (path, is, at, bounded, waits) = waits.beside
stands_beside_law volume device state command (Resizes (Cutting resizing progress)) others (path, is, waits) = waits.beside

pub holds_law : HoldsLaw
holds_law volume device state command (Makes running) others (path, is, waits) = making_holds volume device state path running others waits
holds_law volume device state command (Links running) others (from, path, is, waits) = linking_holds volume device state from path running others waits
holds_law volume device state command (Removes running) others (path, is, waits) = removing_holds_law volume device state running others waits
holds_law volume device state command (Moves running) others none = absurd none
holds_law volume device state command (Writes NothingWritten) others none = absurd none
holds_law volume device state command (Writes (Inside writing)) others none = absurd none
holds_law volume device state command (Writes (GrowsByWrite writing progress)) others (path, bytes, is, at, writes, some, waits) =
    growth_holds_law volume device state (growth_of writing) bytes writing.new_pages progress others waits
holds_law volume device state command (Resizes SizeKept) others none = absurd none
holds_law volume device state command (Resizes (GrowsBySize resizing progress)) others (path, is, at, bounded, waits) =
    growth_holds_law volume device state (growth_to resizing) [] resizing.new_pages progress others waits
holds_law volume device state command (Resizes (Cutting resizing progress)) others (path, is, waits) = cut_holds_law volume device state resizing progress others waits

-- ---- it may go on

-- a write does, with the bytes of its command
growing_stands : (volume : VolumeView) (device : DeviceView) (state : State) (command : Command) (path : Route) (writing : Writing) (bytes : List ℕ) (progress : Progress)
    (others : Residue) → command ≡ Write path writing.offset bytes → IsWriteAt volume writing bytes
    → WaitsToGrow volume device state (growth_of writing) bytes writing.new_pages progress others
    → HasKept volume device (events_in (writes.left_of volume.size (bytes_of_command command) (GrowsByWrite writing progress)))
    → writes.StandsStage volume device (bytes_of_command command) (GrowsByWrite writing progress)
growing_stands volume device state command path writing bytes progress others is at waits =
    let May : List ℕ → Type 0 = λ b. HasKept volume device (events_in (writes.left_of volume.size b (GrowsByWrite writing progress)))
    → writes.StandsStage volume device b (GrowsByWrite writing progress) in
    subst May (sym (ap bytes_of_command is))
    (λ kept. record { going = waits.beside.going; whole = waits.beside.stands.knows.whole; at = (at, waits.at, waits.knows); kept = kept })

pub stands_law : StandsLaw
stands_law volume device state command (Makes running) others (path, is, waits) kept = making_stands volume device state path running others waits kept
stands_law volume device state command (Links running) others (from, path, is, waits) kept = linking_stands volume device state from path running others waits kept
stands_law volume device state command (Removes running) others (path, is, waits) kept = removing_stands_law volume device state running others waits kept
stands_law volume device state command (Moves running) others none kept = absurd none
stands_law volume device state command (Writes NothingWritten) others none kept = absurd none
stands_law volume device state command (Writes (Inside writing)) others none kept = absurd none
stands_law volume device state command (Writes (GrowsByWrite writing progress)) others (path, bytes, is, at, written, some, waits) kept =
    growing_stands volume device state command path writing bytes progress others is written waits kept
stands_law volume device state command (Resizes SizeKept) others none kept = absurd none
stands_law volume device state command (Resizes (GrowsBySize resizing progress)) others (path, is, at, bounded, waits) kept =
    record { going = waits.beside.going; whole = waits.beside.stands.knows.whole; at = (bounded, waits.at, waits.knows); kept = kept }
stands_law volume device state command (Resizes (Cutting resizing progress)) others (path, is, waits) kept =
    record { going = waits.beside.going; whole = waits.beside.stands.knows.whole; at = waits.at; kept = kept }
