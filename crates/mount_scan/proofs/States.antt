-- The state that a sound image reads as, and that a mount keeps.
use Rattle.std.proofs.Common.{List, ℕ}
use Rattle.pm_trait.specs.DeviceView.{DeviceView}
use Rattle.pm_trait.proofs.DeviceLaws.{leaves_weaker}
use Rattle.tree_model.specs.Run.{State}
use Rattle.image_reading.specs.Reading.{ReadsAs}
use Rattle.image_reading.specs.Soundness.{IsCoherent}
use Rattle.image_laws.specs.Frame.{IsSoundAs, SameMeaning}
use Rattle.image_laws.proofs.Trees.{tree_law}
use Rattle.image_laws.proofs.Rooms.{room_law}
use Rattle.volume.specs.Crashes.{MeansState}
use Rattle.mount_scan.specs.Mounts.{KeepsMeaning, KeepsState}

-- what means the same as words that read as this state reads as it
pub same_reads : (P : ℕ) (W image : List ℕ) (state : State) → ReadsAs P W state → SameMeaning P W image → ReadsAs P image state
same_reads P W image state reads same = record { tree = same.reads state.tree reads.tree; room = same.room state.room reads.room }

-- and means it where it is sound
means_state : (P : ℕ) (W image : List ℕ) (state : State) → ReadsAs P W state → IsSoundAs P W image → MeansState P state image
means_state P W image state reads kept = record { sound = kept.sound; reads = same_reads P W image state reads kept.same }

-- an image whose words fit together reads as some state
pub some_state : (P : ℕ) (W : List ℕ) → IsCoherent P W → (state : State) × ReadsAs P W state
some_state P W coherent =
    let (T, tree, form) = tree_law P W coherent in
    let (room, has) = room_law P W coherent in
    let state : State = record { tree = T; room = room } in
    (state, record { tree = tree; room = has })

pub state_kept : {P : ℕ} {before after : DeviceView} (state : State) → ReadsAs P before.words state → KeepsMeaning P before after → KeepsState P state before after
state_kept {P} {before} {after} state reads keeps = record {
  any_moment = leaves_weaker (λ acks image h. (h.0, means_state P before.words image state reads h.1)) keeps.any_moment;
  no_ack = keeps.no_ack;
  acks = keeps.acks;
}
