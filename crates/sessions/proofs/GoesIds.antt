-- The inode that a call gives to a node which it makes is one of the volume's, and not that of the root.
use Rattle.std.proofs.Common.{◌≡◌, inl, ℕ, ◌≤◌, zero, suc, refl, sym, ap, subst, ◌∙◌, arith}
use Rattle.pm_trait.specs.DeviceView.{DeviceView}
use Rattle.layout.specs.Geometry.{inodes_of}
use Rattle.layout.specs.declared.kinds.NodeKind.{NodeKind}
use Rattle.layout.specs.declared.kinds.NodeKind.TheVariants.{File as AFile, Directory as ADirectory}
use Rattle.tree_model.specs.PathText.{Route}
use Rattle.tree_model.specs.Run.{State}
use Rattle.tree_model.specs.declared.command.Command.{Command}
use Rattle.tree_model.specs.declared.command.Command.TheVariants.{Link, Write, Truncate}
use Rattle.naming_laws.specs.Naming.{inode_need}
use Rattle.image_reading.specs.Counts.{IsIn}
use Rattle.image_reading.specs.Reading.{Reached}
use Rattle.image_reading.specs.Residue.{Residue}
use Rattle.image_counts.proofs.Paths.{root_reached}
use Rattle.weave_laws.specs.Joined.{joined}
use Rattle.volume.specs.Beside.{StandsBeside}
use Rattle.volume.specs.Volume.{VolumeView}
use Rattle.volume.specs.declared.plan.NewEntry.{NewEntry}
use Rattle.create_ops.specs.declared.run.Stage.{Stage}
use Rattle.create_ops.specs.declared.run.Stage.TheVariants.{Begun, Written, Claimed}
use Rattle.data_ops.specs.declared.truncate.Stage.{Stage as ResizeStage}
use Rattle.data_ops.specs.declared.truncate.Stage.TheVariants.{Nothing as SizeKept, Growing as GrowsBySize, Cutting}
use Rattle.data_ops.specs.declared.write.Stage.{Stage as WriteStage}
use Rattle.data_ops.specs.declared.write.Stage.TheVariants.{Nothing as NothingWritten, Inside, Growing as GrowsByWrite}
use Rattle.running_calls.specs.declared.running.Running.{Running}
use Rattle.running_calls.specs.declared.running.Running.TheVariants.{Makes, Links, Removes, Moves, Writes, Resizes}
use Rattle.waiting_laws.specs.Removing as removing
use Rattle.running_laws.specs.Steps.{given_inode}
use Rattle.running_laws.specs.Waits.{left_by, Waits}

-- where a node is new, its id is one of the volume's from 2 on
abbrev pub IsInRange : ℕ → Command → ℕ → Type 0
IsInRange P command id = inode_need command ≡ 1 → (2 ≤ id) × (id ≤ inodes_of P)

-- none is, where the command makes no node
pub makes_none : (P : ℕ) (command other : Command) (id : ℕ) → command ≡ other → inode_need other ≡ 0 → IsInRange P command id
makes_none P command other id same none = λ one. absurd (let need = sym one ∙ ap inode_need same ∙ none in omega (arith, need))

pub no_removal_makes : (kind : NodeKind) (path : Route) → inode_need (removing.of_kind kind path) ≡ 0
no_removal_makes AFile path = refl
no_removal_makes ADirectory path = refl

-- an inode that a call has left isn't the root's, which is reached
not_root : (volume : VolumeView) (device : DeviceView) (words : State) (residue : Residue) (i : ℕ) → StandsBeside volume device words residue → IsIn i residue.inodes → i ≡ 1 → ⊥
not_root volume device words residue i stands among is =
    let reached = root_reached volume.size device.words stands.sound.coherent in
    ((stands.beside.of_inodes.each i).0 among).unreached (subst (λ (k : ℕ). Reached volume.size device.words k) (sym is) reached)

module _ (volume : VolumeView) (device : DeviceView) (words : State) (command : Command) (others : Residue) where
  entry_bounds : (entry : NewEntry) (stage : Stage) → Waits volume device words command (Makes (record { entry = entry; stage = stage })) others
      → (1 ≤ entry.inode) × (entry.inode ≤ inodes_of volume.size)
  entry_bounds entry Begun waits = absurd waits.2.name
  entry_bounds entry (Written node) waits = let is = waits.2.words.0 in (is.least, is.most)
  entry_bounds entry (Claimed node) waits = let is = waits.2.words.0 in (is.least, is.most)

  write_makes_none : (stage : WriteStage) → Waits volume device words command (Writes stage) others → IsInRange volume.size command 0
  write_makes_none NothingWritten waits = absurd waits
  write_makes_none (Inside writing) waits = absurd waits
  write_makes_none (GrowsByWrite writing progress) (path, bytes, same, there, at, some, growing) = makes_none volume.size command (Write path writing.offset bytes) 0 same refl

  resize_makes_none : (stage : ResizeStage) → Waits volume device words command (Resizes stage) others → IsInRange volume.size command 0
  resize_makes_none SizeKept waits = absurd waits
  resize_makes_none (GrowsBySize resizing progress) (path, same, there, bounded, growing) = makes_none volume.size command (Truncate path resizing.new_size) 0 same refl
  resize_makes_none (Cutting resizing progress) (path, same, cutting) = makes_none volume.size command (Truncate path resizing.new_size) 0 same refl

  pub in_range : (running : Running) → Waits volume device words command running others → IsInRange volume.size command (given_inode running)
  in_range (Makes running) waits =
      let with = waits.2.beside in
      let bounds = entry_bounds running.entry running.stage waits in
      let least = bounds.0 in
      let root = not_root volume device words (joined (left_by volume (Makes running)) others) running.entry.inode with.stands (inl refl) in
      λ one. (from_two running.entry.inode least root, bounds.1)
    where
      from_two : (i : ℕ) → 1 ≤ i → (i ≡ 1 → ⊥) → 2 ≤ i
      from_two zero least other = absurd (omega (arith, least))
      from_two (suc zero) least other = absurd (other refl)
      from_two (suc (suc i)) least other = omega arith
  in_range (Links running) (from, path, same, waits) = makes_none volume.size command (Link from path) 0 same refl
  in_range (Removes running) (path, same, waits) =
      makes_none volume.size command (removing.of_kind running.removal.loss.kind path) 0 same (no_removal_makes running.removal.loss.kind path)
  in_range (Moves running) waits = absurd waits
  in_range (Writes running) waits = write_makes_none running waits
  in_range (Resizes running) waits = resize_makes_none running waits
