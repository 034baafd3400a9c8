-- The pages that a planned write and a planned change of a size take are free, and those that they cut are there.
use Rattle.std.proofs.Common.{◌≡◌, ℕ, ◌≤◌, true, List, length, Option, Some, sym, ap, ◌∙◌, arith}
use Rattle.pm_trait.specs.DeviceView.{DeviceView}
use Rattle.layout.specs.Geometry.{pieces}
use Rattle.layout.specs.Fields.{inode_size}
use Rattle.tree_model.specs.Tree.{node_at, is_file_node, bytes_of, bytes_of_node}
use Rattle.tree_model.specs.Capacity.{untaken}
use Rattle.tree_model.specs.Step.{refusal_of, need}
use Rattle.tree_model.specs.Run.{State}
use Rattle.tree_model.specs.declared.command.Command.{Command}
use Rattle.tree_model.specs.declared.command.Command.TheVariants.{Write, Truncate}
use Rattle.tree_model.proofs.AcceptedLaws.{Accepted-from_row}
use Rattle.image_reading.specs.Reading.{Reached, pages_of_size}
use Rattle.image_reading.specs.Residue.{no_residue}
use Rattle.image_reading.proofs.Counts.{count_one}
use Rattle.image_reading.proofs.Tidied.{tidied}
use Rattle.image_counts.specs.Entries.{IsPageIn, IsUnusedDataPage}
use Rattle.image_counts.proofs.Nodes.{size_law}
use Rattle.image_counts.proofs.Tidied.{file_pages_law}
use Rattle.volatile_index.specs.Index.{inodes_of_index, pages_of}
use Rattle.volume.specs.Volume.{VolumeView}
use Rattle.volume.specs.Stands.{StandsFor}
use Rattle.volume.specs.Lowest.{AreLowestOf}
use Rattle.volume.specs.Carried.{IsPlanFor}
use Rattle.volume.specs.Entered.{MayTakePages, MayLosePages}
use Rattle.volume.specs.declared.plan.Writing.{Writing}
use Rattle.volume.specs.declared.plan.Resizing.{Resizing}
use Rattle.volume.specs.declared.plan.Action.TheVariants.{Write as WriteBytes, Resize}
use Rattle.volume.proofs.Walked.{stands_tree, reached_at, in_table, in_index}
use Rattle.volume.proofs.Beside.{stands_beside}
use Rattle.volume.proofs.Places.{page_free}
use Rattle.volume.proofs.PageLists.{pages_counted}
use Rattle.volume.proofs.LowestPages.{rising_distinct}
use Rattle.volume.proofs.ContentPlans.{planned_writing, planned_resizing}
use Rattle.volume.proofs.PlanActions.{directory_within}
use Rattle.volume.proofs.PlannedRemovals.{page_taken}

same_some : (x y : ℕ) → ◌≡◌ {A = Option ℕ} (Some x) (Some y) → x ≡ y
same_some x y e = cc

module _ (volume : VolumeView) (device : DeviceView) (state : State) where
  may_take : (n : ℕ) (pages : List ℕ) → StandsFor volume device state → AreLowestOf (IsUnusedDataPage volume.size device.words) n pages → MayTakePages volume pages
  may_take n pages stands lowest = record {
    once = rising_distinct pages lowest.rising;
    free = λ page there. page_free volume device (state, no_residue, stands_beside stands) page (lowest.each page there);
  }

  pub may_take_written : (command : Command) (writing : Writing) → IsPlanFor volume device state command (WriteBytes writing) → MayTakePages volume writing.new_pages
  may_take_written command writing plan =
      let (path, offset, bytes, is, for) = planned_writing volume.size device.words state command writing plan.planned.plan_is in
      may_take (need state.tree state.room (Write path offset bytes)) writing.new_pages plan.stands for.new_pages

  pub may_take_resized : (command : Command) (resizing : Resizing) → IsPlanFor volume device state command (Resize resizing) → MayTakePages volume resizing.new_pages
  may_take_resized command resizing plan =
      let (path, size, is, for) = planned_resizing volume.size device.words state command resizing plan.planned.plan_is in
      may_take (need state.tree state.room (Truncate path size)) resizing.new_pages plan.stands for.new_pages

  -- the file is one of the index
  pub written_in_index : (command : Command) (writing : Writing) → IsPlanFor volume device state command (WriteBytes writing) → (1 ≤ writing.inode) × (writing.inode ≤ inodes_of_index volume.index)
  written_in_index command writing plan = directory_within volume device state no_residue (stands_beside plan.stands) command (WriteBytes writing) plan.planned

  pub resized_in_index : (command : Command) (resizing : Resizing) → IsPlanFor volume device state command (Resize resizing) → (1 ≤ resizing.inode) × (resizing.inode ≤ inodes_of_index volume.index)
  resized_in_index command resizing plan = directory_within volume device state no_residue (stands_beside plan.stands) command (Resize resizing) plan.planned

  -- a file has as many pages as its size asks for
  pages_held : (inode : ℕ) (bytes : List ℕ) → StandsFor volume device state → Reached volume.size device.words inode → is_file_node (node_at state.tree inode) ≡ true → length (bytes_of state.tree inode) ≡ inode_size device.words inode
      → length (pages_of volume.index inode) ≡ pieces (length (bytes_of state.tree inode)) 4096
  unfolding pages_of_size
  pages_held inode bytes stands reached is_file long =
      let (least, most) = in_table volume device inode (state, stands) reached in
      let file = (((size_law volume.size device.words state (tidied stands.tidy).coherent stands.reads).files inode).0 is_file).1 in
      count_one (IsPageIn volume.size device.words inode) (length (pages_of volume.index inode)) (pages_of_size (inode_size device.words inode))
      (pages_counted volume device inode (state, stands) least most)
      (file_pages_law volume.size device.words state (tidied stands.tidy) stands.reads inode reached file)
      ∙ ap (λ n. pieces n 4096) (sym long)

  pub may_lose_cut : (command : Command) (resizing : Resizing) → IsPlanFor volume device state command (Resize resizing) → MayLosePages volume resizing.inode resizing.cut
  may_lose_cut command resizing plan =
      let stands = plan.stands in
      let (path, size, is, for) = planned_resizing volume.size device.words state command resizing plan.planned.plan_is in
      let accepted = ap (refusal_of volume.size state.tree state.room) (sym is) ∙ plan.planned.accepted in
      let found = Accepted-from_row (untaken volume.size) state.tree state.room (Truncate path size) (stands_tree volume device state stands) accepted in
      let same = same_some resizing.inode found.source.id (sym for.inode_is ∙ found.source.named) in
      let reached = reached_at volume device state path resizing.inode stands for.inode_is in
      let node = ap (node_at state.tree) same ∙ found.source.file in
      let long = ap (λ o. length (bytes_of_node o)) node ∙ (size_law volume.size device.words state (tidied stands.tidy).coherent stands.reads).sizes resizing.inode found.source.bytes node in
      let held = pages_held resizing.inode found.source.bytes stands reached (ap is_file_node node) long in
      let (least, most) = in_table volume device resizing.inode (state, stands) reached in
      let old = for.old_is in
      let cut = for.cut_is in
      record {
        least = least;
        most = (in_index volume device resizing.inode (state, stands) reached).1;
        enough = let before = ap (λ n. pieces n 4096) old in omega (arith, held, before, cut);
        once = stands.knows.nodes.once resizing.inode least most;
        pages_taken = λ page there. page_taken volume device state stands resizing.inode page least ((stands.knows.nodes.pages resizing.inode page least most).0 there);
      }
