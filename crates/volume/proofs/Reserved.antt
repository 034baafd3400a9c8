-- What stays where the index gets places.
use Rattle.std.proofs.Common.{◌≡◌, ◌↔◌, ℕ, List, Contains, Option, sym, ap, subst, ◌∙◌, arith}
use Rattle.std.specs.Prelude.{slice_get}
use Rattle.pm_trait.specs.Trail.{Trail}
use Rattle.pm_trait.specs.Device.{IsSettledAt}
use Rattle.pm_trait.specs.DeviceView.{DeviceView}
use Rattle.layout.specs.Superblock.{has_mark}
use Rattle.tree_model.specs.Run.{State}
use Rattle.tree_model.specs.declared.command.Command.{Command}
use Rattle.image_reading.specs.Counts.{IsDistinct}
use Rattle.image_reading.specs.Reading.{ReadsAs}
use Rattle.image_reading.specs.Residue.{Residue, IsTidyBeside}
use Rattle.image_reading.specs.Soundness.{Sound}
use Rattle.image_counts.specs.Entries.{IsEntryOf, IsPageIn}
use Rattle.image_counts.specs.Laws.{supply_beside}
use Rattle.volatile_index.specs.Index.{NodeView}
use Rattle.volatile_index.specs.declared.entry.Entry.{Entry}
use Rattle.volume.specs.Volume.{VolumeView}
use Rattle.volume.specs.Beside.{KnowsNodesBeside, KnowsBeside, StandsBeside}
use Rattle.volume.specs.Planned.{IsPlannedWith}
use Rattle.volume.specs.Prepared.{HasSameContents, IsSameButPlaces, IsSameButRoom}
use Rattle.volume.specs.declared.plan.Action.{Action}

-- a volume with another index that holds the same
abbrev with_index : VolumeView → List NodeView → VolumeView
with_index volume index = record { size = volume.size; index = index; inodes = volume.inodes; data_pages = volume.data_pages; stopped = volume.stopped; marked = volume.marked; kept = volume.kept }

nodes_still : (P : ℕ) (I : List ℕ) (residue : Residue) (old new : List NodeView) → HasSameContents old new → KnowsNodesBeside P old I residue → KnowsNodesBeside P new I residue
nodes_still P I residue old new same knows = record {
  each_inode = same.each_inode ∙ knows.each_inode;
  entries = λ d slot bytes least most. subst (λ (entries : List Entry). Contains entries (record { name = bytes; slot = slot }) ↔ IsEntryOf P I d bytes slot) (sym (same.entries d)) (knows.entries d slot bytes least most);
  pages = λ i page least most kept. subst (λ (pages : List ℕ). Contains pages page ↔ IsPageIn P I i page) (sym (same.pages i)) (knows.pages i page least most kept);
  once = λ i least most. subst IsDistinct (sym (same.pages i)) (knows.once i least most);
  offsets = λ i k page reached file kept there. knows.offsets i k page reached file kept (ap (λ (pages : List ℕ). slice_get pages k) (sym (same.pages i)) ∙ there);
}

knows_still : (old : VolumeView) (index : List NodeView) (I : List ℕ) (residue : Residue) → HasSameContents old.index index → KnowsBeside old I residue → KnowsBeside (with_index old index) I residue
knows_still old index I residue same knows = record {
  whole = knows.whole;
  nodes = nodes_still old.size I residue old.index index same knows.nodes;
  each_inode = knows.each_inode;
  inodes = knows.inodes;
  each_page = knows.each_page;
  data_pages = knows.data_pages;
}

module _ (old new : VolumeView) (before after : DeviceView) (state : State) (residue : Residue) (same : IsSameButPlaces old new) (room : IsSameButRoom before after) (stands : StandsBeside old before state residue) where
  -- it stands for the same tree and room
  pub stands_still : StandsBeside new after state residue
  stands_still =
      let view : with_index old new.index ≡ new = λ i. record {
        size = sym same.same_size i;
        index = new.index;
        inodes = sym same.inodes i;
        data_pages = sym same.data_pages i;
        stopped = sym same.same_state i;
        marked = sym same.same_mark i;
        kept = sym same.same_kept i;
      } in
      subst (λ (volume : VolumeView). StandsBeside volume after state residue) view (record {
        settled = subst (λ (t : Option Trail). IsSettledAt after.words t) (sym room.trail) (subst (λ (now : List ℕ). IsSettledAt now before.trail) (sym room.words) stands.settled);
        sound = subst (Sound old.size) (sym room.words) stands.sound;
        beside = subst (λ (now : List ℕ). IsTidyBeside old.size now residue) (sym room.words) stands.beside;
        reads = subst (λ (now : List ℕ). ReadsAs old.size now state) (sym room.words) stands.reads;
        knows = subst (λ (now : List ℕ). KnowsBeside (with_index old new.index) now residue) (sym room.words) (knows_still old new.index before.words residue same.index stands.knows);
        mark = stands.mark ∙ ap has_mark (sym room.words);
        room = let more = room.room in let enough = stands.room in omega (arith, more, enough);
      })

-- and a plan is one of it
pub plan_still : (old new : VolumeView) (before after : DeviceView) (state : State) (residue : Residue) → IsSameButPlaces old new → IsSameButRoom before after → (command : Command) (action : Action)
    → IsPlannedWith (supply_beside old.size residue) before.words state command action → IsPlannedWith (supply_beside new.size residue) after.words state command action
plan_still old new before after state residue same room command action planned =
    subst (λ (P : ℕ). IsPlannedWith (supply_beside P residue) after.words state command action) (sym same.same_size)
    (subst (λ (now : List ℕ). IsPlannedWith (supply_beside old.size residue) now state command action) (sym room.words) planned)
