-- A volume stands for a state where it stands for it beside no residue, and no call has events left.
use Rattle.std.proofs.Common.{◌≡◌, ◌↔◌, ℕ, List, arith}
use Rattle.pm_trait.specs.DeviceView.{DeviceView}
use Rattle.tree_model.specs.Run.{State}
use Rattle.image_reading.specs.Residue.{no_residue}
use Rattle.image_reading.proofs.Residues.{tidied_beside, beside_tidied}
use Rattle.image_reading.proofs.Tidied.{tidied}
use Rattle.image_counts.proofs.Apart.{apart_nothing}
use Rattle.volatile_index.specs.Index.{NodeView}
use Rattle.volume.specs.Volume.{VolumeView}
use Rattle.volume.specs.Stands.{KnowsNodes, Knows, StandsFor, IsStanding, HasNode}
use Rattle.volume.specs.Beside.{KnowsNodesBeside, KnowsBeside, StandsBeside, IsStandingBeside, IsUntouched, HasNodeBeside}

knows_nodes_beside : {P : ℕ} {index : List NodeView} {I : List ℕ} → KnowsNodes P index I → KnowsNodesBeside P index I no_residue
knows_nodes_beside nodes = record {
  each_inode = nodes.each_inode;
  entries = nodes.entries;
  pages = λ i page least most apart. nodes.pages i page least most;
  once = nodes.once;
  offsets = λ i k page reached file apart at. nodes.offsets i k page reached file at;
}

beside_knows_nodes : {P : ℕ} {index : List NodeView} {I : List ℕ} → KnowsNodesBeside P index I no_residue → KnowsNodes P index I
beside_knows_nodes nodes = record {
  each_inode = nodes.each_inode;
  entries = nodes.entries;
  pages = λ i page least most. nodes.pages i page least most (λ none. none);
  once = nodes.once;
  offsets = λ i k page reached file at. nodes.offsets i k page reached file (λ none. none) at;
}

knows_beside : {volume : VolumeView} {I : List ℕ} → Knows volume I → KnowsBeside volume I no_residue
knows_beside knows = record {
  whole = knows.whole;
  nodes = knows_nodes_beside knows.nodes;
  each_inode = knows.each_inode;
  inodes = knows.inodes;
  each_page = knows.each_page;
  data_pages = knows.data_pages;
}

beside_knows : {volume : VolumeView} {I : List ℕ} → KnowsBeside volume I no_residue → Knows volume I
beside_knows knows = record {
  whole = knows.whole;
  nodes = beside_knows_nodes knows.nodes;
  each_inode = knows.each_inode;
  inodes = knows.inodes;
  each_page = knows.each_page;
  data_pages = knows.data_pages;
}

pub stands_beside : {volume : VolumeView} {device : DeviceView} {state : State} → StandsFor volume device state → StandsBeside volume device state no_residue
stands_beside stands = record {
  settled = stands.settled;
  sound = stands.tidy.sound;
  beside = tidied_beside (tidied stands.tidy);
  reads = stands.reads;
  knows = knows_beside stands.knows;
  mark = stands.mark;
  room = omega (arith, stands.room, stands.no_call);
}

pub beside_stands : {volume : VolumeView} {device : DeviceView} {state : State} → StandsBeside volume device state no_residue → volume.kept ≡ 0 → StandsFor volume device state
beside_stands stands none = record {
  settled = stands.settled;
  tidy = record { sound = stands.sound; repaired = (beside_tidied stands.sound.coherent stands.beside).repaired };
  reads = stands.reads;
  knows = beside_knows stands.knows;
  mark = stands.mark;
  room = omega (arith, stands.room, none);
  no_call = none;
}

pub stands_both_ways : (volume : VolumeView) (device : DeviceView) (state : State) → StandsFor volume device state ↔ (StandsBeside volume device state no_residue × (volume.kept ≡ 0))
stands_both_ways volume device state = ((λ stands. (stands_beside stands, stands.no_call)), (λ both. beside_stands both.0 both.1))

pub standing_beside : (volume : VolumeView) (device : DeviceView) → IsStanding volume device → IsStandingBeside volume device
standing_beside volume device (state, stands) = (state, no_residue, stands_beside stands)

-- where no call runs none touches anything
pub untouched_nothing : (volume : VolumeView) (I : List ℕ) (i : ℕ) → IsUntouched volume I no_residue i
untouched_nothing volume I i = record { apart = apart_nothing volume.size I i; listed = λ page none. absurd none }

pub has_node_beside : (volume : VolumeView) (device : DeviceView) (inode : ℕ) → HasNode volume device inode → HasNodeBeside volume device inode
has_node_beside volume device inode (state, stands, there) = (state, no_residue, stands_beside stands, there, untouched_nothing volume device.words inode)
