-- Two calls that hold no inode together hold nothing together, and a step of one passes by the other.
use Rattle.std.proofs.Common.{◌≡◌, inl, inr, ℕ, List, ◌++◌, refl, sym, ap, subst, arith}
use Rattle.std.specs.Prelude.{IsTrue}
use Rattle.pm_trait.specs.DeviceView.{DeviceView}
use Rattle.layout.specs.Geometry.{page_of_slot}
use Rattle.layout.specs.Fields.{page_owner}
use Rattle.tree_model.specs.Run.{State}
use Rattle.image_reading.specs.Counts.{IsIn}
use Rattle.image_reading.specs.Residue.{Residue}
use Rattle.image_counts.proofs.Distinct.{in_front}
use Rattle.weave_laws.specs.Beside.{AreApart}
use Rattle.weave_laws.specs.Joined.{joined}
use Rattle.weave_laws.proofs.Disjoint.{disjoint_law}
use Rattle.weave_laws.proofs.Listed.{distinct_apart}
use Rattle.volatile_index.specs.Index.{NodeView, node_of}
use Rattle.volume.specs.Volume.{VolumeView}
use Rattle.volume.specs.Beside.{StandsBeside}
use Rattle.waiting_laws.specs.Beside.{Holding, Holds, HasSameNode, HoldsApartLaw, PassesByLaw}

-- ---- what two calls hold

module _ (volume : VolumeView) (device : DeviceView) (state : State) (one other rest : Residue) (held others_held : Holding) (stands : StandsBeside volume device state (joined one (joined other rest)))
    (holds : Holds volume device.words one held) (others_hold : Holds volume device.words other others_held) (inodes : (i : ℕ) → IsIn i held.inodes → ¬ IsIn i others_held.inodes) where
  -- no page that the one has left is of an inode that the other holds,
  left_apart : (j : ℕ) → IsIn j one.pages → ¬ IsIn (page_owner volume.size device.words j) others_held.inodes
  left_apart j left owner =
      let x = page_owner volume.size device.words j in
      (holds.untouched x (λ mine. inodes x mine owner) (others_hold.in_volume.of_inodes x owner).from_one).apart.pages j left refl

  -- nor the other way round
  others_left_apart : (j : ℕ) → IsIn j other.pages → ¬ IsIn (page_owner volume.size device.words j) held.inodes
  others_left_apart j left owner =
      let x = page_owner volume.size device.words j in
      (others_hold.untouched x (λ theirs. inodes x owner theirs) (holds.in_volume.of_inodes x owner).from_one).apart.pages j left refl

  pages_apart : (j : ℕ) → IsIn j held.pages → ¬ IsIn j others_held.pages
  pages_apart j mine theirs = elim (holds.of_pages j mine) [
    | inl left ↦ elim (others_hold.of_pages j theirs) [
      | inl also ↦ distinct_apart one.pages (other.pages ++ rest.pages) stands.beside.of_pages.distinct j left (in_front j other.pages rest.pages also)
      | inr owner ↦ left_apart j left owner
    ]
    | inr owner ↦ elim (others_hold.of_pages j theirs) [
      | inl left ↦ others_left_apart j left owner
      | inr also ↦ inodes (page_owner volume.size device.words j) owner also
    ]
  ]

  pub apart_held : AreApart held.slots held.pages held.inodes others_held.slots others_held.pages others_held.inodes
  apart_held = record {
    of_slots = λ s mine theirs. pages_apart (page_of_slot s) (holds.of_slots s mine) (others_hold.of_slots s theirs);
    of_pages = pages_apart;
    of_inodes = inodes;
    no_slot = λ s mine theirs. pages_apart (page_of_slot s) (holds.of_slots s mine) theirs;
    no_other_slot = λ s theirs mine. pages_apart (page_of_slot s) mine (others_hold.of_slots s theirs);
  }

pub holds_apart_law : HoldsApartLaw
holds_apart_law volume device state one other rest held others_held stands holds others_hold inodes = apart_held volume device state one other rest held others_held stands holds others_hold inodes

-- ---- a step of one

same_node : (i : ℕ) (old new : List NodeView) → node_of new i ≡ node_of old i → HasSameNode i old new
same_node i old new same = record {
  entries = ap (λ (node : NodeView). node.entries) same;
  pages = ap (λ (node : NodeView). node.pages) same;
  place = λ there. subst (λ (node : NodeView). IsTrue node.has_place) (sym same) there;
  page_places = let places = ap (λ (node : NodeView). node.page_places) same in omega (arith, places);
}

pub passes_by_law : PassesByLaw
passes_by_law old new before after state later held others_held within others_within apart stores affects nodes = record {
  size = affects.size;
  words = disjoint_law old.size before.words after.words held.slots held.pages held.inodes others_held.slots others_held.pages others_held.inodes within others_within apart stores;
  nodes = nodes;
  index = λ i theirs. same_node i old.index new.index (affects.others i (λ mine. apart.of_inodes i mine theirs));
  lists = λ i j theirs listed. elim (affects.lists i j listed) [ inl was ↦ was | inr mine ↦ absurd (apart.of_pages j mine theirs) ];
}
