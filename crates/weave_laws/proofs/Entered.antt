-- A name that gets its number is entered: the tree and the room are those that the command leaves.
use Rattle.std.proofs.Common.{◌≡◌, inl, inr, ℕ, ◌*◌, ◌<◌, ◌==◌, Bool, true, false, List, ◌∷◌, reverse, Option, Some, None, unwrap_or, refl, sym, ap, subst, arith}
use Rattle.std.proofs.lemmas.Bool.Decides.{nat_tests}
use Rattle.layout.specs.Fields.{inode_kind, slot_name}
use Rattle.layout.specs.Geometry.{page_of_slot}
use Rattle.layout.specs.Kinds.{node_code}
use Rattle.layout.specs.declared.kinds.NodeKind.{NodeKind}
use Rattle.layout.specs.declared.kinds.NodeKind.TheVariants.{File, Directory}
use Rattle.tree_model.specs.PathText.{Route}
use Rattle.tree_model.specs.Run.{State}
use Rattle.tree_model.specs.Step.{making, new_node, with_new, with_path, is_full, tree_after, room_after}
use Rattle.tree_model.specs.Tree.{IsRoom, root_id, parent, id_at, node_at, is_directory, name_count, pages_in}
use Rattle.tree_model.specs.declared.command.Command.{Command}
use Rattle.tree_model.specs.declared.command.Command.TheVariants.{Link}
use Rattle.image_reading.specs.Reading.{Names, Reached, IsNode, IsRoomOf, ReadsAs}
use Rattle.image_reading.specs.Soundness.{IsCoherent}
use Rattle.image_counts.specs.Entries.{IsSlotOf}
use Rattle.image_counts.proofs.Counting.{count_less}
use Rattle.image_counts.proofs.Pages.{count_room}
use Rattle.image_counts.proofs.PageSlots.{count_slots_of}
use Rattle.image_counts.proofs.Slots.{count_names}
use Rattle.image_counts.proofs.States.{is_tree, is_room}
use Rattle.image_laws.specs.Add.{IsNewNode, IsOldFile, CanAdd, with_node}
use Rattle.image_laws.specs.Create.{committed}
use Rattle.image_laws.specs.CreateStep.{CanBeMade, IsStepped}
use Rattle.image_laws.specs.LinkStep.{HasRoomLinked}
use Rattle.image_laws.proofs.Adds.{add_law, add_tree_law, add_room_law}
use Rattle.image_laws.proofs.CreateSteps.{none_if, parent_is}
use Rattle.image_laws.proofs.LinkSteps.{link_room_law}
use Rattle.image_laws.proofs.RoomAfter.{room_after_law, tree_is}
use Rattle.image_laws.proofs.Trees.{is_directory-reached}
use Rattle.weave_laws.specs.Entering.{HasSlotPlace, NodeEnteredLaw, NewNodeLaw, LinkEnteredLaw, IsNamelessPage, with_taken, NodeRoomLaw, LinkedRoomLaw}

pub stepped : (P : ℕ) (J : List ℕ) (old new : State) (c : Command) (n : ℕ) (gives : Bool) → IsCoherent P J → ReadsAs P J new → new.tree ≡ tree_after n old.tree c
    → new.room ≡ room_after n old.tree old.room c gives → IsStepped P J old c n
stepped P J old new c n gives coherent reads tree room = record {
  new = new;
  reads = reads;
  tree = tree;
  room = (gives, room, subst (λ T. IsRoom T new.room) tree (is_room P J new.tree coherent reads.tree new.room reads.room));
}

less_not_equal : (a b : ℕ) → a < b → (a == b) ≡ false
less_not_equal a b lt = grind (arith, nat_tests)

-- what a new node's inode has for a kind
pub code_is : (P : ℕ) (I : List ℕ) (kind : NodeKind) (i : ℕ) → IsNode P I i (new_node kind) → inode_kind I i ≡ node_code kind
code_is P I Directory i is = is
code_is P I File i is = is.0

-- ---- the room

pub node_room_law : NodeRoomLaw
node_room_law P I p kind d s None i room can is place has = (add_room_law P I p d s i can).old_page room kind has is place
node_room_law P I p kind d s (Some page) i room can is (at, none) has = (add_room_law P I p d s i can).new_page room kind has is (λ kept. none (subst (IsRoomOf P I d) at kept))

-- a file takes no place in it
pub linked_room_law : LinkedRoomLaw
linked_room_law P I p d s new_page i room can file place has = node_room_law P I p File d s new_page i room can file.file place has

-- ---- the tree and the room

module _ (P : ℕ) (I : List ℕ) (old : State) (p path : Route) (d s i : ℕ) (can : CanAdd P I p d s i) (is : reverse path ≡ slot_name P I s ∷ p) (reads : ReadsAs P I old) where
  d_reached : Reached P I d
  d_reached = (p, can.slot.path)

  fits : IsRoom old.tree old.room
  fits = is_room P I old.tree can.coherent reads.tree old.room reads.room

  above : id_at old.tree (parent path) ≡ Some d
  above = (reads.tree.names (parent path) d).1 (subst (λ q. Names P I q d) (sym (parent_is path p (slot_name P I s) is)) can.slot.path)

  directory : is_directory old.tree d ≡ true
  directory = is_directory-reached P I old.tree can.coherent reads.tree d d_reached can.slot.directory

  -- A directory's names stand in its pages, 32 in each, and one of their slots is free.
  fewer : IsRoomOf P I d (page_of_slot s) → name_count old.tree d < 32 * pages_in old.room d
  fewer here = count_less (IsSlotOf P I d) (λ t. IsRoomOf P I d (page_of_slot t)) (name_count old.tree d) (32 * pages_in old.room d) s
      (λ t named. record { reached = d_reached; directory = can.slot.directory; slot = (t, refl, named.1, named.0.live) }) here
      (λ named. named.0.live.names can.slot.free)
      (count_names P I old.tree can.coherent reads.tree d)
      (count_slots_of (IsRoomOf P I d) (pages_in old.room d) (count_room P I old.room reads.room d d_reached can.slot.directory))

  not_full : IsRoomOf P I d (page_of_slot s) → is_full old.tree old.room d ≡ false
  not_full here = less_not_equal (name_count old.tree d) (32 * pages_in old.room d) (fewer here)

  coherent : IsCoherent P (committed P I s i)
  coherent = (add_law P I p d s i can).coherent

  -- whether d takes the slot's page
  taken : HasSlotPlace P I old d s → Option ℕ
  taken (inl here) = None
  taken (inr full) = Some (page_of_slot s)

  nameless : (place : HasSlotPlace P I old d s) → IsNamelessPage P I d s (taken place)
  unfolding taken
  nameless (inl here) = here
  nameless (inr full) = (refl, λ here. let room = not_full here in absurd cc)

  -- ---- a new node

  can_be_made : IsNewNode P I i → CanBeMade old.tree old.room path d i
  can_be_made new = record {
    formed = is_tree P I old.tree can.coherent reads.tree;
    fits = fits;
    above = above;
    directory = directory;
    absent = none_if (node_at old.tree i) (λ x e. new.unreached ((reads.tree.nodes i x).0 e).0);
  }

  node_room : (kind : NodeKind) (place : HasSlotPlace P I old d s) → IsNewNode P I i → with_node (with_taken old.room d (taken place)) i kind ≡ room_after i old.tree old.room (making kind path) false
  unfolding taken
  node_room kind (inl here) new = sym ((room_after_law old.tree old.room kind path d i (can_be_made new)).not_full false (not_full here))
  node_room kind (inr full) new = sym ((room_after_law old.tree old.room kind path d i (can_be_made new)).full false full)

  pub node_stepped : (kind : NodeKind) → IsNewNode P I i → IsNode P I i (new_node kind) → HasSlotPlace P I old d s → IsStepped P (committed P I s i) old (making kind path) i
  node_stepped kind new is_node place = stepped P (committed P I s i) old
      (record { tree = with_new old.tree path i (new_node kind); room = with_node (with_taken old.room d (taken place)) i kind }) (making kind path) i false coherent
      (record {
        tree = (add_tree_law P I p path d s i can is).new_node old.tree (new_node kind) reads.tree new is_node;
        room = node_room_law P I p kind d s (taken place) i old.room can (code_is P I kind i is_node) (nameless place) reads.room;
      })
      (sym (tree_is old.tree kind path i))
      (node_room kind place new)

  -- ---- a file that has a name

  module _ (from : Route) (n : ℕ) (source : id_at old.tree from ≡ Some i) where
    linked : HasRoomLinked old.tree old.room from path d n
    linked = link_room_law old.tree old.room from path d n fits above directory

    link_room : (place : HasSlotPlace P I old d s) → with_taken old.room d (taken place) ≡ room_after n old.tree old.room (Link from path) false
    unfolding taken
    link_room (inl here) = sym (linked.not_full false (not_full here))
    link_room (inr full) = sym (linked.full false full)

    pub link_stepped : IsOldFile P I i → HasSlotPlace P I old d s → IsStepped P (committed P I s i) old (Link from path) n
    link_stepped file place = stepped P (committed P I s i) old
        (record { tree = with_path old.tree path i; room = with_taken old.room d (taken place) }) (Link from path) n false coherent
        (record {
          tree = (add_tree_law P I p path d s i can is).old_file old.tree reads.tree file;
          room = linked_room_law P I p d s (taken place) i old.room can file (nameless place) reads.room;
        })
        (ap (λ o. with_path old.tree path (unwrap_or o root_id)) (sym source))
        (link_room place)

pub node_entered_law : NodeEnteredLaw
node_entered_law P I old p path kind d s i can new is_node place is reads = node_stepped P I old p path d s i can is reads kind new is_node place

pub link_entered_law : LinkEnteredLaw
link_entered_law P I old p from path d s i n can file source place is reads = link_stepped P I old p path d s i can is reads from n source file place

-- ---- which node a new one is

pub new_node_law : NewNodeLaw
new_node_law P I Directory i new is = is
new_node_law P I File i new is = let size = new.empty is in (is, record { size = sym size; bytes_at = λ o j lt. absurd (omega (arith, size, lt)) })
