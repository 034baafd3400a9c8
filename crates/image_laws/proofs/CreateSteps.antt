-- Create and mkdir leave a state that the step allows.
use Rattle.std.proofs.Common.{◌≡◌, ℕ, ◌*◌, Bool, true, false, List, [], ◌∷◌, reverse, Option, Some, None, refl, sym, subst, ◌∙◌}
use Rattle.layout.specs.Name.{name_in_words}
use Rattle.layout.specs.declared.kinds.NodeKind.{NodeKind}
use Rattle.tree_model.specs.PathText.{Route}
use Rattle.tree_model.specs.Step.{making, new_node, with_new, is_full, tree_after, room_after}
use Rattle.tree_model.specs.Tree.{Room, IsRoom, parent, last_name, node_at, name_count, pages_in}
use Rattle.tree_model.specs.Run.{State}
use Rattle.image_reading.specs.Reading.{Names, ReadsAs}
use Rattle.image_counts.proofs.Slots.{equal_numbers}
use Rattle.image_counts.proofs.States.{is_tree, is_room}
use Rattle.image_counts.proofs.Tidied.{has_room_words}
use Rattle.image_laws.specs.Add.{with_page, with_node}
use Rattle.image_laws.specs.Create.{CanName, CanMake, IsVacant, committed}
use Rattle.image_laws.specs.CreateStep.{CanBeMade, IsStepped, CreateStepLaw, NewPageStepLaw}
use Rattle.image_laws.proofs.Creates.{create_named, free_inode}
use Rattle.image_laws.proofs.PageCreates.{page_named}
use Rattle.image_laws.proofs.Ready.{IsNamed}
use Rattle.image_laws.proofs.RoomAfter.{room_after_law, tree_is}
use Rattle.image_laws.proofs.Trees.{is_directory-reached, reverse_path}

pub none_if : {X : Type 0} (o : Option X) → ((x : X) → o ≡ Some x → ⊥) → o ≡ None
none_if None f = refl
none_if (Some x) f = absurd (f x refl)

-- where the last name stands first, the rest is the parent's path
pub parent_is : (path p : Route) (n : List ℕ) → reverse path ≡ n ∷ p → reverse (parent path) ≡ p
parent_is [] p n e = cc
parent_is (name ∷ names) p n e =
    let whole : last_name (name ∷ names) ∷ reverse (parent (name ∷ names)) ≡ n ∷ p = sym (reverse_path name names) ∙ e in cc

module _ (P : ℕ) (W : List ℕ) (old : State) (p path : Route) (d i : ℕ) (name : List ℕ) (can : CanMake P W p d i name) (is : reverse path ≡ name_in_words name ∷ p) (reads : ReadsAs P W old) where
  can_be_made : CanBeMade old.tree old.room path d i
  can_be_made = record {
    formed = is_tree P W old.tree can.place.tidy.coherent reads.tree;
    fits = is_room P W old.tree can.place.tidy.coherent reads.tree old.room reads.room;
    above = (reads.tree.names (parent path) d).1 (subst (λ q. Names P W q d) (sym (parent_is path p (name_in_words name) is)) can.place.path);
    directory = is_directory-reached P W old.tree can.place.tidy.coherent reads.tree d (p, can.place.path) can.place.directory;
    absent = none_if (node_at old.tree i) (λ x e. can.unreached ((reads.tree.nodes i x).0 e).0);
  }

  stepped : (J : List ℕ) (kind : NodeKind) (after : Room → Room) → IsNamed P W J (λ T. with_new T path i (new_node kind)) after
      → after old.room ≡ room_after i old.tree old.room (making kind path) false → IsStepped P J old (making kind path) i
  stepped J kind after named room =
      let tree : with_new old.tree path i (new_node kind) ≡ tree_after i old.tree (making kind path) = sym (tree_is old.tree kind path i) in
      let read = named.reads old.tree reads.tree in
      let has = named.room old.room reads.room in
      record {
        new = record { tree = with_new old.tree path i (new_node kind); room = after old.room };
        reads = record { tree = read; room = has };
        tree = tree;
        room = (false, room, subst (λ T. IsRoom T (after old.room)) tree (is_room P J (with_new old.tree path i (new_node kind)) named.coherent read (after old.room) has));
      }

not_true : (b : Bool) → (b ≡ true → ⊥) → b ≡ false
not_true true f = absurd (f refl)
not_true false f = refl

-- a directory with a vacant slot isn't full
pub not_full : (P : ℕ) (W : List ℕ) (old : State) (p : Route) (d s : ℕ) (name : List ℕ) → CanName P W p d name → IsVacant P W d s → ReadsAs P W old → is_full old.tree old.room d ≡ false
not_full P W old p d s name can vacant reads = not_true (is_full old.tree old.room d) (λ full.
    let words = has_room_words P W old can.tidy reads d (p, can.path) can.directory in
    words.full.0 (equal_numbers (name_count old.tree d) (32 * pages_in old.room d) full) s (record { in_range = vacant.held.in_range; owner = vacant.owner }) vacant.free)

pub create_step_law : CreateStepLaw
create_step_law P W I old p path kind d s i name can vacant makes is reads =
    stepped P W old p path d i name can is reads (committed P I s i) kind (λ room. with_node room i kind) (create_named P W I p path kind d s i name can vacant makes is)
    (sym ((room_after_law old.tree old.room kind path d i (can_be_made P W old p path d i name can is reads)).not_full false (not_full P W old p d s name can.place vacant reads)))

pub new_page_step_law : NewPageStepLaw
new_page_step_law P W A I old p path kind d j s i name can page at made makes is reads full =
    stepped P W old p path d i name can is reads (committed P I s i) kind (λ room. with_node (with_page room d) i kind)
    (page_named P W A p d j s name can.place page at made I path kind i (free_inode P W p d i name can) makes is)
    (sym ((room_after_law old.tree old.room kind path d i (can_be_made P W old p path d i name can is reads)).full false full))
