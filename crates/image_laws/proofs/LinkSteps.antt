-- Link leaves a state that the step allows.
use Rattle.std.proofs.Common.{◌≡◌, inl, inr, ℕ, ◌+◌, Bool, true, false, cond, List, ◌∷◌, reverse, Some, None, unwrap_or, sym, ap, subst, ◌∙◌, add-zero}
use Rattle.std.proofs.lemmas.Bool.{cases_eq}
use Rattle.layout.specs.Name.{name_in_words}
use Rattle.tree_model.specs.PathText.{Route}
use Rattle.tree_model.proofs.RoomLaws.{get-room_after}
use Rattle.tree_model.specs.Run.{State}
use Rattle.tree_model.specs.Step.{with_path, is_full, page_for_name, room_after, tree_after}
use Rattle.tree_model.specs.Table.{get}
use Rattle.tree_model.specs.Tree.{Tree, Room, IsRoom, root_id, parent, id_at, is_directory, is_number, pages_in}
use Rattle.tree_model.proofs.TreeLaws.{same_room}
use Rattle.tree_model.specs.declared.command.Command.TheVariants.{Link}
use Rattle.image_reading.specs.Reading.{Names, ReadsAs}
use Rattle.image_counts.proofs.States.{is_room}
use Rattle.image_laws.specs.Add.{with_page}
use Rattle.image_laws.specs.Create.{CanName, committed}
use Rattle.image_laws.specs.CreateStep.{IsStepped}
use Rattle.image_laws.specs.LinkStep.{HasRoomLinked, LinkRoomLaw, LinkStepLaw, NewPageLinkStepLaw}
use Rattle.image_laws.proofs.AddRoom.{get-here, get-other}
use Rattle.image_laws.proofs.CreateSteps.{parent_is, not_full}
use Rattle.image_laws.proofs.Links.{link_named, page_link_named}
use Rattle.image_laws.proofs.Ready.{IsNamed}
use Rattle.image_laws.proofs.RoomAfter.{room_at, gained, gained_other, gained_here}
use Rattle.image_laws.proofs.Trees.{is_directory-reached}

-- ---- the room after

module _ (T : Tree) (room : Room) (from path : Route) (d n : ℕ) (fits : IsRoom T room) (above : id_at T (parent path) ≡ Some d) (directory : is_directory T d ≡ true) where
  after_at : (gives : Bool) (x : ℕ) → get (room_after n T room (Link from path) gives) x ≡ cond (is_directory T x) (Some (gained T room d x)) None
  unfolding gained
  after_at gives x =
      get-room_after n T room (Link from path) gives x
      ∙ ap (λ o. cond (is_directory T x) (Some (pages_in room x + cond (is_number (Some (unwrap_or o root_id)) x) (page_for_name T room (Some x)) 0)) None) above

  room_linked : HasRoomLinked T room from path d n
  room_linked = record {
    not_full = λ gives e. same_room (room_after n T room (Link from path) gives) room (λ x. after_at gives x ∙ ap (λ k. cond (is_directory T x) (Some k) None) (same e x) ∙ sym (room_at T room x fits));
    full = λ gives e. same_room (room_after n T room (Link from path) gives) (with_page room d) (λ x. after_at gives x ∙ more e x);
  }
    where
      same : is_full T room d ≡ false → (x : ℕ) → gained T room d x ≡ pages_in room x
      same e x = elim (cases_eq d x) [
        | inl is ↦ subst (λ y. gained T room d y ≡ pages_in room y) is (gained_here T room d false e ∙ add-zero (pages_in room d))
        | inr ne ↦ gained_other T room d x ne
      ]

      more : is_full T room d ≡ true → (x : ℕ) → cond (is_directory T x) (Some (gained T room d x)) None ≡ get (with_page room d) x
      more e x = elim (cases_eq d x) [
        | inl is ↦ subst (λ y. cond (is_directory T y) (Some (gained T room d y)) None ≡ get (with_page room d) y) is
            (ap (λ b. cond b (Some (gained T room d d)) None) directory ∙ ap Some (gained_here T room d true e) ∙ sym (get-here room d (pages_in room d + 1)))
        | inr ne ↦ ap (λ k. cond (is_directory T x) (Some k) None) (gained_other T room d x ne) ∙ sym (room_at T room x fits) ∙ sym (get-other room d (pages_in room d + 1) x (λ z. ne (sym z)))
      ]

pub link_room_law : LinkRoomLaw
link_room_law T room from path d n fits above directory = room_linked T room from path d n fits above directory

-- ---- the state after

module _ (P : ℕ) (W : List ℕ) (old : State) (p from path : Route) (d i n : ℕ) (name : List ℕ) (can : CanName P W p d name) (is : reverse path ≡ name_in_words name ∷ p) (reads : ReadsAs P W old) (source : id_at old.tree from ≡ Some i) where
  room_is_linked : HasRoomLinked old.tree old.room from path d n
  room_is_linked = link_room_law old.tree old.room from path d n
      (is_room P W old.tree can.tidy.coherent reads.tree old.room reads.room)
      ((reads.tree.names (parent path) d).1 (subst (λ q. Names P W q d) (sym (parent_is path p (name_in_words name) is)) can.path))
      (is_directory-reached P W old.tree can.tidy.coherent reads.tree d (p, can.path) can.directory)

  stepped : (J : List ℕ) (after : Room → Room) → IsNamed P W J (λ T. with_path T path i) after → after old.room ≡ room_after n old.tree old.room (Link from path) false → IsStepped P J old (Link from path) n
  stepped J after linked room =
      let tree : with_path old.tree path i ≡ tree_after n old.tree (Link from path) = ap (λ o. with_path old.tree path (unwrap_or o root_id)) (sym source) in
      let read = linked.reads old.tree reads.tree in
      let has = linked.room old.room reads.room in
      record {
        new = record { tree = with_path old.tree path i; room = after old.room };
        reads = record { tree = read; room = has };
        tree = tree;
        room = (false, room, subst (λ T. IsRoom T (after old.room)) tree (is_room P J (with_path old.tree path i) linked.coherent read (after old.room) has));
      }

pub link_step_law : LinkStepLaw
link_step_law P W I old p from path d s i n name can vacant makes is reads source =
    stepped P W old p from path d i n name can.place is reads source (committed P I s i) (λ room. room) (link_named P W I p path d s i name can vacant makes is)
    (sym ((room_is_linked P W old p from path d i n name can.place is reads source).not_full false (not_full P W old p d s name can.place vacant reads)))

pub new_page_link_step_law : NewPageLinkStepLaw
new_page_link_step_law P W A I old p from path d j s i n name can page at made makes is reads source full =
    stepped P W old p from path d i n name can.place is reads source (committed P I s i) (λ room. with_page room d) (page_link_named P W A I p path d j s i name can page at made makes is)
    (sym ((room_is_linked P W old p from path d i n name can.place is reads source).full false full))
