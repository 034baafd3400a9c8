-- What a removal that was prepared beside other calls has found: the name, the node with its pages, and that the others have left nothing of these.
use Rattle.std.proofs.Common.{◌≡◌, ◌≢◌, ◌↔◌, inl, inr, ℕ, ◌+◌, ◌<◌, ◌≤◌, ◌==◌, Bool, true, false, cond, ◌||◌, List, [], ◌∷◌, length, reverse, Option, Some, None, is_none, refl, sym, ap, subst, ◌∙◌, arith, eq-eqb, eqb-true}
use Rattle.std.specs.Prelude.{Contains, slice_get}
use Rattle.std.proofs.lemmas.Bool.{cases_eq, false≢true}
use Rattle.pm_trait.specs.DeviceView.{DeviceView}
use Rattle.layout.specs.Geometry.{inodes_of, data_pages_of, slots_of, page_of_slot}
use Rattle.layout.proofs.GeometryLaws.{page_of_slot_below, slot_below}
use Rattle.layout.specs.Fields.{inode_kind, inode_size, page_owner, page_offset, slot_inode, slot_name}
use Rattle.layout.specs.declared.kinds.NodeKind.{NodeKind}
use Rattle.layout.specs.declared.kinds.NodeKind.TheVariants.{File, Directory}
use Rattle.tree_model.specs.PathText.{Route}
use Rattle.tree_model.specs.Tree.{Tree, Node, parent, last_name, id_at, node_at, is_directory, is_file, is_file_node, is_directory_node, is_number, name_count, path_count}
use Rattle.tree_model.specs.Step.{least_free_id, tree_after}
use Rattle.tree_model.specs.Run.{State}
use Rattle.tree_model.specs.Accepted.{HasHolder}
use Rattle.tree_model.specs.declared.command.Command.TheVariants.{Unlink, Rmdir}
use Rattle.tree_model.proofs.AcceptedLaws.{Accepted-from_row}
use Rattle.naming_laws.specs.Naming.{is_at_one_of, names_inode}
use Rattle.image_reading.specs.Counts.{IsIn, IsDistinct}
use Rattle.image_reading.specs.Reading.{IsFile, IsDirectory, HasBytes, slot_owner, Names, Reached, IsReachedSlot, pages_of_size}
use Rattle.image_reading.specs.Residue.{Residue, no_residue}
use Rattle.image_reading.specs.Soundness.{IsCoherent}
use Rattle.image_reading.proofs.Counts.{count_one}
use Rattle.image_counts.specs.Entries.{IsPageIn}
use Rattle.image_counts.specs.Laws.{ReadsBeside, supply_beside}
use Rattle.image_counts.proofs.Beside.{has_pages_beside, file_pages_beside_law}
use Rattle.image_counts.proofs.Decided.{IsDecided, any_below}
use Rattle.image_counts.proofs.Links.{not_both_kinds}
use Rattle.image_counts.proofs.Nodes.{size_law}
use Rattle.image_counts.proofs.Paths as paths
use Rattle.image_counts.proofs.Slots.{absence_law}
use Rattle.image_counts.proofs.States.{state_law}
use Rattle.image_laws.specs.Remove.{CanRemove}
use Rattle.weave_laws.specs.Unnaming.{IsFallen, GoesWith}
use Rattle.weave_laws.specs.Waiting.{WaitsBeside, IsLeavingName, HasOtherName, TakesAlong, AreInOrder}
use Rattle.weave_laws.proofs.Contained.{in_contained, contained_in, in_or_not}
use Rattle.weave_laws.proofs.WaitingRemovals.{waiting_removal_law}
use Rattle.weave_laws.proofs.WaitingLosses.{waiting_loss_law}
use Rattle.volatile_index.specs.Index.{pages_of}
use Rattle.volume.specs.Volume.{VolumeView}
use Rattle.volume.specs.Beside.{StandsBeside, IsUntouched}
use Rattle.volume.specs.Planned.{IsAlone, IsGivenBack, IsRemovalFor, IsPlanOf, IsPlannedWith}
use Rattle.volume.specs.declared.plan.Action.{Action}
use Rattle.volume.specs.declared.plan.Action.TheVariants.{Remove}
use Rattle.volume.specs.declared.plan.Removal.{Removal}
use Rattle.volume.proofs.NamingRemovals.{unlink_names, rmdir_names}
use Rattle.volume.proofs.Ways.{whole_path}
use Rattle.entry_steps.proofs.Lists.{contains_at}
use Rattle.unlink_ops.specs.RemovalStages.{pages_gone}
use Rattle.waiting_laws.specs.Beside.{IsReady}
use Rattle.waiting_laws.specs.Removing.{of_kind, falling_of}

some_one : (x y : ℕ) → ◌≡◌ {A = Option ℕ} (Some x) (Some y) → x ≡ y
some_one x y e = cc

same_removal : (one two : Removal) → ◌≡◌ {A = Action} (Remove one) (Remove two) → two ≡ one
same_removal one two e = cc

-- ---- the command names the node and its directory

path_named : (kind : NodeKind) (T : Tree) (path : Route) (i : ℕ) → id_at T path ≡ Some i → names_inode T (of_kind kind path) i ≡ true
path_named File T path i is = unlink_names T path i is
path_named Directory T path i is = rmdir_names T path i is

or_last : (one : Bool) → (one || (true || false)) ≡ true
or_last true = refl
or_last false = refl

parent_one : (T : Tree) (path : Route) (d : ℕ) → id_at T (parent path) ≡ Some d → is_at_one_of T (path ∷ parent path ∷ []) d ≡ true
parent_one T path d is =
    ap (λ o. is_number (id_at T path) d || (is_number o d || false)) is ∙ ap (λ b. is_number (id_at T path) d || (b || false)) (eq-eqb d d refl) ∙ or_last (is_number (id_at T path) d)

parent_named : (kind : NodeKind) (T : Tree) (path : Route) (d : ℕ) → id_at T (parent path) ≡ Some d → names_inode T (of_kind kind path) d ≡ true
parent_named File T path d is = parent_one T path d is
parent_named Directory T path d is = parent_one T path d is

module _ (volume : VolumeView) (device : DeviceView) (state : State) (path : Route) (removal : Removal) (others : Residue)
    (ready : IsReady volume device state (of_kind removal.loss.kind path) (Remove removal) others) where
  abbrev P : ℕ
  P = volume.size

  abbrev I : List ℕ
  I = device.words

  abbrev s : ℕ
  s = removal.slot

  abbrev i : ℕ
  i = removal.loss.inode

  abbrev d : ℕ
  d = removal.directory

  abbrev pages : List ℕ
  pages = pages_gone volume removal

  stands : StandsBeside volume device state others
  stands = ready.prepared.stands

  pub coherent : IsCoherent P I
  coherent = stands.sound.coherent

  pub holds : ReadsBeside P I others state
  holds = record { coherent = coherent; beside = stands.beside; reads = stands.reads }

  pub beside_words : WaitsBeside P I no_residue others state
  beside_words = record { holds = holds; no_pointer = ready.no_pointer }

  -- ---- the plan

  for_by : (kind : NodeKind) → IsPlanOf P I state (of_kind kind path) (Remove removal) → IsRemovalFor P I state (of_kind kind path) path removal
  for_by File (other, is, for) = subst (IsRemovalFor P I state (Unlink path) path) (same_removal removal other is) for
  for_by Directory (other, is, for) = subst (IsRemovalFor P I state (Rmdir path) path) (same_removal removal other is) for

  pub for : IsRemovalFor P I state (of_kind removal.loss.kind path) path removal
  for = for_by removal.loss.kind ready.planned.plan_is

  pub slot : IsReachedSlot P I s
  slot = for.named.slot_is.slot

  pub owner_is : slot_owner P I s ≡ d
  owner_is = for.named.slot_is.owner

  parent_names : Names P I (reverse (parent path)) d
  parent_names = (stands.reads.tree.names (parent path) d).0 for.named.directory_is

  node_names : Names P I (reverse path) i
  node_names = (stands.reads.tree.names path i).0 for.named.inode_is

  pub directory_reached : Reached P I d
  directory_reached = (reverse (parent path), parent_names)

  pub node_reached : Reached P I i
  node_reached = (reverse path, node_names)

  directory_kind : IsDirectory I d
  directory_kind = subst (IsDirectory I) owner_is slot.directory

  pub is_parent : is_directory state.tree d ≡ true
  is_parent = ((size_law P I state coherent stands.reads).directories d).1 (directory_reached, directory_kind)

  -- ---- by the kind of the node

  -- A file goes exactly where this is its only path, and an empty directory goes.
  abbrev pub Found : NodeKind → Type 0
  Found File = IsFile I i × (removal.loss.goes ≡ (path_count state.tree i == 1))
  Found Directory = IsDirectory I i × (removal.loss.goes ≡ true) × (name_count state.tree i ≡ 0)

  found_by : (kind : NodeKind) → IsPlannedWith (supply_beside P others) I state (of_kind kind path) (Remove removal) → Found kind × HasHolder state.tree path
  found_by File planned =
      let found = Accepted-from_row (supply_beside P others) state.tree state.room (Unlink path) (state_law P I state coherent stands.reads).tree planned.accepted in
      let loss = (for_by File planned.plan_is).loss in
      let same : found.source.id ≡ i = let named = found.source.named in let here = for.named.inode_is in some_one found.source.id i (sym named ∙ here) in
      let bytes : is_file state.tree found.source.id ≡ true = ap (λ (o : Option Node). is_file_node o) found.source.file in (
        (
          (((size_law P I state coherent stands.reads).files i).0 (subst (λ (x : ℕ). is_file state.tree x ≡ true) same bytes)).1,
          loss.goes_is ∙ subst (λ (x : ℕ). is_none (node_at (tree_after (least_free_id state.tree) state.tree (Unlink path)) x) ≡ (path_count state.tree x == 1)) same (found.goes (least_free_id state.tree)),
        ),
        found.holder,
      )
  found_by Directory planned =
      let found = Accepted-from_row (supply_beside P others) state.tree state.room (Rmdir path) (state_law P I state coherent stands.reads).tree planned.accepted in
      let loss = (for_by Directory planned.plan_is).loss in
      let same : found.source.id ≡ i = let named = found.source.named in let here = for.named.inode_is in some_one found.source.id i (sym named ∙ here) in
      let two = found.source.directory in (
        (
          (((size_law P I state coherent stands.reads).directories i).0 (subst (λ (x : ℕ). is_directory state.tree x ≡ true) same two)).1,
          loss.goes_is ∙ subst (λ (x : ℕ). is_none (node_at (tree_after (least_free_id state.tree) state.tree (Rmdir path)) x) ≡ true) same (ap (λ (o : Option Node). is_none o) (found.goes (least_free_id state.tree))),
          subst (λ (x : ℕ). name_count state.tree x ≡ 0) same found.empty,
        ),
        found.holder,
      )

  pub found : Found removal.loss.kind
  found = (found_by removal.loss.kind ready.planned).0

  pub holder : HasHolder state.tree path
  holder = (found_by removal.loss.kind ready.planned).1

  -- ---- the others have left nothing of the node, nor of its directory

  pub node_untouched : IsUntouched volume I others i
  node_untouched = ready.prepared.untouched.each i (path_named removal.loss.kind state.tree path i for.named.inode_is)

  pub directory_untouched : IsUntouched volume I others d
  directory_untouched = ready.prepared.untouched.each d (parent_named removal.loss.kind state.tree path d for.named.directory_is)

  -- ---- the name goes

  empty_by : (kind : NodeKind) → Found kind → IsDirectory I i → name_count state.tree i ≡ 0
  empty_by File is two = absurd (not_both_kinds I i is.0 two)
  empty_by Directory is two = is.2

  -- the slot's number is the node's: both are at the path
  pub inode_is : slot_inode P I s ≡ i
  inode_is =
      let leads = paths.slot_leads P I coherent s slot in
      let way : Names P I (slot_name P I s ∷ reverse (parent path)) (slot_inode P I s) = (s, subst (Names P I (reverse (parent path))) (sym owner_is) parent_names, leads) in
      let same = path_reversed in
      paths.one_inode P I coherent (slot_name P I s ∷ reverse (parent path)) (slot_inode P I s) i way (subst (λ (r : Route). Names P I r i) same node_names)
    where
      path_reversed : reverse path ≡ slot_name P I s ∷ reverse (parent path)
      path_reversed =
          ap reverse (whole_path path holder.below) ∙ paths.reverse_below (parent path) (last_name path)
          ∙ ap (λ (n : List ℕ). n ∷ reverse (parent path)) (sym (for.named.slot_is.name ∙ for.named.name_is))

  pub leaving : IsLeavingName P I state.tree path d s
  leaving = record {
    place = record { above = for.named.directory_is; directory = is_parent; held = slot.live.held; owner = owner_is };
    number = slot.live.names;
    name_is = for.named.slot_is.name ∙ for.named.name_is;
    empty = λ two. subst (λ (x : ℕ). name_count state.tree x ≡ 0) (sym inode_is)
        (empty_by removal.loss.kind found (((size_law P I state coherent stands.reads).directories i).0 (subst (λ (x : ℕ). is_directory state.tree x ≡ true) inode_is two)).1);
  }

  law : CanRemove P I (reverse (parent path)) s × (reverse path ≡ slot_name P I s ∷ reverse (parent path))
  law = waiting_removal_law P I state path d s others beside_words leaving

  pub can : CanRemove P I (reverse (parent path)) s
  can = law.0

  pub path_is : reverse path ≡ slot_name P I s ∷ reverse (parent path)
  path_is = law.1

  -- ---- the pages

  pub i_range : (1 ≤ i) × (i ≤ inodes_of P)
  i_range = paths.in_range P I coherent i node_reached

  pub d_range : (1 ≤ d) × (d ≤ inodes_of P)
  d_range = paths.in_range P I coherent d directory_reached

  -- an inode that no other has left anything of has the pages that its list has
  listed_at : (x : ℕ) → 1 ≤ x → x ≤ inodes_of P → IsUntouched volume I others x → (j : ℕ) → Contains (pages_of volume.index x) j ↔ IsPageIn P I x j
  listed_at x least most untouched j = elim (in_or_not j others.pages) [
    | inl left ↦ ((λ there. absurd (untouched.listed j left there)), (λ inside. absurd (untouched.apart.pages j left inside.owner)))
    | inr out ↦ stands.knows.nodes.pages x j least most out
  ]

  pub node_listed : (j : ℕ) → Contains (pages_of volume.index i) j ↔ IsPageIn P I i j
  node_listed = listed_at i i_range.0 i_range.1 node_untouched

  pub directory_listed : (j : ℕ) → Contains (pages_of volume.index d) j ↔ IsPageIn P I d j
  directory_listed = listed_at d d_range.0 d_range.1 directory_untouched

  pub gone_among : (j : ℕ) → Contains pages j ↔ ((removal.loss.goes ≡ true) × IsPageIn P I i j)
  gone_among j = elim removal.loss.goes as (λ t. Contains (cond t (pages_of volume.index i) []) j ↔ ((t ≡ true) × IsPageIn P I i j)) [
    | true ↦ ((λ there. (refl, (node_listed j).0 there)), (λ is. (node_listed j).1 is.1))
    | false ↦ ((λ there. absurd (contained_in j [] there)), (λ is. absurd (false≢true is.0)))
  ]

  once_by : (goes : Bool) → IsDistinct (cond goes (pages_of volume.index i) [])
  once_by true = stands.knows.nodes.once i i_range.0 i_range.1
  once_by false = tt

  pub gone_once : IsDistinct pages
  gone_once = once_by removal.loss.goes

  offset_by : (goes : Bool) → HasBytes I i → (k j : ℕ) → slice_get (cond goes (pages_of volume.index i) []) k ≡ Some j → page_offset P I j ≡ k
  offset_by true bytes k j at =
      stands.knows.nodes.offsets i k j node_reached bytes (λ left. node_untouched.listed j left (contains_at (pages_of volume.index i) k j at)) at
  offset_by false bytes k j at = absurd (contained_in j [] (contains_at [] k j at))

  pub gone_offset : HasBytes I i → (k j : ℕ) → slice_get pages k ≡ Some j → page_offset P I j ≡ k
  gone_offset = offset_by removal.loss.goes

  -- a directory without a name has no page
  pub no_page : IsDirectory I i → (j : ℕ) → ¬ IsPageIn P I i j
  no_page two j page =
      let least = i_range.0 in
      elim (((has_pages_beside P I others state holds).used j page.in_range).1 (λ unused. let none = unused.0 in let owner = page.owner in omega (arith, none, owner, least))) [
        | inl kept ↦ elim kept [
          | inl file ↦ not_both_kinds I i (subst (IsFile I) page.owner file.file) two
          | inr room ↦
              let (t, here, owner, live) = room.slot in
              ((absence_law P I state coherent stands.reads).empty i).0 (empty_by removal.loss.kind found two) t
              (record { owner = subst (Reached P I) (sym owner) room.reached; directory = ap (inode_kind I) owner ∙ room.directory; live = live }, owner ∙ page.owner)
        ]
        | inr left ↦ node_untouched.apart.pages j left page.owner
      ]

  none_in : (l : List ℕ) → ((j : ℕ) → ¬ Contains l j) → l ≡ []
  none_in [] none = refl
  none_in (j ∷ l) none = absurd (none j (in_contained j (j ∷ l) (inl refl)))

  all_pages : IsFile I i → removal.loss.goes ≡ true → AreInOrder P I pages 0 (inode_size I i)
  unfolding pages_of_size
  all_pages bytes goes = record {
    offsets = λ k j at. gone_offset bytes k j at ∙ (let same : k ≡ pages_of_size 0 + k = omega arith in same);
    count =
        let counted = count_one (IsPageIn P I i) (length pages) (pages_of_size (inode_size I i))
        (pages, gone_once, (λ j. ((λ among. ((gone_among j).0 (in_contained j pages among)).1), (λ is. contained_in j pages ((gone_among j).1 (goes, is))))), refl)
        (file_pages_beside_law P I others state holds i node_reached bytes node_untouched.apart) in
        omega (arith, counted);
  }

  -- ---- the page of the slot

  named_or_not : (t : ℕ) → IsDecided ((t ≢ s) × (page_of_slot t ≡ page_of_slot s) × (slot_inode P I t ≢ 0))
  named_or_not t = elim (cases_eq t s) [
    | inl same ↦ inr (λ is. is.0 same)
    | inr other ↦ elim (cases_eq (page_of_slot t) (page_of_slot s)) [
      | inr apart ↦ inr (λ is. apart is.1)
      | inl here ↦ elim (cases_eq (slot_inode P I t) 0) [
        | inl none ↦ inr (λ is. is.2 none)
        | inr names ↦ inl (other, here, names)
      ]
    ]
  ]

  other_name : (given : Option ℕ) → IsGivenBack (IsAlone P I s) s given → HasOtherName P I s given
  other_name (Some page) (alone, same) = (sym same, λ t here other. alone t (here ∙ same) other)
  other_name None busy = elim (any_below (λ t. (t ≢ s) × (page_of_slot t ≡ page_of_slot s) × (slot_inode P I t ≢ 0)) (slots_of P) named_or_not) [
    | inl (t, is) ↦ (t, is.0, is.1, is.2)
    | inr none ↦ absurd (busy (λ t here other. elim (cases_eq (slot_inode P I t) 0) [
      | inl zero ↦ zero
      | inr names ↦
          let low = slot_below P t (subst (λ (j : ℕ). j < data_pages_of P) (sym here) (page_of_slot_below P s slot.live.held.in_range)) in
          absurd (none t low (other, here, names))
    ]))
  ]

  -- ---- what goes with the name

  file_goes : (kind : NodeKind) → Found kind → IsFile I i → (removal.loss.goes ≡ true) ↔ (path_count state.tree i ≡ 1)
  file_goes File is bytes = (
    (λ goes. eqb-true (path_count state.tree i) 1 (sym is.1 ∙ goes)),
    (λ one. is.1 ∙ eq-eqb (path_count state.tree i) 1 one),
  )
  file_goes Directory is bytes = absurd (not_both_kinds I i bytes is.0)

  directory_goes : (kind : NodeKind) → Found kind → IsDirectory I i → removal.loss.goes ≡ true
  directory_goes File is two = absurd (not_both_kinds I i is.0 two)
  directory_goes Directory is two = is.1

  fallen_by : (kind : NodeKind) → Found kind → IsFallen P I s removal.loss.goes (falling_of kind removal)
  fallen_by File is = by removal.loss.goes
    where
      bytes : IsFile I (slot_inode P I s)
      bytes = subst (IsFile I) (sym inode_is) is.0

      by : (goes : Bool) → IsFallen P I s goes (cond goes None (Some i))
      by true = (bytes, refl)
      by false = inl (bytes, refl, sym inode_is)
  fallen_by Directory is = inr (subst (IsDirectory I) (sym inode_is) is.0, sym owner_is)

  pub takes_along : TakesAlong P I state.tree s removal.given_back pages removal.loss.goes (falling_of removal.loss.kind removal)
  takes_along = record {
    file = subst (λ (x : ℕ). IsFile I x → (removal.loss.goes ≡ true) ↔ (path_count state.tree x ≡ 1)) (sym inode_is) (file_goes removal.loss.kind found);
    directory = subst (λ (x : ℕ). IsDirectory I x → removal.loss.goes ≡ true) (sym inode_is) (directory_goes removal.loss.kind found);
    of_node = λ j there. subst (λ (x : ℕ). IsPageIn P I x j) (sym inode_is) ((gone_among j).0 there).1;
    all_pages = subst (λ (x : ℕ). IsFile I x → removal.loss.goes ≡ true → AreInOrder P I pages 0 (inode_size I x)) (sym inode_is) all_pages;
    no_pages = λ why. elim why [
      | inl two ↦ none_in pages (λ j there. no_page (subst (IsDirectory I) inode_is two) j ((gone_among j).0 there).1)
      | inr stays ↦ ap (λ (t : Bool). cond t (pages_of volume.index i) []) stays
    ];
    page = other_name removal.given_back for.given_back;
    link = fallen_by removal.loss.kind found;
  }

  pub goes_with : GoesWith P I s removal.given_back pages removal.loss.goes (falling_of removal.loss.kind removal)
  goes_with = waiting_loss_law P I state path d s removal.given_back pages removal.loss.goes (falling_of removal.loss.kind removal) others beside_words leaving
      (subst (λ (x : ℕ). (j : ℕ) → IsIn j others.pages → page_owner P I j ≢ x) (sym inode_is) node_untouched.apart.pages) takes_along
