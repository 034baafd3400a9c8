-- By the plan of a removal: what stands of the words before its first step.
use Rattle.std.proofs.Common.{◌≡◌, ◌≢◌, inl, inr, ℕ, ◌<◌, ◌≤◌, true, List, [], ◌∷◌, length, Option, Some, None, sym, ap, subst, ◌∙◌, arith}
use Rattle.std.proofs.lemmas.Bool.{false≢true}
use Rattle.layout.specs.declared.kinds.NodeKind.{NodeKind}
use Rattle.layout.specs.declared.kinds.NodeKind.TheVariants.{File, Directory}
use Rattle.layout.specs.Geometry.{inodes_of, data_pages_of}
use Rattle.layout.specs.Kinds.{node_code}
use Rattle.layout.proofs.GeometryLaws.{page_of_slot_below}
use Rattle.layout.specs.Fields.{inode_kind, inode_links, page_owner, page_kind}
use Rattle.tree_model.specs.PathText.{Route}
use Rattle.tree_model.specs.Tree.{is_directory}
use Rattle.tree_model.specs.Run.{State}
use Rattle.image_reading.specs.Reading.{HasBytes, IsDirectory, slot_owner, Reached, IsReachedSlot, IsNameOf}
use Rattle.image_reading.specs.Soundness.{Rule, IsCoherent}
use Rattle.image_counts.specs.Laws.{HasInodes}
use Rattle.image_counts.proofs.Inodes.{inode_count_law}
use Rattle.image_counts.proofs.Nodes.{size_law}
use Rattle.image_counts.proofs.Paths as paths
use Rattle.image_laws.specs.Drop.{IsFalling, dropped}
use Rattle.image_laws.specs.DropStep.{removing}
use Rattle.image_laws.specs.DropStep as steps
use Rattle.image_laws.proofs.RemoveFacts as facts
use Rattle.volume.specs.Moves.{is_directory_kind}
use Rattle.volume.specs.Planned.{IsAlone, IsGivenBack}
use Rattle.volume.specs.declared.plan.Removal.{Removal}
use Rattle.entry_steps.specs.Steps.{IsLinkable}
use Rattle.entry_steps.proofs.Places
use Rattle.removal_steps.specs.Steps.{AreGonePages, CanUnname, HasLink}
use Rattle.removal_steps.proofs.NodePages.{gone_counted}
use Rattle.removal_steps.proofs.Leaving as leaving
use Rattle.removal_steps.proofs.Leaving.{HasLastName}
use Rattle.unlink_ops.specs.RemovalStages.{MayEmptyBut, HasLastLink, IsGoingBut, IsThere}
use Rattle.unlink_ops.specs.Removing.{IsRemovalAt}
use Rattle.unlink_ops.specs.Taking.{falling_by}
use Rattle.unlink_ops.proofs.Removals

module _ {P : ℕ} {W : List ℕ} {state : State} (kind : steps.Removal) (path : Route) {removal : Removal} (at : IsRemovalAt P W state (removing kind path) removal) where
  coherent : IsCoherent P W
  coherent = Removals.coherent kind path at

  -- ---- the slot

  slot : IsReachedSlot P W removal.slot
  slot = (Removals.for_removal kind path at).named.slot_is.slot

  can_unname : CanUnname P W removal.slot
  can_unname = record {
    in_range = slot.live.held.in_range;
    live = (slot.live.names, (Removals.removes kind path at).no_pointer, coherent Rule.names removal.slot slot);
  }

  emptied_by : (given : Option ℕ) → IsGivenBack (IsAlone P W removal.slot) removal.slot given → MayEmptyBut P W removal.slot given
  unfolding slot_owner
  emptied_by None back = tt
  emptied_by (Some page) (alone, here) = record {
    in_range = subst (λ (k : ℕ). k < data_pages_of P) (sym here) (page_of_slot_below P removal.slot slot.live.held.in_range);
    owned = λ zero. slot.live.held.owned (ap (page_owner P W) (sym here) ∙ zero);
    kind = ap (page_kind P W) here ∙ slot.live.held.kind;
    slots = λ other stands differs. alone other (stands ∙ here) differs;
  }

  -- ---- the node that loses a link

  reached_by : (y : ℕ) → IsFalling P W removal.slot y → Reached P W y
  reached_by y (inl file) =
      subst (λ (i : ℕ). Reached P W i) (sym file.1)
      (_ ∷ slot.owner.0, (removal.slot, slot.owner.1, paths.slot_leads P W coherent removal.slot slot))
  reached_by y (inr directory) = subst (λ (i : ℕ). Reached P W i) (sym directory.1) slot.owner

  linked_by : (y : ℕ) → IsFalling P W removal.slot y → 1 ≤ inode_links W y
  linked_by y (inl file) =
      let enough = coherent Rule.links y (reached_by y (inl file)) in
      let bytes : HasBytes W y = subst (λ (i : ℕ). HasBytes W i) (sym file.1) file.0 in
      let one = enough.file bytes (removal.slot ∷ []) ((λ none. none), tt)
      (λ x here. elim here [ inl same ↦ subst (λ (t : ℕ). IsNameOf P W y t) (sym same) (record { slot = slot; inode = sym file.1 }) | inr none ↦ absurd none ]) in
      omega (arith, one)
  linked_by y (inr parent) =
      let enough = coherent Rule.links y (reached_by y (inr parent)) in
      let directory : IsDirectory W y = subst (λ (i : ℕ). IsDirectory W i) (sym parent.1) slot.directory in
      let two = enough.directory directory [] tt (λ x none. absurd none) in
      omega (arith, two)

  link_by : (y : ℕ) → IsFalling P W removal.slot y → HasLink P W y
  link_by y falls =
      let here : IsLinkable P W y = Places.linkable at.tidy at.reads y (reached_by y falls) in
      record { least = here.least; most = here.most; node = here.live; some_link = linked_by y falls }

  linked : HasLink P W (falling_by removal.loss.kind removal)
  linked = subst (HasLink P W) (sym (Removals.falling_is kind path at)) (link_by _ (Removals.falls kind path at))

  -- ---- the node that loses its name

  node_reached : Reached P W removal.loss.inode
  node_reached = subst (λ (i : ℕ). Reached P W i) (Removals.inode_is kind path at) (paths.inode_reached P W coherent removal.slot slot)

  inodes : HasInodes P W state.tree
  inodes = inode_count_law P W state coherent at.reads

  pub node_least : 1 ≤ removal.loss.inode
  node_least = inodes.least removal.loss.inode node_reached

  pub node_most : removal.loss.inode ≤ inodes_of P
  node_most = inodes.most removal.loss.inode node_reached

  kind_by : (node : NodeKind) → is_directory state.tree removal.loss.inode ≡ is_directory_kind node → inode_kind W removal.loss.inode ≡ node_code node
  kind_by File is = elim ((coherent Rule.kinds removal.loss.inode).kind node_reached) [
    | inl file ↦ file
    | inr directory ↦ absurd (false≢true (sym is ∙ ((size_law P W state coherent at.reads).directories removal.loss.inode).1 (node_reached, directory)))
  ]
  kind_by Directory is = (((size_law P W state coherent at.reads).directories removal.loss.inode).0 is).1

  -- another name leads to it after the commit too
  still_named : (t : ℕ) → t ≢ removal.slot → IsNameOf P W removal.loss.inode t → Reached P (dropped P W removal.slot) removal.loss.inode
  still_named t other name =
      let after = facts.slot_forward P W (Removals.way kind path at) removal.slot (Removals.removes kind path at) t other name.slot in
      subst (λ (i : ℕ). Reached P (dropped P W removal.slot) i) (Removals.dropped_number kind path at t other ∙ name.inode)
      (paths.inode_reached P (dropped P W removal.slot) (Removals.dropped_coherent kind path at) t after)

  has : HasLastName P W removal.loss removal.slot
  has = record {
    name = record { slot = slot; inode = Removals.inode_is kind path at };
    kind = kind_by removal.loss.kind (Removals.for_removal kind path at).loss.kind_is;
    empty = λ two t is. (let inode = Removals.inode_is kind path at in (Removals.can kind path at).empty (ap (inode_kind W) inode ∙ two) t (is.0, is.1 ∙ sym inode));
    last = λ goes t other name. (Removals.gone_when kind path at).0 goes (still_named t other name);
  }

  module _ (pages : List ℕ) (are : AreGonePages P W (Some removal.loss) pages) where
    pub counted : length pages ≡ removal.loss.pages
    counted = gone_counted P W state (removing kind path) removal.loss pages (Removals.for_removal kind path at).loss are

    last : 0 < length pages → HasLastLink W removal
    last some =
        let bytes = leaving.bytes_by at.tidy at.reads has pages are some in
        record {
          kind = leaving.is_file at.tidy at.reads has pages are some;
          node = (inl bytes, leaving.own at.tidy at.reads has);
          links = leaving.one_link at.tidy at.reads has (leaving.page_by at.tidy at.reads has pages are 0 some).0 bytes;
        }

    going : removal.loss.goes ≡ true → IsGoingBut P W removal pages (λ t. t ≡ removal.slot)
    going goes =
        let least = node_least in
        record {
          least = node_least;
          most = node_most;
          kind_is = has.kind;
          own = leaving.own at.tidy at.reads has;
          unowned = λ page low out same. out ((are.among page).1 (goes, record { in_range = low; owner = same }));
          unnamed = λ t held other same. has.last goes t other (record { slot = leaving.held_reached at.tidy at.reads has t held (λ zero. omega (arith, least, same, zero)); inode = same });
        }

    pub is_there : IsThere P W removal pages
    is_there = record {
      named = can_unname;
      linked = linked;
      file = leaving.pages_before at.tidy at.reads has pages are;
      last = last;
      emptied = emptied_by removal.given_back (Removals.for_removal kind path at).given_back;
      going = going;
    }
