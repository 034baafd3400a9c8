-- What the plan of a removal says of the tree and of the words.
use Rattle.std.proofs.Common.{◌≡◌, ◌≢◌, ◌↔◌, ◌⊎◌, inl, inr, ℕ, ◌*◌, ◌<◌, true, List, [], ◌∷◌, length, reverse, Option, Some, None, is_none, refl, sym, ap, subst, ◌∙◌, arith}
use Rattle.std.specs.Prelude.{Contains}
use Rattle.std.proofs.Common.{get_or-set_same, get_or-set_other}
use Rattle.std.proofs.lemmas.Bool.{cases_eq, false≢true}
use Rattle.std.proofs.lemmas.List.{reverse-append}
use Rattle.layout.specs.Geometry.{IsVolumeSize, data_pages_of, slots_of, page_of_slot, inode_word_of, descriptor_word_of, slot_word_of}
use Rattle.layout.proofs.GeometryLaws.{page_of_slot_below, slot_below, slot_word_within, same_slot_word, descriptor_word_not_slot_word}
use Rattle.layout.specs.Fields.{word, page_owner, slot_inode, slot_name}
use Rattle.tree_model.specs.PathText.{Route}
use Rattle.tree_model.specs.Tree.{Node, id_at, node_at, is_file, is_file_node, is_directory, is_directory_node, parent, last_name}
use Rattle.tree_model.specs.Capacity.{untaken}
use Rattle.tree_model.specs.Step.{step, refusal_of, outcome_of, least_free_id, without_path, without_unnamed, tree_after}
use Rattle.tree_model.specs.Run.{State}
use Rattle.tree_model.specs.Accepted.{HasHolder, MayUnlink, MayRemove}
use Rattle.tree_model.proofs.AcceptedLaws.{Accepted-from_row}
use Rattle.tree_model.specs.declared.command.Command.TheVariants.{Unlink, Rmdir}
use Rattle.tree_model.specs.declared.reply.Refusal.{Refusal}
use Rattle.image_reading.specs.Reading.{HasBytes, IsDirectory, slot_owner, Names, Reached, Reads, IsRoomOf}
use Rattle.image_reading.specs.Soundness.{Rule, IsCoherent}
use Rattle.image_reading.proofs.Tidied.{tidied}
use Rattle.image_counts.specs.Entries.{IsSlotOf, IsSlotIn, IsPageIn}
use Rattle.image_counts.proofs.Nodes.{size_law}
use Rattle.image_counts.proofs.Paths as paths
use Rattle.image_counts.proofs.Slots.{absence_law}
use Rattle.image_counts.proofs.States.{state_law}
use Rattle.image_counts.proofs.Tidied.{room_law}
use Rattle.image_laws.specs.Drop.{CanDrop, IsFalling, ClearsName, IsGiven, GivesPages, ClearsRest, Drops, dropped}
use Rattle.image_laws.specs.DropStep.{removing, file, directory}
use Rattle.image_laws.specs.DropStep as steps
use Rattle.image_laws.specs.Remove.{CanRemove}
use Rattle.image_laws.proofs.DropSteps.{can_remove}
use Rattle.image_laws.proofs.RemoveFacts as facts
use Rattle.image_laws.proofs.Removes.{remove_law}
use Rattle.image_laws.proofs.RemoveTree.{remove_tree_law}
use Rattle.layout.specs.declared.kinds.NodeKind.{NodeKind}
use Rattle.layout.specs.declared.kinds.NodeKind.TheVariants.{File, Directory}
use Rattle.volume.specs.Moves.{is_directory_kind}
use Rattle.volume.specs.declared.plan.Action.{Action}
use Rattle.volume.specs.declared.plan.Action.TheVariants.{Remove}
use Rattle.volume.specs.Planned.{IsAlone, IsGivenBack, IsRemovalFor, IsPlanOf}
use Rattle.volume.specs.declared.plan.Removal.{Removal}
use Rattle.volume.proofs.Ways.{whole_path}
use Rattle.entry_steps.proofs.Lists.{not_none, one_page}
use Rattle.removal_steps.proofs.Goes.{goes_when}
use Rattle.unlink_ops.specs.Removing.{IsRemovalAt}
use Rattle.unlink_ops.specs.Taking.{falling_by}

some_one : (x y : ℕ) → ◌≡◌ {A = Option ℕ} (Some x) (Some y) → x ≡ y
some_one x y e = cc

same_removal : (one two : Removal) → ◌≡◌ {A = Action} (Remove one) (Remove two) → two ≡ one
same_removal one two e = cc

removal_by : (P : ℕ) (I : List ℕ) (state : State) (path : Route) (kind : steps.Removal) (removal : Removal) → IsPlanOf P I state (removing kind path) (Remove removal) → IsRemovalFor P I state (removing kind path) path removal
removal_by P I state path file removal (other, is, for) = subst (λ (r : Removal). IsRemovalFor P I state (Unlink path) path r) (same_removal removal other is) for
removal_by P I state path directory removal (other, is, for) = subst (λ (r : Removal). IsRemovalFor P I state (Rmdir path) path r) (same_removal removal other is) for

-- what an accepted removal found at its path
abbrev HasFound : State → Route → steps.Removal → Type 0
HasFound state path file = MayUnlink state.tree path
HasFound state path directory = MayRemove state.tree path

holder_of : (state : State) (path : Route) (kind : steps.Removal) → HasFound state path kind → HasHolder state.tree path
holder_of state path file found = found.holder
holder_of state path directory found = found.holder

-- the node that loses a link: the file, or the directory's parent
abbrev pub falling_of : steps.Removal → Removal → ℕ
falling_of file removal = removal.loss.inode
falling_of directory removal = removal.directory

module _ {P : ℕ} {W : List ℕ} {state : State} (kind : steps.Removal) (path : Route) {removal : Removal} (at : IsRemovalAt P W state (removing kind path) removal) where
  pub coherent : IsCoherent P W
  coherent = (tidied at.tidy).coherent

  pub size : IsVolumeSize P
  size = (coherent Rule.head 0).size refl

  pub whole : length W ≡ 512 * P
  whole = (coherent Rule.head 0).whole refl

  pub for_removal : IsRemovalFor P W state (removing kind path) path removal
  for_removal = removal_by P W state path kind removal at.planned.plan_is

  found_by : (kind : steps.Removal) → refusal_of P state.tree state.room (removing kind path) ≡ None → HasFound state path kind
  found_by file accepted = Accepted-from_row (untaken P) state.tree state.room (Unlink path) (state_law P W state coherent at.reads).tree accepted
  found_by directory accepted = Accepted-from_row (untaken P) state.tree state.room (Rmdir path) (state_law P W state coherent at.reads).tree accepted

  found : HasFound state path kind
  found = found_by kind at.planned.accepted

  pub holder : HasHolder state.tree path
  holder = holder_of state path kind found

  -- ---- the slot

  pub parent_named : Names P W (reverse (parent path)) removal.directory
  parent_named = (at.reads.tree.names (parent path) removal.directory).0 for_removal.named.directory_is

  pub path_reversed : reverse path ≡ slot_name P W removal.slot ∷ reverse (parent path)
  path_reversed =
      ap reverse (whole_path path holder.below) ∙ reverse-append (parent path) (last_name path ∷ [])
      ∙ ap (λ (n : List ℕ). n ∷ reverse (parent path)) (sym (for_removal.named.slot_is.name ∙ for_removal.named.name_is))

  pub owner_is : slot_owner P W removal.slot ≡ removal.directory
  owner_is = for_removal.named.slot_is.owner

  pub inode_is : slot_inode P W removal.slot ≡ removal.loss.inode
  inode_is =
      let names : Names P W (slot_name P W removal.slot ∷ reverse (parent path)) (slot_inode P W removal.slot)
      = (removal.slot, subst (λ (x : ℕ). Names P W (reverse (parent path)) x) (sym owner_is) parent_named, paths.slot_leads P W coherent removal.slot for_removal.named.slot_is.slot) in
      let there = (at.reads.tree.names path (slot_inode P W removal.slot)).1 (subst (λ (r : Route). Names P W r (slot_inode P W removal.slot)) (sym path_reversed) names) in
      some_one (slot_inode P W removal.slot) removal.loss.inode (sym there ∙ for_removal.named.inode_is)

  -- ---- the node

  file_by : (id : ℕ) (bytes : List ℕ) → id_at state.tree path ≡ Some id → is_file state.tree id ≡ true → HasBytes W removal.loss.inode
  file_by id bytes named is =
      let same = some_one id removal.loss.inode (sym named ∙ for_removal.named.inode_is) in
      subst (λ (i : ℕ). HasBytes W i) same (((size_law P W state coherent at.reads).files id).0 is).1

  -- the kind of the node is that of the command
  kind_by : (kind : steps.Removal) → HasFound state path kind → IsFalling P W removal.slot (falling_of kind removal) × (IsDirectory W (slot_inode P W removal.slot) → (t : ℕ) → IsSlotOf P W (slot_inode P W removal.slot) t → ⊥)
  kind_by file is =
      let bytes = file_by is.source.id is.source.bytes is.source.named (ap (λ (o : Option Node). is_file_node o) is.source.file) in
      let here : HasBytes W (slot_inode P W removal.slot) = subst (λ (i : ℕ). HasBytes W i) (sym inode_is) bytes in
      (inl (here, sym inode_is), (λ two t slot. omega (arith, here, two)))
  kind_by directory is =
      let same = some_one is.source.id removal.loss.inode (sym is.source.named ∙ for_removal.named.inode_is) ∙ sym inode_is in
      let two = (((size_law P W state coherent at.reads).directories is.source.id).0 is.source.directory).1 in
      let none = ((absence_law P W state coherent at.reads).empty is.source.id).0 is.empty in
      (inr (subst (λ (i : ℕ). IsDirectory W i) same two, sym owner_is), (λ _ t slot. none t (subst (λ (i : ℕ). IsSlotOf P W i t) (sym same) slot)))

  -- the plan tells it by the node's kind
  falling_by_kind : (kind : steps.Removal) → HasFound state path kind → (node : NodeKind) → is_directory state.tree removal.loss.inode ≡ is_directory_kind node → falling_by node removal ≡ falling_of kind removal
  falling_by_kind file is File kind_is = refl
  falling_by_kind file is Directory kind_is =
      let same = some_one is.source.id removal.loss.inode (sym is.source.named ∙ for_removal.named.inode_is) in
      let no = ap (λ (i : ℕ). is_directory state.tree i) (sym same) ∙ ap (λ (o : Option Node). is_directory_node o) is.source.file in
      absurd (false≢true (sym no ∙ kind_is))
  falling_by_kind directory is Directory kind_is = refl
  falling_by_kind directory is File kind_is =
      let same = some_one is.source.id removal.loss.inode (sym is.source.named ∙ for_removal.named.inode_is) in
      let yes = ap (λ (i : ℕ). is_directory state.tree i) (sym same) ∙ is.source.directory in
      absurd (false≢true (sym kind_is ∙ yes))

  pub falling_is : falling_by removal.loss.kind removal ≡ falling_of kind removal
  falling_is = falling_by_kind kind found removal.loss.kind for_removal.loss.kind_is

  pub falls : IsFalling P W removal.slot (falling_of kind removal)
  falls = (kind_by kind found).0

  -- the way to its directory
  abbrev pub way : Route
  way = reverse (parent path)

  pub can : CanDrop P W (reverse (parent path)) removal.slot
  can = record {
    tidy = tidied at.tidy;
    path = subst (λ (x : ℕ). Names P W (reverse (parent path)) x) (sym owner_is) parent_named;
    slot = for_removal.named.slot_is.slot;
    empty = (kind_by kind found).1;
  }

  pub removes : CanRemove P W (reverse (parent path)) removal.slot
  removes = can_remove P W (reverse (parent path)) removal.slot can

  -- ---- the step

  tree_by : (kind : steps.Removal) → refusal_of P state.tree state.room (removing kind path) ≡ None → (step P state.tree state.room (removing kind path)).tree ≡ without_unnamed (without_path state.tree path)
  tree_by file accepted = ap (λ (o : Option Refusal). (outcome_of o (untaken P) (least_free_id state.tree) state.tree state.room (Unlink path)).tree) accepted
  tree_by directory accepted = ap (λ (o : Option Refusal). (outcome_of o (untaken P) (least_free_id state.tree) state.tree state.room (Rmdir path)).tree) accepted

  pub tree_is : (step P state.tree state.room (removing kind path)).tree ≡ without_unnamed (without_path state.tree path)
  tree_is = tree_by kind at.planned.accepted

  -- ---- whether the node goes

  pub dropped_coherent : IsCoherent P (dropped P W removal.slot)
  dropped_coherent = (remove_law P W (reverse (parent path)) removal.slot removes).coherent

  pub dropped_reads : Reads P (dropped P W removal.slot) (without_unnamed (without_path state.tree path))
  dropped_reads = remove_tree_law P W (reverse (parent path)) path removal.slot state.tree removes path_reversed at.reads.tree

  goes_by : (kind : steps.Removal) → removal.loss.goes ≡ is_none (node_at (tree_after (least_free_id state.tree) state.tree (removing kind path)) removal.loss.inode) → removal.loss.goes ≡ is_none (node_at (without_unnamed (without_path state.tree path)) removal.loss.inode)
  goes_by file is = is
  goes_by directory is = is

  pub gone_when : (removal.loss.goes ≡ true) ↔ (Reached P (dropped P W removal.slot) removal.loss.inode → ⊥)
  gone_when = goes_when P (dropped P W removal.slot) (without_unnamed (without_path state.tree path)) dropped_coherent dropped_reads removal.loss.inode removal.loss.goes (goes_by kind for_removal.loss.goes_is)

  -- ---- the pages that are given back

  pub dropped_word : (a : ℕ) → a ≢ slot_word_of P removal.slot 0 → word (dropped P W removal.slot) a ≡ word W a
  unfolding word
  dropped_word a other = get_or-set_other W (slot_word_of P removal.slot 0) a 0 0 other

  pub dropped_owner : (j : ℕ) → j < data_pages_of P → page_owner P (dropped P W removal.slot) j ≡ page_owner P W j
  unfolding page_owner
  dropped_owner j low = dropped_word (descriptor_word_of P j 0) (descriptor_word_not_slot_word P j removal.slot 0 0 low (omega arith))

  pub dropped_number : (t : ℕ) → t ≢ removal.slot → slot_inode P (dropped P W removal.slot) t ≡ slot_inode P W t
  unfolding slot_inode
  dropped_number t other = dropped_word (slot_word_of P t 0) (λ e. other ((same_slot_word P t removal.slot 0 0 (omega arith) (omega arith) e).0))

  slot_low : removal.slot < slots_of P
  slot_low = for_removal.named.slot_is.slot.live.held.in_range

  pub dropped_here : slot_inode P (dropped P W removal.slot) removal.slot ≡ 0
  unfolding slot_inode word
  dropped_here = let inside = slot_word_within P removal.slot 0 slot_low (omega arith) in get_or-set_same W (slot_word_of P removal.slot 0) 0 0 (omega (arith, inside, whole))

  page_low : page_of_slot removal.slot < data_pages_of P
  page_low = page_of_slot_below P removal.slot slot_low

  abbrev IsGivenHere : ℕ → Type 0
  IsGivenHere j = IsGiven P (dropped P W removal.slot) (slot_owner P W removal.slot) removal.slot (slot_inode P W removal.slot) j

  -- where no other slot of the page names anything, no name is left in it
  alone_empty : IsAlone P W removal.slot → (j : ℕ) → j ≡ page_of_slot removal.slot → IsRoomOf P (dropped P W removal.slot) (slot_owner P W removal.slot) j → ⊥
  alone_empty alone j here room =
      let (t, page, owner, live) = room.slot in
      elim (cases_eq t removal.slot) [
        | inl same ↦ live.names (ap (λ (x : ℕ). slot_inode P (dropped P W removal.slot) x) same ∙ dropped_here)
        | inr other ↦ live.names (dropped_number t other ∙ alone t (page ∙ here) other)
      ]

  pub directory_here : Reached P W removal.directory × IsDirectory W removal.directory
  directory_here = (
    subst (λ (x : ℕ). Reached P W x) owner_is for_removal.named.slot_is.slot.owner,
    subst (λ (x : ℕ). IsDirectory W x) owner_is for_removal.named.slot_is.slot.directory,
  )

  pub slot_in : (t : ℕ) → page_of_slot t ≡ page_of_slot removal.slot → IsSlotIn P W removal.directory t
  unfolding slot_owner
  slot_in t page = record {
    in_range = slot_below P t (subst (λ (j : ℕ). j < data_pages_of P) (sym page) page_low);
    owner = ap (λ (j : ℕ). page_owner P W j) page ∙ owner_is;
  }

  -- and where one is left, another slot names something
  empty_alone : (IsRoomOf P (dropped P W removal.slot) (slot_owner P W removal.slot) (page_of_slot removal.slot) → ⊥) → IsAlone P W removal.slot
  empty_alone empty t page other = elim (cases_eq (slot_inode P W t) 0) [
    | inl none ↦ none
    | inr some ↦
        let here = slot_in t page in
        let reached = ((room_law P W state (tidied at.tidy) at.reads removal.directory directory_here.0 directory_here.1).live t here).1 some in
        let later = facts.slot_forward P W (reverse (parent path)) removal.slot removes t other reached in
        let owner = facts.owner_same P W (reverse (parent path)) removal.slot removes t reached ∙ here.owner ∙ sym owner_is in
        absurd (empty (record {
          reached = subst (λ (x : ℕ). Reached P (dropped P W removal.slot) x) owner later.owner;
          directory = subst (λ (x : ℕ). IsDirectory (dropped P W removal.slot) x) owner later.directory;
          slot = (t, page, owner, later.live);
        }))
  ]

  back_given : (given_back : Option ℕ) → IsGivenBack (IsAlone P W removal.slot) removal.slot given_back → (j : ℕ) → given_back ≡ Some j → IsGivenHere j
  back_given None back j is = absurd (not_none j is)
  back_given (Some page) back j is =
      let here : j ≡ page_of_slot removal.slot = sym (one_page page j is) ∙ back.1 in
      record { in_range = subst (λ (k : ℕ). k < data_pages_of P) (sym here) page_low; why = inr (here, alone_empty back.0 j here) }

  given_back_is : (given_back : Option ℕ) → IsGivenBack (IsAlone P W removal.slot) removal.slot given_back → (j : ℕ) → j ≡ page_of_slot removal.slot → (IsRoomOf P (dropped P W removal.slot) (slot_owner P W removal.slot) j → ⊥) → given_back ≡ Some j
  given_back_is None back j here empty = absurd (back (empty_alone (subst (λ (k : ℕ). IsRoomOf P (dropped P W removal.slot) (slot_owner P W removal.slot) k → ⊥) here empty)))
  given_back_is (Some page) back j here empty = ap (λ (k : ℕ). Some k) (back.1 ∙ sym here)

  -- the pages of the plan, where these are the node's that goes
  module _ (pages : List ℕ) (pages_are : (j : ℕ) → Contains pages j ↔ ((removal.loss.goes ≡ true) × IsPageIn P W removal.loss.inode j)) where
    pub cut_given : (j : ℕ) → Contains pages j ⊎ (removal.given_back ≡ Some j) → IsGivenHere j
    cut_given j (inl among) =
        let (goes, is) = (pages_are j).0 among in
        record { in_range = is.in_range; why = inl (dropped_owner j is.in_range ∙ is.owner ∙ sym inode_is, subst (λ (i : ℕ). Reached P (dropped P W removal.slot) i → ⊥) (sym inode_is) (gone_when.0 goes)) }
    cut_given j (inr back) = back_given removal.given_back for_removal.given_back j back

    pub given_cut : (j : ℕ) → IsGivenHere j → Contains pages j ⊎ (removal.given_back ≡ Some j)
    given_cut j given = elim given.why [
      | inl own ↦ inl ((pages_are j).1 (
        gone_when.1 (subst (λ (i : ℕ). Reached P (dropped P W removal.slot) i → ⊥) inode_is own.1),
        record { in_range = given.in_range; owner = sym (dropped_owner j given.in_range) ∙ own.0 ∙ inode_is },
      ))
      | inr here ↦ inr (given_back_is removal.given_back for_removal.given_back j here.0 here.1)
    ]

    -- the four intervals are those of the laws
    pub drops : (I J K : List ℕ) → ClearsName P (dropped P W removal.slot) I removal.slot (falling_of kind removal)
        → GivesPages P I J (λ j. Contains pages j ⊎ (removal.given_back ≡ Some j)) → ClearsRest P J K (λ j. Contains pages j ⊎ (removal.given_back ≡ Some j)) (removal.loss.goes ≡ true) removal.loss.inode
        → Drops P W I J K removal.slot (falling_of kind removal)
    drops I J K clears gives rest = record {
      falls = falls;
      clears = clears;
      gives = record { size = gives.size; owners = λ j given. gives.owners j (given_cut j given); others = λ a out. gives.others a (λ j cut. out j (cut_given j cut)) };
      rest = record {
        size = rest.size;
        rests = λ j f given. rest.rests j f (given_cut j given);
        inode = λ gone f lt. ap (λ (i : ℕ). word K (inode_word_of i f)) inode_is ∙ rest.inode (gone_when.1 (subst (λ (i : ℕ). Reached P (dropped P W removal.slot) i → ⊥) inode_is gone)) f lt;
        others = λ a out kept. rest.others a (λ j f cut. out j f (cut_given j cut))
            (λ goes f lt e. kept (subst (λ (i : ℕ). Reached P (dropped P W removal.slot) i → ⊥) (sym inode_is) (gone_when.0 goes)) f lt (e ∙ ap (λ (i : ℕ). inode_word_of i f) (sym inode_is)));
      };
    }
