-- What the words have lost once a name is taken away, from its four intervals.
use Rattle.std.proofs.Common.{◌≡◌, ◌≢◌, ◌↔◌, inl, inr, ℕ, ◌<◌, ◌≤◌, true, false, List, reverse, Option, Some, None, sym, ap, subst, ◌∙◌, arith, get_or-set_other, true≢false}
use Rattle.std.specs.Prelude.{Contains}
use Rattle.layout.specs.Geometry.{inodes_of, data_pages_of, inode_word_of, slot_word_of}
use Rattle.layout.proofs.GeometryLaws.{same_inode_word, inode_word_not_descriptor_word, inode_word_not_slot_word}
use Rattle.layout.proofs.Widths.{in_inode, inode_field_read}
use Rattle.layout.specs.Fields.{word, inode_kind, page_owner, slot_inode}
use Rattle.tree_model.specs.PathText.{Route}
use Rattle.tree_model.specs.Tree.{parent, is_directory}
use Rattle.tree_model.specs.Run.{State}
use Rattle.image_reading.specs.Reading.{slot_owner, Reached}
use Rattle.image_counts.specs.Entries.{IsPageIn}
use Rattle.image_counts.proofs.Inodes.{inode_count_law}
use Rattle.image_counts.proofs.States.{state_law}
use Rattle.image_laws.specs.Drop.{Drops, dropped}
use Rattle.image_laws.specs.DropStep.{removing}
use Rattle.image_laws.specs.DropStep as steps
use Rattle.image_laws.specs.Shrunk.{HasShrunk}
use Rattle.image_laws.proofs.DropTidy.{shrunk_law}
use Rattle.volume.specs.Planned.{IsAlone, IsGivenBack}
use Rattle.volume.specs.declared.plan.Removal.{Removal}
use Rattle.volume.proofs.Staying.{other_path}
use Rattle.entry_steps.proofs.Lists.{not_none, one_page}
use Rattle.unlink_ops.specs.Removing.{IsRemovalAt}
use Rattle.unlink_ops.proofs.Removals
use Rattle.unlink_ops.proofs.Removals.{falling_of}
use Rattle.unlink_ops.proofs.Shrinking.{IsLost, HasLeft}

same_some : (x y : ℕ) → ◌≡◌ {A = Option ℕ} (Some x) (Some y) → x ≡ y
same_some x y e = cc

module _ {P : ℕ} {W : List ℕ} {state : State} (kind : steps.Removal) (path : Route) {removal : Removal} (at : IsRemovalAt P W state (removing kind path) removal)
    (pages : List ℕ) (pages_are : (j : ℕ) → Contains pages j ↔ ((removal.loss.goes ≡ true) × IsPageIn P W removal.loss.inode j))
    (I J K : List ℕ) (drops : Drops P W I J K removal.slot (falling_of kind removal)) where
  shrunk : HasShrunk P W K removal.slot
  shrunk = shrunk_law P W I J K _ removal.slot (falling_of kind removal) (Removals.can kind path at) drops

  node : Reached P W removal.loss.inode
  node = (reverse path, (at.reads.tree.names path removal.loss.inode).0 (Removals.for_removal kind path at).named.inode_is)

  node_within : (1 ≤ removal.loss.inode) × (removal.loss.inode ≤ inodes_of P)
  node_within = let range = inode_count_law P W state (Removals.coherent kind path at) at.reads in (range.least removal.loss.inode node, range.most removal.loss.inode node)

  directory_within : (1 ≤ removal.directory) × (removal.directory ≤ inodes_of P)
  directory_within =
      let range = inode_count_law P W state (Removals.coherent kind path at) at.reads in
      let reached = subst (λ (x : ℕ). Reached P W x) (Removals.owner_is kind path at) (Removals.for_removal kind path at).named.slot_is.slot.owner in
      (range.least removal.directory reached, range.most removal.directory reached)

  -- the node isn't its directory
  differ : removal.directory ≢ removal.loss.inode
  differ same =
      let for = Removals.for_removal kind path at in
      let holder = Removals.holder kind path at in
      let held = for.named.directory_is in
      let holds = ap (is_directory state.tree) (same_some removal.directory holder.directory (sym held ∙ holder.held)) ∙ holder.holds in
      let tree = (state_law P W state (Removals.coherent kind path at) at.reads).tree in
      other_path path holder.below (tree.one_path removal.directory holds (parent path) path held (for.named.inode_is ∙ ap (λ k. Some k) (sym same)))

  -- ---- owners

  back_by : (given : Option ℕ) → IsGivenBack (IsAlone P W removal.slot) removal.slot given → (j : ℕ) → given ≡ Some j → page_owner P W j ≡ removal.directory
  unfolding slot_owner
  back_by None kept j is = absurd (not_none j is)
  back_by (Some page) (alone, here) j is = ap (λ (k : ℕ). page_owner P W k) (sym (one_page page j is) ∙ here) ∙ Removals.owner_is kind path at

  lost : (j : ℕ) → j < data_pages_of P → IsLost P W removal j → page_owner P K j ≡ 0
  lost j low is = shrunk.given j (Removals.cut_given kind path at pages pages_are j (elim is [
    | inl of_node ↦ inl ((pages_are j).1 (of_node.0, record { in_range = low; owner = of_node.1 }))
    | inr back ↦ inr back
  ]))

  kept : (j : ℕ) → j < data_pages_of P → ¬ IsLost P W removal j → page_owner P K j ≡ page_owner P W j
  kept j low not = shrunk.owners j low (λ given. not (elim (Removals.given_cut kind path at pages pages_are j given) [
    | inl among ↦ let (goes, is) = (pages_are j).0 among in inl (goes, is.owner)
    | inr back ↦ inr back
  ]))

  -- ---- kinds

  -- the first word of an inode that stays is stored to in no interval
  kind_kept : (x : ℕ) → 1 ≤ x → x ≤ inodes_of P → ((Reached P (dropped P W removal.slot) (slot_inode P W removal.slot) → ⊥) → x ≢ slot_inode P W removal.slot) → 1 ≤ slot_inode P W removal.slot → 1 ≤ falling_of kind removal → inode_kind K x ≡ inode_kind W x
  unfolding inode_kind word
  kind_kept x some most other node_some falling_some =
      drops.rest.others (inode_word_of x 0) (λ j f given low high. inode_word_not_descriptor_word P x j 0 f some most (omega arith))
      (λ gone f lt e. other gone ((same_inode_word x (slot_inode P W removal.slot) 0 f some node_some (omega arith) (in_inode _ f lt) e).0))
      ∙ drops.gives.others (inode_word_of x 0) (λ j given. inode_word_not_descriptor_word P x j 0 0 some most (omega arith))
      ∙ drops.clears.others (inode_word_of x 0) (λ f low high. inode_word_not_slot_word P x removal.slot 0 f some most (omega arith))
      (λ e. let zero = (same_inode_word x (falling_of kind removal) 0 1 some falling_some (omega arith) (omega arith) e).1 in omega (arith, zero))
      ∙ get_or-set_other W (slot_word_of P removal.slot 0) (inode_word_of x 0) 0 0 (inode_word_not_slot_word P x removal.slot 0 0 some most (omega arith))

  inode_some : 1 ≤ slot_inode P W removal.slot
  inode_some = subst (λ (i : ℕ). 1 ≤ i) (sym (Removals.inode_is kind path at)) node_within.0

  falling_some : (kind : steps.Removal) → 1 ≤ falling_of kind removal
  falling_some steps.file = node_within.0
  falling_some steps.directory = directory_within.0

  gone_is : removal.loss.goes ≡ true → Reached P (dropped P W removal.slot) (slot_inode P W removal.slot) → ⊥
  gone_is goes = subst (λ (i : ℕ). Reached P (dropped P W removal.slot) i → ⊥) (sym (Removals.inode_is kind path at)) ((Removals.gone_when kind path at).0 goes)

  stays_is : removal.loss.goes ≡ false → (Reached P (dropped P W removal.slot) (slot_inode P W removal.slot) → ⊥) → ⊥
  stays_is stays gone = true≢false (sym ((Removals.gone_when kind path at).1 (subst (λ (i : ℕ). Reached P (dropped P W removal.slot) i → ⊥) (Removals.inode_is kind path at) gone)) ∙ stays)

  kind_gone : removal.loss.goes ≡ true → inode_kind K removal.loss.inode ≡ 0
  unfolding inode_kind
  kind_gone goes = ap (λ (i : ℕ). word K (inode_word_of i 0)) (sym (Removals.inode_is kind path at)) ∙ drops.rest.inode (gone_is goes) 0 (inode_field_read _ 0 (omega arith))

  pub has_left : HasLeft P W K removal
  has_left = record {
    shrunk = shrunk;
    named = (Removals.for_removal kind path at).named.slot_is;
    node = node;
    differ = differ;
    inode = Removals.inode_is kind path at;
    back = back_by removal.given_back (Removals.for_removal kind path at).given_back;
    lost = lost;
    kept = kept;
    kinds = λ x some most other. kind_kept x some most (λ gone same. other (same ∙ Removals.inode_is kind path at)) inode_some (falling_some kind);
    stays = λ stays. kind_kept removal.loss.inode node_within.0 node_within.1 (λ gone. absurd (stays_is stays gone)) inode_some (falling_some kind);
    gone = kind_gone;
  }
