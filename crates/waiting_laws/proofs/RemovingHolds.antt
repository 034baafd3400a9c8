-- What a removal has left lies in what it holds.
use Rattle.std.proofs.Common.{◌≡◌, ◌≢◌, ◌⊎◌, inl, inr, ℕ, zero, suc, ◌<◌, ◌≤◌, Bool, true, false, List, [], ◌∷◌, length, Option, Some, None, refl, sym, ap, subst, ◌∙◌, arith}
use Rattle.std.specs.Prelude.{Contains, slice_index, if◌then◌else◌}
use Rattle.std.proofs.lemmas.Bool.{cases_lt}
use Rattle.std.proofs.lemmas.List.{get_or_default, get_or_past}
use Rattle.pm_trait.specs.DeviceView.{DeviceView}
use Rattle.layout.specs.Geometry.{inodes_of, data_pages_of, page_of_slot}
use Rattle.layout.proofs.GeometryLaws.{page_of_slot_below}
use Rattle.layout.specs.Fields.{inode_kind, page_owner}
use Rattle.layout.specs.Kinds.{node_code}
use Rattle.layout.specs.declared.fields.DescriptorFields.{DescriptorFields}
use Rattle.layout.specs.declared.kinds.NodeKind.{NodeKind}
use Rattle.layout.specs.declared.kinds.NodeKind.TheVariants.{File, Directory}
use Rattle.tree_model.specs.Run.{State}
use Rattle.image_reading.specs.Counts.{IsIn}
use Rattle.image_reading.specs.Reading.{slot_owner}
use Rattle.image_reading.specs.Residue.{Residue}
use Rattle.image_counts.proofs.Distinct.{in_front, in_back, in_either}
use Rattle.image_counts.proofs.Nodes.{size_law}
use Rattle.weave_laws.specs.Naming.{slots_left, pages_left}
use Rattle.weave_laws.specs.Removing.{inodes_left, falling_left}
use Rattle.weave_laws.proofs.Contained.{in_contained, contained_in}
use Rattle.weave_laws.proofs.NodeWritten.{some_code}
use Rattle.volatile_index.specs.Index.{NodeView, empty_node, node_of, pages_of}
use Rattle.volume.specs.Volume.{VolumeView}
use Rattle.volume.specs.Beside.{IsUntouched}
use Rattle.volume.specs.declared.plan.Removal.{Removal}
use Rattle.unlink_ops.specs.declared.removal.Stage.{Stage}
use Rattle.unlink_ops.specs.declared.removal.Stage.TheVariants.{Begun, Unnamed, Cleared, Disowned}
use Rattle.unlink_ops.specs.RemovalStages.{pages_gone, IsAt}
use Rattle.waiting_laws.specs.Beside.{Holds}
use Rattle.waiting_laws.specs.Removing.{held_by, falling_of, left_at, HasItsPage, WaitsToRemove, RemovingHoldsLaw}
use Rattle.waiting_laws.proofs.RemovingBare.{removing_bare}
use Rattle.waiting_laws.proofs.RemovingWaits.{at, all_left, left_given, pages_at, all_held, given_here}

-- ---- what of the words a stage says of the pages and of the node

-- a page that goes with the node is the node's, or nobody's any more
page_owner_at : (P : ℕ) (I : List ℕ) (removal : Removal) (pages : List ℕ) (stage : Stage) → IsAt P I removal pages stage → (k : ℕ) → k < length pages
    → (slice_index pages k < data_pages_of P) × ((page_owner P I (slice_index pages k) ≡ removal.loss.inode) ⊎ (page_owner P I (slice_index pages k) ≡ 0))
page_owner_at P I removal pages Begun is k inside = (is.file.in_range.each k inside, inl (ap (λ (d : DescriptorFields). d.owner) (is.file.each k inside)))
page_owner_at P I removal pages Unnamed is k inside = (is.file.in_range.each k inside, inl (ap (λ (d : DescriptorFields). d.owner) (is.file.each k inside)))
page_owner_at P I removal pages Cleared is k inside = (is.disown.file.in_range.each k inside, inl (ap (λ (d : DescriptorFields). d.owner) (is.disown.file.each k inside)))
page_owner_at P I removal pages Disowned is k inside = (is.rest.pages_are.in_range.each k inside, inr (ap (λ (d : DescriptorFields). d.owner) (is.rest.pages_are.each k inside)))

-- a node that goes has a kind
kind_at : (P : ℕ) (I : List ℕ) (removal : Removal) (pages : List ℕ) (stage : Stage) → IsAt P I removal pages stage → removal.loss.goes ≡ true → inode_kind I removal.loss.inode ≡ node_code removal.loss.kind
kind_at P I removal pages Begun is goes = (is.going goes).kind_is
kind_at P I removal pages Unnamed is goes = (is.going goes).kind_is
kind_at P I removal pages Cleared is goes = (is.going goes).kind_is
kind_at P I removal pages Disowned is goes = (is.rest.going goes).kind_is

-- ---- what is left, by the stage

module _ (volume : VolumeView) (removal : Removal) where
  abbrev held_inodes : List ℕ
  held_inodes = removal.loss.inode ∷ removal.directory ∷ []

  slots_within : (given : Option ℕ) (s : ℕ) → IsIn s (slots_left removal.slot given) → (s ≡ removal.slot) × (given ≡ None)
  slots_within None s among = elim among [ inl is ↦ (is, refl) | inr none ↦ absurd none ]
  slots_within (Some page) s among = absurd among

  slots_at : (stage : Stage) (s : ℕ) → IsIn s (left_at volume removal stage).slots → (s ≡ removal.slot) × (removal.given_back ≡ None)
  slots_at Begun s among = absurd among
  slots_at Unnamed s among = slots_within removal.given_back s among
  slots_at Cleared s among = absurd among
  slots_at Disowned s among = absurd among

  inodes_within : (goes : Bool) (i x : ℕ) → IsIn x (inodes_left goes i) → x ≡ i
  inodes_within true i x among = elim among [ inl is ↦ is | inr none ↦ absurd none ]
  inodes_within false i x among = absurd among

  inodes_at : (stage : Stage) (x : ℕ) → IsIn x (left_at volume removal stage).inodes → IsIn x held_inodes
  inodes_at Begun x among = absurd among
  inodes_at Unnamed x among = inl (inodes_within removal.loss.goes removal.loss.inode x among)
  inodes_at Cleared x among = inl (inodes_within removal.loss.goes removal.loss.inode x among)
  inodes_at Disowned x among = inl (inodes_within removal.loss.goes removal.loss.inode x among)

  pub falling_within : (kind : NodeKind) (x : ℕ) → IsIn x (falling_left (falling_of kind removal)) → IsIn x held_inodes
  falling_within File x = elim removal.loss.goes as (λ t. IsIn x (falling_left (if t then None else Some removal.loss.inode)) → IsIn x held_inodes) [
    | true ↦ λ none. absurd none
    | false ↦ λ among. elim among [ inl is ↦ inl is | inr none ↦ absurd none ]
  ]
  falling_within Directory x = λ among. elim among [ inl is ↦ inr (inl is) | inr none ↦ absurd none ]

  counts_at : (stage : Stage) (x : ℕ) → IsIn x (left_at volume removal stage).counts → IsIn x held_inodes
  counts_at Begun x among = absurd among
  counts_at Unnamed x among = falling_within removal.loss.kind x among
  counts_at Cleared x among = absurd among
  counts_at Disowned x among = absurd among

-- no list is held of an inode that isn't the index's
no_list : (index : List NodeView) (x : ℕ) → length index < x → node_of index x ≡ empty_node
unfolding node_of
no_list index zero past = refl
no_list index (suc k) past = get_or_past index k empty_node (omega (arith, past))

module _ (volume : VolumeView) (device : DeviceView) (state : State) (removal : Removal) (stage : Stage) (others : Residue) (waits : WaitsToRemove volume device state (at removal stage) others) where
  abbrev P : ℕ
  P = volume.size

  abbrev I : List ℕ
  I = device.words

  abbrev pages : List ℕ
  pages = pages_gone volume removal

  abbrev all : List ℕ
  all = all_left pages removal.given_back

  page_low : page_of_slot removal.slot < data_pages_of P
  page_low = page_of_slot_below P removal.slot waits.place.in_range

  gone_page : (j : ℕ) → IsIn j pages → (j < data_pages_of P) × ((page_owner P I j ≡ removal.loss.inode) ⊎ (page_owner P I j ≡ 0))
  gone_page j among =
      let (k, inside, is) = in_contained j pages among in
      let here : slice_index pages k ≡ j = get_or_default pages k 0 j inside ∙ is in
      let (low, owner) = page_owner_at P I removal pages stage waits.words k inside in (
        subst (λ (x : ℕ). x < data_pages_of P) here low,
        elim owner [ inl is ↦ inl (ap (page_owner P I) (sym here) ∙ is) | inr none ↦ inr (ap (page_owner P I) (sym here) ∙ none) ],
      )

  slot_page_owner : (page_owner P I (page_of_slot removal.slot) ≡ removal.directory) ⊎ (page_owner P I (page_of_slot removal.slot) ≡ 0)
  unfolding slot_owner
  slot_page_owner = waits.place.owner

  -- the owner of a page that is left is held, or it has none
  left_owner : (j : ℕ) → IsIn j all → IsIn (page_owner P I j) (removal.loss.inode ∷ removal.directory ∷ []) ⊎ (page_owner P I j ≡ 0)
  left_owner j among = elim (in_either j pages (pages_left removal.given_back) among) [
    | inl node ↦ elim (gone_page j node).1 [ inl is ↦ inl (inl is) | inr none ↦ inr none ]
    | inr back ↦
        let here = given_here P I removal removal.given_back waits.page j (left_given removal.given_back j back) in
        elim slot_page_owner [ inl is ↦ inl (inr (inl (ap (page_owner P I) here ∙ is))) | inr none ↦ inr (ap (page_owner P I) here ∙ none) ]
  ]

  -- the slot's page is left, or the directory's
  slot_page : (given : Option ℕ) → HasItsPage P I removal given → IsIn (page_of_slot removal.slot) (pages_left given) ⊎ (page_owner P I (page_of_slot removal.slot) ≡ removal.directory)
  unfolding slot_owner
  slot_page None is = inr is
  slot_page (Some page) is = inl (inl is)

  pub all_at : (to : Stage) → WaitsToRemove volume device state (at removal to) others → (j : ℕ) → IsIn j all → IsIn j (left_at volume removal to).pages
  all_at Begun stood j among = absurd stood.falling
  all_at Unnamed stood j among = among
  all_at Cleared stood j among = among
  all_at Disowned stood j among = among

  page_reason : (j : ℕ) → IsIn j (held_by volume removal).pages → IsIn j (left_at volume removal stage).pages ⊎ (IsIn (page_owner P I j) (removal.loss.inode ∷ removal.directory ∷ []))
  page_reason j (inl here) = elim (slot_page removal.given_back waits.page) [
    | inl back ↦ inl (all_at stage waits j (in_back j pages (pages_left removal.given_back) (subst (λ (x : ℕ). IsIn x (pages_left removal.given_back)) (sym here) back)))
    | inr owner ↦ inr (inr (inl (ap (page_owner P I) here ∙ owner)))
  ]
  page_reason j (inr node) = inl (all_at stage waits j (in_front j pages (pages_left removal.given_back) node))

  -- ---- the inodes

  node_used : (goes : Bool) → removal.loss.goes ≡ goes → inode_kind I removal.loss.inode ≢ 0
  node_used true goes none = some_code removal.loss.kind (sym (kind_at P I removal pages stage waits.words goes) ∙ none)
  node_used false stays none =
      let one = (((size_law P I state waits.beside.stands.sound.coherent waits.beside.stands.reads).files removal.loss.inode).0 (waits.stays stays)).1 in
      omega (arith, one, none)

  parent_used : inode_kind I removal.directory ≢ 0
  parent_used none =
      let two = (((size_law P I state waits.beside.stands.sound.coherent waits.beside.stands.reads).directories removal.directory).0 waits.parent).1 in
      omega (arith, two, none)

  -- ---- other inodes

  module _ (x : ℕ) (out : ¬ IsIn x (removal.loss.inode ∷ removal.directory ∷ [])) (least : 1 ≤ x) where
    slot_apart : (s : ℕ) → IsIn s (left_at volume removal stage).slots → slot_owner P I s ≢ x
    slot_apart s among is =
        let (here, none) = slots_at volume removal stage s among in
        elim waits.place.owner [
          | inl owner ↦ out (inr (inl (sym is ∙ ap (slot_owner P I) here ∙ owner)))
          | inr none ↦ (let nought : x ≡ 0 = sym is ∙ ap (slot_owner P I) here ∙ none in omega (arith, nought, least))
        ]

    page_apart : (j : ℕ) → IsIn j (left_at volume removal stage).pages → page_owner P I j ≢ x
    page_apart j among is = elim (left_owner j (pages_at volume removal stage j among)) [
      | inl held ↦ out (subst (λ (y : ℕ). IsIn y (removal.loss.inode ∷ removal.directory ∷ [])) is held)
      | inr none ↦ omega (arith, is, none, least)
    ]

    listed_out : x ≤ inodes_of P → (j : ℕ) → IsIn j all → ¬ Contains (pages_of volume.index x) j
    listed_out most j among = elim (in_either j pages (pages_left removal.given_back) among) [
      | inl node ↦ waits.listed.node x j node least most (λ is. out (inl is))
      | inr back ↦ waits.listed.directory x j back least most (λ is. out (inr (inl is)))
    ]

    listed : (j : ℕ) → IsIn j (left_at volume removal stage).pages → ¬ Contains (pages_of volume.index x) j
    listed j among there = elim (cases_lt (inodes_of P) x) [
      | inl past ↦
          let each = waits.beside.stands.knows.nodes.each_inode in
          absurd (contained_in j [] (subst (λ (node : NodeView). Contains node.pages j) (no_list volume.index x (omega (arith, each, past))) there))
      | inr within ↦ listed_out within j (pages_at volume removal stage j among) there
    ]

    untouched : IsUntouched volume I (left_at volume removal stage) x
    untouched = record {
      apart = record { slots = slot_apart; pages = page_apart; links = λ among. out (counts_at volume removal stage x among) };
      listed = listed;
    }

  i_most : removal.loss.inode ≤ inodes_of P
  i_most = let most = waits.losses.node.1 in let each = waits.beside.stands.knows.nodes.each_inode in omega (arith, most, each)

  d_most : removal.directory ≤ inodes_of P
  d_most = let most = waits.losses.directory.1 in let each = waits.beside.stands.knows.nodes.each_inode in omega (arith, most, each)

  pub holds : Holds volume I (left_at volume removal stage) (held_by volume removal)
  holds = record {
    in_volume = record {
      of_pages = λ j among. elim among [ inl here ↦ subst (λ (y : ℕ). y < data_pages_of P) (sym here) page_low | inr node ↦ (gone_page j node).0 ];
      of_inodes = λ x among. elim among [
        | inl is ↦ record { from_one = subst (λ (y : ℕ). 1 ≤ y) (sym is) waits.losses.node.0; in_range = subst (λ (y : ℕ). y ≤ inodes_of P) (sym is) i_most }
        | inr rest ↦ elim rest [
          | inl is ↦ record { from_one = subst (λ (y : ℕ). 1 ≤ y) (sym is) waits.losses.directory.0; in_range = subst (λ (y : ℕ). y ≤ inodes_of P) (sym is) d_most }
          | inr none ↦ absurd none
        ]
      ];
    };
    of_slots = λ s among. elim among [ inl is ↦ inl (ap page_of_slot is) | inr none ↦ absurd none ];
    of_pages = page_reason;
    used = λ x among. elim among [
      | inl is ↦ subst (λ (y : ℕ). inode_kind I y ≢ 0) (sym is) (node_used removal.loss.goes refl)
      | inr rest ↦ elim rest [ inl is ↦ subst (λ (y : ℕ). inode_kind I y ≢ 0) (sym is) parent_used | inr none ↦ absurd none ]
    ];
    bare = removing_bare volume device state removal stage others waits;
    left_slots = λ s among. inl (slots_at volume removal stage s among).0;
    left_pages = λ j among. all_held volume I removal waits.page j (pages_at volume removal stage j among);
    left_inodes = inodes_at volume removal stage;
    untouched = untouched;
  }

pub removing_holds_law : RemovingHoldsLaw
removing_holds_law volume device state running others waits = holds volume device state running.removal running.stage others waits
