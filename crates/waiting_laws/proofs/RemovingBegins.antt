-- A removal that was prepared beside other calls may begin.
use Rattle.std.proofs.Common.{◌≡◌, ◌≢◌, ◌↔◌, inl, inr, ℕ, zero, suc, ◌+◌, ◌<◌, ◌≤◌, ◌==◌, Bool, true, false, cond, List, [], ◌∷◌, length, get_or, reverse, Option, Some, None, refl, sym, ap, subst, ◌∙◌, arith, eqb-true}
use Rattle.std.specs.Prelude.{Contains, slice_index}
use Rattle.std.proofs.lemmas.Grind.{get_or_default_zero}
use Rattle.std.proofs.lemmas.List.Elements.{Contains-get_or}
use Rattle.std.proofs.lemmas.Option.{slice_get-get_or}
use Rattle.pm_trait.specs.DeviceView.{DeviceView}
use Rattle.pm_trait.specs.Unfolds.{events_in}
use Rattle.layout.specs.Geometry.{inodes_of, data_pages_of, page_of_slot}
use Rattle.layout.proofs.GeometryLaws.{page_of_slot_below}
use Rattle.layout.specs.Fields.{inode_kind, inode_own, page_owner, page_kind, page_offset, slot_inode}
use Rattle.layout.specs.Kinds.{node_code}
use Rattle.layout.specs.declared.kinds.NodeKind.{NodeKind}
use Rattle.layout.specs.declared.kinds.NodeKind.TheVariants.{File, Directory}
use Rattle.tree_model.specs.PathText.{Route}
use Rattle.tree_model.specs.Tree.{parent, is_directory, entries_in, path_count, link_count}
use Rattle.tree_model.specs.Run.{State}
use Rattle.inode_state.specs.Unused.{IsHeldSlot}
use Rattle.image_reading.specs.Counts.{IsDistinct}
use Rattle.image_reading.specs.Reading.{IsFile, IsDirectory, HasBytes, slot_owner, Reached, IsReachedSlot, IsNameOf}
use Rattle.image_reading.specs.Residue.{Residue}
use Rattle.image_reading.specs.Soundness.{Rule, IsCoherent}
use Rattle.image_counts.specs.Entries.{IsPageIn}
use Rattle.image_counts.proofs.Links.{link_word_beside_law}
use Rattle.image_counts.proofs.Paths as paths
use Rattle.image_laws.specs.Drop.{dropped}
use Rattle.image_laws.proofs.RemoveFacts as facts
use Rattle.weave_laws.proofs.Contained.{contained_in}
use Rattle.weave_laws.proofs.UnnamedSlots as unnamed
use Rattle.weave_laws.proofs.NodeWritten.{some_code}
use Rattle.volatile_index.specs.Index.{inodes_of_index}
use Rattle.volume.specs.Volume.{VolumeView}
use Rattle.volume.specs.Beside.{StandsBeside}
use Rattle.volume.specs.Costs.{count_of, commit_events, clearing_events, loss_events, pages_removed, events_of}
use Rattle.volume.specs.Entered.{IsTaken, MayRemoveName, MayGiveBack, MayGo}
use Rattle.volume.specs.Planned.{IsAlone, IsGivenBack}
use Rattle.volume.specs.Stages.{HasKept, keeping}
use Rattle.volume.specs.declared.plan.Action.TheVariants.{Remove}
use Rattle.volume.specs.declared.plan.Removal.{Removal}
use Rattle.volume.proofs.KeptEvents.{has_kept}
use Rattle.volume.proofs.PageLists.{few_lost}
use Rattle.removal_steps.specs.Steps.{AreGonePages, AreFilePages, CanUnname, HasLink, count_cut}
use Rattle.removal_steps.proofs.NodePages.{gone_counted}
use Rattle.unlink_ops.specs.RemovalStages.{begun, pages_gone, left_of, MayEmptyBut, HasLastLink, IsGoingBut, IsThere, HasLosses, MayBegin}
use Rattle.unlink_ops.specs.Taking.{falling_by, steps_of}
use Rattle.unlink_ops.proofs.Passing.{losses_kept}
use Rattle.waiting_laws.specs.Beside.{IsReady}
use Rattle.waiting_laws.specs.Removing.{of_kind, RemovingBeginsLaw}
use Rattle.waiting_laws.proofs.RemovingBare.{named_reached}
use Rattle.waiting_laws.proofs.RemovingPlanned as planned
use Rattle.image_laws.specs.Remove.{CanRemove}
use Rattle.volume.specs.Moves.{is_directory_kind}
use Rattle.std.specs.Prelude.{count_by}
use Rattle.entry_steps.proofs.Lists.{not_none, one_page}

-- a list in which each number stands once has it in one place
same_place : (xs : List ℕ) → IsDistinct xs → (k l : ℕ) → k < length xs → l < length xs → get_or xs k 0 ≡ get_or xs l 0 → k ≡ l
same_place [] once k l low high e = absurd (omega (arith, low))
same_place (x ∷ xs) once zero zero low high e = refl
same_place (x ∷ xs) once zero (suc l) low high e =
    let there : l < length xs = omega (arith, high) in
    absurd (once.0 (contained_in x xs (l, there, get_or_default_zero xs l x there ∙ sym e)))
same_place (x ∷ xs) once (suc k) zero low high e =
    let there : k < length xs = omega (arith, low) in
    absurd (once.0 (contained_in x xs (k, there, get_or_default_zero xs k x there ∙ e)))
same_place (x ∷ xs) once (suc k) (suc l) low high e = ap suc (same_place xs once.1 k l (omega (arith, low)) (omega (arith, high)) e)

sum_of : (a b x y : ℕ) → a + b + (x + y) ≡ a + (b + (x + (y + 0)))
sum_of a b x y = omega arith

module _ (volume : VolumeView) (device : DeviceView) (state : State) (path : Route) (removal : Removal) (others : Residue)
    (ready : IsReady volume device state (of_kind removal.loss.kind path) (Remove removal) others) where
  abbrev P : ℕ
  P = volume.size

  abbrev I : List ℕ
  I = device.words

  abbrev s : ℕ
  s = removal.slot

  abbrev i : ℕ
  i = removal.loss.inode

  abbrev d : ℕ
  d = removal.directory

  abbrev way : Route
  way = reverse (parent path)

  abbrev pages : List ℕ
  pages = pages_gone volume removal

  abbrev stands : StandsBeside volume device state others
  stands = ready.prepared.stands

  coherent : IsCoherent P I
  coherent = planned.coherent volume device state path removal others ready

  can : CanRemove P I way s
  can = planned.can volume device state path removal others ready

  slot : IsReachedSlot P I s
  slot = planned.slot volume device state path removal others ready

  node_reached : Reached P I i
  node_reached = planned.node_reached volume device state path removal others ready

  inode_is : slot_inode P I s ≡ i
  inode_is = planned.inode_is volume device state path removal others ready

  owner_is : slot_owner P I s ≡ d
  owner_is = planned.owner_is volume device state path removal others ready

  own : inode_own I i ≡ i
  own = (coherent Rule.kinds i).own node_reached

  i_range : (1 ≤ i) × (i ≤ inodes_of P)
  i_range = planned.i_range volume device state path removal others ready

  d_range : (1 ≤ d) × (d ≤ inodes_of P)
  d_range = planned.d_range volume device state path removal others ready

  gone_among : (j : ℕ) → Contains pages j ↔ ((removal.loss.goes ≡ true) × IsPageIn P I i j)
  gone_among = planned.gone_among volume device state path removal others ready

  -- ---- the node

  kind_by : (kind : NodeKind) → planned.Found volume device state path removal others ready kind → inode_kind I i ≡ node_code kind
  kind_by File is = is.0
  kind_by Directory is = is.0

  kind_is : inode_kind I i ≡ node_code removal.loss.kind
  kind_is = kind_by removal.loss.kind (planned.found volume device state path removal others ready)

  -- a node with pages is a file
  file_with : (kind : NodeKind) → planned.Found volume device state path removal others ready kind → (j : ℕ) → Contains pages j → (kind ≡ File) × IsFile I i × (removal.loss.goes ≡ (path_count state.tree i == 1))
  file_with File is j there = (refl, is.0, is.1)
  file_with Directory is j there = absurd (planned.no_page volume device state path removal others ready is.0 j ((gone_among j).0 there).1)

  with_pages : (j : ℕ) → Contains pages j → (removal.loss.kind ≡ File) × IsFile I i × (removal.loss.goes ≡ (path_count state.tree i == 1))
  with_pages = file_with removal.loss.kind (planned.found volume device state path removal others ready)

  -- ---- the slot

  can_unname : CanUnname P I s
  can_unname = record { in_range = slot.live.held.in_range; live = (slot.live.names, can.no_pointer, coherent Rule.names s slot) }

  emptied_by : (given : Option ℕ) → IsGivenBack (IsAlone P I s) s given → MayEmptyBut P I s given
  unfolding slot_owner
  emptied_by None back = tt
  emptied_by (Some page) (alone, here) = record {
    in_range = subst (λ (k : ℕ). k < data_pages_of P) (sym here) (page_of_slot_below P s slot.live.held.in_range);
    owned = λ none. slot.live.held.owned (ap (page_owner P I) (sym here) ∙ none);
    kind = ap (page_kind P I) here ∙ slot.live.held.kind;
    slots = λ other stood differs. alone other (stood ∙ here) differs;
  }

  -- ---- the link

  linked_by : (kind : NodeKind) → planned.Found volume device state path removal others ready kind → HasLink P I (falling_by kind removal)
  linked_by File is =
      let enough = (coherent Rule.links i node_reached).file is.0 (s ∷ []) ((λ none. none), tt)
      (λ x here. elim here [ inl same ↦ subst (λ (t : ℕ). IsNameOf P I i t) (sym same) (record { slot = slot; inode = inode_is }) | inr none ↦ absurd none ]) in
      record { least = i_range.0; most = i_range.1; node = (inl is.0, own); some_link = omega (arith, enough) }
  linked_by Directory is =
      let reached = planned.directory_reached volume device state path removal others ready in
      let two = subst (IsDirectory I) owner_is slot.directory in
      let enough = (coherent Rule.links d reached).directory two [] tt (λ x none. absurd none) in
      record { least = d_range.0; most = d_range.1; node = (inr two, (coherent Rule.kinds d).own reached); some_link = omega (arith, enough) }

  -- ---- the pages

  page_by : (k : ℕ) → k < length pages → (removal.loss.goes ≡ true) × IsPageIn P I i (slice_index pages k)
  page_by k inside = (gone_among (slice_index pages k)).0 (Contains-get_or pages k 0 inside)

  bytes_by : (k : ℕ) → k < length pages → IsFile I i
  bytes_by k inside = (with_pages (slice_index pages k) (Contains-get_or pages k 0 inside)).1

  offset_by : HasBytes I i → (k : ℕ) → k < length pages → page_offset P I (slice_index pages k) ≡ k
  offset_by bytes k inside = planned.gone_offset volume device state path removal others ready bytes k (slice_index pages k) (slice_get-get_or pages k 0 inside)

  are : AreGonePages P I (Some removal.loss) pages
  are = record {
    among = gone_among;
    distinct = record { each = same_place pages (planned.gone_once volume device state path removal others ready) };
    offsets = offset_by;
  }

  counted : length pages ≡ removal.loss.pages
  counted = gone_counted P I state (of_kind removal.loss.kind path) removal.loss pages (planned.for volume device state path removal others ready).loss are

  file_pages : AreFilePages P I i pages
  file_pages = record {
    in_range = record { each = λ k inside. (page_by k inside).1.in_range };
    distinct = are.distinct;
    each = λ k inside.
        let page = slice_index pages k in
        let is = (page_by k inside).1 in
        let bytes = bytes_by k inside in
        let owner = is.owner in
        let kind = (coherent Rule.page_kinds page).file is.in_range (subst (Reached P I) (sym owner) node_reached) (subst (HasBytes I) (sym owner) bytes) in
        let offset = offset_by bytes k inside in
        λ n. record { owner = owner n; kind = kind n; offset = offset n };
  }

  no_directory : removal.loss.kind ≡ File → is_directory state.tree i ≡ false
  no_directory file = (planned.for volume device state path removal others ready).loss.kind_is ∙ ap is_directory_kind file

  file_links : is_directory state.tree i ≡ false → link_count state.tree i ≡ path_count state.tree i
  file_links is = ap (λ (b : Bool). cond b (2 + count_by (λ e. is_directory state.tree e.1) (entries_in state.tree i)) (path_count state.tree i)) is

  last : 0 < length pages → HasLastLink I removal
  last some =
      let (kind, bytes, goes_is) = with_pages (slice_index pages 0) (Contains-get_or pages 0 0 some) in
      let one = eqb-true (path_count state.tree i) 1 (sym goes_is ∙ (page_by 0 some).0) in
      record {
        kind = kind;
        node = (inl bytes, own);
        links = sym (link_word_beside_law P I others state (planned.holds volume device state path removal others ready) i node_reached (planned.node_untouched volume device state path removal others ready).apart)
            ∙ file_links (no_directory kind) ∙ one;
      }

  -- ---- no other slot names a node that goes

  slot_reached : (t : ℕ) → IsHeldSlot P I t → slot_inode P I t ≡ i → IsReachedSlot P I t
  slot_reached t held same =
      named_reached P I others state (planned.holds volume device state path removal others ready) ready.no_pointer ready.bare t held (λ none. let least = i_range.0 in omega (arith, same, none, least))

  last_name : removal.loss.goes ≡ true → (t : ℕ) → t ≢ s → IsNameOf P I i t → ⊥
  last_name goes t other name =
      let after = facts.slot_forward P I way s can t other name.slot in
      let number = (unnamed.only can).inode t other ∙ name.inode ∙ sym inode_is in
      ((planned.goes_with volume device state path removal others ready).node).0 goes
      (subst (Reached P (dropped P I s)) number (paths.inode_reached P (dropped P I s) (unnamed.coherent can) t after))

  going : removal.loss.goes ≡ true → IsGoingBut P I removal pages (λ t. t ≡ s)
  going goes = record {
    least = i_range.0;
    most = i_range.1;
    kind_is = kind_is;
    own = own;
    unowned = λ page low out same. out ((gone_among page).1 (goes, record { in_range = low; owner = same }));
    unnamed = λ t held other same. last_name goes t other (record { slot = slot_reached t held same; inode = same });
  }

  is_there : IsThere P I removal pages
  is_there = record {
    named = can_unname;
    linked = linked_by removal.loss.kind (planned.found volume device state path removal others ready);
    file = file_pages;
    last = last;
    emptied = emptied_by removal.given_back (planned.for volume device state path removal others ready).given_back;
    going = going;
  }

  -- ---- the volume

  page_taken : (x page : ℕ) → 1 ≤ x → IsPageIn P I x page → IsTaken volume.data_pages page
  page_taken x page least inside = (
    (let below = inside.in_range in let each = stands.knows.each_page in omega (arith, below, each)),
    (λ free. let none = ((stands.knows.data_pages page inside.in_range).0 free).0 in let owner = inside.owner in omega (arith, none, owner, least)),
  )

  given_page : (given : Option ℕ) → IsGivenBack (IsAlone P I s) s given → (page : ℕ) → given ≡ Some page → IsPageIn P I d page
  unfolding slot_owner
  given_page None busy page is = absurd (not_none page is)
  given_page (Some given) (alone, here) page is =
      let same : page ≡ page_of_slot s = sym (one_page given page is) ∙ here in
      record { in_range = subst (λ (k : ℕ). k < data_pages_of P) (sym same) (page_of_slot_below P s slot.live.held.in_range); owner = ap (page_owner P I) same ∙ owner_is }

  gives_back : (given : Option ℕ) → ((page : ℕ) → given ≡ Some page → IsPageIn P I d page) → MayGiveBack volume d given
  gives_back None is = tt
  gives_back (Some page) is = let inside = is page refl in ((planned.directory_listed volume device state path removal others ready page).1 inside, page_taken d page d_range.0 inside)

  in_index : (x : ℕ) → x ≤ inodes_of P → x ≤ inodes_of_index volume.index
  in_index x most = let each = stands.knows.nodes.each_inode in omega (arith, most, each)

  may_go : MayGo volume i
  may_go =
      let (least, most) = i_range in
      record {
        least = least;
        most = in_index i most;
        inode_taken = (
          (let each = stands.knows.each_inode in omega (arith, least, most, each)),
          (λ free. some_code removal.loss.kind (sym kind_is ∙ (stands.knows.inodes i least most).0 free)),
        );
        once = stands.knows.nodes.once i least most;
        pages_taken = λ page there. page_taken i page least ((planned.node_listed volume device state path removal others ready page).0 there);
      }

  -- the node isn't its directory
  differ : d ≢ i
  differ same =
      let loop = owner_is ∙ same ∙ sym inode_is in
      can.leaf (ap (inode_kind I) (sym loop) ∙ slot.directory) s slot.live loop

  losses : HasLosses volume removal
  losses =
      let back = given_page removal.given_back (planned.for volume device state path removal others ready).given_back in
      record {
        node = (i_range.0, in_index i i_range.1);
        directory = (d_range.0, in_index d d_range.1);
        count = counted;
        few = few_lost volume device state others (of_kind removal.loss.kind path) removal.loss stands (planned.for volume device state path removal others ready).loss;
        page = gives_back removal.given_back back;
        inode = λ goes. may_go;
        apart = λ goes. (differ, (λ page is there. differ (sym (back page is).owner ∙ ((gone_among page).0 there).1.owner)));
      }

  name_there : MayRemoveName volume d removal.name
  name_there = record {
    least = d_range.0;
    most = in_index d d_range.1;
    present = (s, (stands.knows.nodes.entries d s removal.name d_range.0 d_range.1).1 (planned.for volume device state path removal others ready).named.slot_is);
  }

  costs : events_of (Remove removal) ≡ events_in (steps_of P removal pages)
  costs =
      let all : pages_removed removal ≡ count_cut pages removal.given_back = ap (λ (n : ℕ). n + count_of removal.given_back) (sym counted) in
      ap (λ (n : ℕ). commit_events + clearing_events 1 + loss_events n removal.loss.goes) all ∙ sum_of commit_events (clearing_events 1) _ _

  kept : HasKept (keeping volume (Remove removal)) device (events_in (left_of (keeping volume (Remove removal)) (begun removal)))
  kept = subst (HasKept (keeping volume (Remove removal)) device) costs
      (has_kept volume device (Remove removal) losses.few ready.few (let room = stands.room in omega (arith, room)) ready.reserved)

  pub begins : MayBegin volume device (Remove removal)
  begins = (
    removal,
    refl,
    ready.unmarked,
    record {
      going = ready.going;
      whole = stands.knows.whole;
      words = is_there;
      kept = kept;
      name = record { least = name_there.least; most = name_there.most; present = name_there.present };
      losses = losses_kept volume removal losses (volume.kept + events_of (Remove removal));
    },
  )

pub removing_begins_law : RemovingBeginsLaw
removing_begins_law volume device state path removal others ready = begins volume device state path removal others ready
