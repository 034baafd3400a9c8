-- A removal waits still when another call has made a step.
use Rattle.std.proofs.Common.{◌≡◌, ◌≢◌, inl, inr, ℕ, ◌+◌, ◌<◌, ◌≤◌, Bool, true, cond, List, [], ◌∷◌, ◌++◌, length, Option, Some, None, refl, sym, ap, subst, ◌∙◌, arith}
use Rattle.std.specs.Prelude.{Contains, slice_index}
use Rattle.std.proofs.lemmas.List.{get_or_default}
use Rattle.std.proofs.lemmas.List.Elements.{Contains-get_or}
use Rattle.pm_trait.specs.DeviceView.{DeviceView}
use Rattle.layout.specs.Geometry.{inodes_of, data_pages_of, page_of_slot}
use Rattle.layout.specs.Fields.{page_owner, slot_inode}
use Rattle.layout.specs.Name.{IsNameWords}
use Rattle.layout.specs.declared.fields.DescriptorFields.{DescriptorFields}
use Rattle.tree_model.specs.Run.{State}
use Rattle.tree_model.specs.Tree.{Node, is_file_node, is_directory_node}
use Rattle.inode_state.specs.Unused.{IsHeldSlot}
use Rattle.image_reading.specs.Counts.{IsDistinct, IsIn}
use Rattle.image_reading.specs.Reading.{slot_owner, IsHeld, Reached, ReadsAs}
use Rattle.image_reading.specs.Residue.{Residue, IsTidyBeside}
use Rattle.image_reading.specs.Soundness.{IsCoherent}
use Rattle.image_counts.specs.Entries.{IsUnusedPage}
use Rattle.image_counts.specs.Laws.{ReadsBeside}
use Rattle.image_counts.proofs.Distinct.{in_back, in_front, in_either}
use Rattle.image_counts.proofs.Paths.{inode_reached}
use Rattle.removal_steps.specs.Steps.{HasLink, AreFilePages, IsLeft, MayEmpty, WereFilePages, MayBeEmptied, MayClear, CanClear}
use Rattle.weave_laws.specs.Beside.{KeepsSlot, KeepsPage, KeepsInode}
use Rattle.weave_laws.specs.Joined.{joined}
use Rattle.weave_laws.specs.Naming.{pages_left}
use Rattle.weave_laws.specs.Removing.{falling_left, inodes_left, unnamed_left, cleared_left}
use Rattle.weave_laws.specs.Waiting.{HasNoPageOf, HasFallingLinks}
use Rattle.weave_laws.proofs.Contained.{in_contained, contained_in}
use Rattle.weave_laws.proofs.WaitingPlaces.{unreached_page}
use Rattle.volatile_index.specs.Index.{inodes_of_index, pages_of}
use Rattle.volume.specs.Volume.{VolumeView}
use Rattle.volume.specs.Entered.{IsTaken, MayGiveBack, MayGo}
use Rattle.volume.specs.declared.plan.Removal.{Removal}
use Rattle.unlink_ops.specs.declared.removal.Stage.{Stage}
use Rattle.unlink_ops.specs.declared.removal.Stage.TheVariants.{Begun, Unnamed, Cleared, Disowned}
use Rattle.unlink_ops.specs.RemovalStages.{pages_gone, HasLastLink, IsGoingBut, IsAt, HasLosses}
use Rattle.unlink_ops.specs.Taking.{falling_by}
use Rattle.waiting_laws.specs.Beside.{Holding, NamesNothing, Holds, PassesBy, StandsWith}
use Rattle.waiting_laws.specs.Removing.{held_by, falling_of, left_at, HasFalling, HasItsPage, IsPlaced, AreListed, WaitsToRemove, RemovingStillLaw}
use Rattle.waiting_laws.proofs.RemovingBare.{named_reached}
use Rattle.waiting_laws.proofs.RemovingHolds as holding
use Rattle.waiting_laws.proofs.RemovingWaits.{at, all_left, pages_at, left_given, given_left, given_here, falls_held}

module _ (old new : VolumeView) (before after : DeviceView) (state later : State) (removal : Removal) (stage : Stage) (others now : Residue) (waits : WaitsToRemove old before state (at removal stage) others)
    (passes : PassesBy old new before after state later (held_by old removal)) (stands : StandsWith new after later (left_at old removal stage) now) where
  abbrev P : ℕ
  P = old.size

  abbrev I : List ℕ
  I = before.words

  abbrev J : List ℕ
  J = after.words

  abbrev s : ℕ
  s = removal.slot

  abbrev i : ℕ
  i = removal.loss.inode

  abbrev pages : List ℕ
  pages = pages_gone old removal

  abbrev all : List ℕ
  all = all_left pages removal.given_back

  abbrev residue : Residue
  residue = joined (left_at old removal stage) now

  abbrev held : Holding
  held = held_by old removal

  -- ---- the words after the step, by the size that the volume had

  of_old : (Q : ℕ → Type 0) → Q new.size → Q P
  of_old Q is = subst Q passes.size is

  of_new : (Q : ℕ → Type 0) → Q P → Q new.size
  of_new Q is = subst Q (sym passes.size) is

  tidy : IsTidyBeside P J residue
  tidy = of_old (λ p. IsTidyBeside p J residue) stands.stands.beside

  holds : ReadsBeside P J residue later
  holds = record {
    coherent = of_old (λ p. IsCoherent p J) stands.stands.sound.coherent;
    beside = tidy;
    reads = of_old (λ p. ReadsAs p J later) stands.stands.reads;
  }

  coherent : IsCoherent P J
  coherent = holds.coherent

  -- ---- what the call holds is as it was

  holdings : Holds old I (left_at old removal stage) held
  holdings = holding.holds old before state removal stage others waits

  page_kept : (j : ℕ) → IsIn j held.pages → KeepsPage P I J j
  page_kept = passes.words.of_pages

  slot_kept : (t : ℕ) → page_of_slot t ≡ page_of_slot s → KeepsSlot P I J t
  slot_kept t here = passes.words.of_slots t (inr (inl here))

  node_kept : (x : ℕ) → IsIn x held.inodes → KeepsInode I J x
  node_kept = passes.words.of_inodes

  gone_kept : (k : ℕ) → k < length pages → KeepsPage P I J (slice_index pages k)
  gone_kept k inside = page_kept (slice_index pages k) (inr (contained_in (slice_index pages k) pages (Contains-get_or pages k 0 inside)))

  here_kept : KeepsPage P I J (page_of_slot s)
  here_kept = page_kept (page_of_slot s) (inl refl)

  -- ---- the volume's lists

  same_gone : pages_gone new removal ≡ pages
  same_gone = ap (λ (l : List ℕ). cond removal.loss.goes l []) (passes.index i (inl refl)).pages

  left_same : (to : Stage) → left_at new removal to ≡ left_at old removal to
  left_same Begun = refl
  left_same Unnamed = ap (λ (l : List ℕ). unnamed_left s removal.given_back l removal.loss.goes i (falling_of removal.loss.kind removal)) same_gone
  left_same Cleared = ap (λ (l : List ℕ). cleared_left (l ++ pages_left removal.given_back) removal.loss.goes i) same_gone
  left_same Disowned = ap (λ (l : List ℕ). cleared_left (l ++ pages_left removal.given_back) removal.loss.goes i) same_gone

  pub held_same : held_by new removal ≡ held
  held_same = ap (λ (l : List ℕ). record { slots = s ∷ []; pages = page_of_slot s ∷ l; inodes = i ∷ removal.directory ∷ [] }) same_gone

  pub same_left : left_at new removal stage ≡ left_at old removal stage
  same_left = left_same stage

  listed : AreListed new removal
  listed = record {
    node = λ x j among least most other there.
        let was = subst (IsIn j) same_gone among in
        waits.listed.node x j was least (of_old (λ p. x ≤ inodes_of p) most) other (passes.lists x j (inr was) there);
    directory = λ x j among least most other there.
        waits.listed.directory x j among least (of_old (λ p. x ≤ inodes_of p) most) other
        (passes.lists x j (inl (given_here P I removal removal.given_back waits.page j (left_given removal.given_back j among))) there);
  }

  -- ---- pages and the node that are left

  left_page : (j : ℕ) → IsIn j all → IsIn j residue.pages
  left_page j among = in_front j (left_at old removal stage).pages now.pages (holding.all_at old before state removal stage others waits stage waits j among)

  used_page : (j : ℕ) → IsIn j all → ¬ IsUnusedPage P J j
  used_page j among unused = elim (tidy.marks j (left_page j among)) [ inl owned ↦ owned unused.0 | inr kind ↦ kind unused.1 ]

  page_low : (j : ℕ) → IsIn j all → j < data_pages_of P
  page_low j among = ((tidy.of_pages.each j).0 (left_page j among)).in_range

  inodes_by : (to : Stage) → HasFalling I state removal to → removal.loss.goes ≡ true → IsIn i (left_at old removal to).inodes
  inodes_by Begun none goes = absurd none
  inodes_by Unnamed falling goes = subst (λ (t : Bool). IsIn i (inodes_left t i)) (sym goes) (inl refl)
  inodes_by Cleared falling goes = subst (λ (t : Bool). IsIn i (inodes_left t i)) (sym goes) (inl refl)
  inodes_by Disowned falling goes = subst (λ (t : Bool). IsIn i (inodes_left t i)) (sym goes) (inl refl)

  left_node : removal.loss.goes ≡ true → IsIn i residue.inodes
  left_node goes = in_front i (left_at old removal stage).inodes now.inodes (inodes_by stage waits.falling goes)

  unreached : removal.loss.goes ≡ true → ¬ Reached P J i
  unreached goes = ((tidy.of_inodes.each i).0 (left_node goes)).unreached

  -- ---- what the stage says of the words

  file_kept : AreFilePages P I i pages → AreFilePages P J i pages
  file_kept file = record {
    in_range = file.in_range;
    distinct = file.distinct;
    each = λ k inside.
        let kept = gone_kept k inside in
        let owner = kept.owner in
        let kind = kept.kind in
        let offset = kept.offset in
        (λ n. record { owner = owner n; kind = kind n; offset = offset n }) ∙ file.each k inside;
  }

  were_kept : WereFilePages P I pages → WereFilePages P J pages
  were_kept file = record {
    in_range = file.in_range;
    distinct = file.distinct;
    each = λ k inside.
        let kept = gone_kept k inside in
        let owner = kept.owner in
        let kind = kept.kind in
        let offset = kept.offset in
        (λ n. record { owner = owner n; kind = kind n; offset = offset n }) ∙ file.each k inside;
  }

  link_kept : (y : ℕ) → IsIn y held.inodes → HasLink P I y → HasLink P J y
  link_kept y among linked =
      let kept = node_kept y among in
      let links = kept.links in
      let some = linked.some_link in
      record {
        least = linked.least;
        most = linked.most;
        node = (elim linked.node.0 [ inl file ↦ inl (kept.kind ∙ file) | inr directory ↦ inr (kept.kind ∙ directory) ], kept.own ∙ linked.node.1);
        some_link = omega (arith, links, some);
      }

  clear_kept : CanClear P I s (falling_by removal.loss.kind removal) → CanClear P J s (falling_by removal.loss.kind removal)
  clear_kept clear =
      let kept = slot_kept s refl in
      record {
        in_range = clear.in_range;
        named = (kept.number ∙ clear.named.0, kept.pointer ∙ clear.named.1, subst IsNameWords (sym kept.words) clear.named.2);
        linked = link_kept (falling_by removal.loss.kind removal) (falls_held removal.loss.kind removal) clear.linked;
      }

  last_kept : HasLastLink I removal → HasLastLink J removal
  last_kept last =
      let kept = node_kept i (inl refl) in
      record {
        kind = last.kind;
        node = (elim last.node.0 [ inl file ↦ inl (kept.kind ∙ file) | inr directory ↦ inr (kept.kind ∙ directory) ], kept.own ∙ last.node.1);
        links = kept.links ∙ last.links;
      }

  is_left_kept : IsLeft P I i → IsLeft P J i
  is_left_kept left =
      let kept = node_kept i (inl refl) in
      record {
        least = left.least;
        most = left.most;
        node = (elim left.node.0 [ inl file ↦ inl (kept.kind ∙ file) | inr directory ↦ inr (kept.kind ∙ directory) ], kept.own ∙ left.node.1);
        no_links = kept.links ∙ left.no_links;
      }

  emptied_by : (given : Option ℕ) → HasItsPage P I removal given → MayEmpty P I given → MayEmpty P J given
  emptied_by None is may = tt
  emptied_by (Some page) is may =
      let kept = page_kept page (inl (sym is)) in
      record {
        in_range = may.in_range;
        owned = λ none. may.owned (sym kept.owner ∙ none);
        kind = kept.kind ∙ may.kind;
        slots = λ t here. (slot_kept t (here ∙ sym is)).number ∙ may.slots t here;
      }

  emptied_kept : MayEmpty P I removal.given_back → MayEmpty P J removal.given_back
  emptied_kept may = emptied_by removal.given_back waits.page may

  were_emptied_by : (given : Option ℕ) → HasItsPage P I removal given → MayBeEmptied P I given → MayBeEmptied P J given
  were_emptied_by None is may = tt
  were_emptied_by (Some page) is may =
      let kept = page_kept page (inl (sym is)) in
      record { in_range = may.in_range; owner = kept.owner ∙ may.owner; kind = kept.kind ∙ may.kind }

  module _ (alone : HasNoPageOf P J now i) (nameless : NamesNothing P J now) where
    -- ---- nothing has the number of a node that goes

    given_owner : (j : ℕ) → removal.given_back ≡ Some j → removal.loss.goes ≡ true → page_owner P J j ≢ i
    unfolding slot_owner
    given_owner j given goes is =
        let here = given_here P I removal removal.given_back waits.page j given in
        let kept = ap (page_owner P J) here ∙ here_kept.owner in
        elim waits.place.owner [
          | inl owner ↦ (waits.losses.apart goes).0 (sym owner ∙ sym kept ∙ is)
          | inr none ↦ (let nought : i ≡ 0 = sym is ∙ kept ∙ none in let least = waits.losses.node.0 in omega (arith, nought, least))
        ]

    -- but for the pages that go with it
    owner_gone : removal.loss.goes ≡ true → (page : ℕ) → page < data_pages_of P → page_owner P J page ≡ i → Contains pages page
    owner_gone goes page low is =
        let some : i ≢ 0 = λ none. (let least = waits.losses.node.0 in omega (arith, none, least)) in
        let left = unreached_page P J residue later i page holds (unreached goes) some low is in
        elim (in_either page (left_at old removal stage).pages now.pages left) [
          | inl own ↦ elim (in_either page pages (pages_left removal.given_back) (pages_at old removal stage page own)) [
            | inl node ↦ in_contained page pages node
            | inr back ↦ absurd (given_owner page (left_given removal.given_back page back) goes is)
          ]
          | inr other ↦ absurd (alone page other is)
        ]

    -- no slot of a page that is left names anything: what the call has left is as it was
    bare : NamesNothing P J residue
    unfolding slot_owner
    bare t among slot = elim (in_either (page_of_slot t) (left_at old removal stage).pages now.pages among) [
      | inl own ↦
          let mine = holdings.left_pages (page_of_slot t) own in
          let page = page_kept (page_of_slot t) mine in
          let was : IsHeld P I t = record { in_range = slot.in_range; kind = sym page.kind ∙ slot.kind; owned = λ none. slot.owned (page.owner ∙ none) } in
          (passes.words.of_slots t (inr mine)).number ∙ holdings.bare t own was
      | inr other ↦ nameless t other slot
    ]

    -- so none names a node that goes
    slot_gone : removal.loss.goes ≡ true → (t : ℕ) → IsHeldSlot P J t → slot_inode P J t ≢ i
    slot_gone goes t slot is =
        let reached = named_reached P J residue later holds stands.no_pointer bare t slot (λ none. let least = waits.losses.node.0 in omega (arith, is, none, least)) in
        unreached goes (subst (Reached P J) is (inode_reached P J coherent t reached))

    going_kept : (removal.loss.goes ≡ true → IsGoingBut P I removal pages (λ t. ⊥)) → removal.loss.goes ≡ true → IsGoingBut P J removal pages (λ t. ⊥)
    going_kept going goes =
        let was = going goes in
        let kept = node_kept i (inl refl) in
        record {
          least = was.least;
          most = was.most;
          kind_is = kept.kind ∙ was.kind_is;
          own = kept.own ∙ was.own;
          unowned = λ page low out is. out (owner_gone goes page low is);
          unnamed = λ t slot none. slot_gone goes t slot;
        }

    were_unowned : WereFilePages P J pages → (j : ℕ) → Contains pages j → page_owner P J j ≡ 0
    were_unowned file j (k, inside, same) =
        let here : slice_index pages k ≡ j = get_or_default pages k 0 j inside ∙ same in
        ap (page_owner P J) (sym here) ∙ ap (λ (d : DescriptorFields). d.owner) (file.each k inside)

    clear_goes : WereFilePages P J pages → (removal.loss.goes ≡ true → MayClear P I removal.loss.kind i) → removal.loss.goes ≡ true → MayClear P J removal.loss.kind i
    clear_goes file going goes =
        let was = going goes in
        let kept = node_kept i (inl refl) in
        record {
          least = was.least;
          most = was.most;
          kind_is = kept.kind ∙ was.kind_is;
          own = kept.own ∙ was.own;
          unowned = λ page low is. (let none = were_unowned file page (owner_gone goes page low is) in let least = waits.losses.node.0 in omega (arith, none, is, least));
          unnamed = slot_gone goes;
        }

    words_by : (to : Stage) → HasFalling I state removal to → IsAt P I removal pages to → IsAt P J removal pages to
    words_by Begun none is = absurd none
    words_by Unnamed falling is = record {
      clear = clear_kept is.clear;
      file = file_kept is.file;
      last = λ some. last_kept (is.last some);
      emptied = emptied_kept is.emptied;
      going = going_kept is.going;
    }
    words_by Cleared falling is = record {
      some = is.some;
      disown = record { file = file_kept is.disown.file; left = λ some. is_left_kept (is.disown.left some); emptied_is = emptied_kept is.disown.emptied_is };
      going = going_kept is.going;
    }
    words_by Disowned falling is = record {
      some = is.some;
      rest = record {
        pages_are = were_kept is.rest.pages_are;
        emptied_is = were_emptied_by removal.given_back waits.page is.rest.emptied_is;
        going = clear_goes (were_kept is.rest.pages_are) is.rest.going;
      };
    }

    words : IsAt new.size J removal (pages_gone new removal) stage
    words = subst (λ (l : List ℕ). IsAt new.size J removal l stage) (sym same_gone) (of_new (λ p. IsAt p J removal pages stage) (words_by stage waits.falling waits.words))

    -- ---- the volume

    in_index : (x : ℕ) → x ≤ inodes_of_index old.index → x ≤ inodes_of_index new.index
    in_index x most =
        let was = waits.beside.stands.knows.nodes.each_inode in
        let is = stands.stands.knows.nodes.each_inode in
        let same = ap inodes_of passes.size in
        omega (arith, most, was, is, same)

    page_taken : (j : ℕ) → IsIn j all → IsTaken new.data_pages j
    page_taken j among =
        let low = of_new (λ p. j < data_pages_of p) (page_low j among) in
        let each = stands.stands.knows.each_page in (
          omega (arith, low, each),
          (λ free. used_page j among (of_old (λ p. IsUnusedPage p J j) ((stands.stands.knows.data_pages j low).0 free))),
        )

    gives_back : (given : Option ℕ) → removal.given_back ≡ given → MayGiveBack old removal.directory given → MayGiveBack new removal.directory given
    gives_back None is may = tt
    gives_back (Some page) is may = (
      subst (λ (l : List ℕ). Contains l page) (sym (passes.index removal.directory (inr (inl refl))).pages) may.0,
      page_taken page (in_back page pages (pages_left removal.given_back) (given_left removal.given_back page is)),
    )

    goes_on : removal.loss.goes ≡ true → MayGo new i
    goes_on goes =
        let was = waits.losses.inode goes in
        let most = in_index i was.most in
        let within : i ≤ inodes_of new.size = let each = stands.stands.knows.nodes.each_inode in omega (arith, most, each) in
        let same = (passes.index i (inl refl)).pages in
        record {
          least = was.least;
          most = most;
          inode_taken = (
            (let each = stands.stands.knows.each_inode in let least = was.least in omega (arith, each, within, least)),
            (λ free. tidy.kinds i (left_node goes) ((stands.stands.knows.inodes i was.least within).0 free)),
          );
          once = subst IsDistinct (sym same) was.once;
          pages_taken = λ page there.
              let mine = subst (λ (l : List ℕ). Contains l page) same there in
              let gone = subst (λ (t : Bool). Contains (cond t (pages_of old.index i) []) page) (sym goes) mine in
              page_taken page (in_front page pages (pages_left removal.given_back) (contained_in page pages gone));
        }

    losses : HasLosses new removal
    losses = record {
      node = (waits.losses.node.0, in_index i waits.losses.node.1);
      directory = (waits.losses.directory.0, in_index removal.directory waits.losses.directory.1);
      count = ap length same_gone ∙ waits.losses.count;
      few = waits.losses.few;
      page = gives_back removal.given_back refl waits.losses.page;
      inode = goes_on;
      apart = λ goes. let (other, out) = waits.losses.apart goes in (other, (λ page is there. out page is (subst (λ (l : List ℕ). Contains l page) same_gone there)));
    }

    -- ---- the rest

    falls_by : (o : Option ℕ) → ((y : ℕ) → o ≡ Some y → IsIn y held.inodes) → HasFallingLinks I state.tree o → HasFallingLinks J later.tree o
    falls_by None among is = tt
    falls_by (Some y) among is =
        let mine = among y refl in
        (node_kept y mine).links ∙ is ∙ ap (λ (n : ℕ). n + 1) (sym (passes.nodes.nodes y mine).links)

    falling_by_stage : (to : Stage) → HasFalling I state removal to → HasFalling J later removal to
    falling_by_stage Begun none = absurd none
    falling_by_stage Unnamed is = falls_by (falling_of removal.loss.kind removal) (λ y o. holding.falling_within old removal removal.loss.kind y (subst (λ (f : Option ℕ). IsIn y (falling_left f)) (sym o) (inl refl))) is
    falling_by_stage Cleared is = tt
    falling_by_stage Disowned is = tt

    page_by : (given : Option ℕ) → HasItsPage P I removal given → HasItsPage P J removal given
    unfolding slot_owner
    page_by None is = here_kept.owner ∙ is
    page_by (Some page) is = is

    place : IsPlaced P J removal
    unfolding slot_owner
    place = record {
      in_range = waits.place.in_range;
      owner = elim waits.place.owner [ inl is ↦ inl (here_kept.owner ∙ is) | inr none ↦ inr (here_kept.owner ∙ none) ];
    }

    pub waits_still : WaitsToRemove new after later (at removal stage) now
    waits_still = record {
      beside = subst (λ (r : Residue). StandsWith new after later r now) (sym same_left) stands;
      words = words;
      losses = losses;
      falling = falling_by_stage stage waits.falling;
      page = of_new (λ p. HasItsPage p J removal removal.given_back) (page_by removal.given_back waits.page);
      place = of_new (λ p. IsPlaced p J removal) place;
      stays = λ goes. ap (λ (o : Option Node). is_file_node o) (passes.nodes.nodes i (inl refl)).node ∙ waits.stays goes;
      parent = ap (λ (o : Option Node). is_directory_node o) (passes.nodes.nodes removal.directory (inr (inl refl))).node ∙ waits.parent;
      listed = listed;
      alone = of_new (λ p. HasNoPageOf p J now i) alone;
    }

pub removing_still_law : RemovingStillLaw
removing_still_law old new before after state later running others now waits passes stands alone nameless = (
  waits_still old new before after state later running.removal running.stage others now waits passes stands
      (subst (λ (p : ℕ). HasNoPageOf p after.words now running.removal.loss.inode) passes.size alone)
      (subst (λ (p : ℕ). NamesNothing p after.words now) passes.size nameless),
  same_left old new before after state later running.removal running.stage others now waits passes stands,
  held_same old new before after state later running.removal running.stage others now waits passes stands,
)
