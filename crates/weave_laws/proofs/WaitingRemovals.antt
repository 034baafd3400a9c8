-- A name may give up its number, and what goes with it may be cleared.
use Rattle.std.proofs.Common.{◌≡◌, ◌≢◌, ◌⊎◌, inl, inr, ℕ, ◌+◌, ◌<◌, ◌≤◌, Bool, true, false, List, [], ◌∷◌, ◌++◌, reverse, Option, Some, None, refl, sym, ap, subst, ◌∙◌, arith}
use Rattle.std.specs.Prelude.{Contains}
use Rattle.layout.specs.Fields.{inode_links, page_owner, page_kind, slot_inode, slot_pointer, slot_name}
use Rattle.layout.specs.Geometry.{inodes_of, data_pages_of}
use Rattle.layout.specs.Name.{IsName}
use Rattle.tree_model.specs.PathText.{Route}
use Rattle.tree_model.specs.Run.{State}
use Rattle.tree_model.specs.Tree.{is_root, parent, last_name, link_count}
use Rattle.image_reading.specs.Counts.{IsIn}
use Rattle.image_reading.specs.Litter.{IsInode}
use Rattle.image_reading.specs.Reading.{IsDirectory, slot_owner, IsHeld, IsLive, Names, Reached, IsReachedSlot}
use Rattle.image_reading.specs.Repairs.{IsLitterPage}
use Rattle.image_reading.specs.Residue.{Residue, no_residue}
use Rattle.image_reading.specs.Soundness.{Rule, IsCoherent, HasLinks}
use Rattle.image_counts.specs.Laws.{ReadsBeside}
use Rattle.image_counts.proofs.Distinct.{in_front}
use Rattle.image_counts.proofs.Nodes.{has_sizes}
use Rattle.image_counts.proofs.Paths.{in_range, inode_reached}
use Rattle.image_counts.proofs.Slots.{has_absences}
use Rattle.image_laws.specs.Remove.{CanRemove}
use Rattle.image_laws.specs.Stages.{MayClearName, IsNeedless, MayGive, MayFree}
use Rattle.weave_laws.specs.Joined.{joined}
use Rattle.weave_laws.specs.Removing.{inodes_left, unnamed_left, cleared_left, IsLeftPage}
use Rattle.weave_laws.specs.Waiting.{WaitsBeside, IsLeavingName, WaitingRemovalLaw, WaitingClearingLaw, WaitingFallingLaw, IsGoingPage, WaitingGivingLaw, WaitingFreeingLaw}
use Rattle.weave_laws.proofs.Contained.{contained_in, contained_or_not}
use Rattle.weave_laws.proofs.WaitingNames.{root_or_not, names_above, directory_above, path_with}
use Rattle.weave_laws.proofs.WaitingPlaces.{no_pointer, live, more_names, more_children, count_reached, waiting_link_law}

-- ---- the number

empty_name : IsName [] → ⊥
empty_name is = cc

module _ (P : ℕ) (I : List ℕ) (state : State) (path : Route) (d s : ℕ) (others : Residue) (waits : WaitsBeside P I no_residue others state) (name : IsLeavingName P I state.tree path d s) where
  coherent : IsCoherent P I
  coherent = waits.holds.coherent

  above : Names P I (reverse (parent path)) (slot_owner P I s)
  above = subst (Names P I (reverse (parent path))) (sym name.owner) (names_above P I state coherent waits.holds.reads path d s name.place)

  directory : IsDirectory I (slot_owner P I s)
  directory = subst (IsDirectory I) (sym name.owner) (directory_above P I state coherent waits.holds.reads path d s name.place)

  is_live : IsLive P I s
  is_live = live P I (joined no_residue others) waits.holds.beside waits.no_pointer s name.held name.number

  pub reached : IsReachedSlot P I s
  reached = record { owner = (reverse (parent path), above); directory = directory; live = is_live }

  -- a reached slot has a name's words, which say no empty name
  below : is_root path ≡ false
  unfolding slot_name
  below = elim (root_or_not path) [
    | inl root ↦ absurd (empty_name (subst IsName (name.name_is ∙ ap last_name root) (coherent Rule.names s reached).is_name))
    | inr other ↦ other
  ]

  leaf : IsDirectory I (slot_inode P I s) → (t : ℕ) → IsLive P I t → slot_owner P I t ≢ slot_inode P I s
  leaf two t lives owner =
      let i_reached = inode_reached P I coherent s reached in
      let is = ((has_sizes P I state.tree coherent waits.holds.reads.tree).directories (slot_inode P I s)).1 (i_reached, two) in
      ((has_absences P I state.tree coherent waits.holds.reads.tree).empty (slot_inode P I s)).0 (name.empty is) t
      (record { owner = subst (Reached P I) (sym owner) i_reached; directory = subst (IsDirectory I) (sym owner) two; live = lives }, owner)

  pub can_remove : CanRemove P I (reverse (parent path)) s × (reverse path ≡ slot_name P I s ∷ reverse (parent path))
  can_remove = (
    record {
      coherent = coherent;
      path = above;
      directory = directory;
      live = is_live;
      no_pointer = no_pointer P I (joined no_residue others) waits.holds.beside waits.no_pointer s name.held;
      leaf = leaf;
    },
    path_with path (slot_name P I s) below name.name_is,
  )

pub waiting_removal_law : WaitingRemovalLaw
waiting_removal_law P I state path d s others waits name = can_remove P I state path d s others waits name

-- ---- the slot

links_needed : (P : ℕ) (I : List ℕ) (residue : Residue) (state : State) → ReadsBeside P I residue state → (x n : ℕ) → IsIn x residue.counts → n + 1 ≡ inode_links I x → HasLinks P I x n
links_needed P I residue state holds x n left is = record {
  file = λ file xs distinct all. (let le = more_names P I residue state holds x left file xs distinct all in omega (arith, le, is));
  directory = λ directory xs distinct all. (let le = more_children P I residue state holds x left directory xs distinct all in omega (arith, le, is));
}

gone : (P : ℕ) (I : List ℕ) (i : ℕ) (rest : List ℕ) (goes : Bool) → goes ≡ true → IsIn i (inodes_left goes i ++ rest)
gone P I i rest true is = inl refl
gone P I i rest false is = cc

module _ (P : ℕ) (I : List ℕ) (state : State) (s : ℕ) (given_back : Option ℕ) (pages : List ℕ) (goes : Bool) (i : ℕ) (falling : Option ℕ) (others : Residue)
    (waits : WaitsBeside P I (unnamed_left s given_back pages goes i falling) others state) (held : IsHeld P I s) (number : slot_inode P I s ≡ 0) where
  may_clear : (y : ℕ) → 1 ≤ y → y ≤ inodes_of P → ((n : ℕ) → n + 1 ≡ inode_links I y → Reached P I y → HasLinks P I y n) → MayClearName P I s y
  may_clear y least most enough = record {
    coherent = waits.holds.coherent;
    held = held;
    number = number;
    pointer = no_pointer P I (joined (unnamed_left s given_back pages goes i falling) others) waits.holds.beside waits.no_pointer s held;
    least = least;
    most = most;
    enough = enough;
  }

pub waiting_clearing_law : WaitingClearingLaw
waiting_clearing_law P I state s given_back pages goes i None y others waits held number (all, is) =
    let litter = (waits.holds.beside.of_inodes.each i).0 (gone P I i others.inodes goes all) in
    may_clear P I state s given_back pages goes i None others waits held number y (subst (λ z. 1 ≤ z) (sym is) litter.least) (subst (λ z. z ≤ inodes_of P) (sym is) litter.most)
    (λ n links reached. absurd (litter.unreached (subst (Reached P I) is reached)))
waiting_clearing_law P I state s given_back pages goes i (Some x) y others waits held number is =
    let residue = joined (unnamed_left s given_back pages goes i (Some x)) others in
    let left : IsIn y residue.counts = inl is in
    let range = in_range P I waits.holds.coherent y (count_reached P I residue state waits.holds y left) in
    may_clear P I state s given_back pages goes i (Some x) others waits held number y range.0 range.1
    (λ n links reached. links_needed P I residue state waits.holds y n left links)

pub waiting_falling_law : WaitingFallingLaw
waiting_falling_law P I state s given_back pages goes i None y others waits (all, is) links =
    λ there. ((waits.holds.beside.of_inodes.each i).0 (gone P I i others.inodes goes all)).unreached (subst (Reached P I) is there)
waiting_falling_law P I state s given_back pages goes i (Some x) y others waits is links =
    let residue = joined (unnamed_left s given_back pages goes i (Some x)) others in
    let left : IsIn y residue.counts = inl is in (
      is,
      count_reached P I residue state waits.holds y left,
      waiting_link_law P I residue state y waits.holds left (subst (λ z. inode_links I z ≡ link_count state.tree z + 1) (sym is) links),
    )

-- ---- pages

module _ (P : ℕ) (I : List ℕ) (state : State) (pages : List ℕ) (goes : Bool) (i : ℕ) (others : Residue) (waits : WaitsBeside P I (cleared_left pages goes i) others state) where
  left : (j : ℕ) → Contains pages j → IsIn j (pages ++ others.pages)
  left j given = in_front j pages others.pages (contained_in j pages given)

  litter : (j : ℕ) → Contains pages j → IsLitterPage P I j
  litter j given = (waits.holds.beside.of_pages.each j).0 (left j given)

  unreached : goes ≡ true → ¬ Reached P I i
  unreached all = ((waits.holds.beside.of_inodes.each i).0 (gone P I i others.inodes goes all)).unreached

  -- a reached owner of a directory page is a directory
  directory_owner : (j : ℕ) → j < data_pages_of P → page_kind P I j ≡ 2 → Reached P I (page_owner P I j) → IsDirectory I (page_owner P I j)
  directory_owner j within kind reached = elim ((waits.holds.coherent Rule.kinds (page_owner P I j)).kind reached) [
    | inl file ↦ (let one = (waits.holds.coherent Rule.page_kinds j).file within reached file in absurd (omega (arith, one, kind)))
    | inr two ↦ two
  ]

  needless : (j : ℕ) → IsLitterPage P I j → IsGoingPage P I goes i j → IsNeedless P I j
  needless j was going = record {
    in_range = was.in_range;
    why = elim going [
      | inl (all, owner, kind) ↦ inl (kind, λ reached. unreached all (subst (Reached P I) owner reached))
      | inr bare ↦ inr (record { kind = bare.kind; directory = directory_owner j was.in_range bare.kind; numbers = bare.numbers; pointers = bare.pointers })
    ];
  }

  kind_of : (j : ℕ) → IsGoingPage P I goes i j → page_kind P I j ≢ 0
  kind_of j going zero = elim going [
    | inl (all, owner, kind) ↦ omega (arith, kind, zero)
    | inr bare ↦ let kind = bare.kind in omega (arith, kind, zero)
  ]

  no_pointers : (t : ℕ) → IsHeld P I t → slot_pointer P I t ≡ 0
  no_pointers = no_pointer P I (joined (cleared_left pages goes i) others) waits.holds.beside waits.no_pointer

  pub may_give : ((j : ℕ) → Contains pages j → IsGoingPage P I goes i j) → MayGive P I (Contains pages) × ((j : ℕ) → Contains pages j → IsLeftPage P I (joined (cleared_left pages goes i) others) j)
  may_give going = (
    record {
      coherent = waits.holds.coherent;
      no_pointer = no_pointers;
      decided = contained_or_not pages;
      needless = λ j given. needless j (litter j given) (going j given);
    },
    λ j given. record { left = left j given; kind = kind_of j (going j given); pointers = λ t at held. no_pointers t held },
  )

  goes_or_not : (b : Bool) → (b ≡ true) ⊎ (b ≡ true → ⊥)
  goes_or_not true = inl refl
  goes_or_not false = inr (λ is. cc)

  pub may_free : IsInode P i → ((j : ℕ) → Contains pages j → page_owner P I j ≡ 0) → MayFree P I (Contains pages) (goes ≡ true) i
  may_free inode unowned = record {
    coherent = waits.holds.coherent;
    decided = contained_or_not pages;
    in_range = λ j given. (litter j given).in_range;
    unowned = unowned;
    least = inode.from_one;
    most = inode.in_range;
    goes = goes_or_not goes;
    unreached = unreached;
  }

pub waiting_giving_law : WaitingGivingLaw
waiting_giving_law P I state pages goes i others waits going = may_give P I state pages goes i others waits going

pub waiting_freeing_law : WaitingFreeingLaw
waiting_freeing_law P I state pages goes i others waits inode unowned = may_free P I state pages goes i others waits inode unowned
