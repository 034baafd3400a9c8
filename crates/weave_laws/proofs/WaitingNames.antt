-- A written name may get its number.
use Rattle.std.proofs.Common.{◌≡◌, ◌≢◌, ◌⊎◌, inl, inr, ℕ, ◌<◌, ◌≤◌, false, List, [], ◌∷◌, ◌++◌, reverse, Option, Some, None, refl, sym, ap, subst, ◌∙◌, arith}
use Rattle.std.proofs.lemmas.Bool.{cases_eq}
use Rattle.std.proofs.lemmas.List.{reverse-append, reverse-reverse}
use Rattle.layout.specs.Fields.{inode_kind, inode_links, inode_size, inode_own, page_owner, slot_inode, slot_name}
use Rattle.layout.specs.Geometry.{data_pages_of, page_of_slot, inodes_of}
use Rattle.layout.specs.Kinds.{node_code}
use Rattle.layout.specs.declared.kinds.NodeKind.{NodeKind}
use Rattle.layout.specs.declared.kinds.NodeKind.TheVariants.{File, Directory}
use Rattle.layout.proofs.Widths.{inode_field_read}
use Rattle.tree_model.specs.PathText.{Route}
use Rattle.tree_model.specs.Run.{State}
use Rattle.tree_model.specs.Tree.{is_root, parent, last_name, id_at}
use Rattle.image_reading.specs.Counts.{IsIn, AtMost}
use Rattle.image_reading.specs.Reading.{HasBytes, IsDirectory, IsFile, slot_owner, Names, Reached, IsReachedSlot, IsRoomOf, IsNameOf, IsChildOf, ReadsAs}
use Rattle.image_reading.specs.Repairs.{IsLitterInode}
use Rattle.image_reading.specs.Residue.{Residue}
use Rattle.image_reading.specs.Soundness.{Rule, IsCoherent}
use Rattle.image_counts.specs.Laws.{ReadsBeside}
use Rattle.image_counts.proofs.Decided.{room_owner}
use Rattle.image_counts.proofs.Distinct.{in_front, in_either}
use Rattle.image_counts.proofs.Links.{not_both_kinds}
use Rattle.image_counts.proofs.Nodes.{has_sizes}
use Rattle.image_counts.proofs.Paths.{root_reached, in_range, inode_reached}
use Rattle.image_counts.proofs.Slots.{has_absences}
use Rattle.image_laws.proofs.Making.{node_says, kind_told}
use Rattle.image_laws.specs.Add.{IsNewNode, IsOldFile, IsFreeSlot, CanAdd}
use Rattle.image_reading.proofs.Counts.{at_most_none}
use Rattle.image_laws.proofs.MoveTree.{reverse_below}
use Rattle.weave_laws.specs.Entering.{HasSlotPlace, IsNamelessPage}
use Rattle.weave_laws.specs.Joined.{joined}
use Rattle.weave_laws.specs.Naming.{slots_left, pages_left, counts_left, IsWrittenParent, node_left, link_left}
use Rattle.weave_laws.specs.Removing.{IsPageOfName}
use Rattle.weave_laws.specs.Waiting.{WaitsBeside, HasNoPageOf, IsPlaceOf, IsWaitingName, TakesPageIfFull, MayCommit, HasNodeWords, MayCommitNode, HasRaisedLinks, WaitingWordsLaw, WaitingNodeLaw, WaitingFileLaw}
use Rattle.weave_laws.proofs.Entered.{new_node_law}
use Rattle.weave_laws.proofs.NodeWritten.{some_code}
use Rattle.weave_laws.proofs.WaitingPlaces.{waiting_link_law, no_pointer, more_names, more_children, count_reached, unreached_page}

pub root_or_not : (path : Route) → (path ≡ []) ⊎ (is_root path ≡ false)
root_or_not [] = inl refl
root_or_not (name ∷ names) = inr refl

some_none : (o : Option ℕ) (i : ℕ) → o ≡ None → o ≡ Some i → ⊥
some_none o i none some = cc

-- ---- the name

module _ (P : ℕ) (I : List ℕ) (state : State) (coherent : IsCoherent P I) (reads : ReadsAs P I state) (path : Route) (d s : ℕ) (place : IsPlaceOf P I state.tree path d s) where
  pub names_above : Names P I (reverse (parent path)) d
  names_above = (reads.tree.names (parent path) d).0 place.above

  pub directory_above : IsDirectory I d
  directory_above = (((has_sizes P I state.tree coherent reads.tree).directories d).0 place.directory).1

  module _ (absent : id_at state.tree path ≡ None) where
    pub below : is_root path ≡ false
    below = elim (root_or_not path) [
      | inl root ↦ absurd (some_none (id_at state.tree path) 1 absent (ap (id_at state.tree) root ∙ (reads.tree.names [] 1).1 refl))
      | inr other ↦ other
    ]

    whole : path ≡ parent path ++ last_name path ∷ []
    whole = sym (reverse-reverse path) ∙ ap reverse (reverse_below path below) ∙ reverse-append (last_name path ∷ []) (reverse (parent path)) ∙ ap (λ q. q ++ last_name path ∷ []) (reverse-reverse (parent path))

    pub is_new : (name : List ℕ) → name ≡ last_name path → (t : ℕ) → IsReachedSlot P I t → slot_owner P I t ≡ d → slot_name P I t ≢ name
    is_new name is t reached owner same =
        ((has_absences P I state.tree coherent reads.tree).absent (parent path) d (last_name path) place.above).0 (ap (id_at state.tree) (sym whole) ∙ absent) t
        (record { slot = reached; owner = owner; name = same ∙ is })

pub path_with : (path : Route) (name : List ℕ) → is_root path ≡ false → name ≡ last_name path → reverse path ≡ name ∷ reverse (parent path)
path_with path name below is = reverse_below path below ∙ ap (λ n. n ∷ reverse (parent path)) (sym is)

-- the slot may be taken
pub free_slot : (P : ℕ) (I : List ℕ) (residue : Residue) (state : State) (path : Route) (d s : ℕ) → ReadsBeside P I residue state → residue.pointer ≡ None → IsPlaceOf P I state.tree path d s
    → slot_inode P I s ≡ 0 → IsFreeSlot P I (reverse (parent path)) d s
free_slot P I residue state path d s holds none place number = record {
  path = names_above P I state holds.coherent holds.reads path d s place;
  directory = directory_above P I state holds.coherent holds.reads path d s place;
  held = place.held;
  owner = place.owner;
  free = number;
  no_pointer = no_pointer P I residue holds.beside none s place.held;
  no_target = λ t held points. (let zero = no_pointer P I residue holds.beside none t held in omega (arith, zero, points));
}

-- ---- it has the name

module _ (P : ℕ) (I : List ℕ) (own others : Residue) (state : State) (path : Route) (d s : ℕ) (waits : WaitsBeside P I own others state) (name : IsWaitingName P I state.tree path d s) where
  coherent : IsCoherent P I
  coherent = waits.holds.coherent

  pub path_is : reverse path ≡ slot_name P I s ∷ reverse (parent path)
  path_is = path_with path (slot_name P I s) (below P I state coherent waits.holds.reads path d s name.place name.absent) name.name_is

  pub names_d : Names P I (reverse (parent path)) d
  names_d = names_above P I state coherent waits.holds.reads path d s name.place

  pub is_directory_d : IsDirectory I d
  is_directory_d = directory_above P I state coherent waits.holds.reads path d s name.place

  pub can_add : (i : ℕ) → 2 ≤ i → i ≤ inodes_of P → IsNewNode P I i ⊎ IsOldFile P I i → (HasBytes I i → AtMost 1 (IsNameOf P I i) (inode_links I i))
      → (IsDirectory I i → AtMost 3 (IsChildOf P I d) (inode_links I d)) → CanAdd P I (reverse (parent path)) d s i
  can_add i least most node names children = record {
    coherent = coherent;
    slot = free_slot P I (joined own others) state path d s waits.holds waits.no_pointer name.place name.number;
    name = name.words;
    new = is_new P I state coherent waits.holds.reads path d s name.place name.absent (slot_name P I s) name.name_is;
    least = least;
    most = most;
    node = node;
    name_link = names;
    child_link = children;
  }

  -- ---- its page

  room_here : IsIn s (joined own others).slots → IsRoomOf P I d (page_of_slot s)
  unfolding slot_owner
  room_here left = subst (λ x. IsRoomOf P I x (page_of_slot s)) name.owner ((waits.holds.beside.of_slots.each s).0 left).page

  no_room : (page : ℕ) → IsIn page (joined own others).pages → ¬ IsRoomOf P I d page
  no_room page left room = ((waits.holds.beside.of_pages.each page).0 left).free (inr (subst (λ x. IsRoomOf P I x page) (sym (room_owner P I d page room)) room))

  pub nameless : (new_page : Option ℕ) → IsPageOfName s new_page → ((t : ℕ) → IsIn t (slots_left s new_page) → IsIn t (joined own others).slots)
      → ((j : ℕ) → IsIn j (pages_left new_page) → IsIn j (joined own others).pages) → IsNamelessPage P I d s new_page
  nameless None at slots pages = room_here (slots s (inl refl))
  nameless (Some page) at slots pages = (at, no_room page (pages page (inl refl)))

  pub place_of : (new_page : Option ℕ) → IsNamelessPage P I d s new_page → TakesPageIfFull state d new_page → HasSlotPlace P I state d s
  place_of None here full = inl here
  place_of (Some page) none full = inr full

  pub new_page_owner : (new_page : Option ℕ) → IsPageOfName s new_page → (j : ℕ) → IsIn j (pages_left new_page) → page_owner P I j ≡ d
  unfolding slot_owner
  new_page_owner None at j none = absurd none
  new_page_owner (Some page) at j among = elim among [ inl is ↦ ap (page_owner P I) (is ∙ sym at) ∙ name.owner | inr none ↦ absurd none ]

-- ---- the words of a new node

module _ (I : List ℕ) (kind : NodeKind) (i : ℕ) (has : HasNodeWords I kind i) where
  kind_is : inode_kind I i ≡ node_code kind
  unfolding inode_kind
  kind_is = has 0 (inode_field_read I 0 (omega arith)) ∙ (node_says kind i).0

  links_are : inode_links I i ≡ node_code kind
  unfolding inode_links
  links_are = has 1 (inode_field_read I 1 (omega arith)) ∙ (node_says kind i).1

  size_is : inode_size I i ≡ 0
  unfolding inode_size
  size_is = has 2 (inode_field_read I 2 (omega arith)) ∙ (node_says kind i).2

  own_is : inode_own I i ≡ i
  unfolding inode_own
  own_is = has 3 (inode_field_read I 3 (omega arith)) ∙ (node_says kind i).3

-- ---- a new node

parent_left : (kind : NodeKind) (d : ℕ) (rest : List ℕ) → node_code kind ≡ node_code Directory → IsIn d (counts_left kind d ++ rest)
parent_left Directory d rest is = inl refl
parent_left File d rest is = absurd (omega (arith, is))

module _ (P : ℕ) (I : List ℕ) (state : State) (path : Route) (kind : NodeKind) (d s : ℕ) (new_page : Option ℕ) (i : ℕ) (others : Residue)
    (waits : WaitsBeside P I (node_left kind d s new_page i) others state) (name : IsWaitingName P I state.tree path d s) (at : IsPageOfName s new_page)
    (full : TakesPageIfFull state d new_page) (has : HasNodeWords I kind i) (apart : HasNoPageOf P I others i) where
  litter : IsLitterInode P I i
  litter = (waits.holds.beside.of_inodes.each i).0 (inl refl)

  least : 2 ≤ i
  least = elim (cases_eq i 1) [
    | inl root ↦ absurd (litter.unreached (subst (Reached P I) (sym root) (root_reached P I waits.holds.coherent)))
    | inr other ↦ (let some = litter.least in omega (arith, some, other))
  ]

  no_page : (j : ℕ) → j < data_pages_of P → page_owner P I j ≢ i
  no_page j within owner =
      elim (in_either j (pages_left new_page) others.pages (unreached_page P I (joined (node_left kind d s new_page i) others) state i j waits.holds litter.unreached (omega (arith, least)) within owner)) [
        | inl mine ↦ litter.unreached
            (subst (Reached P I) (sym (new_page_owner P I (node_left kind d s new_page i) others state path d s waits name new_page at j mine) ∙ owner)
            (reverse (parent path), names_d P I (node_left kind d s new_page i) others state path d s waits name))
        | inr theirs ↦ apart j theirs owner
      ]

  is_new_node : IsNewNode P I i
  is_new_node = record {
    unreached = litter.unreached;
    no_pages = no_page;
    kind = kind_told I i kind (kind_is I kind i has);
    own = own_is I kind i has;
    empty = λ file. size_is I kind i has;
    no_children = λ two. (let links = links_are I kind i has in let is = kind_is I kind i has in omega (arith, links, is, two));
  }

  few_names : AtMost 1 (IsNameOf P I i) (inode_links I i)
  few_names = at_most_none 1 (inode_links I i) (IsNameOf P I i) (λ t n. litter.unreached (subst (Reached P I) n.inode (inode_reached P I waits.holds.coherent t n.slot)))
      (let links = links_are I kind i has in let some = some_code kind in omega (arith, links, some))

  on_page : IsNamelessPage P I d s new_page
  on_page = nameless P I (node_left kind d s new_page i) others state path d s waits name new_page at (λ t. in_front t (slots_left s new_page) others.slots)
      (λ j. in_front j (pages_left new_page) others.pages)

  pub may_commit_node : MayCommitNode P I state path kind d s new_page i
  may_commit_node = record {
    named = record {
      can = can_add P I (node_left kind d s new_page i) others state path d s waits name i least litter.most (inl is_new_node) (λ file. few_names)
          (λ two. more_children P I (joined (node_left kind d s new_page i) others) state waits.holds d (parent_left kind d others.counts (sym (kind_is I kind i has) ∙ two))
          (is_directory_d P I (node_left kind d s new_page i) others state path d s waits name));
      place = on_page;
      has_place = place_of P I (node_left kind d s new_page i) others state path d s waits name new_page on_page full;
      path_is = path_is P I (node_left kind d s new_page i) others state path d s waits name;
    };
    new = is_new_node;
    is_node = new_node_law P I kind i is_new_node (kind_is I kind i has);
  }

pub waiting_node_law : WaitingNodeLaw
waiting_node_law P I state path kind d s new_page i others waits name at full has apart = may_commit_node P I state path kind d s new_page i others waits name at full has apart

pub waiting_words_law : WaitingWordsLaw
waiting_words_law P I state kind d s new_page i others waits has raised = record { words = λ f lt. has f (inode_field_read I f (omega (arith, lt))); parent = parent_has (joined (node_left kind d s new_page i) others) kind others.counts waits.holds refl raised }
  where
    parent_has : (residue : Residue) (kind : NodeKind) (rest : List ℕ) → ReadsBeside P I residue state → residue.counts ≡ counts_left kind d ++ rest → HasRaisedLinks I state.tree kind d → IsWrittenParent P I kind d
    parent_has residue Directory rest holds is links = waiting_link_law P I residue state d holds (subst (IsIn d) (sym is) (inl refl)) links
    parent_has residue File rest holds is links = tt

-- ---- a link

module _ (P : ℕ) (I : List ℕ) (state : State) (path : Route) (d s : ℕ) (new_page : Option ℕ) (i : ℕ) (others : Residue)
    (waits : WaitsBeside P I (link_left s new_page i) others state) (name : IsWaitingName P I state.tree path d s) (file : IsFile I i) where
  reached : Reached P I i
  reached = count_reached P I (joined (link_left s new_page i) others) state waits.holds i (inl refl)

  old_file : IsOldFile P I i
  old_file = record { reached = reached; file = file }

  -- the root is a directory
  above_root : 2 ≤ i
  above_root = elim (cases_eq i 1) [
    | inl root ↦ absurd (not_both_kinds I 1 (subst (IsFile I) root file) ((waits.holds.coherent Rule.root 1).directory refl))
    | inr other ↦ (let some = (in_range P I waits.holds.coherent i reached).0 in omega (arith, some, other))
  ]

  on_page_linked : IsPageOfName s new_page → IsNamelessPage P I d s new_page
  on_page_linked at = nameless P I (link_left s new_page i) others state path d s waits name new_page at (λ t. in_front t (slots_left s new_page) others.slots)
      (λ j. in_front j (pages_left new_page) others.pages)

  pub may_commit_file : IsPageOfName s new_page → TakesPageIfFull state d new_page → MayCommit P I state path d s new_page i × IsOldFile P I i
  may_commit_file at full = (
    record {
      can = can_add P I (link_left s new_page i) others state path d s waits name i above_root (in_range P I waits.holds.coherent i reached).1 (inr old_file)
          (more_names P I (joined (link_left s new_page i) others) state waits.holds i (inl refl)) (λ two. absurd (not_both_kinds I i file two));
      place = on_page_linked at;
      has_place = place_of P I (link_left s new_page i) others state path d s waits name new_page (on_page_linked at) full;
      path_is = path_is P I (link_left s new_page i) others state path d s waits name;
    },
    old_file,
  )

pub waiting_file_law : WaitingFileLaw
waiting_file_law P I state path d s new_page i others waits name at full file = may_commit_file P I state path d s new_page i others waits name file at full
