-- What goes with a name is told by the tree and by what the call found.
use Rattle.std.proofs.Common.{◌≡◌, ◌≢◌, ◌↔◌, ◌⊎◌, inl, inr, ℕ, ◌+◌, ◌<◌, Bool, true, false, cond, List, [], ◌∷◌, length, reverse, count_by, Option, Some, None, refl, sym, ap, subst, ◌∙◌, arith}
use Rattle.std.proofs.lemmas.Bool.{cases_eq, cases_lt}
use Rattle.layout.specs.Fields.{inode_kind, inode_size, page_owner, page_kind, page_offset, slot_inode}
use Rattle.layout.specs.Geometry.{data_pages_of, page_of_slot}
use Rattle.layout.proofs.GeometryLaws.{page_of_slot_below, slot_below}
use Rattle.tree_model.specs.PathText.{Route}
use Rattle.tree_model.specs.Run.{State}
use Rattle.tree_model.specs.Tree.{Tree, parent, is_directory, entries_in, path_count, link_count}
use Rattle.tree_model.proofs.TreeLaws.{not_true}
use Rattle.image_reading.specs.Counts.{IsIn, IsDistinct, Count}
use Rattle.image_reading.specs.Reading.{IsFile, IsDirectory, slot_owner, IsHeld, Names, Reached, IsReachedSlot, IsNameOf, pages_of_size}
use Rattle.image_reading.specs.Residue.{Residue, no_residue}
use Rattle.image_reading.specs.Soundness.{Rule, IsCoherent}
use Rattle.image_reading.proofs.Counts.{count_one}
use Rattle.image_counts.specs.Entries.{IsPageIn}
use Rattle.image_counts.proofs.Beside.{has_pages_beside}
use Rattle.image_counts.proofs.Links.{not_both_kinds, links_counted}
use Rattle.image_counts.proofs.Nodes.{has_sizes}
use Rattle.image_counts.proofs.Paths.{reached_slot, inode_reached, in_range}
use Rattle.image_laws.specs.Drop.{dropped}
use Rattle.image_laws.specs.Remove.{CanRemove}
use Rattle.image_laws.proofs.RemoveFacts as facts
use Rattle.weave_laws.specs.Joined.{joined}
use Rattle.weave_laws.specs.Entering.{IsNamelessPage}
use Rattle.weave_laws.specs.Unnaming.{GoesWith}
use Rattle.weave_laws.specs.Waiting.{WaitsBeside, HasNoPageOf, IsLeavingName, HasOtherName, TakesAlong, WaitingLossLaw}
use Rattle.weave_laws.proofs.Contained.{in_contained, contained_in}
use Rattle.weave_laws.proofs.UnnamedLinks.{kind_of}
use Rattle.weave_laws.proofs.UnnamedSlots as after
use Rattle.weave_laws.proofs.WaitingFiles.{in_order, left_behind, listed}
use Rattle.weave_laws.proofs.WaitingPlaces.{live}
use Rattle.weave_laws.proofs.WaitingRemovals as removals

-- ---- one of one

only_one : (xs : List ℕ) (s t : ℕ) → length xs ≡ 1 → IsIn s xs → IsIn t xs → t ≡ s
only_one [] s t long a b = absurd a
only_one (x ∷ []) s t long a b = elim a [ inl is ↦ elim b [ inl same ↦ same ∙ sym is | inr none ↦ absurd none ] | inr none ↦ absurd none ]
only_one (x ∷ y ∷ xs) s t long a b = absurd (omega (arith, long))

one_counted : (Q : ℕ → Type 0) (s t : ℕ) → Count Q 1 → Q s → Q t → t ≡ s
one_counted Q s t (xs, distinct, each, long) a b = only_one xs s t long ((each s).1 a) ((each t).1 b)

count_alone : (Q : ℕ → Type 0) (s : ℕ) → Q s → ((t : ℕ) → Q t → t ≡ s) → Count Q 1
count_alone Q s q one = (s ∷ [], ((λ none. none), tt), (λ t. ((λ among. elim among [ inl is ↦ subst Q (sym is) q | inr none ↦ absurd none ]), (λ other. inl (one t other)))), refl)

true_or_false : (b : Bool) → (b ≡ true) ⊎ (b ≡ false)
true_or_false true = inl refl
true_or_false false = inr refl

no_size : pages_of_size 0 ≡ 0
unfolding pages_of_size
no_size = refl

file_links : (T : Tree) (i : ℕ) → is_directory T i ≡ false → link_count T i ≡ path_count T i
file_links T i is = ap (λ b. cond b (2 + count_by (λ e. is_directory T e.1) (entries_in T i)) (path_count T i)) is

module _ (P : ℕ) (I : List ℕ) (state : State) (path : Route) (d s : ℕ) (given_back : Option ℕ) (pages : List ℕ) (goes : Bool) (falling : Option ℕ) (others : Residue)
    (waits : WaitsBeside P I no_residue others state) (name : IsLeavingName P I state.tree path d s) (apart : HasNoPageOf P I others (slot_inode P I s))
    (takes : TakesAlong P I state.tree s given_back pages goes falling) where
  abbrev i : ℕ
  i = slot_inode P I s

  abbrev p : Route
  p = reverse (parent path)

  abbrev K : List ℕ
  K = dropped P I s

  coherent : IsCoherent P I
  coherent = waits.holds.coherent

  can : CanRemove P I p s
  can = (removals.can_remove P I state path d s others waits name).0

  i_reached : Reached P I i
  i_reached = facts.i_reached P I p s can

  kind : IsFile I i ⊎ IsDirectory I i
  kind = kind_of can goes falling takes.link

  number_same : (t : ℕ) → t ≢ s → slot_inode P K t ≡ slot_inode P I t
  number_same t other = (after.only can).inode t other

  -- ---- the node

  names_counted : IsFile I i → Count (IsNameOf P I i) (path_count state.tree i)
  names_counted file = subst (Count (IsNameOf P I i))
      (file_links state.tree i (not_true (is_directory state.tree i) (λ is. not_both_kinds I i file (((has_sizes P I state.tree coherent waits.holds.reads.tree).directories i).0 is).1)))
      ((links_counted P I state.tree coherent waits.holds.reads.tree i i_reached).file file)

  its_name : IsNameOf P I i s
  its_name = record { slot = removals.reached P I state path d s others waits name; inode = refl }

  other_name : IsFile I i → Reached P K i → (t : ℕ) × (t ≢ s) × IsNameOf P I i t
  other_name file ([], root) = absurd (not_both_kinds I 1 (subst (IsFile I) root file) ((coherent Rule.root 1).directory refl))
  other_name file (n ∷ q, (t, names, leads)) =
      let (slot, other) = facts.slot_back P I p s can t (reached_slot P K (n ∷ q) i t (names, leads)) in
      (t, other, record { slot = slot; inode = sym (number_same t other) ∙ leads.inode })

  file_goes : IsFile I i → path_count state.tree i ≡ 1 → ¬ Reached P K i
  file_goes file one reached =
      let (t, other, named) = other_name file reached in
      other (one_counted (IsNameOf P I i) s t (subst (Count (IsNameOf P I i)) one (names_counted file)) its_name named)

  reached_by : (t : ℕ) → t ≢ s → IsNameOf P I i t → Reached P K i
  reached_by t other named = subst (Reached P K) (number_same t other ∙ named.inode) (inode_reached P K (after.coherent can) t (facts.slot_forward P I p s can t other named.slot))

  one_name : IsFile I i → ¬ Reached P K i → path_count state.tree i ≡ 1
  one_name file gone = count_one (IsNameOf P I i) (path_count state.tree i) 1 (names_counted file)
      (count_alone (IsNameOf P I i) s its_name (λ t named. elim (cases_eq t s) [ inl is ↦ is | inr other ↦ absurd (gone (reached_by t other named)) ]))

  node : (goes ≡ true) ↔ ¬ Reached P K i
  node = elim kind [
    | inl file ↦ ((λ all. file_goes file ((takes.file file).0 all)), (λ gone. (takes.file file).1 (one_name file gone)))
    | inr directory ↦ ((λ all. facts.directory_gone P I p s can directory), (λ gone. takes.directory directory))
  ]

  -- ---- its pages

  distinct : IsDistinct pages
  distinct = elim kind [
    | inr directory ↦ subst IsDistinct (sym (takes.no_pages (inl directory))) tt
    | inl file ↦ elim (true_or_false goes) [
      | inl all ↦ in_order P I pages 0 (inode_size I i) (takes.all_pages file all)
      | inr stays ↦ subst IsDistinct (sym (takes.no_pages (inr stays))) tt
    ]
  ]

  listed_goes : (j : ℕ) → IsIn j pages → goes ≡ true
  listed_goes j among = elim (true_or_false goes) [ inl all ↦ all | inr stays ↦ absurd (subst (IsIn j) (takes.no_pages (inr stays)) among) ]

  file_page : IsFile I i → goes ≡ true → (j : ℕ) → IsPageIn P I i j → IsIn j pages
  file_page file all j page =
      let is = ((has_sizes P I state.tree coherent waits.holds.reads.tree).files i).1 (i_reached, file) in
      elim (cases_lt (page_offset P I j) (pages_of_size (inode_size I i))) [
        | inl below ↦ contained_in j pages (listed P I (joined no_residue others) state waits.holds i 0 pages is (takes.all_pages file all) takes.of_node j page
            (let none = no_size in omega (arith, none)) below)
        | inr past ↦ absurd (apart j (left_behind P I (joined no_residue others) state waits.holds i is j page past) page.owner)
      ]

  -- a directory that is empty has no page
  directory_page : IsDirectory I i → (j : ℕ) → IsPageIn P I i j → IsIn j pages
  directory_page directory j page =
      elim (((has_pages_beside P I (joined no_residue others) state waits.holds).used j page.in_range).1 (λ unused.
      let least = (in_range P I coherent i i_reached).0 in let owner = page.owner in let none = unused.0 in omega (arith, least, owner, none))) [
        | inl kept ↦ elim kept [
          | inl other ↦ absurd (not_both_kinds I i (subst (IsFile I) page.owner other.file) directory)
          | inr room ↦ let (t, at, owner, lives) = room.slot in absurd (can.leaf directory t lives (owner ∙ page.owner))
        ]
        | inr left ↦ absurd (apart j left page.owner)
      ]

  pages_are : (j : ℕ) → IsIn j pages ↔ ((goes ≡ true) × IsPageIn P I i j)
  pages_are j = (
    (λ among. (listed_goes j among, takes.of_node j (in_contained j pages among))),
    (λ (all, page). elim kind [ inl file ↦ file_page file all j page | inr directory ↦ directory_page directory j page ]),
  )

  -- ---- the slot's page

  module _ (t : ℕ) (at : page_of_slot t ≡ page_of_slot s) where
    same_page_owner : slot_owner P I t ≡ slot_owner P I s
    unfolding slot_owner
    same_page_owner = ap (page_owner P I) at

    same_page_held : IsHeld P I t
    same_page_held = record {
      in_range = slot_below P t (subst (λ j. j < data_pages_of P) (sym at) (page_of_slot_below P s name.held.in_range));
      kind = ap (page_kind P I) at ∙ name.held.kind;
      owned = λ none. name.held.owned (sym same_page_owner ∙ none);
    }

    same_page_reached : slot_inode P I t ≢ 0 → IsReachedSlot P I t
    same_page_reached number = record {
      owner = (p, subst (Names P I p) (sym same_page_owner) can.path);
      directory = ap (inode_kind I) same_page_owner ∙ can.directory;
      live = live P I (joined no_residue others) waits.holds.beside waits.no_pointer t same_page_held number;
    }

  given : (given_back : Option ℕ) → HasOtherName P I s given_back → IsNamelessPage P (dropped P I s) (slot_owner P I s) s given_back
  given None (t, other, at, number) =
      let before = same_page_reached t at number in
      record {
        reached = facts.d_reached P I p s can;
        directory = facts.kind_same P I p s can (slot_owner P I s) (p, can.path) ∙ can.directory;
        slot = (t, at, facts.owner_same P I p s can t before ∙ same_page_owner t at, (facts.slot_forward P I p s can t other before).live);
      }
  given (Some page) (at, none) = (
    at,
    λ room.
        let (t, on, owner, lives) = room.slot in
        let slot : IsReachedSlot P K t = record { owner = subst (Reached P K) (sym owner) room.reached; directory = ap (inode_kind K) owner ∙ room.directory; live = lives } in
        let (before, other) = facts.slot_back P I p s can t slot in
        before.live.names (none t on other),
  )

  pub goes_with : GoesWith P I s given_back pages goes falling
  goes_with = record { node = node; distinct = distinct; pages_are = pages_are; page = given given_back takes.page; link = takes.link }

pub waiting_loss_law : WaitingLossLaw
waiting_loss_law P I state path d s given_back pages goes falling others waits name apart takes = goes_with P I state path d s given_back pages goes falling others waits name apart takes
