-- A file that a call names may get pages and a size, or be cut.
use Rattle.std.proofs.Common.{◌≡◌, inl, inr, ℕ, suc, ◌-◌, ◌^◌, ◌<◌, ◌≤◌, true, false, List, [], ◌∷◌, ◌++◌, get_or, slice_get, Some, refl, sym, ap, subst, ◌∙◌, arith}
use Rattle.std.specs.Prelude.{Contains}
use Rattle.std.proofs.lemmas.Bool.{cases_lt}
use Rattle.std.proofs.lemmas.Option.{slice_get-get_or}
use Rattle.layout.specs.Fields.{inode_size, page_owner, page_kind, page_offset}
use Rattle.layout.specs.Geometry.{data_pages_of}
use Rattle.tree_model.specs.Run.{State}
use Rattle.tree_model.specs.Tree.{is_file}
use Rattle.image_reading.specs.Counts.{IsIn, IsDistinct}
use Rattle.image_reading.specs.Reading.{IsFile, Reached, IsPageOf, pages_of_size}
use Rattle.image_reading.specs.Repairs.{IsKept, IsLitterPage}
use Rattle.image_reading.specs.Residue.{Residue, no_residue}
use Rattle.image_reading.specs.Soundness.{Rule}
use Rattle.image_reading.proofs.FilePages.{page_from_place}
use Rattle.image_counts.specs.Entries.{IsPageIn}
use Rattle.image_counts.specs.Laws.{ReadsBeside}
use Rattle.image_counts.proofs.Beside.{has_pages_beside}
use Rattle.image_counts.proofs.Distinct.{in_front, in_either}
use Rattle.image_counts.proofs.Links.{not_both_kinds}
use Rattle.image_counts.proofs.Nodes.{has_sizes, one_page}
use Rattle.image_counts.proofs.Paths.{in_range}
use Rattle.content_laws.specs.Cut.{MayTrim}
use Rattle.content_laws.proofs.Lists.{contains_at, place_of}
use Rattle.weave_laws.specs.Bytes.{IsFilledPage, MayRaise}
use Rattle.weave_laws.specs.Joined.{joined}
use Rattle.weave_laws.specs.Removing.{cleared_left, IsLeftPage}
use Rattle.weave_laws.specs.Sizing.{ArePagesBetween}
use Rattle.weave_laws.specs.Waiting.{WaitsBeside, HasNoPageOf, AreInOrder, WaitingWritingLaw, WaitingFillingLaw, WaitingOwningLaw, WaitingRaisingLaw, WaitingLoweringLaw, WaitingTrimmingLaw}
use Rattle.weave_laws.proofs.Contained.{in_contained, contained_in, contained_or_not}
use Rattle.weave_laws.proofs.WaitingPlaces.{no_pointer}

-- ---- lists in order

same_some : (a b : ℕ) → Some a ≡ Some b → a ≡ b
same_some a b e = cc

-- a list whose elements stand at one place each
distinct_places : (xs : List ℕ) → ((k l x : ℕ) → slice_get xs k ≡ Some x → slice_get xs l ≡ Some x → k ≡ l) → IsDistinct xs
distinct_places [] one = tt
distinct_places (x ∷ xs) one = (
  (λ among. let (k, lt, is) = place_of xs x (in_contained x xs among) in let clash = one 0 (suc k) x refl is in omega (arith, clash)),
  distinct_places xs (λ k l y a b. let same = one (suc k) (suc l) y a b in omega (arith, same)),
)

module _ (P : ℕ) (I pages : List ℕ) (from to : ℕ) (order : AreInOrder P I pages from to) where
  pub in_order : IsDistinct pages
  in_order = distinct_places pages (λ k l j a b. let one = order.offsets k j a in let other = order.offsets l j b in omega (arith, one, other))

  -- each offset between the sizes is one page's
  pub page_at : (k : ℕ) → pages_of_size from ≤ k → k < pages_of_size to → (j : ℕ) × Contains pages j × (page_offset P I j ≡ k)
  page_at k least lt =
      let n = k - pages_of_size from in
      let count = order.count in
      let is = slice_get-get_or pages n 0 (omega (arith, count, least, lt)) in
      let at = order.offsets n (get_or pages n 0) is in
      (get_or pages n 0, contains_at pages n (get_or pages n 0) is, omega (arith, at, least))

  pub one_at : (h j : ℕ) → Contains pages h → Contains pages j → page_offset P I h ≡ page_offset P I j → h ≡ j
  one_at h j first second same =
      let (k, _, a) = place_of pages h first in
      let (l, _, b) = place_of pages j second in
      let one = order.offsets k h a in
      let other = order.offsets l j b in
      let e : k ≡ l = omega (arith, one, other, same) in
      same_some h j (sym a ∙ ap (slice_get pages) e ∙ b)

  pub offset_within : (j : ℕ) → Contains pages j → (pages_of_size from ≤ page_offset P I j) × (page_offset P I j < pages_of_size to)
  offset_within j given =
      let (k, lt, is) = place_of pages j given in
      let at = order.offsets k j is in
      let count = order.count in
      (omega (arith, at), omega (arith, at, lt, count))

-- ---- a file of the tree

module _ (P : ℕ) (I : List ℕ) (residue : Residue) (state : State) (holds : ReadsBeside P I residue state) (i : ℕ) (is : is_file state.tree i ≡ true) where
  pub there : Reached P I i × IsFile I i
  there = ((has_sizes P I state.tree holds.coherent holds.reads.tree).files i).0 is

  page_kind_is : (j : ℕ) → j < data_pages_of P → page_owner P I j ≡ i → page_kind P I j ≡ 1
  page_kind_is j within owner = (holds.coherent Rule.page_kinds j).file within (subst (Reached P I) (sym owner) there.0) (subst (IsFile I) (sym owner) there.1)

  -- a kept page of it stands below its end, and another one has been left
  kept_below : (j : ℕ) → page_owner P I j ≡ i → IsKept P I j → page_offset P I j < pages_of_size (inode_size I i)
  kept_below j owner kept = elim kept [
    | inl page ↦ subst (λ x. page_offset P I j < pages_of_size (inode_size I x)) owner page.below
    | inr room ↦ absurd (not_both_kinds I (page_owner P I j) (subst (IsFile I) (sym owner) there.1) room.directory)
  ]

  pub left_behind : (j : ℕ) → IsPageIn P I i j → pages_of_size (inode_size I i) ≤ page_offset P I j → IsIn j residue.pages
  left_behind j page past =
      elim (((has_pages_beside P I residue state holds).used j page.in_range).1 (λ unused.
      let least = (in_range P I holds.coherent i there.0).0 in let owner = page.owner in let none = unused.0 in omega (arith, least, owner, none))) [
        | inl kept ↦ (let lt = kept_below j page.owner kept in absurd (omega (arith, lt, past)))
        | inr left ↦ left
      ]

  litter_behind : (j : ℕ) → IsLitterPage P I j → page_owner P I j ≡ i → pages_of_size (inode_size I i) ≤ page_offset P I j
  litter_behind j litter owner = elim (cases_lt (page_offset P I j) (pages_of_size (inode_size I i))) [
    | inl lt ↦ absurd (litter.free (inl (record {
      in_range = litter.in_range;
      owner = subst (Reached P I) (sym owner) there.0;
      file = subst (IsFile I) (sym owner) there.1;
      below = subst (λ x. page_offset P I j < pages_of_size (inode_size I x)) (sym owner) lt;
    })))
    | inr past ↦ past
  ]

pub waiting_writing_law : WaitingWritingLaw
waiting_writing_law P I state i offset bytes others waits is inside =
    let (reached, file) = there P I (joined no_residue others) state waits.holds i is in
    record { coherent = waits.holds.coherent; reached = reached; file = file; inside = inside }

-- ---- new pages

pub waiting_filling_law : WaitingFillingLaw
waiting_filling_law P I state i pages others waits is unused =
    let (reached, file) = there P I (joined no_residue others) state waits.holds i is in
    record {
      coherent = waits.holds.coherent;
      reached = reached;
      file = file;
      unused = unused;
    }

module _ (P : ℕ) (I : List ℕ) (state : State) (i : ℕ) (pages : List ℕ) (others : Residue) (waits : WaitsBeside P I (cleared_left pages false i) others state) (is : is_file state.tree i ≡ true) where
  reached : Reached P I i
  reached = (there P I (joined (cleared_left pages false i) others) state waits.holds i is).0

  file : IsFile I i
  file = (there P I (joined (cleared_left pages false i) others) state waits.holds i is).1

  left : (j : ℕ) → Contains pages j → IsIn j (pages ++ others.pages)
  left j given = in_front j pages others.pages (contained_in j pages given)

  litter : (j : ℕ) → Contains pages j → IsLitterPage P I j
  litter j given = (waits.holds.beside.of_pages.each j).0 (left j given)

  kind_is : (j : ℕ) → Contains pages j → page_owner P I j ≡ i → page_kind P I j ≡ 1
  kind_is j given owner = page_kind_is P I (joined (cleared_left pages false i) others) state waits.holds i is j (litter j given).in_range owner

  module _ (z : ℕ) (order : AreInOrder P I pages (inode_size I i) z) where
    filled : (j : ℕ) → Contains pages j → (page_owner P I j ≡ 0) × (page_kind P I j ≡ 1) → IsFilledPage P I i j
    filled j given (owner, kind) = record { free = ((litter j given).in_range, owner); kind = kind; behind = (offset_within P I pages (inode_size I i) z order j given).0 }

    module _ (owners : (j : ℕ) → Contains pages j → page_owner P I j ≡ i) (apart : HasNoPageOf P I others i) where
      mine : (j : ℕ) → IsPageIn P I i j → pages_of_size (inode_size I i) ≤ page_offset P I j → Contains pages j
      mine j page past = elim (in_either j pages others.pages (left_behind P I (joined (cleared_left pages false i) others) state waits.holds i is j page past)) [
        | inl own ↦ in_contained j pages own
        | inr theirs ↦ absurd (apart j theirs page.owner)
      ]

      full : (k : ℕ) → pages_of_size (inode_size I i) ≤ k → k < pages_of_size z → (j : ℕ) × IsPageOf P I i k j
      full k least lt =
          let (j, given, at) = page_at P I pages (inode_size I i) z order k least lt in
          (j, page_from_place (record { in_range = (litter j given).in_range; owner = owners j given; kind = kind_is j given (owners j given); offset = at }))

      mine_at : (k j : ℕ) → pages_of_size (inode_size I i) ≤ k → IsPageOf P I i k j → Contains pages j
      mine_at k j least page = let at = page.offset in mine j (record { in_range = page.in_range; owner = page.owner }) (omega (arith, least, at))

      one : (h j k : ℕ) → pages_of_size (inode_size I i) ≤ k → k < pages_of_size z → IsPageOf P I i k h → IsPageOf P I i k j → h ≡ j
      one h j k least lt a b = one_at P I pages (inode_size I i) z order h j (mine_at k h least a) (mine_at k j least b) (a.offset ∙ sym b.offset)

      pub may_raise : inode_size I i < z → z ≤ 2 ^ 40 → MayRaise P I i z
      may_raise larger small = record { coherent = waits.holds.coherent; reached = reached; file = file; larger = larger; small = small; full = full; one = one }

      pub between : ArePagesBetween P I i pages (inode_size I i) z
      between j = (
        (λ among.
            let given = in_contained j pages among in
            let (least, most) = offset_within P I pages (inode_size I i) z order j given in
            (record { in_range = (litter j given).in_range; owner = owners j given }, least, most)),
        (λ (page, least, most). contained_in j pages (mine j page least)),
      )

  pub may_trim : ((j : ℕ) → Contains pages j → page_owner P I j ≡ i) → MayTrim P I i (Contains pages)
  may_trim owners = record {
    coherent = waits.holds.coherent;
    reached = reached;
    file = file;
    decided = contained_or_not pages;
    past = λ j given. record {
      in_range = (litter j given).in_range;
      owner = owners j given;
      past = litter_behind P I (joined (cleared_left pages false i) others) state waits.holds i is j (litter j given) (owners j given);
    };
  }

  pub are_left : ((j : ℕ) → Contains pages j → page_owner P I j ≡ i) → (j : ℕ) → Contains pages j → IsLeftPage P I (joined (cleared_left pages false i) others) j
  are_left owners j given = record {
    left = left j given;
    kind = λ none. (let one = kind_is j given (owners j given) in omega (arith, one, none));
    pointers = λ t at held. no_pointer P I (joined (cleared_left pages false i) others) waits.holds.beside waits.no_pointer t held;
  }

pub waiting_owning_law : WaitingOwningLaw
waiting_owning_law P I state i z pages others waits is order words = record {
  coherent = waits.holds.coherent;
  reached = reached P I state i pages others waits is;
  file = file P I state i pages others waits is;
  filled = λ j given. filled P I state i pages others waits is z order j given (words j given);
}

pub waiting_raising_law : WaitingRaisingLaw
waiting_raising_law P I state i z pages others waits is order owners apart larger small =
    (may_raise P I state i pages others waits is z order owners apart larger small, between P I state i pages others waits is z order owners apart)

pub waiting_trimming_law : WaitingTrimmingLaw
waiting_trimming_law P I state i pages others waits is owners = (may_trim P I state i pages others waits is owners, are_left P I state i pages others waits is owners)

-- ---- the pages behind a size that falls

module _ (P : ℕ) (I : List ℕ) (residue : Residue) (state : State) (holds : ReadsBeside P I residue state) (i z : ℕ) (pages : List ℕ) (is : is_file state.tree i ≡ true)
    (order : AreInOrder P I pages z (inode_size I i)) (of_file : (j : ℕ) → Contains pages j → IsPageIn P I i j) where
  page_of : (j : ℕ) → IsPageIn P I i j → IsPageOf P I i (page_offset P I j) j
  page_of j page = page_from_place (record { in_range = page.in_range; owner = page.owner; kind = page_kind_is P I residue state holds i is j page.in_range page.owner; offset = refl })

  -- below its end a file has one page at each offset
  pub listed : (j : ℕ) → IsPageIn P I i j → pages_of_size z ≤ page_offset P I j → page_offset P I j < pages_of_size (inode_size I i) → Contains pages j
  listed j page least lt =
      let (h, given, at) = page_at P I pages z (inode_size I i) order (page_offset P I j) least lt in
      let (reached_i, file_i) = there P I residue state holds i is in
      let same = one_page P I holds.coherent i (page_offset P I j) h j reached_i file_i lt (subst (λ k. IsPageOf P I i k h) at (page_of h (of_file h given))) (page_of j page) in
      subst (Contains pages) same given

  pub behind : ArePagesBetween P I i pages z (inode_size I i)
  behind j = (
    (λ among. let given = in_contained j pages among in let (least, most) = offset_within P I pages z (inode_size I i) order j given in (of_file j given, least, most)),
    (λ (page, least, most). contained_in j pages (listed j page least most)),
  )

pub waiting_lowering_law : WaitingLoweringLaw
waiting_lowering_law P I state i z pages others waits is order of_file less =
    let (reached_i, file_i) = there P I (joined no_residue others) state waits.holds i is in (
      record { coherent = waits.holds.coherent; reached = reached_i; file = file_i; less = less },
      in_order P I pages z (inode_size I i) order,
      behind P I (joined no_residue others) state waits.holds i z pages is order of_file,
    )
