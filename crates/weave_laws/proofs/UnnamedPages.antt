-- A slot gives up its number: its page is to be repaired where no name is left in it, with the pages of a node that goes, and each other
-- page is where it was before.
use Rattle.std.proofs.Common.{◌≡◌, ◌≢◌, ◌⊎◌, inl, inr, ℕ, ◌<◌, Bool, List, ◌++◌, Some, None, Option, sym, ap, subst, ◌∙◌, arith}
use Rattle.std.proofs.lemmas.Bool.{cases_eq}
use Rattle.layout.specs.Geometry.{data_pages_of, page_of_slot}
use Rattle.layout.specs.Fields.{inode_kind, page_owner, page_kind, page_offset, slot_inode}
use Rattle.layout.proofs.GeometryLaws.{page_of_slot_below}
use Rattle.layout.proofs.Widths.{descriptor_field_read}
use Rattle.tree_model.specs.PathText.{Route}
use Rattle.image_reading.specs.Counts.{IsIn, IsDistinct, IsListOf}
use Rattle.image_reading.specs.Reading.{slot_owner, Reached, IsRoomOf, pages_of_size}
use Rattle.image_reading.specs.Repairs.{IsKept, IsLitterPage}
use Rattle.image_counts.specs.Entries.{IsPageIn}
use Rattle.image_counts.proofs.Distinct.{in_front, in_back, in_either, distinct_both}
use Rattle.image_laws.specs.Drop.{dropped}
use Rattle.image_laws.specs.Remove.{CanRemove}
use Rattle.image_laws.proofs.KeptPages.{litter_page}
use Rattle.image_laws.proofs.Contents.{dec_reached}
use Rattle.image_laws.proofs.Paths.{reached_pos, reached-le}
use Rattle.image_laws.proofs.RemoveFacts as facts
use Rattle.weave_laws.specs.Entering.{IsNamelessPage}
use Rattle.weave_laws.specs.Naming.{pages_left}
use Rattle.weave_laws.specs.Unnaming.{GoesWith}
use Rattle.weave_laws.proofs.Same.{descriptors_flipped}
use Rattle.weave_laws.proofs.UnnamedSlots.{listed_added, only, version, coherent, descriptors, room_before, owner_after}

distinct_left : (given_back : Option ℕ) → IsDistinct (pages_left given_back)
distinct_left None = tt
distinct_left (Some page) = ((λ none. none), tt)

given_is : (P : ℕ) (I : List ℕ) (s : ℕ) (given_back : Option ℕ) → IsNamelessPage P (dropped P I s) (slot_owner P I s) s given_back → (j : ℕ) → IsIn j (pages_left given_back)
    → (j ≡ page_of_slot s) × ¬ IsRoomOf P (dropped P I s) (slot_owner P I s) (page_of_slot s)
given_is P I s None there j among = absurd among
given_is P I s (Some page) (at, none) j among = elim among [
  | inl e ↦ (e ∙ sym at, λ room. none (subst (IsRoomOf P (dropped P I s) (slot_owner P I s)) at room))
  | inr none ↦ absurd none
]

room_or_given : (P : ℕ) (I : List ℕ) (s : ℕ) (given_back : Option ℕ) → IsNamelessPage P (dropped P I s) (slot_owner P I s) s given_back
    → IsRoomOf P (dropped P I s) (slot_owner P I s) (page_of_slot s) ⊎ IsIn (page_of_slot s) (pages_left given_back)
room_or_given P I s None there = inl there
room_or_given P I s (Some page) (at, none) = inr (inl at)

module _ {P : ℕ} {I : List ℕ} {p : Route} {s : ℕ} {given_back : Option ℕ} {pages : List ℕ} {goes : Bool} {falling : Option ℕ} (can : CanRemove P I p s)
    (with : GoesWith P I s given_back pages goes falling) where
  owner_same : (j : ℕ) → j < data_pages_of P → page_owner P (dropped P I s) j ≡ page_owner P I j
  owner_same = (only can).owner

  -- ---- the pages that go

  page_in : (j : ℕ) → IsIn j pages → ¬ Reached P (dropped P I s) (slot_inode P I s) × IsPageIn P I (slot_inode P I s) j
  page_in j among = let (all, page) = (with.pages_are j).0 among in (with.node.0 all, page)

  here_owner : (j : ℕ) → j ≡ page_of_slot s → page_owner P (dropped P I s) j ≡ slot_owner P I s
  here_owner j e = ap (page_owner P (dropped P I s)) e ∙ owner_after can

  in_here : (j : ℕ) → j ≡ page_of_slot s → j < data_pages_of P
  in_here j e = subst (λ k. k < data_pages_of P) (sym e) (page_of_slot_below P s can.live.held.in_range)

  pub now_owned : (j : ℕ) → IsIn j (pages ++ pages_left given_back) → (j < data_pages_of P) × (page_owner P (dropped P I s) j ≢ 0)
  now_owned j among = elim (in_either j pages (pages_left given_back) among) [
    | inl node ↦
        let (none, page) = page_in j node in
        (page.in_range, λ z. reached_pos P I (slot_inode P I s) (facts.i_reached P I p s can) (sym page.owner ∙ sym (owner_same j page.in_range) ∙ z))
    | inr given ↦
        let (e, none) = given_is P I s given_back with.page j given in
        (in_here j e, λ z. can.live.held.owned (sym (here_owner j e) ∙ z))
  ]

  unkept : (j : ℕ) → IsIn j (pages ++ pages_left given_back) → ¬ IsKept P (dropped P I s) j
  unkept j among kept = elim (in_either j pages (pages_left given_back) among) [
    | inl node ↦
        let (none, page) = page_in j node in
        let is = owner_same j page.in_range ∙ page.owner in
        elim kept [ inl file ↦ none (subst (Reached P (dropped P I s)) is file.owner) | inr room ↦ none (subst (Reached P (dropped P I s)) is room.reached) ]
    | inr given ↦
        let (e, none) = given_is P I s given_back with.page j given in
        elim kept [
          | inl file ↦
              let one = ap (inode_kind (dropped P I s)) (sym (here_owner j e)) ∙ file.file in
              let two = facts.kind_same P I p s can (slot_owner P I s) (p, can.path) ∙ can.directory in
              omega (arith, one, two)
          | inr room ↦ none (subst (IsRoomOf P (dropped P I s) (slot_owner P I s)) e (subst (λ x. IsRoomOf P (dropped P I s) x j) (here_owner j e) room))
        ]
  ]

  page_left : (j : ℕ) → IsIn j (pages ++ pages_left given_back) → IsLitterPage P (dropped P I s) j
  unfolding page_owner
  page_left j among = let (lt, owned) = now_owned j among in record { in_range = lt; free = unkept j among; nonzero = (0, descriptor_field_read (dropped P I s) 0 (omega arith), owned) }

  distinct : IsDistinct (pages ++ pages_left given_back)
  unfolding slot_owner
  distinct = distinct_both pages (pages_left given_back) with.distinct (distinct_left given_back) (λ j node given.
      let page = (page_in j node).1 in
      let e = (given_is P I s given_back with.page j given).0 in
      let owner = ap (page_owner P I) (sym e) ∙ page.owner in
      can.leaf (ap (inode_kind I) (sym owner) ∙ can.directory) s can.live owner)

  -- ---- the others

  forth : (j : ℕ) → ¬ IsIn j (pages ++ pages_left given_back) → IsLitterPage P I j → IsLitterPage P (dropped P I s) j
  forth = litter_page P (dropped P I s) I (λ j. IsIn j (pages ++ pages_left given_back))
      (descriptors_flipped P I (dropped P I s) (λ j. IsIn j (pages ++ pages_left given_back)) (descriptors can (λ j. IsIn j (pages ++ pages_left given_back))) (version can))
      (sym (version can))
      (λ x is was. sym (facts.kind_same P I p s can x was))
      (λ j lt other r. facts.reached_back P I p s can (page_owner P (dropped P I s) j) r)
      (λ j other kept.
      let was = facts.reached_back P I p s can (page_owner P (dropped P I s) j) kept.owner in
      subst (λ z. page_offset P (dropped P I s) j < pages_of_size z) ((only can).node_size (page_owner P (dropped P I s) j) (reached-le P I can.coherent (page_owner P (dropped P I s) j) was)) kept.below)
      (λ j lt other room. facts.room_back P I p s can (page_owner P (dropped P I s) j) j room)

  owner_stays : (j : ℕ) → j < data_pages_of P → ¬ IsIn j (pages ++ pages_left given_back) → Reached P I (page_owner P I j) → Reached P (dropped P I s) (page_owner P I j)
  owner_stays j lt other r = elim (cases_eq (page_owner P I j) (slot_inode P I s)) [
    | inr ne ↦ facts.reached_forward P I p s can (page_owner P I j) ne r
    | inl e ↦ elim (dec_reached P (dropped P I s) (coherent can) (slot_inode P I s)) [
      | yes there ↦ subst (Reached P (dropped P I s)) (sym e) there
      | no none ↦ absurd (other (in_front j pages (pages_left given_back) ((with.pages_are j).1 (with.node.1 none, record { in_range = lt; owner = e }))))
    ]
  ]

  room_stays : (j : ℕ) → ¬ IsIn j (pages ++ pages_left given_back) → IsRoomOf P I (page_owner P I j) j → IsRoomOf P (dropped P I s) (page_owner P I j) j
  room_stays j other room = elim (facts.room_cases P I p s can (page_owner P I j) j room) [
    | inr after ↦ after
    | inl (owner, at) ↦ elim (room_or_given P I s given_back with.page) [
      | inl there ↦ subst (λ x. IsRoomOf P (dropped P I s) x j) (sym owner) (subst (IsRoomOf P (dropped P I s) (slot_owner P I s)) (sym at) there)
      | inr given ↦ absurd (other (in_back j pages (pages_left given_back) (subst (λ k. IsIn k (pages_left given_back)) (sym at) given)))
    ]
  ]

  back : (j : ℕ) → ¬ IsIn j (pages ++ pages_left given_back) → IsLitterPage P (dropped P I s) j → IsLitterPage P I j
  back = litter_page P I (dropped P I s) (λ j. IsIn j (pages ++ pages_left given_back))
      (descriptors can (λ j. IsIn j (pages ++ pages_left given_back)))
      (version can)
      (λ x was is. facts.kind_same P I p s can x was)
      owner_stays
      (λ j other kept. subst (λ z. page_offset P I j < pages_of_size z) (sym ((only can).node_size (page_owner P I j) (reached-le P I can.coherent (page_owner P I j) kept.owner))) kept.below)
      (λ j lt other room. room_stays j other room)

  -- ---- all of them

  module _ (rest : List ℕ) (alone : (j : ℕ) → IsIn j rest → ¬ IsPageIn P I (slot_inode P I s) j) (listed : IsListOf (IsLitterPage P I) rest) where
    page_before : (j : ℕ) → IsIn j (pages ++ pages_left given_back) → ¬ IsLitterPage P I j
    page_before j among l = elim (in_either j pages (pages_left given_back) among) [
      | inl node ↦ alone j ((listed.each j).1 l) (page_in j node).1
      | inr given ↦
          let e = (given_is P I s given_back with.page j given).0 in
          l.free (inr (subst (λ k. IsRoomOf P I (page_owner P I k) k) (sym e) (room_before can)))
    ]

    pub pages_after : IsListOf (IsLitterPage P (dropped P I s)) ((pages ++ pages_left given_back) ++ rest)
    pages_after = listed_added (IsLitterPage P I) (IsLitterPage P (dropped P I s)) (pages ++ pages_left given_back) rest distinct page_before page_left (λ j other. (forth j other, back j other)) listed

    pub marks_after : ((j : ℕ) → IsIn j rest → (page_owner P I j ≢ 0) ⊎ (page_kind P I j ≢ 0)) → (j : ℕ) → IsIn j ((pages ++ pages_left given_back) ++ rest)
        → (page_owner P (dropped P I s) j ≢ 0) ⊎ (page_kind P (dropped P I s) j ≢ 0)
    marks_after marks j among = elim (in_either j (pages ++ pages_left given_back) rest among) [
      | inl here ↦ inl (now_owned j here).1
      | inr other ↦
          let lt = ((listed.each j).0 other).in_range in
          elim (marks j other) [
            | inl owned ↦ inl (λ z. owned (sym (owner_same j lt) ∙ z))
            | inr kind ↦ inr (λ z. kind (sym ((only can).kind j lt) ∙ z))
          ]
    ]
