-- What goes with the old name of a move is what is to be repaired behind its commit: pages, the replaced inode, slot s, and links that fall.
use Rattle.std.proofs.Common.{◌≡◌, ◌≢◌, ◌↔◌, ◌⊎◌, inl, inr, ℕ, ◌<◌, ◌≤◌, Bool, true, false, ◌==◌, if◌then◌else◌, List, [], ◌∷◌, ◌++◌, Option, Some, None, refl, sym, ap, subst, ◌∙◌, arith}
use Rattle.std.proofs.lemmas.Bool.{cases_eq}
use Rattle.layout.specs.Fields.{word, inode_kind, inode_links, page_owner, page_kind, slot_inode}
use Rattle.layout.specs.Geometry.{inodes_of, data_pages_of, page_of_slot, slot_word_of}
use Rattle.layout.proofs.GeometryLaws.{page_of_slot_below}
use Rattle.tree_model.specs.PathText.{Route}
use Rattle.image_reading.specs.Counts.{IsIn, IsDistinct, IsListOf}
use Rattle.image_reading.specs.Reading.{slot_owner, Reached, IsRoomOf}
use Rattle.image_reading.specs.Repairs.{IsLitterSlot, IsLitterPage, IsLitterInode, IsLitterCount}
use Rattle.image_counts.proofs.Distinct.{in_front, in_back, in_either, distinct_both}
use Rattle.image_laws.specs.Move.{CanMove, moved}
use Rattle.image_laws.proofs.Contents.{dec_reached}
use Rattle.rename_laws.specs.Target.{Target, Holds, IsFalling, old_number}
use Rattle.rename_laws.specs.Ready.{IsMoveReady}
use Rattle.rename_laws.specs.Intervals.{IsGone, IsGivenUp}
use Rattle.rename_laws.proofs.MovedCounts.{IsAlmostTidy}
use Rattle.rename_laws.proofs.MovedNames as here
use Rattle.rename_laws.proofs.MovedWords as words
use Rattle.rename_laws.proofs.MoveIntervals as intervals
use Rattle.rename_laws.proofs.MoveNear as before
use Rattle.rename_laws.proofs.MoveSpare.{IsOut, IsSpare}
use Rattle.weave_laws.specs.Naming.{slots_left, pages_left}
use Rattle.weave_laws.specs.Removing.{inodes_left, falling_left}
use Rattle.moving_laws.specs.Moving.{GivesBackSource, GoesWithMove, still_high}
use Rattle.moving_laws.proofs.Behind as behind_it
use Rattle.moving_laws.proofs.Behind.{IsBehind}
use Rattle.moving_laws.proofs.Lists.{list_none, list_one}

distinct_left : (given_back : Option ℕ) → IsDistinct (pages_left given_back)
distinct_left None = tt
distinct_left (Some page) = ((λ none. none), tt)

given_is : (P : ℕ) (W C : List ℕ) (s : ℕ) (given_back : Option ℕ) → GivesBackSource P W C s given_back → (j : ℕ) → IsIn j (pages_left given_back)
    → (j ≡ page_of_slot s) × ¬ IsRoomOf P C (slot_owner P W s) j
given_is P W C s None there j among = absurd among
given_is P W C s (Some page) (at, none) j among = elim among [
  | inl e ↦ (e ∙ sym at, λ room. none (subst (IsRoomOf P C (slot_owner P W s)) e room))
  | inr none ↦ absurd none
]

given_back_in : (P : ℕ) (W C : List ℕ) (s : ℕ) (given_back : Option ℕ) → GivesBackSource P W C s given_back → ¬ IsRoomOf P C (slot_owner P W s) (page_of_slot s) → IsIn (page_of_slot s) (pages_left given_back)
given_back_in P W C s None there none = absurd (none there)
given_back_in P W C s (Some page) (at, empty) none = inl at

clash : false ≡ true → ⊥
clash e = cc

other_test : (y r : ℕ) → y ≢ r → (y == r) ≡ false
other_test y r ne = search (arith)

same_test : (y r : ℕ) → y ≡ r → (y == r) ≡ true
same_test y r e = search (arith)

module _ (P : ℕ) (W I : List ℕ) (pa pb : Route) (s x d : ℕ) (target : Target) (rising : Option ℕ) (ready : IsMoveReady P W I pa pb s x d target rising) (given_back : Option ℕ) (pages : List ℕ)
    (goes : Bool) (falling : Option ℕ) (with : GoesWithMove P W (moved P I s d) s x target given_back pages goes falling) where
  c : CanMove P I pa pb s d
  c = ready.can_move

  near : IsAlmostTidy P I s d
  near = before.near P W I pa pb s x d target rising ready

  -- ---- the pages that go

  source_owner : slot_owner P (moved P I s d) s ≡ slot_owner P W s
  source_owner = here.owner_same P I pa pb s d c s c.source.held.in_range ∙ before.source_owner P W I pa pb s x d target rising ready

  given_in_range : (j : ℕ) → j ≡ page_of_slot s → j < data_pages_of P
  given_in_range j e = subst (λ k. k < data_pages_of P) (sym e) (page_of_slot_below P s c.source.held.in_range)

  pub in_given_up : (j : ℕ) → IsIn j (pages ++ pages_left given_back) → IsGivenUp P (moved P I s d) s target j
  in_given_up j among = elim (in_either j pages (pages_left given_back) among) [
    | inl node ↦ (let (all, page) = (with.pages_are j).0 node in record { in_range = page.in_range; why = inl (with.node.0 all, page.owner) })
    | inr given ↦
        let (at, none) = given_is P W (moved P I s d) s given_back with.page j given in
        record { in_range = given_in_range j at; why = inr (at, (λ room. none (subst (λ y. IsRoomOf P (moved P I s d) y j) source_owner room))) }
  ]

  pub given_up_in : (j : ℕ) → IsGivenUp P (moved P I s d) s target j → IsIn j (pages ++ pages_left given_back)
  given_up_in j given = elim given.why [
    | inl (gone, owner) ↦ in_front j pages (pages_left given_back) ((with.pages_are j).1 (with.node.1 gone, record { in_range = given.in_range; owner = owner }))
    | inr (at, none) ↦
        let empty : ¬ IsRoomOf P (moved P I s d) (slot_owner P W s) (page_of_slot s) = λ room.
        none (subst (λ y. IsRoomOf P (moved P I s d) y j) (sym source_owner) (subst (IsRoomOf P (moved P I s d) (slot_owner P W s)) (sym at) room)) in
        in_back j pages (pages_left given_back) (subst (λ k. IsIn k (pages_left given_back)) (sym at) (given_back_in P W (moved P I s d) s given_back with.page empty))
  ]

  pub in_spare : (j : ℕ) → IsIn j (pages ++ pages_left given_back) → IsSpare P I (moved P I s d) s d j
  in_spare j among = (intervals.given_spare P W I pa pb s x d target rising ready j).0 (in_given_up j among)

  spare_in : (j : ℕ) → IsSpare P I (moved P I s d) s d j → IsIn j (pages ++ pages_left given_back)
  spare_in j spare = given_up_in j ((intervals.given_spare P W I pa pb s x d target rising ready j).1 spare)

  -- a replaced inode isn't the directory of slot s
  other_owner : slot_owner P I s ≢ slot_inode P I d
  other_owner = here.no_owner P I pa pb s d c s (here.source_slot P I pa pb s d c)

  distinct : IsDistinct (pages ++ pages_left given_back)
  unfolding slot_owner
  distinct = distinct_both pages (pages_left given_back) with.distinct (distinct_left given_back) (λ j node given.
      let page = ((with.pages_are j).0 node).1 in
      let (at, none) = given_is P W (moved P I s d) s given_back with.page j given in
      let owner : slot_owner P (moved P I s d) s ≡ old_number target = ap (page_owner P (moved P I s d)) (sym at) ∙ page.owner in
      other_owner (sym (here.owner_same P I pa pb s d c s c.source.held.in_range) ∙ owner ∙ sym ready.number))

  gone_out : IsGone P (moved P I s d) target ↔ IsOut P I (moved P I s d) d
  gone_out = intervals.out_gone P W I pa pb s x d target rising ready

  module _ (Y : List ℕ) (behind : IsBehind P I Y s d) where
    pub of_pages : IsListOf (IsLitterPage P Y) (pages ++ pages_left given_back)
    of_pages = record {
      distinct = distinct;
      each = λ j. (
        (λ among. behind_it.spare_page P I Y pa pb s d c near behind j (in_spare j among)),
        (λ l. spare_in j (behind_it.page_spare P I Y pa pb s d c near behind j l)),
      );
    }

    pub marks : (j : ℕ) → IsIn j (pages ++ pages_left given_back) → (page_owner P Y j ≢ 0) ⊎ (page_kind P Y j ≢ 0)
    marks j among = inl (behind_it.spare_owned P I Y pa pb s d c near behind j (in_spare j among))

    -- ---- the replaced inode

    inodes_by : (all : Bool) → all ≡ goes → IsListOf (IsLitterInode P Y) (inodes_left all (old_number target))
    inodes_by true is =
        let out = gone_out.0 (with.node.0 (sym is)) in
        list_one (IsLitterInode P Y) (old_number target) (subst (IsLitterInode P Y) ready.number (behind_it.out_inode P I Y pa pb s d c near behind out))
        (λ y l. (behind_it.inode_out P I Y pa pb s d c near behind y l).0 ∙ ready.number)
    inodes_by false is = list_none (IsLitterInode P Y) (λ y l.
        let all = with.node.1 (gone_out.1 (behind_it.inode_out P I Y pa pb s d c near behind y l).1) in
        clash (is ∙ all))

    pub of_inodes : IsListOf (IsLitterInode P Y) (inodes_left goes (old_number target))
    of_inodes = inodes_by goes refl

    pub kinds : (y : ℕ) → IsIn y (inodes_left goes (old_number target)) → inode_kind Y y ≢ 0
    kinds y among =
        let (e, out) = behind_it.inode_out P I Y pa pb s d c near behind y ((of_inodes.each y).0 among) in
        subst (λ z. inode_kind Y z ≢ 0) (sym e) (behind_it.out_kind P I Y pa pb s d c near behind out)

    -- ---- slot s

    slots_by : (back : Option ℕ) → GivesBackSource P W (moved P I s d) s back → (f : ℕ) × (f < 16) × (word Y (slot_word_of P s f) ≢ 0) → IsListOf (IsLitterSlot P Y) (slots_left s back)
    slots_by None there nonzero =
        let room = subst (λ y. IsRoomOf P (moved P I s d) y (page_of_slot s)) (sym (before.source_owner P W I pa pb s x d target rising ready)) there in
        list_one (IsLitterSlot P Y) s (behind_it.source_left P I Y pa pb s d c near behind room nonzero) (behind_it.only_slot P I Y pa pb s d c near behind)
    slots_by (Some page) (at, none) nonzero = list_none (IsLitterSlot P Y) (λ t l.
        let room = behind_it.source_room P I Y pa pb s d c near behind (subst (IsLitterSlot P Y) (behind_it.only_slot P I Y pa pb s d c near behind t l) l) in
        none (subst (λ y. IsRoomOf P (moved P I s d) y page) (before.source_owner P W I pa pb s x d target rising ready) (subst (IsRoomOf P (moved P I s d) (slot_owner P I s)) at room)))

    pub of_slots : (f : ℕ) × (f < 16) × (word Y (slot_word_of P s f) ≢ 0) → IsListOf (IsLitterSlot P Y) (slots_left s given_back)
    of_slots nonzero = slots_by given_back with.page nonzero

    -- ---- links that are to fall

    module _ (same : (y : ℕ) → 1 ≤ y → y ≤ inodes_of P → inode_links Y y ≡ inode_links I y) where
      falls : (y : ℕ) → IsLitterCount P Y y → IsFalling P W s x target y
      falls y l = (before.lowered P W I pa pb s x d target rising ready y).1 (behind_it.count_low P I Y pa pb s d c near behind same y l)

      left_reached : (y : ℕ) → IsFalling P W s x target y → Reached P (moved P I s d) y → IsLitterCount P Y y
      left_reached y is r = behind_it.low_count P I Y pa pb s d c near behind same y ((before.lowered P W I pa pb s x d target rising ready y).0 is) r

      -- what falls is reached, but a replaced inode that goes
      still_reached : (y : ℕ) → IsFalling P W s x target y → (goes ≡ true → y ≢ old_number target) → Reached P (moved P I s d) y
      still_reached y is other = elim ((before.lowered P W I pa pb s x d target rising ready y).0 is) [
        | inr parent ↦ subst (Reached P (moved P I s d)) (sym parent.2) (here.source_owner_reached P I pa pb s d c)
        | inl file ↦ elim (dec_reached P (moved P I s d) (here.after P I pa pb s d c).coherent y) [
          | yes r ↦ r
          | no none ↦
              let out : IsOut P I (moved P I s d) d = (file.1, λ r. none (subst (Reached P (moved P I s d)) (sym file.2) r)) in
              absurd (other (with.node.1 (gone_out.1 out)) (file.2 ∙ ready.number))
        ]
      ]

      -- one inode falls
      one_falls : (y z : ℕ) → IsFalling P W s x target y → IsFalling P W s x target z → y ≡ z
      one_falls y z is also =
          let low = before.lowered P W I pa pb s x d target rising ready in
          words.one_falls P I pa pb s d c y z ((low y).0 is) ((low z).0 also)

      gone_unreached : goes ≡ true → ¬ Reached P (moved P I s d) (old_number target)
      gone_unreached all r = let out = gone_out.0 (with.node.0 all) in out.1 (subst (Reached P (moved P I s d)) (sym ready.number) r)

      one_left : (y : ℕ) → IsFalling P W s x target y → (goes ≡ true → y ≢ old_number target) → IsListOf (IsLitterCount P Y) (y ∷ [])
      one_left y is other = list_one (IsLitterCount P Y) y (left_reached y is (still_reached y is other)) (λ z l. one_falls z y (falls z l) is)

      none_left : (y : ℕ) → IsFalling P W s x target y → goes ≡ true → y ≡ old_number target → IsListOf (IsLitterCount P Y) []
      none_left y is all e = list_none (IsLitterCount P Y) (λ z l. gone_unreached all (subst (Reached P (moved P I s d)) (one_falls z y (falls z l) is ∙ e) (behind_it.back P I Y pa pb s d c near behind z l.reached)))

      counts_by : (all : Bool) (fall : Option ℕ) → all ≡ goes → Holds (IsFalling P W s x target) fall → IsListOf (IsLitterCount P Y) (falling_left (still_high all (old_number target) fall))
      counts_by true None is holds = list_none (IsLitterCount P Y) (λ y l. holds y (falls y l))
      counts_by false None is holds = list_none (IsLitterCount P Y) (λ y l. holds y (falls y l))
      counts_by false (Some y) is holds = one_left y holds (λ all. absurd (clash (is ∙ all)))
      counts_by true (Some y) is holds = elim (cases_eq y (old_number target)) [
        | inl e ↦ subst (λ b. IsListOf (IsLitterCount P Y) (falling_left (if b then None else Some y))) (sym (same_test y (old_number target) e)) (none_left y holds (sym is) e)
        | inr ne ↦ subst (λ b. IsListOf (IsLitterCount P Y) (falling_left (if b then None else Some y))) (sym (other_test y (old_number target) ne)) (one_left y holds (λ all. ne))
      ]

      pub of_counts : IsListOf (IsLitterCount P Y) (falling_left (still_high goes (old_number target) falling))
      of_counts = counts_by goes falling refl with.link
