-- The first two steps change one word each at most, and no meaning.
use Rattle.std.proofs.Common.{◌≡◌, ◌≢◌, ◌⊎◌, inl, inr, ℕ, ◌+◌, ◌-◌, ◌<◌, ◌≤◌, List, length, set, refl, sym, ap, subst, ◌∙◌, arith}
use Rattle.std.proofs.lemmas.Bool.{cases_eq, cases_lt}
use Rattle.layout.specs.Fields.{word, slot_inode, slot_pointer}
use Rattle.layout.specs.Geometry.{inodes_of, slots_of, inode_word_of, descriptor_word_of, slot_word_of}
use Rattle.layout.proofs.GeometryLaws.{slot_word_within}
use Rattle.image_reading.specs.Reading.{IsHeld, IsLive}
use Rattle.image_reading.specs.Soundness.{Rule, IsCoherent}
use Rattle.image_counts.proofs.Decided.{IsDecided, any_below, held_or_not}
use Rattle.image_laws.specs.Frame.{SameMeaning}
use Rattle.image_laws.specs.Quiet.{IsMix}
use Rattle.image_laws.specs.Pointers.{CanPoint}
use Rattle.image_laws.proofs.Free.{mix_one}
use Rattle.image_laws.proofs.Meaning.{same_itself, same_chained}
use Rattle.image_laws.proofs.Pointers.{pointer_law, leave_law}
use Rattle.image_reading.specs.Repairs.{WasLeft}
use Rattle.repair_laws.specs.Mended.{GivesUp, Unpoints, IsAfter}
use Rattle.repair_laws.proofs.After.{mix_same, stays, unchanged, one_word}
use Rattle.repair_laws.proofs.Held.{SameDescriptors, turned, still_held}
use Rattle.repair_laws.proofs.Apart.{gives_descriptor, gives_inode, gives_slot, unpoints_descriptor, unpoints_inode, unpoints_slot}

-- a step that stores to one word
step_means : (P : ℕ) (W I J : List ℕ) → SameMeaning P W I → (x v : ℕ) → x < length I → SameMeaning P I (set I x v) → J ≡ set I x v → SameMeaning P W J × ((M : List ℕ) → IsMix I J M → SameMeaning P W M)
step_means P W I J before x v lt same is = (
  subst (SameMeaning P W) (sym is) new,
  λ M mix. elim (mix_one I M x v lt (subst (λ z. IsMix I z M) is mix)) [
    | inl e ↦ subst (SameMeaning P W) (sym e) before
    | inr e ↦ subst (SameMeaning P W) (sym e) new
  ],
)
  where
    new : SameMeaning P W (set I x v)
    new = same_chained P W I (set I x v) before same

-- and one without a store
still_means : (P : ℕ) (W I J : List ℕ) → SameMeaning P W I → J ≡ I → SameMeaning P W J × ((M : List ℕ) → IsMix I J M → SameMeaning P W M)
still_means P W I J before is = (subst (SameMeaning P W) (sym is) before, λ M mix. subst (SameMeaning P W) (sym (mix_same I J M is mix)) before)

module _ (P : ℕ) (W : List ℕ) (coherent : IsCoherent P W) where
  within : (s f : ℕ) → s < slots_of P → f < 16 → slot_word_of P s f < length W
  within s f lt small = let below = slot_word_within P s f lt small in let whole = (coherent Rule.head 0).whole refl in omega (arith, below, whole)

  -- a held slot that points
  pub record Points (d : ℕ) : Type 0 where
    pub held : IsHeld P W d
    pub some : slot_pointer P W d ≢ 0

  points_or_not : (d : ℕ) → IsDecided (Points d)
  points_or_not d = elim (held_or_not P W d) [
    | inr other ↦ inr (λ points. other points.held)
    | inl held ↦ elim (cases_eq (slot_pointer P W d) 0) [
      | inl none ↦ inr (λ points. points.some none)
      | inr some ↦ inl (record { held = held; some = some })
    ]
  ]

  pub one_points : (d e : ℕ) → Points d → Points e → d ≡ e
  one_points d e a b = elim (cases_eq d e) [
    | inl same ↦ same
    | inr differ ↦ elim (cases_lt d e) [
      | inl lt ↦ absurd (b.some (coherent Rule.one_pointer e d lt a.held b.held a.some))
      | inr ge ↦ absurd (a.some (coherent Rule.one_pointer d e (omega arith) b.held a.held b.some))
    ]
  ]

  pub left_points : (s d : ℕ) → WasLeft P W s d → Points d
  left_points s d left = record { held = left.held; some = λ none. let points = left.points in omega (arith, points, none) }

  -- the slot that was left is one
  pub one_left : (s t d e : ℕ) → WasLeft P W s d → WasLeft P W t e → s ≡ t
  one_left s t d e a b =
      let same = ap (slot_pointer P W) (one_points d e (left_points s d a) (left_points t e b)) in
      let first = a.points in let second = b.points in omega (arith, same, first, second)

  pub left_held : (s d : ℕ) → WasLeft P W s d → IsHeld P W s
  left_held s d left =
      let target = (coherent Rule.pointers d).held left.held (left_points s d left).some in
      let is : slot_pointer P W d - 1 ≡ s = let points = left.points in omega (arith, points) in
      subst (IsHeld P W) is target

  left_or_not : (s d : ℕ) → Points d → slot_pointer P W d ≡ s + 1 → IsDecided (WasLeft P W s d)
  left_or_not s d points at = elim (cases_eq (slot_inode P W s) 0) [
    | inl none ↦ inr (λ left. left.names none)
    | inr names ↦ elim (cases_eq (slot_inode P W d) (slot_inode P W s)) [
      | inr differ ↦ inr (λ left. differ left.same)
      | inl same ↦ inl (record { held = points.held; points = at; same = same; names = names })
    ]
  ]

  not_left : (s d : ℕ) → IsLive P W s → WasLeft P W s d → ⊥
  not_left s d live left = live.stays d left.held left.points left.same

  -- some slot was left, or none
  pub some_left : ((s : ℕ) × (d : ℕ) × WasLeft P W s d) ⊎ ((s d : ℕ) → ¬ WasLeft P W s d)
  some_left = elim (any_below Points (slots_of P) points_or_not) [
    | inr none ↦ inr (λ s d left. none d left.held.in_range (left_points s d left))
    | inl has ↦
        let (e, points) = has in
        let some = points.some in
        let target : slot_pointer P W e ≡ slot_pointer P W e - 1 + 1 = omega (arith, some) in
        elim (left_or_not (slot_pointer P W e - 1) e points target) [
          | inl left ↦ inl (slot_pointer P W e - 1, e, left)
          | inr not ↦ inr (λ s d left.
              let same = one_points d e (left_points s d left) points in
              let at = left.points ∙ refl in
              let slots : s ≡ slot_pointer P W e - 1 = let here = ap (slot_pointer P W) same in omega (arith, here, at) in
              not (subst (λ z. WasLeft P W z e) slots (subst (WasLeft P W s) same left)))
        ]
  ]

  module _ (A : List ℕ) (first : IsAfter (GivesUp P W) W A) where
    pub first_means : SameMeaning P W A × ((M : List ℕ) → IsMix W A M → SameMeaning P W M)
    first_means = elim some_left [
      | inr none ↦ still_means P W W A (same_itself P W coherent) (unchanged (GivesUp P W) W A first (λ a v gives. absurd (never none gives)))
      | inl has ↦
          let (s, d, left) = has in
          step_means P W W A (same_itself P W coherent) (slot_word_of P s 0) 0 (within s 0 (left_held s d left).in_range (omega arith))
          (leave_law P W s d (record { coherent = coherent; source = left_held s d left; held = left.held; pointer = left.points; same = left.same }))
          (one_word (GivesUp P W) W A first (slot_word_of P s 0) 0 (within s 0 (left_held s d left).in_range (omega arith)) (GivesUp.number s d left)
          (λ a w gives differ. absurd (differ (alone s d left gives))))
    ]
      where
        never : {a v : ℕ} → ((s d : ℕ) → ¬ WasLeft P W s d) → GivesUp P W a v → ⊥
        never none (GivesUp.number s d left) = none s d left

        alone : {a v : ℕ} (s d : ℕ) → WasLeft P W s d → GivesUp P W a v → a ≡ slot_word_of P s 0
        alone s d left (GivesUp.number t e other) = ap (λ z. slot_word_of P z 0) (one_left t s e d other left)

    -- ---- the fields after it

    pub first_pointer : (s : ℕ) → slot_pointer P A s ≡ slot_pointer P W s
    unfolding slot_pointer
    first_pointer s = stays (GivesUp P W) W A first (slot_word_of P s 1) (λ v gives. let (zero, d, left) = gives_slot P W s 1 (omega arith) gives refl in omega (arith, zero))

    -- the slot that was left has the number 0,
    pub first_left : (s d : ℕ) → WasLeft P W s d → slot_inode P A s ≡ 0
    unfolding slot_inode
    first_left s d left = first.new (slot_word_of P s 0) 0 (GivesUp.number s d left)

    -- and each other its own
    pub first_number : (s : ℕ) → (slot_inode P A s ≡ slot_inode P W s) ⊎ ((d : ℕ) × WasLeft P W s d)
    unfolding slot_inode
    first_number s = elim (first.words (slot_word_of P s 0)) [
      | inl same ↦ inl same
      | inr has ↦ let (zero, d, left) = gives_slot P W s 0 (omega arith) has.1 refl in inr (d, left)
    ]

    pub first_descriptor : SameDescriptors P W A
    first_descriptor j f lt small = stays (GivesUp P W) W A first (descriptor_word_of P j f) (λ v gives. gives_descriptor P W j f lt small gives refl)

    pub first_inode : (i f : ℕ) → 1 ≤ i → i ≤ inodes_of P → f < 16 → word A (inode_word_of i f) ≡ word W (inode_word_of i f)
    first_inode i f least most small = stays (GivesUp P W) W A first (inode_word_of i f) (λ v gives. gives_inode P W i f least most small gives refl)

    pub first_held : (s : ℕ) → IsHeld P W s → IsHeld P A s
    first_held = still_held P W A first_descriptor

    pub first_unheld : (s : ℕ) → IsHeld P A s → IsHeld P W s
    first_unheld = still_held P A W (turned P W A first_descriptor)

    -- what the slot points at that still points was not left, or has no number
    zero_target : (d t : ℕ) → IsHeld P W d → slot_pointer P W d ≡ t + 1 → slot_inode P A d ≡ slot_inode P A t → slot_inode P A t ≡ 0
    zero_target d t held at same = elim (cases_eq (slot_inode P A t) 0) [
      | inl none ↦ none
      | inr some ↦ elim (first_number t) [
        | inr has ↦ absurd (some (first_left t has.0 has.1))
        | inl target ↦ elim (first_number d) [
          | inr has ↦ sym same ∙ first_left d has.0 has.1
          | inl own ↦ first_left t d (record { held = held; points = at; same = sym own ∙ same ∙ target; names = λ none. some (target ∙ none) })
        ]
      ]
    ]

    -- ---- what is live

    pub first_live_number : (s : ℕ) → IsLive P W s → slot_inode P A s ≡ slot_inode P W s
    first_live_number s live = elim (first_number s) [
      | inl same ↦ same
      | inr has ↦ absurd (not_left s has.0 live has.1)
    ]

    -- a slot with a number was not left
    pub first_stays : (s d : ℕ) → slot_inode P A s ≢ 0 → IsHeld P W d → slot_pointer P W d ≡ s + 1 → slot_inode P W d ≢ slot_inode P W s
    first_stays s d some held at same = elim (cases_eq (slot_inode P W s) 0) [
      | inr names ↦ some (first_left s d (record { held = held; points = at; same = same; names = names }))
      | inl none ↦ elim (first_number s) [ inl own ↦ some (own ∙ none) | inr has ↦ has.1.names none ]
    ]

    pub first_named : (s : ℕ) → slot_inode P A s ≢ 0 → slot_inode P W s ≢ 0
    first_named s some none = elim (first_number s) [ inl own ↦ some (own ∙ none) | inr has ↦ has.1.names none ]

    pub first_live : (s : ℕ) → IsLive P W s → IsLive P A s
    first_live s live = record {
      held = first_held s live.held;
      names = λ none. live.names (sym (first_live_number s live) ∙ none);
      stays = λ d held at same. live.names (sym (first_live_number s live) ∙ zero_target d s (first_unheld d held) (sym (first_pointer d) ∙ at) same);
    }

    pub first_alive : (s : ℕ) → IsLive P A s → IsLive P W s
    first_alive s live = record {
      held = first_unheld s live.held;
      names = first_named s live.names;
      stays = λ d held at. first_stays s d live.names held at;
    }

    module _ (B : List ℕ) (second : IsAfter (Unpoints P W) A B) where
      can : (d : ℕ) → Points d → CanPoint P A d 0
      can d points = record {
        coherent = first_means.0.coherent;
        held = first_held d points.held;
        old = λ t at same. zero_target d t points.held (sym (first_pointer d) ∙ at) same;
        new = λ t none. absurd (omega (arith, none));
        alone = λ t held differ. first_pointer t ∙ zero_else d points t (first_unheld t held) differ;
        target = λ none. absurd (none refl);
      }
        where
          zero_else : (d : ℕ) → Points d → (t : ℕ) → IsHeld P W t → t ≢ d → slot_pointer P W t ≡ 0
          zero_else d points t held differ = elim (cases_eq (slot_pointer P W t) 0) [
            | inl none ↦ none
            | inr some ↦ absurd (differ (one_points t d (record { held = held; some = some }) points))
          ]

      size : length A ≡ length W
      size = first.size

      zero : (d : ℕ) → slot_pointer P W d ≡ 0 → word A (slot_word_of P d 1) ≡ 0
      unfolding slot_pointer
      zero d none = first_pointer d ∙ none

      pub second_means : SameMeaning P W B × ((M : List ℕ) → IsMix A B M → SameMeaning P W M)
      second_means = elim (any_below Points (slots_of P) points_or_not) [
        | inr none ↦ still_means P W A B first_means.0 (unchanged (Unpoints P W) A B second (λ a v unpoints. never none unpoints))
        | inl has ↦
            let (d, points) = has in
            step_means P W A B first_means.0 (slot_word_of P d 1) 0 (fits d points) (pointer_law P A d 0 (can d points))
            (one_word (Unpoints P W) A B second (slot_word_of P d 1) 0 (fits d points) (Unpoints.pointer d points.held) (λ a w unpoints differ. alone d points unpoints differ))
      ]
        where
          fits : (d : ℕ) → Points d → slot_word_of P d 1 < length A
          fits d points = let below = within d 1 points.held.in_range (omega arith) in omega (arith, below, size)

          never : {a v : ℕ} → ((d : ℕ) → d < slots_of P → ¬ Points d) → Unpoints P W a v → word A a ≡ v
          never none (Unpoints.pointer d held) = elim (cases_eq (slot_pointer P W d) 0) [
            | inl e ↦ zero d e
            | inr some ↦ absurd (none d held.in_range (record { held = held; some = some }))
          ]

          alone : {a w : ℕ} (d : ℕ) → Points d → Unpoints P W a w → a ≢ slot_word_of P d 1 → word A a ≡ w
          alone d points (Unpoints.pointer e held) differ = elim (cases_eq (slot_pointer P W e) 0) [
            | inl none ↦ zero e none
            | inr some ↦ absurd (differ (ap (λ z. slot_word_of P z 1) (one_points e d (record { held = held; some = some }) points)))
          ]

      -- ---- the fields after both

      pub second_pointer : (s : ℕ) → IsHeld P W s → slot_pointer P B s ≡ 0
      unfolding slot_pointer
      second_pointer s held = second.new (slot_word_of P s 1) 0 (Unpoints.pointer s held)

      pub second_inode : (s : ℕ) → slot_inode P B s ≡ slot_inode P A s
      unfolding slot_inode
      second_inode s = stays (Unpoints P W) A B second (slot_word_of P s 0) (λ v unpoints. let (one, held) = unpoints_slot P W s 0 (omega arith) unpoints refl in omega (arith, one))

      pub second_descriptor : SameDescriptors P W B
      second_descriptor j f lt small = stays (Unpoints P W) A B second (descriptor_word_of P j f) (λ v unpoints. unpoints_descriptor P W j f lt small unpoints refl) ∙ first_descriptor j f lt small

      pub second_inodes : (i f : ℕ) → 1 ≤ i → i ≤ inodes_of P → f < 16 → word B (inode_word_of i f) ≡ word W (inode_word_of i f)
      second_inodes i f least most small =
          stays (Unpoints P W) A B second (inode_word_of i f) (λ v unpoints. unpoints_inode P W i f least most small unpoints refl) ∙ first_inode i f least most small

      pub second_held : (s : ℕ) → IsHeld P W s → IsHeld P B s
      second_held = still_held P W B second_descriptor

      pub second_unheld : (s : ℕ) → IsHeld P B s → IsHeld P W s
      second_unheld = still_held P B W (turned P W B second_descriptor)

      pub second_live_number : (s : ℕ) → IsLive P W s → slot_inode P B s ≡ slot_inode P W s
      second_live_number s live = second_inode s ∙ first_live_number s live

      -- nothing points, so a held slot with a number is live
      pub second_numbered : (s : ℕ) → IsHeld P W s → slot_inode P B s ≢ 0 → IsLive P W s
      second_numbered s held some =
          let some' : slot_inode P A s ≢ 0 = λ none. some (second_inode s ∙ none) in
          record { held = held; names = first_named s some'; stays = λ d other at. first_stays s d some' other at }

      pub second_live : (s : ℕ) → IsLive P W s → IsLive P B s
      second_live s live = record {
        held = second_held s live.held;
        names = λ none. live.names (sym (second_live_number s live) ∙ none);
        stays = λ d held at same. let none = second_pointer d (second_unheld d held) in omega (arith, none, at);
      }

      pub second_alive : (s : ℕ) → IsLive P B s → IsLive P W s
      second_alive s live = second_numbered s (second_unheld s live.held) live.names
