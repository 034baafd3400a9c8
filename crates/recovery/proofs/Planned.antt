-- What a plan's steps make of the words is what recovery's steps make of them.
use Rattle.std.proofs.Common.{◌≡◌, ◌⊎◌, inl, inr, ℕ, ◌-◌, ◌<◌, ◌≤◌, List, length, slice_index, refl, sym, ◌∙◌, subst, arith}
use Rattle.std.specs.Prelude.{Option, Some, None}
use Rattle.std.proofs.lemmas.Bool.{cases_eq}
use Rattle.layout.specs.Fields.{word, inode_words, descriptor_words, page_owner, inode_links, slot_pointer}
use Rattle.layout.specs.Geometry.{inodes_of, data_pages_of, inode_word_of, descriptor_word_of, slot_word_of}
use Rattle.layout.proofs.Widths.{in_inode, in_descriptor}
use Rattle.image_reading.specs.Reading.{Reached, IsLinkCount}
use Rattle.image_reading.specs.Soundness.{IsCoherent}
use Rattle.image_counts.proofs.Paths.{in_range}
use Rattle.image_counts.proofs.Links.{only_links}
use Rattle.image_laws.proofs.Addresses.{descriptor-ne_inode, inode-ne_slot, inode_word-one}
use Rattle.image_laws.proofs.Trees.{tree_law}
use Rattle.repair_laws.specs.Mended.{IsUnreached, GivesUp, Unpoints, Clears, Frees, IsAfter}
use Rattle.repair_laws.proofs.After.{stays}
use Rattle.repair_laws.proofs.Apart.{gives_descriptor, gives_inode, gives_slot, unpoints_descriptor, unpoints_inode, unpoints_slot, clears_descriptor, clears_inode, clears_slot}
use Rattle.repair_laws.proofs.Kept.{kept_held}
use Rattle.recovery.specs.declared.part.Part.{Part}
use Rattle.recovery.specs.declared.part.Part.TheVariants.{Number, Pointer, Owner, Name, Links, Descriptor, Inode}
use Rattle.recovery.specs.declared.repairs.Repairs.{Repairs}
use Rattle.recovery.specs.Changes.{IsOne, IsInPart, IsCleared}
use Rattle.recovery.specs.Repairs.{IsClearedBy, IsFreedBy}
use Rattle.recovery.specs.Plans.{IsPlanOf}

-- Where a plan leaves out only words that already are what they become, it makes the same words.
after_plan : {planned becomes : ℕ → ℕ → Type 0} {I J : List ℕ} → ((a v : ℕ) → planned a v → becomes a v)
    → ((a v : ℕ) → becomes a v → planned a v ⊎ ((word I a ≡ v) × ((w : ℕ) → becomes a w → w ≡ v))) → IsAfter planned I J → IsAfter becomes I J
after_plan {planned} {becomes} {I} {J} to from after = record {
  size = after.size;
  new = λ a v is. elim (from a v is) [
    | inl made ↦ after.new a v made
    | inr (was, one) ↦ elim (after.words a) [
      | inl same ↦ same ∙ was
      | inr (w, made) ↦ after.new a w made ∙ one w (to a w made)
    ]
  ];
  words = λ a. elim (after.words a) [ inl same ↦ inl same | inr (v, made) ↦ inr (v, to a v made) ];
}

-- a word of one address is that word
the_word : {a w : ℕ} → w ≤ a → a ≤ w → a ≡ w
the_word low high = omega (arith, low, high)

gives_zero : {P : ℕ} {W : List ℕ} {a v : ℕ} → GivesUp P W a v → v ≡ 0
gives_zero (GivesUp.number s d left) = refl

unpoints_zero : {P : ℕ} {W : List ℕ} {a v : ℕ} → Unpoints P W a v → v ≡ 0
unpoints_zero (Unpoints.pointer d held) = refl

frees_zero : {P : ℕ} {W : List ℕ} {a v : ℕ} → Frees P W a v → v ≡ 0
frees_zero (Frees.descriptor j f unkept low small) = refl
frees_zero (Frees.inode i f unreached small) = refl

one_to : {a v : ℕ} (P : ℕ) (part : Part) (slot : Option ℕ) → IsOne P part slot a v → (s : ℕ) × (slot ≡ Some s) × IsInPart P part s 0 a v
one_to P part None none = absurd none
one_to P part (Some s) is = (s, refl, is)

one_from : {a v : ℕ} (P : ℕ) (part : Part) (slot : Option ℕ) (s : ℕ) → slot ≡ Some s → IsInPart P part s 0 a v → IsOne P part slot a v
one_from {a} {v} P part slot s is has = subst (λ (o : Option ℕ). IsOne P part o a v) (sym is) has

module _ (r : Repairs) (W : List ℕ) (coherent : IsCoherent r.geometry.pages W) (plan : IsPlanOf W r) where
  abbrev P : ℕ
  P = r.geometry.pages

  -- ---- the first two steps

  pub first_planned : {A : List ℕ} → IsAfter (IsOne r.geometry.pages Number r.left) W A → IsAfter (GivesUp r.geometry.pages W) W A
  first_planned = after_plan to from
    where
      to : (a v : ℕ) → IsOne P Number r.left a v → GivesUp P W a v
      to a v is =
          let (s, here, has) = one_to P Number r.left is in
          let (d, left) = (plan.left s).0 here in
          subst (λ z. GivesUp P W a z) (sym has.is) (subst (λ z. GivesUp P W z 0) (sym (the_word has.low has.high)) (GivesUp.number s d left))

      from : (a v : ℕ) → GivesUp P W a v → IsOne P Number r.left a v ⊎ ((word W a ≡ v) × ((w : ℕ) → GivesUp P W a w → w ≡ v))
      from a v (GivesUp.number s d left) = inl (one_from P Number r.left s ((plan.left s).1 (d, left)) (record { low = omega arith; high = omega arith; is = refl }))

  -- the first changes no rename pointer
  same_pointer : {A : List ℕ} (s f : ℕ) → 1 ≤ f → f < 16 → IsAfter (GivesUp P W) W A → word A (slot_word_of P s f) ≡ word W (slot_word_of P s f)
  same_pointer {A} s f low small first = stays (GivesUp P W) W A first (slot_word_of P s f) (λ v is. let (zero, d, left) = gives_slot P W s f small is refl in omega (arith, zero, low))

  pub second_planned : {A B : List ℕ} → IsAfter (GivesUp r.geometry.pages W) W A → IsAfter (IsOne r.geometry.pages Pointer r.pointer) A B → IsAfter (Unpoints r.geometry.pages W) A B
  unfolding slot_pointer
  second_planned {A} {B} first = after_plan to from
    where
      to : (a v : ℕ) → IsOne P Pointer r.pointer a v → Unpoints P W a v
      to a v is =
          let (d, here, has) = one_to P Pointer r.pointer is in
          let points = (plan.pointer d).0 here in
          subst (λ z. Unpoints P W a z) (sym has.is) (subst (λ z. Unpoints P W z 0) (sym (the_word has.low has.high)) (Unpoints.pointer d points.held))

      from : (a v : ℕ) → Unpoints P W a v → IsOne P Pointer r.pointer a v ⊎ ((word A a ≡ v) × ((w : ℕ) → Unpoints P W a w → w ≡ v))
      from a v (Unpoints.pointer d held) = elim (cases_eq (slot_pointer P W d) 0) [
        | inl zero ↦ inr (same_pointer d 1 (omega arith) (omega arith) first ∙ zero, λ w is. unpoints_zero is)
        | inr some ↦ inl (one_from P Pointer r.pointer d ((plan.pointer d).1 (record { held = held; nonzero = some })) (record { low = omega arith; high = omega arith; is = refl }))
      ]

  -- ---- the third

  -- the first two change no descriptor and no inode, and of slots numbers and rename pointers alone
  module _ {A B : List ℕ} (first : IsAfter (GivesUp P W) W A) (second : IsAfter (Unpoints P W) A B) where
    same_descriptor : (j f : ℕ) → j < data_pages_of P → f < 8 → word B (descriptor_word_of P j f) ≡ word W (descriptor_word_of P j f)
    same_descriptor j f lt small =
        stays (Unpoints P W) A B second (descriptor_word_of P j f) (λ v is. unpoints_descriptor P W j f lt small is refl)
        ∙ stays (GivesUp P W) W A first (descriptor_word_of P j f) (λ v is. gives_descriptor P W j f lt small is refl)

    same_inode : (i f : ℕ) → 1 ≤ i → i ≤ inodes_of P → f < 16 → word B (inode_word_of i f) ≡ word W (inode_word_of i f)
    same_inode i f least most small =
        stays (Unpoints P W) A B second (inode_word_of i f) (λ v is. unpoints_inode P W i f least most small is refl)
        ∙ stays (GivesUp P W) W A first (inode_word_of i f) (λ v is. gives_inode P W i f least most small is refl)

    same_name : (s f : ℕ) → 2 ≤ f → f < 16 → word B (slot_word_of P s f) ≡ word W (slot_word_of P s f)
    same_name s f low small =
        stays (Unpoints P W) A B second (slot_word_of P s f) (λ v is. let (one, held) = unpoints_slot P W s f small is refl in omega (arith, one, low))
        ∙ same_pointer s f (omega (arith, low)) small first

    one_count : (i m n : ℕ) → Reached P W i → IsLinkCount P W i m → IsLinkCount P W i n → n ≡ m
    one_count i m n reached one two = let (T, reads, form) = tree_law P W coherent in
        sym (only_links P W T coherent reads i n reached two) ∙ only_links P W T coherent reads i m reached one

    one_clears : (a v : ℕ) → Clears P W a v → (w : ℕ) → Clears P W a w → w ≡ v
    one_clears a v (Clears.owner j unkept) w two = let (zero, other, none) = clears_descriptor P W j 0 coherent unkept.in_range (omega arith) two refl in none
    one_clears a v (Clears.slot s f dead low small) w two = let (some, other, none) = clears_slot P W s f coherent small two refl in none
    one_clears a v (Clears.links i n reached count) w two =
        let (least, most) = in_range P W coherent i reached in
        let (one, also, other) = clears_inode P W i 1 least most coherent (omega arith) two refl in one_count i n w reached count other

    -- a slot's word by its place
    slot_field : (s a : ℕ) → slot_word_of P s 1 ≤ a → a ≤ slot_word_of P s 15 → (f : ℕ) × (1 ≤ f) × (f < 16) × (a ≡ slot_word_of P s f)
    unfolding slot_word_of
    slot_field s a low high = let f = a - slot_word_of P s 0 in (f, omega (arith, low), omega (arith, high), omega (arith, low))

    third_to : (a v : ℕ) → IsClearedBy r a v → Clears P W a v
    third_to a v (inl (inl is)) =
        let has = plan.owners.each is.place is.before in
        let part = is.is in
        subst (λ z. Clears P W a z) (sym part.is) (subst (λ z. Clears P W z 0) (sym (the_word part.low part.high)) (Clears.owner (slice_index r.owners.items is.place) has.page))
    third_to a v (inl (inr is)) =
        let has = plan.slots.each is.place is.before in
        let part = is.is in
        let s = slice_index r.slots.items is.place in
        let (f, low, small, at) = slot_field s a part.low part.high in
        subst (λ z. Clears P W a z) (sym part.is) (subst (λ z. Clears P W z 0) (sym at) (Clears.slot s f has.slot low small))
    third_to a v (inr is) =
        let has = plan.links.each is.place is.before in
        let part = is.is in
        let i = slice_index r.links.items is.place in
        let n = slice_index r.counts.items is.place in
        subst (λ z. Clears P W a z) (sym part.is) (subst (λ z. Clears P W z n) (sym (the_word part.low part.high)) (Clears.links i n has.reached (plan.counts is.place is.before)))

    pick_slot : (s f : ℕ) → 1 ≤ f → f < 16 → (place : ℕ) × (place < length r.slots.items) × (slice_index r.slots.items place ≡ s) → IsCleared P Name r.slots.items (slot_word_of P s f) 0
    unfolding slot_word_of
    pick_slot s f low small (place, before, at) = record { place = place; before = before; is = record { low = omega (arith, at, low); high = omega (arith, at, small); is = refl } }

    third_from : (a v : ℕ) → Clears P W a v → IsClearedBy r a v ⊎ (word B a ≡ v)
    unfolding page_owner inode_links
    third_from a v (Clears.owner j unkept) = elim (cases_eq (page_owner P W j) 0) [
      | inl zero ↦ inr (same_descriptor j 0 unkept.in_range (omega arith) ∙ zero)
      | inr some ↦
          let (place, before, at) = plan.owners.all j (record { page = unkept; owned = some }) in
          inl (inl (inl (record { place = place; before = before; is = subst (λ z. IsInPart P Owner z 0 a 0) (sym at) (record { low = omega arith; high = omega arith; is = refl }) })))
    ]
    third_from a v (Clears.slot s f dead low small) = elim (cases_eq f 1) [
      | inl one ↦ inr (subst (λ z. word B (slot_word_of P s z) ≡ 0) (sym one) (second.new (slot_word_of P s 1) 0 (Unpoints.pointer s (kept_held P W coherent s dead.page))))
      | inr more ↦ elim (cases_eq (word W (slot_word_of P s f)) 0) [
        | inl zero ↦ inr (same_name s f (omega (arith, low, more)) small ∙ zero)
        | inr some ↦ inl (inl (inr (pick_slot s f low small (plan.slots.all s (record { slot = dead; nonzero = (f, omega (arith, low, more), small, some) })))))
      ]
    ]
    third_from a v (Clears.links i n reached count) = elim (cases_eq (inode_links W i) n) [
      | inl same ↦ let (least, most) = in_range P W coherent i reached in inr (same_inode i 1 least most (omega arith) ∙ same)
      | inr other ↦
          let (place, before, at) = plan.links.all i (record { reached = reached; other = λ links. other (one_count i n (inode_links W i) reached count links) }) in
          let counted : slice_index r.counts.items place ≡ n = one_count i n (slice_index r.counts.items place) reached count (subst (λ z. IsLinkCount P W z (slice_index r.counts.items place)) at (plan.counts place before)) in
          inl (inr (record { place = place; before = before; is = subst (λ z. IsInPart P Links z (slice_index r.counts.items place) a n) (sym at) (record { low = omega arith; high = omega arith; is = sym counted }) }))
    ]

    pub third_planned : {C : List ℕ} → IsAfter (IsClearedBy r) B C → IsAfter (Clears r.geometry.pages W) B C
    third_planned = after_plan third_to (λ a v is. elim (third_from a v is) [ inl made ↦ inl made | inr was ↦ inr (was, one_clears a v is) ])

    -- ---- the fourth

    module _ {C : List ℕ} (third : IsAfter (Clears P W) B C) where
      last_descriptor : (j f : ℕ) → j < data_pages_of P → 1 ≤ f → f < 8 → word C (descriptor_word_of P j f) ≡ word W (descriptor_word_of P j f)
      last_descriptor j f lt low small =
          stays (Clears P W) B C third (descriptor_word_of P j f) (λ v is. let (zero, other, none) = clears_descriptor P W j f coherent lt small is refl in omega (arith, zero, low))
          ∙ same_descriptor j f lt small

      unreached_inode : {a v : ℕ} (i f : ℕ) → IsUnreached P W i → f < 16 → Clears P W a v → a ≡ inode_word_of i f → ⊥
      unreached_inode i f unreached small (Clears.owner k unkept) e = descriptor-ne_inode P k 0 i f unreached.least unreached.most small e
      unreached_inode i f unreached small (Clears.slot s g dead low high) e = inode-ne_slot P i f s g unreached.least unreached.most small (sym e)
      unreached_inode i f unreached small (Clears.links k n reached count) e =
          let (inodes, fields) = inode_word-one k 1 i f (in_range P W coherent k reached).0 unreached.least (omega arith) small e in
          unreached.unreached (subst (λ z. Reached P W z) inodes reached)

      last_inode : (i f : ℕ) → IsUnreached P W i → f < 16 → word C (inode_word_of i f) ≡ word W (inode_word_of i f)
      last_inode i f unreached small =
          stays (Clears P W) B C third (inode_word_of i f) (λ v is. unreached_inode i f unreached small is refl)
          ∙ same_inode i f unreached.least unreached.most small

      descriptor_field : (j a : ℕ) → descriptor_word_of P j 1 ≤ a → a ≤ descriptor_word_of P j (r.descriptor_width - 1)
          → (f : ℕ) × (1 ≤ f) × (f < descriptor_words W) × (a ≡ descriptor_word_of P j f)
      unfolding descriptor_word_of
      descriptor_field j a low high =
          let f = a - descriptor_word_of P j 0 in
          (f, omega (arith, low), omega (arith, high, r.descriptor_bounds.0, plan.descriptor_width), omega (arith, low))

      inode_field : (i a : ℕ) → inode_word_of i 0 ≤ a → a ≤ inode_word_of i (r.inode_width - 1) → (f : ℕ) × (f < inode_words W) × (a ≡ inode_word_of i f)
      unfolding inode_word_of
      inode_field i a low high = let f = a - inode_word_of i 0 in (f, omega (arith, high, r.inode_bounds.0, plan.inode_width), omega (arith, low))

      fourth_to : (a v : ℕ) → IsFreedBy r a v → Frees P W a v
      fourth_to a v (inl is) =
          let has = plan.descriptors.each is.place is.before in
          let part = is.is in
          let j = slice_index r.descriptors.items is.place in
          let (f, low, small, at) = descriptor_field j a part.low part.high in
          subst (λ z. Frees P W a z) (sym part.is) (subst (λ z. Frees P W z 0) (sym at) (Frees.descriptor j f has.page low small))
      fourth_to a v (inr is) =
          let has = plan.inodes.each is.place is.before in
          let part = is.is in
          let i = slice_index r.inodes.items is.place in
          let (f, small, at) = inode_field i a part.low part.high in
          subst (λ z. Frees P W a z) (sym part.is) (subst (λ z. Frees P W z 0) (sym at) (Frees.inode i f (record { least = has.least; most = has.most; unreached = has.unreached }) small))

      pick_descriptor : (j f : ℕ) → 1 ≤ f → f < descriptor_words W → (place : ℕ) × (place < length r.descriptors.items) × (slice_index r.descriptors.items place ≡ j)
          → IsCleared P (Descriptor r.descriptor_width) r.descriptors.items (descriptor_word_of P j f) 0
      unfolding descriptor_word_of
      pick_descriptor j f low small (place, before, at) =
          record { place = place; before = before; is = record { low = omega (arith, at, low); high = omega (arith, at, small, plan.descriptor_width); is = refl } }

      pick_inode : (i f : ℕ) → f < inode_words W → (place : ℕ) × (place < length r.inodes.items) × (slice_index r.inodes.items place ≡ i)
          → IsCleared P (Inode r.inode_width) r.inodes.items (inode_word_of i f) 0
      unfolding inode_word_of
      pick_inode i f small (place, before, at) =
          record { place = place; before = before; is = record { low = omega (arith, at); high = omega (arith, at, small, plan.inode_width); is = refl } }

      fourth_from : (a v : ℕ) → Frees P W a v → IsFreedBy r a v ⊎ (word C a ≡ v)
      fourth_from a v (Frees.descriptor j f unkept low small) = elim (cases_eq (word W (descriptor_word_of P j f)) 0) [
        | inl zero ↦ inr (last_descriptor j f unkept.in_range low (in_descriptor W f small) ∙ zero)
        | inr some ↦ inl (inl (pick_descriptor j f low small (plan.descriptors.all j (record { page = unkept; nonzero = (f, low, small, some) }))))
      ]
      fourth_from a v (Frees.inode i f unreached small) = elim (cases_eq (word W (inode_word_of i f)) 0) [
        | inl zero ↦ inr (last_inode i f unreached (in_inode W f small) ∙ zero)
        | inr some ↦ inl (inr (pick_inode i f small (plan.inodes.all i (record { least = unreached.least; most = unreached.most; unreached = unreached.unreached; nonzero = (f, small, some) }))))
      ]

      pub fourth_planned : {K : List ℕ} → IsAfter (IsFreedBy r) C K → IsAfter (Frees r.geometry.pages W) C K
      fourth_planned = after_plan fourth_to (λ a v is. elim (fourth_from a v is) [ inl made ↦ inl made | inr was ↦ inr (was, λ w two. frees_zero two ∙ sym (frees_zero is)) ])
