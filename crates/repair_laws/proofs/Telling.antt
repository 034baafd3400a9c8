-- Which words each step changes can be told.
use Rattle.std.proofs.Common.{◌≡◌, inl, inr, ℕ, ◌+◌, ◌*◌, ◌<◌, ◌≤◌, List, length, refl, sym, subst, ◌∙◌, arith}
use Rattle.std.proofs.lemmas.Bool.{cases_eq, cases_lt}
use Rattle.layout.specs.Geometry.{IsVolumeSize, inodes_of, data_pages_of, slots_of, page_of_slot, inode_word_of, descriptor_word_of, slot_word_of}
use Rattle.layout.specs.Fields.{inode_words, descriptor_words, inode_kind, page_owner}
use Rattle.layout.proofs.GeometryLaws.{inode_word_within, descriptor_word_within, slot_word_within}
use Rattle.layout.proofs.Widths.{in_inode, in_descriptor}
use Rattle.image_reading.specs.Reading.{IsHeld, Reached, IsLinkCount}
use Rattle.image_reading.specs.Repairs.{IsKeptDirectoryPage, WasLeft}
use Rattle.image_reading.specs.Soundness.{Rule, IsCoherent}
use Rattle.image_counts.proofs.Decided.{IsDecided, any_below, held_or_not, live_or_not, room_or_not}
use Rattle.image_counts.proofs.Links.{links_counted, only_links}
use Rattle.image_counts.proofs.Paths.{in_range}
use Rattle.image_laws.proofs.Trees.{tree_law}
use Rattle.repair_laws.specs.Mended.{IsDead, IsUnkept, IsUnreached, GivesUp, Unpoints, Clears, Frees, IsAfter, IsRepair}
use Rattle.repair_laws.proofs.Apart.{clears_descriptor, clears_inode, clears_slot}
use Rattle.repair_laws.proofs.Kept.{told_reached, kept_or_not, kept_held}
use Rattle.repair_laws.proofs.Making.{IsTold, make}
use Rattle.repair_laws.proofs.Pointing.{some_left, one_left, left_held}

equal_told : (a b : ℕ) → IsDecided (a ≡ b)
equal_told a b = elim (cases_eq a b) [ inl e ↦ inl e | inr ne ↦ inr ne ]

less_told : (a b : ℕ) → IsDecided (a < b)
less_told a b = elim (cases_lt a b) [ inl lt ↦ inl lt | inr ge ↦ inr (λ lt. omega (arith, lt, ge)) ]

-- word a is one of the fields from low to high
record IsField (address : ℕ → ℕ) (low high a f : ℕ) : Type 0 where
  above : low ≤ f
  below : f < high
  at : a ≡ address f

field_told : (address : ℕ → ℕ) (low high a f : ℕ) → IsDecided (IsField address low high a f)
field_told address low high a f = elim (less_told f low) [
  | inl under ↦ inr (λ field. let above = field.above in omega (arith, under, above))
  | inr above ↦ elim (less_told f high) [
    | inr over ↦ inr (λ field. over field.below)
    | inl below ↦ elim (equal_told a (address f)) [
      | inr other ↦ inr (λ field. other field.at)
      | inl at ↦ inl (record { above = omega (arith, above); below = below; at = at })
    ]
  ]
]

some_field : (address : ℕ → ℕ) (low high a : ℕ) → IsDecided ((f : ℕ) × IsField address low high a f)
some_field address low high a = elim (any_below (IsField address low high a) high (field_told address low high a)) [
  | inl has ↦ inl has
  | inr none ↦ inr (λ has. none has.0 has.1.below has.1)
]

both_told : (Q R : Type 0) → IsDecided Q → IsDecided R → IsDecided (Q × R)
both_told Q R (inl q) (inl r) = inl (q, r)
both_told Q R (inl q) (inr none) = inr (λ both. none both.1)
both_told Q R (inr none) r = inr (λ both. none both.0)

module _ (P : ℕ) (W : List ℕ) (coherent : IsCoherent P W) where
  size : IsVolumeSize P
  size = (coherent Rule.head 0).size refl

  whole : length W ≡ 512 * P
  whole = (coherent Rule.head 0).whole refl

  -- ---- the first step

  gives_told : (a : ℕ) → IsTold (GivesUp P W) a
  gives_told a = elim (some_left P W coherent) [
    | inr none ↦ inr (λ has. never none has.1)
    | inl (s, d, left) ↦ elim (equal_told a (slot_word_of P s 0)) [
      | inl e ↦ inl (0, subst (λ z. GivesUp P W z 0) (sym e) (GivesUp.number s d left))
      | inr ne ↦ inr (λ has. other s d left ne has.1)
    ]
  ]
    where
      never : {a v : ℕ} → ((s d : ℕ) → ¬ WasLeft P W s d) → GivesUp P W a v → ⊥
      never none (GivesUp.number s d left) = none s d left

      other : {a v : ℕ} (s d : ℕ) → WasLeft P W s d → ¬ (a ≡ slot_word_of P s 0) → GivesUp P W a v → ⊥
      other s d left ne (GivesUp.number t e also) = ne (subst (λ z. slot_word_of P z 0 ≡ slot_word_of P s 0) (one_left P W coherent s t d e left also) refl)

  pub gives_zero : {a v : ℕ} → GivesUp P W a v → v ≡ 0
  gives_zero (GivesUp.number s d left) = refl

  gives_within : {a v : ℕ} → GivesUp P W a v → a < 512 * P
  gives_within (GivesUp.number s d left) = slot_word_within P s 0 (left_held P W coherent s d left).in_range (omega arith)

  -- ---- the second

  unpoints_told : (a : ℕ) → IsTold (Unpoints P W) a
  unpoints_told a = elim (any_below (λ d. IsHeld P W d × (a ≡ slot_word_of P d 1)) (slots_of P) (λ d. both_told _ _ (held_or_not P W d) (equal_told a (slot_word_of P d 1)))) [
    | inl (d, (held, e)) ↦ inl (0, subst (λ z. Unpoints P W z 0) (sym e) (Unpoints.pointer d held))
    | inr none ↦ inr (λ has. other none has.1)
  ]
    where
      other : {a v : ℕ} → ((d : ℕ) → d < slots_of P → ¬ (IsHeld P W d × (a ≡ slot_word_of P d 1))) → Unpoints P W a v → ⊥
      other none (Unpoints.pointer d held) = none d held.in_range (held, refl)

  pub unpoints_zero : {a v : ℕ} → Unpoints P W a v → v ≡ 0
  unpoints_zero (Unpoints.pointer d held) = refl

  unpoints_within : {a v : ℕ} → Unpoints P W a v → a < 512 * P
  unpoints_within (Unpoints.pointer d held) = slot_word_within P d 1 held.in_range (omega arith)

  -- ---- what is dead, unkept and unreached

  unkept_told : (j : ℕ) → IsDecided (IsUnkept P W j)
  unkept_told j = elim (less_told j (data_pages_of P)) [
    | inr out ↦ inr (λ unkept. out unkept.in_range)
    | inl lt ↦ elim (kept_or_not P W coherent j lt) [ inl kept ↦ inr (λ unkept. unkept.free kept) | inr free ↦ inl (record { in_range = lt; free = free }) ]
  ]

  directory_page_told : (j : ℕ) → IsDecided (IsKeptDirectoryPage P W j)
  directory_page_told j = elim (told_reached P W coherent (page_owner P W j)) [
    | inr unreached ↦ inr (λ room. unreached room.reached)
    | inl reached ↦ elim (equal_told (inode_kind W (page_owner P W j)) 2) [
      | inr other ↦ inr (λ room. other room.directory)
      | inl directory ↦ room_or_not P W (page_owner P W j) j reached directory
    ]
  ]

  dead_told : (s : ℕ) → IsDecided (IsDead P W s)
  dead_told s = elim (directory_page_told (page_of_slot s)) [
    | inr other ↦ inr (λ dead. other dead.page)
    | inl page ↦ elim (live_or_not P W s) [ inl live ↦ inr (λ dead. dead.dead live) | inr none ↦ inl (record { page = page; dead = none }) ]
  ]

  dead_below : (s : ℕ) → IsDead P W s → s < slots_of P
  dead_below s dead = (kept_held P W coherent s dead.page).in_range

  unreached_told : (i : ℕ) → IsDecided (IsUnreached P W i)
  unreached_told i = elim (less_told i 1) [
    | inl none ↦ inr (λ unreached. let least = unreached.least in omega (arith, none, least))
    | inr least ↦ elim (less_told (inodes_of P) i) [
      | inl past ↦ inr (λ unreached. let most = unreached.most in omega (arith, past, most))
      | inr most ↦ elim (told_reached P W coherent i) [
        | inl reached ↦ inr (λ unreached. unreached.unreached reached)
        | inr none ↦ inl (record { least = omega (arith, least); most = omega (arith, most); unreached = none })
      ]
    ]
  ]

  pub links_of : (i : ℕ) → Reached P W i → (n : ℕ) × IsLinkCount P W i n
  links_of i reached = let (T, reads, form) = tree_law P W coherent in (_, links_counted P W T coherent reads i reached)

  pub one_count : (i m n : ℕ) → Reached P W i → IsLinkCount P W i m → IsLinkCount P W i n → n ≡ m
  one_count i m n reached a b = let (T, reads, form) = tree_law P W coherent in
      sym (only_links P W T coherent reads i n reached b) ∙ only_links P W T coherent reads i m reached a

  -- ---- the third step

  owner_told : (a : ℕ) → IsDecided ((j : ℕ) × (IsUnkept P W j × (a ≡ descriptor_word_of P j 0)))
  owner_told a = elim (any_below (λ j. IsUnkept P W j × (a ≡ descriptor_word_of P j 0)) (data_pages_of P) (λ j. both_told _ _ (unkept_told j) (equal_told a (descriptor_word_of P j 0)))) [
    | inl has ↦ inl has
    | inr none ↦ inr (λ (j, (unkept, e)). none j unkept.in_range (unkept, e))
  ]

  abbrev IsSlotField : ℕ → ℕ → Type 0
  IsSlotField a s = IsDead P W s × ((f : ℕ) × IsField (slot_word_of P s) 1 16 a f)

  slot_told : (a : ℕ) → IsDecided ((s : ℕ) × IsSlotField a s)
  slot_told a = elim (any_below (IsSlotField a) (slots_of P) (λ s. both_told _ _ (dead_told s) (some_field (slot_word_of P s) 1 16 a))) [
    | inl has ↦ inl has
    | inr none ↦ inr (λ has. none has.0 (dead_below has.0 has.1.0) has.1)
  ]

  links_told : (a : ℕ) → IsDecided ((i : ℕ) × (Reached P W i × (a ≡ inode_word_of i 1)))
  links_told a = elim (any_below (λ i. Reached P W i × (a ≡ inode_word_of i 1)) (inodes_of P + 1) (λ i. both_told _ _ (told_reached P W coherent i) (equal_told a (inode_word_of i 1)))) [
    | inl has ↦ inl has
    | inr none ↦ inr (λ (i, (reached, e)). none i (let most = (in_range P W coherent i reached).1 in omega (arith, most)) (reached, e))
  ]

  clears_told : (a : ℕ) → IsTold (Clears P W) a
  clears_told a = elim (owner_told a) [
    | inl (j, (unkept, e)) ↦ inl (0, subst (λ z. Clears P W z 0) (sym e) (Clears.owner j unkept))
    | inr no_owner ↦ elim (slot_told a) [
      | inl (s, (dead, (f, field))) ↦ inl (0, subst (λ z. Clears P W z 0) (sym field.at) (Clears.slot s f dead field.above field.below))
      | inr no_slot ↦ elim (links_told a) [
        | inl (i, (reached, e)) ↦ let (n, count) = links_of i reached in inl (n, subst (λ z. Clears P W z n) (sym e) (Clears.links i n reached count))
        | inr no_links ↦ inr (λ has. other no_owner no_slot no_links has.1)
      ]
    ]
  ]
    where
      other : {a v : ℕ} → ¬ ((j : ℕ) × (IsUnkept P W j × (a ≡ descriptor_word_of P j 0))) → ¬ ((s : ℕ) × IsSlotField a s) → ¬ ((i : ℕ) × (Reached P W i × (a ≡ inode_word_of i 1))) → Clears P W a v → ⊥
      other no_owner no_slot no_links (Clears.owner j unkept) = no_owner (j, (unkept, refl))
      other no_owner no_slot no_links (Clears.slot s f dead low small) = no_slot (s, (dead, (f, record { above = low; below = small; at = refl })))
      other no_owner no_slot no_links (Clears.links i n reached count) = no_links (i, (reached, refl))

  pub clears_one : {a v : ℕ} (w : ℕ) → Clears P W a v → Clears P W a w → w ≡ v
  clears_one w (Clears.owner j unkept) b = let (zero, other, none) = clears_descriptor P W j 0 coherent unkept.in_range (omega arith) b refl in none
  clears_one w (Clears.slot s f dead low small) b = let (some, other, none) = clears_slot P W s f coherent small b refl in none
  clears_one w (Clears.links i n reached count) b =
      let (least, most) = in_range P W coherent i reached in
      let (one, there, other) = clears_inode P W i 1 least most coherent (omega arith) b refl in one_count i n w reached count other

  clears_within : {a v : ℕ} → Clears P W a v → a < 512 * P
  clears_within (Clears.owner j unkept) = descriptor_word_within P j 0 size unkept.in_range (omega arith)
  clears_within (Clears.slot s f dead low small) = slot_word_within P s f (dead_below s dead) small
  clears_within (Clears.links i n reached count) = let (least, most) = in_range P W coherent i reached in inode_word_within P i 1 size least most (omega arith)

  -- ---- the fourth

  abbrev IsDescriptorField : ℕ → ℕ → Type 0
  IsDescriptorField a j = IsUnkept P W j × ((f : ℕ) × IsField (descriptor_word_of P j) 1 (descriptor_words W) a f)

  abbrev IsInodeField : ℕ → ℕ → Type 0
  IsInodeField a i = IsUnreached P W i × ((f : ℕ) × IsField (inode_word_of i) 0 (inode_words W) a f)

  descriptor_told : (a : ℕ) → IsDecided ((j : ℕ) × IsDescriptorField a j)
  descriptor_told a = elim (any_below (IsDescriptorField a) (data_pages_of P) (λ j. both_told _ _ (unkept_told j) (some_field (descriptor_word_of P j) 1 (descriptor_words W) a))) [
    | inl has ↦ inl has
    | inr none ↦ inr (λ has. none has.0 has.1.0.in_range has.1)
  ]

  inode_told : (a : ℕ) → IsDecided ((i : ℕ) × IsInodeField a i)
  inode_told a = elim (any_below (IsInodeField a) (inodes_of P + 1) (λ i. both_told _ _ (unreached_told i) (some_field (inode_word_of i) 0 (inode_words W) a))) [
    | inl has ↦ inl has
    | inr none ↦ inr (λ has. none has.0 (let most = has.1.0.most in omega (arith, most)) has.1)
  ]

  frees_told : (a : ℕ) → IsTold (Frees P W) a
  frees_told a = elim (descriptor_told a) [
    | inl (j, (unkept, (f, field))) ↦ inl (0, subst (λ z. Frees P W z 0) (sym field.at) (Frees.descriptor j f unkept field.above field.below))
    | inr no_descriptor ↦ elim (inode_told a) [
      | inl (i, (unreached, (f, field))) ↦ inl (0, subst (λ z. Frees P W z 0) (sym field.at) (Frees.inode i f unreached field.below))
      | inr no_inode ↦ inr (λ has. other no_descriptor no_inode has.1)
    ]
  ]
    where
      other : {a v : ℕ} → ¬ ((j : ℕ) × IsDescriptorField a j) → ¬ ((i : ℕ) × IsInodeField a i) → Frees P W a v → ⊥
      other no_descriptor no_inode (Frees.descriptor j f unkept low small) = no_descriptor (j, (unkept, (f, record { above = low; below = small; at = refl })))
      other no_descriptor no_inode (Frees.inode i f unreached small) = no_inode (i, (unreached, (f, record { above = omega arith; below = small; at = refl })))

  pub frees_zero : {a v : ℕ} → Frees P W a v → v ≡ 0
  frees_zero (Frees.descriptor j f unkept low small) = refl
  frees_zero (Frees.inode i f unreached small) = refl

  frees_within : {a v : ℕ} → Frees P W a v → a < 512 * P
  frees_within (Frees.descriptor j f unkept low small) = descriptor_word_within P j f size unkept.in_range (in_descriptor W f small)
  frees_within (Frees.inode i f unreached small) = inode_word_within P i f size unreached.least unreached.most (in_inode W f small)

  -- ---- so the chain can be made

  -- the list after a step is as long as the first
  step : (becomes : ℕ → ℕ → Type 0) → ((a : ℕ) → IsTold becomes a) → ((a v w : ℕ) → becomes a v → becomes a w → w ≡ v) → ((a v : ℕ) → becomes a v → a < 512 * P)
      → (I : List ℕ) → length I ≡ length W → (J : List ℕ) × IsAfter becomes I J × (length J ≡ length W)
  step becomes told one within I same =
      let (J, after) = make becomes I told one (λ a v h. let below = within a v h in omega (arith, same, below, whole)) in (J, after, after.size ∙ same)

  pub some_repair : (A : List ℕ) × (B : List ℕ) × (C : List ℕ) × (K : List ℕ) × IsRepair P W A B C K
  some_repair =
      let (A, first, a) = step (GivesUp P W) gives_told (λ a v w g h. gives_zero h ∙ sym (gives_zero g)) (λ a v h. gives_within h) W refl in
      let (B, second, b) = step (Unpoints P W) unpoints_told (λ a v w g h. unpoints_zero h ∙ sym (unpoints_zero g)) (λ a v h. unpoints_within h) A a in
      let (C, third, c) = step (Clears P W) clears_told (λ a v w g h. clears_one w g h) (λ a v h. clears_within h) B b in
      let (K, fourth, k) = step (Frees P W) frees_told (λ a v w g h. frees_zero h ∙ sym (frees_zero g)) (λ a v h. frees_within h) C c in
      (A, B, C, K, record { first = first; second = second; third = third; fourth = fourth })
