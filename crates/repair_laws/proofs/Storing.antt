-- The stores of each step make the words what the step makes them.
use Rattle.std.proofs.Common.{◌≡◌, ◌≢◌, ◌⊎◌, inl, inr, ℕ, ◌<◌, ◌≤◌, List, refl, sym, ap, subst, ◌∙◌, arith}
use Rattle.std.proofs.lemmas.Bool.{cases_eq, cases_lt}
use Rattle.layout.specs.Geometry.{inodes_of, data_pages_of, inode_word_of, descriptor_word_of, slot_word_of}
use Rattle.layout.specs.Fields.{word, inode_words, descriptor_words, inode_links, page_owner, slot_inode, slot_pointer}
use Rattle.layout.proofs.Widths.{in_inode, in_descriptor, inode_field_read, descriptor_field_read}
use Rattle.image_reading.specs.Reading.{Reached, IsLinkCount}
use Rattle.image_reading.specs.Repairs.{IsPointer, IsLitterSlot, IsLitterPage, IsLitterInode, IsLitterCount}
use Rattle.image_reading.specs.Soundness.{IsCoherent}
use Rattle.image_reading.specs.Tidy.{IsTidied}
use Rattle.image_reading.proofs.Counts.{count_none, none_counted}
use Rattle.image_counts.proofs.Decided.{IsDecided, any_below}
use Rattle.image_counts.proofs.Paths.{in_range}
use Rattle.repair_laws.specs.Mended.{IsDead, IsUnkept, GivesUp, Unpoints, Clears, Frees, IsAfter}
use Rattle.repair_laws.specs.Stored.{StoresPointer, StoresCleared, StoresFreed, StoresNothing}
use Rattle.repair_laws.specs.Laws.{StoredLaw, StillLaw, NothingLaw}
use Rattle.repair_laws.proofs.After.{stays, unchanged}
use Rattle.repair_laws.proofs.Apart.{gives_slot, unpoints_slot, clears_descriptor, clears_inode}
use Rattle.repair_laws.proofs.Kept.{kept_held}
use Rattle.repair_laws.proofs.Pointing as pointing
use Rattle.repair_laws.proofs.Telling.{unpoints_zero, clears_one, frees_zero, links_of, one_count}

-- a step that stores some of what becomes, where the rest is there already
filled : (stores becomes : ℕ → ℕ → Type 0) (I J : List ℕ) → ((a v : ℕ) → stores a v → becomes a v) → ((a v w : ℕ) → becomes a v → becomes a w → w ≡ v)
    → ((a v : ℕ) → becomes a v → stores a v ⊎ (word I a ≡ v)) → IsAfter stores I J → IsAfter becomes I J
filled stores becomes I J among one known after = record {
  size = after.size;
  new = λ a v h. elim (known a v h) [
    | inl stored ↦ after.new a v stored
    | inr there ↦ elim (after.words a) [ inl same ↦ same ∙ there | inr has ↦ after.new a has.0 has.1 ∙ one a v has.0 h (among a has.0 has.1) ]
  ];
  words = λ a. elim (after.words a) [ inl same ↦ inl same | inr has ↦ inr (has.0, among a has.0 has.1) ];
}

still : (stores : ℕ → ℕ → Type 0) (I J : List ℕ) → IsAfter stores I J → ((a v : ℕ) → ¬ stores a v) → J ≡ I
still stores I J after none = unchanged stores I J after (λ a v h. absurd (none a v h))

pub still_law : StillLaw
still_law P W A B C K stored = record {
  first = still (GivesUp P W) W A stored.first;
  second = still (StoresPointer P W) A B stored.second;
  third = still (StoresCleared P W) B C stored.third;
  fourth = still (StoresFreed P W) C K stored.fourth;
}

-- ---- words that aren't zero

-- a word from low to high isn't zero
pub record IsSome (I : List ℕ) (address : ℕ → ℕ) (low high f : ℕ) : Type 0 where
  pub above : low ≤ f
  pub below : f < high
  pub nonzero : word I (address f) ≢ 0

is_some_told : (I : List ℕ) (address : ℕ → ℕ) (low high f : ℕ) → IsDecided (IsSome I address low high f)
is_some_told I address low high f = elim (cases_lt f low) [
  | inl under ↦ inr (λ has. let above = has.above in omega (arith, under, above))
  | inr above ↦ elim (cases_lt f high) [
    | inr over ↦ inr (λ has. let below = has.below in omega (arith, over, below))
    | inl below ↦ elim (cases_eq (word I (address f)) 0) [
      | inl none ↦ inr (λ has. has.nonzero none)
      | inr some ↦ inl (record { above = omega (arith, above); below = below; nonzero = some })
    ]
  ]
]

pub some_or_zero : (I : List ℕ) (address : ℕ → ℕ) (low high : ℕ) → ((f : ℕ) × IsSome I address low high f) ⊎ ((f : ℕ) → low ≤ f → f < high → word I (address f) ≡ 0)
some_or_zero I address low high = elim (any_below (IsSome I address low high) high (is_some_told I address low high)) [
  | inl has ↦ inl has
  | inr none ↦ inr (λ f above below. elim (cases_eq (word I (address f)) 0) [
    | inl zero ↦ zero
    | inr some ↦ absurd (none f below (record { above = above; below = below; nonzero = some }))
  ])
]

module _ (P : ℕ) (W : List ℕ) (coherent : IsCoherent P W) where
  module _ (A : List ℕ) (first : IsAfter (GivesUp P W) W A) where
    points_among : {a v : ℕ} → StoresPointer P W a v → Unpoints P W a v
    points_among (StoresPointer.pointer d pointer) = Unpoints.pointer d pointer.held

    points_known : {a v : ℕ} → Unpoints P W a v → StoresPointer P W a v ⊎ (word A a ≡ v)
    unfolding slot_pointer
    points_known (Unpoints.pointer d held) = elim (cases_eq (slot_pointer P W d) 0) [
      | inl none ↦ inr (pointing.first_pointer P W coherent A first d ∙ none)
      | inr some ↦ inl (StoresPointer.pointer d (record { held = held; nonzero = some }))
    ]

    second_step : (B : List ℕ) → IsAfter (StoresPointer P W) A B → IsAfter (Unpoints P W) A B
    second_step B = filled (StoresPointer P W) (Unpoints P W) A B (λ a v. points_among)
        (λ a v w g h. unpoints_zero P W coherent h ∙ sym (unpoints_zero P W coherent g)) (λ a v. points_known)

    module _ (B : List ℕ) (second : IsAfter (Unpoints P W) A B) where
      clears_among : {a v : ℕ} → StoresCleared P W a v → Clears P W a v
      clears_among (StoresCleared.owner j owner) = Clears.owner j owner.page
      clears_among (StoresCleared.slot s f name low small) = Clears.slot s f name.slot low small
      clears_among (StoresCleared.links i n links) = Clears.links i n links.reached links.counted

      name_word : (s f : ℕ) → 2 ≤ f → f < 16 → word B (slot_word_of P s f) ≡ word W (slot_word_of P s f)
      name_word s f low small =
          stays (Unpoints P W) A B second (slot_word_of P s f) (λ v h. let (one, held) = unpoints_slot P W s f small h refl in omega (arith, one, low))
          ∙ stays (GivesUp P W) W A first (slot_word_of P s f) (λ v h. let (zero, d, left) = gives_slot P W s f small h refl in omega (arith, zero, low))

      -- a dead slot without a name
      no_name : (s f : ℕ) → IsDead P W s → ((g : ℕ) → 2 ≤ g → g < 16 → word W (slot_word_of P s g) ≡ 0) → 1 ≤ f → f < 16 → word B (slot_word_of P s f) ≡ 0
      unfolding slot_pointer
      no_name s f dead zero low small = elim (cases_eq f 1) [
        | inl one ↦ ap (λ g. word B (slot_word_of P s g)) one ∙ pointing.second_pointer P W coherent A first B second s (kept_held P W coherent s dead.page)
        | inr more ↦ name_word s f (omega (arith, low, more)) small ∙ zero f (omega (arith, low, more)) small
      ]

      clears_known : {a v : ℕ} → Clears P W a v → StoresCleared P W a v ⊎ (word B a ≡ v)
      unfolding page_owner inode_links
      clears_known (Clears.owner j unkept) = elim (cases_eq (page_owner P W j) 0) [
        | inl none ↦ inr (pointing.second_descriptor P W coherent A first B second j 0 unkept.in_range (omega arith) ∙ none)
        | inr some ↦ inl (StoresCleared.owner j (record { page = unkept; owned = some }))
      ]
      clears_known (Clears.slot s f dead low small) = elim (some_or_zero W (slot_word_of P s) 2 16) [
        | inl has ↦ inl (StoresCleared.slot s f (record { slot = dead; nonzero = (has.0, has.1.above, has.1.below, has.1.nonzero) }) low small)
        | inr zero ↦ inr (no_name s f dead zero low small)
      ]
      clears_known (Clears.links i n reached count) = elim (cases_eq (inode_links W i) n) [
        | inl same ↦ inr (links_word i reached ∙ same)
        | inr other ↦ inl (StoresCleared.links i n (record { reached = reached; counted = count; other = other }))
      ]
        where
          links_word : (i : ℕ) → Reached P W i → word B (inode_word_of i 1) ≡ word W (inode_word_of i 1)
          links_word i reached = let (least, most) = in_range P W coherent i reached in
              pointing.second_inodes P W coherent A first B second i 1 least most (omega arith)

      third_step : (C : List ℕ) → IsAfter (StoresCleared P W) B C → IsAfter (Clears P W) B C
      third_step C = filled (StoresCleared P W) (Clears P W) B C (λ a v. clears_among) (λ a v w g h. clears_one P W coherent w g h) (λ a v. clears_known)

      module _ (C : List ℕ) (third : IsAfter (Clears P W) B C) where
        frees_among : {a v : ℕ} → StoresFreed P W a v → Frees P W a v
        frees_among (StoresFreed.descriptor j f kind low small) = Frees.descriptor j f kind.page low small
        frees_among (StoresFreed.inode i f litter small) = Frees.inode i f (record { least = litter.least; most = litter.most; unreached = litter.unreached }) small

        descriptor_word : (j f : ℕ) → j < data_pages_of P → 1 ≤ f → f < 8 → word C (descriptor_word_of P j f) ≡ word W (descriptor_word_of P j f)
        descriptor_word j f lt low small =
            stays (Clears P W) B C third (descriptor_word_of P j f) (λ v h. let (zero, free, none) = clears_descriptor P W j f coherent lt small h refl in omega (arith, zero, low))
            ∙ pointing.second_descriptor P W coherent A first B second j f lt small

        inode_word : (i f : ℕ) → 1 ≤ i → i ≤ inodes_of P → ¬ Reached P W i → f < 16 → word C (inode_word_of i f) ≡ word W (inode_word_of i f)
        inode_word i f least most unreached small =
            stays (Clears P W) B C third (inode_word_of i f) (λ v h. let (one, reached, count) = clears_inode P W i f least most coherent small h refl in unreached reached)
            ∙ pointing.second_inodes P W coherent A first B second i f least most small

        frees_known : {a v : ℕ} → Frees P W a v → StoresFreed P W a v ⊎ (word C a ≡ v)
        frees_known (Frees.descriptor j f unkept low small) = elim (some_or_zero W (descriptor_word_of P j) 1 (descriptor_words W)) [
          | inl has ↦ inl (StoresFreed.descriptor j f (record { page = unkept; nonzero = (has.0, has.1.above, has.1.below, has.1.nonzero) }) low small)
          | inr zero ↦ inr (descriptor_word j f unkept.in_range low (in_descriptor W f small) ∙ zero f low small)
        ]
        frees_known (Frees.inode i f unreached small) = elim (some_or_zero W (inode_word_of i) 0 (inode_words W)) [
          | inl has ↦ inl (StoresFreed.inode i f (record {
            least = unreached.least;
            most = unreached.most;
            unreached = unreached.unreached;
            nonzero = (has.0, has.1.below, has.1.nonzero);
          }) small)
          | inr zero ↦ inr (inode_word i f unreached.least unreached.most unreached.unreached (in_inode W f small) ∙ zero f (omega arith) small)
        ]

        fourth_step : (K : List ℕ) → IsAfter (StoresFreed P W) C K → IsAfter (Frees P W) C K
        fourth_step K = filled (StoresFreed P W) (Frees P W) C K (λ a v. frees_among)
            (λ a v w g h. frees_zero P W coherent h ∙ sym (frees_zero P W coherent g)) (λ a v. frees_known)

pub stored_law : StoredLaw
stored_law P W A B C K coherent stored =
    let second = second_step P W coherent A stored.first B stored.second in
    let third = third_step P W coherent A stored.first B second C stored.third in
    record { first = stored.first; second = second; third = third; fourth = fourth_step P W coherent A stored.first B second C third K stored.fourth }

-- ---- nothing is stored exactly where the image is tidy

module _ (P : ℕ) (W : List ℕ) (coherent : IsCoherent P W) where
  module _ (clean : IsTidied P W) where
    no_pointer : (d : ℕ) → ¬ IsPointer P W d
    no_pointer d = none_counted (IsPointer P W) clean.repaired.of_pointers d

    no_page : (j f : ℕ) → IsUnkept P W j → f < descriptor_words W → ¬ (word W (descriptor_word_of P j f) ≢ 0)
    no_page j f unkept small some =
        none_counted (IsLitterPage P W) clean.repaired.of_pages j (record { in_range = unkept.in_range; free = unkept.free; nonzero = (f, small, some) })

    gives_none : {a v : ℕ} → GivesUp P W a v → ⊥
    gives_none (GivesUp.number s d left) =
        let points = left.points in no_pointer d (record { held = left.held; nonzero = λ none. omega (arith, points, none) })

    points_none : {a v : ℕ} → StoresPointer P W a v → ⊥
    points_none (StoresPointer.pointer d pointer) = no_pointer d pointer

    clears_none : {a v : ℕ} → StoresCleared P W a v → ⊥
    unfolding page_owner
    clears_none (StoresCleared.owner j owner) = no_page j 0 owner.page (descriptor_field_read W 0 (omega arith)) owner.owned
    clears_none (StoresCleared.slot s f name low small) =
        let (g, two, below, some) = name.nonzero in
        none_counted (IsLitterSlot P W) clean.repaired.of_slots s (record { page = name.slot.page; dead = name.slot.dead; nonzero = (g, below, some) })
    clears_none (StoresCleared.links i n links) = none_counted (IsLitterCount P W) clean.repaired.of_counts i (record {
      reached = links.reached;
      other = λ count. links.other (one_count P W coherent i n (inode_links W i) links.reached links.counted count);
    })

    frees_none : {a v : ℕ} → StoresFreed P W a v → ⊥
    frees_none (StoresFreed.descriptor j f kind low small) = let (g, one, below, some) = kind.nonzero in no_page j g kind.page below some
    frees_none (StoresFreed.inode i f litter small) = none_counted (IsLitterInode P W) clean.repaired.of_inodes i litter

    stores_nothing : StoresNothing P W
    stores_nothing = record { first = λ a v. gives_none; second = λ a v. points_none; third = λ a v. clears_none; fourth = λ a v. frees_none }

  module _ (nothing : StoresNothing P W) where
    none_points : (d : ℕ) → ¬ IsPointer P W d
    none_points d pointer = nothing.second (slot_word_of P d 1) 0 (StoresPointer.pointer d pointer)

    -- a dead slot has no number, since nothing points at it
    dead_number : (s : ℕ) → IsDead P W s → ¬ (slot_inode P W s ≢ 0)
    dead_number s dead some = dead.dead (record {
      held = kept_held P W coherent s dead.page;
      names = some;
      stays = λ d held at same. nothing.first (slot_word_of P s 0) 0 (GivesUp.number s d (record { held = held; points = at; same = same; names = some }));
    })

    dead_word : (s f : ℕ) → IsDead P W s → f < 16 → ¬ (word W (slot_word_of P s f) ≢ 0)
    unfolding slot_inode slot_pointer
    dead_word s f dead small some = elim (cases_eq f 0) [
      | inl zero ↦ dead_number s dead (λ none. some (ap (λ g. word W (slot_word_of P s g)) zero ∙ none))
      | inr more ↦ elim (cases_eq f 1) [
        | inl one ↦ none_points s (record { held = kept_held P W coherent s dead.page; nonzero = λ none. some (ap (λ g. word W (slot_word_of P s g)) one ∙ none) })
        | inr two ↦ nothing.third (slot_word_of P s f) 0
            (StoresCleared.slot s f (record { slot = dead; nonzero = (f, omega (arith, more, two), small, some) }) (omega (arith, more)) small)
      ]
    ]

    no_litter_page : (j : ℕ) → ¬ IsLitterPage P W j
    unfolding page_owner
    no_litter_page j litter =
        let unkept : IsUnkept P W j = record { in_range = litter.in_range; free = litter.free } in
        let (f, small, some) = litter.nonzero in
        elim (cases_eq f 0) [
          | inl zero ↦ nothing.third (descriptor_word_of P j 0) 0
              (StoresCleared.owner j (record { page = unkept; owned = λ none. some (ap (λ g. word W (descriptor_word_of P j g)) zero ∙ none) }))
          | inr more ↦ nothing.fourth (descriptor_word_of P j f) 0
              (StoresFreed.descriptor j f (record { page = unkept; nonzero = (f, omega (arith, more), small, some) }) (omega (arith, more)) small)
        ]

    no_litter_slot : (s : ℕ) → ¬ IsLitterSlot P W s
    no_litter_slot s litter = let (f, small, some) = litter.nonzero in dead_word s f (record { page = litter.page; dead = litter.dead }) small some

    no_litter_count : (i : ℕ) → ¬ IsLitterCount P W i
    no_litter_count i litter =
        let (n, count) = links_of P W coherent i litter.reached in
        nothing.third (inode_word_of i 1) n
        (StoresCleared.links i n (record { reached = litter.reached; counted = count; other = λ same. litter.other (subst (IsLinkCount P W i) (sym same) count) }))

    no_litter_inode : (i : ℕ) → ¬ IsLitterInode P W i
    no_litter_inode i litter = nothing.fourth (inode_word_of i 0) 0 (StoresFreed.inode i 0 litter (inode_field_read W 0 (omega arith)))

    is_tidy : IsTidied P W
    is_tidy = record {
      coherent = coherent;
      repaired = record {
        of_pointers = count_none (IsPointer P W) none_points;
        of_slots = count_none (IsLitterSlot P W) no_litter_slot;
        of_pages = count_none (IsLitterPage P W) no_litter_page;
        of_inodes = count_none (IsLitterInode P W) no_litter_inode;
        of_counts = count_none (IsLitterCount P W) no_litter_count;
      };
    }

pub nothing_law : NothingLaw
nothing_law P W coherent = (stores_nothing P W coherent, is_tidy P W coherent)
