-- What a name that is alone in its page, or stands beside another, says of its directory's names and pages.
use Rattle.std.proofs.Common.{◌≡◌, ◌≢◌, ◌⊎◌, ℕ, suc, ◌+◌, ◌-◌, ◌*◌, ◌<◌, ◌≤◌, inl, inr, true, List, [], ◌∷◌, length, unwrap_or, refl, sym, ap, subst, ◌∙◌, arith}
use Rattle.std.proofs.lemmas.Bool.{cases_eq, cases_lt}
use Rattle.layout.specs.Geometry.{page_of_slot}
use Rattle.layout.proofs.GeometryLaws.{page_of_slot_below, slot_below}
use Rattle.layout.specs.Fields.{slot_inode}
use Rattle.tree_model.specs.Table.{get}
use Rattle.tree_model.specs.Tree.{IsRoom, is_directory, name_count, pages_in}
use Rattle.tree_model.specs.Run.{State}
use Rattle.tree_model.proofs.RoomLaws.{IsPageCount, IsPageCount-from_room, room-has_directory}
use Rattle.tree_model.proofs.TreeKept.{some_is}
use Rattle.image_reading.specs.Counts.{IsIn, IsDistinct, Count}
use Rattle.image_reading.specs.Reading.{IsDirectory, slot_owner, Reached, IsRoomOf, ReadsAs}
use Rattle.image_reading.specs.Soundness.{IsCoherent}
use Rattle.image_reading.specs.Tidy.{IsTidied}
use Rattle.image_counts.specs.Entries.{IsEntryOf, IsSlotOf, IsSlotIn, IsPageIn}
use Rattle.image_counts.specs.Laws.{HasRoomWords}
use Rattle.image_counts.proofs.Counting.{count_alike, count_either, count_fewer, count_less, count_run}
use Rattle.image_counts.proofs.PageSlots.{count_slots_of}
use Rattle.image_counts.proofs.Slots.{count_names}
use Rattle.image_counts.proofs.States.{state_law}
use Rattle.volume.specs.Planned.{IsVacantSlot, IsAlone}
use Rattle.volume.proofs.Places.{page_is, slots_of_page}

-- ---- numbers

-- for each x of a list a number whose image it is: no two of them are one
picked : (R : ℕ → Type 0) (f : ℕ → ℕ) (xs : List ℕ) → IsDistinct xs → ((x : ℕ) → IsIn x xs → (s : ℕ) × R s × (f s ≡ x))
    → (ys : List ℕ) × IsDistinct ys × ((y : ℕ) → IsIn y ys → R y × IsIn (f y) xs) × (length ys ≡ length xs)
picked R f [] distinct each = ([], tt, (λ y among. absurd among), refl)
picked R f (x ∷ xs) distinct each =
    let (s, r, is) = each x (inl refl) in
    let (ys, apart, are, long) = picked R f xs distinct.1 (λ z among. each z (inr among)) in (
      s ∷ ys,
      ((λ among. distinct.0 (subst (λ z. IsIn z xs) is (are s among).1)), apart),
      (λ y among. elim among [ inl e ↦ (subst R (sym e) r, inl (ap f e ∙ is)) | inr old ↦ ((are y old).0, inr (are y old).1) ]),
      ap suc long,
    )

count_itself : (v : ℕ) → Count (λ x. x ≡ v) 1
count_itself v = (v ∷ [], ((λ none. none), tt), (λ x. ((λ among. elim among [ inl e ↦ e | inr none ↦ absurd none ]), (λ e. inl e))), refl)

-- another slot of the slot's page
abbrev IsBeside : ℕ → ℕ → Type 0
IsBeside slot s = (page_of_slot s ≡ page_of_slot slot) × (s ≢ slot)

count_beside : (slot : ℕ) → Count (IsBeside slot) 31
count_beside slot =
    let (low, high) = slots_of_page j slot refl in
    subst (Count (IsBeside slot)) (sum j slot low high)
    (count_alike (λ s. IsBefore s ⊎ IsBehind s) (IsBeside slot) ((slot - 32 * j) + (32 * j + 31 - slot)) (λ s. to s low high) (λ s. from s low high)
    (count_either IsBefore IsBehind (slot - 32 * j) (32 * j + 31 - slot) (λ s. not_both s low) (count_run (32 * j) (slot - 32 * j)) (count_run (slot + 1) (32 * j + 31 - slot))))
  where
    j : ℕ
    j = page_of_slot slot

    IsBefore : ℕ → Type 0
    IsBefore s = (32 * j ≤ s) × (s < 32 * j + (slot - 32 * j))

    IsBehind : ℕ → Type 0
    IsBehind s = (slot + 1 ≤ s) × (s < slot + 1 + (32 * j + 31 - slot))

    sum : (j slot : ℕ) → 32 * j ≤ slot → slot < 32 * j + 32 → (slot - 32 * j) + (32 * j + 31 - slot) ≡ 31
    sum j slot low high = omega (arith, low, high)

    not_both : (s : ℕ) → 32 * j ≤ slot → IsBefore s → IsBehind s → ⊥
    not_both s low before behind = omega (arith, low, before, behind)

    to : (s : ℕ) → 32 * j ≤ slot → slot < 32 * j + 32 → IsBefore s ⊎ IsBehind s → IsBeside slot s
    to s low high has = elim has [
      | inl before ↦ (page_is j s before.0 (omega (arith, low, high, before)), λ same. omega (arith, low, before, same))
      | inr behind ↦ (page_is j s (omega (arith, low, behind)) (omega (arith, high, behind)), λ same. omega (arith, behind, same))
    ]

    from : (s : ℕ) → 32 * j ≤ slot → slot < 32 * j + 32 → IsBeside slot s → IsBefore s ⊎ IsBehind s
    from s low high (at, other) =
        let (first, last) = slots_of_page j s at in
        elim (cases_lt s slot) [
          | inl less ↦ inl (first, omega (arith, low, less))
          | inr more ↦ inr (let behind : slot + 1 ≤ s = omega (arith, more, other) in (behind, omega (arith, last, high)))
        ]

module _ (P : ℕ) (I : List ℕ) (state : State) (tidy : IsTidied P I) (reads : ReadsAs P I state) (d : ℕ) (words : HasRoomWords P I state d) (holds : is_directory state.tree d ≡ true) where
  coherent : IsCoherent P I
  coherent = tidy.coherent

  fits : IsRoom state.tree state.room
  fits = (state_law P I state coherent reads).room

  -- the directory's names and pages
  pub page_count : IsPageCount (name_count state.tree d) (pages_in state.room d)
  page_count =
      let (k, is) = some_is (get state.room d) (room-has_directory state.tree state.room fits d holds) in
      subst (IsPageCount (name_count state.tree d)) (sym (ap (λ o. unwrap_or o 0) is)) (IsPageCount-from_room state.tree state.room fits d k is)

  names : Count (IsSlotOf P I d) (name_count state.tree d)
  names = count_names P I state.tree coherent reads.tree d

  slots : Count (λ s. IsPageIn P I d (page_of_slot s)) (32 * pages_in state.room d)
  slots = count_slots_of (IsPageIn P I d) (pages_in state.room d) words.pages

  page_of : (s : ℕ) → IsSlotIn P I d s → IsPageIn P I d (page_of_slot s)
  unfolding slot_owner
  page_of s inside = record { in_range = page_of_slot_below P s inside.in_range; owner = inside.owner }

  inside_of : (s : ℕ) → IsPageIn P I d (page_of_slot s) → IsSlotIn P I d s
  unfolding slot_owner
  inside_of s page = record { in_range = slot_below P s page.in_range; owner = page.owner }

  page_of_name : (s : ℕ) → IsSlotOf P I d s → IsPageIn P I d (page_of_slot s)
  page_of_name s named = page_of s (record { in_range = named.0.live.held.in_range; owner = named.1 })

  module _ (name : List ℕ) (slot : ℕ) (entry : IsEntryOf P I d name slot) where
    here : IsSlotOf P I d slot
    here = (entry.slot, entry.owner)

    page_beside : (s : ℕ) → page_of_slot s ≡ page_of_slot slot → IsPageIn P I d (page_of_slot s)
    page_beside s at = subst (IsPageIn P I d) (sym at) (page_of_name slot here)

    -- ---- alone

    abbrev IsNameOrBeside : ℕ → Type 0
    IsNameOrBeside s = IsSlotOf P I d s ⊎ IsBeside slot s

    names_and_beside : IsAlone P I slot → Count IsNameOrBeside (name_count state.tree d + 31)
    names_and_beside alone = count_either (IsSlotOf P I d) (IsBeside slot) (name_count state.tree d) 31 (λ s named beside. named.0.live.names (alone s beside.0 beside.1)) names (count_beside slot)

    in_pages : (s : ℕ) → IsNameOrBeside s → IsPageIn P I d (page_of_slot s)
    in_pages s has = elim has [ inl named ↦ page_of_name s named | inr beside ↦ page_beside s beside.0 ]

    pub alone_bound : IsAlone P I slot → name_count state.tree d + 31 ≤ 32 * pages_in state.room d
    alone_bound alone = count_fewer IsNameOrBeside (λ s. IsPageIn P I d (page_of_slot s)) (name_count state.tree d + 31) (32 * pages_in state.room d) in_pages (names_and_beside alone) slots

    -- and another page has a vacant slot
    pub alone_and_vacant : IsAlone P I slot → (v : ℕ) → IsVacantSlot P I d v → page_of_slot v ≢ page_of_slot slot → name_count state.tree d + 32 ≤ 32 * pages_in state.room d
    alone_and_vacant alone v vacant other =
        let less = count_less IsNameOrBeside (λ s. IsPageIn P I d (page_of_slot s)) (name_count state.tree d + 31) (32 * pages_in state.room d) v in_pages (page_of v vacant.page) neither (names_and_beside alone) slots in
        omega (arith, less)
      where
        neither : IsNameOrBeside v → ⊥
        neither has = elim has [ inl named ↦ named.0.live.names vacant.vacant | inr beside ↦ other beside.0 ]

    -- ---- not alone

    abbrev IsChosen : ℕ → Type 0
    IsChosen s = IsSlotOf P I d s × (page_of_slot s ≡ page_of_slot slot → s ≡ slot)

    chosen_in : (j : ℕ) → IsRoomOf P I d j → (s : ℕ) × IsChosen s × (page_of_slot s ≡ j)
    chosen_in j room = elim (cases_eq j (page_of_slot slot)) [
      | inl same ↦ (slot, (here, λ at. refl), sym same)
      | inr other ↦
          let (s, at, owner, live) = room.slot in
          (s, ((record { owner = subst (Reached P I) (sym owner) room.reached; directory = subst (IsDirectory I) (sym owner) room.directory; live = live }, owner), λ both. absurd (other (sym at ∙ both))), at)
    ]

    -- each page has a name, and this one another
    pub beside_bound : (other : ℕ) → page_of_slot other ≡ page_of_slot slot → other ≢ slot → slot_inode P I other ≢ 0 → pages_in state.room d + 1 ≤ name_count state.tree d
    beside_bound other at differ numbered =
        let (k, is) = some_is (get state.room d) (room-has_directory state.tree state.room fits d holds) in
        let (reached, directory, (js, distinct, are, long)) = (reads.room d k).0 is in
        let (ys, apart, chosen, as_long) = picked IsChosen page_of_slot js distinct (λ j among. chosen_in j ((are j).0 among)) in
        let live = (words.live other (inside_of other (page_beside other at))).1 numbered in
        let less = count_less (λ y. IsIn y ys) (IsSlotOf P I d) (length ys) (name_count state.tree d) other (λ y among. (chosen y among).0.0)
        (live, (inside_of other (page_beside other at)).owner) (λ among. differ ((chosen other among).0.1 at)) (ys, apart, (λ y. ((λ among. among), (λ among. among))), refl) names in
        let pages = ap (λ o. unwrap_or o 0) is in
        omega (arith, less, pages, long, as_long)

    -- so it is alone where there are as many pages
    pub alone_where : name_count state.tree d ≤ pages_in state.room d → IsAlone P I slot
    alone_where few other at differ = elim (cases_eq (slot_inode P I other) 0) [
      | inl zero ↦ zero
      | inr numbered ↦ absurd (let more = beside_bound other at differ numbered in omega (arith, few, more))
    ]
