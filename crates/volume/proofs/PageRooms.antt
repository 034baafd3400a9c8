-- Which pages of a directory have a slot that names nothing, told by how many of its entries stand in each, beside calls that run.
use Rattle.std.proofs.Common.{◌≡◌, ◌≢◌, inl, inr, ℕ, ◌+◌, ◌*◌, ◌<◌, ◌≤◌, ◌==◌, Bool, true, List, [], ◌∷◌, length, filter, Option, Some, None, refl, sym, ap, subst, ◌∙◌, arith}
use Rattle.std.proofs.lemmas.Bool.{cases_eq}
use Rattle.std.proofs.lemmas.Bool.Decides.{nat_tests}
use Rattle.std.proofs.lemmas.List.Sums.{length-filter}
use Rattle.pm_trait.specs.DeviceView.{DeviceView}
use Rattle.layout.specs.Geometry.{inodes_of, data_pages_of, page_of_slot}
use Rattle.layout.proofs.GeometryLaws.{page_of_slot_below, slot_below}
use Rattle.layout.specs.Fields.{page_owner, slot_inode, slot_name}
use Rattle.tree_model.specs.Run.{State}
use Rattle.image_reading.specs.Counts.{Count}
use Rattle.image_reading.specs.Reading.{HasBytes, IsDirectory, Reached, IsRoomOf}
use Rattle.image_reading.specs.Residue.{Residue}
use Rattle.image_counts.specs.Entries.{IsSlotOf, IsSlotIn, IsPageIn}
use Rattle.image_counts.proofs.Links.{not_both_kinds}
use Rattle.image_counts.proofs.Counting.{IsMatching, IsMatched, count_matched, count_alike, count_fewer, count_less, count_run, none_counted, among_filter, filter_among, filter_apart}
use Rattle.image_counts.proofs.Beside.{page_count_beside_law, room_beside_law}
use Rattle.volatile_index.specs.Entries.{IsSorted, names_in, IsOpen, IsLeastOpen}
use Rattle.volatile_index.specs.Index.{entries_of}
use Rattle.volatile_index.specs.declared.entry.Entry.{Entry}
use Rattle.volume.specs.Volume.{VolumeView}
use Rattle.volume.specs.Beside.{StandsBeside, IsUntouched}
use Rattle.volume.specs.Planned.{IsVacantSlot}
use Rattle.volume.specs.Lowest.{IsLowestOf, IsVacantAmong}
use Rattle.volume.proofs.Places.{slots_of_page, page_is, contains_one, in_one, owner_is}
use Rattle.volume.proofs.Frees.{reads_beside}
use Rattle.volume.proofs.Statuses.{among_contained, contained_among, matching}

some_counted : (Q : ℕ → Type 0) (n : ℕ) → 0 < n → Count Q n → (x : ℕ) × Q x
some_counted Q n some ([], distinct, is, long) = absurd (omega (arith, some, long))
some_counted Q n some (x ∷ xs, distinct, is, long) = (x, (is x).0 (inl refl))

abbrev stands_in : ℕ → Entry → Bool
stands_in page entry = page_of_slot entry.slot == page

in_page : (entry : Entry) (page : ℕ) → stands_in page entry ≡ true → page_of_slot entry.slot ≡ page
in_page entry page passes = grind (arith, nat_tests, passes)

passes_in : (entry : Entry) (page : ℕ) → page_of_slot entry.slot ≡ page → stands_in page entry ≡ true
passes_in entry page at = grind (arith, nat_tests, at)

module _ (volume : VolumeView) (device : DeviceView) (state : State) (residue : Residue) (stands : StandsBeside volume device state residue) (d : ℕ) (least : 1 ≤ d) (most : d ≤ inodes_of volume.size) (sorted : IsSorted (entries_of volume.index d)) where
  abbrev P : ℕ
  P = volume.size

  abbrev W : List ℕ
  W = device.words

  abbrev entries : List Entry
  entries = entries_of volume.index d

  abbrev HasSlot : Entry → ℕ → Type 0
  HasSlot entry s = entry.slot ≡ s

  -- a slot of an entry, in the page
  abbrev IsNamedIn : ℕ → ℕ → Type 0
  IsNamedIn page s = IsSlotOf P W d s × (page_of_slot s ≡ page)

  matching_in : (page : ℕ) → IsMatching HasSlot (filter (stands_in page) entries)
  matching_in page =
      let all = matching volume device state residue stands d least most sorted in
      record {
        apart = filter_apart (stands_in page) entries all.apart;
        each = λ entry among. all.each entry (among_filter (stands_in page) entries entry among).0;
        one = λ entry s t among here there. all.one entry s t (among_filter (stands_in page) entries entry among).0 here there;
        own = λ one other s among too here there. all.own one other s (among_filter (stands_in page) entries one among).0 (among_filter (stands_in page) entries other too).0 here there;
      }

  named_counted : (page : ℕ) → Count (IsNamedIn page) (names_in entries page)
  named_counted page =
      subst (Count (IsNamedIn page)) (length-filter (stands_in page) entries)
      (count_alike (IsMatched HasSlot (filter (stands_in page) entries)) (IsNamedIn page) (length (filter (stands_in page) entries)) to from
      (count_matched HasSlot (filter (stands_in page) entries) (matching_in page)))
    where
      to : (s : ℕ) → IsMatched HasSlot (filter (stands_in page) entries) s → IsNamedIn page s
      to s (entry, among, is) =
          let (there, passes) = among_filter (stands_in page) entries entry among in
          let entered = (stands.knows.nodes.entries d entry.slot entry.name least most).0 (among_contained entry entries there) in
          subst (IsNamedIn page) is ((entered.slot, entered.owner), in_page entry page passes)

      from : (s : ℕ) → IsNamedIn page s → IsMatched HasSlot (filter (stands_in page) entries) s
      from s ((slot, owner), at) =
          let entry : Entry = record { name = slot_name P W s; slot = s } in
          let there = contained_among entry entries ((stands.knows.nodes.entries d s (slot_name P W s) least most).1 (record { slot = slot; owner = owner; name = refl })) in
          (entry, filter_among (stands_in page) entries entry there (passes_in entry page at), refl)

  pub page_owned : (page : ℕ) → IsOpen entries page → IsPageIn P W d page
  page_owned page room =
      let (s, named) = some_counted (IsNamedIn page) (names_in entries page) room.0 (named_counted page) in
      subst (IsPageIn P W d) named.1 (record {
        in_range = page_of_slot_below P s named.0.0.live.held.in_range;
        owner = sym (owner_is P W s) ∙ named.0.1;
      })

  module _ (reached : Reached P W d) (directory : IsDirectory W d) (untouched : IsUntouched volume W residue d) where
    page_kept : (page : ℕ) → IsPageIn P W d page → IsRoomOf P W d page
    page_kept page is =
        let used = ((page_count_beside_law P W residue state (reads_beside volume device state residue stands)).used page is.in_range).1 (λ unused. let owner = is.owner in let none = unused.0 in omega (arith, owner, none, least)) in
        elim used [
          | inl kept ↦ elim kept [
            | inl other ↦ absurd (not_both_kinds W d (subst (HasBytes W) is.owner other.file) directory)
            | inr room ↦ subst (λ z. IsRoomOf P W z page) is.owner room
          ]
          | inr left ↦ absurd (untouched.apart.pages page left is.owner)
        ]

    pub vacant_room : (slot : ℕ) → IsVacantSlot P W d slot → IsOpen entries (page_of_slot slot)
    vacant_room slot vacant = (some, few)
      where
        some : 0 < names_in entries (page_of_slot slot)
        some = elim (cases_eq (names_in entries (page_of_slot slot)) 0) [
          | inl zero ↦
              let room = page_kept (page_of_slot slot) (record { in_range = page_of_slot_below P slot vacant.page.in_range; owner = sym (owner_is P W slot) ∙ vacant.page.owner }) in
              let (s, at, owner, live) = room.slot in
              let named : IsNamedIn (page_of_slot slot) s = ((record { owner = subst (Reached P W) (sym owner) reached; directory = subst (IsDirectory W) (sym owner) directory; live = live }, owner), at) in
              absurd (none_counted (IsNamedIn (page_of_slot slot)) (subst (Count (IsNamedIn (page_of_slot slot))) zero (named_counted (page_of_slot slot))) s named)
          | inr other ↦ omega (arith, other)
        ]

        few : names_in entries (page_of_slot slot) < 32
        few = count_less (IsNamedIn (page_of_slot slot)) (λ s. (32 * page_of_slot slot ≤ s) × (s < 32 * page_of_slot slot + 32)) (names_in entries (page_of_slot slot)) 32 slot
            (λ s named. slots_of_page (page_of_slot slot) s named.1) (slots_of_page (page_of_slot slot) slot refl) (λ named. named.0.0.live.names vacant.vacant)
            (named_counted (page_of_slot slot)) (count_run (32 * page_of_slot slot) 32)

    full_page : (page : ℕ) → IsPageIn P W d page → ((slot : ℕ) → page_of_slot slot ≡ page → slot_inode P W slot ≢ 0) → 32 ≤ names_in entries page
    full_page page is numbered =
        count_fewer (λ s. (32 * page ≤ s) × (s < 32 * page + 32)) (IsNamedIn page) 32 (names_in entries page) named (count_run (32 * page) 32) (named_counted page)
      where
        named : (s : ℕ) → (32 * page ≤ s) × (s < 32 * page + 32) → IsNamedIn page s
        named s within =
            let at = page_is page s within.0 within.1 in
            let slot : IsSlotIn P W d s = record {
              in_range = slot_below P s (subst (λ (j : ℕ). j < data_pages_of P) (sym at) is.in_range);
              owner = owner_is P W s ∙ ap (λ (j : ℕ). page_owner P W j) at ∙ is.owner;
            } in
            let rooms = room_beside_law P W residue state (reads_beside volume device state residue stands) d reached directory untouched.apart in
            (((rooms.live s slot).1 (numbered s at), slot.owner), at)

    pub none_vacant : ((page : ℕ) → ¬ IsOpen entries page) → IsLowestOf (IsVacantSlot P W d) None
    none_vacant none slot vacant = none (page_of_slot slot) (vacant_room slot vacant)

    pub lowest_of_page : (page : ℕ) (r : Option ℕ) → IsLeastOpen entries page → IsLowestOf (IsVacantAmong P W (page ∷ [])) r → IsLowestOf (IsVacantSlot P W d) r
    lowest_of_page page None (room, first) none =
        let many = full_page page (page_owned page room) (λ slot at zero. none slot (contains_one page (page_of_slot slot) at, zero)) in
        let few = room.1 in
        absurd (omega (arith, many, few))
    lowest_of_page page (Some slot) (room, first) ((there, vacant), before) = (
      record { page = slot_in slot (in_one page (page_of_slot slot) there); vacant = vacant },
      (λ other lt too.
          let after = first (page_of_slot other) (vacant_room other too) in
          let at = in_one page (page_of_slot slot) there in
          let here = slots_of_page page slot at in
          let other_there = slots_of_page (page_of_slot other) other refl in
          let same : page_of_slot other ≡ page = omega (arith, after, lt, here, other_there) in
          before other lt (contains_one page (page_of_slot other) same, too.vacant)),
    )
      where
        slot_in : (s : ℕ) → page_of_slot s ≡ page → IsSlotIn P W d s
        slot_in s at =
            let is = page_owned page room in
            record {
              in_range = slot_below P s (subst (λ (j : ℕ). j < data_pages_of P) (sym at) is.in_range);
              owner = owner_is P W s ∙ ap (λ (j : ℕ). page_owner P W j) at ∙ is.owner;
            }
