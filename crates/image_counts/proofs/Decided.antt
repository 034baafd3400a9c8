-- Which slots are live and which pages have a live slot can be told.
use Rattle.std.proofs.Common.{◌≡◌, ◌⊎◌, inl, inr, ℕ, zero, suc, ◌+◌, ◌<◌, List, [], ◌∷◌, refl, sym, ap, subst, ◌∙◌, arith}
use Rattle.std.proofs.lemmas.Bool.{cases_eq, cases_lt}
use Rattle.layout.specs.Geometry.{slots_of, data_pages_of, page_of_slot}
use Rattle.layout.proofs.GeometryLaws.{page_of_slot_below}
use Rattle.layout.specs.Fields.{page_owner, page_kind, slot_inode, slot_pointer}
use Rattle.image_reading.specs.Counts.{Count}
use Rattle.image_reading.specs.Reading.{IsDirectory, slot_owner, IsHeld, IsLive, Reached, IsRoomOf}
use Rattle.image_reading.proofs.Counts.{count_none}
use Rattle.image_counts.proofs.Counting.{count_alike, count_either}

abbrev pub IsDecided : Type 0 → Type 0
IsDecided A = A ⊎ ¬ A

-- ---- numbers below a bound

below_or_here : (n x : ℕ) → x < suc n → (x ≡ n) ⊎ (x < n)
below_or_here n x lt = elim (cases_eq x n) [ inl same ↦ inl same | inr other ↦ inr (omega arith) ]

pub any_below : (Q : ℕ → Type 0) (n : ℕ) → ((x : ℕ) → IsDecided (Q x)) → ((x : ℕ) × Q x) ⊎ ((x : ℕ) → x < n → ¬ Q x)
any_below Q zero decide = inr (λ x lt. absurd (omega (arith, lt)))
any_below Q (suc n) decide = elim (decide n) [
  | inl here ↦ inl (n, here)
  | inr none ↦ elim (any_below Q n decide) [
    | inl some ↦ inl some
    | inr before ↦ inr (λ x lt. elim (below_or_here n x lt) [ inl same ↦ (λ q. none (subst Q same q)) | inr less ↦ before x less ])
  ]
]

abbrev pub IsBelow : (ℕ → Type 0) → ℕ → ℕ → Type 0
IsBelow Q n x = (x < n) × Q x

below_more : (Q : ℕ → Type 0) (n : ℕ) → (k : ℕ) × Count (IsBelow Q n) k → IsDecided (Q n) → (k : ℕ) × Count (IsBelow Q (suc n)) k
below_more Q n (k, count) (inl here) =
    (k + 1, count_alike (λ x. IsBelow Q n x ⊎ (x ≡ n)) (IsBelow Q (suc n)) (k + 1) to from (count_either (IsBelow Q n) (λ x. x ≡ n) k 1 apart count single))
  where
    apart : (x : ℕ) → IsBelow Q n x → x ≡ n → ⊥
    apart x below same = omega (arith, below.0, same)

    single : Count (λ x. x ≡ n) 1
    single = (
      n ∷ [],
      ((λ among. among), tt),
      (λ x. ((λ among. elim among [ inl same ↦ same | inr nowhere ↦ absurd nowhere ]), (λ same. inl same))),
      refl,
    )

    to : (x : ℕ) → IsBelow Q n x ⊎ (x ≡ n) → IsBelow Q (suc n) x
    to x has = elim has [ inl below ↦ (omega (arith, below.0), below.1) | inr same ↦ (omega (arith, same), subst Q (sym same) here) ]

    from : (x : ℕ) → IsBelow Q (suc n) x → IsBelow Q n x ⊎ (x ≡ n)
    from x below = elim (below_or_here n x below.0) [ inl same ↦ inr same | inr less ↦ inl (less, below.1) ]
below_more Q n (k, count) (inr none) = (k, count_alike (IsBelow Q n) (IsBelow Q (suc n)) k (λ x below. (omega (arith, below.0), below.1)) from count)
  where
    from : (x : ℕ) → IsBelow Q (suc n) x → IsBelow Q n x
    from x below = elim (below_or_here n x below.0) [ inl same ↦ absurd (none (subst Q same below.1)) | inr less ↦ (less, below.1) ]

count_below : (Q : ℕ → Type 0) (n : ℕ) → ((x : ℕ) → IsDecided (Q x)) → (k : ℕ) × Count (IsBelow Q n) k
count_below Q zero decide = (0, count_none (IsBelow Q 0) (λ x below. omega (arith, below.0)))
count_below Q (suc n) decide = below_more Q n (count_below Q n decide) (decide n)

-- a property that can be told, of numbers below a bound, is counted
pub some_count : (Q : ℕ → Type 0) (n : ℕ) → ((x : ℕ) → IsDecided (Q x)) → ((x : ℕ) → Q x → x < n) → (k : ℕ) × Count Q k
some_count Q n decide below = let (k, count) = count_below Q n decide in (k, count_alike (IsBelow Q n) Q k (λ x both. both.1) (λ x q. (below x q, q)) count)

equal_decided : (a b : ℕ) → IsDecided (a ≡ b)
equal_decided a b = elim (cases_eq a b) [ inl same ↦ inl same | inr other ↦ inr other ]

less_decided : (a b : ℕ) → IsDecided (a < b)
less_decided a b = elim (cases_lt a b) [ inl less ↦ inl less | inr more ↦ inr (λ less. omega (arith, less, more)) ]

-- ---- slots

module _ (P : ℕ) (I : List ℕ) where
  pub held_or_not : (s : ℕ) → IsDecided (IsHeld P I s)
  held_or_not s = elim (less_decided s (slots_of P)) [
    | inr out ↦ inr (λ held. out held.in_range)
    | inl within ↦ elim (equal_decided (page_kind P I (page_of_slot s)) 2) [
      | inr other ↦ inr (λ held. other held.kind)
      | inl kind ↦ elim (equal_decided (slot_owner P I s) 0) [
        | inl none ↦ inr (λ held. held.owned none)
        | inr owned ↦ inl (record { in_range = within; kind = kind; owned = owned })
      ]
    ]
  ]

  -- a held slot points at slot s with its inode number
  record IsMoving (s d : ℕ) : Type 0 where
    held : IsHeld P I d
    points : slot_pointer P I d ≡ s + 1
    same : slot_inode P I d ≡ slot_inode P I s

  moving_or_not : (s d : ℕ) → IsDecided (IsMoving s d)
  moving_or_not s d = elim (held_or_not d) [
    | inr other ↦ inr (λ moving. other moving.held)
    | inl held ↦ elim (equal_decided (slot_pointer P I d) (s + 1)) [
      | inr other ↦ inr (λ moving. other moving.points)
      | inl points ↦ elim (equal_decided (slot_inode P I d) (slot_inode P I s)) [
        | inr other ↦ inr (λ moving. other moving.same)
        | inl same ↦ inl (record { held = held; points = points; same = same })
      ]
    ]
  ]

  pub live_or_not : (s : ℕ) → IsDecided (IsLive P I s)
  live_or_not s = elim (held_or_not s) [
    | inr other ↦ inr (λ live. other live.held)
    | inl held ↦ elim (equal_decided (slot_inode P I s) 0) [
      | inl none ↦ inr (λ live. live.names none)
      | inr names ↦ elim (any_below (IsMoving s) (slots_of P) (moving_or_not s)) [
        | inl some ↦ inr (λ live. live.stays some.0 some.1.held some.1.points some.1.same)
        | inr never ↦ inl (record {
          held = held;
          names = names;
          stays = λ d other points same. never d other.in_range (record { held = other; points = points; same = same });
        })
      ]
    ]
  ]

  -- ---- pages of a directory

  -- slot s is live, in page j of directory d
  record IsUsedBy (d j s : ℕ) : Type 0 where
    page : page_of_slot s ≡ j
    owner : slot_owner P I s ≡ d
    live : IsLive P I s

  used_or_not : (d j s : ℕ) → IsDecided (IsUsedBy d j s)
  used_or_not d j s = elim (equal_decided (page_of_slot s) j) [
    | inr other ↦ inr (λ used. other used.page)
    | inl page ↦ elim (equal_decided (slot_owner P I s) d) [
      | inr other ↦ inr (λ used. other used.owner)
      | inl owner ↦ elim (live_or_not s) [
        | inr dead ↦ inr (λ used. dead used.live)
        | inl live ↦ inl (record { page = page; owner = owner; live = live })
      ]
    ]
  ]

  pub room_or_not : (d j : ℕ) → Reached P I d → IsDirectory I d → IsDecided (IsRoomOf P I d j)
  room_or_not d j reached directory = elim (any_below (IsUsedBy d j) (slots_of P) (used_or_not d j)) [
    | inl some ↦ inl (record { reached = reached; directory = directory; slot = (some.0, some.1.page, some.1.owner, some.1.live) })
    | inr none ↦ inr (λ room. let (s, page, owner, live) = room.slot in none s live.held.in_range (record { page = page; owner = owner; live = live }))
  ]

  pub room_below : (d j : ℕ) → IsRoomOf P I d j → j < data_pages_of P
  room_below d j room = let (s, page, owner, live) = room.slot in subst (λ z. z < data_pages_of P) page (page_of_slot_below P s live.held.in_range)

  -- a page of a directory's room is the directory's
  pub room_owner : (d j : ℕ) → IsRoomOf P I d j → page_owner P I j ≡ d
  unfolding slot_owner
  room_owner d j room = let (s, page, owner, live) = room.slot in ap (page_owner P I) (sym page) ∙ owner

  -- a directory's pages are counted
  pub room_counted : (d : ℕ) → Reached P I d → IsDirectory I d → (k : ℕ) × Count (IsRoomOf P I d) k
  room_counted d reached directory = some_count (IsRoomOf P I d) (data_pages_of P) (λ j. room_or_not d j reached directory) (room_below d)
