-- The room after a slot took the inode number of another.
use Rattle.std.proofs.Common.{◌≡◌, ◌≢◌, ◌↔◌, ◌⊎◌, inl, inr, ℕ, ◌+◌, ◌-◌, List, [], ◌∷◌, ◌++◌, Some, unwrap_or, refl, sym, ap, subst, ◌∙◌, arith}
use Rattle.std.proofs.lemmas.Bool.{cases_eq}
use Rattle.std.specs.Cmp.{nat_cmp_total}
use Rattle.layout.specs.Fields.{inode_kind, slot_inode, slot_pointer, slot_name}
use Rattle.layout.specs.Geometry.{page_of_slot}
use Rattle.tree_model.specs.PathText.{Route}
use Rattle.tree_model.specs.Table.{get, insert, remove}
use Rattle.tree_model.specs.Tree.{Room, pages_in}
use Rattle.tree_model.proofs.TreeKept.{same_some}
use Rattle.image_reading.specs.Counts.{Count}
use Rattle.image_reading.specs.Reading.{IsDirectory, slot_owner, IsLive, Names, Reached, IsRoomOf, HasRoom}
use Rattle.image_reading.proofs.Counts.{count_one}
use Rattle.image_reading.proofs.Credits.{count_same, count_more}
use Rattle.image_counts.proofs.Decided.{room_counted}
use Rattle.image_counts.proofs.Paths.{one_path}
use Rattle.image_laws.specs.Add.{with_page}
use Rattle.image_laws.specs.Move.{CanMove, HasMoved, HasRoomMoved, MoveRoomLaw, moved}
use Rattle.image_laws.specs.Remove.{without_page}
use Rattle.image_laws.proofs.AddRoom.{get-here, get-other}
use Rattle.image_laws.proofs.MoveSlot as slots
use Rattle.image_laws.proofs.OnlySlot.{GetsNumber, same_owner, same_name, kind_reached}
use Rattle.image_laws.proofs.Paths.{reached_pos, reached-le}
use Rattle.image_laws.proofs.RemoveRoom.{count_less, removed_entry}
use Rattle.image_laws.proofs.Removes.{moves, move_law}

-- ---- a room by any pages of directories

-- directory x has n of these pages
abbrev pub IsEntryBy : (ℕ → Type 0) → (ℕ → ℕ → Type 0) → ℕ → ℕ → Type 0
IsEntryBy D R x n = D x × Count (R x) n

-- the keys are the directories, and each has the number of its pages
abbrev pub HasRoomBy : (ℕ → Type 0) → (ℕ → ℕ → Type 0) → Room → Type 0
HasRoomBy D R room = (x n : ℕ) → (get room x ≡ Some n) ↔ IsEntryBy D R x n

module _ (D : ℕ → Type 0) (R S : ℕ → ℕ → Type 0) (room : Room) (has : HasRoomBy D R room) where
  same_entry : (x n : ℕ) → (D x → (j : ℕ) → R x j ↔ S x j) → (get room x ≡ Some n) ↔ IsEntryBy D S x n
  same_entry x n same = (
    (λ e. let (d, count) = (has x n).0 e in (d, count_same (R x) (S x) n (same d) count)),
    (λ (d, count). (has x n).1 (d, count_same (S x) (R x) n (λ j. ((same d j).1, (same d j).0)) count)),
  )

  pub same_pages : ((x : ℕ) → D x → (j : ℕ) → R x j ↔ S x j) → HasRoomBy D S room
  same_pages same x n = same_entry x n (same x)

  pages_are : (k n : ℕ) → D k → Count (R k) n → pages_in room k ≡ n
  pages_are k n d count = ap (λ o. unwrap_or o 0) ((has k n).1 (d, count))

  -- one directory has another number of pages
  other_pages : (k v : ℕ) → ((x : ℕ) → x ≢ k → D x → (j : ℕ) → R x j ↔ S x j) → D k → Count (S k) v → HasRoomBy D S (insert nat_cmp_total room k v)
  other_pages k v same d count x n = elim (cases_eq x k) [
    | inl e ↦ subst (λ y. (get (insert nat_cmp_total room k v) y ≡ Some n) ↔ IsEntryBy D S y n) (sym e) (
      (λ h. subst (IsEntryBy D S k) (same_some v n (sym (get-here room k v) ∙ h)) (d, count)),
      (λ (d', count'). get-here room k v ∙ ap Some (count_one (S k) v n count count')),
    )
    | inr ne ↦ let old = same_entry x n (same x ne) in ((λ h. old.0 (sym (get-other room k v x ne) ∙ h)), (λ r. get-other room k v x ne ∙ old.1 r))
  ]

  pub page_more : (k j : ℕ) → D k → (n : ℕ) × Count (R k) n → ¬ R k j → ((x : ℕ) → x ≢ k → D x → (y : ℕ) → R x y ↔ S x y)
      → ((y : ℕ) → S k y ↔ ((y ≡ j) ⊎ R k y)) → HasRoomBy D S (with_page room k)
  page_more k j d (n, count) none same more = other_pages k (pages_in room k + 1) same d
      (subst (λ m. Count (S k) (m + 1)) (sym (pages_are k n d count)) (count_more (R k) (S k) n j none more count))

  pub page_less : (k j : ℕ) → D k → (n : ℕ) × Count (R k) n → R k j → ((x : ℕ) → x ≢ k → D x → (y : ℕ) → R x y ↔ S x y)
      → ((y : ℕ) → S k y ↔ (R k y × (y ≢ j))) → HasRoomBy D S (without_page room k)
  page_less k j d (n, count) there same less = other_pages k (pages_in room k - 1) same d
      (subst (λ m. Count (S k) (m - 1)) (sym (pages_are k n d count)) (count_less (R k) (S k) n j there less count))

-- ---- the pages of directories after the move

module _ (P : ℕ) (I J : List ℕ) (pa pb : Route) (s d : ℕ) (c : CanMove P I pa pb s d) (a : GetsNumber P I J d (slot_inode P I s)) (after : HasMoved P I J (slot_name P I s ∷ pa) (slot_name P I d ∷ pb)) where
  -- what stood at the new path
  pub replaced_live : slot_inode P I d ≢ 0 → IsLive P I d
  replaced_live some = record {
    held = c.held;
    names = some;
    stays = λ q h points same. elim (cases_eq q d) [
      | inl e ↦ slots.apart P I J pa pb s d c a (let x = sym (sym (ap (slot_pointer P I) e) ∙ points) ∙ c.pointer in omega (arith, x))
      | inr ne ↦ (let z = c.alone q h ne in omega (arith, z, points))
    ];
  }

  -- it holds no live slot
  pub no_owner : (t : ℕ) → IsLive P I t → Reached P I (slot_owner P I t) → IsDirectory I (slot_owner P I t) → slot_owner P I t ≢ slot_inode P I d
  no_owner t live reached directory e =
      c.leaf (replaced_live (λ z. reached_pos P I (slot_owner P I t) reached (e ∙ z))) (ap (inode_kind I) (sym e) ∙ directory) t live e

  pub target_reached : Reached P J (slot_owner P I d)
  target_reached = (pb, subst (Names P J pb) (same_owner a.only d c.held.in_range) (slots.pb_stays P I J pa pb s d c a))

  reached_back : (x : ℕ) → Reached P J x → Reached P I x
  reached_back = slots.reached_back P I J pa pb s d c a

  kind_same : (x : ℕ) → Reached P I x → inode_kind J x ≡ inode_kind I x
  kind_same = kind_reached a.only c.coherent

  -- what is reached but the replaced stays reached
  pub reached_forward : (x : ℕ) → x ≢ slot_inode P I d → Reached P I x → Reached P J x
  reached_forward x ne (q, b) = go q x b ne
    where
      go : (q : Route) (x : ℕ) → Names P I q x → x ≢ slot_inode P I d → Reached P J x
      go [] x b ne = ([], b)
      go (m ∷ q) x (t, b, l) ne =
          let owner = same_owner a.only t l.live.held.in_range in
          elim (cases_eq t s) [
            | inl e ↦
                let is : x ≡ slot_inode P I s = sym l.inode ∙ ap (slot_inode P I) e in (
                  slot_name P I d ∷ pb,
                  (after.names (slot_name P I d ∷ pb) x).1 (inr (
                    [],
                    refl,
                    (
                      s,
                      c.source_path,
                      record {
                        directory = c.source_directory;
                        live = c.source;
                        name = refl;
                        inode = sym is;
                        in_range = l.in_range;
                      },
                    ),
                  )),
                )
            | inr ns ↦
                let nd : t ≢ d = λ e. ne (sym l.inode ∙ ap (slot_inode P I) e) in
                let (r, above) = go q (slot_owner P I t) b (no_owner t l.live (q, b) l.directory) in (
                  m ∷ r,
                  (
                    t,
                    subst (Names P J r) (sym owner) above,
                    record {
                      directory = ap (inode_kind J) owner ∙ kind_same (slot_owner P I t) (q, b) ∙ l.directory;
                      live = slots.live_forward P I J pa pb s d c a t ns nd l.live;
                      name = same_name a.only t ∙ l.name;
                      inode = a.only.inode t nd ∙ l.inode;
                      in_range = l.in_range;
                    },
                  ),
                )
          ]

  -- a directory that was replaced is reached no more
  replaced_gone : Reached P J (slot_inode P I d) → IsDirectory J (slot_inode P I d) → ⊥
  replaced_gone (q, b) two =
      let old = reached_back (slot_inode P I d) (q, b) in
      let directory : IsDirectory I (slot_inode P I d) = sym (kind_same (slot_inode P I d) old) ∙ two in
      let here : Names P I (slot_name P I d ∷ pb) (slot_inode P I d) = (
        d,
        c.target_path,
        record {
          directory = c.target_directory;
          live = replaced_live (reached_pos P I (slot_inode P I d) old);
          name = refl;
          inode = refl;
          in_range = reached-le P I c.coherent (slot_inode P I d) old;
        },
      ) in
      elim ((after.names q (slot_inode P I d)).0 b) [
        | inl (stays, under, other) ↦ other (one_path P I c.coherent q (slot_name P I d ∷ pb) (slot_inode P I d) directory stays here)
        | inr (r, is, below) ↦ slots.not_under P I J pa pb s d c a r (one_path P I c.coherent (slot_name P I d ∷ pb) (r ++ slot_name P I s ∷ pa) (slot_inode P I d) directory here below)
      ]

  -- ---- pages with a live slot

  pub room_back : (x j : ℕ) → IsRoomOf P J x j → ((x ≡ slot_owner P I d) × (j ≡ page_of_slot d)) ⊎ IsRoomOf P I x j
  room_back x j room =
      let (t, at, o, live) = room.slot in
      let owner = sym (same_owner a.only t live.held.in_range) ∙ o in
      elim (cases_eq t d) [
        | inl e ↦ inl (sym owner ∙ ap (slot_owner P I) e, sym at ∙ ap page_of_slot e)
        | inr ne ↦ inr (record {
          reached = reached_back x room.reached;
          directory = sym (kind_same x (reached_back x room.reached)) ∙ room.directory;
          slot = (t, at, owner, slots.live_back P I J pa pb s d c a t ne live);
        })
      ]

  pub room_new : IsRoomOf P J (slot_owner P I d) (page_of_slot d)
  room_new = record {
    reached = target_reached;
    directory = kind_same (slot_owner P I d) (pb, c.target_path) ∙ c.target_directory;
    slot = (d, refl, same_owner a.only d c.held.in_range, slots.live_new P I J pa pb s d c a);
  }

  pub room_old : IsRoomOf P I (slot_owner P I s) (page_of_slot s)
  room_old = record { reached = (pa, c.source_path); directory = c.source_directory; slot = (s, refl, refl, c.source) }

  pub room_cases : (x j : ℕ) → IsRoomOf P I x j → ((x ≡ slot_owner P I s) × (j ≡ page_of_slot s)) ⊎ IsRoomOf P J x j
  room_cases x j room =
      let (t, at, o, live) = room.slot in
      let reached = subst (Reached P I) (sym o) room.reached in
      let directory = ap (inode_kind I) o ∙ room.directory in
      elim (cases_eq t s) [
        | inl e ↦ inl (sym o ∙ ap (slot_owner P I) e, sym at ∙ ap page_of_slot e)
        | inr ns ↦ elim (cases_eq t d) [
          | inl e ↦ inr (subst (λ y. IsRoomOf P J y j) (sym (ap (slot_owner P I) e) ∙ o) (subst (IsRoomOf P J (slot_owner P I d)) (sym (ap page_of_slot e) ∙ at) room_new))
          | inr nd ↦ inr (record {
            reached = reached_forward x (λ same. no_owner t live reached directory (o ∙ same)) room.reached;
            directory = kind_same x room.reached ∙ room.directory;
            slot = (t, at, same_owner a.only t live.held.in_range ∙ o, slots.live_forward P I J pa pb s d c a t ns nd live);
          })
        ]
      ]

  -- ---- the room

  -- the directories before
  IsDir : ℕ → Type 0
  IsDir x = Reached P I x × IsDirectory I x

  -- the pages before, and that of the new name
  Grown : ℕ → ℕ → Type 0
  Grown x j = ((x ≡ slot_owner P I d) × (j ≡ page_of_slot d)) ⊎ IsRoomOf P I x j

  HadPage : Type 0
  HadPage = IsRoomOf P I (slot_owner P I d) (page_of_slot d)

  HasPage : Type 0
  HasPage = IsRoomOf P J (slot_owner P I s) (page_of_slot s)

  before : (room : Room) → HasRoom P I room → HasRoomBy IsDir (IsRoomOf P I) room
  unfolding IsDir
  before room has x n = ((λ e. let (r, k, count) = (has x n).0 e in ((r, k), count)), (λ (dir, count). (has x n).1 (dir.0, dir.1, count)))

  counted : (x : ℕ) → IsDir x → (n : ℕ) × Count (IsRoomOf P I x) n
  unfolding IsDir
  counted x (r, k) = room_counted P I x r k

  same_before : HadPage → (x j : ℕ) → IsRoomOf P I x j ↔ Grown x j
  unfolding HadPage Grown
  same_before had x j = (
    (λ room. inr room),
    (λ grown. elim grown [
      | inl new ↦ subst (λ y. IsRoomOf P I y j) (sym new.0) (subst (IsRoomOf P I (slot_owner P I d)) (sym new.1) had)
      | inr old ↦ old
    ]),
  )

  other_before : (x : ℕ) → x ≢ slot_owner P I d → (j : ℕ) → IsRoomOf P I x j ↔ Grown x j
  unfolding Grown
  other_before x ne j = ((λ room. inr room), (λ grown. elim grown [ inl new ↦ absurd (ne new.0) | inr old ↦ old ]))

  more_before : (j : ℕ) → Grown (slot_owner P I d) j ↔ ((j ≡ page_of_slot d) ⊎ IsRoomOf P I (slot_owner P I d) j)
  unfolding Grown
  more_before j = ((λ grown. elim grown [ inl new ↦ inl new.1 | inr old ↦ inr old ]), (λ h. elim h [ inl e ↦ inl (refl, e) | inr old ↦ inr old ]))

  target_dir : IsDir (slot_owner P I d)
  unfolding IsDir
  target_dir = ((pb, c.target_path), c.target_directory)

  source_dir : IsDir (slot_owner P I s)
  unfolding IsDir
  source_dir = ((pa, c.source_path), c.source_directory)

  grown_same : HadPage → (room : Room) → HasRoom P I room → HasRoomBy IsDir Grown room
  grown_same had room has = same_pages IsDir (IsRoomOf P I) Grown room (before room has) (λ x _ j. same_before had x j)

  grown_more : ¬ HadPage → (room : Room) → HasRoom P I room → HasRoomBy IsDir Grown (with_page room (slot_owner P I d))
  unfolding HadPage
  grown_more none room has = page_more IsDir (IsRoomOf P I) Grown room (before room has) (slot_owner P I d) (page_of_slot d) target_dir
      (counted (slot_owner P I d) target_dir) none (λ x ne _ j. other_before x ne j) more_before

  counted_same : HadPage → (n : ℕ) × Count (Grown (slot_owner P I s)) n
  counted_same had = let (n, count) = counted (slot_owner P I s) source_dir in
      (n, count_same (IsRoomOf P I (slot_owner P I s)) (Grown (slot_owner P I s)) n (same_before had (slot_owner P I s)) count)

  counted_more : ¬ HadPage → (n : ℕ) × Count (Grown (slot_owner P I s)) n
  unfolding HadPage
  counted_more none = let (n, count) = counted (slot_owner P I s) source_dir in elim (cases_eq (slot_owner P I s) (slot_owner P I d)) [
    | inl e ↦
        let (m, more) = counted (slot_owner P I d) target_dir in
        (m + 1, subst (λ x. Count (Grown x) (m + 1)) (sym e) (count_more (IsRoomOf P I (slot_owner P I d)) (Grown (slot_owner P I d)) m (page_of_slot d) none more_before more))
    | inr ne ↦ (n, count_same (IsRoomOf P I (slot_owner P I s)) (Grown (slot_owner P I s)) n (other_before (slot_owner P I s) ne) count)
  ]

  grown_old : (x j : ℕ) → Grown x j → ((x ≡ slot_owner P I s) × (j ≡ page_of_slot s)) ⊎ IsRoomOf P J x j
  unfolding Grown
  grown_old x j grown = elim grown [
    | inl new ↦ inr (subst (λ y. IsRoomOf P J y j) (sym new.0) (subst (IsRoomOf P J (slot_owner P I d)) (sym new.1) room_new))
    | inr old ↦ room_cases x j old
  ]

  grown_back : (x j : ℕ) → IsRoomOf P J x j → Grown x j
  unfolding Grown
  grown_back x j room = room_back x j room

  grown_here : Grown (slot_owner P I s) (page_of_slot s)
  unfolding Grown
  grown_here = inr room_old

  left_same : HasPage → (room : Room) → HasRoomBy IsDir Grown room → HasRoomBy IsDir (IsRoomOf P J) room
  unfolding HasPage
  left_same there room has = same_pages IsDir Grown (IsRoomOf P J) room has (λ x _ j. (
    (λ grown. elim (grown_old x j grown) [
      | inl old ↦ subst (λ y. IsRoomOf P J y j) (sym old.0) (subst (IsRoomOf P J (slot_owner P I s)) (sym old.1) there)
      | inr now ↦ now
    ]),
    grown_back x j,
  ))

  left_less : ¬ HasPage → (n : ℕ) × Count (Grown (slot_owner P I s)) n → (room : Room) → HasRoomBy IsDir Grown room → HasRoomBy IsDir (IsRoomOf P J) (without_page room (slot_owner P I s))
  unfolding HasPage
  left_less none number room has = page_less IsDir Grown (IsRoomOf P J) room has (slot_owner P I s) (page_of_slot s) source_dir number grown_here
      (λ x ne _ j. ((λ grown. elim (grown_old x j grown) [ inl old ↦ absurd (ne old.0) | inr now ↦ now ]), grown_back x j))
      (λ j. (
        (λ now. (grown_back (slot_owner P I s) j now, λ e. none (subst (IsRoomOf P J (slot_owner P I s)) e now))),
        (λ (grown, ne). elim (grown_old (slot_owner P I s) j grown) [ inl old ↦ absurd (ne old.1) | inr now ↦ now ]),
      ))

  -- the entry of a replaced directory goes
  without_replaced : (room : Room) → HasRoomBy IsDir (IsRoomOf P J) room → HasRoom P J (remove room (slot_inode P I d))
  unfolding IsDir
  without_replaced room has x n = removed_entry P J room (slot_inode P I d) x n (λ ne. (
    (λ e. let (dir, count) = (has x n).0 e in (reached_forward x ne dir.0, kind_same x dir.0 ∙ dir.1, count)),
    (λ (r, k, count). let old = reached_back x r in (has x n).1 ((old, sym (kind_same x old) ∙ k), count)),
  )) replaced_gone

  pub room_moved : HasRoomMoved P I J s d
  unfolding HadPage HasPage
  room_moved = record {
    kept = λ room has had there. without_replaced room (left_same there room (grown_same had room has));
    gained = λ room has none there. without_replaced (with_page room (slot_owner P I d)) (left_same there (with_page room (slot_owner P I d)) (grown_more none room has));
    given = λ room has had gone. without_replaced (without_page room (slot_owner P I s)) (left_less gone (counted_same had) room (grown_same had room has));
    both = λ room has none gone. without_replaced (without_page (with_page room (slot_owner P I d)) (slot_owner P I s))
        (left_less gone (counted_more none) (with_page room (slot_owner P I d)) (grown_more none room has));
  }

pub move_room_law : MoveRoomLaw
move_room_law P I pa pb s d c = room_moved P I (moved P I s d) pa pb s d c (moves P I pa pb s d c) (move_law P I pa pb s d c)
