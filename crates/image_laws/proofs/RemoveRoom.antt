-- The room after a slot gave up its inode number.
use Rattle.std.proofs.Common.{◌≡◌, ◌≢◌, ◌↔◌, ◌⊎◌, inl, inr, ℕ, ◌-◌, List, [], ◌∷◌, length, Some, None, cond, refl, sym, ap, subst, ◌∙◌, set, arith}
use Rattle.std.proofs.lemmas.Bool.{cases_eq}
use Rattle.std.specs.Cmp.{nat_cmp_total}
use Rattle.layout.specs.Fields.{slot_inode}
use Rattle.layout.specs.Geometry.{page_of_slot, slot_word_of}
use Rattle.tree_model.specs.PathText.{Route}
use Rattle.tree_model.specs.Table.{get, remove}
use Rattle.tree_model.specs.Tree.{Room, pages_in}
use Rattle.tree_model.proofs.TableLaws.{get-remove}
use Rattle.tree_model.proofs.TreeLaws.{same_id_itself, other_id}
use Rattle.tree_model.proofs.TreeKept.{none_some}
use Rattle.image_reading.specs.Counts.{Count, IsIn, IsDistinct}
use Rattle.image_reading.specs.Reading.{IsDirectory, slot_owner, Reached, IsRoomOf, HasRoom}
use Rattle.image_reading.proofs.Counts.{count_one}
use Rattle.image_reading.proofs.Credits.{count_same}
use Rattle.image_counts.proofs.Pages.{count_room}
use Rattle.image_laws.specs.Remove.{CanRemove, HasRoomRemoved, RemoveRoomLaw, without_page}
use Rattle.image_laws.proofs.AddRoom.{inserted}
use Rattle.image_laws.proofs.RemoveFacts as facts
use Rattle.image_laws.proofs.Rooms.{IsEntry}

-- ---- one less

without : ℕ → List ℕ → List ℕ
without s [] = []
without s (x ∷ xs) = elim (cases_eq x s) [ inl e ↦ without s xs | inr ne ↦ x ∷ without s xs ]

in_without : (s : ℕ) (xs : List ℕ) (x : ℕ) → IsIn x (without s xs) ↔ (IsIn x xs × (x ≢ s))
unfolding without
in_without s [] x = ((λ h. absurd h), (λ (h, ne). absurd h))
in_without s (y ∷ xs) x = elim (cases_eq y s) as (λ c. IsIn x (elim c [ inl e ↦ without s xs | inr ne ↦ y ∷ without s xs ]) ↔ (((x ≡ y) ⊎ IsIn x xs) × (x ≢ s))) [
  | inl e ↦ (
    (λ h. let (c, ne) = (in_without s xs x).0 h in (inr c, ne)),
    (λ (h, ne). elim h [ inl same ↦ absurd (ne (same ∙ e)) | inr c ↦ (in_without s xs x).1 (c, ne) ]),
  )
  | inr other ↦ (
    (λ h. elim h [ inl same ↦ (inl same, λ z. other (sym same ∙ z)) | inr g ↦ (let (c, ne) = (in_without s xs x).0 g in (inr c, ne)) ]),
    (λ (h, ne). elim h [ inl same ↦ inl same | inr c ↦ inr ((in_without s xs x).1 (c, ne)) ]),
  )
]

distinct_without : (s : ℕ) (xs : List ℕ) → IsDistinct xs → IsDistinct (without s xs)
unfolding without
distinct_without s [] h = tt
distinct_without s (y ∷ xs) h = elim (cases_eq y s) as (λ c. IsDistinct (elim c [ inl e ↦ without s xs | inr ne ↦ y ∷ without s xs ])) [
  | inl e ↦ distinct_without s xs h.1
  | inr ne ↦ ((λ c. h.0 ((in_without s xs y).0 c).0), distinct_without s xs h.1)
]

-- one that has Q is taken away
pub count_less : (Q R : ℕ → Type 0) (n s : ℕ) → Q s → ((x : ℕ) → R x ↔ (Q x × (x ≢ s))) → Count Q n → Count R (n - 1)
count_less Q R n s there same (xs, distinct, all, long) =
    let ys = without s xs in
    let fewer : Count R (length (without s xs)) = (
      without s xs,
      distinct_without s xs distinct,
      (λ x. (
        (λ c. let (old, ne) = (in_without s xs x).0 c in (same x).1 ((all x).0 old, ne)),
        (λ r. let (q, ne) = (same x).0 r in (in_without s xs x).1 ((all x).1 q, ne)),
      )),
      refl,
    ) in
    let whole : Count Q (length (s ∷ without s xs)) = (
      s ∷ without s xs,
      ((λ c. ((in_without s xs s).0 c).1 refl), distinct_without s xs distinct),
      (λ x. (
        (λ c. elim c [ inl e ↦ subst Q (sym e) there | inr g ↦ (all x).0 ((in_without s xs x).0 g).0 ]),
        (λ q. elim (cases_eq x s) [ inl e ↦ inl e | inr ne ↦ inr ((in_without s xs x).1 ((all x).1 q, ne)) ]),
      )),
      refl,
    ) in
    let total = count_one Q n (length (s ∷ without s xs)) (xs, distinct, all, long) whole in
    let fits : length (without s xs) ≡ n - 1 = omega (arith, total) in
    subst (Count R) fits fewer

-- ---- a room without one entry

pub get-gone : (room : Room) (i : ℕ) → get (remove room i) i ≡ None
get-gone room i = get-remove nat_cmp_total room i i ∙ ap (λ b. cond b None (get room i)) (same_id_itself i)

pub get-left : (room : Room) (i x : ℕ) → x ≢ i → get (remove room i) x ≡ get room x
get-left room i x ne = get-remove nat_cmp_total room i x ∙ ap (λ b. cond b None (get room x)) (other_id x i ne)

pub removed_entry : (P : ℕ) (J : List ℕ) (room : Room) (i x n : ℕ) → (x ≢ i → (get room x ≡ Some n) ↔ IsEntry P J x n) → (Reached P J i → IsDirectory J i → ⊥)
    → (get (remove room i) x ≡ Some n) ↔ IsEntry P J x n
removed_entry P J room i x n others none = elim (cases_eq x i) [
  | inl e ↦ subst (λ y. (get (remove room i) y ≡ Some n) ↔ IsEntry P J y n) (sym e) (
    (λ h. absurd (none_some n (sym (get-gone room i) ∙ h))),
    (λ r. absurd (none r.0 r.1)),
  )
  | inr ne ↦ let old = others ne in ((λ h. old.0 (sym (get-left room i x ne) ∙ h)), (λ r. get-left room i x ne ∙ old.1 r))
]

module _ (P : ℕ) (I : List ℕ) (p : Route) (s : ℕ) (c : CanRemove P I p s) where
  no_entry : Reached P (set I (slot_word_of P s 0) 0) (slot_inode P I s) → IsDirectory (set I (slot_word_of P s 0) 0) (slot_inode P I s) → ⊥
  no_entry r two = facts.directory_gone P I p s c (sym (facts.kind_same P I p s c (slot_inode P I s) (facts.i_reached P I p s c)) ∙ two) r

  -- a directory with the same pages
  entry_same : (x n : ℕ) → x ≢ slot_inode P I s → (x ≡ slot_owner P I s → IsRoomOf P (set I (slot_word_of P s 0) 0) x (page_of_slot s)) → IsEntry P I x n ↔ IsEntry P (set I (slot_word_of P s 0) 0) x n
  entry_same x n ne there = (
    (λ (r, k, count). (facts.reached_forward P I p s c x ne r, facts.kind_same P I p s c x r ∙ k, count_same (IsRoomOf P I x) (IsRoomOf P (set I (slot_word_of P s 0) 0) x) n pages count)),
    (λ (r, k, count).
        let old = facts.reached_back P I p s c x r in
        (old, sym (facts.kind_same P I p s c x old) ∙ k, count_same (IsRoomOf P (set I (slot_word_of P s 0) 0) x) (IsRoomOf P I x) n (λ j. ((pages j).1, (pages j).0)) count)),
  )
    where
      pages : (j : ℕ) → IsRoomOf P I x j ↔ IsRoomOf P (set I (slot_word_of P s 0) 0) x j
      pages j = (
        (λ room. elim (facts.room_cases P I p s c x j room) [
          | inl here ↦ subst (IsRoomOf P (set I (slot_word_of P s 0) 0) x) (sym here.1) (there here.0)
          | inr after ↦ after
        ]),
        facts.room_back P I p s c x j,
      )

  -- the directory that has a page less
  entry_less : (n : ℕ) → (IsRoomOf P (set I (slot_word_of P s 0) 0) (slot_owner P I s) (page_of_slot s) → ⊥) → IsEntry P I (slot_owner P I s) n → IsEntry P (set I (slot_word_of P s 0) 0) (slot_owner P I s) (n - 1)
  entry_less n none (r, k, count) = (
    facts.d_reached P I p s c,
    facts.kind_same P I p s c (slot_owner P I s) r ∙ k,
    count_less (IsRoomOf P I (slot_owner P I s)) (IsRoomOf P (set I (slot_word_of P s 0) 0) (slot_owner P I s)) n (page_of_slot s) (facts.room_here P I p s c) (λ j. (
      (λ room. (facts.room_back P I p s c (slot_owner P I s) j room, λ e. none (subst (IsRoomOf P (set I (slot_word_of P s 0) 0) (slot_owner P I s)) e room))),
      (λ (room, ne). elim (facts.room_cases P I p s c (slot_owner P I s) j room) [ inl here ↦ absurd (ne here.1) | inr after ↦ after ]),
    )) count,
  )

  owner_entry : (room : Room) → HasRoom P I room → IsEntry P I (slot_owner P I s) (pages_in room (slot_owner P I s))
  owner_entry room has = ((p, c.path), c.directory, count_room P I room has (slot_owner P I s) (p, c.path) c.directory)

  room_removed : HasRoomRemoved P I (set I (slot_word_of P s 0) 0) (slot_owner P I s) s (slot_inode P I s)
  room_removed = record {
    kept = λ room has there x n. removed_entry P (set I (slot_word_of P s 0) 0) room (slot_inode P I s) x n (λ ne.
        let same = entry_same x n ne (λ e. subst (λ y. IsRoomOf P (set I (slot_word_of P s 0) 0) y (page_of_slot s)) (sym e) there) in
        ((λ e. same.0 ((has x n).0 e)), (λ r. (has x n).1 (same.1 r)))) no_entry;
    given = λ room has none x n. removed_entry P (set I (slot_word_of P s 0) 0) (without_page room (slot_owner P I s)) (slot_inode P I s) x n (λ ne.
        inserted P (set I (slot_word_of P s 0) 0) room (slot_owner P I s) (pages_in room (slot_owner P I s) - 1) x n
        (λ other. let same = entry_same x n ne (λ e. absurd (other e)) in ((λ e. same.0 ((has x n).0 e)), (λ r. (has x n).1 (same.1 r))))
        (entry_less (pages_in room (slot_owner P I s)) none (owner_entry room has))) no_entry;
  }

pub remove_room_law : RemoveRoomLaw
remove_room_law P I p s c = room_removed P I p s c
