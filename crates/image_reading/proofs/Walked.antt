-- The walk over the directories finds what is reached.
use Rattle.std.proofs.Common.{◌≡◌, ◌↔◌, ◌⊎◌, inl, inr, ℕ, ◌+◌, ◌*◌, ◌%◌, ◌<◌, ◌≤◌, false, List, [], ◌∷◌, get_or, vec_len, refl, sym, ap, subst, ◌∙◌, arith}
use Rattle.std.proofs.lemmas.Bool.{cases_eq}
use Rattle.layout.specs.Geometry.{inodes_of, slots_of, page_of_slot}
use Rattle.layout.proofs.GeometryLaws.{page_of_slot_below}
use Rattle.layout.specs.Fields.{page_owner, slot_inode}
use Rattle.image_reading.specs.Reading.{IsDirectory, slot_owner, IsReachedSlot, Reached}
use Rattle.image_reading.specs.Scan.{IsRename}
use Rattle.image_reading.specs.Walk.{IsFound, IsQueued, IsWalk, Extends, IsCleared, Marks, IsDirectorySlot, IsDirectoryPage, IsTaken, IsPageTaken, IsClosed}
use Rattle.image_reading.specs.declared.held.Rename.{Rename}
use Rattle.image_reading.specs.declared.reach.Reach.{Reach}
use Rattle.image_reading.proofs.Readings.{reached_law}
use Rattle.image_reading.proofs.Linked.{PagesDone, pages_end}

-- a reached number is an inode's
pub reached_range : (P : ℕ) (I : List ℕ) (i : ℕ) → 1 ≤ inodes_of P → Reached P I i → (1 ≤ i) × (i ≤ inodes_of P)
reached_range P I i some ([], e) = (omega (arith, e), omega (arith, e, some))
reached_range P I i some (n ∷ p, (s, names, leads)) = let inode = leads.inode in let name = leads.live.names in (omega (arith, inode, name), leads.in_range)

module _ (P : ℕ) (I : List ℕ) where
  -- what has been taken stays taken
  pub taken_later : (a b : Reach) (s : ℕ) → Extends a b → IsTaken P I a s → IsTaken P I b s
  taken_later a b s f h live lt = f.keeps _ (h live lt)

  pub closed_later : (a b : Reach) (i : ℕ) → Extends a b → IsClosed P I a i → IsClosed P I b i
  closed_later a b i f h directory s owner = taken_later a b s f (h directory s owner)

  -- a reached slot's inode, marked
  pub walk_marks : (a b : Reach) (s inode : ℕ) → inode ≡ slot_inode P I s → inode ≤ inodes_of P → IsReachedSlot P I s → IsWalk P I a → Marks inode a b → IsWalk P I b
  walk_marks a b s inode is within slot walk mark = record {
    pointer = subst (λ (r : Rename). IsRename P I r.target r.inode) (sym mark.pointer) walk.pointer;
    size = mark.size ∙ walk.size;
    sound = λ i found. elim (mark.only i found) [
      | inl old ↦ walk.sound i old
      | inr e ↦ subst (Reached P I) (sym (e ∙ is)) ((reached_law P I).named s slot (subst (λ z. z ≤ inodes_of P) is within))
    ];
    ordered = mark.ordered walk.ordered;
  }

  -- a slot of a directory's page
  pub slot_of_page : (j s : ℕ) → page_of_slot s ≡ j → s < slots_of P → IsDirectoryPage P I j → IsDirectorySlot P I s
  unfolding slot_owner
  slot_of_page j s at lt page = record {
    in_range = lt;
    owner = subst (λ p. Reached P I (page_owner P I p)) (sym at) page.owner;
    directory = subst (λ p. IsDirectory I (page_owner P I p)) (sym at) page.directory;
  }

  pub all_taken : (r : Reach) (j : ℕ) → ((k : ℕ) → k < 32 → IsTaken P I r (32 * j + k)) → (s : ℕ) → page_of_slot s ≡ j → IsTaken P I r s
  unfolding page_of_slot
  all_taken r j h s e =
      let is : 32 * j + s % 32 ≡ s = omega (arith, e) in
      let small : s % 32 < 32 = omega arith in
      subst (IsTaken P I r) is (h (s % 32) small)

  pub page_taken_later : (a b : Reach) (j : ℕ) → Extends a b → IsPageTaken P I a j → IsPageTaken P I b j
  page_taken_later a b j f h s e = taken_later a b s f (h s e)

  -- where all pages of inode i are done, it is closed
  pub pages_closed : (r : Reach) (i link : ℕ) → link ≡ 0 → PagesDone P I i (IsPageTaken P I r) link → IsClosed P I r i
  unfolding slot_owner
  pages_closed r i link none pages _ s owner live =
      pages_end P I i (IsPageTaken P I r) link none pages (page_of_slot s) (page_of_slot_below P s live.held.in_range) owner s refl live

  -- the root alone
  pub walk_root : (rename : Rename) (old a b : Reach) → IsRename P I rename.target rename.inode → vec_len old.reached ≡ inodes_of P + 1 → IsCleared rename old a → Marks 1 a b → IsWalk P I b
  walk_root rename old a b pointer size clear mark = record {
    pointer = subst (λ (r : Rename). IsRename P I r.target r.inode) (sym (mark.pointer ∙ clear.pointer)) pointer;
    size = mark.size ∙ clear.size ∙ size;
    sound = λ i found. elim (mark.only i found) [ inl none ↦ absurd (clear.none i none) | inr e ↦ subst (Reached P I) (sym e) (reached_law P I).root ];
    ordered = mark.ordered (λ m lt. absurd (omega (arith, clear.start, lt)));
  }

  -- all that is found is queued at first
  pub queued_first : (rename : Rename) (old a b : Reach) → IsCleared rename old a → Marks 1 a b → (i : ℕ) → IsFound b i → IsClosed P I b i ⊎ IsQueued b 0 i
  queued_first rename old a b clear mark i found = elim (mark.extends.more i found) [
    | inl none ↦ absurd (clear.none i none)
    | inr (m, le, lt, e) ↦ inr (m, omega arith, lt, e)
  ]

  -- the one at place k is closed
  pub done_more : (a b : Reach) (k : ℕ) → k < a.seen → ((i : ℕ) → IsFound a i → IsClosed P I a i ⊎ IsQueued a k i) → Extends a b → IsClosed P I b (get_or a.order.items k 0)
      → (i : ℕ) → IsFound b i → IsClosed P I b i ⊎ IsQueued b (k + 1) i
  done_more a b k within done f here i found = elim (f.more i found) [
    | inr (m, le, lt, e) ↦ inr (m, omega (arith, within, le), lt, e)
    | inl old ↦ elim (done i old) [
      | inl closed ↦ inl (closed_later a b i f closed)
      | inr (m, le, lt, e) ↦ elim (cases_eq m k) [
        | inl same ↦ inl (subst (IsClosed P I b) (ap (λ z. get_or a.order.items z 0) (sym same) ∙ e) here)
        | inr ne ↦ inr (m, omega (arith, le, ne), (let later = f.later in omega (arith, lt, later)), f.order m lt ∙ e)
      ]
    ]
  ]

  -- where all are closed, all that is reached is found
  pub all_found : (r : Reach) (k : ℕ) → r.seen ≤ k → IsWalk P I r → IsFound r 1 → ((i : ℕ) → IsFound r i → IsClosed P I r i ⊎ IsQueued r k i) → (i : ℕ) → IsFound r i ↔ Reached P I i
  all_found r k end walk root done i = (
    walk.sound i,
    (λ reached. (reached_law P I).least (λ j. get_or r.reached.items j false) root
        (λ s found directory live lt. elim (done (slot_owner P I s) found) [
          | inl closed ↦ closed directory s refl live lt
          | inr (m, le, before, e) ↦ absurd (omega (arith, le, before, end))
        ])
        i reached),
  )
