-- The links of each inode once a slot took the inode number of another.
use Rattle.std.proofs.Common.{◌≡◌, ◌≢◌, ◌↔◌, ◌⊎◌, inl, inr, ℕ, ◌+◌, ◌-◌, ◌<◌, List, refl, sym, ap, subst, ◌∙◌, arith}
use Rattle.std.proofs.lemmas.Bool.{cases_eq}
use Rattle.layout.specs.Fields.{word, inode_kind, inode_links, page_owner, slot_inode}
use Rattle.layout.specs.Geometry.{page_of_slot, slot_word_of}
use Rattle.tree_model.specs.PathText.{Route}
use Rattle.image_reading.specs.Counts.{Count}
use Rattle.image_reading.specs.Reading.{HasBytes, IsDirectory, slot_owner, IsLive, Reached, IsReachedSlot, IsNameOf, IsChildOf, IsLinkCount, IsRoomOf}
use Rattle.image_reading.specs.Repairs.{IsLitterPage, IsLitterInode}
use Rattle.image_reading.specs.Soundness.{Rule, HasLinks}
use Rattle.image_reading.proofs.Credits.{count_same, count_more, at_most-count}
use Rattle.image_laws.specs.Move.{CanMove, moved}
use Rattle.image_laws.proofs.Decide.{none_or_not, both_or_not}
use Rattle.image_laws.proofs.KeptSlots.{count_some}
use Rattle.image_laws.proofs.OnlySlot.{OnlySlot}
use Rattle.image_laws.proofs.Paths.{reached_pos, reach}
use Rattle.image_laws.proofs.RemoveRoom.{count_less}
use Rattle.rename_laws.proofs.MovedNames as here

-- ---- what is decided, as 1 or 0

abbrev holds : {X : Type 0} → X ⊎ ¬ X → ℕ
holds (inl x) = 1
holds (inr none) = 0

holds_none : (X : Type 0) (x : X ⊎ ¬ X) → ¬ X → holds x ≡ 0
holds_none X (inl x) none = absurd (none x)
holds_none X (inr never) none = refl

holds_some : (X : Type 0) (x : X ⊎ ¬ X) → X → holds x ≡ 1
holds_some X (inl x) some = refl
holds_some X (inr never) some = absurd (never some)

holds_same : (X Y : Type 0) (x : X ⊎ ¬ X) (y : Y ⊎ ¬ Y) → X ↔ Y → holds x ≡ holds y
holds_same X Y (inl x) y same = sym (holds_some Y y (same.0 x))
holds_same X Y (inr never) y same = sym (holds_none Y y (λ h. never (same.1 h)))

-- ---- s and d lose what Q says, and d gets it where A stands

count_fewer : (Q : ℕ → Type 0) (S : Type 0) (n s : ℕ) → Q s ↔ S → (here : S ⊎ ¬ S) → Count Q n → (m : ℕ) × Count (λ t. Q t × (t ≢ s)) m × (m + holds here ≡ n)
count_fewer Q S n s is (inl there) count =
    let some = count_some Q n s (is.1 there) count in
    (n - 1, count_less Q (λ t. Q t × (t ≢ s)) n s (is.1 there) (λ t. ((λ h. h), (λ h. h))) count, omega (arith, some))
count_fewer Q S n s is (inr none) count =
    (n, count_same Q (λ t. Q t × (t ≢ s)) n (λ t. ((λ q. (q, λ e. none (is.0 (subst Q e q)))), (λ h. h.0))) count, omega arith)

count_with : (Q R : ℕ → Type 0) (A : Type 0) (n d : ℕ) → ¬ Q d → ((t : ℕ) → R t ↔ (((t ≡ d) × A) ⊎ Q t)) → (new : A ⊎ ¬ A) → Count Q n → Count R (n + holds new)
count_with Q R A n d none after (inl a) count = count_more Q R n d none (λ t. (
  (λ r. elim ((after t).0 r) [ inl new ↦ inl new.0 | inr old ↦ inr old ]),
  (λ h. (after t).1 (elim h [ inl e ↦ inl (e, a) | inr old ↦ inr old ])),
)) count
count_with Q R A n d none after (inr never) count =
    let same : n ≡ n + 0 = omega arith in
    subst (Count R) same (count_same Q R n (λ t. ((λ q. (after t).1 (inr q)), (λ r. elim ((after t).0 r) [ inl new ↦ absurd (never new.1) | inr old ↦ old ]))) count)

count_moved : (Q R : ℕ → Type 0) (S D A : Type 0) (n s d : ℕ) → s ≢ d → Q s ↔ S → Q d ↔ D → ((t : ℕ) → R t ↔ (((t ≡ d) × A) ⊎ ((Q t × (t ≢ s)) × (t ≢ d))))
    → (source : S ⊎ ¬ S) (target : D ⊎ ¬ D) (new : A ⊎ ¬ A) → Count Q n → (m : ℕ) × Count R m × (m + holds source + holds target ≡ n + holds new)
count_moved Q R S D A n s d apart s_is d_is after source target new count =
    let (k, first, k_is) = count_fewer Q S n s s_is source count in
    let (m, second, m_is) = count_fewer (λ t. Q t × (t ≢ s)) D k d ((λ q. d_is.0 q.0), (λ h. (d_is.1 h, λ e. apart (sym e)))) target first in
    (m + holds new, count_with (λ t. (Q t × (t ≢ s)) × (t ≢ d)) R A m d (λ q. q.1 refl) after new second, omega (arith, k_is, m_is))

-- The count of the new parent has risen already: x is the new parent of a directory that replaces none.
pub record IsRaised (P : ℕ) (I : List ℕ) (s d x : ℕ) : Type 0 where
  pub directory : IsDirectory I (slot_inode P I s)
  pub parents : slot_owner P I d ≢ slot_owner P I s
  pub none : slot_inode P I d ≡ 0
  pub here : x ≡ slot_owner P I d

-- y has a link less: a file that is replaced, or the old parent of a directory that gets another one or replaces one
abbrev pub IsLowered : ℕ → List ℕ → ℕ → ℕ → ℕ → Type 0
IsLowered P I s d y =
    (HasBytes I (slot_inode P I s) × (slot_inode P I d ≢ 0) × (y ≡ slot_inode P I d))
    ⊎ (IsDirectory I (slot_inode P I s) × ((slot_owner P I d ≢ slot_owner P I s) ⊎ (slot_inode P I d ≢ 0)) × (y ≡ slot_owner P I s))

-- Before the commit nothing is to be repaired but slot d, its page and the count that has risen.
pub record IsAlmostTidy (P : ℕ) (I : List ℕ) (s d : ℕ) : Type 0 where
  pub kinds : slot_inode P I d ≢ 0 → inode_kind I (slot_inode P I d) ≡ inode_kind I (slot_inode P I s)
  pub slots : (t f : ℕ) → t ≢ d → IsRoomOf P I (page_owner P I (page_of_slot t)) (page_of_slot t) ⊎ (page_of_slot t ≡ page_of_slot d)
      → (IsLive P I t → ⊥) → f < 16
      → word I (slot_word_of P t f) ≡ 0
  pub pages : (j : ℕ) → IsLitterPage P I j → j ≡ page_of_slot d
  pub inodes : (x : ℕ) → IsLitterInode P I x → ⊥
  pub names : (x : ℕ) → Reached P I x → HasBytes I x → Count (IsNameOf P I x) (inode_links I x)
  pub children : (x : ℕ) → Reached P I x → IsDirectory I x → (m : ℕ) × Count (IsChildOf P I x) m
      × ((IsRaised P I s d x × (inode_links I x ≡ 3 + m)) ⊎ ((IsRaised P I s d x → ⊥) × (inode_links I x ≡ 2 + m)))

-- n is the link word of x less what falls
pub record IsFallen (P : ℕ) (I : List ℕ) (s d x n : ℕ) : Type 0 where
  pub falls : IsLowered P I s d x → n + 1 ≡ inode_links I x
  pub stays : (IsLowered P I s d x → ⊥) → n ≡ inode_links I x

module _ (P : ℕ) (I : List ℕ) (pa pb : Route) (s d : ℕ) (c : CanMove P I pa pb s d) where
  only : OnlySlot P I (moved P I s d) d
  only = here.only P I pa pb s d c

  kind_named : (t : ℕ) → t ≢ d → IsReachedSlot P I t
      → inode_kind (moved P I s d) (slot_inode P (moved P I s d) t) ≡ inode_kind I (slot_inode P I t)
  kind_named t nd r =
      ap (inode_kind (moved P I s d)) (only.inode t nd)
      ∙ here.kind_same P I pa pb s d c (slot_inode P I t) (reach P I t r ((c.coherent Rule.inodes t).most r))

  kind_new : inode_kind (moved P I s d) (slot_inode P (moved P I s d) d) ≡ inode_kind I (slot_inode P I s)
  kind_new =
      ap (inode_kind (moved P I s d)) (here.number_new P I pa pb s d c)
      ∙ here.kind_same P I pa pb s d c (slot_inode P I s) (here.source_reached P I pa pb s d c)

  -- the names of x are the old ones but those of both slots, and the new one
  name_after : (x t : ℕ) → IsNameOf P (moved P I s d) x t ↔ (((t ≡ d) × (x ≡ slot_inode P I s)) ⊎ ((IsNameOf P I x t × (t ≢ s)) × (t ≢ d)))
  name_after x t = (
    (λ n. elim (cases_eq t d) [
      | inl e ↦ inl (e, sym n.inode ∙ ap (slot_inode P (moved P I s d)) e ∙ here.number_new P I pa pb s d c)
      | inr nd ↦ inr ((record { slot = here.slot_back P I pa pb s d c t nd n.slot; inode = sym (only.inode t nd) ∙ n.inode }, here.not_source P I pa pb s d c t n.slot), nd)
    ]),
    (λ h. elim h [
      | inl new ↦ subst (IsNameOf P (moved P I s d) x) (sym new.0) (record { slot = here.slot_new P I pa pb s d c; inode = here.number_new P I pa pb s d c ∙ sym new.1 })
      | inr ((n, ns), nd) ↦ record { slot = here.slot_forward P I pa pb s d c t ns nd n.slot; inode = only.inode t nd ∙ n.inode }
    ]),
  )

  child_after : (x t : ℕ) → IsChildOf P (moved P I s d) x t
      ↔ (((t ≡ d) × ((x ≡ slot_owner P I d) × IsDirectory I (slot_inode P I s))) ⊎ ((IsChildOf P I x t × (t ≢ s)) × (t ≢ d)))
  child_after x t = (
    (λ n.
        let o = here.owner_same P I pa pb s d c t n.slot.live.held.in_range in
        elim (cases_eq t d) [
          | inl e ↦
              let kind = ap (λ u. inode_kind (moved P I s d) (slot_inode P (moved P I s d) u)) (sym e) in
              inl (e, (sym n.owner ∙ o ∙ ap (slot_owner P I) e, sym kind_new ∙ kind ∙ n.directory))
          | inr nd ↦
              let old = here.slot_back P I pa pb s d c t nd n.slot in
              inr ((record { slot = old; owner = sym o ∙ n.owner; directory = sym (kind_named t nd old) ∙ n.directory }, here.not_source P I pa pb s d c t n.slot), nd)
        ]),
    (λ h. elim h [
      | inl (e, (owner, dir)) ↦ subst (IsChildOf P (moved P I s d) x) (sym e)
          (record { slot = here.slot_new P I pa pb s d c; owner = here.owner_same P I pa pb s d c d c.held.in_range ∙ sym owner; directory = kind_new ∙ dir })
      | inr ((n, ns), nd) ↦ record {
        slot = here.slot_forward P I pa pb s d c t ns nd n.slot;
        owner = here.owner_same P I pa pb s d c t n.slot.live.held.in_range ∙ n.owner;
        directory = kind_named t nd n.slot ∙ n.directory;
      }
    ]),
  )

  pub source_kind : HasBytes I (slot_inode P I s) ⊎ IsDirectory I (slot_inode P I s)
  source_kind = (c.coherent Rule.kinds (slot_inode P I s)).kind (here.source_reached P I pa pb s d c)

  -- a directory moves out of x, or into x
  abbrev IsFrom : ℕ → Type 0
  IsFrom x = (x ≡ slot_owner P I s) × IsDirectory I (slot_inode P I s)

  abbrev IsInto : ℕ → Type 0
  IsInto x = (x ≡ slot_owner P I d) × IsDirectory I (slot_inode P I s)

  module _ (near : IsAlmostTidy P I s d) where
    -- ---- a file

    file_count : (x n : ℕ) → Reached P I x → HasBytes I x → IsFallen P I s d x n → Count (IsNameOf P (moved P I s d) x) n
    file_count x n r one fallen =
        let some : x ≡ slot_inode P I d → slot_inode P I d ≢ 0 = λ e z. reached_pos P I x r (e ∙ z) in
        let source = cases_eq x (slot_inode P I s) in
        let after = λ (target : (x ≡ slot_inode P I d) ⊎ (x ≢ slot_inode P I d)).
        count_moved (IsNameOf P I x) (IsNameOf P (moved P I s d) x) (x ≡ slot_inode P I s) (x ≡ slot_inode P I d) (x ≡ slot_inode P I s) (inode_links I x) s d (here.apart P I pa pb s d c)
        ((λ name. sym name.inode), (λ e. record { slot = here.source_slot P I pa pb s d c; inode = sym e }))
        ((λ name. sym name.inode), (λ e. record { slot = here.replaced_slot P I pa pb s d c (some e); inode = sym e }))
        (name_after x) source target source (near.names x r one) in
        elim (cases_eq x (slot_inode P I d)) [
          | inl e ↦
              let (m, count, total) = after (inl e) in
              let less = fallen.falls (inl (sym (near.kinds (some e)) ∙ sym (ap (inode_kind I) e) ∙ one, some e, e)) in
              let left : m ≡ n = omega (arith, total, less) in
              subst (Count (IsNameOf P (moved P I s d) x)) left count
          | inr ne ↦
              let (m, count, total) = after (inr ne) in
              let stays = fallen.stays (λ falls. elim falls [
                | inl replaced ↦ ne replaced.2
                | inr parent ↦ (let two = ap (inode_kind I) parent.2 ∙ c.source_directory in omega (arith, one, two))
              ]) in
              let left : m ≡ n = omega (arith, total, stays) in
              subst (Count (IsNameOf P (moved P I s d) x)) left count
        ]

    -- ---- a directory

    IsReplaced : ℕ → Type 0
    IsReplaced x = IsInto x × (slot_inode P I d ≢ 0)

    links_left : (x n k m : ℕ) → IsDirectory I x → IsFallen P I s d x n → (IsRaised P I s d x × (inode_links I x ≡ 3 + k)) ⊎ ((IsRaised P I s d x → ⊥) × (inode_links I x ≡ 2 + k))
        → (source : IsFrom x ⊎ ¬ IsFrom x) (target : IsReplaced x ⊎ ¬ IsReplaced x) (new : IsInto x ⊎ ¬ IsInto x) → m + holds source + holds target ≡ k + holds new → n ≡ 2 + m
    unfolding IsReplaced
    links_left x n k m two fallen links source target new total =
        let still : (IsRaised P I s d x → ⊥) → inode_links I x ≡ 2 + k = λ never. elim links [ inl risen ↦ absurd (never risen.0) | inr same ↦ same.1 ] in
        elim source_kind [
          | inl file ↦
              let no_source = holds_none _ source (λ h. (let dir = h.1 in omega (arith, dir, file))) in
              let no_target = holds_none _ target (λ h. (let dir = h.0.1 in omega (arith, dir, file))) in
              let no_new = holds_none _ new (λ h. (let dir = h.1 in omega (arith, dir, file))) in
              let same = still (λ risen. (let dir = risen.directory in omega (arith, dir, file))) in
              let stays = fallen.stays (λ falls. elim falls [
                | inl replaced ↦ (let kind = sym (ap (inode_kind I) (sym replaced.2) ∙ two) ∙ near.kinds replaced.1 ∙ file in omega (arith, kind))
                | inr parent ↦ (let dir = parent.0 in omega (arith, dir, file))
              ]) in
              omega (arith, total, no_source, no_target, no_new, same, stays)
          | inr dir ↦
              let falls : (slot_owner P I d ≢ slot_owner P I s) ⊎ (slot_inode P I d ≢ 0) → n + holds source ≡ inode_links I x = λ why. elim (cases_eq x (slot_owner P I s)) [
                | inl e ↦ (let one = holds_some _ source (e, dir) in let less = fallen.falls (inr (dir, why, e)) in omega (arith, one, less))
                | inr ne ↦
                    let none = holds_none _ source (λ h. ne h.0) in
                    let stays = fallen.stays (λ falls. elim falls [ inl file ↦ (let one = file.0 in omega (arith, one, dir)) | inr parent ↦ ne parent.2 ]) in
                    omega (arith, none, stays)
              ] in
              elim (cases_eq (slot_inode P I d) 0) [
                | inr some ↦
                    let same = holds_same _ _ target new ((λ h. h.0), (λ h. (h, some))) in
                    let unrisen = still (λ risen. some risen.none) in
                    let fell = falls (inr some) in
                    omega (arith, total, same, unrisen, fell)
                | inl none ↦
                    let no_target = holds_none _ target (λ h. h.1 none) in
                    elim (cases_eq (slot_owner P I d) (slot_owner P I s)) [
                      | inl parents ↦
                          let same = holds_same _ _ source new ((λ h. (h.0 ∙ sym parents, dir)), (λ h. (h.0 ∙ parents, dir))) in
                          let unrisen = still (λ risen. risen.parents parents) in
                          let stays = fallen.stays (λ falls. elim falls [
                            | inl file ↦ (let one = file.0 in omega (arith, one, dir))
                            | inr parent ↦ elim parent.1 [ inl other ↦ other parents | inr some ↦ some none ]
                          ]) in
                          omega (arith, total, no_target, same, unrisen, stays)
                      | inr parents ↦
                          let risen : inode_links I x ≡ 2 + k + holds new = elim links [
                            | inl rises ↦ (let one = holds_some _ new (rises.0.here, dir) in let more = rises.1 in omega (arith, one, more))
                            | inr same ↦
                                let no_new = holds_none _ new (λ h. same.0 (record { directory = dir; parents = parents; none = none; here = h.0 })) in
                                let links = same.1 in
                                omega (arith, no_new, links)
                          ] in
                          let fell = falls (inl parents) in
                          omega (arith, total, no_target, risen, fell)
                    ]
              ]
        ]

    directory_count : (x n : ℕ) → Reached P I x → IsDirectory I x → IsFallen P I s d x n → (m : ℕ) × Count (IsChildOf P (moved P I s d) x) m × (n ≡ 2 + m)
    unfolding IsReplaced
    directory_count x n r two fallen =
        let (k, children, links) = near.children x r two in
        let dir = cases_eq (inode_kind I (slot_inode P I s)) 2 in
        let some : (slot_inode P I d ≢ 0) ⊎ ¬ (slot_inode P I d ≢ 0) = none_or_not (slot_inode P I d ≡ 0) (cases_eq (slot_inode P I d) 0) in
        let source = both_or_not (x ≡ slot_owner P I s) (IsDirectory I (slot_inode P I s)) (cases_eq x (slot_owner P I s)) dir in
        let new = both_or_not (x ≡ slot_owner P I d) (IsDirectory I (slot_inode P I s)) (cases_eq x (slot_owner P I d)) dir in
        let target = both_or_not (IsInto x) (slot_inode P I d ≢ 0) new some in
        let (m, count, total) = count_moved (IsChildOf P I x) (IsChildOf P (moved P I s d) x) (IsFrom x) (IsReplaced x) (IsInto x) k s d (here.apart P I pa pb s d c)
        ((λ child. (sym child.owner, child.directory)), (λ h. record { slot = here.source_slot P I pa pb s d c; owner = sym h.0; directory = h.1 })) (
          (λ child. let named = child.slot.live.names in ((sym child.owner, sym (near.kinds named) ∙ child.directory), named)),
          (λ (into, some). record { slot = here.replaced_slot P I pa pb s d c some; owner = sym into.0; directory = near.kinds some ∙ into.1 }),
        )
        (child_after x) source target new children in
        (m, count, links_left x n k m two fallen links source target new total)

    -- ---- both

    pub counted : (x n : ℕ) → Reached P I x → IsFallen P I s d x n → IsLinkCount P (moved P I s d) x n
    counted x n r fallen = record {
      file = λ one. file_count x n r (sym (here.kind_same P I pa pb s d c x r) ∙ one) fallen;
      directory = λ two. directory_count x n r (sym (here.kind_same P I pa pb s d c x r) ∙ two) fallen;
    }

    pub enough : (x n : ℕ) → Reached P I x → IsFallen P I s d x n → HasLinks P (moved P I s d) x n
    enough x n r fallen =
        let count = counted x n r fallen in record {
          file = λ one. (at_most-count (IsNameOf P (moved P I s d) x) 0 n n (count.file one)).1 (omega arith);
          directory = λ two. let (m, children, e) = count.directory two in (at_most-count (IsChildOf P (moved P I s d) x) 2 m n children).1 (omega (arith, e));
        }
