-- What the readers of a scanned image answer.
use Rattle.std.proofs.Common.{◌≡◌, ◌≢◌, ◌↔◌, inl, inr, ℕ, ◌+◌, ◌-◌, ◌<◌, ◌≤◌, List, Option, None, Some, refl, sym, ap, subst, ◌∙◌, arith}
use Rattle.std.proofs.lemmas.Bool.{cases_eq, cases_lt}
use Rattle.layout.proofs.GeometryLaws.{page_of_slot_below}
use Rattle.layout.specs.Geometry.{data_pages_of, page_of_slot}
use Rattle.layout.specs.Fields.{inode_links, inode_size, page_owner, page_offset, slot_inode}
use Rattle.image_reading.specs.Counts.{Count}
use Rattle.image_reading.specs.Reading.{HasBytes, IsDirectory, IsHeld, slot_owner, Reached, IsNameOf, IsChildOf, IsLinkCount, pages_of_size}
use Rattle.image_reading.specs.Repairs.{IsKept, IsPointer, IsLeft}
use Rattle.image_reading.specs.Litter.{HasLiveSlot}
use Rattle.image_reading.specs.Scan.{IsCredit, IsRename}
use Rattle.image_reading.specs.Soundness.{Rule, IsCoherent}
use Rattle.image_reading.proofs.Credits.{count_same, name_credit, child_credit, enough_directory}

module _ (P : ℕ) (I : List ℕ) where
  -- ---- kept pages

  pub kept_within : (j : ℕ) → IsKept P I j → j < data_pages_of P
  kept_within j kept = elim kept [
    | inl page ↦ page.in_range
    | inr room ↦ let (s, at, owner, live) = room.slot in let within = page_of_slot_below P s live.held.in_range in omega (arith, within, at)
  ]

  pub kept_owner : (j : ℕ) → IsKept P I j → Reached P I (page_owner P I j)
  kept_owner j kept = elim kept [ inl page ↦ page.owner | inr room ↦ room.reached ]

  module _ (j : ℕ) where
    pub kept_below : HasBytes I (page_owner P I j) → IsKept P I j → page_offset P I j < pages_of_size (inode_size I (page_owner P I j))
    kept_below file kept = elim kept [ inl page ↦ page.below | inr room ↦ absurd (let directory = room.directory in omega (arith, file, directory)) ]

    pub kept_live : ¬ HasBytes I (page_owner P I j) → IsKept P I j → HasLiveSlot P I j
    kept_live other kept = elim kept [ inl page ↦ absurd (other page.file) | inr room ↦ let (s, at, owner, live) = room.slot in (s, at, live) ]

    owner_of_slot : (s : ℕ) → page_of_slot s ≡ j → slot_owner P I s ≡ page_owner P I j
    unfolding slot_owner
    owner_of_slot s at = ap (page_owner P I) at

    pub live_kept : IsCoherent P I → Reached P I (page_owner P I j) → ¬ HasBytes I (page_owner P I j) → HasLiveSlot P I j → IsKept P I j
    live_kept coherent reached other (s, at, live) = inr (record {
      reached = reached;
      directory = elim ((coherent Rule.kinds (page_owner P I j)).kind reached) [ inl file ↦ absurd (other file) | inr directory ↦ directory ];
      slot = (s, at, owner_of_slot s at, live);
    })

  -- ---- links

  module _ (i n : ℕ) (count : Count (IsCredit P I i) n) where
    pub directory_links : IsDirectory I i → IsLinkCount P I i (2 + n)
    directory_links directory = record {
      file = λ file. absurd (omega (arith, file, directory));
      directory = λ _. (n, count_same (IsCredit P I i) (IsChildOf P I i) n (λ s. child_credit P I i s directory) count, refl);
    }

    pub name_links : ¬ IsDirectory I i → IsLinkCount P I i n
    name_links other = record {
      file = λ file. count_same (IsCredit P I i) (IsNameOf P I i) n (λ s. name_credit P I i s file) count;
      directory = λ directory. absurd (other directory);
    }

    pub enough_links : IsCoherent P I → Reached P I i → IsDirectory I i → 2 + n ≤ inode_links I i
    enough_links coherent reached directory = (enough_directory P I i (inode_links I i) n refl count directory).1 (coherent Rule.links i reached)

  -- ---- the rename pointer

  pub one_pointer : (r s : ℕ) → IsCoherent P I → IsPointer P I r → IsPointer P I s → r ≡ s
  one_pointer r s coherent p q = elim (cases_eq r s) [
    | inl same ↦ same
    | inr other ↦ elim (cases_lt r s) [
      | inl lt ↦ absurd (q.nonzero (coherent Rule.one_pointer s r lt p.held q.held p.nonzero))
      | inr le ↦ absurd (p.nonzero (coherent Rule.one_pointer r s (omega (arith, le, other)) q.held p.held q.nonzero))
    ]
  ]

  -- the slot that a pointer names is the one that is left, if both have one number
  module _ (target inode : ℕ) (rename : IsRename P I target inode) where
    pub left_target : (s : ℕ) → IsLeft P I s → (target ≡ s + 1) × (inode ≡ slot_inode P I s) × (inode ≢ 0)
    left_target s (d, left) =
        let pointer : IsPointer P I d = record { held = left.held; nonzero = λ zero. (let points = left.points in omega (arith, points, zero)) } in
        let (to, number) = rename.all d pointer in (
          sym to ∙ left.points,
          sym number ∙ left.same,
          λ zero. left.names (sym left.same ∙ number ∙ zero),
        )

    pub target_left : target ≢ 0 → inode ≢ 0 → slot_inode P I (target - 1) ≡ inode → IsLeft P I (target - 1)
    target_left some names same =
        let (d, held, to, number) = rename.some some in (
          d,
          record {
            held = held;
            points = to ∙ omega (arith, some);
            same = number ∙ sym same;
            names = λ zero. names (sym same ∙ zero);
          },
        )

    pub target_held : IsCoherent P I → target ≢ 0 → IsHeld P I (target - 1)
    target_held coherent some =
        let (d, held, to, number) = rename.some some in
        subst (λ (k : ℕ). IsHeld P I (k - 1)) to ((coherent Rule.pointers d).held held (λ zero. some (sym to ∙ zero)))

-- ---- an answer that is the one place with Q

pub none_at : (Q : ℕ → Type 0) → ((s : ℕ) → ¬ Q s) → (s : ℕ) → (◌≡◌ {A = Option ℕ} None (Some s)) ↔ Q s
none_at Q none s = ((λ is. absurd (let e = is in cc)), (λ q. absurd (none s q)))

pub only_at : (Q : ℕ → Type 0) (p : ℕ) → Q p → ((s : ℕ) → Q s → p ≡ s) → (s : ℕ) → (◌≡◌ {A = Option ℕ} (Some p) (Some s)) ↔ Q s
only_at Q p here one s = ((λ is. subst Q (let e = is in cc) here), (λ q. ap (λ (k : ℕ). Some k) (one s q)))
