-- What recovery makes of some images of 16 pages, by the words: page 0 has its descriptor at word 1,024 and its first two
-- slots at words 1,536 and 1,552.
use Rattle.std.proofs.Common.{◌≡◌, inl, inr, ℕ, ◌<◌, List, refl, sym, ap, ◌∙◌, arith}
use Rattle.layout.specs.Fields.{word, page_owner, page_kind, slot_inode, slot_pointer}
use Rattle.layout.specs.Geometry.{inode_pages_of, descriptor_pages_of, inodes_of, data_pages_of, slots_of, page_of_slot, inode_word_of, descriptor_word_of, slot_word_of}
use Rattle.layout.proofs.Widths.{inode_field_read, descriptor_field_read}
use Rattle.image_reading.specs.Reading.{slot_owner, IsHeld, Reached}
use Rattle.image_reading.specs.Soundness.{IsCoherent}
use Rattle.image_laws.proofs.Paths.{reached_pos}
use Rattle.repair_laws.specs.Mended.{IsUnkept, GivesUp, Unpoints, Frees, Mends, IsMended}
use Rattle.repair_laws.proofs.Apart.{gives_slot, unpoints_slot, clears_slot, frees_slot}
use Rattle.repair_laws.proofs.Pointing.{one_points, left_points}

module _ (W K : List ℕ) (coherent : IsCoherent 16 W) (mended : IsMended 16 W K) where
  -- the second slot of a page of the root
  second_held : word W 1024 ≡ 1 → word W 1025 ≡ 2 → IsHeld 16 W 1
  unfolding slots_of data_pages_of inode_pages_of descriptor_pages_of page_kind slot_owner page_owner page_of_slot descriptor_word_of
  second_held owner kind = record { in_range = omega arith; kind = kind; owned = λ none. omega (arith, owner, none) }

  -- A rename that has its commit: the second slot points at the first and has its inode number. The old name goes.
  committed : word W 1024 ≡ 1 → word W 1025 ≡ 2 → word W 1536 ≡ 2 → word W 1552 ≡ 2 → word W 1553 ≡ 1 → (word K 1536 ≡ 0) × (word K 1553 ≡ 0)
  unfolding slot_inode slot_pointer slot_word_of
  committed owner kind old new pointer = (
    mended.new 1536 0 (Mends.gives_up (GivesUp.number 0 1 (record {
      held = second_held owner kind;
      points = pointer;
      same = new ∙ sym old;
      names = λ none. omega (arith, old, none);
    }))),
    mended.new 1553 0 (Mends.unpoints (Unpoints.pointer 1 (second_held owner kind))),
  )

  -- One that hasn't: the second slot points and has no number. The old name stays.
  uncommitted : word W 1024 ≡ 1 → word W 1025 ≡ 2 → word W 1552 ≡ 0 → word W 1553 ≡ 1 → (word K 1536 ≡ word W 1536) × (word K 1553 ≡ 0)
  unfolding slot_inode slot_pointer slot_word_of
  uncommitted owner kind new pointer = (
    elim (mended.words 1536) [ inl same ↦ same | inr has ↦ absurd (never has.0 has.1) ],
    mended.new 1553 0 (Mends.unpoints (Unpoints.pointer 1 (second_held owner kind))),
  )
    where
      never : (v : ℕ) → Mends 16 W 1536 v → ⊥
      never v (Mends.unpoints h) = let (one, held) = unpoints_slot 16 W 0 0 (omega arith) h refl in omega (arith, one)
      never v (Mends.clears h) = let (some, dead, none) = clears_slot 16 W 0 0 coherent (omega arith) h refl in omega (arith, some)
      never v (Mends.frees h) = frees_slot 16 W 0 0 (omega arith) h refl
      never v (Mends.gives_up h) =
          let (zero, d, left) = gives_slot 16 W 0 0 (omega arith) h refl in
          let is : d ≡ 1 = one_points 16 W coherent d 1 (left_points 16 W coherent 0 d left) (record { held = second_held owner kind; some = λ none. omega (arith, none, pointer) }) in
          left.names (sym left.same ∙ ap (slot_inode 16 W) is ∙ new)

  -- A slot in a page of inode 3 points at the first slot, and has its inode number: that name goes, whoever reaches inode 3.
  hidden : word W 1032 ≡ 3 → word W 1033 ≡ 2 → word W 1536 ≡ 2 → word W 2048 ≡ 2 → word W 2049 ≡ 1 → (word K 1536 ≡ 0) × (word K 2049 ≡ 0)
  unfolding slot_inode slot_pointer slot_word_of slots_of data_pages_of inode_pages_of descriptor_pages_of page_kind slot_owner page_owner page_of_slot descriptor_word_of
  hidden owner kind old new pointer = (
    mended.new 1536 0 (Mends.gives_up (GivesUp.number 0 32 (record { held = held; points = pointer; same = new ∙ sym old; names = λ none. omega (arith, old, none) }))),
    mended.new 2049 0 (Mends.unpoints (Unpoints.pointer 32 held)),
  )
    where
      held : IsHeld 16 W 32
      held = record { in_range = omega arith; kind = kind; owned = λ none. omega (arith, owner, none) }

  -- A page without an owner gives up its kind and its offset.
  unowned : word W 1024 ≡ 0 → (word K 1025 ≡ 0) × (word K 1026 ≡ 0)
  unfolding page_owner descriptor_word_of data_pages_of inode_pages_of descriptor_pages_of
  unowned none = (
    mended.new 1025 0 (Mends.frees (Frees.descriptor 0 1 unkept (omega arith) (descriptor_field_read W 1 (omega arith)))),
    mended.new 1026 0 (Mends.frees (Frees.descriptor 0 2 unkept (omega arith) (descriptor_field_read W 2 (omega arith)))),
  )
    where
      unkept : IsUnkept 16 W 0
      unkept = record {
        in_range = omega arith;
        free = λ kept. elim kept [ inl page ↦ reached_pos 16 W (page_owner 16 W 0) page.owner none | inr room ↦ reached_pos 16 W (page_owner 16 W 0) room.reached none ];
      }

  -- An inode that nothing names gives up its words.
  unnamed : ¬ Reached 16 W 2 → (word K 528 ≡ 0) × (word K 529 ≡ 0) × (word K 530 ≡ 0) × (word K 531 ≡ 0)
  unfolding inode_word_of inodes_of
  unnamed unreached = (free 0 (omega arith), free 1 (omega arith), free 2 (omega arith), free 3 (omega arith))
    where
      free : (f : ℕ) → f < 4 → word K (inode_word_of 2 f) ≡ 0
      free f small = mended.new (inode_word_of 2 f) 0 (Mends.frees (Frees.inode 2 f (record { least = omega arith; most = omega arith; unreached = unreached }) (inode_field_read W f small)))
