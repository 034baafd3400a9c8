-- Once the slot has the file's number, nothing is to be repaired.
use Rattle.std.proofs.Common.{◌≡◌, ◌≢◌, ◌↔◌, inl, inr, ℕ, ◌+◌, List, refl, sym, ap, subst, ◌∙◌, arith}
use Rattle.std.proofs.lemmas.Bool.{cases_eq}
use Rattle.layout.specs.Fields.{word, inode_kind, inode_links, slot_inode}
use Rattle.layout.specs.Geometry.{slot_word_of}
use Rattle.tree_model.specs.PathText.{Route}
use Rattle.image_reading.specs.Counts.{Count}
use Rattle.image_reading.specs.Reading.{Reached, IsNameOf, IsChildOf, IsLinkCount}
use Rattle.image_reading.specs.Repairs.{IsLitterCount}
use Rattle.image_reading.specs.Soundness.{IsCoherent}
use Rattle.image_reading.specs.Tidy.{IsTidied}
use Rattle.image_laws.specs.Add.{CanAdd, IsOldFile}
use Rattle.image_laws.specs.Grown.{HasGrown}
use Rattle.image_laws.specs.Link.{MakesLink}
use Rattle.image_laws.specs.Stages.{IsReadySlot}
use Rattle.image_laws.proofs.AddTidy as adds
use Rattle.image_laws.proofs.AddTidy.{IsWritten}
use Rattle.image_laws.proofs.KeptSlots as slot_laws
use Rattle.image_laws.proofs.KeptSlots.{count_kept, count_gained}
use Rattle.image_laws.proofs.Linking as linking
use Rattle.image_laws.proofs.OnlySlot.{OnlySlot}
use Rattle.image_laws.proofs.Paths.{reached-le}
use Rattle.image_laws.proofs.Ready.{IsCleanSlot}

module _ (P : ℕ) (B C D : List ℕ) (p : Route) (d s i : ℕ) (name : List ℕ) (place : IsReadySlot P B p d s name) (of_file : IsOldFile P B i) (makes : MakesLink P B C s i name)
    (can : CanAdd P C p d s i) (only : OnlySlot P C D s) (stored : slot_inode P D s ≡ i) (others : (a : ℕ) → a ≢ slot_word_of P s 0 → word D a ≡ word C a) (coherent : IsCoherent P D) where
  written : IsWritten P B C s i i name
  written = record {
    named = linking.named P B C p d s i name place of_file makes;
    linked = of_file.reached;
    inodes = λ x f some most lt old links. linking.inode_same P B C p d s i name place of_file makes x f some most lt links;
  }

  kind_same : (x : ℕ) → Reached P B x → inode_kind D x ≡ inode_kind B x
  kind_same = (adds.nodes place written can only stored others coherent).kind

  links_after : inode_links D i ≡ inode_links B i + 1
  links_after = only.links i (reached-le P B place.coherent i of_file.reached) ∙ makes.links

  names_same : (x t : ℕ) → t ≢ s → IsNameOf P B x t ↔ IsNameOf P D x t
  names_same = slot_laws.names (adds.kept place written can only stored others coherent)

  not_before : (x : ℕ) → IsNameOf P B x s → ⊥
  not_before x n = adds.old_slot place written can only stored others coherent s n.slot refl

  file_links : (x : ℕ) → Reached P B x → Count (IsNameOf P B x) (inode_links B x) → Count (IsNameOf P D x) (inode_links D x)
  file_links x r count = elim (cases_eq x i) [
    | inl e ↦ subst (λ y. Count (IsNameOf P D y) (inode_links D y)) (sym e)
        (subst (Count (IsNameOf P D i)) (sym links_after) (count_gained (IsNameOf P B i) (IsNameOf P D i) s (inode_links B i) (names_same i) (not_before i)
        (record { slot = adds.new_slot place written can only stored others coherent; inode = stored }) (subst (λ y. Count (IsNameOf P B y) (inode_links B y)) e count)))
    | inr ne ↦ subst (Count (IsNameOf P D x)) (sym ((adds.nodes place written can only stored others coherent).links x r ne))
        (count_kept (IsNameOf P B x) (IsNameOf P D x) s (inode_links B x) (names_same x) (not_before x) (λ n. ne (sym n.inode ∙ stored)) count)
  ]

  -- the new name is a file's
  no_child : (x : ℕ) → IsChildOf P D x s → ⊥
  no_child x n = let one = of_file.file in let two = sym (kind_same i of_file.reached) ∙ ap (inode_kind D) (sym stored) ∙ n.directory in omega (arith, one, two)

  old_links : (x : ℕ) → Reached P B x → IsLinkCount P B x (inode_links B x) → IsLinkCount P D x (inode_links D x)
  old_links x r count = record {
    file = λ file. file_links x r (count.file (sym (kind_same x r) ∙ file));
    directory = λ dir.
        let dir_before = sym (kind_same x r) ∙ dir in
        let (m, children, e) = count.directory dir_before in
        let other : x ≢ i = λ z. (let one = ap (inode_kind B) z ∙ of_file.file in omega (arith, one, dir_before)) in (
          m,
          count_kept (IsChildOf P B x) (IsChildOf P D x) s m (slot_laws.children (adds.kept place written can only stored others coherent) x)
              (λ n. adds.old_slot place written can only stored others coherent s n.slot refl) (no_child x) children,
          (adds.nodes place written can only stored others coherent).links x r other ∙ e,
        );
  }

  no_count : IsCleanSlot P B s → (x : ℕ) → IsLitterCount P D x → ⊥
  no_count rest x l =
      let r : Reached P B x = elim (adds.reached_cases place written can only stored others coherent x l.reached) [ inl old ↦ old | inr e ↦ subst (Reached P B) (sym e) of_file.reached ] in
      rest.but.counts x (record { reached = r; other = λ count. l.other (old_links x r count) })

  pub tidy_after : IsCleanSlot P B s → IsTidied P D
  tidy_after rest = adds.tidy_but_links place written can only stored others coherent rest (no_count rest)

  pub grown_after : HasGrown P B D d s i name
  grown_after = adds.grown place written can only stored others coherent
