-- What is read of the places that calls have left: of inodes, link words and pages, and that no slot points.
use Rattle.std.proofs.Common.{◌≡◌, ◌≢◌, inl, inr, ℕ, ◌+◌, ◌<◌, ◌≤◌, List, Option, Some, None, sym, subst, ◌∙◌, arith}
use Rattle.std.proofs.lemmas.Bool.{cases_eq}
use Rattle.layout.specs.Fields.{inode_links, page_owner, slot_inode, slot_pointer}
use Rattle.layout.specs.Geometry.{data_pages_of}
use Rattle.tree_model.specs.Run.{State}
use Rattle.tree_model.specs.Tree.{link_count}
use Rattle.image_reading.specs.Counts.{IsIn, Count, AtMost}
use Rattle.image_reading.specs.Reading.{HasBytes, IsDirectory, IsHeld, IsLive, Reached, IsNameOf, IsChildOf, IsLinkCount}
use Rattle.image_reading.specs.Repairs.{IsLitterCount}
use Rattle.image_reading.specs.Residue.{Residue, IsTidyBeside}
use Rattle.image_reading.specs.Soundness.{Rule, HasLinks}
use Rattle.image_reading.proofs.Counts.{length-distinct}
use Rattle.image_counts.specs.Laws.{ReadsBeside}
use Rattle.image_counts.proofs.Beside.{has_pages_beside}
use Rattle.image_counts.proofs.Links.{not_both_kinds, links_counted, only_links}
use Rattle.weave_laws.specs.Waiting.{WaitingLinkLaw, WaitingCountedLaw}

some_none : (o : Option ℕ) (s : ℕ) → o ≡ None → o ≡ Some s → ⊥
some_none o s none some = cc

-- no slot points, so a slot with a number is live
module _ (P : ℕ) (I : List ℕ) (residue : Residue) (beside : IsTidyBeside P I residue) (none : residue.pointer ≡ None) where
  pub no_pointer : (t : ℕ) → IsHeld P I t → slot_pointer P I t ≡ 0
  no_pointer t held = elim (cases_eq (slot_pointer P I t) 0) [
    | inl zero ↦ zero
    | inr nonzero ↦ absurd (some_none residue.pointer t none ((beside.of_pointer t).1 (record { held = held; nonzero = nonzero })))
  ]

  pub live : (t : ℕ) → IsHeld P I t → slot_inode P I t ≢ 0 → IsLive P I t
  live t held names = record { held = held; names = names; stays = λ d other points. (let zero = no_pointer d other in absurd (omega (arith, zero, points))) }

-- ---- link words

one_more : (Q : ℕ → Type 0) (m n links : ℕ) → Count Q n → AtMost m Q links → links ≢ m + n → m + n < links
one_more Q m n links (ys, distinct, each, long) most other = let le = most ys distinct (λ x. (each x).0) in omega (arith, le, long, other)

at_most_counted : (Q : ℕ → Type 0) (m n links : ℕ) → Count Q n → m + n ≤ links → AtMost m Q links
at_most_counted Q m n links (ys, distinct, each, long) le xs apart all =
    let fewer = length-distinct xs ys apart distinct (λ x among. (each x).1 (all x among)) in omega (arith, le, long, fewer)

-- a link word that isn't the counted number is more
module _ (P : ℕ) (I : List ℕ) (residue : Residue) (state : State) (holds : ReadsBeside P I residue state) (x : ℕ) (left : IsIn x residue.counts) where
  litter : IsLitterCount P I x
  litter = (holds.beside.of_counts.each x).0 left

  pub count_reached : Reached P I x
  count_reached = litter.reached

  most : HasLinks P I x (inode_links I x)
  most = holds.coherent Rule.links x litter.reached

  pub more_names : HasBytes I x → AtMost 1 (IsNameOf P I x) (inode_links I x)
  more_names file =
      let n = link_count state.tree x in
      let counted = (links_counted P I state.tree holds.coherent holds.reads.tree x litter.reached).file file in
      let lt = one_more (IsNameOf P I x) 0 n (inode_links I x) counted (most.file file)
      (λ e. litter.other (record { file = λ _. subst (Count (IsNameOf P I x)) (omega (arith, e)) counted; directory = λ two. absurd (not_both_kinds I x file two) })) in
      at_most_counted (IsNameOf P I x) 1 n (inode_links I x) counted (omega (arith, lt))

  pub more_children : IsDirectory I x → AtMost 3 (IsChildOf P I x) (inode_links I x)
  more_children directory =
      let (m, counted, is) = (links_counted P I state.tree holds.coherent holds.reads.tree x litter.reached).directory directory in
      let lt = one_more (IsChildOf P I x) 2 m (inode_links I x) counted (most.directory directory)
      (λ e. litter.other (record { file = λ one. absurd (not_both_kinds I x one directory); directory = λ _. (m, counted, e) })) in
      at_most_counted (IsChildOf P I x) 3 m (inode_links I x) counted (omega (arith, lt))

pub waiting_link_law : WaitingLinkLaw
waiting_link_law P I residue state x holds left links =
    (link_count state.tree x, links_counted P I state.tree holds.coherent holds.reads.tree x (count_reached P I residue state holds x left), links)

pub waiting_counted_law : WaitingCountedLaw
waiting_counted_law P I residue state x holds reached = (
  (λ apart. elim (cases_eq (inode_links I x) (link_count state.tree x)) [
    | inl same ↦ same
    | inr other ↦ absurd (apart ((holds.beside.of_counts.each x).1 (record {
      reached = reached;
      other = λ links. other (sym (only_links P I state.tree holds.coherent holds.reads.tree x (inode_links I x) reached links));
    })))
  ]),
  (λ same left. ((holds.beside.of_counts.each x).0 left).other (subst (IsLinkCount P I x) (sym same) (links_counted P I state.tree holds.coherent holds.reads.tree x reached))),
)

-- ---- pages

-- a page of an inode that isn't reached has been left
pub unreached_page : (P : ℕ) (I : List ℕ) (residue : Residue) (state : State) (i j : ℕ) → ReadsBeside P I residue state → ¬ Reached P I i → i ≢ 0 → j < data_pages_of P → page_owner P I j ≡ i → IsIn j residue.pages
unreached_page P I residue state i j holds unreached some within owner =
    elim (((has_pages_beside P I residue state holds).used j within).1 (λ unused. some (sym owner ∙ unused.0))) [
      | inl kept ↦ elim kept [
        | inl page ↦ absurd (unreached (subst (Reached P I) owner page.owner))
        | inr room ↦ absurd (unreached (subst (Reached P I) owner room.reached))
      ]
      | inr left ↦ left
    ]
