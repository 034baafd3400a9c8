-- What goes with a move, told after the commit: a replaced node with its pages, and the source's page.
use Rattle.std.proofs.Common.{◌≡◌, ◌↔◌, ◌⊎◌, inl, inr, ℕ, ◌<◌, true, List, reverse, Option, Some, None, is_none, refl, sym, ap, subst, ◌∙◌}
use Rattle.std.proofs.lemmas.Bool.{false≢true}
use Rattle.layout.specs.Geometry.{data_pages_of, page_of_slot}
use Rattle.layout.proofs.GeometryLaws.{page_of_slot_below}
use Rattle.layout.specs.Fields.{page_owner}
use Rattle.tree_model.specs.PathText.{Route}
use Rattle.tree_model.specs.Tree.{Tree, node_at, parent}
use Rattle.tree_model.specs.Run.{State}
use Rattle.image_reading.specs.Reading.{slot_owner, Reached, Reads, IsRoomOf}
use Rattle.image_reading.specs.Soundness.{IsCoherent}
use Rattle.image_counts.specs.Entries.{IsPageIn}
use Rattle.image_laws.specs.Move.{CanMove, moved}
use Rattle.image_laws.proofs.OnlySlot.{OnlySlot}
use Rattle.rename_laws.specs.Target.{Target, Vacant, Opened, Taken, old_number}
use Rattle.rename_laws.specs.Ready.{IsMoveReady}
use Rattle.rename_laws.specs.Intervals.{IsGone, IsGivenUp}
use Rattle.rename_laws.specs.End.{renamed}
use Rattle.rename_laws.specs.Index.{HasEntryMoved}
use Rattle.rename_laws.proofs.MovedEntries.{moved_entry_law}
use Rattle.rename_laws.proofs.MovedNames as here
use Rattle.rename_laws.proofs.MoveNear as near
use Rattle.rename_laws.proofs.MoveNear.{IsOpenedPage}
use Rattle.rename_laws.proofs.MoveReads.{committed_law}
use Rattle.volume.specs.Costs.{goes_of}
use Rattle.volume.specs.Moves.{rising_of}
use Rattle.volume.specs.Planned.{IsTargetOf, IsGivenBack, IsEmptiedBy}
use Rattle.volume.specs.declared.plan.Loss.{Loss}
use Rattle.volume.specs.declared.plan.Moving.{Moving}
use Rattle.entry_steps.proofs.Lists.{not_none, one_page}
use Rattle.removal_steps.specs.Steps.{AreGonePages, IsCut, number_of}
use Rattle.removal_steps.proofs.Goes.{goes_when}
use Rattle.rename_ptr.specs.Steps.{target_by, target_of}
use Rattle.rename_ptr.specs.Renaming.{IsMovingAt}
use Rattle.rename_ptr.proofs.Emptied
use Rattle.rename_ptr.proofs.Moves

-- a page of a replaced node that goes
abbrev pub IsOfLoss : ℕ → List ℕ → Option Loss → ℕ → Type 0
IsOfLoss P W replaced j = (goes_of replaced ≡ true) × IsPageIn P W (number_of replaced) j

-- a page that loses its owner: it is one of these, or given back
abbrev pub IsLostPage : ℕ → List ℕ → Moving → ℕ → Type 0
IsLostPage P W moving j = IsOfLoss P W moving.replaced j ⊎ (moving.given_back ≡ Some j)

pub number_is : (moving : Moving) (replaced : Option Loss) (page : Option ℕ) → number_of replaced ≡ old_number (target_by moving replaced page)
number_is moving None None = refl
number_is moving None (Some page) = refl
number_is moving (Some loss) page = refl

gone_not_opened : (P : ℕ) (C : List ℕ) (target : Target) (j : ℕ) → IsGone P C target → IsOpenedPage target j → ⊥
gone_not_opened P C (Vacant name) j gone new = new
gone_not_opened P C (Opened page name) j gone new = gone
gone_not_opened P C (Taken replaced) j gone new = new

module _ {P : ℕ} {W : List ℕ} {state : State} (from to : Route) {moving : Moving} (at : IsMovingAt P W state from to moving) (I : List ℕ)
    (ready : IsMoveReady P W I (reverse (parent from)) (reverse (parent to)) moving.from_slot moving.to_directory moving.to_slot (target_of moving) (rising_of moving)) where
  abbrev after : List ℕ
  after = moved P I moving.from_slot moving.to_slot

  c : CanMove P I (reverse (parent from)) (reverse (parent to)) moving.from_slot moving.to_slot
  c = ready.can_move

  pub coherent_after : IsCoherent P after
  coherent_after = (here.after P I (reverse (parent from)) (reverse (parent to)) moving.from_slot moving.to_slot c).coherent

  only : OnlySlot P I after moving.to_slot
  only = here.only P I (reverse (parent from)) (reverse (parent to)) moving.from_slot moving.to_slot c

  entries : HasEntryMoved P W after moving.from_slot moving.to_directory moving.to_slot (target_of moving)
  entries = moved_entry_law P W I (reverse (parent from)) (reverse (parent to)) moving.from_slot moving.to_directory moving.to_slot (target_of moving) (rising_of moving) ready

  -- ---- whether a replaced node goes

  pub reads_after : Reads P after (renamed state.tree from to)
  reads_after = committed_law P W I (reverse (parent from)) (reverse (parent to)) from to moving.from_slot moving.to_directory moving.to_slot (target_of moving) (rising_of moving)
      state.tree ready (Moves.are_paths from to at) at.reads.tree

  pub loss_gone : (loss : Loss) → IsTargetOf P W state from to moving (Some loss) → (loss.goes ≡ true) ↔ (Reached P after loss.inode → ⊥)
  loss_gone loss (named, lost, none) =
      goes_when P after (renamed state.tree from to) coherent_after reads_after loss.inode loss.goes
      (lost.goes_is ∙ ap (λ (tree : Tree). is_none (node_at tree loss.inode)) (Moves.tree_after_is from to at))

  gone_by : (replaced : Option Loss) (page : Option ℕ) → moving.replaced ≡ replaced → (goes_of replaced ≡ true) ↔ IsGone P after (target_by moving replaced page)
  gone_by None None is = ((λ goes. absurd (false≢true goes)), (λ gone. absurd gone))
  gone_by None (Some page) is = ((λ goes. absurd (false≢true goes)), (λ gone. absurd gone))
  gone_by (Some loss) page is = loss_gone loss (Moves.target_at from to at loss is)

  pub gone_when : (goes_of moving.replaced ≡ true) ↔ IsGone P after (target_of moving)
  gone_when = gone_by moving.replaced moving.new_page refl

  -- ---- the source's page

  source_owner : slot_owner P after moving.from_slot ≡ slot_owner P W moving.from_slot
  source_owner =
      here.owner_same P I (reverse (parent from)) (reverse (parent to)) moving.from_slot moving.to_slot c moving.from_slot c.source.held.in_range
      ∙ near.source_owner P W I (reverse (parent from)) (reverse (parent to)) moving.from_slot moving.to_directory moving.to_slot (target_of moving) (rising_of moving) ready

  page_low : page_of_slot moving.from_slot < data_pages_of P
  page_low = page_of_slot_below P moving.from_slot c.source.held.in_range

  keeps : (j : ℕ) → j ≡ page_of_slot moving.from_slot → IsRoomOf P after (slot_owner P after moving.from_slot) j ↔ Emptied.KeepsName from to at I ready after entries
  keeps j at_source = (
    (λ room. subst (λ (x : ℕ). IsRoomOf P after x (page_of_slot moving.from_slot)) source_owner (subst (IsRoomOf P after (slot_owner P after moving.from_slot)) at_source room)),
    (λ room. subst (λ (x : ℕ). IsRoomOf P after x j) (sym source_owner) (subst (IsRoomOf P after (slot_owner P W moving.from_slot)) (sym at_source) room)),
  )

  back_given : (given : Option ℕ) → IsGivenBack (IsEmptiedBy P W moving) moving.from_slot given → (j : ℕ) → given ≡ Some j → IsGivenUp P after moving.from_slot (target_of moving) j
  back_given None back j is = absurd (not_none j is)
  back_given (Some page) back j is =
      let at_source : j ≡ page_of_slot moving.from_slot = sym (one_page page j is) ∙ back.1 in
      record {
        in_range = subst (λ (k : ℕ). k < data_pages_of P) (sym at_source) page_low;
        why = inr (at_source, (λ room. Emptied.emptied_none from to at I ready after entries back.0 ((keeps j at_source).0 room)));
      }

  given_back : (given : Option ℕ) → IsGivenBack (IsEmptiedBy P W moving) moving.from_slot given → (j : ℕ) → j ≡ page_of_slot moving.from_slot
      → (IsRoomOf P after (slot_owner P after moving.from_slot) j → ⊥) → given ≡ Some j
  given_back None back j at_source none = absurd (back (Emptied.emptied from to at I ready after entries (λ room. none ((keeps j at_source).1 room))))
  given_back (Some page) back j at_source none = ap (λ (k : ℕ). Some k) (back.1 ∙ sym at_source)

  -- ---- the pages that are given up

  owner_same : (j : ℕ) → j < data_pages_of P → IsGone P after (target_of moving) → page_owner P after j ≡ page_owner P W j
  owner_same j low gone =
      only.owner j low
      ∙ near.owner_same P W I (reverse (parent from)) (reverse (parent to)) moving.from_slot moving.to_directory moving.to_slot (target_of moving) (rising_of moving) ready j low
      (gone_not_opened P after (target_of moving) j gone)

  pub lost_given : (j : ℕ) → IsLostPage P W moving j → IsGivenUp P after moving.from_slot (target_of moving) j
  lost_given j (inl (goes, page)) =
      let gone = gone_when.0 goes in
      record { in_range = page.in_range; why = inl (gone, owner_same j page.in_range gone ∙ page.owner ∙ number_is moving moving.replaced moving.new_page) }
  lost_given j (inr back) = back_given moving.given_back (Moves.for_move from to at).given_back j back

  pub given_lost : (j : ℕ) → IsGivenUp P after moving.from_slot (target_of moving) j → IsLostPage P W moving j
  given_lost j given = elim given.why [
    | inl (gone, owner) ↦ inl (
      gone_when.1 gone,
      record { in_range = given.in_range; owner = sym (owner_same j given.in_range gone) ∙ owner ∙ sym (number_is moving moving.replaced moving.new_page) },
    )
    | inr (at_source, none) ↦ inr (given_back moving.given_back (Moves.for_move from to at).given_back j at_source none)
  ]

  -- by the list of a replaced node's pages
  module _ (pages : List ℕ) (are : AreGonePages P W moving.replaced pages) where
    pub cut_given : (j : ℕ) → IsCut pages moving.given_back j → IsGivenUp P after moving.from_slot (target_of moving) j
    cut_given j (inl among) = lost_given j (inl ((are.among j).0 among))
    cut_given j (inr back) = lost_given j (inr back)

    pub given_cut : (j : ℕ) → IsGivenUp P after moving.from_slot (target_of moving) j → IsCut pages moving.given_back j
    given_cut j given = elim (given_lost j given) [ inl page ↦ inl ((are.among j).1 page) | inr back ↦ inr back ]
