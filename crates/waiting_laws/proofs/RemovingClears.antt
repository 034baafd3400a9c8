-- The slot of a removal is cleared, and a link falls: behind this step it waits again, or nothing of it is left.
use Rattle.std.proofs.Common.{◌≡◌, inl, inr, ℕ, ◌-◌, ◌<◌, ◌≤◌, List, [], ◌∷◌, Option, Some, None, refl, sym, subst, ◌∙◌, arith}
use Rattle.pm_trait.specs.DeviceView.{DeviceView}
use Rattle.pm_trait.specs.Unfolds.{Step}
use Rattle.layout.specs.Geometry.{inodes_of, data_pages_of, page_of_slot}
use Rattle.layout.proofs.GeometryLaws.{page_of_slot_below}
use Rattle.layout.specs.Fields.{inode_kind, page_owner, page_kind, page_offset}
use Rattle.tree_model.specs.Run.{State}
use Rattle.image_reading.specs.Counts.{IsIn}
use Rattle.image_reading.specs.Reading.{slot_owner}
use Rattle.image_reading.specs.Residue.{Residue, IsTidyBeside}
use Rattle.image_counts.proofs.Distinct.{in_back}
use Rattle.image_laws.specs.Frame.{SameMeaning}
use Rattle.image_laws.specs.Free.{Stores}
use Rattle.image_laws.specs.Stages.{MayClearName}
use Rattle.image_laws.proofs.Stages as stages
use Rattle.weave_laws.specs.Beside.{StoresIn}
use Rattle.weave_laws.specs.Joined.{joined}
use Rattle.weave_laws.specs.Removing.{cleared_left, IsFallingLink}
use Rattle.weave_laws.specs.Waiting.{HasNoPageOf}
use Rattle.weave_laws.proofs.Disjoint.{wider_law}
use Rattle.weave_laws.proofs.OwnWords.{cleared_words_law}
use Rattle.weave_laws.proofs.Cleared.{cleared_law}
use Rattle.weave_laws.proofs.WaitingRemovals.{waiting_clearing_law, waiting_falling_law}
use Rattle.volume.specs.Volume.{VolumeView}
use Rattle.volume.specs.declared.next.Next.TheVariants.{More}
use Rattle.volume.specs.declared.plan.Removal.{Removal}
use Rattle.volume.proofs.Moments.{with_kept}
use Rattle.knowing_laws.specs.Knowing.{KeepsPagesBut, ChangesNumbers}
use Rattle.unlink_ops.specs.declared.removal.Stage.TheVariants.{Unnamed, Cleared, Disowned}
use Rattle.unlink_ops.specs.RemovalStages.{RunningView, pages_gone, step_at, next_of, EntersAt, StandsStage}
use Rattle.unlink_ops.specs.Taking.{falling_by}
use Rattle.waiting_laws.specs.Beside.{StandsWith, MakesStep, KeepsMeaning}
use Rattle.waiting_laws.specs.Removing.{held_by, falling_of, left_at, HasItsPage, IsPlaced, WaitsToRemove, WaitsOn}
use Rattle.waiting_laws.proofs.RemovingKnows.{reads_same, entries_stay, unused_as, same_numbers, known_still}
use Rattle.waiting_laws.proofs.RemovingWaits as waiting
use Rattle.waiting_laws.proofs.RemovingWaits.{KeepsPlace, at, after_clearing, all_left, page_of_name, cleared_link, falls_held, behind_kept}
use Rattle.waiting_laws.proofs.Standing as standing
use Rattle.waiting_laws.proofs.Standing.{IsReached}

-- ---- the words J of the step: the slot is cleared, and a link falls

module _ (old : VolumeView) (before : DeviceView) (state : State) (removal : Removal) (others : Residue) (waits : WaitsToRemove old before state (at removal Unnamed) others)
    (J : List ℕ) (clears : (step_at old.size removal (pages_gone old removal) Unnamed).Makes before.words J) where
  abbrev P : ℕ
  P = old.size

  abbrev I : List ℕ
  I = before.words

  abbrev s : ℕ
  s = removal.slot

  abbrev y : ℕ
  y = falling_by removal.loss.kind removal

  abbrev pages : List ℕ
  pages = pages_gone old removal

  abbrev falling : Option ℕ
  falling = falling_of removal.loss.kind removal

  abbrev left : Residue
  left = cleared_left (all_left pages removal.given_back) removal.loss.goes removal.loss.inode

  may : MayClearName P I s y
  may = waiting_clearing_law P I state s removal.given_back pages removal.loss.goes removal.loss.inode falling y others (waiting.beside_words old before state removal Unnamed others waits)
      (waiting.held old before state removal Unnamed others waits waits.words.emptied) waits.words.clear.named.0 (cleared_link removal.loss.kind removal)

  falls : IsFallingLink P I y falling
  falls = waiting_falling_law P I state s removal.given_back pages removal.loss.goes removal.loss.inode falling y others (waiting.beside_words old before state removal Unnamed others waits)
      (cleared_link removal.loss.kind removal) waits.falling

  free_stores : Stores P I J
  free_stores = stages.clear_stores P I J s y may clears

  meaning : SameMeaning P I J
  meaning = stages.same_clear P I J s y may clears

  tidy : IsTidyBeside P J (joined left others)
  tidy = cleared_law P I J s y removal.given_back pages removal.loss.goes removal.loss.inode falling others may (page_of_name P I removal removal.given_back waits.page) falls clears waits.beside.stands.beside

  only : StoresIn P I J (held_by old removal).slots (held_by old removal).pages (held_by old removal).inodes
  only = wider_law P I J (s ∷ []) [] (y ∷ []) (held_by old removal).slots (held_by old removal).pages (held_by old removal).inodes
      (record {
        of_slots = λ t among. inl among;
        of_pages = λ j none. absurd none;
        of_inodes = λ i among. elim among [ inl is ↦ subst (λ (x : ℕ). IsIn x (held_by old removal).inodes) (sym is) (falls_held removal.loss.kind removal) | inr none ↦ absurd none ];
      })
      (cleared_words_law P I J s y clears)

  owner_kept : (j : ℕ) → j < data_pages_of P → page_owner P J j ≡ page_owner P I j
  unfolding page_owner
  owner_kept j low = stages.clear_descriptor P I J s y may clears j 0 low (omega arith)

  kind_kept : (j : ℕ) → j < data_pages_of P → page_kind P J j ≡ page_kind P I j
  unfolding page_kind
  kind_kept j low = stages.clear_descriptor P I J s y may clears j 1 low (omega arith)

  offset_kept : (j : ℕ) → j < data_pages_of P → page_offset P J j ≡ page_offset P I j
  unfolding page_offset
  offset_kept j low = stages.clear_descriptor P I J s y may clears j 2 low (omega arith)

  node_kind : (i : ℕ) → 1 ≤ i → i ≤ inodes_of P → inode_kind J i ≡ inode_kind I i
  unfolding inode_kind
  node_kind i least most = stages.clear_inode P I J s y may clears i 0 least most (omega arith) (inl (λ none. omega (arith, none)))

  keeps_pages : KeepsPagesBut P I J (joined (left_at old removal Unnamed) others) (joined left others) []
  keeps_pages = record { left = λ j out kept. out; owners = λ j low out kept. owner_kept j low; offsets = λ j low out kept. offset_kept j low }

  numbers : ChangesNumbers P I J [] []
  numbers = same_numbers P I J node_kind (λ j low. unused_as P I J j (owner_kept j low) (kind_kept j low))

  abbrev spent : ℕ
  spent = (step_at P removal pages Unnamed).events

  abbrev K : VolumeView
  K = with_kept (old.kept - spent) old

  -- what the volume stands beside then
  reached : IsReached K J state left others
  reached = record {
    coherent = meaning.coherent;
    beside = tidy;
    reads = reads_same P I J state meaning waits.beside.stands.reads;
    knows = known_still (old.kept - spent) old I J (joined (left_at old removal Unnamed) others) (joined left others) waits.beside.stands.knows clears.size (entries_stay P I J may.coherent free_stores) keeps_pages numbers;
    no_pointer = waits.beside.no_pointer;
  }

  -- no crash in it changes a meaning
  pub quiet : KeepsMeaning P I J
  quiet = standing.quiet P I J (held_by old removal).slots (held_by old removal).pages (held_by old removal).inodes only (waiting.no_mark old before state removal Unnamed others waits)
      (λ M mix. stages.clearing_law P I J M s y may clears mix)

  -- ---- what stays with the slot's page

  slot_page_low : page_of_slot s < data_pages_of P
  slot_page_low = page_of_slot_below P s waits.place.in_range

  slot_owner_kept : slot_owner P J s ≡ slot_owner P I s
  unfolding slot_owner
  slot_owner_kept = owner_kept (page_of_slot s) slot_page_low

  page_kept : (given : Option ℕ) → HasItsPage P I removal given → HasItsPage P J removal given
  page_kept None is = slot_owner_kept ∙ is
  page_kept (Some page) is = is

  place_kept : IsPlaced P J removal
  place_kept = record { in_range = waits.place.in_range; owner = elim waits.place.owner [ inl is ↦ inl (slot_owner_kept ∙ is) | inr none ↦ inr (slot_owner_kept ∙ none) ] }

  alone_kept : HasNoPageOf P J others removal.loss.inode
  alone_kept j among is =
      let low = ((waits.beside.stands.beside.of_pages.each j).0 (in_back j (left_at old removal Unnamed).pages others.pages among)).in_range in
      waits.alone j among (sym (owner_kept j low) ∙ is)

  keeps : KeepsPlace old I J removal others
  keeps = record { page = page_kept removal.given_back waits.page; place = place_kept; alone = alone_kept; stores = only }

-- ---- where it waits behind the step

module _ (old : VolumeView) (before after : DeviceView) (state : State) (removal : Removal) (others : Residue) (waits : WaitsToRemove old before state (at removal Unnamed) others)
    (N : VolumeView) (same : N ≡ with_kept (old.kept - (step_at old.size removal (pages_gone old removal) Unnamed).events) old)
    (makes : MakesStep (step_at old.size removal (pages_gone old removal) Unnamed) (EntersAt (at removal Unnamed)) old N before after) where
  abbrev step : Step
  step = step_at old.size removal (pages_gone old removal) Unnamed

  abbrev R : VolumeView
  R = with_kept (old.kept - step.events) old

  pub kept_place : KeepsPlace old before.words after.words removal others
  kept_place = keeps old before state removal others waits after.words makes.takes.makes

  pub beside : StandsWith R after state (cleared_left (all_left (pages_gone old removal) removal.given_back) removal.loss.goes removal.loss.inode) others
  beside = standing.behind old R before after state state (left_at old removal Unnamed) (left_at old removal Cleared) others step (EntersAt (at removal Unnamed)) (held_by old removal).slots (held_by old removal).pages (held_by old removal).inodes
      waits.beside (subst (λ (v : VolumeView). MakesStep step (EntersAt (at removal Unnamed)) old v before after) same makes) refl (behind_kept old step.events) kept_place.stores
      (reached old before state removal others waits after.words makes.takes.makes)

  waits_cleared : StandsStage R after (at removal Cleared) → WaitsOn old R before after state (at removal Cleared) others
  waits_cleared stands = waiting.waits_again old before state removal Unnamed others waits (old.kept - step.events) after Cleared beside stands tt kept_place

  waits_disowned : StandsStage R after (at removal Disowned) → WaitsOn old R before after state (at removal Disowned) others
  waits_disowned stands = waiting.waits_again old before state removal Unnamed others waits (old.kept - step.events) after Disowned beside stands tt kept_place

  pub on_cleared : (next : RunningView) → next_of removal Unnamed ≡ More next → StandsStage N after next → WaitsOn old N before after state next others
  on_cleared next is stands =
      subst (λ (v : VolumeView). StandsStage v after next → WaitsOn old v before after state next others) (sym same)
      (elim (after_clearing removal next is) [
        | inl cleared ↦ subst (λ (r : RunningView). StandsStage R after r → WaitsOn old R before after state r others) cleared waits_cleared
        | inr disowned ↦ subst (λ (r : RunningView). StandsStage R after r → WaitsOn old R before after state r others) disowned waits_disowned
      ])
      stands
