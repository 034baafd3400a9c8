-- One call makes a step, and each of the others waits still: the step passes by it, and it stands beside what is left in another order.
use Rattle.std.proofs.Common.{◌≡◌, ◌⊎◌, inl, inr, ℕ, ◌+◌, ◌==◌, false, nat_le, List, Some, None, refl, sym, ap, subst, ◌∙◌, arith}
use Rattle.pm_trait.specs.DeviceView.{DeviceView}
use Rattle.layout.specs.Geometry.{page_of_slot}
use Rattle.layout.specs.Fields.{page_owner, slot_inode}
use Rattle.tree_model.specs.Tree.{node_at}
use Rattle.tree_model.specs.Run.{State}
use Rattle.naming_laws.specs.Still.{FindsSame, IsStillAccepted}
use Rattle.naming_laws.proofs.Still.{still_law}
use Rattle.image_reading.specs.Counts.{IsIn}
use Rattle.image_reading.specs.Reading.{slot_owner, IsHeld}
use Rattle.image_reading.specs.Residue.{Residue}
use Rattle.image_counts.specs.Laws.{supply_beside}
use Rattle.image_counts.proofs.Distinct.{in_either}
use Rattle.image_counts.proofs.States.{state_law}
use Rattle.weave_laws.specs.Beside.{KeepsPage}
use Rattle.weave_laws.specs.Joined.{joined}
use Rattle.weave_laws.specs.Waiting.{HasNoPageOf}
use Rattle.volume.specs.Volume.{VolumeView}
use Rattle.waiting_laws.specs.Beside.{Holding, Holds, NamesNothing, StandsWith, PassesBy}
use Rattle.waiting_laws.proofs.ApartHeld.{passes_by_law}
use Rattle.waiting_laws.proofs.BeginsEnough.{own_enough_law}
use Rattle.running_laws.specs.Waits.{left_by, held_by, HoldsLaw, LeavesAlone, WaitsStill, StillWaitsLaw}
use Rattle.running_laws.specs.Steps.{has_committed}
use Rattle.session_laws.specs.Calls.{Call, Calls, call_at, without, left_of_all, IsNamed, AreApartCalls, IsToCome, HasBehind, CallWaits, CallsWait}
use Rattle.session_laws.specs.Others.{StepsBeside, OthersWait, OthersWaitLaw}
use Rattle.session_laws.proofs.Lists.{call_kept, page_left, left_moved_past}
use Rattle.session_laws.proofs.Named.{named_still}
use Rattle.session_laws.proofs.OrderAlone.{stands_same}
use Rattle.session_laws.proofs.OthersLists.{all_left_same, all_events_same}

-- a slot whose page stays is held where it was
held_before : (P : ℕ) (I J : List ℕ) (t : ℕ) → KeepsPage P I J (page_of_slot t) → IsHeld P J t → IsHeld P I t
unfolding slot_owner
held_before P I J t page slot = record { in_range = slot.in_range; kind = sym page.kind ∙ slot.kind; owned = λ none. slot.owned (page.owner ∙ none) }

module _ (still_waits : StillWaitsLaw) (holds_law : HoldsLaw) (old new : VolumeView) (before after : DeviceView) (words later : State) (own next : Residue) (held : Holding)
    (calls : Calls) (wait : CallsWait old before words own calls) (steps : StepsBeside old new before after words later next held calls) where
  same_size : new.size ≡ old.size
  same_size = steps.leaves.affects.size

  -- what the others have left beside one of them, and the step before them
  abbrev rest_of : ℕ → Residue
  rest_of s = left_of_all old (without calls s)

  abbrev others_of : ℕ → Residue
  others_of s = joined next (rest_of s)

  module _ (s : ℕ) (call : Call) (is : call_at calls s ≡ Some call) where
    call_holds : Holds old before.words (left_by old call.running) (held_by old call.running)
    call_holds = holds_law old before words call.command call.running (joined own (rest_of s)) (wait.each s call is).waits

    passes : PassesBy old new before after words later (held_by old call.running)
    passes = passes_by_law old new before after words later held (held_by old call.running) steps.in_volume call_holds.in_volume (steps.passes s call is).apart
        steps.leaves.stores steps.leaves.affects (steps.passes s call is).keeps

    stands_in_front : StandsWith new after later (left_by old call.running) (others_of s)
    stands_in_front =
        stands_same new after later next (left_of_all old calls) (left_by old call.running) (others_of s) (left_moved_past old next calls s call is) steps.leaves.beside

  -- a page that one of the others has left has the owner that it had
  module _ (r : ℕ) (other : Call) (there : call_at calls r ≡ Some other) (j : ℕ) (left : IsIn j (left_by old other.running).pages) where
    page_kept : KeepsPage old.size before.words after.words j
    page_kept = (passes r other there).words.of_pages j ((call_holds r other there).left_pages j left)

    owner_kept : page_owner new.size after.words j ≡ page_owner old.size before.words j
    owner_kept = ap (λ P. page_owner P after.words j) same_size ∙ page_kept.owner

    -- and where it has slots, those which were bare stay so
    slot_bare : (t : ℕ) → page_of_slot t ≡ j → IsHeld new.size after.words t → slot_inode new.size after.words t ≡ 0
    slot_bare t of_page slot =
        let holds = call_holds r other there in
        let mine = subst (λ x. IsIn x (left_by old other.running).pages) (sym of_page) left in
        let page = subst (KeepsPage old.size before.words after.words) (sym of_page) page_kept in
        let kept = (passes r other there).words.of_slots t (inr (holds.left_pages (page_of_slot t) mine)) in
        let was = held_before old.size before.words after.words t page (subst (λ P. IsHeld P after.words t) same_size slot) in
        ap (λ P. slot_inode P after.words t) same_size ∙ kept.number ∙ holds.bare t mine was

  module _ (s : ℕ) (call : Call) (is : call_at calls s ≡ Some call) where
    no_page : (i : ℕ) → IsIn i (held_by old call.running).inodes → HasNoPageOf new.size after.words (others_of s) i
    no_page i mine j among = elim (in_either j next.pages (rest_of s).pages among) [
      | inl of_next ↦
          (steps.untouched i (λ theirs. (steps.passes s call is).apart.of_inodes i theirs mine) ((call_holds s call is).in_volume.of_inodes i mine).from_one).apart.pages j of_next
      | inr of_other ↦
          let (r, other, at, left) = page_left old (without calls s) j of_other in
          let (differ, there) = call_kept calls s r other at in
          let other_inode = (wait.apart s r call other differ is there).held i mine in
          let untouched = (call_holds r other there).untouched i other_inode ((call_holds s call is).in_volume.of_inodes i mine).from_one in
          λ owned. untouched.apart.pages j left (sym (owner_kept r other there j left) ∙ owned)
    ]

    names_nothing : NamesNothing new.size after.words (others_of s)
    names_nothing t among slot = elim (in_either (page_of_slot t) next.pages (rest_of s).pages among) [
      | inl of_next ↦ steps.bare t of_next slot
      | inr of_other ↦
          let (r, other, at, left) = page_left old (without calls s) (page_of_slot t) of_other in
          slot_bare r other (call_kept calls s r other at).1 (page_of_slot t) left t refl slot
    ]

    still : WaitsStill old new after later call.command call.running (others_of s)
    still =
        let alone : LeavesAlone new.size after.words (held_by old call.running) (others_of s) = record { pages = no_page; bare = names_nothing } in
        still_waits old new before after words later call.command call.running (joined own (rest_of s)) (others_of s) (wait.each s call is).waits (passes s call is)
        (stands_in_front s call is) alone

  -- all have left what they had
  left_still : left_of_all new calls ≡ left_of_all old calls
  left_still = all_left_same old new calls (λ s call is. (still s call is).left)

  module _ (s : ℕ) (call : Call) (is : call_at calls s ≡ Some call) where
    rest_still : left_of_all new (without calls s) ≡ rest_of s
    rest_still = all_left_same old new (without calls s) (λ r other at. (still r other (call_kept calls s r other at).1).left)

    others_still : joined next (left_of_all new (without calls s)) ≡ others_of s
    others_still = ap (joined next) rest_still

    -- ---- its command is to come still

    module _ (coming : has_committed call.running ≡ false) where
      abbrev mine : Residue
      mine = left_by old call.running

      was : IsToCome old.size words call mine (joined own (rest_of s))
      was = (wait.each s call is).to_come coming

      finds : FindsSame call.command words later
      finds = steps.finds s call is coming

      accepted_still : IsStillAccepted (supply_beside new.size (others_of s)) words later call.command
      accepted_still =
          let with = stands_in_front s call is in
          let stood = wait.beside.stands in
          let (inodes, pages) = own_enough_law new.size after.words later mine (others_of s)
          (record { coherent = with.stands.sound.coherent; beside = with.stands.beside; reads = with.stands.reads }) in
          still_law old.size (supply_beside old.size (joined own (rest_of s))) (supply_beside new.size (others_of s)) words later call.command
          (state_law old.size before.words words stood.sound.coherent stood.reads) was.accepted finds
          (record { inodes = (let least = was.inodes in omega (arith, least, inodes)); pages = (let least = was.pages in omega (arith, least, pages)) })

      to_come : IsToCome new.size later call mine (others_of s)
      to_come = record {
        named = named_still words.tree later.tree call.command call.named finds.named was.named;
        accepted = accepted_still.accepted;
        inodes = was.inodes;
        pages = (let same = accepted_still.need in let least = was.pages in omega (arith, same, least));
      }

    -- ---- it waits still

    inodes_still : (i : ℕ) → IsIn i (held_by new call.running).inodes → IsIn i (held_by old call.running).inodes
    inodes_still i mine = subst (λ (holding : Holding). IsIn i holding.inodes) (still s call is).held mine

    holds_named : (i : ℕ) → IsIn i (held_by new call.running).inodes → IsNamed call.named i ⊎ (node_at later.tree i ≡ None)
    holds_named i mine = elim ((wait.each s call is).holds i (inodes_still i mine)) [
      | inl named ↦ inl named
      | inr none ↦ inr (((steps.passes s call is).keeps.nodes i (inodes_still i mine)).node ∙ none)
    ]

    behind_still : HasBehind new call
    behind_still =
        let behind = (wait.each s call is).behind in
        let fences = sym (still s call is).fences in
        record {
          commit = behind.commit ∙ ap (λ (n : ℕ). n == call.behind + 1) fences;
          committed = behind.committed ∙ ap (λ (n : ℕ). nat_le n call.behind) fences;
        }

    call_waits : CallWaits new after later call (others_of s)
    call_waits = record {
      waits = (still s call is).waits;
      holds = holds_named;
      to_come = λ coming. subst (λ (left : Residue). IsToCome new.size later call left (others_of s)) (sym (still s call is).left) (to_come coming);
      behind = behind_still;
      few = (let few = (wait.each s call is).few in let same = (still s call is).events in omega (arith, few, same));
    }

  apart_still : (s r : ℕ) (call other : Call) → (s ≡ r → ⊥) → call_at calls s ≡ Some call → call_at calls r ≡ Some other → AreApartCalls new call other
  apart_still s r call other differ is there =
      let apart = wait.apart s r call other differ is there in
      record { named = apart.named; held = λ i mine theirs. apart.held i (inodes_still s call is i mine) (inodes_still r other there i theirs) }

  others_wait : OthersWait old new after later next calls
  others_wait = record {
    calls_wait = record {
      beside = subst (λ (left : Residue). StandsWith new after later next left) (sym left_still) steps.leaves.beside;
      each = λ s call is. subst (λ (others : Residue). CallWaits new after later call others) (sym (others_still s call is)) (call_waits s call is);
      apart = apart_still;
    };
    left = left_still;
    events = all_events_same old new calls (λ s call is. (still s call is).events);
  }

pub others_wait_law : StillWaitsLaw → HoldsLaw → OthersWaitLaw
others_wait_law still_waits holds_law old new before after words later own next held calls wait steps =
    others_wait still_waits holds_law old new before after words later own next held calls wait steps
