-- A call that waits among others is taken out of them, and put in among them.
use Rattle.std.proofs.Common.{◌≡◌, inl, inr, ℕ, ◌+◌, ◌<◌, length, set, Some, None, sym, ap, subst, ◌∙◌}
use Rattle.pm_trait.specs.DeviceView.{DeviceView}
use Rattle.tree_model.specs.Run.{State}
use Rattle.image_reading.specs.Residue.{no_residue}
use Rattle.weave_laws.specs.Joined.{joined}
use Rattle.volume.specs.Volume.{VolumeView}
use Rattle.waiting_laws.specs.Beside.{Holds, StandsWith}
use Rattle.running_laws.specs.Waits.{left_by, held_by, StillWaitsLaw, HoldsLaw}
use Rattle.session_laws.specs.Calls.{Call, Calls, call_at, without, left_of_all, events_of_all, events_of_call, AreApartCalls, IsApartFrom, CallWaits, CallsWait}
use Rattle.session_laws.specs.Order.{TakeOutLaw, PutInLaw}
use Rattle.session_laws.proofs.Lists.{call_put, call_kept, call_among, call_set, without_put, without_both, events_moved, HasSameLeft, left_back, left_moved}
use Rattle.session_laws.proofs.OrderAlone.{AllHold, AreAllApart, all_hold, others_alone, alone_same, stands_same, each_stands}
use Rattle.session_laws.proofs.OrderStill.{reordered}

apart_back : (volume : VolumeView) (one other : Call) → AreApartCalls volume one other → AreApartCalls volume other one
apart_back volume one other apart = record { named = λ i here there. apart.named i there here; held = λ i here there. apart.held i there here }

same_call : {one other : Call} → Some one ≡ Some other → one ≡ other
same_call is = cc

-- what the others of another call have left, with this call at the front
others_moved : (volume : VolumeView) (calls : Calls) (s r : ℕ) (call : Call) → (s ≡ r → ⊥) → call_at calls s ≡ Some call
    → HasSameLeft (left_of_all volume (without calls r)) (joined (left_by volume call.running) (left_of_all volume (without (without calls s) r)))
others_moved volume calls s r call other runs =
    subst (λ (rest : Calls). HasSameLeft (left_of_all volume (without calls r)) (joined (left_by volume call.running) (left_of_all volume rest)))
    (sym (without_both calls s r other))
    (left_moved volume (without calls r) s call (call_among calls r s call (λ same. other (sym same)) runs))

module _ (still_waits : StillWaitsLaw) (holds : HoldsLaw) where
  -- ---- taken out

  module _ (volume : VolumeView) (device : DeviceView) (words : State) (calls : Calls) (s : ℕ) (call : Call) (wait : CallsWait volume device words no_residue calls)
      (runs : call_at calls s ≡ Some call) where
    abbrev others : Calls
    others = without calls s

    stands : StandsWith volume device words (left_by volume call.running) (left_of_all volume others)
    stands = each_stands volume device words no_residue calls wait.beside s call runs

    -- another waits beside the others, and beside what the call has left
    each : (r : ℕ) (other : Call) → call_at others r ≡ Some other
        → CallWaits volume device words other (joined (left_by volume call.running) (left_of_all volume (without others r)))
    each r other there =
        let (different, at) = call_kept calls s r other there in
        let before = left_of_all volume (without calls r) in
        let now = joined (left_by volume call.running) (left_of_all volume (without others r)) in
        let moved = others_moved volume calls s r call different runs in
        reordered still_waits volume device words other before now (wait.each r other at)
        (each_stands volume device words (left_by volume call.running) others stands r other there)
        (alone_same volume.size device.words (held_by volume other.running) before now moved
        (others_alone volume device.words calls (all_hold holds volume device words no_residue calls wait) wait.apart r other at))
        (left_back before now moved)

    others_wait : CallsWait volume device words (left_by volume call.running) others
    others_wait = record {
      beside = stands;
      each = each;
      apart = λ r t one other different here there. wait.apart r t one other different (call_kept calls s r one here).1 (call_kept calls s t other there).1;
    }

    apart : IsApartFrom volume call others
    apart r other there = let (different, at) = call_kept calls s r other there in wait.apart s r call other different runs at

  pub take_out_law : TakeOutLaw
  take_out_law volume device words calls s call wait runs = record {
    others = others_wait volume device words calls s call wait runs;
    call_waits = wait.each s call runs;
    apart = apart volume device words calls s call wait runs;
    events = events_moved volume calls s call runs;
  }

  -- ---- put in

  module _ (volume : VolumeView) (device : DeviceView) (words : State) (calls : Calls) (s : ℕ) (call : Call)
      (wait : CallsWait volume device words (left_by volume call.running) calls)
      (idle : call_at calls s ≡ None) (below : s < length calls) (call_waits : CallWaits volume device words call (left_of_all volume calls))
      (from_others : IsApartFrom volume call calls) where
    abbrev all : Calls
    all = set calls s (Some call)

    put : call_at all s ≡ Some call
    put = call_put calls s (Some call) below

    others_are : without all s ≡ calls
    others_are = without_put calls s (Some call) idle

    moved : HasSameLeft (left_of_all volume all) (joined (left_by volume call.running) (left_of_all volume calls))
    moved = subst (λ (rest : Calls). HasSameLeft (left_of_all volume all) (joined (left_by volume call.running) (left_of_all volume rest))) others_are
        (left_moved volume all s call put)

    all_stand : StandsWith volume device words no_residue (left_of_all volume all)
    all_stand = stands_same volume device words (left_by volume call.running) (left_of_all volume calls) no_residue (left_of_all volume all)
        (left_back (left_of_all volume all) (joined (left_by volume call.running) (left_of_all volume calls)) moved) wait.beside

    hold : AllHold volume device.words all
    hold r other there = elim (call_set calls s r (Some call) other there) [
      | inl here ↦
          let same : call ≡ other = same_call here.1 in
          subst (λ (one : Call). Holds volume device.words (left_by volume one.running) (held_by volume one.running)) same
          (holds volume device words call.command call.running (left_of_all volume calls) call_waits.waits)
      | inr was ↦ all_hold holds volume device words (left_by volume call.running) calls wait r other was.1
    ]

    all_apart : AreAllApart volume all
    all_apart r t one other different first second = elim (call_set calls s r (Some call) one first) [
      | inl here ↦ elim (call_set calls s t (Some call) other second) [
        | inl also ↦ absurd (different (sym here.0 ∙ also.0))
        | inr was ↦ subst (λ (new : Call). AreApartCalls volume new other) (same_call here.1) (from_others t other was.1)
      ]
      | inr stood ↦ elim (call_set calls s t (Some call) other second) [
        | inl here ↦ subst (λ (new : Call). AreApartCalls volume one new) (same_call here.1) (apart_back volume call one (from_others r one stood.1))
        | inr was ↦ wait.apart r t one other different stood.1 was.1
      ]
    ]

    -- another waits beside the others, among which the call stands now
    waits_among : (r : ℕ) (other : Call) → (s ≡ r → ⊥) → call_at all r ≡ Some other → call_at calls r ≡ Some other
        → CallWaits volume device words other (left_of_all volume (without all r))
    waits_among r other different there stood =
        let before = joined (left_by volume call.running) (left_of_all volume (without calls r)) in
        let now = left_of_all volume (without all r) in
        let same : HasSameLeft now before =
        subst (λ (rest : Calls). HasSameLeft now (joined (left_by volume call.running) (left_of_all volume (without rest r)))) others_are
        (others_moved volume all s r call different put) in
        reordered still_waits volume device words other before now (wait.each r other stood) (each_stands volume device words no_residue all all_stand r other there)
        (others_alone volume device.words all hold all_apart r other there) same

    each_waits : (r : ℕ) (other : Call) → call_at all r ≡ Some other → CallWaits volume device words other (left_of_all volume (without all r))
    each_waits r other there = elim (call_set calls s r (Some call) other there) [
      | inl here ↦
          let among = subst (λ (rest : Calls). CallWaits volume device words call (left_of_all volume rest)) (sym others_are) call_waits in
          let at = subst (λ (t : ℕ). CallWaits volume device words call (left_of_all volume (without all t))) here.0 among in
          subst (λ (one : Call). CallWaits volume device words one (left_of_all volume (without all r))) (same_call here.1) at
      | inr was ↦ waits_among r other was.0 there was.1
    ]

    all_wait : CallsWait volume device words no_residue all
    all_wait = record { beside = all_stand; each = each_waits; apart = all_apart }

    all_events : events_of_all volume all ≡ events_of_call volume call + events_of_all volume calls
    all_events = events_moved volume all s call put ∙ ap (λ (rest : Calls). events_of_call volume call + events_of_all volume rest) others_are

  pub put_in_law : PutInLaw
  put_in_law volume device words calls s call wait idle below call_waits from_others = record {
    calls_wait = all_wait volume device words calls s call wait idle below call_waits from_others;
    events = all_events volume device words calls s call wait idle below call_waits from_others;
  }
