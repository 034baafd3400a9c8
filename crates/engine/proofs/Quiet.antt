-- Calls one after another, and the events of each.
use Rattle.std.proofs.Common.{◌≡◌, inl, inr, ℕ, zero, suc, ◌+◌, ◌<◌, List, [], ◌∷◌, ◌++◌, length, refl, sym, ap, subst, ◌∙◌, arith, length-append}
use Rattle.std.proofs.lemmas.Bool.{cases_lt}
use Rattle.std.specs.Prelude.{Option, Some, None, slice_get}
use Rattle.pm_trait.specs.declared.event.Event.{Event}
use Rattle.pm_trait.specs.declared.event.Event.TheVariants.{Ack}
use Rattle.pm_trait.specs.Trail.{Trail}
use Rattle.pm_trait.specs.Device.{with_events, with_event, acks_from, moment_of, IsAckAt, Continues}
use Rattle.pm_trait.proofs.ContinuesLaws.{acks_from-earlier, acks_from-joined, acks_from-quiet}
use Rattle.engine.specs.Quiet.{ActsOnly}
use Rattle.engine.proofs.After.{Acked, untold}
use Rattle.engine.proofs.Lists.{get_front, get_last}

-- ---- calls

pub acts_weaker : {F G : ℕ → Type 0} {a b : Option Trail} → ((k : ℕ) → F k → G k) → ActsOnly a b F → ActsOnly a b G
acts_weaker wider acts = record { each = λ moment from upto no_ack. wider _ (acts.each moment from upto no_ack) }

-- nothing happened
pub acts_here : {a b : Option Trail} (F : ℕ → Type 0) → b ≡ a → ActsOnly a b F
acts_here F same = record { each = λ moment from upto no_ack. absurd (let long = ap moment_of same in omega (arith, from, upto, long)) }

-- an acknowledgement that came stays
ack_stays : (trail : Option Trail) (more : List Event) (moment : ℕ) → IsAckAt trail moment → IsAckAt (with_events trail more) moment
ack_stays None more moment is = is
ack_stays (Some trail) more moment is = get_front trail.events more moment Ack is

-- nothing happened but an acknowledgement
pub acts_ack : {b : Option Trail} (a : Option Trail) (F : ℕ → Type 0) → b ≡ with_event a Ack → ActsOnly a b F
acts_ack None F appended = acts_here F appended
acts_ack {b = b} (Some trail) F appended = record {
  each = λ moment from upto no_ack.
      let long : moment_of b ≡ length trail.events + 1 = ap moment_of appended ∙ length-append trail.events (Ack ∷ []) in
      let here : moment ≡ length trail.events = omega (arith, from, upto, long) in
      let is : IsAckAt (with_event (Some trail) Ack) moment = ap (slice_get (trail.events ++ Ack ∷ [])) here ∙ get_last trail.events Ack in
      absurd (no_ack (subst (λ (t : Option Trail). IsAckAt t moment) (sym appended) is));
}

-- a call after another, where the number of acknowledgements of the first is known
pub acts_after : {F : ℕ → Type 0} {a b c : Option Trail} (n : ℕ) → Acked a b n → Continues a b → Continues b c → ActsOnly a b F → ActsOnly b c (λ k. F (n + k)) → ActsOnly a c F
acts_after {F} {a} {b} {c} n acked one two first second = record {
  each = λ moment from upto no_ack. elim (cases_lt moment (moment_of b)) [
    | inl earlier ↦
        subst F (sym (acks_from-earlier a moment two (omega (arith, earlier))))
        (first.each moment from earlier (λ is. no_ack (subst (λ (t : Option Trail). IsAckAt t moment) (sym two.appended) (ack_stays b two.more moment is))))
    | inr later ↦
        subst F (sym (acks_from-joined moment one two later ∙ ap (λ (k : ℕ). k + acks_from b c moment) (known b two acked moment upto)))
        (second.each moment later upto no_ack)
  ];
}
  where
    known : (b : Option Trail) → Continues b c → Acked a b n → (moment : ℕ) → moment < moment_of c → acks_from a b (moment_of b) ≡ n
    known None two acked moment upto = absurd (let none = ap moment_of (untold two) in omega (arith, none, upto))
    known (Some trail) two acked moment upto = acked trail refl

-- ---- one line

-- a call that acknowledged nothing
pub acts_unacknowledged : {a b : Option Trail} {F : ℕ → Type 0} → Continues a b → acks_from a b (moment_of b) ≡ 0 → F 0 → ActsOnly a b F
acts_unacknowledged {F = F} continues none may = record { each = λ moment from upto no_ack. subst F (sym (acks_from-quiet moment continues none from)) may }

-- a line that takes no fence does nothing
acts_executed : {a b : Option Trail} (fences : ℕ) → Continues a b → acks_from a b (moment_of b) ≡ 0 → (fences ≡ 0 → b ≡ a) → ActsOnly a b (λ k. (k ≡ 0) × (0 < fences))
acts_executed zero continues none still = acts_here _ (still refl)
acts_executed (suc fences) continues none still = acts_unacknowledged continues none (refl, omega arith)

-- and then it is acknowledged
pub acts_answered : {a b c : Option Trail} (fences : ℕ) → Continues a b → Continues b c → acks_from a b (moment_of b) ≡ 0 → (fences ≡ 0 → b ≡ a) → c ≡ with_event b Ack
    → ActsOnly a c (λ k. (k ≡ 0) × (0 < fences))
acts_answered {b = b} fences one two none still appended =
    acts_after 0 (λ told is. none) one two (acts_executed fences one none still) (acts_ack b _ appended)
