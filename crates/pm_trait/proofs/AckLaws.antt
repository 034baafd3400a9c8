-- Laws of acknowledgements and of fences on a settled device.
use Rattle.std.proofs.Common.{◌≡◌, inl, inr, ℕ, ◌+◌, ◌<◌, ◌≤◌, List, [], ◌∷◌, length, refl, sym, ◌∙◌, ap, subst, arith, length-append}
use Rattle.std.specs.Prelude.{Option, Some, None, IfSome, slice_index}
use Rattle.std.proofs.lemmas.Bool.{cases_lt}
use Rattle.std.proofs.Math.Seq.{take-append_seam}
use Rattle.pm_trait.specs.declared.event.Event.{Event}
use Rattle.pm_trait.specs.declared.event.Event.TheVariants.{Ack}
use Rattle.pm_trait.specs.Trail.{Trail, settled_value, unsettled_stores, stores_to}
use Rattle.pm_trait.proofs.TrailLaws.{settled_value-later, unsettled_stores-later}
use Rattle.pm_trait.specs.Device.{with_events, with_event, moment_of, at_moment, acks_from, IsAckAt, MayLeave, Continues, LeavesOnly, SettledWith, AcksSettled, IsClean, IsSettledAt}
use Rattle.pm_trait.proofs.ContinuesLaws.{continues_here, continues_by, continues_then, may_leave-more, at_moment-more, is_ack_at-more, is_ack_at-quiet, acks_from-here, acks_from-all, acks_from-joined, acks_from-earlier}
use Rattle.pm_trait.proofs.DeviceLaws.{settled_leaves}

-- Words that nothing stores

-- a clean word stays clean over events that do not store it, also over fences and acknowledgements
clean_more : {now : List ℕ} (after : List ℕ) (trail : Option Trail) (more : List Event) (word : ℕ) → stores_to word more ≡ [] → slice_index after word ≡ slice_index now word → IsClean now trail word → IsClean after (with_events trail more) word
clean_more after None more word none same clean = record { told = tt }
clean_more {now} after (Some trail) more word none same clean =
    let stores : unsettled_stores word trail.events ≡ [] = cc (clean.told) in
    let value : settled_value word (slice_index trail.base word) trail.events ≡ slice_index now word = cc (clean.told) in
    record { told = cc (unsettled_stores-later word trail.events more stores none, settled_value-later word (slice_index trail.base word) trail.events more stores none, value, same) }

pub clean_event : {now after : List ℕ} {old new : Option Trail} (event : Event) (word : ℕ) → stores_to word (event ∷ []) ≡ [] → after ≡ now → new ≡ with_event old event → IsClean now old word → IsClean after new word
clean_event {now} {after} {old} {new} event word none same appended clean =
    subst (λ (t : Option Trail). IsClean after t word) (sym appended)
    (clean_more after old (event ∷ []) word none (ap (λ (l : List ℕ). slice_index l word) same) clean)

long_more : {now : List ℕ} (after : List ℕ) (trail : Option Trail) (more : List Event) → after ≡ now → IfSome trail (λ told. length told.base ≡ length now) → IfSome (with_events trail more) (λ told. length told.base ≡ length after)
long_more after None more same long = tt
long_more after (Some trail) more same long = long ∙ ap length (sym same)

-- a settled device stays settled over an event that stores nothing
settled_event : {now after : List ℕ} {old new : Option Trail} (event : Event) → ((word : ℕ) → stores_to word (event ∷ []) ≡ []) → after ≡ now → new ≡ with_event old event → IsSettledAt now old → IsSettledAt after new
settled_event {now} {after} {old} {new} event none same appended settled = record {
  long = subst (λ (t : Option Trail). IfSome t (λ told. length told.base ≡ length after)) (sym appended) (long_more after old (event ∷ []) same settled.long);
  each = λ word inside. clean_event event word (none word) same appended (settled.each word (omega (arith, ap length same, inside)));
}

pub settled_ack : {now after : List ℕ} {old new : Option Trail} → after ≡ now → new ≡ with_event old Ack → IsSettledAt now old → IsSettledAt after new
settled_ack same appended settled = settled_event Ack (λ word. refl) same appended settled

-- One acknowledgement

one_ack : (trail : Trail) → acks_from (Some trail) (with_event (Some trail) Ack) (length trail.events + 1) ≡ 1
one_ack trail =
    ap (λ (k : ℕ). acks_from (Some trail) (with_event (Some trail) Ack) k) (sym (length-append trail.events (Ack ∷ []))) ∙ acks_from-all trail (Ack ∷ [])

leaves_at_ack : (now : List ℕ) (trail : Option Trail) (P : ℕ → List ℕ → Type 0) → IsSettledAt now trail → P 0 now → P 1 now → (moment : ℕ) (image : List ℕ) → moment_of trail ≤ moment → moment ≤ moment_of (with_event trail Ack) → MayLeave (with_event trail Ack) moment image → P (acks_from trail (with_event trail Ack) moment) image
leaves_at_ack now None P settled before behind moment image from upto may = absurd may
leaves_at_ack now (Some trail) P settled before behind moment image from upto may = elim (cases_lt (length trail.events) moment) [
  | inl late ↦
      let at : moment ≡ length trail.events + 1 = omega (arith, upto, late, length-append trail.events (Ack ∷ [])) in
      let is : moment ≡ moment_of (with_event (Some trail) Ack) = omega (arith, at, length-append trail.events (Ack ∷ [])) in
      let words : image ≡ now = settled_leaves now (with_event (Some trail) Ack) moment image (settled_ack refl refl settled) is may in
      let count : acks_from (Some trail) (with_event (Some trail) Ack) moment ≡ 1 = ap (λ (k : ℕ). acks_from (Some trail) (with_event (Some trail) Ack) k) at ∙ one_ack trail in
      subst (λ (k : ℕ). P k image) (sym count) (subst (λ (l : List ℕ). P 1 l) (sym words) behind)
  | inr early ↦
      let is : moment ≡ length trail.events = omega (arith, from, early) in
      let words : image ≡ now = settled_leaves now (Some trail) moment image settled is (may_leave-more (Some trail) (Ack ∷ []) moment image early may) in
      let count : acks_from (Some trail) (with_event (Some trail) Ack) moment ≡ 0 = ap (λ (k : ℕ). acks_from (Some trail) (with_event (Some trail) Ack) k) is ∙ acks_from-here {old = Some trail} (continues_by Ack refl) in
      subst (λ (k : ℕ). P k image) (sym count) (subst (λ (l : List ℕ). P 0 l) (sym words) before)
]

-- what the settled words have both without and with one acknowledgement, an acknowledgement leaves
pub leaves_ack : {now : List ℕ} {old new : Option Trail} (P : ℕ → List ℕ → Type 0) → IsSettledAt now old → new ≡ with_event old Ack → P 0 now → P 1 now → LeavesOnly old new P
leaves_ack {now} {old} {new} P settled appended before behind =
    subst (λ (t : Option Trail). LeavesOnly old t P) (sym appended)
    (record { continues = continues_by Ack refl; each = leaves_at_ack now old P settled before behind })

-- What is settled at each acknowledgement

pub acks_here : (trail : Option Trail) (Q : ℕ → List ℕ → Type 0) → AcksSettled trail trail Q
acks_here trail Q = record {
  continues = continues_here trail;
  each = λ moment from before is. absurd (omega (arith, from, before));
}

-- a call that acknowledges nothing
pub acks_none : {old new : Option Trail} (Q : ℕ → List ℕ → Type 0) → Continues old new → acks_from old new (moment_of new) ≡ 0 → AcksSettled old new Q
acks_none Q run none = record {
  continues = run;
  each = λ moment from before is. absurd (is_ack_at-quiet moment run none from is);
}

pub acks_weaker : {Q R : ℕ → List ℕ → Type 0} {old new : Option Trail} → ((k : ℕ) (image : List ℕ) → Q k image → R k image) → AcksSettled old new Q → AcksSettled old new R
acks_weaker {old = old} {new = new} implies run = record {
  continues = run.continues;
  each = λ moment from before is.
      let was = run.each moment from before is in
      record { image = was.image; settled = was.settled; holds = implies (acks_from old new (moment + 1)) was.image was.holds };
}

-- one call after another
pub acks_then : {Q : ℕ → List ℕ → Type 0} {a b c : Option Trail} → AcksSettled a b Q → AcksSettled b c (λ k. Q (acks_from a b (moment_of b) + k)) → AcksSettled a c Q
acks_then {Q} {a} {b} {c} first second = record {
  continues = continues_then first.continues second.continues;
  each = λ moment from before is. elim (cases_lt moment (moment_of b)) [
    | inr later ↦
        subst (λ (k : ℕ). SettledWith (at_moment c moment) (Q k)) (sym (acks_from-joined (moment + 1) first.continues second.continues (omega (arith, later))))
        (let was = second.each moment later before is in record { image = was.image; settled = was.settled; holds = was.holds })
    | inl earlier ↦
        subst (λ (t : Option Trail). SettledWith t (Q (acks_from a c (moment + 1)))) (sym (same earlier))
        (subst (λ (k : ℕ). SettledWith (at_moment b moment) (Q k)) (sym (acks_from-earlier a (moment + 1) second.continues (omega (arith, earlier))))
        (first.each moment from earlier (is_ack_at-more b second.continues.more moment earlier (subst (λ (t : Option Trail). IsAckAt t moment) second.continues.appended is))))
  ];
}
  where
    same : {moment : ℕ} → moment < moment_of b → at_moment c moment ≡ at_moment b moment
    same {moment} earlier = ap (λ (t : Option Trail). at_moment t moment) second.continues.appended ∙ at_moment-more b second.continues.more moment (omega (arith, earlier))

-- and after one that acknowledges nothing
pub acks_next : {Q : ℕ → List ℕ → Type 0} {a b c : Option Trail} → acks_from a b (moment_of b) ≡ 0 → AcksSettled a b Q → AcksSettled b c Q → AcksSettled a c Q
acks_next {Q} {a} {b} {c} none first second =
    acks_then first (acks_weaker (λ k image holds. subst (λ (n : ℕ). Q n image) (shift k) holds) second)
  where
    shift : (k : ℕ) → k ≡ acks_from a b (moment_of b) + k
    shift k = omega (arith, none)

settled_at_ack : (now : List ℕ) (trail : Option Trail) (Q : ℕ → List ℕ → Type 0) → IsSettledAt now trail → Q 1 now → (moment : ℕ) → moment_of trail ≤ moment → moment < moment_of (with_event trail Ack) → IsAckAt (with_event trail Ack) moment → SettledWith (at_moment (with_event trail Ack) moment) (Q (acks_from trail (with_event trail Ack) (moment + 1)))
settled_at_ack now None Q settled holds moment from before is = absurd is
settled_at_ack now (Some trail) Q settled holds moment from before is =
    let at : moment ≡ length trail.events = omega (arith, from, before, length-append trail.events (Ack ∷ [])) in
    let was : at_moment (with_event (Some trail) Ack) moment ≡ Some trail =
    ap (λ (k : ℕ). at_moment (with_event (Some trail) Ack) k) at
    ∙ ap (λ (l : List Event). Some (record { base = trail.base; events = l })) (take-append_seam trail.events (Ack ∷ [])) in
    let count : acks_from (Some trail) (with_event (Some trail) Ack) (moment + 1) ≡ 1 = ap (λ (k : ℕ). acks_from (Some trail) (with_event (Some trail) Ack) (k + 1)) at ∙ one_ack trail in
    record {
      image = now;
      settled = subst (λ (t : Option Trail). IsSettledAt now t) (sym was) settled;
      holds = subst (λ (k : ℕ). Q k now) (sym count) holds;
    }

-- an acknowledgement of a settled device
pub acks_ack : {now : List ℕ} {old new : Option Trail} (Q : ℕ → List ℕ → Type 0) → IsSettledAt now old → new ≡ with_event old Ack → Q 1 now → AcksSettled old new Q
acks_ack {now} {old} {new} Q settled appended holds =
    subst (λ (t : Option Trail). AcksSettled old t Q) (sym appended)
    (record { continues = continues_by Ack refl; each = settled_at_ack now old Q settled holds })
