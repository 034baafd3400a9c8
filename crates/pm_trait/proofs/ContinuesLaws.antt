-- Laws of trails that go on: their moments, their acknowledgements and what a crash may leave at a moment.
use Rattle.std.proofs.Common.{◌≡◌, ℕ, zero, suc, ◌+◌, ◌-◌, ◌<◌, ◌≤◌, List, [], ◌∷◌, ◌++◌, length, get_or, take, drop, refl, sym, ◌∙◌, ap, subst, arith, append_assoc, length-append, take-append-drop}
use Rattle.std.specs.Prelude.{Option, Some, None, IfSome, slice_get}
use Rattle.std.proofs.lemmas.List.{append-nil, take-append-le, get_or_append_left, get_or-append-add}
use Rattle.std.proofs.lemmas.Option.{slice_get-get_or, get_or_from_slice_get}
use Rattle.std.proofs.Math.Seq.{take-append-add, drop-append_seam, take-append_seam}
use Rattle.pm_trait.specs.declared.event.Event.{Event}
use Rattle.pm_trait.specs.declared.event.Event.TheVariants.{Store, Flush, Fence, BadFence, Ack}
use Rattle.pm_trait.specs.Trail.{Trail, IsCrashImage, count_acks}
use Rattle.pm_trait.proofs.TrailLaws.{count_acks-append}
use Rattle.pm_trait.specs.Device.{with_events, with_event, moment_of, at_moment, acks_from, IsAckAt, MayLeave, Continues, IsHonest}

-- Trails with more events

pub with_events-nil : (trail : Option Trail) → trail ≡ with_events trail []
with_events-nil None = refl
with_events-nil (Some trail) = ap (λ (events : List Event). Some (record { base = trail.base; events = events })) (sym (append-nil trail.events))

pub with_events-append : (trail : Option Trail) (first second : List Event) → with_events (with_events trail first) second ≡ with_events trail (first ++ second)
with_events-append None first second = refl
with_events-append (Some trail) first second =
    ap (λ (events : List Event). Some (record { base = trail.base; events = events })) (append_assoc trail.events first second)

-- each trail goes on from itself, and from what it went on from
abbrev pub continues_here : (trail : Option Trail) → Continues trail trail
continues_here trail = record { more = []; appended = with_events-nil trail }

abbrev pub continues_same : {old new : Option Trail} → new ≡ old → Continues old new
continues_same {old} same = record { more = []; appended = same ∙ with_events-nil old }

abbrev pub continues_by : {old new : Option Trail} (event : Event) → new ≡ with_event old event → Continues old new
continues_by event appended = record { more = event ∷ []; appended = appended }

abbrev pub continues_then : {a b c : Option Trail} → Continues a b → Continues b c → Continues a c
continues_then {a} {b} {c} first second = record {
  more = first.more ++ second.more;
  appended = second.appended ∙ ap (λ (t : Option Trail). with_events t second.more) first.appended ∙ with_events-append a first.more second.more;
}

-- Moments

pub moment_of-more : (trail : Option Trail) (more : List Event) → moment_of trail ≤ moment_of (with_events trail more)
moment_of-more None more = omega arith
moment_of-more (Some trail) more = omega (arith, length-append trail.events more)

grown_at : (trail : Option Trail) (more : List Event) → moment_of (with_events trail more) ≤ moment_of trail + length more
grown_at None more = omega arith
grown_at (Some trail) more = omega (arith, length-append trail.events more)

-- and by these events it has grown by at most so many
pub moment_of-grown : (old new : Option Trail) (more : List Event) → new ≡ with_events old more → moment_of new ≤ moment_of old + length more
moment_of-grown old new more appended = subst (λ (t : Option Trail). moment_of t ≤ moment_of old + length more) (sym appended) (grown_at old more)

pub moment_of-continues : {old new : Option Trail} → Continues old new → moment_of old ≤ moment_of new
moment_of-continues {old} {new} run = subst (λ (t : Option Trail). moment_of old ≤ moment_of t) (sym run.appended) (moment_of-more old run.more)

-- what a crash may leave at a moment does not change with what comes later
pub may_leave-more : (trail : Option Trail) (more : List Event) (moment : ℕ) (image : List ℕ) → moment ≤ moment_of trail → MayLeave (with_events trail more) moment image → MayLeave trail moment image
may_leave-more None more moment image upto may = may
may_leave-more (Some trail) more moment image upto may =
    subst (λ (l : List Event). IsCrashImage (record { base = trail.base; events = l }) image) (take-append-le moment trail.events more upto) may

pub may_leave-longer : (trail : Option Trail) (more : List Event) (moment : ℕ) (image : List ℕ) → moment ≤ moment_of trail → MayLeave trail moment image → MayLeave (with_events trail more) moment image
may_leave-longer None more moment image upto may = may
may_leave-longer (Some trail) more moment image upto may =
    subst (λ (l : List Event). IsCrashImage (record { base = trail.base; events = l }) image) (sym (take-append-le moment trail.events more upto)) may

-- nor does the trail as it was then
pub at_moment-more : (trail : Option Trail) (more : List Event) (moment : ℕ) → moment ≤ moment_of trail → at_moment (with_events trail more) moment ≡ at_moment trail moment
at_moment-more None more moment upto = refl
at_moment-more (Some trail) more moment upto =
    ap (λ (l : List Event). Some (record { base = trail.base; events = l })) (take-append-le moment trail.events more upto)

-- nor what event comes next
slice_get-front : (front back : List Event) (place : ℕ) → place < length front → slice_get (front ++ back) place ≡ slice_get front place
slice_get-front front back place inside =
    let longer : place < length (front ++ back) = omega (arith, length-append front back, inside) in
    slice_get-get_or (front ++ back) place Ack longer
    ∙ ap (λ (e : Event). Some e) (get_or_append_left front back Ack place inside)
    ∙ sym (slice_get-get_or front place Ack inside)

pub is_ack_at-more : (trail : Option Trail) (more : List Event) (moment : ℕ) → moment < moment_of trail → IsAckAt (with_events trail more) moment → IsAckAt trail moment
is_ack_at-more None more moment inside is = is
is_ack_at-more (Some trail) more moment inside is = sym (slice_get-front trail.events more moment inside) ∙ is

-- Acknowledgements

-- those up to a moment do not change with what comes later
pub acks_from-more : (old trail : Option Trail) (more : List Event) (moment : ℕ) → moment ≤ moment_of trail → acks_from old (with_events trail more) moment ≡ acks_from old trail moment
acks_from-more old None more moment upto = refl
acks_from-more old (Some trail) more moment upto =
    ap (λ (l : List Event). count_acks (drop (moment_of old) l)) (take-append-le moment trail.events more upto)

-- those of the first events after the old trail
acks_from-first : (trail : Trail) (more : List Event) (n : ℕ) → acks_from (Some trail) (with_events (Some trail) more) (length trail.events + n) ≡ count_acks (take n more)
acks_from-first trail more n =
    ap (λ (l : List Event). count_acks (drop (length trail.events) l)) (take-append-add trail.events more n)
    ∙ ap count_acks (drop-append_seam trail.events (take n more))

take_whole : (events : List Event) → take (length events) events ≡ events
take_whole [] = refl
take_whole (event ∷ events) = ap (λ (l : List Event). event ∷ l) (take_whole events)

-- and those of all of them
pub acks_from-all : (trail : Trail) (more : List Event) → acks_from (Some trail) (with_events (Some trail) more) (length (trail.events ++ more)) ≡ count_acks more
acks_from-all trail more =
    ap (λ (k : ℕ). acks_from (Some trail) (with_events (Some trail) more) k) (length-append trail.events more)
    ∙ acks_from-first trail more (length more)
    ∙ ap count_acks (take_whole more)

joined_at : (old : Option Trail) (first second : List Event) (moment : ℕ) → moment_of (with_events old first) ≤ moment → acks_from old (with_events (with_events old first) second) moment ≡ acks_from old (with_events old first) (moment_of (with_events old first)) + acks_from (with_events old first) (with_events (with_events old first) second) moment
joined_at None first second moment from = refl
joined_at (Some trail) first second moment from =
    let n = moment - length (trail.events ++ first) in
    let is : moment ≡ length (trail.events ++ first) + n = omega (arith, from) in
    let far : moment ≡ length trail.events + (length first + n) = omega (arith, is, length-append trail.events first) in
    let whole : acks_from (Some trail) (with_events (with_events (Some trail) first) second) moment ≡ count_acks (first ++ take n second) =
    ap (λ (t : Option Trail). acks_from (Some trail) t moment) (with_events-append (Some trail) first second)
    ∙ ap (λ (k : ℕ). acks_from (Some trail) (with_events (Some trail) (first ++ second)) k) far
    ∙ acks_from-first trail (first ++ second) (length first + n)
    ∙ ap count_acks (take-append-add first second n) in
    let late : acks_from (with_events (Some trail) first) (with_events (with_events (Some trail) first) second) moment ≡ count_acks (take n second) =
    ap (λ (k : ℕ). acks_from (with_events (Some trail) first) (with_events (with_events (Some trail) first) second) k) is
    ∙ acks_from-first (record { base = trail.base; events = trail.events ++ first }) second n in
    omega (arith, whole, late, acks_from-all trail first, count_acks-append first (take n second))

-- THE COUNT OVER TWO CALLS: from the end of the first on, those of the first and those since are added.
pub acks_from-joined : {a b c : Option Trail} (moment : ℕ) → Continues a b → Continues b c → moment_of b ≤ moment → acks_from a c moment ≡ acks_from a b (moment_of b) + acks_from b c moment
acks_from-joined {a} {b} {c} moment first second from =
    subst (λ (u : Option Trail). acks_from a u moment ≡ acks_from a b (moment_of b) + acks_from b u moment) (sym second.appended)
    (subst (λ (t : Option Trail). moment_of t ≤ moment → acks_from a (with_events t second.more) moment ≡ acks_from a t (moment_of t) + acks_from t (with_events t second.more) moment) (sym first.appended)
    (joined_at a first.more second.more moment) from)

-- and before it, those of the first count
pub acks_from-earlier : {b c : Option Trail} (a : Option Trail) (moment : ℕ) → Continues b c → moment ≤ moment_of b → acks_from a c moment ≡ acks_from a b moment
acks_from-earlier {b} {c} a moment second upto =
    ap (λ (t : Option Trail). acks_from a t moment) second.appended ∙ acks_from-more a b second.more moment upto

-- so the sum over both
pub acks_from-then : {a b c : Option Trail} → Continues a b → Continues b c → acks_from a c (moment_of c) ≡ acks_from a b (moment_of b) + acks_from b c (moment_of c)
acks_from-then {a} {b} {c} first second = acks_from-joined (moment_of c) first second (moment_of-continues second)

-- at the end of the old trail there is none yet
here_at : (trail : Option Trail) (more : List Event) → acks_from trail (with_events trail more) (moment_of trail) ≡ 0
here_at None more = refl
here_at (Some trail) more =
    ap (λ (l : List Event). count_acks (drop (length trail.events) l)) (take-append_seam trail.events more)
    ∙ ap (λ (l : List Event). count_acks (drop (length trail.events) l)) (sym (append-nil trail.events))
    ∙ ap count_acks (drop-append_seam trail.events [])

pub acks_from-here : {old new : Option Trail} → Continues old new → acks_from old new (moment_of old) ≡ 0
acks_from-here {old} {new} run = ap (λ (t : Option Trail). acks_from old t (moment_of old)) run.appended ∙ here_at old run.more

-- events without an acknowledgement add none
acks_of_front : (more : List Event) (n : ℕ) → count_acks more ≡ 0 → count_acks (take n more) ≡ 0
acks_of_front more n none = omega (arith, none, parts, count_acks-append (take n more) (drop n more))
  where
    parts : count_acks (take n more ++ drop n more) ≡ count_acks more
    parts = ap count_acks (take-append-drop n more)

none_at : (trail : Option Trail) (more : List Event) (moment : ℕ) → count_acks more ≡ 0 → moment_of trail ≤ moment → acks_from trail (with_events trail more) moment ≡ 0
none_at None more moment none from = refl
none_at (Some trail) more moment none from =
    let n = moment - length trail.events in
    let is : moment ≡ length trail.events + n = omega (arith, from) in
    ap (λ (k : ℕ). acks_from (Some trail) (with_events (Some trail) more) k) is
    ∙ acks_from-first trail more n
    ∙ acks_of_front more n none

pub acks_from-none : {old new : Option Trail} (moment : ℕ) → (run : Continues old new) → count_acks run.more ≡ 0 → moment_of old ≤ moment → acks_from old new moment ≡ 0
acks_from-none {old} {new} moment run none from = ap (λ (t : Option Trail). acks_from old t moment) run.appended ∙ none_at old run.more moment none from

-- where none is counted to the end, none is counted before it, and none is among the events
all_of : (trail : Trail) (more : List Event) → acks_from (Some trail) (with_events (Some trail) more) (moment_of (with_events (Some trail) more)) ≡ count_acks more
all_of trail more = acks_from-all trail more

quiet_at : (trail : Option Trail) (more : List Event) (moment : ℕ) → acks_from trail (with_events trail more) (moment_of (with_events trail more)) ≡ 0 → moment_of trail ≤ moment → acks_from trail (with_events trail more) moment ≡ 0
quiet_at None more moment none from = refl
quiet_at (Some trail) more moment none from = none_at (Some trail) more moment (sym (all_of trail more) ∙ none) from

pub acks_from-quiet : {old new : Option Trail} (moment : ℕ) → Continues old new → acks_from old new (moment_of new) ≡ 0 → moment_of old ≤ moment → acks_from old new moment ≡ 0
acks_from-quiet {old} {new} moment run none from =
    ap (λ (t : Option Trail). acks_from old t moment) run.appended
    ∙ quiet_at old run.more moment (subst (λ (t : Option Trail). acks_from old t (moment_of t) ≡ 0) run.appended none) from

ack_counted : (events : List Event) (place : ℕ) → get_or events place Fence ≡ Ack → 0 < count_acks events
ack_counted [] place is = cc
ack_counted (Store word value ∷ events) zero is = cc
ack_counted (Store word value ∷ events) (suc place) is = ack_counted events place is
ack_counted (Flush line ∷ events) zero is = cc
ack_counted (Flush line ∷ events) (suc place) is = ack_counted events place is
ack_counted (Fence ∷ events) zero is = cc
ack_counted (Fence ∷ events) (suc place) is = ack_counted events place is
ack_counted (BadFence ∷ events) zero is = cc
ack_counted (BadFence ∷ events) (suc place) is = ack_counted events place is
ack_counted (Ack ∷ events) place is = omega arith

no_ack_at : (trail : Option Trail) (more : List Event) (moment : ℕ) → acks_from trail (with_events trail more) (moment_of (with_events trail more)) ≡ 0 → moment_of trail ≤ moment → IsAckAt (with_events trail more) moment → ⊥
no_ack_at None more moment none from is = is
no_ack_at (Some trail) more moment none from is =
    let n = moment - length trail.events in
    let at : length trail.events + n ≡ moment = omega (arith, from) in
    let found : get_or more n Fence ≡ Ack = sym (get_or-append-add trail.events more n Fence) ∙ ap (λ (k : ℕ). get_or (trail.events ++ more) k Fence) at ∙ get_or_from_slice_get (trail.events ++ more) moment Ack Fence is in
    omega (arith, ack_counted more n found, all_of trail more, none)

-- and none comes next
pub is_ack_at-quiet : {old new : Option Trail} (moment : ℕ) → Continues old new → acks_from old new (moment_of new) ≡ 0 → moment_of old ≤ moment → IsAckAt new moment → ⊥
is_ack_at-quiet {old} {new} moment run none from is =
    no_ack_at old run.more moment (subst (λ (t : Option Trail). acks_from old t (moment_of t) ≡ 0) run.appended none) from
    (subst (λ (t : Option Trail). IsAckAt t moment) run.appended is)

-- Counts of the device

told_at : {now after : List ℕ} {fences acks fences_after acks_after : ℕ} (trail : Option Trail) (more : List Event) → IsHonest now trail fences acks → IsHonest after (with_events trail more) fences_after acks_after → IfSome (with_events trail more) (λ _. acks + acks_from trail (with_events trail more) (moment_of (with_events trail more)) ≡ acks_after)
told_at None more before behind = tt
told_at (Some trail) more before behind =
    let was = before.told.acks_told in
    let is = behind.told.acks_told in
    omega (arith, was, is, count_acks-append trail.events more, all_of trail more)

-- where an honest device tells its trail, the acknowledgements of a call are those that its count gained
pub acks_told : {now after : List ℕ} {fences acks fences_after acks_after : ℕ} {old new : Option Trail} → Continues old new → IsHonest now old fences acks → IsHonest after new fences_after acks_after → IfSome new (λ _. acks + acks_from old new (moment_of new) ≡ acks_after)
acks_told {after = after} {acks = acks} {fences_after = fences_after} {acks_after = acks_after} {old = old} run before behind =
    subst (λ (t : Option Trail). IfSome t (λ _. acks + acks_from old t (moment_of t) ≡ acks_after)) (sym run.appended)
    (told_at old run.more before (subst (λ (t : Option Trail). IsHonest after t fences_after acks_after) run.appended behind))

-- so where the count stays, a call acknowledges nothing
pub no_acks_told : {now after : List ℕ} {fences acks fences_after acks_after : ℕ} {old : Option Trail} (new : Option Trail) → Continues old new → IsHonest now old fences acks → IsHonest after new fences_after acks_after → acks_after ≡ acks → acks_from old new (moment_of new) ≡ 0
no_acks_told None run before behind stays = refl
no_acks_told {old = old} (Some trail) run before behind stays =
    let told = acks_told run before behind in
    omega (arith, told, stays)
