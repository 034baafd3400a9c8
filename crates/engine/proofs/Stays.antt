-- What a crash leaves where nothing happens, or an acknowledgement alone.
use Rattle.std.proofs.Common.{◌≡◌, inl, inr, ℕ, ◌+◌, ◌≤◌, List, [], ◌∷◌, length, take, Contains, refl, sym, ap, subst, arith, length-append}
use Rattle.std.proofs.lemmas.Bool.{cases_lt}
use Rattle.std.specs.Prelude.{Option, Some, None, slice_index}
use Rattle.pm_trait.specs.declared.event.Event.{Event}
use Rattle.pm_trait.specs.declared.event.Event.TheVariants.{Ack}
use Rattle.pm_trait.specs.Trail.{Trail, IsCrashImage}
use Rattle.pm_trait.specs.Device.{IsSettledAt, MayLeave, StaysOnce, with_event, moment_of}
use Rattle.pm_trait.proofs.ContinuesLaws.{continues_same, continues_by, may_leave-longer}
use Rattle.pm_trait.proofs.AckLaws.{leaves_ack}

-- nothing happened
pub stays_here : {old new : Option Trail} (Q : List ℕ → Type 0) → new ≡ old → StaysOnce old new Q
stays_here {old} {new} Q told = record {
  continues = continues_same told;
  each = λ first second from order upto all image may.
      let long = ap moment_of told in
      let same : second ≡ first = omega (arith, from, order, upto, long) in
      all image (subst (λ (k : ℕ). MayLeave new k image) same may);
}

whole : {A : Type 0} (xs : List A) → take (length xs) xs ≡ xs
whole [] = refl
whole (x ∷ xs) = ap (λ rest. x ∷ rest) (whole xs)

-- the words of a settled device are among what a crash may leave
left_here : (now : List ℕ) (trail : Trail) → IsSettledAt now (Some trail) → MayLeave (Some trail) (length trail.events) now
left_here now trail settled =
    subst (λ (events : List Event). IsCrashImage (record { base = trail.base; events = events }) now) (sym (whole trail.events)) (record {
      long = sym settled.long;
      each = λ word inside.
          subst (λ (values : List ℕ). Contains values (slice_index now word)) (sym (settled.each word (omega (arith, inside, settled.long))).told) (0, omega arith, refl);
    })

left_before : (now : List ℕ) (old new : Option Trail) → IsSettledAt now old → new ≡ with_event old Ack → (first second : ℕ) (image : List ℕ) → first ≡ moment_of old → MayLeave new second image → MayLeave new first now
left_before now None new settled appended first second image here may = absurd (subst (λ (t : Option Trail). MayLeave t second image) appended may)
left_before now (Some trail) new settled appended first second image here may =
    subst (λ (t : Option Trail). MayLeave t first now) (sym appended)
    (may_leave-longer (Some trail) (Ack ∷ []) first now (omega (arith, here)) (subst (λ (k : ℕ). MayLeave (Some trail) k now) (sym here) (left_here now trail settled)))

one_more : (old : Option Trail) (k : ℕ) → k ≤ moment_of (with_event old Ack) → k ≤ moment_of old + 1
one_more None k upto = omega (arith, upto)
one_more (Some trail) k upto = let long = length-append trail.events (Ack ∷ []) in omega (arith, upto, long)

-- an acknowledgement of a settled device leaves its words as they were
pub stays_ack : {now : List ℕ} {old new : Option Trail} (Q : List ℕ → Type 0) → IsSettledAt now old → new ≡ with_event old Ack → StaysOnce old new Q
stays_ack {now} {old} {new} Q settled appended = record {
  continues = continues_by Ack appended;
  each = λ first second from order upto all image may. elim (cases_lt first second) [
    | inr same ↦ let is : second ≡ first = omega (arith, same, order) in all image (subst (λ (k : ℕ). MayLeave new k image) is may)
    | inl earlier ↦
        let is : image ≡ now = (leaves_ack (λ k left. left ≡ now) settled appended refl refl).each second image (omega (arith, from, order)) upto may in
        let most = one_more old second (subst (λ (t : Option Trail). second ≤ moment_of t) appended upto) in
        let here : first ≡ moment_of old = omega (arith, from, earlier, most) in
        subst Q (sym is) (all now (left_before now old new settled appended first second image here may))
  ];
}
