-- How reads go on from one another.
use Rattle.std.proofs.Common.{◌≡◌, ℕ, ◌+◌, ◌<◌, ◌≤◌, Bool, true, false, cond, nat_le, List, [], ◌∷◌, ◌++◌, length, take, drop, Option, Some, None, refl, sym, ap, subst, ◌∙◌, arith, append_assoc, length-append, inl, inr}
use Rattle.std.proofs.lemmas.Bool.Decides.{nat_tests}
use Rattle.std.proofs.lemmas.List.{append-nil, length-take-le}
use Rattle.io_edge.specs.Bytes.{IsEnd}
use Rattle.script.specs.Lines.{newline, line_limit, script_limit, IsUnbroken}
use Rattle.script.specs.Places.{BreaksAt}
use Rattle.script.specs.Reading.{rest_of, IfTold, TakesLine, TakesLongLine, IsOver, BreaksOff, GoesOn, ReadPrefix, ReadsOn, HasSkipped, SkipsOn}
use Rattle.script.specs.declared.lines.Step.{Step}
use Rattle.script.specs.declared.lines.Step.TheVariants.{Line, TooLong, End}
use Rattle.script.proofs.PlaceLaws.{lacks_append}

-- ---- what is told

pub told_trans : (a b c : Option (List ℕ)) (R S T : List ℕ → List ℕ → Type 0) → ((x y z : List ℕ) → R x y → S y z → T x z) → IfTold a b R → IfTold b c S → IfTold a c T
told_trans None None c R S T join first second = second
told_trans None (Some b) c R S T join first second = cc
told_trans (Some a) None c R S T join first second = absurd first
told_trans (Some a) (Some b) None R S T join first second = absurd second
told_trans (Some a) (Some b) (Some c) R S T join first second = join a b c first second

front_trans : (first second third : ℕ) (x y z : List ℕ) → ReadPrefix first second x y → ReadPrefix second third y z → ReadPrefix first third x z
front_trans first second third x y z one two =
    let count_one = one.counted in
    let count_two = two.counted in
    record {
      front = one.front ++ two.front;
      split = one.split ∙ ap (λ rest. one.front ++ rest) two.split ∙ sym (append_assoc one.front two.front z);
      counted = omega (arith, count_one, count_two, length-append one.front two.front);
    }

-- ---- reads

front_none : (old new : List ℕ) (count : ℕ) → old ≡ new → ReadPrefix count count old new
front_none old new count same = record { front = []; split = same; counted = omega arith }

pub reads_none : (left : Option (List ℕ)) (pending : List ℕ) (count : ℕ) → ReadsOn left pending count left pending count
reads_none None pending count = record { rest = refl; front = refl; never_fewer = omega arith }
reads_none (Some left) pending count = record { rest = refl; front = front_none left left count refl; never_fewer = omega arith }

pub reads_trans : (left-0 : Option (List ℕ)) (pending-0 : List ℕ) (count-0 : ℕ) (left-1 : Option (List ℕ)) (pending-1 : List ℕ) (count-1 : ℕ) (left-2 : Option (List ℕ)) (pending-2 : List ℕ) (count-2 : ℕ)
    → ReadsOn left-0 pending-0 count-0 left-1 pending-1 count-1 → ReadsOn left-1 pending-1 count-1 left-2 pending-2 count-2 → ReadsOn left-0 pending-0 count-0 left-2 pending-2 count-2
reads_trans left-0 pending-0 count-0 left-1 pending-1 count-1 left-2 pending-2 count-2 first second =
    let fewer_one = first.never_fewer in
    let fewer_two = second.never_fewer in
    record {
      rest = second.rest ∙ first.rest;
      front = told_trans left-0 left-1 left-2 (ReadPrefix count-0 count-1) (ReadPrefix count-1 count-2) (ReadPrefix count-0 count-2) (front_trans count-0 count-1 count-2) first.front second.front;
      never_fewer = omega (arith, fewer_one, fewer_two);
    }

-- ---- steps

pub told_map : (a b : Option (List ℕ)) (R S : List ℕ → List ℕ → Type 0) → ((x y : List ℕ) → R x y → S x y) → IfTold a b R → IfTold a b S
told_map None b R S f told = told
told_map (Some a) None R S f told = absurd told
told_map (Some a) (Some b) R S f told = f a b told

-- a line off the beginning of what was read, where the source has this left
at_break : (left : Option (List ℕ)) (pending : List ℕ) (place read : ℕ) (seen : Bool) → BreaksAt newline pending place
    → IfTold (rest_of pending left) (rest_of (drop (place + 1) pending) left) (TakesLine (take place pending) read seen)
at_break None pending place read seen found = refl
at_break (Some left) pending place read seen found = record {
  unbroken = found.before;
  taken = inl (ap (λ bytes. bytes ++ left) found.split ∙ append_assoc (take place pending) (newline ∷ drop (place + 1) pending) left);
}

given_as : (place : ℕ) (step : Step) (line : List ℕ) (read : ℕ) (seen : Bool) (old new left : Option (List ℕ)) → step ≡ cond (nat_le place line_limit) Line TooLong
    → length line ≡ place → IfTold old new (TakesLine line read seen) → GoesOn step line read seen old new left
given_as place step line read seen old new left is long told =
    subst (λ (s : Step). GoesOn s line read seen old new left) (sym is)
    (elim (nat_le place line_limit) as (λ t. nat_le place line_limit ≡ t → GoesOn (cond t Line TooLong) line read seen old new left) [
      | true ↦ λ short. (grind (arith, nat_tests), told)
      | false ↦ λ over. told_map old new (TakesLine line read seen) (TakesLongLine read seen) (λ x y takes. record { line = line; long = grind (arith, nat_tests); takes = takes }) told
    ] refl)

-- the line before a newline among the bytes that were read
pub line_given : (step : Step) (old left : Option (List ℕ)) (pending line new : List ℕ) (place read : ℕ) (seen : Bool) → rest_of pending left ≡ old → BreaksAt newline pending place
    → line ≡ take place pending → new ≡ drop (place + 1) pending → step ≡ cond (nat_le place line_limit) Line TooLong → GoesOn step line read seen old (rest_of new left) left
line_given step old left pending line new place read seen rest found line_is new_is step_is =
    let within = found.within in
    let long : length line ≡ place = ap length line_is ∙ length-take-le place pending (omega (arith, within)) in
    let told = at_break left pending place read seen found in
    given_as place step line read seen old (rest_of new left) left step_is long
    (subst (λ (o : Option (List ℕ)). IfTold o (rest_of new left) (TakesLine line read seen)) rest
    (subst (λ (l : List ℕ). IfTold (rest_of pending left) (rest_of new left) (TakesLine l read seen)) (sym line_is)
    (subst (λ (n : List ℕ). IfTold (rest_of pending left) (rest_of n left) (TakesLine (take place pending) read seen)) (sym new_is) told)))

-- the bytes at the end of the input, where there are some
last_told : (left : Option (List ℕ)) (pending : List ℕ) (read : ℕ) (seen : Bool) → seen ≡ true → IsUnbroken pending → IsEnd left → read < script_limit → 0 < length pending
    → IfTold (rest_of pending left) (rest_of [] left) (TakesLine pending read seen)
last_told None pending read seen is_seen unbroken ended below some = refl
last_told (Some left) pending read seen is_seen unbroken ended below some = record {
  unbroken = unbroken;
  taken = inr (record { whole = ap (λ l. pending ++ l) ended ∙ append-nil pending; some = some; ended = ended; below = below; end_seen = is_seen });
}

over_told : (left : Option (List ℕ)) (pending : List ℕ) → pending ≡ [] → IsEnd left → IfTold (rest_of pending left) (rest_of [] left) IsOver
over_told None pending none ended = refl
over_told (Some left) pending none ended = record { before = ap (λ p. p ++ left) none ∙ ended; now = ended }

no_bytes : (bytes : List ℕ) → length bytes < 1 → bytes ≡ []
no_bytes [] short = refl
no_bytes (b ∷ bytes) short = absurd (omega arith)

last_as : (step : Step) (left : Option (List ℕ)) (pending : List ℕ) (read : ℕ) (seen : Bool) → seen ≡ true → IsUnbroken pending → IsEnd left → read < script_limit → length pending ≤ line_limit
    → step ≡ cond (nat_le 1 (length pending)) Line End → GoesOn step pending read seen (rest_of pending left) (rest_of [] left) left
last_as step left pending read seen is_seen unbroken ended below short is =
    subst (λ (s : Step). GoesOn s pending read seen (rest_of pending left) (rest_of [] left) left) (sym is)
    (elim (nat_le 1 (length pending)) as (λ t. nat_le 1 (length pending) ≡ t → GoesOn (cond t Line End) pending read seen (rest_of pending left) (rest_of [] left) left) [
      | true ↦ λ some. (short, last_told left pending read seen is_seen unbroken ended below (grind (arith, nat_tests)))
      | false ↦ λ none. (below, is_seen, over_told left pending (no_bytes pending (grind (arith, nat_tests))) ended)
    ] refl)

pub last_given : (step : Step) (old left : Option (List ℕ)) (pending line new : List ℕ) (read : ℕ) (seen : Bool) → seen ≡ true → rest_of pending left ≡ old → IsUnbroken pending → IsEnd left → read < script_limit
    → length pending ≤ line_limit → line ≡ pending → new ≡ [] → step ≡ cond (nat_le 1 (length pending)) Line End → GoesOn step line read seen old (rest_of new left) left
last_given step old left pending line new read seen is_seen rest unbroken ended below short line_is new_is step_is =
    subst (λ (o : Option (List ℕ)). GoesOn step line read seen o (rest_of new left) left) rest
    (subst (λ (l : List ℕ). GoesOn step l read seen (rest_of pending left) (rest_of new left) left) (sym line_is)
    (subst (λ (n : List ℕ). GoesOn step pending read seen (rest_of pending left) (rest_of n left) left) (sym new_is)
    (last_as step left pending read seen is_seen unbroken ended below short step_is)))

off_told : (left : Option (List ℕ)) (pending : List ℕ) → IsUnbroken pending → IfTold (rest_of pending left) left BreaksOff
off_told None pending unbroken = refl
off_told (Some left) pending unbroken = record { begun = pending; unbroken = unbroken; split = refl }

-- reading breaks off
pub breaks_off : (old left : Option (List ℕ)) (pending : List ℕ) → rest_of pending left ≡ old → IsUnbroken pending → IfTold old left BreaksOff
breaks_off old left pending rest unbroken = subst (λ (o : Option (List ℕ)). IfTold o left BreaksOff) rest (off_told left pending unbroken)

-- ---- lines over the limit

-- what is left once these bytes were read
left_of : (left-1 left-2 : Option (List ℕ)) (pending : List ℕ) → rest_of pending left-2 ≡ rest_of [] left-1 → IfTold left-1 left-2 (λ x y. x ≡ pending ++ y)
left_of None None pending rest = refl
left_of None (Some left-2) pending rest = cc
left_of (Some left-1) None pending rest = cc
left_of (Some left-1) (Some left-2) pending rest = sym cc

skip_join : (pending : List ℕ) → IsUnbroken pending → (x y z : List ℕ) → HasSkipped x y → y ≡ pending ++ z → HasSkipped x z
skip_join pending unbroken x y z skipped rest =
    let long = skipped.long in
    record {
      begun = skipped.begun ++ pending;
      unbroken = lacks_append newline skipped.begun pending skipped.unbroken unbroken;
      long = omega (arith, long, length-append skipped.begun pending);
      split = skipped.split ∙ ap (λ r. skipped.begun ++ r) rest ∙ sym (append_assoc skipped.begun pending z);
    }

-- the skipped bytes so far, and these
skipped_on : (old left-1 left-2 : Option (List ℕ)) (pending : List ℕ) → IfTold old left-1 HasSkipped → rest_of pending left-2 ≡ rest_of [] left-1 → IsUnbroken pending
    → IfTold old left-2 HasSkipped
skipped_on old left-1 left-2 pending skipped rest unbroken =
    told_trans old left-1 left-2 HasSkipped (λ x y. x ≡ pending ++ y) HasSkipped (skip_join pending unbroken) skipped (left_of left-1 left-2 pending rest)

pub skip_on : (old_left : Option (List ℕ)) (old : List ℕ) (count-0 : ℕ) (left-1 : Option (List ℕ)) (none : List ℕ) (count-1 : ℕ) (left-2 : Option (List ℕ)) (pending : List ℕ) (count-2 : ℕ)
    → SkipsOn old_left old count-0 left-1 count-1 → none ≡ [] → ReadsOn left-1 none count-1 left-2 pending count-2 → IsUnbroken pending → SkipsOn old_left old count-0 left-2 count-2
skip_on old_left old count-0 left-1 none count-1 left-2 pending count-2 skips empty reads unbroken =
    let fewer_one = skips.never_fewer in
    let fewer_two = reads.never_fewer in
    record {
      skipped = skipped_on (rest_of old old_left) left-1 left-2 pending skips.skipped (reads.rest ∙ ap (λ p. rest_of p left-1) empty) unbroken;
      front = told_trans old_left left-1 left-2 (ReadPrefix count-0 count-1) (ReadPrefix count-1 count-2) (ReadPrefix count-0 count-2) (front_trans count-0 count-1 count-2) skips.front reads.front;
      never_fewer = omega (arith, fewer_one, fewer_two);
    }

pub skip_front : (old_left : Option (List ℕ)) (old : List ℕ) (count-0 : ℕ) (left-1 : Option (List ℕ)) (none : List ℕ) (count-1 : ℕ) (left-2 : Option (List ℕ)) (pending : List ℕ) (count-2 : ℕ)
    → SkipsOn old_left old count-0 left-1 count-1 → ReadsOn left-1 none count-1 left-2 pending count-2 → IfTold old_left left-2 (ReadPrefix count-0 count-2)
skip_front old_left old count-0 left-1 none count-1 left-2 pending count-2 skips reads =
    told_trans old_left left-1 left-2 (ReadPrefix count-0 count-1) (ReadPrefix count-1 count-2) (ReadPrefix count-0 count-2) (front_trans count-0 count-1 count-2) skips.front reads.front

off_skipped : (x y : List ℕ) → HasSkipped x y → BreaksOff x y
off_skipped x y skipped = record { begun = skipped.begun; unbroken = skipped.unbroken; split = skipped.split }

pub skip_breaks_off : (old left-1 left-2 : Option (List ℕ)) (none pending : List ℕ) → IfTold old left-1 HasSkipped → none ≡ [] → rest_of pending left-2 ≡ rest_of none left-1
    → IsUnbroken pending → IfTold old left-2 BreaksOff
skip_breaks_off old left-1 left-2 none pending skipped empty rest unbroken =
    told_map old left-2 HasSkipped BreaksOff off_skipped
    (skipped_on old left-1 left-2 pending skipped (rest ∙ ap (λ p. rest_of p left-1) empty) unbroken)

long_join : (pending new : List ℕ) (place read : ℕ) (seen : Bool) → BreaksAt newline pending place → new ≡ drop (place + 1) pending → (x y z : List ℕ) → HasSkipped x y → y ≡ pending ++ z
    → TakesLongLine read seen x (new ++ z)
long_join pending new place read seen found new_is x y z skipped rest =
    let long = skipped.long in
    let line = take place pending in
    record {
      line = skipped.begun ++ line;
      long = omega (arith, long, length-append skipped.begun line);
      takes = record {
        unbroken = lacks_append newline skipped.begun line skipped.unbroken found.before;
        taken = inl (skipped.split ∙ ap (λ r. skipped.begun ++ r) (rest ∙ ap (λ p. p ++ z) found.split ∙ append_assoc line (newline ∷ drop (place + 1) pending) z)
            ∙ sym (append_assoc skipped.begun line (newline ∷ (drop (place + 1) pending ++ z))) ∙ ap (λ n. (skipped.begun ++ line) ++ newline ∷ (n ++ z)) (sym new_is));
      };
    }

onto : (left : Option (List ℕ)) (new : List ℕ) → IfTold left (rest_of new left) (λ y z. z ≡ new ++ y)
onto None new = refl
onto (Some left) new = refl

pub skip_ends : (old left-1 left-2 : Option (List ℕ)) (none pending new : List ℕ) (place read : ℕ) (seen : Bool) → IfTold old left-1 HasSkipped → none ≡ [] → rest_of pending left-2 ≡ rest_of none left-1
    → BreaksAt newline pending place → new ≡ drop (place + 1) pending → IfTold old (rest_of new left-2) (TakesLongLine read seen)
skip_ends old left-1 left-2 none pending new place read seen skipped empty rest found new_is =
    told_trans old left-2 (rest_of new left-2) (λ x z. TakesLongLine read seen x (new ++ z)) (λ y z. z ≡ new ++ y) (TakesLongLine read seen)
    (λ x y z long same. subst (λ (n : List ℕ). TakesLongLine read seen x n) (sym same) long)
    (told_trans old left-1 left-2 HasSkipped (λ x y. x ≡ pending ++ y) (λ x z. TakesLongLine read seen x (new ++ z)) (long_join pending new place read seen found new_is)
    skipped (left_of left-1 left-2 pending (rest ∙ ap (λ p. rest_of p left-1) empty)))
    (onto left-2 new)

last_join : (read : ℕ) (seen : Bool) → seen ≡ true → read < script_limit → (x y : List ℕ) → HasSkipped x y → y ≡ [] → TakesLongLine read seen x y
last_join read seen is_seen below x y skipped none =
    let long = skipped.long in
    record {
      line = skipped.begun;
      long = long;
      takes = record {
        unbroken = skipped.unbroken;
        taken = inr (record { whole = skipped.split ∙ ap (λ r. skipped.begun ++ r) none ∙ append-nil skipped.begun; some = omega (arith, long); ended = none; below = below; end_seen = is_seen });
      };
    }

last_skipped : (old left : Option (List ℕ)) (read : ℕ) (seen : Bool) → seen ≡ true → IfTold old left HasSkipped → IsEnd left → read < script_limit → IfTold old left (TakesLongLine read seen)
last_skipped None left read seen is_seen skipped ended below = skipped
last_skipped (Some old) None read seen is_seen skipped ended below = absurd skipped
last_skipped (Some old) (Some left) read seen is_seen skipped ended below = last_join read seen is_seen below old left skipped ended

rest_none : (left : Option (List ℕ)) → rest_of [] left ≡ left
rest_none None = refl
rest_none (Some left) = refl

pub skip_last : (old left-1 left-2 : Option (List ℕ)) (none pending new : List ℕ) (read : ℕ) (seen : Bool) → seen ≡ true → new ≡ [] → IfTold old left-1 HasSkipped → none ≡ [] → pending ≡ none → rest_of pending left-2 ≡ rest_of none left-1
    → IsEnd left-2 → read < script_limit → IfTold old (rest_of new left-2) (TakesLongLine read seen)
skip_last old left-1 left-2 none pending new read seen is_seen new_none skipped empty same rest ended below =
    let nothing = same ∙ empty in
    let same_left = sym (rest_none left-1) ∙ sym (ap (λ p. rest_of p left-1) empty) ∙ sym rest ∙ ap (λ p. rest_of p left-2) nothing ∙ rest_none left-2 in
    let told = last_skipped old left-2 read seen is_seen (subst (λ (l : Option (List ℕ)). IfTold old l HasSkipped) same_left skipped) ended below in
    subst (λ (l : Option (List ℕ)). IfTold old l (TakesLongLine read seen)) (sym (ap (λ p. rest_of p left-2) new_none ∙ rest_none left-2)) told

pub counted_on : (left-0 : Option (List ℕ)) (pending-0 : List ℕ) (count-0 : ℕ) (left-1 : Option (List ℕ)) (pending-1 : List ℕ) (count-1 : ℕ) (left-2 : Option (List ℕ)) (count-2 : ℕ)
    → ReadsOn left-0 pending-0 count-0 left-1 pending-1 count-1 → IfTold left-1 left-2 (ReadPrefix count-1 count-2) → IfTold left-0 left-2 (ReadPrefix count-0 count-2)
counted_on left-0 pending-0 count-0 left-1 pending-1 count-1 left-2 count-2 reads front =
    told_trans left-0 left-1 left-2 (ReadPrefix count-0 count-1) (ReadPrefix count-1 count-2) (ReadPrefix count-0 count-2) (front_trans count-0 count-1 count-2) reads.front front
