-- Counts of numbers that are matched with the elements of a list, or are shared out among them.
use Rattle.std.proofs.Common.{◌≡◌, ◌↔◌, ◌⊎◌, inl, inr, ℕ, suc, ◌+◌, ◌<◌, ◌≤◌, Bool, true, false, cond, List, [], ◌∷◌, ◌++◌, length, sum_by, filter, refl, sym, subst, ap, ◌∙◌, arith}
use Rattle.std.proofs.lemmas.List.{length-append}
use Rattle.std.proofs.lemmas.List.Sums.{sum_by-cons}
use Rattle.image_reading.specs.Counts.{IsIn, Count}
use Rattle.image_reading.proofs.Counts.{count_none, count_one}
use Rattle.image_counts.proofs.Distinct.{fewer, in_front, in_back, in_either, distinct_both, run, length-run, in_run, of_run, distinct_run}

-- ---- counts

pub count_alike : (Q R : ℕ → Type 0) (n : ℕ) → ((x : ℕ) → Q x → R x) → ((x : ℕ) → R x → Q x) → Count Q n → Count R n
count_alike Q R n to from (xs, distinct, is, long) = (xs, distinct, (λ x. ((λ here. to x ((is x).0 here)), (λ r. (is x).1 (from x r)))), long)

-- what is counted 0 none has
pub none_counted : (Q : ℕ → Type 0) → Count Q 0 → (x : ℕ) → Q x → ⊥
none_counted Q ([], distinct, is, long) x q = (is x).1 q
none_counted Q (y ∷ ys, distinct, is, long) x q = absurd (omega (arith, long))

-- fewer have a property than one that it implies
pub count_fewer : (Q R : ℕ → Type 0) (m n : ℕ) → ((x : ℕ) → Q x → R x) → Count Q m → Count R n → m ≤ n
count_fewer Q R m n implies (xs, dx, is, long) (ys, dy, are, length) =
    let h = fewer xs ys dx (λ x here. (are x).1 (implies x ((is x).0 here))) in omega (arith, h, long, length)

-- and fewer still where one that has the second hasn't the first
pub count_less : (Q R : ℕ → Type 0) (m n s : ℕ) → ((x : ℕ) → Q x → R x) → R s → ¬ Q s → Count Q m → Count R n → m < n
count_less Q R m n s implies here other (xs, dx, is, long) (ys, dy, are, length) =
    let h = fewer (s ∷ xs) ys ((λ among. other ((is s).0 among)), dx) all in omega (arith, h, long, length)
  where
    all : (x : ℕ) → IsIn x (s ∷ xs) → IsIn x ys
    all x among = elim among [ inl e ↦ (are x).1 (subst R (sym e) here) | inr old ↦ (are x).1 (implies x ((is x).0 old)) ]

-- so many have one property or the other, where none has both
pub count_either : (Q R : ℕ → Type 0) (m n : ℕ) → ((x : ℕ) → Q x → R x → ⊥) → Count Q m → Count R n → Count (λ x. Q x ⊎ R x) (m + n)
count_either Q R m n apart (xs, dx, is, long) (ys, dy, are, longer) = (
  xs ++ ys,
  distinct_both xs ys dx dy (λ x a b. apart x ((is x).0 a) ((are x).0 b)),
  (λ x. (
    (λ among. elim (in_either x xs ys among) [ inl a ↦ inl ((is x).0 a) | inr b ↦ inr ((are x).0 b) ]),
    (λ has. elim has [ inl q ↦ in_front x xs ys ((is x).1 q) | inr r ↦ in_back x xs ys ((are x).1 r) ]),
  )),
  omega (arith, length-append xs ys, long, longer),
)

pub count_run : (start n : ℕ) → Count (λ x. (start ≤ x) × (x < start + n)) n
count_run start n = (
  run start n,
  distinct_run start n,
  (λ x. ((λ among. of_run x start n among), (λ both. in_run x start n both.0 both.1))),
  length-run start n,
)

-- where each number of a run has the one property or the other, as many have the two as the run is long
pub count_parts : (Q R : ℕ → Type 0) (start size m n : ℕ) → ((x : ℕ) → Q x → R x → ⊥) → ((x : ℕ) → (Q x ⊎ R x) ↔ ((start ≤ x) × (x < start + size))) → Count Q m → Count R n → m + n ≡ size
count_parts Q R start size m n apart all some others =
    count_one (λ x. (start ≤ x) × (x < start + size)) (m + n) size
    (count_alike (λ x. Q x ⊎ R x) (λ x. (start ≤ x) × (x < start + size)) (m + n) (λ x has. (all x).0 has) (λ x range. (all x).1 range)
    (count_either Q R m n apart some others))
    (count_run start size)

-- ---- lists in which nothing stands twice

abbrev pub Among : {E : Type 0} → E → List E → Type 0
Among e [] = ⊥
Among e (f ∷ es) = (e ≡ f) ⊎ Among e es

abbrev pub AreApart : {E : Type 0} → List E → Type 0
AreApart [] = Unit {0}
AreApart (e ∷ es) = (Among e es → ⊥) × AreApart es

abbrev pub kept : {E : Type 0} → Bool → E → List E → List E
kept b e es = cond b (e ∷ es) es

among_kept : {E : Type 0} (b : Bool) (e f : E) (es : List E) → Among f (kept b e es) → ((f ≡ e) × (b ≡ true)) ⊎ Among f es
among_kept true e f es among = elim among [ inl is ↦ inl (is, refl) | inr later ↦ inr later ]
among_kept false e f es among = inr among

kept_later : {E : Type 0} (b : Bool) (e f : E) (es : List E) → Among f es → Among f (kept b e es)
kept_later true e f es among = inr among
kept_later false e f es among = among

kept_apart : {E : Type 0} (b : Bool) (e : E) (es : List E) → (Among e es → ⊥) → AreApart es → AreApart (kept b e es)
kept_apart true e es fresh apart = (fresh, apart)
kept_apart false e es fresh apart = apart

pub among_filter : {E : Type 0} (t : E → Bool) (es : List E) (f : E) → Among f (filter t es) → Among f es × (t f ≡ true)
among_filter t [] f among = absurd among
among_filter t (e ∷ es) f among = elim (among_kept (t e) e f (filter t es) among) [
  | inl (is, passes) ↦ (inl is, ap t is ∙ passes)
  | inr later ↦ let (there, passes) = among_filter t es f later in (inr there, passes)
]

pub filter_among : {E : Type 0} (t : E → Bool) (es : List E) (f : E) → Among f es → t f ≡ true → Among f (filter t es)
filter_among t [] f among passes = absurd among
filter_among t (e ∷ es) f among passes = elim among [
  | inl is ↦ subst (λ b. Among f (kept b e (filter t es))) (sym (ap t (sym is) ∙ passes)) (inl is)
  | inr later ↦ kept_later (t e) e f (filter t es) (filter_among t es f later passes)
]

pub filter_apart : {E : Type 0} (t : E → Bool) (es : List E) → AreApart es → AreApart (filter t es)
filter_apart t [] apart = tt
filter_apart t (e ∷ es) apart = kept_apart (t e) e (filter t es) (λ h. apart.0 (among_filter t es e h).0) (filter_apart t es apart.1)

-- ---- numbers that are matched with the elements of a list

-- each element has one number, and no two have the same
pub record IsMatching {E : Type 0} (R : E → ℕ → Type 0) (es : List E) : Type 0 where
  pub apart : AreApart es
  pub each : (e : E) → Among e es → (s : ℕ) × R e s
  pub one : (e : E) (s t : ℕ) → Among e es → R e s → R e t → s ≡ t
  pub own : (e f : E) (s : ℕ) → Among e es → Among f es → R e s → R f s → e ≡ f

abbrev pub IsMatched : {E : Type 0} → (E → ℕ → Type 0) → List E → ℕ → Type 0
IsMatched {E} R es s = (e : E) × Among e es × R e s

pub count_matched : {E : Type 0} (R : E → ℕ → Type 0) (es : List E) → IsMatching R es → Count (IsMatched R es) (length es)
count_matched R [] m = count_none (IsMatched R []) (λ s matched. matched.1)
count_matched {E} R (e ∷ es) m =
    let (s, r) = m.each e (inl refl) in
    let later = count_matched R es (record {
      apart = m.apart.1;
      each = λ f h. m.each f (inr h);
      one = λ f x y h. m.one f x y (inr h);
      own = λ f g x h k. m.own f g x (inr h) (inr k);
    }) in
    more s r later
  where
    more : (s : ℕ) → R e s → Count (IsMatched R es) (length es) → Count (IsMatched R (e ∷ es)) (suc (length es))
    more s r (xs, dx, is, long) = (
      s ∷ xs,
      (fresh, dx),
      (λ t. (to t, from t)),
      ap suc long,
    )
      where
        fresh : IsIn s xs → ⊥
        fresh among = let (f, there, q) = (is s).0 among in m.apart.0 (subst (λ z. Among z es) (sym (m.own e f s (inl refl) (inr there) r q)) there)

        to : (t : ℕ) → IsIn t (s ∷ xs) → IsMatched R (e ∷ es) t
        to t among = elim among [
          | inl same ↦ (e, inl refl, subst (R e) (sym same) r)
          | inr old ↦ let (f, there, q) = (is t).0 old in (f, inr there, q)
        ]

        from : (t : ℕ) → IsMatched R (e ∷ es) t → IsIn t (s ∷ xs)
        from t (f, there, q) = elim there [
          | inl same ↦ inl (m.one e t s (inl refl) (subst (λ z. R z t) same q) r)
          | inr later ↦ inr ((is t).1 (f, later, q))
        ]

-- ---- numbers that are shared out among the elements of a list

-- each element has so many numbers, and no two have the same
pub record IsSharing {E : Type 0} (R : E → ℕ → Type 0) (g : E → ℕ) (es : List E) : Type 0 where
  pub apart : AreApart es
  pub each : (e : E) → Among e es → Count (R e) (g e)
  pub own : (e f : E) (s : ℕ) → Among e es → Among f es → R e s → R f s → e ≡ f

pub count_shared : {E : Type 0} (R : E → ℕ → Type 0) (g : E → ℕ) (es : List E) → IsSharing R g es → Count (IsMatched R es) (sum_by g es)
count_shared R g [] m = count_none (IsMatched R []) (λ s matched. matched.1)
count_shared {E} R g (e ∷ es) m =
    let later = count_shared R g es (record {
      apart = m.apart.1;
      each = λ f h. m.each f (inr h);
      own = λ f h x k l. m.own f h x (inr k) (inr l);
    }) in
    subst (Count (IsMatched R (e ∷ es))) (sym (sum_by-cons g e es))
    (count_alike (λ s. R e s ⊎ IsMatched R es s) (IsMatched R (e ∷ es)) (g e + sum_by g es) to from
    (count_either (R e) (IsMatched R es) (g e) (sum_by g es) not_both (m.each e (inl refl)) later))
  where
    not_both : (s : ℕ) → R e s → IsMatched R es s → ⊥
    not_both s r (f, there, q) = m.apart.0 (subst (λ z. Among z es) (sym (m.own e f s (inl refl) (inr there) r q)) there)

    to : (s : ℕ) → R e s ⊎ IsMatched R es s → IsMatched R (e ∷ es) s
    to s has = elim has [ inl r ↦ (e, inl refl, r) | inr (f, there, q) ↦ (f, inr there, q) ]

    from : (s : ℕ) → IsMatched R (e ∷ es) s → R e s ⊎ IsMatched R es s
    from s (f, there, q) = elim there [ inl same ↦ inl (subst (λ z. R z s) same q) | inr later ↦ inr (f, later, q) ]
