-- The paths of a coherent image are finitely many.
use Rattle.std.proofs.Common.{◌≡◌, ◌↔◌, inl, inr, ℕ, zero, suc, ◌+◌, ◌<◌, ◌≤◌, List, [], ◌∷◌, ◌++◌, length, refl, sym, ap, subst, ◌∙◌, arith}
use Rattle.std.proofs.lemmas.Bool.{cases_eq}
use Rattle.layout.specs.Fields.{inode_kind, slot_inode, slot_name}
use Rattle.layout.specs.Geometry.{inodes_of, slots_of}
use Rattle.tree_model.specs.PathText.{Route}
use Rattle.image_reading.specs.Counts.{IsIn, IsDistinct}
use Rattle.image_reading.specs.Reading.{IsDirectory, slot_owner, Names}
use Rattle.image_reading.specs.Soundness.{IsCoherent}
use Rattle.image_counts.proofs.Paths.{one_path}
use Rattle.image_laws.proofs.Counts.{at_most_below}
use Rattle.image_laws.proofs.Decide.{IsStep, dec_step}
use Rattle.image_laws.proofs.Entries.{Listed, has_left, has_right, has_cases}
use Rattle.image_laws.proofs.Paths.{reached-le}

module _ (P : ℕ) (I : List ℕ) where
  -- what `children` has
  Child : Route → ℕ → ℕ → Route → ℕ → Type 0
  Child p d n q x = (s : ℕ) × (s < n) × IsStep P I d s × (slot_name P I s ∷ p ≡ q) × (slot_inode P I s ≡ x)

  pick : (p : Route) (d n : ℕ) → Dec (IsStep P I d n) → List (Route × ℕ) → List (Route × ℕ)
  pick p d n (yes h) es = (slot_name P I n ∷ p, slot_inode P I n) ∷ es
  pick p d n (no h) es = es

  in_pick : (p : Route) (d n : ℕ) (c : Dec (IsStep P I d n)) (es : List (Route × ℕ)) (q : Route) (x : ℕ) →
      (Listed es q x → Child p d n q x) → Listed (pick p d n c es) q x → Child p d (suc n) q x
  unfolding pick Child
  in_pick p d n (yes k) es q x f h = elim h [
    | inl e ↦ (n, omega arith, k, e.0, e.1)
    | inr g ↦ let (s, lt, k', e, i) = f g in (s, omega arith, k', e, i)
  ]
  in_pick p d n (no k) es q x f h = let (s, lt, k', e, i) = f h in (s, omega arith, k', e, i)

  pick_has : (p : Route) (d n : ℕ) (c : Dec (IsStep P I d n)) (es : List (Route × ℕ)) (q : Route) (x : ℕ) →
      (Child p d n q x → Listed es q x) → Child p d (suc n) q x → Listed (pick p d n c es) q x
  unfolding pick Child
  pick_has p d n (yes h) es q x f (s, lt, k, e, i) = elim (cases_eq s n) [
    | inl same ↦ inl (ap (λ z. slot_name P I z ∷ p) (sym same) ∙ e, ap (slot_inode P I) (sym same) ∙ i)
    | inr ne ↦ inr (f (s, omega arith, k, e, i))
  ]
  pick_has p d n (no h) es q x f (s, lt, k, e, i) = elim (cases_eq s n) [
    | inl same ↦ absurd (h (subst (IsStep P I d) same k))
    | inr ne ↦ f (s, omega arith, k, e, i)
  ]

  -- the paths one longer than p, which leads to d, by the slots below n
  children : (p : Route) (d n : ℕ) → List (Route × ℕ)
  unfolding pick
  children p d zero = []
  children p d (suc n) = pick p d n (dec_step P I d n) (children p d n)

  in_children : (p : Route) (d n : ℕ) (q : Route) (x : ℕ) → Listed (children p d n) q x → Child p d n q x
  unfolding children
  in_children p d zero q x h = absurd h
  in_children p d (suc n) q x h = in_pick p d n (dec_step P I d n) (children p d n) q x (in_children p d n q x) h

  children_has : (p : Route) (d n : ℕ) (q : Route) (x : ℕ) → Child p d n q x → Listed (children p d n) q x
  unfolding children Child
  children_has p d zero q x (s, lt, k, e, i) = absurd (omega arith)
  children_has p d (suc n) q x c = pick_has p d n (dec_step P I d n) (children p d n) q x (children_has p d n q x) c

  children_of : List (Route × ℕ) → List (Route × ℕ)
  unfolding children
  children_of [] = []
  children_of (e ∷ es) = children e.0 e.1 (slots_of P) ++ children_of es

  in_children_of : (es : List (Route × ℕ)) (q : Route) (x : ℕ) → Listed (children_of es) q x →
      (p : Route) × (d : ℕ) × Listed es p d × Child p d (slots_of P) q x
  unfolding children_of
  in_children_of [] q x h = absurd h
  in_children_of (e ∷ es) q x h = elim (has_cases (children e.0 e.1 (slots_of P)) (children_of es) q x h) [
    | inl l ↦ (e.0, e.1, inl (refl, refl), in_children e.0 e.1 (slots_of P) q x l)
    | inr r ↦ let (p, d, g, c) = in_children_of es q x r in (p, d, inr g, c)
  ]

  children_of_has : (es : List (Route × ℕ)) (q : Route) (x : ℕ) (p : Route) (d : ℕ) → Listed es p d → Child p d (slots_of P) q x → Listed (children_of es) q x
  unfolding children_of
  children_of_has [] q x p d h c = absurd h
  children_of_has (e ∷ es) q x p d h c = elim h [
    | inl g ↦ has_left (children e.0 e.1 (slots_of P)) (children_of es) q x
        (children_has e.0 e.1 (slots_of P) q x (subst (λ z. Child e.0 z (slots_of P) q x) (sym g.1) (subst (λ z. Child z d (slots_of P) q x) (sym g.0) c)))
    | inr g ↦ has_right (children e.0 e.1 (slots_of P)) (children_of es) q x (children_of_has es q x p d g c)
  ]

  -- the paths of k names
  level : ℕ → List (Route × ℕ)
  unfolding children_of
  level zero = ([], 1) ∷ []
  level (suc k) = children_of (level k)

  level_names : (k : ℕ) (q : Route) (x : ℕ) → Listed (level k) q x → Names P I q x
  unfolding level Child
  level_names zero q x h = elim h [ inl e ↦ subst (λ z. Names P I z x) e.0 (sym e.1) | inr g ↦ absurd g ]
  level_names (suc k) q x h =
      let (p, d, g, (s, lt, st, e, i)) = in_children_of (level k) q x h in
      subst (λ z. Names P I z x) e (
        s,
        subst (Names P I p) (sym st.owner) (level_names k p d g),
        record {
          directory = ap (inode_kind I) st.owner ∙ st.directory;
          live = st.live;
          name = refl;
          inode = i;
          in_range = subst (λ z. z ≤ inodes_of P) i st.in_range;
        },
      )

  names_level : (q : Route) (x : ℕ) → Names P I q x → Listed (level (length q)) q x
  unfolding level Child
  names_level [] x e = inl (refl, sym e)
  names_level (n ∷ q) x (s, b, l) = children_of_has (level (length q)) (n ∷ q) x q (slot_owner P I s) (names_level q (slot_owner P I s) b) (
    s,
    l.live.held.in_range,
    record { owner = refl; directory = l.directory; live = l.live; in_range = subst (λ z. z ≤ inodes_of P) (sym l.inode) l.in_range },
    ap (λ z. z ∷ q) l.name,
    l.inode,
  )

  -- the paths of at most k names
  levels : ℕ → List (Route × ℕ)
  unfolding level
  levels zero = level zero
  levels (suc k) = level (suc k) ++ levels k

  levels_names : (k : ℕ) (q : Route) (x : ℕ) → Listed (levels k) q x → Names P I q x
  unfolding levels
  levels_names zero q x h = level_names zero q x h
  levels_names (suc k) q x h = elim (has_cases (level (suc k)) (levels k) q x h) [ inl l ↦ level_names (suc k) q x l | inr r ↦ levels_names k q x r ]

  names_levels : (k : ℕ) (q : Route) (x : ℕ) → length q ≤ k → Names P I q x → Listed (levels k) q x
  unfolding levels
  names_levels zero q x lt h = let e : length q ≡ zero = omega arith in subst (λ z. Listed (level z) q x) e (names_level q x h)
  names_levels (suc k) q x lt h = elim (cases_eq (length q) (suc k)) [
    | inl e ↦ has_left (level (suc k)) (levels k) q x (subst (λ z. Listed (level z) q x) e (names_level q x h))
    | inr ne ↦ has_right (level (suc k)) (levels k) q x (names_levels k q x (omega arith) h)
  ]

  -- the directories that a path leads through
  through : (q : Route) (x : ℕ) → Names P I q x → List ℕ
  through [] x e = []
  through (n ∷ q) x (s, b, l) = slot_owner P I s ∷ through q (slot_owner P I s) b

  length-through : (q : Route) (x : ℕ) (b : Names P I q x) → length (through q x b) ≡ length q
  unfolding through
  length-through [] x e = refl
  length-through (n ∷ q) x (s, b, l) = ap suc (length-through q (slot_owner P I s) b)

  -- each has a shorter path
  through_path : (q : Route) (x : ℕ) (b : Names P I q x) (y : ℕ) → IsIn y (through q x b) →
      (p : Route) × Names P I p y × IsDirectory I y × (length p < length q)
  unfolding through
  through_path [] x e y h = absurd h
  through_path (n ∷ q) x (s, b, l) y h = elim h [
    | inl e ↦ (q, subst (Names P I q) (sym e) b, ap (inode_kind I) e ∙ l.directory, omega arith)
    | inr g ↦ let (p, c, k, lt) = through_path q (slot_owner P I s) b y g in (p, c, k, omega (arith, lt))
  ]

  module _ (coherent : IsCoherent P I) where
    through_distinct : (q : Route) (x : ℕ) (b : Names P I q x) → IsDistinct (through q x b)
    unfolding through
    through_distinct [] x e = tt
    through_distinct (n ∷ q) x (s, b, l) = (
      (λ h. let (p, c, k, lt) = through_path q (slot_owner P I s) b (slot_owner P I s) h in
          let e = ap length (one_path P I coherent p q (slot_owner P I s) k c b) in omega (arith, e, lt)),
      through_distinct q (slot_owner P I s) b,
    )

    -- a path is no longer than there are inodes
    pub path-le : (q : Route) (x : ℕ) → Names P I q x → length q ≤ inodes_of P + 1
    path-le q x b =
        let h : length (through q x b) ≤ inodes_of P + 1 = at_most_below (inodes_of P + 1) (through q x b) (through_distinct q x b)
        (λ y c. let (p, d, k, lt) = through_path q x b y c in let r = reached-le P I coherent y (p, d) in omega (arith, r)) in
        let e = length-through q x b in omega (arith, h, e)

    pub all_names : List (Route × ℕ)
    unfolding levels
    all_names = levels (inodes_of P + 1)

    pub all_names_are : (q : Route) (x : ℕ) → Listed all_names q x ↔ Names P I q x
    unfolding all_names
    all_names_are q x = (levels_names (inodes_of P + 1) q x, λ b. names_levels (inodes_of P + 1) q x (path-le q x b) b)
