-- The least inode that two calls name both is found by looking at the places of one list in turn.
use Rattle.std.proofs.Common.{◌≡◌, inl, inr, ℕ, ◌+◌, ◌<◌, ◌≤◌, List, length, get_or, Option, None, Some, MatchOption, IsTrue, false, sym, ap, subst, ◌∙◌, arith}
use Rattle.std.proofs.lemmas.Bool.{cases_eq, cases_lt, false≢true}
use Rattle.std.proofs.lemmas.List.{get_or_default}
use Rattle.volume.specs.declared.named.NamedNodes.{NamedNodes}
use Rattle.volume.specs.declared.named.NamedNodes.TheVariants.{These}
use Rattle.session_laws.specs.Calls.{IsNamed}
use Rattle.sessions.specs.Busy.{AreBothNamed, AreNoneOfBoth, IsLeastOfBoth}

-- ---- what is known of the places below one

abbrev pub AreNoneBelow : List (Option ℕ) → NamedNodes → ℕ → Type 0
AreNoneBelow inodes nodes k = (inode : ℕ) → (also : AreBothNamed (These inodes) nodes inode) → also.named.0 < k → ⊥

pub record IsLeastBelow (inodes : List (Option ℕ)) (nodes : NamedNodes) (k inode : ℕ) : Type 0 where
  pub both : AreBothNamed (These inodes) nodes inode
  pub least : (other : ℕ) → (also : AreBothNamed (These inodes) nodes other) → also.named.0 < k → inode ≤ other

abbrev pub IsFoundBelow : List (Option ℕ) → NamedNodes → ℕ → Option ℕ → Type 0
IsFoundBelow inodes nodes k found = MatchOption found (AreNoneBelow inodes nodes k) (IsLeastBelow inodes nodes k)

-- all places are below the end
pub found_of_all : (inodes : List (Option ℕ)) (nodes : NamedNodes) (k : ℕ) (found : Option ℕ) → length inodes ≤ k → IsFoundBelow inodes nodes k found
    → MatchOption found (AreNoneOfBoth (These inodes) nodes) (IsLeastOfBoth (These inodes) nodes)
found_of_all inodes nodes k None end before = λ inode also. let below = also.named.1 in before inode also (omega (arith, below))
found_of_all inodes nodes k (Some least) end before = record {
  both = before.both;
  least = λ other also. let below = also.named.1 in before.least other also (omega (arith, below));
}

-- ---- one more place

-- what stands there isn't among the nodes, or isn't less
abbrev pub IsNoLess : List (Option ℕ) → NamedNodes → ℕ → Option ℕ → Type 0
IsNoLess inodes nodes k found = (inode : ℕ) → get_or inodes k (Some inode) ≡ Some inode → IsNamed nodes inode → MatchOption found ⊥ (λ least. least ≤ inode)

-- the place of an inode that is both
place_is : (inodes : List (Option ℕ)) (nodes : NamedNodes) (k inode : ℕ) → (also : AreBothNamed (These inodes) nodes inode) → also.named.0 ≡ k → get_or inodes k (Some inode) ≡ Some inode
place_is inodes nodes k inode also here = ap (λ (place : ℕ). get_or inodes place (Some inode)) (sym here) ∙ also.named.2

pub found_still : (inodes : List (Option ℕ)) (nodes : NamedNodes) (k : ℕ) (found : Option ℕ) → IsFoundBelow inodes nodes k found → IsNoLess inodes nodes k found
    → IsFoundBelow inodes nodes (k + 1) found
found_still inodes nodes k None before more = λ inode also below. elim (cases_eq also.named.0 k) [
  | inl here ↦ more inode (place_is inodes nodes k inode also here) also.named_too
  | inr there ↦ before inode also (omega (arith, there, below))
]
found_still inodes nodes k (Some least) before more = record {
  both = before.both;
  least = λ other also below. elim (cases_eq also.named.0 k) [
    | inl here ↦ more other (place_is inodes nodes k other also here) also.named_too
    | inr there ↦ before.least other also (omega (arith, there, below))
  ];
}

-- none stands there
pub none_there : (inodes : List (Option ℕ)) (nodes : NamedNodes) (k : ℕ) (found : Option ℕ) → k < length inodes → get_or inodes k None ≡ None → IsNoLess inodes nodes k found
none_there inodes nodes k found within none = λ inode is named.
    let same = get_or_default inodes k None (Some inode) within in
    let no : None ≡ Some inode = cc in
    absurd (cc)

-- this one stands there
pub one_there : (inodes : List (Option ℕ)) (nodes : NamedNodes) (k inode : ℕ) (found : Option ℕ) → k < length inodes → get_or inodes k None ≡ Some inode
    → (IsNamed nodes inode → MatchOption found ⊥ (λ least. least ≤ inode)) → IsNoLess inodes nodes k found
one_there inodes nodes k inode found within is no_less = λ other is_other named.
    let same = get_or_default inodes k None (Some other) within in
    let equal : other ≡ inode = cc in
    subst (λ (i : ℕ). MatchOption found ⊥ (λ least. least ≤ i)) (sym equal) (no_less (subst (IsNamed nodes) equal named))

pub not_less : (inode : ℕ) (found : Option ℕ) → (MatchOption found (Unit {0}) (λ other. inode < other) → IsTrue false) → MatchOption found ⊥ (λ least. least ≤ inode)
not_less inode None not = absurd (false≢true (not tt))
not_less inode (Some least) not = elim (cases_lt inode least) [
  | inl less ↦ absurd (false≢true (not less))
  | inr no_less ↦ no_less
]

-- this one is among the nodes, and is less
pub found_less : (inodes : List (Option ℕ)) (nodes : NamedNodes) (k inode : ℕ) (found : Option ℕ) → IsFoundBelow inodes nodes k found → k < length inodes
    → get_or inodes k None ≡ Some inode → IsNamed nodes inode → MatchOption found (Unit {0}) (λ least. inode < least) → IsFoundBelow inodes nodes (k + 1) (Some inode)
found_less inodes nodes k inode found before within is named less = record {
  both = record { named = (k, within, get_or_default inodes k (Some inode) None within ∙ is); named_too = named };
  least = λ other also below. elim (cases_eq also.named.0 k) [
    | inl here ↦
        let place = place_is inodes nodes k other also here in
        let same = get_or_default inodes k None (Some other) within in
        let equal : inode ≡ other = cc in
        omega (arith, equal)
    | inr there ↦ least_before found before less other also (omega (arith, there, below))
  ];
} where
  least_before : (found : Option ℕ) → IsFoundBelow inodes nodes k found → MatchOption found (Unit {0}) (λ least. inode < least)
      → (other : ℕ) → (also : AreBothNamed (These inodes) nodes other) → also.named.0 < k → inode ≤ other
  least_before None before less other also below = absurd (before other also below)
  least_before (Some least) before less other also below = let no_less = before.least other also below in omega (arith, less, no_less)
