-- The files of ranges, and what is mixed by one range more.
use Rattle.std.proofs.Common.{◌≡◌, ◌≢◌, ℕ, zero, suc, ◌⊎◌, inl, inr, true, List, [], ◌∷◌, refl, sym, ap, subst, ◌∙◌, arith}
use Rattle.std.proofs.lemmas.Bool.{cases_eq}
use Rattle.std.specs.List.{Contains}
use Rattle.std.specs.Cmp.{nat_cmp_total}
use Rattle.std.specs.FinMap.{nat_cmp-IsAntisymmetric}
use Rattle.tree_model.specs.Allowed.{is_mix}
use Rattle.tree_model.specs.Tree.{Tree, node_at, bytes_of, is_file, is_file_node, bytes_of_node}
use Rattle.tree_model.specs.Step.{with_bytes}
use Rattle.tree_model.proofs.TableLaws.{same_table}
use Rattle.tree_model.proofs.TreeLaws.{node_at-with_bytes_here, node_at-with_bytes_other}
use Rattle.image_reading.specs.Counts.{IsIn}
use Rattle.mixing_laws.specs.Mixed.{Range, files_of, IsMixedFile, IsMixed, NoneMixedLaw, MixedInOrderLaw, MoreMixedLaw, UnmixedLaw}
use Rattle.mixing_laws.proofs.Mixes.{mix_itself}

-- ---- the files of ranges

pub file_of : (ranges : List Range) (range : Range) → Contains ranges range → IsIn range.file (files_of ranges)
file_of [] range (k, below, is) = absurd (omega arith)
file_of (first ∷ ranges) range (zero, below, is) = inl (ap (λ (r : Range). r.file) (sym is))
file_of (first ∷ ranges) range (suc k, below, is) = inr (file_of ranges range (k, omega arith, is))

pub first_here : (first : Range) (ranges : List Range) → Contains (first ∷ ranges) first
first_here first ranges = (0, omega arith, refl)

first_or_later : (first range : Range) (ranges : List Range) → Contains (first ∷ ranges) range → (first ≡ range) ⊎ Contains ranges range
first_or_later first range ranges (zero, below, is) = inl is
first_or_later first range ranges (suc k, below, is) = inr (k, omega arith, is)

pub later : (first range : Range) (ranges : List Range) → Contains ranges range → Contains (first ∷ ranges) range
later first range ranges (k, below, is) = (suc k, omega arith, is)

-- a range of this file
abbrev pub HasRange : List Range → ℕ → Type 0
HasRange ranges id = (range : Range) × Contains ranges range × (range.file ≡ id)

range_of : (ranges : List Range) (id : ℕ) → IsIn id (files_of ranges) → HasRange ranges id
range_of [] id h = absurd h
range_of (first ∷ ranges) id h = elim h [
  | inl e ↦ (first, first_here first ranges, sym e)
  | inr more ↦ let (range, held, is) = range_of ranges id more in (range, later first range ranges held, is)
]

pub range_or_not : (ranges : List Range) (id : ℕ) → HasRange ranges id ⊎ (¬ IsIn id (files_of ranges))
range_or_not [] id = inr (λ h. h)
range_or_not (first ∷ ranges) id = elim (cases_eq id first.file) [
  | inl e ↦ inl (range_of (first ∷ ranges) id (inl e))
  | inr ne ↦ elim (range_or_not ranges id) [
    | inl h ↦ let (range, held, is) = h in inl (range, later first range ranges held, is)
    | inr un ↦ inr (λ h. elim h [ inl e ↦ ne e | inr g ↦ un g ])
  ]
]

-- the file of a range isn't another that no range has
pub other_file : (ranges : List Range) (id : ℕ) → ¬ IsIn id (files_of ranges) → (range : Range) → Contains ranges range → range.file ≢ id
other_file ranges id none range held same = none (subst (λ i. IsIn i (files_of ranges)) same (file_of ranges range held))

-- ---- nothing mixed, and the order

same_tree : (T U : Tree) → U.names ≡ T.names → ((id : ℕ) → node_at U id ≡ node_at T id) → U ≡ T
same_tree T U names nodes =
    let same = same_table nat_cmp_total nat_cmp-IsAntisymmetric U.nodes T.nodes nodes in λ k. record { names = names k; nodes = same k }

pub none_mixed_law : NoneMixedLaw
none_mixed_law T U = (
  (λ m. same_tree T U m.names (λ id. m.others id (λ h. h))),
  (λ e. record {
    names = ap (λ (V : Tree). V.names) e;
    others = λ id none. ap (λ (V : Tree). node_at V id) e;
    files = λ range (k, below, is). absurd (omega arith);
  }),
)

pub mixed_in_order_law : MixedInOrderLaw
mixed_in_order_law ranges others T U same m = record {
  names = m.names;
  others = λ id none. m.others id (λ h.
      let (range, held, is) = range_of ranges id h in none (subst (λ i. IsIn i (files_of others)) is (file_of others range ((same range).0 held))));
  files = λ range held. m.files range ((same range).1 held);
}

-- ---- one range more

-- a file keeps what a range says of it where its nodes are the same
pub mixed_file : (range : Range) (T U V W : Tree) → node_at V range.file ≡ node_at T range.file → node_at W range.file ≡ node_at U range.file
    → IsMixedFile range T U → IsMixedFile range V W
mixed_file range T U V W old new m = record {
  file = ap is_file_node old ∙ m.file;
  file_still = ap is_file_node new ∙ m.file_still;
  bytes = (λ k. is_mix range.offset range.bytes 0 (bytes_of_node (old k)) (bytes_of_node (new k))) ∙ m.bytes;
}

module _ (ranges : List Range) (range : Range) (T U : Tree) (m : IsMixed ranges T U) (none : ¬ IsIn range.file (files_of ranges)) (file : is_file U range.file ≡ true) where
  more_mixed : (V : Tree) → V.names ≡ U.names → ((id : ℕ) → id ≢ range.file → node_at V id ≡ node_at U id) → is_file V range.file ≡ true
      → is_mix range.offset range.bytes 0 (bytes_of U range.file) (bytes_of V range.file) ≡ true → IsMixed (range ∷ ranges) T V
  more_mixed V names nodes still mix = record {
    names = names ∙ m.names;
    others = λ id apart. nodes id (λ e. apart (inl e)) ∙ m.others id (λ h. apart (inr h));
    files = λ other held. elim (first_or_later range other ranges held) [
      | inl same ↦ subst (λ (r : Range). IsMixedFile r T V) same here
      | inr more ↦ mixed_file other T U T V refl (nodes other.file (other_file ranges range.file none other more)) (m.files other more)
    ];
  }
    where
      here : IsMixedFile range T V
      here = record {
        file = sym (ap is_file_node (m.others range.file none)) ∙ file;
        file_still = still;
        bytes = ap (λ o. is_mix range.offset range.bytes 0 (bytes_of_node o) (bytes_of V range.file)) (sym (m.others range.file none)) ∙ mix;
      }

pub more_mixed_law : MoreMixedLaw
more_mixed_law ranges range T U mixed m none file mix =
    let here = node_at-with_bytes_here U range.file mixed in
    more_mixed ranges range T U m none file (with_bytes U range.file mixed) refl (λ id other. node_at-with_bytes_other U range.file mixed id other) (ap is_file_node here)
    (ap (λ o. is_mix range.offset range.bytes 0 (bytes_of U range.file) (bytes_of_node o)) here ∙ mix)

pub unmixed_law : UnmixedLaw
unmixed_law ranges range T U m none file = more_mixed ranges range T U m none file U refl (λ id other. refl) file (mix_itself range.offset range.bytes 0 (bytes_of U range.file))
