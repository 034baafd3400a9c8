-- The inodes that are reached are the nodes, and in a tidy image those whose kind isn't 0; beside a residue those too have a kind that it has.
use Rattle.std.proofs.Common.{◌≡◌, ◌≢◌, ◌⊎◌, inl, inr, ℕ, ◌+◌, ◌<◌, ◌≤◌, Bool, true, false, length, List, Option, Some, None, is_some, nat_cmp, refl, sym, ap, ◌∙◌, arith}
use Rattle.std.specs.Cmp.{nat_cmp_total}
use Rattle.std.specs.FinMap.{nat_cmp-IsAntisymmetric}
use Rattle.std.proofs.lemmas.Bool.{cases_eq}
use Rattle.layout.specs.Geometry.{inodes_of}
use Rattle.layout.specs.Fields.{inode_kind}
use Rattle.layout.proofs.Widths.{inode_field_read}
use Rattle.tree_model.specs.Tree.{Tree, Node, node_at}
use Rattle.tree_model.specs.Capacity.{inodes_in_use, free_inodes}
use Rattle.tree_model.specs.Step.{least_free_id}
use Rattle.tree_model.proofs.TreeLaws.{least_free_id-only}
use Rattle.image_reading.specs.Counts.{IsIn, Count}
use Rattle.image_reading.specs.Reading.{Reached, Reads}
use Rattle.image_reading.specs.Repairs.{IsLitterInode}
use Rattle.image_reading.specs.Residue.{Residue, no_residue, IsTidyBeside}
use Rattle.image_reading.specs.Soundness.{Rule, IsCoherent}
use Rattle.image_reading.specs.Tidy.{IsTidied}
use Rattle.image_reading.proofs.Residues.{counted, tidied_beside}
use Rattle.image_counts.specs.Entries.{IsFreeInode}
use Rattle.image_counts.specs.Laws.{HasInodes, HasUsedInodes, InodeCountLaw, FreeInodeLaw, supply_beside, HasInodesBeside, FreeInodeBesideLaw}
use Rattle.image_counts.proofs.Paths.{in_range}
use Rattle.image_counts.proofs.Nodes.{node_reached, reached_node}
use Rattle.image_counts.proofs.Counting.{IsMatching, IsMatched, count_matched, count_alike, count_either, count_parts}
use Rattle.image_counts.proofs.Entries.{find_among, same_entry, entries_apart, among_find}

true_or_false : (b : Bool) → (b ≡ true) ⊎ (b ≡ false)
true_or_false true = inl refl
true_or_false false = inr refl

not_both : (b : Bool) → b ≡ true → b ≡ false → ⊥
not_both b passes fails = cc

some_of : (o : Option Node) → is_some o ≡ true → (x : Node) × (o ≡ Some x)
some_of None e = cc
some_of (Some x) e = (x, refl)

module _ (P : ℕ) (I : List ℕ) (T : Tree) (coherent : IsCoherent P I) (reads : Reads P I T) where
  -- whether an inode is reached can be told from the tree
  pub reached_or_not : (i : ℕ) → Reached P I i ⊎ ¬ Reached P I i
  reached_or_not i = elim (true_or_false (is_some (node_at T i))) [
    | inl there ↦ inl (node_reached P I T coherent reads i there)
    | inr none ↦ inr (λ reached. not_both (is_some (node_at T i)) (reached_node P I T coherent reads i reached) none)
  ]

  abbrev IsKey : ℕ × Node → ℕ → Type 0
  IsKey e i = i ≡ e.0

  node_matching : IsMatching IsKey T.nodes.entries
  node_matching = record {
    apart = entries_apart nat_cmp nat_cmp_total T.nodes.entries T.nodes.sorted;
    each = λ e among. (e.0, refl);
    one = λ e s t among a b. a ∙ sym b;
    own = λ e f s among there a b. same_entry nat_cmp nat_cmp_total T.nodes.entries e f T.nodes.sorted among there (sym a ∙ b);
  }

  key_reached : (i : ℕ) → IsMatched IsKey T.nodes.entries i → Reached P I i
  key_reached i (e, among, is) =
      node_reached P I T coherent reads i (ap (λ z. is_some (node_at T z)) is ∙ ap is_some (find_among nat_cmp nat_cmp_total T.nodes.entries e T.nodes.sorted among))

  reached_key : (i : ℕ) → Reached P I i → IsMatched IsKey T.nodes.entries i
  reached_key i reached =
      let (x, is) = some_of (node_at T i) (reached_node P I T coherent reads i reached) in
      ((i, x), among_find nat_cmp nat_cmp_total nat_cmp-IsAntisymmetric T.nodes.entries i x is, refl)

  pub count_reached : Count (Reached P I) (inodes_in_use T)
  count_reached = count_alike (IsMatched IsKey T.nodes.entries) (Reached P I) (length T.nodes.entries) key_reached reached_key (count_matched IsKey T.nodes.entries node_matching)

  pub has_inodes : HasInodes P I T
  has_inodes = record {
    count = count_reached;
    least = λ i reached. (in_range P I coherent i reached).0;
    most = λ i reached. (in_range P I coherent i reached).1;
  }

module _ (P : ℕ) (I : List ℕ) (residue : Residue) (T : Tree) (coherent : IsCoherent P I) (beside : IsTidyBeside P I residue) (reads : Reads P I T) where
  litter_inode : (i : ℕ) → 1 ≤ i → i ≤ inodes_of P → inode_kind I i ≢ 0 → ¬ Reached P I i → IsLitterInode P I i
  unfolding inode_kind
  litter_inode i least most kind unreached = record { least = least; most = most; unreached = unreached; nonzero = (0, inode_field_read I 0 (omega arith), kind) }

  -- an inode with a kind is reached or litter
  kind_litter : (i : ℕ) → 1 ≤ i → i ≤ inodes_of P → inode_kind I i ≢ 0 → Reached P I i ⊎ IsLitterInode P I i
  kind_litter i least most kind = elim (reached_or_not P I T coherent reads i) [
    | inl reached ↦ inl reached
    | inr unreached ↦ inr (litter_inode i least most kind unreached)
  ]

  kind_used : (i : ℕ) → 1 ≤ i → i ≤ inodes_of P → inode_kind I i ≢ 0 → Reached P I i ⊎ IsIn i residue.inodes
  kind_used i least most kind = elim (kind_litter i least most kind) [ inl reached ↦ inl reached | inr litter ↦ inr ((beside.of_inodes.each i).1 litter) ]

  reached_kind : (i : ℕ) → Reached P I i → inode_kind I i ≢ 0
  reached_kind i reached zero = elim ((coherent Rule.kinds i).kind reached) [
    | inl file ↦ omega (arith, file, zero)
    | inr directory ↦ omega (arith, directory, zero)
  ]

  used_kind : (i : ℕ) → Reached P I i ⊎ IsIn i residue.inodes → inode_kind I i ≢ 0
  used_kind i used = elim used [ inl reached ↦ reached_kind i reached | inr left ↦ beside.kinds i left ]

  -- a free inode is no node
  fresh : (i : ℕ) → IsFreeInode P I i → node_at T i ≡ None
  fresh i free = none (node_at T i) refl
    where
      none : (o : Option Node) → node_at T i ≡ o → o ≡ None
      none None is = refl
      none (Some x) is = absurd (reached_kind i (node_reached P I T coherent reads i (ap is_some is)) free.2)

  count_used : Count (λ i. Reached P I i ⊎ IsLitterInode P I i) (inodes_in_use T + length residue.inodes)
  count_used = count_either (Reached P I) (IsLitterInode P I) (inodes_in_use T) (length residue.inodes) (λ i reached litter. litter.unreached reached)
      (count_reached P I T coherent reads) (counted (IsLitterInode P I) residue.inodes beside.of_inodes)

  free_inodes_are : (n : ℕ) → Count (IsFreeInode P I) n → free_inodes (supply_beside P residue) T ≡ n
  free_inodes_are n free =
      let total = count_parts (λ i. Reached P I i ⊎ IsLitterInode P I i) (IsFreeInode P I) 1 (inodes_of P) (inodes_in_use T + length residue.inodes) n
      in_use (λ i. (in_table i, either i)) count_used free in
      omega (arith, total)
    where
      in_use : (i : ℕ) → Reached P I i ⊎ IsLitterInode P I i → IsFreeInode P I i → ⊥
      in_use i used is = elim used [ inl reached ↦ reached_kind i reached is.2 | inr litter ↦ beside.kinds i ((beside.of_inodes.each i).1 litter) is.2 ]

      within : (i : ℕ) → 1 ≤ i → i ≤ inodes_of P → (1 ≤ i) × (i < 1 + inodes_of P)
      within i least most = (least, omega (arith, most))

      in_table : (i : ℕ) → (Reached P I i ⊎ IsLitterInode P I i) ⊎ IsFreeInode P I i → (1 ≤ i) × (i < 1 + inodes_of P)
      in_table i has = elim has [
        | inl used ↦ elim used [
          | inl reached ↦ let range = in_range P I coherent i reached in within i range.0 range.1
          | inr litter ↦ within i litter.least litter.most
        ]
        | inr is ↦ within i is.0 is.1
      ]

      either : (i : ℕ) → (1 ≤ i) × (i < 1 + inodes_of P) → (Reached P I i ⊎ IsLitterInode P I i) ⊎ IsFreeInode P I i
      either i range = elim (cases_eq (inode_kind I i) 0) [
        | inl zero ↦ inr (range.0, omega (arith, range.1), zero)
        | inr other ↦ inl (kind_litter i range.0 (omega (arith, range.1)) other)
      ]

  pub has_inodes_beside : HasInodesBeside P I residue T
  has_inodes_beside = record {
    used = λ i least most. (used_kind i, kind_used i least most);
    fresh = fresh;
    free = free_inodes_are;
  }

-- a tidy image has no residue
module _ (P : ℕ) (I : List ℕ) (T : Tree) (tidy : IsTidied P I) (reads : Reads P I T) where
  inodes_beside : HasInodesBeside P I no_residue T
  inodes_beside = has_inodes_beside P I no_residue T tidy.coherent (tidied_beside tidy) reads

  kind_reached : (i : ℕ) → 1 ≤ i → i ≤ inodes_of P → inode_kind I i ≢ 0 → Reached P I i
  kind_reached i least most kind = elim ((inodes_beside.used i least most).1 kind) [ inl reached ↦ reached | inr none ↦ absurd none ]

  least_free : (i : ℕ) → 2 ≤ i → IsFreeInode P I i → ((j : ℕ) → 2 ≤ j → j < i → inode_kind I j ≢ 0) → least_free_id T ≡ i
  least_free i low free below = least_free_id-only T i low (inodes_beside.fresh i free) each
    where
      each : (j : ℕ) → 2 ≤ j → j < i → is_some (node_at T j) ≡ true
      each j least less =
          let most = free.1 in
          reached_node P I T tidy.coherent reads j (kind_reached j (omega (arith, least)) (omega (arith, less, most)) (below j least less))

  pub has_used_inodes : HasUsedInodes P I T
  has_used_inodes = record {
    used = λ i least most. ((λ reached. (inodes_beside.used i least most).0 (inl reached)), kind_reached i least most);
    free = inodes_beside.free;
    least = least_free;
  }

pub inode_count_law : InodeCountLaw
inode_count_law P I state coherent reads = has_inodes P I state.tree coherent reads.tree

pub free_inode_beside_law : FreeInodeBesideLaw
free_inode_beside_law P I residue state holds = has_inodes_beside P I residue state.tree holds.coherent holds.beside holds.reads.tree

pub free_inode_law : FreeInodeLaw
free_inode_law P I state tidy reads = has_used_inodes P I state.tree tidy reads.tree
