-- The links of an inode, counted in the tree and in the image.
use Rattle.std.proofs.Common.{◌≡◌, inl, inr, ℕ, ◌+◌, ◌==◌, true, false, cond, List, [], ◌∷◌, reverse, filter, count_by, refl, sym, ap, subst, ◌∙◌, arith}
use Rattle.std.proofs.lemmas.List.Sums.{length-filter}
use Rattle.std.proofs.lemmas.Bool.{cases_eq}
use Rattle.layout.specs.Fields.{inode_links, slot_inode}
use Rattle.tree_model.specs.PathText.{Route}
use Rattle.tree_model.specs.Tree.{Tree, is_directory, is_in, entries_in, path_count, link_count}
use Rattle.tree_model.proofs.TreeLaws.{not_true}
use Rattle.image_reading.specs.Counts.{IsIn, Count}
use Rattle.image_reading.specs.Reading.{IsDirectory, HasBytes, slot_owner, Reached, IsNameOf, IsChildOf, IsLinkCount, Reads}
use Rattle.image_reading.specs.Residue.{Residue, no_residue, IsTidyBeside}
use Rattle.image_reading.specs.Soundness.{Rule, IsCoherent}
use Rattle.image_reading.proofs.Counts.{count_one}
use Rattle.image_counts.specs.Laws.{HasLinkCounts, LinkLaw, LinkWordBesideLaw, LinkWordLaw}
use Rattle.image_counts.proofs.Paths.{IsLastSlot, reached_slot, inode_reached}
use Rattle.image_counts.proofs.Nodes.{has_sizes}
use Rattle.image_counts.proofs.Apart.{reads_tidied, apart_nothing}
use Rattle.image_counts.proofs.Slots.{all_names, some_names, names_in, count_slots, in_owner, same_numbers, equal_numbers}

pub last_inode : (P : ℕ) (I : List ℕ) (r : Route) (i s : ℕ) → IsLastSlot P I r i s → slot_inode P I s ≡ i
last_inode P I [] i s last = absurd last
last_inode P I (n ∷ p) i s (names, leads) = leads.inode

pub not_both_kinds : (I : List ℕ) (i : ℕ) → HasBytes I i → IsDirectory I i → ⊥
not_both_kinds I i file directory = omega (arith, file, directory)

module _ (P : ℕ) (I : List ℕ) (T : Tree) (coherent : IsCoherent P I) (reads : Reads P I T) where
  count_paths : (i : ℕ) → HasBytes I i → Count (IsNameOf P I i) (path_count T i)
  count_paths i file =
      subst (Count (IsNameOf P I i)) (length-filter (λ e. e.1 == i) T.names.entries)
      (count_slots P I T coherent reads (λ e. Unit {0} × (e.1 == i ≡ true)) (IsNameOf P I i) (filter (λ e. e.1 == i) T.names.entries)
      (some_names T (λ e. Unit {0}) T.names.entries (λ e. e.1 == i) (all_names T))
      (λ j is same.
      let root : j ≡ 1 = (reads.names [] j).0 is in
      let directory = (coherent Rule.root 1).directory refl in
      not_both_kinds I i file (subst (IsDirectory I) (sym root ∙ equal_numbers j i same.1) directory))
      (λ p j s last same. record { slot = reached_slot P I (reverse p) j s last; inode = last_inode P I (reverse p) j s last ∙ equal_numbers j i same.1 })
      (λ s q. q.slot)
      (λ p j s last q. (tt, same_numbers j i (sym (last_inode P I (reverse p) j s last) ∙ q.inode))))

  abbrev IsChild : ℕ → Route × ℕ → Type 0
  IsChild i e = (Unit {0} × (is_in T i e.0 ≡ true)) × (is_directory T e.1 ≡ true)

  count_children : (i : ℕ) → Count (IsChildOf P I i) (count_by (λ e. is_directory T e.1) (entries_in T i))
  count_children i =
      subst (Count (IsChildOf P I i)) (length-filter (λ e. is_directory T e.1) (entries_in T i))
      (count_slots P I T coherent reads (IsChild i) (IsChildOf P I i) (filter (λ e. is_directory T e.1) (entries_in T i))
      (some_names T (λ e. Unit {0} × (is_in T i e.0 ≡ true)) (entries_in T i) (λ e. is_directory T e.1) (names_in P I T coherent reads i))
      (λ j is child. (let clash : false ≡ true = child.0.1 in cc))
      (λ p j s last child. record {
        slot = reached_slot P I (reverse p) j s last;
        owner = equal_numbers (slot_owner P I s) i (sym (in_owner P I T coherent reads i p j s last) ∙ child.0.1);
        directory = subst (IsDirectory I) (sym (last_inode P I (reverse p) j s last)) (((has_sizes P I T coherent reads).directories j).0 child.1).1;
      })
      (λ s q. q.slot)
      (λ p j s last q. (
        (tt, in_owner P I T coherent reads i p j s last ∙ same_numbers (slot_owner P I s) i q.owner),
        ap (is_directory T) (sym (last_inode P I (reverse p) j s last))
            ∙ ((has_sizes P I T coherent reads).directories (slot_inode P I s)).1 (inode_reached P I coherent s q.slot, q.directory),
      )))

  directory_links : (i : ℕ) → is_directory T i ≡ true → link_count T i ≡ 2 + count_by (λ e. is_directory T e.1) (entries_in T i)
  directory_links i is = ap (λ b. cond b (2 + count_by (λ e. is_directory T e.1) (entries_in T i)) (path_count T i)) is

  file_links : (i : ℕ) → is_directory T i ≡ false → link_count T i ≡ path_count T i
  file_links i is = ap (λ b. cond b (2 + count_by (λ e. is_directory T e.1) (entries_in T i)) (path_count T i)) is

  not_directory : (i : ℕ) → HasBytes I i → is_directory T i ≡ false
  not_directory i file = not_true (is_directory T i) (λ is. not_both_kinds I i file (((has_sizes P I T coherent reads).directories i).0 is).1)

  -- the links of a reached inode are counted,
  pub links_counted : (i : ℕ) → Reached P I i → IsLinkCount P I i (link_count T i)
  links_counted i reached = record {
    file = λ file. subst (Count (IsNameOf P I i)) (sym (file_links i (not_directory i file))) (count_paths i file);
    directory = λ directory.
        (count_by (λ e. is_directory T e.1) (entries_in T i), count_children i, directory_links i (((has_sizes P I T coherent reads).directories i).1 (reached, directory)));
  }

  -- and have one number
  pub only_links : (i n : ℕ) → Reached P I i → IsLinkCount P I i n → link_count T i ≡ n
  only_links i n reached links =
      let counted = links_counted i reached in
      elim ((coherent Rule.kinds i).kind reached) [
        | inl file ↦ count_one (IsNameOf P I i) (link_count T i) n (counted.file file) (links.file file)
        | inr directory ↦
            let (m, children, is) = counted.directory directory in
            let (k, others, same) = links.directory directory in
            is ∙ ap (λ z. 2 + z) (count_one (IsChildOf P I i) m k children others) ∙ sym same
      ]

  pub has_link_counts : HasLinkCounts P I T
  has_link_counts = record { counted = links_counted; only = only_links }

-- beside a residue a link word is right that isn't the residue's
link_word : (P : ℕ) (I : List ℕ) (residue : Residue) (T : Tree) → IsCoherent P I → IsTidyBeside P I residue → Reads P I T → (i : ℕ) → Reached P I i → ¬ IsIn i residue.counts
    → link_count T i ≡ inode_links I i
link_word P I residue T coherent beside reads i reached apart = elim (cases_eq (link_count T i) (inode_links I i)) [
  | inl same ↦ same
  | inr other ↦ absurd (apart ((beside.of_counts.each i).1 (record {
    reached = reached;
    other = λ links. other (only_links P I T coherent reads i (inode_links I i) reached links);
  })))
]

pub link_law : LinkLaw
link_law P I state coherent reads = has_link_counts P I state.tree coherent reads.tree

pub link_word_beside_law : LinkWordBesideLaw
link_word_beside_law P I residue state holds i reached apart = link_word P I residue state.tree holds.coherent holds.beside holds.reads.tree i reached apart.links

pub link_word_law : LinkWordLaw
link_word_law P I state tidy reads i reached = link_word_beside_law P I no_residue state (reads_tidied P I state tidy reads) i reached (apart_nothing P I i)
