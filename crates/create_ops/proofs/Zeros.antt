-- Words of a device of zeros, and one that has an empty root.
use Rattle.std.proofs.Common.{◌≡◌, inr, ℕ, ◌+◌, ◌-◌, ◌^◌, ◌<◌, ◌≤◌, List, ◌++◌, length, slice_index, replicate, ◌∙◌, ap, subst, sym, arith}
use Rattle.std.specs.Prelude.{None}
use Rattle.layout.specs.Geometry.{inodes_of, first_data_word_of, inode_word_of, slot_word_of, slots_of}
use Rattle.layout.specs.Format.{root_words}
use Rattle.layout.specs.Fields.{word, inode_fields, inode_kind, inode_links, inode_size, inode_own}
use Rattle.inode_state.specs.States.{IsLive}
use Rattle.inode_state.specs.Inode.{fields_at}
use Rattle.volume.specs.declared.plan.NewEntry.{NewEntry}
use Rattle.entry_steps.specs.Placing.{MayPlace}
use Rattle.create_ops.specs.Making.{IsReady}
use Rattle.entry_steps.proofs.Zeros.{zero_inode, zero_slot, sixteen_pages, four_inodes, all_slots, at_node, past_node, long_image}

-- ---- the root's inode among zeros

module _ (words front root rest : List ℕ) (few : ℕ) (is : words ≡ (front ++ root) ++ rest) (zeros : front ≡ replicate 512 0) (inode : root ≡ root_words) (others : rest ≡ replicate few 0) where
  at_root : (k : ℕ) → k < inode_fields → slice_index words (512 + k) ≡ slice_index root_words k
  at_root k low = at_node words front root rest 512 few is zeros (ap length inode) others k low ∙ ap (λ (l : List ℕ). slice_index l k) inode

  past_root : (w : ℕ) → 512 + inode_fields ≤ w → w < 512 + inode_fields + few → slice_index words w ≡ 0
  past_root w high low = past_node words front root rest 512 few is zeros (ap length inode) others w high low

  long_words : length words ≡ 512 + inode_fields + few
  long_words = long_image words front root rest 512 few is zeros (ap length inode) others

  pub root_ready : (P : ℕ) (entry : NewEntry) → P ≡ 16 → few ≡ 7676 → entry.directory ≡ 1 → entry.inode ≡ 2 → entry.slot ≡ 0 → entry.new_page ≡ None → IsReady P words entry
  unfolding inode_links inode_kind inode_size inode_own inode_word_of word slot_word_of first_data_word_of
  root_ready P entry pages many directory inode_is slot_is no_page =
      let four : inodes_of P ≡ 4 = ap inodes_of pages ∙ four_inodes in
      let slots : slots_of P ≡ 416 = ap slots_of pages ∙ all_slots in
      let first : first_data_word_of P ≡ 1536 = ap first_data_word_of pages ∙ sixteen_pages in
      record {
        whole = omega (arith, long_words, many, pages);
        least = omega (arith, inode_is);
        most = omega (arith, inode_is, four);
        inode = zero_inode words entry.inode (λ f low. past_root (inode_word_of entry.inode f) (omega (arith, inode_is)) (omega (arith, inode_is, low, many)));
        place = subst (MayPlace P words entry.slot) (sym no_page)
            (omega (arith, slot_is, slots), zero_slot P words entry.slot (λ f low. past_root (slot_word_of P entry.slot f) (omega (arith, first)) (omega (arith, first, slot_is, low, many))));
        parent = record {
          least = omega (arith, directory);
          most = omega (arith, directory, four);
          live = subst (λ (d : ℕ). IsLive d (fields_at words d)) (sym directory) (inr (at_root 0 (omega arith)), at_root 3 (omega arith));
          countable = subst (λ (d : ℕ). inode_links words d < 2 ^ 64 - 1) (sym directory) (let two = at_root 1 (omega arith) in omega (arith, two));
        };
        other = λ same. omega (arith, same, directory, inode_is);
      }
