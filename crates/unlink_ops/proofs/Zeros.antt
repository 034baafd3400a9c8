-- Words of zeros, and a file in inode 2: its slot is ready for one more name.
use Rattle.std.proofs.Common.{◌≡◌, inl, ℕ, ◌+◌, ◌-◌, ◌^◌, ◌<◌, List, [], ◌∷◌, ◌++◌, length, slice_index, replicate, None, ◌∙◌, ap, subst, sym, arith}
use Rattle.std.specs.Prelude.{Option}
use Rattle.layout.specs.Geometry.{inodes_of, first_data_word_of, inode_word_of, slot_word_of, slots_of}
use Rattle.layout.specs.Fields.{word, inode_fields, inode_kind, inode_links, inode_size, inode_own}
use Rattle.inode_state.specs.States.{IsLive}
use Rattle.inode_state.specs.Inode.{fields_at}
use Rattle.volume.specs.declared.plan.NewName.{NewName}
use Rattle.entry_steps.specs.Placing.{MayPlace}
use Rattle.entry_steps.proofs.Zeros.{zero_slot, sixteen_pages, four_inodes, all_slots, at_node, past_node, long_image}
use Rattle.unlink_ops.specs.Linking.{IsReady}

module _ (words front file rest : List ℕ) (few : ℕ) (is : words ≡ (front ++ file) ++ rest) (zeros : front ≡ replicate 528 0) (inode : file ≡ 1 ∷ 1 ∷ 0 ∷ 2 ∷ []) (others : rest ≡ replicate few 0) where
  at_file : (k : ℕ) → k < inode_fields → slice_index words (528 + k) ≡ slice_index (1 ∷ 1 ∷ 0 ∷ 2 ∷ []) k
  at_file k low = at_node words front file rest 528 few is zeros (ap length inode) others k low ∙ ap (λ (l : List ℕ). slice_index l k) inode

  pub file_ready : (P : ℕ) (link : NewName) → P ≡ 16 → few ≡ 7660 → link.inode ≡ 2 → link.slot ≡ 0 → link.new_page ≡ None → IsReady P words link
  unfolding inode_links inode_kind inode_size inode_own inode_word_of word slot_word_of first_data_word_of
  file_ready P link pages many inode_is slot_is no_page =
      let four : inodes_of P ≡ 4 = ap inodes_of pages ∙ four_inodes in
      let slots : slots_of P ≡ 416 = ap slots_of pages ∙ all_slots in
      let first : first_data_word_of P ≡ 1536 = ap first_data_word_of pages ∙ sixteen_pages in
      let long = long_image words front file rest 528 few is zeros (ap length inode) others in
      let after = past_node words front file rest 528 few is zeros (ap length inode) others in
      record {
        whole = omega (arith, long, many, pages);
        file = record {
          least = omega (arith, inode_is);
          most = omega (arith, inode_is, four);
          live = subst (λ (i : ℕ). IsLive i (fields_at words i)) (sym inode_is) (inl (at_file 0 (omega arith)), at_file 3 (omega arith));
          countable = subst (λ (i : ℕ). inode_links words i < 2 ^ 64 - 1) (sym inode_is) (let one = at_file 1 (omega arith) in omega (arith, one));
        };
        place = subst (λ (page : Option ℕ). MayPlace P words link.slot page) (sym no_page)
            (omega (arith, slot_is, slots), zero_slot P words link.slot (λ f low. after (slot_word_of P link.slot f) (omega (arith, first)) (omega (arith, first, slot_is, low, many))));
      }
