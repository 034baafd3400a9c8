-- A write past the size and a truncation to more.
use Rattle.std.proofs.Common.{◌≡◌, ◌≢◌, ◌↔◌, ◌⊎◌, inl, inr, ℕ, ◌+◌, ◌/◌, ◌%◌, ◌<◌, ◌≤◌, List, length, slice_index, refl, sym, ap, subst, ◌∙◌, arith}
use Rattle.std.proofs.lemmas.Bool.{cases_lt}
use Rattle.std.proofs.lemmas.List.{get_or-set_same, get_or-set_other, get_or_past}
use Rattle.layout.specs.Fields.{word, inode_size, page_owner, page_kind, page_offset, page_byte}
use Rattle.layout.specs.Geometry.{inodes_of, inode_word_of, descriptor_word_of, slot_word_of}
use Rattle.layout.proofs.GeometryLaws.{inode_word_within}
use Rattle.tree_model.specs.PathText.{Route}
use Rattle.tree_model.specs.Step.{with_bytes, overwritten, resized}
use Rattle.tree_model.specs.Tree.{Node, Tree, Room, bytes_of}
use Rattle.image_reading.specs.Reading.{IsHeld, Names, Reached, IsPageOf, IsContent, IsNode, pages_of_size, Reads, HasRoom}
use Rattle.image_reading.specs.Soundness.{Rule}
use Rattle.image_reading.proofs.FilePages.{page_from_place}
use Rattle.image_laws.specs.Frame.{SameMeaning}
use Rattle.image_laws.specs.Quiet.{IsMix}
use Rattle.image_laws.specs.Resize.{IsStored, HasResized}
use Rattle.image_laws.proofs.Addresses.{head-ne_inode, descriptor-ne_inode, inode-ne_inode, inode-ne_field, inode-ne_slot}
use Rattle.image_laws.proofs.Free.{mix_one}
use Rattle.image_laws.proofs.Paths.{reached_pos}
use Rattle.image_laws.proofs.Resizes.{resize_law, resize_room_law}
use Rattle.content_laws.specs.Growth.{CanGrow, FillsFile, TakesPages, sized, GrowthLaw}
use Rattle.content_laws.specs.Range.{IsWrittenByte}
use Rattle.content_laws.proofs.Bytes.{length-resized, resized_at}
use Rattle.content_laws.proofs.Filling.{filled, fill_slot}
use Rattle.content_laws.proofs.Keeps.{Keeps, keeps_tidy, keeps_index}
use Rattle.content_laws.proofs.Meaning.{forth, reads_with, shape_room}
use Rattle.content_laws.proofs.Ranges.{written_at}
use Rattle.content_laws.proofs.Taking.{pos, most, taken, take_byte, taken_head, taken_inode, taken_slot, taken_descriptor, new_page, which_page, can_resize}
use Rattle.content_laws.proofs.Torn.{content_of}

module _ (P : ℕ) (W A B : List ℕ) (i z offset : ℕ) (bytes pages : List ℕ) (can : CanGrow P W i z offset bytes pages) (fills : FillsFile P W A i offset bytes pages) (takes : TakesPages P A B i pages) where
  i_pos : 1 ≤ i
  i_pos = pos P W A B i z offset bytes pages can fills takes

  i_most : i ≤ inodes_of P
  i_most = most P W A B i z offset bytes pages can fills takes

  pub inside : inode_word_of i 2 < length B
  inside =
      let within = inode_word_within P i 2 ((can.tidy.coherent Rule.head 0).size refl) i_pos i_most (omega arith) in
      let long = (can.tidy.coherent Rule.head 0).whole refl in
      let first = fills.size in
      let second = takes.size in
      omega (arith, within, long, first, second)

  resizes : HasResized P B (sized B i z) i z
  resizes = resize_law P B i z (can_resize P W A B i z offset bytes pages can fills takes)

  other : (a : ℕ) → a ≢ inode_word_of i 2 → word (sized B i z) a ≡ word B a
  unfolding word
  other a ne = get_or-set_other B (inode_word_of i 2) a z 0 ne

  pub end_size : inode_size (sized B i z) i ≡ z
  unfolding inode_size word
  end_size = get_or-set_same B (inode_word_of i 2) z 0 inside

  -- ---- paths and nodes

  names : (q : Route) (x : ℕ) → Names P W q x ↔ Names P (sized B i z) q x
  names q x =
      let first = (filled P W A i z offset bytes pages can fills).shape.names q x in
      let second = (taken P W A B i z offset bytes pages can fills takes).names q x in
      let third = resizes.names q x in
      ((λ b. third.0 (second.0 (first.0 b))), (λ b. first.1 (second.1 (third.1 b))))

  others : (x : ℕ) (y : Node) → Reached P W x → x ≢ i → IsNode P W x y ↔ IsNode P (sized B i z) x y
  others x y r ne =
      let fill = filled P W A i z offset bytes pages can fills in
      let first = fill.others x y r ne in
      let second = (taken P W A B i z offset bytes pages can fills takes).nodes x y (forth P W A fill.shape.names x r) in
      let third = resizes.others x y (let some = reached_pos P W x r in omega (arith, some)) ne in
      ((λ b. third.0 (second.0 (first.0 b))), (λ b. first.1 (second.1 (third.1 b))))

  room : (r : Room) → HasRoom P W r → HasRoom P (sized B i z) r
  room r has = resize_room_law P B i z r (can_resize P W A B i z offset bytes pages can fills takes)
      ((taken P W A B i z offset bytes pages can fills takes).room r (shape_room P W A (filled P W A i z offset bytes pages can fills).shape r has))

  commit : (M : List ℕ) → IsMix B (sized B i z) M → SameMeaning P A M ⊎ (M ≡ sized B i z)
  commit M mix = elim (mix_one B M (inode_word_of i 2) z inside mix) [
    | inl e ↦ inl (subst (SameMeaning P A) (sym e) (taken P W A B i z offset bytes pages can fills takes))
    | inr e ↦ inr e
  ]

  -- ---- tidy

  inode : (x f : ℕ) → 1 ≤ x → x ≤ inodes_of P → f < 16 → (x ≢ i) ⊎ (f ≢ 2) → word (sized B i z) (inode_word_of x f) ≡ word W (inode_word_of x f)
  inode x f p m lt why =
      other (inode_word_of x f) (elim why [ inl ne ↦ inode-ne_inode x f i 2 p i_pos ne lt (omega arith) | inr ne ↦ inode-ne_field x f i 2 lt (omega arith) ne ])
      ∙ taken_inode P W A B i z offset bytes pages can fills takes x f p m lt

  from_descriptor : (j f : ℕ) → word (sized B i z) (descriptor_word_of P j f) ≡ word B (descriptor_word_of P j f)
  from_descriptor j f = other (descriptor_word_of P j f) (descriptor-ne_inode P j f i 2 i_pos i_most (omega arith))

  slot : (s f : ℕ) → f < 16 → IsHeld P W s → word (sized B i z) (slot_word_of P s f) ≡ word W (slot_word_of P s f)
  slot s f lt held =
      other (slot_word_of P s f) (λ e. inode-ne_slot P i 2 s f i_pos i_most (omega arith) (sym e))
      ∙ taken_slot P W A B i z offset bytes pages can fills takes s f
      ∙ fill_slot P W A i z offset bytes pages can fills s f lt held

  page_forward : (k j : ℕ) → IsPageOf P B i k j → IsPageOf P (sized B i z) i k j
  unfolding page_owner page_kind page_offset
  page_forward k j g = page_from_place (record { in_range = g.in_range; owner = from_descriptor j 0 ∙ g.owner; kind = from_descriptor j 1 ∙ g.kind; offset = from_descriptor j 2 ∙ g.offset })

  more_pages : (small large : ℕ) → small < large → pages_of_size small ≤ pages_of_size large
  unfolding pages_of_size
  more_pages small large lt = omega (arith, lt)

  keeps : Keeps P W (sized B i z) i pages
  keeps = record {
    tidy = can.tidy;
    coherent = resizes.coherent;
    reached = can.reached;
    file = can.file;
    names = names;
    version = other 1 (head-ne_inode i 2 1 (omega arith)) ∙ taken_head P W A B i z offset bytes pages can fills takes 1 (omega arith);
    inode = inode;
    descriptor = λ j f lt l8 none. from_descriptor j f ∙ taken_descriptor P W A B i z offset bytes pages can fills takes j f lt l8 none;
    slot = slot;
    free = can.free;
    new = λ k j at. page_forward (pages_of_size (inode_size W i) + k) j (new_page P W A B i z offset bytes pages can fills takes k j at);
    count = ap pages_of_size end_size ∙ (let count = can.count in let more = more_pages (inode_size W i) z can.larger in omega (arith, count, more));
  }

  -- ---- the bytes

  past_end : (size k o : ℕ) → o / 4096 ≡ pages_of_size size + k → size ≤ o
  unfolding pages_of_size
  past_end size k o e = omega (arith, e)

  byte_at : (old : List ℕ) → IsContent P W i old → (o j : ℕ) → IsPageOf P B i (o / 4096) j → slice_index (overwritten old offset bytes) o ≡ page_byte P A j (o % 4096)
  byte_at old was o j g = elim (which_page P W A B i z offset bytes pages can fills takes (o / 4096) j g) [
    | inl new ↦ behind (past_end (inode_size W i) new.place o new.stands) (fills.filled new.place j o new.at new.stands)
    | inr page ↦ elim (cases_lt o (inode_size W i)) [
      | inl lt ↦ written_at old offset bytes o (page_byte P W j (o % 4096)) (page_byte P A j (o % 4096)) (fills.below o j lt page) (was.bytes_at o j lt page)
      | inr ge ↦ behind ge (fills.tail o j ge page)
    ]
  ]
    where
      behind : inode_size W i ≤ o → IsWrittenByte offset bytes o 0 (page_byte P A j (o % 4096)) → slice_index (overwritten old offset bytes) o ≡ page_byte P A j (o % 4096)
      behind ge w = written_at old offset bytes o 0 (page_byte P A j (o % 4096)) w (get_or_past old o 0 (let size = was.size in omega (arith, size, ge)))

  stored : (old : List ℕ) → IsContent P W i old → IsStored P B i z (resized (overwritten old offset bytes) z)
  stored old was = record {
    size = length-resized (overwritten old offset bytes) z;
    bytes_at = λ o j lt g. resized_at (overwritten old offset bytes) z o lt ∙ byte_at old was o j g ∙ sym (take_byte P W A B i z offset bytes pages can fills takes j (o % 4096));
  }

  reads : (T : Tree) → Reads P W T → Reads P (sized B i z) (with_bytes T i (resized (overwritten (bytes_of T i) offset bytes) z))
  reads T read = reads_with P W (sized B i z) names T i (resized (overwritten (bytes_of T i) offset bytes) z) resizes.coherent can.reached
      (resizes.content (resized (overwritten (bytes_of T i) offset bytes) z) (stored (bytes_of T i) (content_of P W T i can.tidy.coherent read can.reached can.file)))
      others read

pub growth_law : GrowthLaw
growth_law P W A B i z offset bytes pages can fills takes = record {
  commit = commit P W A B i z offset bytes pages can fills takes;
  tidy = keeps_tidy P W (sized B i z) i pages (keeps P W A B i z offset bytes pages can fills takes);
  reads = reads P W A B i z offset bytes pages can fills takes;
  room = room P W A B i z offset bytes pages can fills takes;
  index = keeps_index P W (sized B i z) i pages (keeps P W A B i z offset bytes pages can fills takes);
}
