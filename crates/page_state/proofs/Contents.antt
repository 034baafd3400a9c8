-- The words of one page after stores to them.
use Rattle.std.proofs.Common.{◌≡◌, ◌≢◌, inl, inr, ℕ, ◌+◌, ◌<◌, List, length, slice_index, slice_set, refl, sym, ◌∙◌, ap, arith, get_or-set_same, get_or-set_other, length-set}
use Rattle.std.proofs.lemmas.Bool.{cases_eq}
use Rattle.layout.specs.Geometry.{data_pages_of, page_word_of, descriptor_word_of}
use Rattle.layout.proofs.GeometryLaws.{same_page_word, descriptor_word_not_page_word, same_descriptor_word}
use Rattle.layout.specs.Fields.{word, page_owner, page_kind, page_offset}
use Rattle.page_state.specs.Page.{IsContentWord, IsOwnWord, IsFilledWord, IsOwnerWord, BeginsWith, IsSlotPage}

pub kept : (a b : List ℕ) (w v x : ℕ) → b ≡ slice_set a w v → x ≢ w → slice_index b x ≡ slice_index a x
kept a b w v x is other = ap (λ (l : List ℕ). slice_index l x) is ∙ get_or-set_other a w x v 0 other

pub put : (a b : List ℕ) (w v x : ℕ) → b ≡ slice_set a w v → w ≡ x → w < length a → slice_index b x ≡ v
put a b w v x is at inside = ap (λ (k : ℕ). slice_index b k) (sym at) ∙ ap (λ (l : List ℕ). slice_index l w) is ∙ get_or-set_same a w v 0 inside

pub same_length : (a b : List ℕ) (w v : ℕ) → b ≡ slice_set a w v → length b ≡ length a
same_length a b w v is = ap length is ∙ length-set a w v

-- one of the page's first words
pub record IsEarlierWord (volume_pages page count word : ℕ) : Type 0 where
  pub place : ℕ
  pub before : place < count
  pub at : word ≡ page_word_of volume_pages page place

pub content_word_is : (volume_pages page place w : ℕ) → place < 512 → w ≡ page_word_of volume_pages page place → IsContentWord volume_pages page w
content_word_is volume_pages page place w inside at = record { place = place; in_page = inside; at = at }

-- the word of a place is none of the earlier ones
pub not_earlier : (volume_pages page place w : ℕ) → place < 512 → w ≡ page_word_of volume_pages page place → ¬ IsEarlierWord volume_pages page place w
not_earlier volume_pages page place w inside at earlier =
    let before = earlier.before in
    let same = (same_page_word volume_pages page page place earlier.place inside (omega (arith, before)) (sym at ∙ earlier.at)).1 in
    omega (arith, before, same)

-- one more word of the page is as these words say
pub slots_more : (b c first : List ℕ) (volume_pages page place w value : ℕ) → place < 512 → w ≡ page_word_of volume_pages page place → w < length b → value ≡ slice_index first place → c ≡ slice_set b w value
    → ((earlier : ℕ) → earlier < place → slice_index b (page_word_of volume_pages page earlier) ≡ slice_index first earlier) → (earlier : ℕ) → earlier < place + 1 → slice_index c (page_word_of volume_pages page earlier) ≡ slice_index first earlier
slots_more b c first volume_pages page place w value inside at in_device said is so_far earlier below = elim (cases_eq earlier place) [
  | inl here ↦
      put b c w value (page_word_of volume_pages page earlier) is (at ∙ ap (λ (k : ℕ). page_word_of volume_pages page k) (sym here)) in_device
      ∙ said ∙ ap (λ (k : ℕ). slice_index first k) (sym here)
  | inr other ↦
      kept b c w value (page_word_of volume_pages page earlier) is
      (λ same. other ((same_page_word volume_pages page page earlier place (omega (arith, below, inside)) inside (same ∙ at)).1))
      ∙ so_far earlier (omega (arith, other, below))
]

-- a page that begins with these words is one of slots once its kind and offset are stored
pub fill_reads : (b c d first : List ℕ) (volume_pages page w1 w2 : ℕ) → page < data_pages_of volume_pages → w1 ≡ descriptor_word_of volume_pages page 1 → w2 ≡ descriptor_word_of volume_pages page 2
    → w1 < length b → w2 < length b → c ≡ slice_set b w1 2 → d ≡ slice_set c w2 0 → BeginsWith volume_pages b first page → IsSlotPage volume_pages d first page
unfolding page_kind page_offset word
fill_reads b c d first volume_pages page w1 w2 in_range at1 at2 in1 in2 isc isd contents =
    let long = same_length b c w1 2 isc in
    let differ : descriptor_word_of volume_pages page 1 ≢ w2 = λ same. let fields = (same_descriptor_word volume_pages page page 1 2 (omega arith) (omega arith) (same ∙ at2)).1 in omega (arith, fields) in
    let apart : (field place w : ℕ) → field < 8 → w ≡ descriptor_word_of volume_pages page field → page_word_of volume_pages page place ≢ w = λ field place w few at same. descriptor_word_not_page_word volume_pages page page field place in_range few (sym at ∙ sym same) in
    record {
      contents = record {
        each = λ place inside.
            kept c d w2 0 (page_word_of volume_pages page place) isd (apart 2 place w2 (omega arith) at2)
            ∙ kept b c w1 2 (page_word_of volume_pages page place) isc (apart 1 place w1 (omega arith) at1) ∙ contents.each place inside;
      };
      kind = kept c d w2 0 (descriptor_word_of volume_pages page 1) isd differ ∙ put b c w1 2 (descriptor_word_of volume_pages page 1) isc at1 in1;
      offset = put c d w2 0 (descriptor_word_of volume_pages page 2) isd at2 (omega (arith, in2, long));
    }

-- the page's words as before: it is one of slots as before
pub slot_page_stays : (volume_pages page : ℕ) (old new first : List ℕ) → ((word : ℕ) → IsOwnWord volume_pages page word → slice_index new word ≡ slice_index old word) → IsSlotPage volume_pages old first page → IsSlotPage volume_pages new first page
unfolding page_kind page_offset word
slot_page_stays volume_pages page old new first same before = record {
  contents = record { each = λ place inside. same (page_word_of volume_pages page place) (inl (content_word_is volume_pages page place (page_word_of volume_pages page place) inside refl)) ∙ before.contents.each place inside };
  kind = same (descriptor_word_of volume_pages page 1) (inr (record { field = 1; is_field = omega arith; at = refl })) ∙ before.kind;
  offset = same (descriptor_word_of volume_pages page 2) (inr (record { field = 2; is_field = omega arith; at = refl })) ∙ before.offset;
}

-- what a fill stores, and what a claim stores, are the page's words
pub filled_is_own : (volume_pages page word : ℕ) → IsFilledWord volume_pages page word → IsOwnWord volume_pages page word
filled_is_own volume_pages page word (inl content) = inl content
filled_is_own volume_pages page word (inr (inl at)) = inr (record { field = 1; is_field = omega arith; at = at })
filled_is_own volume_pages page word (inr (inr at)) = inr (record { field = 2; is_field = omega arith; at = at })

pub owner_is_own : (volume_pages page word : ℕ) → IsOwnerWord volume_pages page word → IsOwnWord volume_pages page word
owner_is_own volume_pages page word at = inr (record { field = 0; is_field = omega arith; at = at })

pub owner_stays : (volume_pages page owner : ℕ) (old new : List ℕ) → ((word : ℕ) → IsOwnWord volume_pages page word → slice_index new word ≡ slice_index old word) → page_owner volume_pages old page ≡ owner → page_owner volume_pages new page ≡ owner
unfolding page_owner word
owner_stays volume_pages page owner old new same before = same (descriptor_word_of volume_pages page 0) (inr (record { field = 0; is_field = omega arith; at = refl })) ∙ before

pub owner_stored : (volume_pages page owner w : ℕ) (old new : List ℕ) → w ≡ descriptor_word_of volume_pages page 0 → w < length old → new ≡ slice_set old w owner → page_owner volume_pages new page ≡ owner
unfolding page_owner word
owner_stored volume_pages page owner w old new at inside is = put old new w owner (descriptor_word_of volume_pages page 0) is at inside
