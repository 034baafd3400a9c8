-- What a crash leaves while a volume is made: the old words, hidden words, or the formatted volume.
use Rattle.std.proofs.Common.{◌≡◌, ◌≢◌, ◌⊎◌, inl, inr, ⊎_elim, ℕ, ◌*◌, ◌<◌, ◌≤◌, List, length, slice_index, slice_set, refl, sym, ◌∙◌, ap, subst, arith, get_or-set_same, get_or-set_other, length-set}
use Rattle.std.proofs.lemmas.Bool.{cases_eq}
use Rattle.std.proofs.lemmas.Grind.{same_number_lists}
use Rattle.pm_trait.specs.Device.{Mix}
use Rattle.layout.specs.Geometry.{IsVolumeSize, first_data_word_of, inode_word_of}
use Rattle.layout.specs.Superblock.{magic, head_of}
use Rattle.layout.specs.Fields.{word}
use Rattle.layout.specs.Format.{root_words, IsFormattedFrom}
use Rattle.format_ops.specs.Tables.{IsTableValue, HasTableValues, SameBeside}
use Rattle.format_ops.specs.Crashes.{IsHidden, IsOldHiddenOrFormatted}

-- a mix of the words before and after a change of word 0 alone is one of the two
mix_first : (old image : List ℕ) (value : ℕ) → 0 < length old → Mix old (slice_set old 0 value) image → (image ≡ old) ⊎ (image ≡ slice_set old 0 value)
mix_first old image value some mix = ⊎_elim (λ was. inl (is_old was)) (λ is. inr (is_new is)) (mix.each 0)
  where
    beside : (a : ℕ) → a ≢ 0 → slice_index image a ≡ slice_index old a
    beside a other = ⊎_elim (λ is. is) (λ is. is ∙ get_or-set_other old 0 a value 0 other) (mix.each a)

    is_old : slice_index image 0 ≡ slice_index old 0 → image ≡ old
    is_old was = same_number_lists image old mix.long (λ a inside. elim (cases_eq a 0) [
      | inl here ↦ ap (λ (k : ℕ). slice_index image k) here ∙ was ∙ ap (λ (k : ℕ). slice_index old k) (sym here)
      | inr other ↦ beside a other
    ])

    is_new : slice_index image 0 ≡ slice_index (slice_set old 0 value) 0 → image ≡ slice_set old 0 value
    is_new is = same_number_lists image (slice_set old 0 value) (mix.long ∙ sym (length-set old 0 value)) (λ a inside. elim (cases_eq a 0) [
      | inl here ↦ ap (λ (k : ℕ). slice_index image k) here ∙ is ∙ ap (λ (k : ℕ). slice_index (slice_set old 0 value) k) (sym here)
      | inr other ↦ beside a other ∙ sym (get_or-set_other old 0 a value 0 other)
    ])

-- the root's inode and the superblock stand before the data pages
root_inside : (pages : ℕ) → IsVolumeSize pages → 528 ≤ first_data_word_of pages
unfolding first_data_word_of
root_inside pages size = omega (arith, size)

after_superblock : (pages : ℕ) → 512 ≤ first_data_word_of pages
unfolding first_data_word_of
after_superblock pages = omega arith

-- a word of the data pages isn't the first
not_first : (pages word : ℕ) → first_data_word_of pages ≤ word → word ≢ 0
not_first pages word after here = let above = after_superblock pages in omega (arith, above, after, here)

module _ (pages : ℕ) {old : List ℕ} (some : 0 < length old) where
  -- once the first word is cleared
  pub cleared : {hidden : List ℕ} → hidden ≡ slice_set old 0 0 → IsHidden pages old hidden
  cleared is = subst (IsHidden pages old) (sym is) (record {
    no_magic = λ whole. let set = get_or-set_same old 0 0 0 some in omega (arith, set, whole);
    long = length-set old 0 0;
    data_pages = λ word after. get_or-set_other old 0 word 0 0 (not_first pages word after);
  })

  -- what differs from hidden words beside the first word and before the data pages is hidden too
  still_hidden : {hidden image : List ℕ} → IsHidden pages old hidden → length image ≡ length hidden → slice_index image 0 ≡ slice_index hidden 0 → ((word : ℕ) → first_data_word_of pages ≤ word → slice_index image word ≡ slice_index hidden word) → IsHidden pages old image
  still_hidden was long first kept = record {
    no_magic = λ whole. was.no_magic (sym first ∙ whole);
    long = long ∙ was.long;
    data_pages = λ word after. kept word after ∙ was.data_pages word after;
  }

  -- while the first word is cleared
  pub hiding : {hidden : List ℕ} → hidden ≡ slice_set old 0 0 → (image : List ℕ) → Mix old hidden image → IsOldHiddenOrFormatted pages old image
  hiding is image mix = ⊎_elim (λ was. inl was) (λ made. inr (inl (cleared made))) (mix_first old image 0 some (subst (λ (l : List ℕ). Mix old l image) is mix))

  -- once the tables are written
  pub hidden_tables : {hidden tables : List ℕ} → hidden ≡ slice_set old 0 0 → SameBeside 1 (first_data_word_of pages) hidden tables → length tables ≡ length hidden → IsHidden pages old tables
  hidden_tables is beside same = still_hidden (cleared is) same (beside.each 0 (inl (omega arith))) (λ word after. beside.each word (inr after))

  -- while the tables are written
  pub writing : {hidden tables : List ℕ} → hidden ≡ slice_set old 0 0 → SameBeside 1 (first_data_word_of pages) hidden tables → (image : List ℕ) → Mix hidden tables image → IsOldHiddenOrFormatted pages old image
  writing {hidden} {tables} is beside image mix = inr (inl (still_hidden (cleared is) mix.long (same 0 (inl (omega arith))) (λ word after. same word (inr after))))
    where
      same : (word : ℕ) → (word < 1) ⊎ (first_data_word_of pages ≤ word) → slice_index image word ≡ slice_index hidden word
      same word out = ⊎_elim (λ was. was) (λ new. new ∙ beside.each word out) (mix.each word)

  -- while the magic is written
  pub publishing : {hidden tables whole : List ℕ} → hidden ≡ slice_set old 0 0 → SameBeside 1 (first_data_word_of pages) hidden tables → length tables ≡ length hidden → whole ≡ slice_set tables 0 magic → IsFormattedFrom pages old whole → (image : List ℕ) → Mix tables whole image → IsOldHiddenOrFormatted pages old image
  publishing {hidden} {tables} {whole} is beside same new done image mix =
      let inside : 0 < length tables = omega (arith, some, same, ap length is, length-set old 0 0) in
      ⊎_elim
      (λ was. inr (inl (subst (IsHidden pages old) (sym was) (hidden_tables is beside same))))
      (λ made. inr (inr (subst (IsFormattedFrom pages old) (new ∙ sym made) done)))
      (mix_first tables image magic inside (subst (λ (l : List ℕ). Mix tables l image) new mix))

  -- the tables and the magic make the volume
  pub formatted : {hidden tables whole : List ℕ} → IsVolumeSize pages → length old ≡ 512 * pages → hidden ≡ slice_set old 0 0 → SameBeside 1 (first_data_word_of pages) hidden tables → length tables ≡ length hidden → HasTableValues pages 1 (first_data_word_of pages) tables → whole ≡ slice_set tables 0 magic → IsFormattedFrom pages old whole
  unfolding word inode_word_of
  formatted {hidden} {tables} {whole} size long is beside same written new = record {
    size = ap length new ∙ length-set tables 0 magic ∙ same ∙ ap length is ∙ length-set old 0 0 ∙ long;
    head = λ a low. elim (cases_eq a 0) [
      | inl here ↦ ap (λ (k : ℕ). slice_index whole k) here ∙ first ∙ ap (λ (k : ℕ). slice_index (head_of pages) k) (sym here)
      | inr other ↦ others a other ∙ (values a other (omega (arith, low, head_inside))).head low
    ];
    mark = others 5 (omega arith) ∙ (values 5 (omega arith) (omega (arith, head_inside))).mark refl;
    superblock = λ a low high. rest a low (omega (arith, high, head_inside)) (omega (arith, high)) (omega (arith, high)) (omega (arith, high));
    root = λ f low. elim (cases_eq f 0) [
      | inl kind ↦ root_value f 0 kind (field 0 (omega arith)).root_kind
      | inr other ↦ elim (cases_eq f 1) [
        | inl links ↦ root_value f 1 links (field 1 (omega arith)).root_links
        | inr another ↦ elim (cases_eq f 3) [
          | inl own ↦ root_value f 3 own (field 3 (omega arith)).root_own
          | inr none ↦ root_value f 2 (omega arith) (λ _. (field 2 (omega arith)).rest (omega arith) (omega arith) (omega arith) (omega arith))
        ]
      ]
    ];
    tables = λ a low high. rest a (omega (arith, low)) high (omega (arith, low)) (omega (arith, low)) (omega (arith, low));
    data_pages = λ a low.
        let other = not_first pages a low in
        others a other ∙ beside.each a (inr low) ∙ ap (λ (l : List ℕ). slice_index l a) is ∙ get_or-set_other old 0 a 0 0 other;
  }
    where
      head_inside : 528 ≤ first_data_word_of pages
      head_inside = root_inside pages size

      others : (a : ℕ) → a ≢ 0 → slice_index whole a ≡ slice_index tables a
      others a other = ap (λ (l : List ℕ). slice_index l a) new ∙ get_or-set_other tables 0 a magic 0 other

      values : (a : ℕ) → a ≢ 0 → a < first_data_word_of pages → IsTableValue pages a (slice_index tables a)
      values a other inside = written.each a (omega (arith, other)) inside

      rest : (a : ℕ) → 5 < a → a < first_data_word_of pages → a ≢ inode_word_of 1 0 → a ≢ inode_word_of 1 1 → a ≢ inode_word_of 1 3 → slice_index whole a ≡ 0
      rest a low inside kind links own = others a (λ here. omega (arith, here, low)) ∙ (values a (λ here. omega (arith, here, low)) inside).rest low kind links own

      field : (f : ℕ) → f < length root_words → IsTableValue pages (inode_word_of 1 f) (slice_index tables (inode_word_of 1 f))
      field f low = written.each (inode_word_of 1 f) (omega arith) (omega (arith, low, head_inside))

      root_value : (f g : ℕ) → f ≡ g → (inode_word_of 1 g ≡ inode_word_of 1 g → slice_index tables (inode_word_of 1 g) ≡ slice_index root_words g) → slice_index whole (inode_word_of 1 f) ≡ slice_index root_words f
      root_value f g is has =
          ap (λ (k : ℕ). slice_index whole (inode_word_of 1 k)) is ∙ others (inode_word_of 1 g) (λ here. omega (arith, here)) ∙ has refl
          ∙ ap (λ (k : ℕ). slice_index root_words k) (sym is)

      first : slice_index whole 0 ≡ magic
      first = ap (λ (l : List ℕ). slice_index l 0) new ∙ get_or-set_same tables 0 magic 0 (omega (arith, some, same, ap length is, length-set old 0 0))
