-- A file's pages hold the range that is written from when it is filled until the size rises, and below the greater size it has no others.
use Rattle.std.proofs.Common.{◌≡◌, ◌⊎◌, inl, inr, ℕ, zero, suc, ◌+◌, ◌/◌, ◌%◌, ◌^◌, ◌<◌, List, [], ◌∷◌, ◌++◌, length, get_or, slice_get, Some, refl, sym, ap, subst, ◌∙◌, length-append, arith}
use Rattle.std.specs.Prelude.{Contains}
use Rattle.std.proofs.lemmas.Bool.{cases_lt}
use Rattle.std.proofs.lemmas.Option.{slice_get-get_or}
use Rattle.layout.specs.Fields.{inode_size, page_byte}
use Rattle.layout.specs.Geometry.{inode_word_of, page_word_of}
use Rattle.image_reading.specs.Reading.{HasBytes, Reached, IsPageOf, pages_of_size}
use Rattle.image_reading.specs.Soundness.{Rule, IsCoherent}
use Rattle.image_reading.proofs.FilePages.{page_from_place}
use Rattle.image_counts.specs.Entries.{IsPageIn}
use Rattle.image_counts.proofs.Nodes.{one_page}
use Rattle.image_counts.proofs.Paths.{in_range}
use Rattle.image_laws.proofs.Addresses.{page_of_byte-lt, descriptor-ne_inode, descriptor-ne_page}
use Rattle.content_laws.specs.Growth.{FillsFile, TakesPages}
use Rattle.content_laws.proofs.Lists.{contains_at}
use Rattle.weave_laws.specs.Bytes.{MayFill, MayOwn, MayRaise}
use Rattle.weave_laws.specs.Growing.{HaveRange, FilledRangeLaw, TakenRangeLaw, KeptRangeLaw, HeldRangeLaw}
use Rattle.weave_laws.specs.Waiting.{AreInOrder}
use Rattle.weave_laws.proofs.BytesFilled as filling

-- ---- lists

no_size : pages_of_size 0 ≡ 0
unfolding pages_of_size
no_size = refl

get_either : (xs ys : List ℕ) (k j : ℕ) → slice_get (xs ++ ys) k ≡ Some j → (slice_get xs k ≡ Some j) ⊎ ((n : ℕ) × (k ≡ length xs + n) × (slice_get ys n ≡ Some j))
get_either [] ys k j at = inr (k, omega arith, at)
get_either (x ∷ xs) ys zero j at = inl at
get_either (x ∷ xs) ys (suc k) j at = elim (get_either xs ys k j at) [ inl here ↦ inl here | inr (n, e, there) ↦ inr (n, omega (arith, e), there) ]

both_in_order : (P : ℕ) (I xs ys : List ℕ) (from middle to : ℕ) → AreInOrder P I xs from middle → AreInOrder P I ys middle to → AreInOrder P I (xs ++ ys) from to
both_in_order P I xs ys from middle to front back = record {
  offsets = λ k j at. elim (get_either xs ys k j at) [
    | inl here ↦ front.offsets k j here
    | inr (n, e, there) ↦ (let stands = back.offsets n j there in let count = front.count in omega (arith, e, stands, count))
  ];
  count = (let long = length-append xs ys in let one = front.count in let other = back.count in omega (arith, long, one, other));
}

-- ---- a file's pages

module _ (P : ℕ) (I own : List ℕ) (i z : ℕ) (coherent : IsCoherent P I) (reached : Reached P I i) (file : HasBytes I i) (order : AreInOrder P I own 0 z)
    (of_file : (j : ℕ) → Contains own j → IsPageIn P I i j) where
  page_at : (k j : ℕ) → slice_get own k ≡ Some j → IsPageOf P I i k j
  page_at k j at =
      let page = of_file j (contains_at own k j at) in
      let none = no_size in
      let stands = order.offsets k j at in
      page_from_place (record {
        in_range = page.in_range;
        owner = page.owner;
        kind = (coherent Rule.page_kinds j).file page.in_range (subst (Reached P I) (sym page.owner) reached) (subst (HasBytes I) (sym page.owner) file);
        offset = omega (arith, none, stands);
      })

-- ---- they are filled

module _ (P : ℕ) (I J : List ℕ) (i offset : ℕ) (bytes old pages : List ℕ) (may : MayFill P I i pages) (order : AreInOrder P I old 0 (inode_size I i))
    (of_file : (j : ℕ) → Contains old j → IsPageIn P I i j) (fills : FillsFile P I J i offset bytes pages) where
  old_page : (k j : ℕ) → slice_get old k ≡ Some j → IsPageOf P I i k j
  old_page = page_at P I old i (inode_size I i) may.coherent may.reached may.file order of_file

  new_place : (k n : ℕ) → k ≡ length old + n → k ≡ pages_of_size (inode_size I i) + n
  new_place k n e = let none = no_size in let count = order.count in omega (arith, e, none, count)

  same_size : inode_size J i ≡ inode_size I i
  same_size = ((filling.shape P I J i offset bytes pages may fills).inodes i may.reached).size

  pub have_filled : HaveRange P J (old ++ pages) i offset bytes
  have_filled = record {
    new = λ o j range at. elim (get_either old pages (o / 4096) j at) [
      | inl here ↦ elim (cases_lt o (inode_size I i)) [
        | inl below ↦ (fills.below o j below (old_page (o / 4096) j here)).new range
        | inr behind ↦ (fills.tail o j behind (old_page (o / 4096) j here)).new range
      ]
      | inr (n, e, there) ↦ (fills.filled n j o there (new_place (o / 4096) n e)).new range
    ];
    zero = λ o j beside behind at. elim (get_either old pages (o / 4096) j at) [
      | inl here ↦ (fills.tail o j (let same = same_size in omega (arith, same, behind)) (old_page (o / 4096) j here)).kept beside
      | inr (n, e, there) ↦ (fills.filled n j o there (new_place (o / 4096) n e)).kept beside
    ];
  }

pub filled_range_law : FilledRangeLaw
filled_range_law P I J i offset bytes old pages may order of_file fills = have_filled P I J i offset bytes old pages may order of_file fills

-- ---- their bytes stay

same_range : (P : ℕ) (I J own : List ℕ) (i offset : ℕ) (bytes : List ℕ) → inode_size J i ≡ inode_size I i → ((j o : ℕ) → Contains own j → o < 4096 → page_byte P J j o ≡ page_byte P I j o)
    → HaveRange P I own i offset bytes → HaveRange P J own i offset bytes
same_range P I J own i offset bytes size same have = record {
  new = λ o j range at. same j (o % 4096) (contains_at own (o / 4096) j at) (omega arith) ∙ have.new o j range at;
  zero = λ o j beside behind at. same j (o % 4096) (contains_at own (o / 4096) j at) (omega arith) ∙ have.zero o j beside (omega (arith, size, behind)) at;
}

module _ (P : ℕ) (I J : List ℕ) (i : ℕ) (pages : List ℕ) (may : MayOwn P I i pages) (takes : TakesPages P I J i pages) where
  taken_size : inode_size J i ≡ inode_size I i
  unfolding inode_size
  taken_size =
      let (some, most) = in_range P I may.coherent i may.reached in
      takes.others (inode_word_of i 2) (λ j is e. descriptor-ne_inode P j 0 i 2 some most (omega arith) (sym e))

  taken_byte : (j o : ℕ) → page_byte P J j o ≡ page_byte P I j o
  unfolding page_byte
  taken_byte j o = ap (λ x. x / 256 ^ (o % 8) % 256) (takes.others (page_word_of P j (o / 8)) (λ h is e. descriptor-ne_page P h 0 j (o / 8) (may.filled h is).free.0 (omega arith) (sym e)))

pub taken_range_law : TakenRangeLaw
taken_range_law P I J own i offset bytes pages may takes have =
    same_range P I J own i offset bytes (taken_size P I J i pages may takes) (λ j o given lt. taken_byte P I J i pages may takes j o) have

pub kept_range_law : KeptRangeLaw
kept_range_law P I J slots pages inodes own i offset bytes keeps file held have =
    same_range P I J own i offset bytes (keeps.of_inodes i file).size (λ j o given lt. (keeps.of_pages j (held j given)).bytes o lt) have

-- ---- the size may rise

module _ (P : ℕ) (I own : List ℕ) (i z : ℕ) (may : MayRaise P I i z) (order : AreInOrder P I own 0 z) (of_file : (j : ℕ) → Contains own j → IsPageIn P I i j) where
  -- below the greater size the file has one page at each offset,
  one : (h j k : ℕ) → k < pages_of_size z → IsPageOf P I i k h → IsPageOf P I i k j → h ≡ j
  one h j k lt a b = elim (cases_lt k (pages_of_size (inode_size I i))) [
    | inl below ↦ one_page P I may.coherent i k h j may.reached may.file below a b
    | inr behind ↦ may.one h j k behind lt a b
  ]

  -- which is in the list
  pub listed : (k j : ℕ) → k < pages_of_size z → IsPageOf P I i k j → slice_get own k ≡ Some j
  listed k j lt page =
      let none = no_size in
      let count = order.count in
      let at = slice_get-get_or own k 0 (omega (arith, none, count, lt)) in
      at ∙ ap Some (one (get_or own k 0) j k lt (page_at P I own i z may.coherent may.reached may.file order of_file k (get_or own k 0) at) page)

pub held_range_law : HeldRangeLaw
held_range_law P I i z offset bytes old pages may front back of_file have =
    let order = both_in_order P I old pages 0 (inode_size I i) z front back in
    record {
      new = λ o j lt range page. have.new o j range (listed P I (old ++ pages) i z may order of_file (o / 4096) j (page_of_byte-lt o z lt) page);
      zero = λ o j lt beside behind page. have.zero o j beside behind (listed P I (old ++ pages) i z may order of_file (o / 4096) j (page_of_byte-lt o z lt) page);
    }
