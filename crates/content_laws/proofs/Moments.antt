-- What a crash leaves of a write before its end, and on what the reading hangs.
use Rattle.std.proofs.Common.{◌≡◌, inl, inr, ℕ, ◌/◌, ◌%◌, ◌^◌, ◌<◌, ◌≤◌, List, length, reverse, refl, sym, ap, subst, ◌∙◌, arith}
use Rattle.layout.specs.Fields.{word, inode_kind, inode_size, page_byte}
use Rattle.layout.specs.Geometry.{inodes_of, inode_word_of, page_word_of}
use Rattle.tree_model.specs.Step.{with_bytes, overwritten}
use Rattle.tree_model.specs.Tree.{Tree, bytes_of, bytes_of_node}
use Rattle.tree_model.proofs.TreeLaws.{node_at-with_bytes_here}
use Rattle.image_reading.specs.Reading.{HasBytes, Reached, IsContent, Reads}
use Rattle.image_reading.specs.Soundness.{IsCoherent}
use Rattle.image_laws.specs.Frame.{SameMeaning}
use Rattle.image_laws.specs.Quiet.{IsMix}
use Rattle.image_laws.proofs.Free.{mix_itself}
use Rattle.content_laws.specs.Growth.{CanGrow, FillsFile, TakesPages, FillingLaw, MeansFilled, GrowthTakingLaw}
use Rattle.content_laws.specs.Inside.{CanWrite, WritesInside}
use Rattle.content_laws.specs.Moments.{IsEarly, InsideOnceLaw, GrowthHangsLaw, GrowthOnceLaw}
use Rattle.content_laws.specs.Torn.{SameRange}
use Rattle.content_laws.proofs.Bytes.{overwritten-in}
use Rattle.content_laws.proofs.Filling.{fill_inode, fill_mixes, fill_torn, fill_quiet}
use Rattle.content_laws.proofs.Inside.{inside_law, mixes}
use Rattle.content_laws.proofs.Meaning.{forth, back}
use Rattle.content_laws.proofs.Taking.{pos, most, take_mix, take_byte, taken_inode}
use Rattle.content_laws.proofs.Torn.{content_of, same_torn_law}

-- what means the same reads as no other tree
reads_back : (P : ℕ) (I J : List ℕ) (T : Tree) → SameMeaning P I J → Reads P J T → Reads P I T
reads_back P I J T h g = record {
  names = λ p x. ((λ e. (h.names (reverse p) x).1 ((g.names p x).0 e)), (λ b. (g.names p x).1 ((h.names (reverse p) x).0 b)));
  nodes = λ x y. (
    (λ e. let (r, k) = (g.nodes x y).0 e in let m = back P I J h.names x r in (m, (h.nodes x y m).1 k)),
    (λ (r, k). (g.nodes x y).1 (forth P I J h.names x r, (h.nodes x y r).0 k)),
  );
}

mix_first : (I J : List ℕ) → IsMix I J I
mix_first I J = record { size = refl; words = λ a. inl refl }

bytes-with_bytes : (T : Tree) (i : ℕ) (bytes : List ℕ) → bytes_of (with_bytes T i bytes) i ≡ bytes
bytes-with_bytes T i bytes = ap bytes_of_node (node_at-with_bytes_here T i bytes)

-- ---- inside the size

module _ (P : ℕ) (W J M : List ℕ) (i offset : ℕ) (bytes : List ℕ) (T : Tree) (can : CanWrite P W i offset bytes) (h : WritesInside P W J i offset bytes) (mix : IsMix W J M)
    (reads : Reads P W T) (done : Reads P W (with_bytes T i (overwritten (bytes_of T i) offset bytes))) where
  before : IsContent P W i (bytes_of T i)
  before = content_of P W T i can.tidy.coherent reads can.reached can.file

  after : IsContent P W i (overwritten (bytes_of T i) offset bytes)
  after = subst (IsContent P W i) (bytes-with_bytes T i (overwritten (bytes_of T i) offset bytes))
      (content_of P W (with_bytes T i (overwritten (bytes_of T i) offset bytes)) i can.tidy.coherent done can.reached can.file)

  same : SameRange P W W M i offset bytes
  same o j lt range page = elim ((mixes P W J i offset bytes can h M mix).bytes j (o % 4096)) [
    | inl e ↦ e
    | inr e ↦ e ∙ (h.writes o j lt page).new range ∙ sym (overwritten-in (bytes_of T i) offset bytes o range) ∙ after.bytes_at o j lt page
  ]

  inside_once : SameMeaning P W M
  inside_once = (inside_law P W J i offset bytes can h).hangs W M (mix_first W J) mix same

pub inside_once_law : InsideOnceLaw
inside_once_law P W J M i offset bytes T can h mix reads done = inside_once P W J M i offset bytes T can h mix reads done

-- ---- past the size, while the bytes are stored

pub filling_law : FillingLaw
filling_law P W A i z offset bytes pages can fills = record {
  torn = fill_torn P W A i z offset bytes pages can fills;
  hangs = λ M N m n same. same_torn_law P W A M N i offset bytes fills.below
      (fill_mixes P W A i z offset bytes pages can fills M m) (fill_mixes P W A i z offset bytes pages can fills N n) same;
  filling = fill_quiet P W A i z offset bytes pages can fills;
}

-- ---- and the owners

module _ (P : ℕ) (W A B : List ℕ) (i z offset : ℕ) (bytes pages : List ℕ) (can : CanGrow P W i z offset bytes pages) (fills : FillsFile P W A i offset bytes pages) (takes : TakesPages P A B i pages) (M : List ℕ) (mix : IsMix A B M) where
  some : 1 ≤ i
  some = pos P W A B i z offset bytes pages can fills takes

  within : i ≤ inodes_of P
  within = most P W A B i z offset bytes pages can fills takes

  -- a field of the inode in a mix
  field_of : (f : ℕ) → f < 16 → word M (inode_word_of i f) ≡ word W (inode_word_of i f)
  field_of f lt = elim (mix.words (inode_word_of i f)) [
    | inl e ↦ e ∙ fill_inode P W A i z offset bytes pages can fills i f some within lt
    | inr e ↦ e ∙ taken_inode P W A B i z offset bytes pages can fills takes i f some within lt
  ]

  byte_of : (j o : ℕ) → page_byte P M j o ≡ page_byte P A j o
  unfolding page_byte
  byte_of j o = elim (mix.words (page_word_of P j (o / 8))) [
    | inl e ↦ ap (λ x. x / 256 ^ (o % 8) % 256) e
    | inr e ↦ ap (λ x. x / 256 ^ (o % 8) % 256) e ∙ take_byte P W A B i z offset bytes pages can fills takes j o
  ]

  taken_mix : MeansFilled P W A M i
  unfolding inode_kind inode_size
  taken_mix = record {
    means = take_mix P W A B i z offset bytes pages can fills takes M mix;
    same_bytes = byte_of;
    old_kind = field_of 0 (omega arith);
    old_size = field_of 2 (omega arith);
  }

pub taking_law : GrowthTakingLaw
taking_law P W A B M i z offset bytes pages can fills takes mix = taken_mix P W A B i z offset bytes pages can fills takes M mix

-- ---- before the size is stored

module _ (P : ℕ) (W A : List ℕ) (i z offset : ℕ) (bytes pages : List ℕ) (can : CanGrow P W i z offset bytes pages) (fills : FillsFile P W A i offset bytes pages) where
  hangs : (M N : List ℕ) → IsMix W A M → IsMix W A N → SameRange P W M N i offset bytes → SameMeaning P M N
  hangs = (filling_law P W A i z offset bytes pages can fills).hangs

  whole : IsMix W A A
  whole = mix_itself W A fills.size

  module _ (M N : List ℕ) (T : Tree) (same : SameRange P W M N i offset bytes) (reads : Reads P M T) where
    from_torn : IsMix W A M → IsEarly P W A i N → Reads P N T
    from_torn m n = elim n [
      | inl mix ↦ (hangs M N m mix same).reads T reads
      | inr t ↦ t.means.reads T ((hangs M A m whole (λ o j lt range page. sym (t.same_bytes j (o % 4096)) ∙ same o j lt range page)).reads T reads)
    ]

    from_taken : MeansFilled P W A M i → IsEarly P W A i N → Reads P N T
    from_taken t n = let at_a = reads_back P A M T t.means reads in elim n [
      | inl mix ↦ (hangs A N whole mix (λ o j lt range page. same o j lt range page ∙ t.same_bytes j (o % 4096))).reads T at_a
      | inr u ↦ u.means.reads T at_a
    ]

    growth_hangs : IsEarly P W A i M → IsEarly P W A i N → Reads P N T
    growth_hangs m n = elim m [ inl mix ↦ from_torn mix n | inr t ↦ from_taken t n ]

  -- the file stands in M, with the old size
  record IsOld (M : List ℕ) : Type 0 where
    coherent : IsCoherent P M
    reached : Reached P M i
    file : HasBytes M i
    size : inode_size M i ≡ inode_size W i

  old_early : (M : List ℕ) → IsEarly P W A i M → IsOld M
  old_early M early = elim early [
    | inl mix ↦
        let shape = (fill_mixes P W A i z offset bytes pages can fills M mix).shape in
        record {
          coherent = shape.coherent;
          reached = forth P W M shape.names i can.reached;
          file = (shape.inodes i can.reached).kind ∙ can.file;
          size = (shape.inodes i can.reached).size;
        }
    | inr t ↦
        let shape = (fill_mixes P W A i z offset bytes pages can fills A whole).shape in
        record {
          coherent = t.means.coherent;
          reached = forth P A M t.means.names i (forth P W A shape.names i can.reached);
          file = t.old_kind ∙ can.file;
          size = t.old_size;
        }
  ]

  never : (M new : List ℕ) (T : Tree) → IsEarly P W A i M → length new ≡ z → Reads P M (with_bytes T i new) → ⊥
  never M new T early long reads =
      let old = old_early M early in
      let content = content_of P M (with_bytes T i new) i old.coherent reads old.reached old.file in
      let size = content.size in
      let same = ap length (bytes-with_bytes T i new) in
      let was = old.size in
      let larger = can.larger in
      omega (arith, long, size, same, was, larger)

pub growth_hangs_law : GrowthHangsLaw
growth_hangs_law P W A M N i z offset bytes pages T can fills m n same reads = growth_hangs P W A i z offset bytes pages can fills M N T same reads m n

pub growth_once_law : GrowthOnceLaw
growth_once_law P W A M i z offset bytes pages new T can fills early long reads = never P W A i z offset bytes pages can fills M new T early long reads
