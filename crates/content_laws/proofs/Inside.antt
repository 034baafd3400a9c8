-- A write that ends not past the size.
use Rattle.std.proofs.Common.{◌≡◌, ◌≢◌, ℕ, ◌/◌, ◌%◌, ◌^◌, ◌<◌, List, [], sym, ap, subst, ◌∙◌, arith}
use Rattle.std.proofs.lemmas.Option.{slice_get_within}
use Rattle.layout.specs.Fields.{inode_size, page_owner, page_byte}
use Rattle.layout.specs.Geometry.{descriptor_word_of, page_word_of}
use Rattle.tree_model.specs.Step.{with_bytes, overwritten}
use Rattle.tree_model.specs.Tree.{Tree, bytes_of}
use Rattle.image_reading.specs.Reading.{HasBytes, Reached, IsContent, pages_of_size, Reads}
use Rattle.image_reading.specs.Soundness.{IsCoherent}
use Rattle.image_laws.specs.Frame.{SameBytes}
use Rattle.image_laws.specs.Quiet.{IsMix, MixesBytes}
use Rattle.image_laws.proofs.Addresses.{descriptor-ne_page, page_word-one}
use Rattle.image_laws.proofs.Free.{mix_itself}
use Rattle.image_laws.proofs.Quiet.{write_law}
use Rattle.content_laws.specs.Inside.{CanWrite, WritesInside, InsideLaw}
use Rattle.content_laws.specs.Mix.{IsBytesWord, StoresContent}
use Rattle.content_laws.proofs.Bytes.{length-overwritten}
use Rattle.content_laws.proofs.Keeps.{Keeps, keeps_tidy, keeps_index, keeps_page}
use Rattle.content_laws.proofs.Lists.{contains_none}
use Rattle.content_laws.proofs.Meaning.{reads_with, shape_room}
use Rattle.content_laws.proofs.Quiet.{head_same, inode_same, slot_same, quiet}
use Rattle.content_laws.proofs.Ranges.{written_at}
use Rattle.content_laws.proofs.Torn.{torn_law, same_torn_law, content_of}

pub byte_word : (o : ℕ) → o % 4096 / 8 < 512
byte_word o = omega arith

module _ (P : ℕ) (W J : List ℕ) (i offset : ℕ) (bytes : List ℕ) (can : CanWrite P W i offset bytes) (h : WritesInside P W J i offset bytes) where
  coherent : IsCoherent P W
  coherent = can.tidy.coherent

  stores : StoresContent P W J
  stores = record {
    size = h.size;
    others = λ a none. h.others a (λ k j w g lt e. none (subst (IsBytesWord P W) (sym e) (IsBytesWord.bytes j w g.in_range lt g.kind)));
  }

  -- the bytes of another file
  other_bytes : (k : ℕ) → Reached P W k → HasBytes W k → k ≢ i → SameBytes P W J k
  unfolding page_byte
  other_bytes k r file ne = record {
    bytes = λ o j lt g. ap (λ x. x / 256 ^ (o % 4096 % 8) % 256) (h.others (page_word_of P j (o % 4096 / 8)) (λ n m w f l e.
        let (same, z) = page_word-one P j (o % 4096 / 8) m w (byte_word o) l e in
        ne (sym g.owner ∙ ap (page_owner P W) same ∙ f.owner)));
  }

  pub mixes : (M : List ℕ) → IsMix W J M → MixesBytes P W J M i
  mixes M mix = write_law P W J M i coherent (quiet P W J stores coherent) other_bytes mix

  whole : MixesBytes P W J J i
  whole = mixes J (mix_itself W J h.size)

  size_same : inode_size J i ≡ inode_size W i
  size_same = (whole.shape.inodes i can.reached).size

  keeps : Keeps P W J i []
  keeps = record {
    tidy = can.tidy;
    coherent = whole.shape.coherent;
    reached = can.reached;
    file = can.file;
    names = whole.shape.names;
    version = head_same P W J stores 1 (omega arith);
    inode = λ x f p m lt other. inode_same P W J stores x f p m lt;
    descriptor = λ j f lt l8 none. h.others (descriptor_word_of P j f) (λ k m w g l e. descriptor-ne_page P j f m w lt l8 e);
    slot = slot_same P W J stores;
    free = λ j c. absurd (contains_none j c);
    new = λ k j is. absurd (let lt = slice_get_within {A = ℕ} [] k j is in omega (arith, lt));
    count = let same = ap pages_of_size size_same in omega (arith, same);
  }

  content : (old : List ℕ) → IsContent P W i old → IsContent P J i (overwritten old offset bytes)
  content old was = record {
    size = let long = length-overwritten old offset bytes in
        let size = was.size in
        let inside = can.inside in
        let same = size_same in
        omega (arith, long, size, inside, same);
    bytes_at = λ o j lt g.
        let below : o < inode_size W i = subst (λ z. o < z) size_same lt in
        let page = (keeps_page P W J i [] keeps i (o / 4096) j (contains_none j)).0 g in
        written_at old offset bytes o (page_byte P W j (o % 4096)) (page_byte P J j (o % 4096)) (h.writes o j below page) (was.bytes_at o j below page);
  }

  reads : (T : Tree) → Reads P W T → Reads P J (with_bytes T i (overwritten (bytes_of T i) offset bytes))
  reads T read = reads_with P W J whole.shape.names T i (overwritten (bytes_of T i) offset bytes) whole.shape.coherent can.reached
      ((whole.shape.inodes i can.reached).kind ∙ can.file, content (bytes_of T i) (content_of P W T i coherent read can.reached can.file))
      whole.others read

pub inside_law : InsideLaw
inside_law P W J i offset bytes can h = record {
  torn = λ M mix. torn_law P W J M i offset bytes can.tidy.coherent can.reached can.file h.writes (mixes P W J i offset bytes can h M mix);
  hangs = λ M N m n same. same_torn_law P W J M N i offset bytes h.writes (mixes P W J i offset bytes can h M m) (mixes P W J i offset bytes can h N n) same;
  tidy = keeps_tidy P W J i [] (keeps P W J i offset bytes can h);
  reads = reads P W J i offset bytes can h;
  room = shape_room P W J (whole P W J i offset bytes can h).shape;
  index = keeps_index P W J i [] (keeps P W J i offset bytes can h);
}
