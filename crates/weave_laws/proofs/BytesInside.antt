-- Bytes of a file below its size are written: a crash leaves the range torn, and at the end the file has it.
use Rattle.std.proofs.Common.{◌≢◌, ℕ, ◌/◌, ◌%◌, ◌^◌, ◌<◌, List, sym, ap, subst, ◌∙◌, arith}
use Rattle.layout.specs.Fields.{inode_size, page_owner, page_byte}
use Rattle.layout.specs.Geometry.{page_word_of}
use Rattle.tree_model.specs.Step.{with_bytes, overwritten}
use Rattle.tree_model.specs.Tree.{Tree, bytes_of}
use Rattle.image_reading.specs.Reading.{HasBytes, Reached, IsContent, Reads}
use Rattle.image_laws.specs.Frame.{SameBytes, SameShape}
use Rattle.image_laws.specs.Quiet.{IsMix, MixesBytes}
use Rattle.image_laws.proofs.Addresses.{page_of_byte-lt, page_word-one}
use Rattle.image_laws.proofs.Free.{mix_itself}
use Rattle.image_laws.proofs.Quiet.{write_law}
use Rattle.content_laws.specs.Inside.{WritesInside}
use Rattle.content_laws.specs.Mix.{IsBytesWord, StoresContent}
use Rattle.content_laws.proofs.Bytes.{length-overwritten}
use Rattle.content_laws.proofs.Inside.{byte_word}
use Rattle.content_laws.proofs.Meaning.{reads_with, shape_room}
use Rattle.content_laws.proofs.Quiet.{quiet}
use Rattle.content_laws.proofs.Ranges.{written_at}
use Rattle.content_laws.proofs.Torn.{torn_law, same_torn_law, content_of}
use Rattle.weave_laws.specs.Bytes.{MayWrite, LeavesInside, InsideMeaningLaw}

module _ (P : ℕ) (I J : List ℕ) (i offset : ℕ) (bytes : List ℕ) (may : MayWrite P I i offset bytes) (writes : WritesInside P I J i offset bytes) where
  pub stores : StoresContent P I J
  stores = record {
    size = writes.size;
    others = λ a none. writes.others a (λ k j w page lt e. none (subst (IsBytesWord P I) (sym e) (IsBytesWord.bytes j w page.in_range lt page.kind)));
  }

  -- another file keeps its bytes
  other_bytes : (k : ℕ) → Reached P I k → HasBytes I k → k ≢ i → SameBytes P I J k
  unfolding page_byte
  other_bytes k r file ne = record {
    bytes = λ o j lt page. ap (λ x. x / 256 ^ (o % 4096 % 8) % 256) (writes.others (page_word_of P j (o % 4096 / 8)) (λ n m w own l e.
        let (same, z) = page_word-one P j (o % 4096 / 8) m w (byte_word o) l e in
        ne (sym page.owner ∙ ap (page_owner P I) same ∙ own.owner)));
  }

  mixes : (M : List ℕ) → IsMix I J M → MixesBytes P I J M i
  mixes M mix = write_law P I J M i may.coherent (quiet P I J stores may.coherent) other_bytes mix

  whole : MixesBytes P I J J i
  whole = mixes J (mix_itself I J writes.size)

  pub shape : SameShape P I J
  shape = whole.shape

  content : (old : List ℕ) → IsContent P I i old → IsContent P J i (overwritten old offset bytes)
  content old was = record {
    size = let long = length-overwritten old offset bytes in
        let size = was.size in
        let inside = may.inside in
        let same = (shape.inodes i may.reached).size in
        omega (arith, long, size, inside, same);
    bytes_at = λ o j lt page.
        let below : o < inode_size I i = subst (λ z. o < z) (shape.inodes i may.reached).size lt in
        let before = (shape.pages i (o / 4096) j may.reached may.file (page_of_byte-lt o (inode_size I i) below)).1 page in
        written_at old offset bytes o (page_byte P I j (o % 4096)) (page_byte P J j (o % 4096)) (writes.writes o j below before) (was.bytes_at o j below before);
  }

  reads : (T : Tree) → Reads P I T → Reads P J (with_bytes T i (overwritten (bytes_of T i) offset bytes))
  reads T read = reads_with P I J shape.names T i (overwritten (bytes_of T i) offset bytes) shape.coherent may.reached
      ((shape.inodes i may.reached).kind ∙ may.file, content (bytes_of T i) (content_of P I T i may.coherent read may.reached may.file))
      whole.others read

  pub leaves_inside : LeavesInside P I J i offset bytes
  leaves_inside = record {
    torn = λ M mix. torn_law P I J M i offset bytes may.coherent may.reached may.file writes.writes (mixes M mix);
    hangs = λ M N m n same. same_torn_law P I J M N i offset bytes writes.writes (mixes M m) (mixes N n) same;
    coherent = shape.coherent;
    reads = reads;
    room = shape_room P I J shape;
  }

pub inside_meaning_law : InsideMeaningLaw
inside_meaning_law P I J i offset bytes may writes = leaves_inside P I J i offset bytes may writes
