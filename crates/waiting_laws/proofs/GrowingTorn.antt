-- What the words read as once a file's new pages are filled and its own bytes below its size have the range.
use Rattle.std.proofs.Common.{ℕ, ◌/◌, ◌%◌, ◌<◌, List, sym, subst, ◌∙◌}
use Rattle.layout.specs.Fields.{inode_size, page_byte}
use Rattle.tree_model.specs.Run.{State}
use Rattle.tree_model.specs.Step.{with_bytes, overwritten, resized}
use Rattle.tree_model.specs.Tree.{Tree, bytes_of}
use Rattle.image_reading.specs.Reading.{IsContent, Reads, ReadsAs}
use Rattle.image_laws.specs.Frame.{SameShape}
use Rattle.image_laws.proofs.Addresses.{page_of_byte-lt}
use Rattle.image_laws.proofs.Free.{mix_itself}
use Rattle.content_laws.specs.Growth.{FillsFile, LeavesFilled}
use Rattle.content_laws.specs.Torn.{ReadsTorn}
use Rattle.content_laws.proofs.Bytes.{length-resized, resized_at}
use Rattle.content_laws.proofs.Meaning.{reads_with}
use Rattle.content_laws.proofs.Ranges.{written_at}
use Rattle.content_laws.proofs.Torn.{content_of}
use Rattle.weave_laws.specs.Bytes.{MayFill}
use Rattle.weave_laws.proofs.BytesFilled as filling

-- ---- the tree behind the fill

-- the file's part of the range below its size is written
abbrev pub torn_state : List ℕ → State → ℕ → ℕ → List ℕ → State
torn_state I state i offset bytes = record { tree = with_bytes state.tree i (resized (overwritten (bytes_of state.tree i) offset bytes) (inode_size I i)); room = state.room }

module _ (P : ℕ) (I J : List ℕ) (i offset : ℕ) (bytes pages : List ℕ) (may : MayFill P I i pages) (fills : FillsFile P I J i offset bytes pages) where
  law : LeavesFilled P I J i offset bytes
  law = filling.leaves_filled P I J i offset bytes pages may fills

  whole : ReadsTorn P I J i offset bytes
  whole = law.torn J (mix_itself I J fills.size)

  shape : SameShape P I J
  shape = filling.shape P I J i offset bytes pages may fills

  content : (old : List ℕ) → IsContent P I i old → IsContent P J i (resized (overwritten old offset bytes) (inode_size I i))
  content old was = record {
    size = length-resized (overwritten old offset bytes) (inode_size I i) ∙ sym (shape.inodes i may.reached).size;
    bytes_at = λ o j lt page.
        let below : o < inode_size I i = subst (λ z. o < z) (shape.inodes i may.reached).size lt in
        let before = (shape.pages i (o / 4096) j may.reached may.file (page_of_byte-lt o (inode_size I i) below)).1 page in
        resized_at (overwritten old offset bytes) (inode_size I i) o below
        ∙ written_at old offset bytes o (page_byte P I j (o % 4096)) (page_byte P J j (o % 4096)) (fills.below o j below before) (was.bytes_at o j below before);
  }

  reads : (T : Tree) → Reads P I T → Reads P J (with_bytes T i (resized (overwritten (bytes_of T i) offset bytes) (inode_size I i)))
  reads T read = reads_with P I J shape.names T i (resized (overwritten (bytes_of T i) offset bytes) (inode_size I i)) shape.coherent may.reached
      ((shape.inodes i may.reached).kind ∙ may.file, content (bytes_of T i) (content_of P I T i may.coherent read may.reached may.file))
      whole.others read

  pub reads_filled : (state : State) → ReadsAs P I state → ReadsAs P J (torn_state I state i offset bytes)
  reads_filled state read = record { tree = reads state.tree read.tree; room = whole.room state.room read.room }
