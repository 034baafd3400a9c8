-- Bytes of a file that are read: from its pages, word by word.
use Rattle.std.proofs.Common.{◌≡◌, ℕ, ◌+◌, ◌-◌, ◌*◌, ◌/◌, ◌%◌, ◌^◌, ◌<◌, ◌≤◌, true, List, ◌++◌, length, take, drop, slice_index, min, Some, sym, ap, ◌∙◌, arith, length-drop, length-take, inl, inr, length-append}
use Rattle.std.proofs.Math.Seq.{take-append_seam, drop-append_seam}
use Rattle.std.proofs.lemmas.Grind.{same_number_lists}
use Rattle.std.proofs.lemmas.List.{get_or-take, get_or-drop, get_or_append_left, get_or-append_right}
use Rattle.std.proofs.lemmas.Bool.{cases_lt}
use borrow.Rule.Slice.PartMut.{put_mid, post_of}
use Rattle.pm_trait.specs.DeviceView.{DeviceView}
use Rattle.layout.specs.Fields.{inode_size, page_byte, word, byte_of}
use Rattle.layout.specs.Geometry.{data_pages_of, page_word_of}
use Rattle.layout.specs.Name.{bytes_of_word, bytes_of_words}
use Rattle.layout.proofs.ByteLaws.{slice_index-bytes_of_word}
use Rattle.layout.proofs.FieldLaws.{get_or-bytes_of_words}
use Rattle.layout.proofs.GeometryLaws.{page_word_within}
use Rattle.tree_model.specs.Tree.{File, node_at, is_file, bytes_of, bytes_of_node}
use Rattle.tree_model.specs.Run.{State}
use Rattle.tree_model.proofs.NodeLaws.{file_is}
use Rattle.image_reading.specs.Reading.{HasBytes, Reached, IsContent, pages_of_size}
use Rattle.image_reading.specs.Residue.{Residue}
use Rattle.image_reading.specs.Soundness.{Rule}
use Rattle.image_counts.proofs.Nodes.{size_law}
use Rattle.volatile_index.specs.Index.{pages_of}
use Rattle.volume.specs.Volume.{VolumeView}
use Rattle.volume.specs.Beside.{StandsBeside, IsUntouched}
use Rattle.data_ops.specs.Files.{HasPages}
use Rattle.data_ops.specs.Reading.{IsRead, file_byte}
use Rattle.data_ops.proofs.Pages.{has_pages_beside}
use Rattle.data_ops.proofs.Spans.{page_at}

-- ---- what a buffer holds, and the bytes of a file

-- what a buffer holds whose first bytes were read
pub bytes_read : (before after part bytes : List ℕ) (offset count : ℕ) → count ≡ min (length before) (length bytes - offset) → after ≡ part ++ drop count before → length part ≡ count
    → ((k : ℕ) → k < count → slice_index part k ≡ slice_index bytes (offset + k)) → IsRead bytes offset before after count
bytes_read before after part bytes offset count count_is joined long each = record {
  count_is = count_is;
  bytes_are = ap (λ (l : List ℕ). take count l) joined ∙ ap (λ (n : ℕ). take n (part ++ drop count before)) (sym long) ∙ take-append_seam part (drop count before)
      ∙ same_number_lists part (take (length before) (drop offset bytes)) (let one = length-take (length before) (drop offset bytes) in let two = length-drop offset bytes in omega (arith, long, count_is, one, two))
      (λ k low. let inside : k < count = omega (arith, long, low) in let few : k < length before = omega (arith, inside, count_is) in
      each k inside ∙ sym (get_or-take (length before) (drop offset bytes) k 0 few ∙ get_or-drop offset bytes k 0));
  rest = ap (λ (l : List ℕ). drop count l) joined ∙ ap (λ (n : ℕ). drop n (part ++ drop count before)) (sym long) ∙ drop-append_seam part (drop count before);
}

module _ (volume : VolumeView) (device : DeviceView) (i : ℕ)
    (file : (state : State) × (residue : Residue) × StandsBeside volume device state residue × (is_file state.tree i ≡ true) × IsUntouched volume device.words residue i) where
  pub reached : Reached volume.size device.words i × HasBytes device.words i
  reached = ((size_law volume.size device.words file.0 file.2.sound.coherent file.2.reads).files i).0 file.3

  pub held : HasPages volume.size device.words i (pages_of volume.index i)
  held = has_pages_beside volume device file.0 file.1 file.2 i file.4 reached.0 reached.1

  node : node_at file.0.tree i ≡ Some (File (bytes_of file.0.tree i))
  node = let (bytes, is) = file_is (node_at file.0.tree i) file.3 in is ∙ ap (λ (l : List ℕ). Some (File l)) (sym (ap bytes_of_node is))

  pub long : length (bytes_of file.0.tree i) ≡ inode_size device.words i
  long = (size_law volume.size device.words file.0 file.2.sound.coherent file.2.reads).sizes i (bytes_of file.0.tree i) node

  content : IsContent volume.size device.words i (bytes_of file.0.tree i)
  content = ((file.2.reads.tree.nodes i (File (bytes_of file.0.tree i))).0 node).1.1

  -- the file's pages reach to its end
  pub reach : inode_size device.words i ≤ 4096 * length (pages_of volume.index i)
  unfolding pages_of_size
  reach = let count = held.count in omega (arith, count)

  -- each byte below the size stands in its page
  pub byte_is : (o : ℕ) → o < inode_size device.words i → page_byte volume.size device.words (slice_index (pages_of volume.index i) (o / 4096)) (o % 4096) ≡ slice_index (bytes_of file.0.tree i) o
  byte_is o low = sym (content.bytes_at o (slice_index (pages_of volume.index i) (o / 4096)) low (page_at held (o / 4096) (let far = reach in omega (arith, far, low))))

  -- a file isn't too big
  pub small : inode_size device.words i ≤ 2 ^ 40
  small = file.2.sound.coherent Rule.sizes i reached.0 reached.1

-- ---- word by word

-- the bytes of the word that holds byte `at`, from that byte on
pub bytes_from : (P : ℕ) (I pages : List ℕ) (at k : ℕ) → at % 8 + k < 8
    → slice_index (bytes_of_word (slice_index I (page_word_of P (slice_index pages (at / 4096)) (at % 4096 / 8)))) (at % 8 + k) ≡ file_byte P I pages (at + k)
unfolding page_byte word
bytes_from P I pages at k few =
    let page : at / 4096 ≡ (at + k) / 4096 = omega arith in
    let place : at % 4096 / 8 ≡ (at + k) % 4096 / 8 = omega arith in
    let byte : at % 8 + k ≡ (at + k) % 4096 % 8 = omega arith in
    slice_index-bytes_of_word (slice_index I (page_word_of P (slice_index pages (at / 4096)) (at % 4096 / 8))) (at % 8 + k) few
    ∙ ap (λ (p : ℕ). slice_index I (page_word_of P (slice_index pages p) (at % 4096 / 8)) / 256 ^ (at % 8 + k) % 256) page
    ∙ ap (λ (w : ℕ). slice_index I (page_word_of P (slice_index pages ((at + k) / 4096)) w) / 256 ^ (at % 8 + k) % 256) place
    ∙ ap (λ (b : ℕ). slice_index I (page_word_of P (slice_index pages ((at + k) / 4096)) ((at + k) % 4096 / 8)) / 256 ^ b % 256) byte

-- what is copied from such a word
pub part_of_word : (parts bytes part : List ℕ) (from count k : ℕ) → parts ≡ bytes → part ≡ take (from + count - from) (drop from parts) → k < count → slice_index part k ≡ slice_index bytes (from + k)
part_of_word parts bytes part from count k same is below =
    ap (λ (l : List ℕ). slice_index l k) is ∙ get_or-take (from + count - from) (drop from parts) k 0 (omega (arith, below)) ∙ get_or-drop from parts k 0 ∙ ap (λ (l : List ℕ). slice_index l (from + k)) same

pub length-put_word : (before parts : List ℕ) (start count : ℕ) → length parts ≡ count → start + count ≤ length before → length (put_mid start count before parts) ≡ length before
length-put_word before parts start count eight inside =
    let front = length-take start before in
    let rest = length-drop count (drop start before) in
    let behind = length-drop start before in
    let inner = length-append parts (post_of start count before) in
    let outer = length-append (take start before) (parts ++ post_of start count before) in
    omega (arith, front, rest, behind, inner, outer, eight, inside)

-- words of a page from one on, up to its end, are the device's
pub words_within : (P page place count start : ℕ) → page < data_pages_of P → place + count ≤ 512 → start ≡ page_word_of P page place → start + count ≤ 512 * P
unfolding page_word_of
words_within P page place count start low few at =
    let last = page_word_within P page 511 low (omega arith) in
    omega (arith, last, few, at)

-- the bytes of words of a page are those of the page
pub bytes_of_page : (P : ℕ) (I words : List ℕ) (page place start count k : ℕ) → start ≡ page_word_of P page place → words ≡ take count (drop start I) → k / 8 < count
    → slice_index (bytes_of_words words) k ≡ page_byte P I page (8 * place + k)
unfolding page_byte byte_of word page_word_of
bytes_of_page P I words page place start count k at is below =
    let word_at : start + k / 8 ≡ page_word_of P page ((8 * place + k) / 8) = omega (arith, at) in
    let byte_at : k % 8 ≡ (8 * place + k) % 8 = omega arith in
    get_or-bytes_of_words words k
    ∙ ap (λ (l : List ℕ). slice_index l (k / 8) / 256 ^ (k % 8) % 256) is
    ∙ ap (λ (w : ℕ). w / 256 ^ (k % 8) % 256) (get_or-take count (drop start I) (k / 8) 0 below ∙ get_or-drop start I (k / 8) 0)
    ∙ ap (λ (w : ℕ). slice_index I w / 256 ^ (k % 8) % 256) word_at
    ∙ ap (λ (b : ℕ). slice_index I (page_word_of P page ((8 * place + k) / 8)) / 256 ^ b % 256) byte_at

-- and of the file, up to the page's end
pub byte_in_page : (P : ℕ) (I pages : List ℕ) (at j : ℕ) → at % 8 ≡ 0 → at % 4096 + j < 4096
    → page_byte P I (slice_index pages (at / 4096)) (8 * (at % 4096 / 8) + j) ≡ file_byte P I pages (at + j)
byte_in_page P I pages at j begins inside =
    let page : at / 4096 ≡ (at + j) / 4096 = omega (arith, inside) in
    let byte : 8 * (at % 4096 / 8) + j ≡ (at + j) % 4096 = omega (arith, begins, inside) in
    ap (λ (p : ℕ). page_byte P I (slice_index pages p) (8 * (at % 4096 / 8) + j)) page ∙ ap (λ (b : ℕ). page_byte P I (slice_index pages ((at + j) / 4096)) b) byte

-- so many more bytes of a buffer
pub more_bytes : (P : ℕ) (I pages before parts : List ℕ) (offset start count : ℕ) → length parts ≡ count → start ≤ length before
    → ((k : ℕ) → k < start → slice_index before k ≡ file_byte P I pages (offset + k))
    → ((k : ℕ) → k < count → slice_index parts k ≡ file_byte P I pages (offset + start + k))
    → (k : ℕ) → k < start + count → slice_index (put_mid start count before parts) k ≡ file_byte P I pages (offset + k)
more_bytes P I pages before parts offset start count long inside so_far here k below =
    let front = length-take start before in
    elim (cases_lt k start) [
      | inl low ↦ get_or_append_left (take start before) (parts ++ post_of start count before) 0 k (omega (arith, front, inside, low)) ∙ get_or-take start before k 0 low ∙ so_far k low
      | inr high ↦
          let at : offset + start + (k - start) ≡ offset + k = omega (arith, high) in
          get_or-append_right (take start before) (parts ++ post_of start count before) start k 0 (omega (arith, front, inside)) high
          ∙ get_or_append_left parts (post_of start count before) 0 (k - start) (omega (arith, long, below, high))
          ∙ here (k - start) (omega (arith, below, high))
          ∙ ap (λ (o : ℕ). file_byte P I pages o) at
    ]
