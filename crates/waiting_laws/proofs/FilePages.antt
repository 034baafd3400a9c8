-- The pages that a volume has of a file, and new pages, as the calls on files ask for them; beside other calls.
use Rattle.std.proofs.Common.{◌≡◌, inl, inr, ℕ, zero, suc, ◌+◌, ◌<◌, ◌≤◌, true, List, [], ◌∷◌, ◌++◌, length, slice_index, get_or, refl, sym, ap, subst, ◌∙◌, arith}
use Rattle.std.specs.Prelude.{Contains, Some, Option, slice_get}
use Rattle.std.proofs.lemmas.Bool.{cases_eq}
use Rattle.std.proofs.lemmas.Grind.{get_or_default_zero}
use Rattle.std.proofs.lemmas.Option.{slice_get-get_or}
use Rattle.std.proofs.lemmas.List.Elements.{Contains-get_or}
use Rattle.pm_trait.specs.DeviceView.{DeviceView}
use Rattle.layout.specs.declared.fields.DescriptorFields.{DescriptorFields}
use Rattle.layout.specs.Fields.{word, descriptor_fields, inode_size, page_owner, page_kind, page_offset}
use Rattle.layout.specs.Geometry.{inodes_of, descriptor_word_of}
use Rattle.layout.proofs.Widths.{descriptor_field_read}
use Rattle.tree_model.specs.Accepted.{IsFileAt}
use Rattle.tree_model.specs.PathText.{Route}
use Rattle.tree_model.specs.Run.{State}
use Rattle.tree_model.specs.Step.{id_of}
use Rattle.tree_model.specs.Tree.{Node, node_at, id_at, is_file, is_file_node, bytes_of, bytes_of_node}
use Rattle.tree_model.proofs.TreeKept.{same_some}
use Rattle.image_reading.specs.Counts.{IsDistinct}
use Rattle.image_reading.specs.Reading.{HasBytes, Reached, pages_of_size}
use Rattle.image_reading.specs.Repairs.{IsKept}
use Rattle.image_reading.specs.Residue.{Residue}
use Rattle.image_reading.specs.Soundness.{Rule}
use Rattle.image_reading.proofs.Counts.{count_one}
use Rattle.image_counts.specs.Entries.{IsPageIn, IsUnusedDataPage}
use Rattle.image_counts.specs.Laws.{HasSizes}
use Rattle.image_counts.proofs.Beside.{file_pages_beside_law}
use Rattle.image_counts.proofs.Nodes.{size_law}
use Rattle.image_laws.proofs.Paths.{reached_pos}
use Rattle.content_laws.proofs.Lists.{contains_at}
use Rattle.weave_laws.specs.Beside.{KeepsPage, HasPagesOf}
use Rattle.weave_laws.specs.Waiting.{AreInOrder}
use Rattle.weave_laws.proofs.FreeBeside.{unused_tidy}
use Rattle.volatile_index.specs.Index.{pages_of}
use Rattle.volume.specs.Volume.{VolumeView}
use Rattle.volume.specs.Beside.{StandsBeside, IsUntouched}
use Rattle.volume.proofs.PageLists.{contained_in, listed_is_in, in_is_listed, pages_counted_beside}
use Rattle.volume.proofs.WalkedBeside.{in_table}
use Rattle.entry_steps.proofs.Zeros.{zero_descriptor}
use Rattle.data_ops.specs.Files.{AreBytesFrom, HasPages, AreFree}
use Rattle.waiting_laws.specs.Beside.{Holding}
use Rattle.waiting_laws.specs.Growing.{file_held_by}

-- no bytes take no page
pub no_size : pages_of_size 0 ≡ 0
unfolding pages_of_size
no_size = refl

-- what a page's descriptor says
abbrev says_of : ℕ → List ℕ → ℕ → DescriptorFields
says_of P I j = record { owner = page_owner P I j; kind = page_kind P I j; offset = page_offset P I j }

-- two descriptors with the same fields are the same
same_fields : (one two : DescriptorFields) → one.owner ≡ two.owner → one.kind ≡ two.kind → one.offset ≡ two.offset → one ≡ two
same_fields one two owner kind offset = rw (owner, kind, offset) refl

-- a list in which each number stands once has it in one place
same_place : (xs : List ℕ) → IsDistinct xs → (k l : ℕ) → k < length xs → l < length xs → get_or xs k 0 ≡ get_or xs l 0 → k ≡ l
same_place [] once k l low high e = absurd (omega (arith, low))
same_place (x ∷ xs) once zero zero low high e = refl
same_place (x ∷ xs) once zero (suc l) low high e =
    let there : l < length xs = omega (arith, high) in
    absurd (once.0 (contained_in x xs (l, there, get_or_default_zero xs l x there ∙ sym e)))
same_place (x ∷ xs) once (suc k) zero low high e =
    let there : k < length xs = omega (arith, low) in
    absurd (once.0 (contained_in x xs (k, there, get_or_default_zero xs k x there ∙ e)))
same_place (x ∷ xs) once (suc k) (suc l) low high e = ap suc (same_place xs once.1 k l (omega (arith, low)) (omega (arith, high)) e)

-- words that keep pages of bytes say the same of them
pub bytes_still : (P : ℕ) (I J : List ℕ) (owner first : ℕ) (pages : List ℕ) → ((j : ℕ) → Contains pages j → KeepsPage P I J j) → AreBytesFrom P I owner first pages → AreBytesFrom P J owner first pages
bytes_still P I J owner first pages keeps from = record {
  in_range = from.in_range;
  distinct = from.distinct;
  each = λ k low.
      let j = slice_index pages k in
      let keep = keeps j (Contains-get_or pages k 0 low) in
      same_fields (says_of P J j) (says_of P I j) keep.owner keep.kind keep.offset ∙ from.each k low;
}

-- who holds a file with the same list holds the same
pub held_same : (old new : VolumeView) (i : ℕ) (pages : List ℕ) → pages_of new.index i ≡ pages_of old.index i → file_held_by new i pages ≡ file_held_by old i pages
held_same old new i pages same = ap (λ (l : List ℕ). let holding : Holding = record { slots = []; pages = l ++ pages; inodes = i ∷ [] } in holding) same

module _ (volume : VolumeView) (device : DeviceView) (state : State) (residue : Residue) (stands : StandsBeside volume device state residue) where
  abbrev P : ℕ
  P = volume.size

  abbrev I : List ℕ
  I = device.words

  sizes : HasSizes P I state.tree
  sizes = size_law P I state stands.sound.coherent stands.reads

  -- ---- a file of the tree

  module _ (i : ℕ) (is : is_file state.tree i ≡ true) where
    pub reached : Reached P I i
    reached = ((sizes.files i).0 is).0

    pub file : HasBytes I i
    file = ((sizes.files i).0 is).1

    pub in_inodes : (1 ≤ i) × (i ≤ inodes_of P)
    in_inodes = in_table volume device i (state, residue, stands) reached

    module _ (untouched : IsUntouched volume I residue i) where
      abbrev pages : List ℕ
      pages = pages_of volume.index i

      pub of_file : (j : ℕ) → Contains pages j → IsPageIn P I i j
      of_file = listed_is_in volume device state residue stands i untouched in_inodes.0 in_inodes.1

      page_at : (k : ℕ) → k < length pages → IsPageIn P I i (slice_index pages k)
      page_at k low = of_file (slice_index pages k) (Contains-get_or pages k 0 low)

      offset_at : (k j : ℕ) → slice_get pages k ≡ Some j → page_offset P I j ≡ k
      offset_at k j at = stands.knows.nodes.offsets i k j reached file (λ left. untouched.listed j left (contains_at pages k j at)) at

      says : (k : ℕ) → k < length pages → says_of P I (slice_index pages k) ≡ record { owner = i; kind = 1; offset = 0 + k }
      says k low =
          let j = slice_index pages k in
          let page = page_at k low in
          let kind = (stands.sound.coherent Rule.page_kinds j).file page.in_range (subst (Reached P I) (sym page.owner) reached) (subst (HasBytes I) (sym page.owner) file) in
          let at = offset_at k j (slice_get-get_or pages k 0 low) in
          same_fields (says_of P I j) (record { owner = i; kind = 1; offset = 0 + k }) page.owner kind (omega (arith, at))

      -- what a volume has of a file that no running call touches are its pages
      pub has_pages : HasPages P I i pages
      has_pages = record {
        least = in_inodes.0;
        most = in_inodes.1;
        live = (inl file, (stands.sound.coherent Rule.kinds i).own reached);
        file = file;
        bytes = record {
          in_range = record { each = λ k low. (page_at k low).in_range };
          distinct = record { each = same_place pages (stands.knows.nodes.once i in_inodes.0 in_inodes.1) };
          each = says;
        };
        all = in_is_listed volume device state residue stands i untouched in_inodes.0 in_inodes.1;
        count = count_one (IsPageIn P I i) (length pages) (pages_of_size (inode_size I i)) (pages_counted_beside volume device state residue stands i untouched in_inodes.0 in_inodes.1)
            (file_pages_beside_law P I residue state (record { coherent = stands.sound.coherent; beside = stands.beside; reads = stands.reads }) i reached file untouched.apart);
      }

      -- no page of the file is out of its list
      pub all_pages : HasPagesOf P I i pages
      all_pages k j page = contained_in j pages (has_pages.all j (record { in_range = page.in_range; owner = page.owner }))

      -- its pages stand in order, to its end
      pub in_order : AreInOrder P I pages 0 (inode_size I i)
      in_order = record {
        offsets = λ k j at. let none = no_size in let stood = offset_at k j at in omega (arith, none, stood);
        count = let none = no_size in let all = has_pages.count in omega (arith, none, all);
      }

  -- ---- the file that an accepted command finds at its path

  module _ (path : Route) (i : ℕ) (source : IsFileAt state.tree path) (named : id_at state.tree path ≡ Some i) where
    same : source.id ≡ i
    same = same_some source.id i (sym source.named ∙ named)

    node : node_at state.tree i ≡ Some (Node.File source.bytes)
    node = ap (node_at state.tree) (sym same) ∙ source.file

    pub id_found : id_of state.tree path ≡ i
    id_found = source.is ∙ same

    pub file_found : is_file state.tree i ≡ true
    file_found = ap is_file_node node

    pub size_found : inode_size I i ≡ length (bytes_of state.tree i)
    size_found = sym (sizes.sizes i source.bytes node) ∙ sym (ap (λ (o : Option Node). length (bytes_of_node o)) node)

  -- ---- new pages

  not_kept : (j : ℕ) → IsUnusedDataPage P I j → ¬ IsKept P I j
  not_kept j unused kept = elim kept [ inl page ↦ reached_pos P I (page_owner P I j) page.owner unused.1.0 | inr room ↦ reached_pos P I (page_owner P I j) room.reached unused.1.0 ]

  -- a page that none uses has a descriptor of zeros
  zero_word : (j : ℕ) → IsUnusedDataPage P I j → (f : ℕ) → f < descriptor_fields → word I (descriptor_word_of P j f) ≡ 0
  zero_word j unused f lt = elim (cases_eq (word I (descriptor_word_of P j f)) 0) [
    | inl is ↦ is
    | inr ne ↦ absurd (unused_tidy P I j residue stands.beside unused.1 (record { in_range = unused.0; free = not_kept j unused; nonzero = (f, descriptor_field_read I f lt, ne) }))
  ]

  pub are_free : (pages : List ℕ) → IsDistinct pages → ((j : ℕ) → Contains pages j → IsUnusedDataPage P I j) → AreFree P I pages
  are_free pages once unused = record {
    in_range = record { each = λ k low. (unused (slice_index pages k) (Contains-get_or pages k 0 low)).0 };
    distinct = record { each = same_place pages once };
    free = record { each = λ k low. zero_descriptor P I (slice_index pages k) (zero_word (slice_index pages k) (unused (slice_index pages k) (Contains-get_or pages k 0 low))) };
  }
