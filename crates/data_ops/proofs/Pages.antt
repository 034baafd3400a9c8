-- Pages of files: those that a volume has of one, those that are free, and pages that get an owner, or lose it or the rest of their
-- descriptors; and the interval in which a size is stored.
use Rattle.std.proofs.Common.{◌≡◌, inl, ℕ, zero, suc, ◌+◌, ◌<◌, List, [], ◌∷◌, length, slice_index, get_or, refl, sym, ap, subst, ◌∙◌, arith, inr, Contains, ◌*◌, ◌≤◌, set, Option, ◌≢◌, ◌==◌, Bool, true, false, nat_lt, Some, None}
use Rattle.std.proofs.lemmas.Grind.{get_or_default_zero}
use Rattle.std.proofs.lemmas.List.Elements.{Contains-get_or}
use Rattle.std.proofs.lemmas.Option.{slice_get-get_or}
use Rattle.std.proofs.lemmas.Bool.{cases_eq, lt-ltb}
use Rattle.std.specs.Prelude.{Result, Ok}
use Rattle.std.proofs.lemmas.Bool.Decides.{nat_tests}
use Rattle.std.proofs.lemmas.List.{get_or_default}
use Rattle.pm_trait.specs.DeviceView.{DeviceView, Performs, Stores, IsSettledView, Fences, StoresAndFences}
use Rattle.pm_trait.specs.Trail.{Trail}
use Rattle.pm_trait.specs.Device.{IsFlushed, IsClean, IsSettledAt, IsInterval}
use Rattle.pm_trait.specs.declared.event.Event.TheVariants.{Store, Flush}
use Rattle.pm_trait.proofs.DeviceViewLaws.{store_stores, flush_stores, stores_flushed, stores_weaker}
use Rattle.pm_trait.specs.declared.event.PmFault.{PmFault}
use Rattle.pm_trait.specs.declared.event.Event.{Event}
use Rattle.pm_trait.proofs.DeviceLaws.{interval_keeps, interval_length}
use Rattle.pm_trait.specs.Unfolds.{Fenced}
use Rattle.pm_trait.proofs.Unfolding.{interval_ends}
use Rattle.fence_token.specs.Stored.{StoresExactly}
use Rattle.fence_token.proofs.StoredLaws.{exactly_stores, flushes_stores}
use Rattle.layout.specs.Fields.{descriptor_fields, descriptor_words, inode_size, page_kind, page_offset, word, page_owner}
use Rattle.layout.proofs.Widths.{descriptor_words_written}
use Rattle.page_state.proofs.Releases.{zero_field, not_released}
use Rattle.layout.specs.Geometry.{descriptor_word_of, IsVolumeSize, inodes_of, inode_word_of, data_pages_of}
use Rattle.layout.specs.declared.fields.DescriptorFields.{DescriptorFields}
use Rattle.inode_state.specs.Inode.{IsInodeWord, fields_at}
use Rattle.inode_state.proofs.InodeLaws.{inode_word_in_volume, same_fields_at}
use Rattle.page_state.specs.Page.{descriptor_of, PageView, PageIsDirty, AreDataPages, EachPage, OfSome, IsOwnWord, IsOwnerWord, IsReleasedWord, IsWithoutKind, SayFields, fields_of_page, pages_at}
use Rattle.page_state.proofs.PageLaws.{same_descriptor_fields, own_word_within}
use Rattle.page_state.specs.States.{IsFree, free_fields, IsFilled, IsLive, IsReleased}
use Rattle.page_state.specs.Events.{FlushesPages}
use Rattle.page_state.specs.declared.page.Touched.TheVariants.{Descriptors}
use Rattle.tree_model.specs.Run.{State}
use Rattle.tree_model.specs.PathText.{Route}
use Rattle.tree_model.specs.Tree.{Node, id_at, is_file_node, bytes_of, bytes_of_node}
use Rattle.tree_model.specs.Accepted.{IsFileAt}
use Rattle.tree_model.proofs.TreeKept.{same_some}
use Rattle.image_reading.specs.Counts.{IsDistinct}
use Rattle.image_reading.specs.Reading.{HasBytes, Reached, pages_of_size, ReadsAs}
use Rattle.image_reading.specs.Residue.{Residue, no_residue}
use Rattle.image_reading.specs.Soundness.{Rule}
use Rattle.image_reading.proofs.Counts.{count_one}
use Rattle.image_reading.specs.Repairs.{IsLitterPage}
use Rattle.image_reading.specs.Tidy.{Tidy}
use Rattle.image_reading.proofs.Tidied.{tidied}
use Rattle.image_counts.specs.Entries.{IsPageIn, IsFreePage}
use Rattle.image_counts.proofs.Beside.{file_pages_beside_law}
use Rattle.image_counts.proofs.Tidied.{page_count_law}
use Rattle.image_counts.proofs.Nodes.{size_law}
use Rattle.image_laws.specs.Drop.{GivesPages}
use Rattle.content_laws.specs.Growth.{sized, TakesPages}
use Rattle.content_laws.specs.Cut.{ClearsPages}
use Rattle.volatile_index.specs.Index.{pages_of}
use Rattle.volume.specs.Volume.{VolumeView}
use Rattle.volume.specs.Beside.{StandsBeside, IsUntouched}
use Rattle.volume.proofs.PageLists.{contained_in, listed_is_in, in_is_listed, pages_counted_beside}
use Rattle.volume.proofs.WalkedBeside.{in_table}
use Rattle.volume.specs.Stands.{StandsFor}
use Rattle.volume.proofs.Beside.{stands_beside, untouched_nothing}
use Rattle.volume.proofs.Walked.{reached_at}
use Rattle.entry_steps.proofs.Counts.{none_of}
use Rattle.entry_steps.proofs.Zeros.{zero_descriptor}
use Rattle.data_ops.specs.Files.{HasPages, AreFree, AreBytesFrom}

-- ---- the pages that a volume has of a file, beside calls that run

-- a list in which each number stands once has it in one place
pub same_place : (xs : List ℕ) → IsDistinct xs → (k l : ℕ) → k < length xs → l < length xs → get_or xs k 0 ≡ get_or xs l 0 → k ≡ l
same_place [] once k l low high e = absurd (omega (arith, low))
same_place (x ∷ xs) once zero zero low high e = refl
same_place (x ∷ xs) once zero (suc l) low high e =
    let there : l < length xs = omega (arith, high) in
    absurd (once.0 (contained_in x xs (l, there, get_or_default_zero xs l x there ∙ sym e)))
same_place (x ∷ xs) once (suc k) zero low high e =
    let there : k < length xs = omega (arith, low) in
    absurd (once.0 (contained_in x xs (k, there, get_or_default_zero xs k x there ∙ e)))
same_place (x ∷ xs) once (suc k) (suc l) low high e = ap suc (same_place xs once.1 k l (omega (arith, low)) (omega (arith, high)) e)

module _ (volume : VolumeView) (device : DeviceView) (state : State) (residue : Residue) (stands : StandsBeside volume device state residue) (i : ℕ)
    (untouched : IsUntouched volume device.words residue i) (reached : Reached volume.size device.words i) (file : HasBytes device.words i) where
  abbrev pages : List ℕ
  pages = pages_of volume.index i

  held : (k : ℕ) → k < length pages → IsPageIn volume.size device.words i (slice_index pages k)
  held k low =
      let (least, most) = in_table volume device i (state, residue, stands) reached in
      listed_is_in volume device state residue stands i untouched least most (slice_index pages k) (Contains-get_or pages k 0 low)

  kind_is : (k : ℕ) → k < length pages → page_kind volume.size device.words (slice_index pages k) ≡ 1
  kind_is k low =
      let page = slice_index pages k in
      let is = held k low in
      (stands.sound.coherent Rule.page_kinds page).file is.in_range
      (subst (λ (x : ℕ). Reached volume.size device.words x) (sym is.owner) reached) (subst (λ (x : ℕ). HasBytes device.words x) (sym is.owner) file)

  fields_are : (k : ℕ) → k < length pages → descriptor_of volume.size device.words (slice_index pages k) ≡ record { owner = i; kind = 1; offset = 0 + k }
  fields_are k low =
      let at : page_offset volume.size device.words (slice_index pages k) ≡ k = stands.knows.nodes.offsets i k (slice_index pages k) reached file (λ left. untouched.listed (slice_index pages k) left (Contains-get_or pages k 0 low)) (slice_get-get_or pages k 0 low) in
      same_descriptor_fields (descriptor_of volume.size device.words (slice_index pages k)) (record { owner = i; kind = 1; offset = 0 + k }) (held k low).owner (kind_is k low) (omega (arith, at))

  -- what a volume has of a file that no running call touches are its pages
  pub has_pages_beside : HasPages volume.size device.words i pages
  has_pages_beside =
      let (least, most) = in_table volume device i (state, residue, stands) reached in
      record {
        least = least;
        most = most;
        live = (inl file, (stands.sound.coherent Rule.kinds i).own reached);
        file = file;
        bytes = record {
          in_range = record { each = λ k low. (held k low).in_range };
          distinct = record { each = same_place pages (stands.knows.nodes.once i least most) };
          each = fields_are;
        };
        all = in_is_listed volume device state residue stands i untouched least most;
        count = count_one (IsPageIn volume.size device.words i) (length pages) (pages_of_size (inode_size device.words i)) (pages_counted_beside volume device state residue stands i untouched least most)
            (file_pages_beside_law volume.size device.words residue state (record { coherent = stands.sound.coherent; beside = stands.beside; reads = stands.reads }) i reached file untouched.apart);
      }

-- ---- the pages of a file where no call runs, and free pages

-- what a volume that stands has of a file are its pages
pub has_pages : (volume : VolumeView) (device : DeviceView) (state : State) → StandsFor volume device state → (i : ℕ) → Reached volume.size device.words i → HasBytes device.words i
    → HasPages volume.size device.words i (pages_of volume.index i)
has_pages volume device state stands i reached file = has_pages_beside volume device state no_residue (stands_beside stands) i (untouched_nothing volume device.words i) reached file

-- the descriptor of a page without an owner is free
pub free_descriptor : (P : ℕ) (W : List ℕ) (state : State) → Tidy P W → ReadsAs P W state → (page : ℕ) → IsFreePage P W page → IsFree (descriptor_of P W page)
free_descriptor P W state tidy reads page free =
    zero_descriptor P W page (λ f lt. elim (cases_eq (word W (descriptor_word_of P page f)) 0) [
      | inl is ↦ is
      | inr ne ↦ absurd (none_of (IsLitterPage P W) page tidy.repaired.of_pages
          (record { in_range = free.0; free = λ kept. ((page_count_law P W state (tidied tidy) reads).kept page free.0).0 kept free.1; nonzero = (f, omega (arith, lt, descriptor_words_written W), ne) }))
    ])

-- distinct pages without an owner are free ones
pub are_free : (P : ℕ) (W : List ℕ) (state : State) (pages : List ℕ) → Tidy P W → ReadsAs P W state → IsDistinct pages → ((page : ℕ) → Contains pages page → IsFreePage P W page) → AreFree P W pages
are_free P W state pages tidy reads once each = record {
  in_range = record { each = λ k low. (each (slice_index pages k) (Contains-get_or pages k 0 low)).0 };
  distinct = record { each = same_place pages once };
  free = record { each = λ k low. free_descriptor P W state tidy reads (slice_index pages k) (each (slice_index pages k) (Contains-get_or pages k 0 low)) };
}

-- What an accepted command found of its file: its pages, and so many bytes.
pub record IsFileOf (volume : VolumeView) (device : DeviceView) (state : State) (i : ℕ) : Type 0 where
  pub reached : Reached volume.size device.words i
  pub file : HasBytes device.words i
  pub held : HasPages volume.size device.words i (pages_of volume.index i)
  pub size : inode_size device.words i ≡ length (bytes_of state.tree i)

pub found_file : (volume : VolumeView) (device : DeviceView) (state : State) (path : Route) (i : ℕ) → StandsFor volume device state → IsFileAt state.tree path → id_at state.tree path ≡ Some i → IsFileOf volume device state i
found_file volume device state path i stands source named =
    let sizes = size_law volume.size device.words state (tidied stands.tidy).coherent stands.reads in
    let reached = reached_at volume device state path source.id stands source.named in
    let file = ((sizes.files source.id).0 (ap is_file_node source.file)).1 in
    subst (IsFileOf volume device state) (same_some source.id i (sym source.named ∙ named)) (record {
      reached = reached;
      file = file;
      held = has_pages volume device state stands source.id reached file;
      size = sym (sizes.sizes source.id source.bytes source.file) ∙ sym (ap (λ (o : Option Node). length (bytes_of_node o)) source.file);
    })

-- ---- fields whose words stay

pub kept_fields : (i : ℕ) (W A : List ℕ) → ((f : ℕ) → f < 16 → word A (inode_word_of i f) ≡ word W (inode_word_of i f)) → fields_at A i ≡ fields_at W i
unfolding word
kept_fields i W A kept = same_fields_at i W A (λ a is.
    let few = is.is_field in
    ap (λ (k : ℕ). slice_index A k) is.at ∙ kept is.field (omega (arith, few)) ∙ ap (λ (k : ℕ). slice_index W k) (sym is.at))

pub kept_descriptor : (P : ℕ) (W A : List ℕ) (page : ℕ) → ((f : ℕ) → f < descriptor_fields → word A (descriptor_word_of P page f) ≡ word W (descriptor_word_of P page f)) → descriptor_of P A page ≡ descriptor_of P W page
unfolding page_owner page_kind page_offset
kept_descriptor P W A page kept = same_descriptor_fields (descriptor_of P A page) (descriptor_of P W page) (kept 0 (omega arith)) (kept 1 (omega arith)) (kept 2 (omega arith))

-- pages of an owner are none of those that have none
pub owned_apart : (P : ℕ) (I : List ℕ) (i first : ℕ) (olds news : List ℕ) → 1 ≤ i → AreBytesFrom P I i first olds → EachPage news (λ page. page_owner P I page ≡ 0) → (n : ℕ) → n < length olds → ¬ Contains news (slice_index olds n)
owned_apart P I i first olds news least from none n low (m, inside, is) =
    let here : slice_index news m ≡ slice_index olds n = get_or_default news m 0 (slice_index olds n) inside ∙ is in
    let moved = ap (page_owner P I) here in
    let owned = ap (λ (d : DescriptorFields). d.owner) (from.each n low) in
    let free = none.each m inside in
    omega (arith, moved, owned, free, least)

-- ---- the interval in which a file's size is stored

-- on a settled device its words are clean
pub inode_settled : {now : List ℕ} {trail : Option Trail} (P i : ℕ) → IsVolumeSize P → 1 ≤ i → i ≤ inodes_of P → length now ≡ 512 * P → IsSettledAt now trail → (word : ℕ) → IsInodeWord i word → IsClean now trail word
inode_settled P i size least most whole settled word is = let within = inode_word_in_volume P i word size least most is in settled.each word (omega (arith, within, whole))

-- its store and the flush of its line
pub size_stored : {a b c : DeviceView} {value line : ℕ} (i n : ℕ) → n ≡ i → Performs a b (Store (inode_word_of n 2) value ∷ []) → Performs b c (Flush line ∷ []) → Stores (λ word. word ≡ inode_word_of i 2) a c 2
size_stored {a} {c = c} i n same stored flush = subst (λ (k : ℕ). Stores (λ word. word ≡ inode_word_of k 2) a c 2) same (stores_flushed (store_stores stored) (flush_stores flush))

pub size_flushed : {trail : Option Trail} (i n : ℕ) → n ≡ i → ((word : ℕ) → IsInodeWord n word → IsFlushed trail word) → (word : ℕ) → word ≡ inode_word_of i 2 → IsFlushed trail word
size_flushed i n same flushed word is = flushed word (record { field = 2; is_field = omega arith; at = is ∙ ap (λ (k : ℕ). inode_word_of k 2) (sym same) })

-- the words have that size
pub sized_is : (B J : List ℕ) (i n z : ℕ) → n ≡ i → J ≡ set B (inode_word_of n 2) z → J ≡ sized B i z
sized_is B J i n z same is = is ∙ ap (λ (k : ℕ). set B (inode_word_of k 2) z) same

-- ---- pages that get an owner, or lose it or the rest of their descriptors

-- on a settled device their words are clean
pub pages_settled : (P : ℕ) (pages now : List ℕ) (trail : Option Trail) → IsVolumeSize P → EachPage pages (λ page. page < data_pages_of P) → length now ≡ 512 * P → IsSettledAt now trail
    → (word : ℕ) → OfSome pages (IsOwnWord P) word → IsClean now trail word
pages_settled P pages now trail size in_range whole settled word some =
    let within = own_word_within P (slice_index pages some.index) word size (in_range.each some.index some.before) some.is in
    settled.each word (omega (arith, within, whole))

-- ---- pages of a file, in the order of their offsets

pub record CanTake (P count : ℕ) (I pages : List ℕ) : Type 0 where
  pub data_pages : AreDataPages count pages
  pub alike : SayFields P pages (descriptor_of P I (slice_index pages 0)) I

module _ (P : ℕ) (I : List ℕ) (owner first : ℕ) (pages : List ℕ) (from : AreBytesFrom P I owner first pages) where
  -- what their object asks for, but for the state of each
  pub can_take : (count : ℕ) → count ≡ data_pages_of P → 0 < length pages → CanTake P count I pages
  can_take count exact some = record {
    data_pages = record { some = some; in_range = subst (λ (n : ℕ). EachPage pages (λ page. page < n)) (sym exact) from.in_range; distinct = from.distinct };
    alike = record {
      each = λ k low.
          let behind : first + k ≡ first + 0 + k = omega arith in
          from.each k low ∙ ap (λ (n : ℕ). let fields : DescriptorFields = record { owner = owner; kind = 1; offset = n } in fields) behind ∙ sym (ap (λ (fields : DescriptorFields). fields_of_page fields k) (from.each 0 some));
    };
  }

  pub all_filled : owner ≡ 0 → EachPage pages (λ page. IsFilled (descriptor_of P I page))
  all_filled none = record { each = λ k low. subst (λ (fields : DescriptorFields). IsFilled fields) (sym (from.each k low)) (none, inl refl) }

  pub all_live : owner ≢ 0 → EachPage pages (λ page. IsLive (descriptor_of P I page))
  all_live some = record { each = λ k low. subst (λ (fields : DescriptorFields). IsLive fields) (sym (from.each k low)) (some, inl refl) }

  pub all_released : owner ≡ 0 → EachPage pages (λ page. IsReleased (descriptor_of P I page))
  all_released none = record { each = λ k low. subst (λ (fields : DescriptorFields). IsReleased fields) (sym (from.each k low)) (none, inl refl) }

-- ---- owners

module _ {a b : List ℕ} {ta tb : Option Trail} (P i : ℕ) (pages : List ℕ) (run : IsInterval (OfSome pages (IsOwnerWord P)) a ta b tb) (all : EachPage pages (λ j. page_owner P b j ≡ i)) where
  each_owner : (j : ℕ) → Contains pages j → page_owner P b j ≡ i
  each_owner j (k, low, is) = subst (λ (p : ℕ). page_owner P b p ≡ i) (get_or_default pages k 0 j low ∙ is) (all.each k low)

  no_owner : (w : ℕ) → ((j : ℕ) → Contains pages j → w ≢ descriptor_word_of P j 0) → ¬ OfSome pages (IsOwnerWord P) w
  no_owner w out some = out (slice_index pages some.index) (Contains-get_or pages some.index 0 some.before) some.is

  pub pages_taken : (d : List ℕ) → d ≡ b → TakesPages P a d i pages
  unfolding word
  pages_taken d same = subst (λ (l : List ℕ). TakesPages P a l i pages) (sym same) (record {
    size = interval_length run;
    owners = each_owner;
    others = λ w out. interval_keeps w run (no_owner w out);
  })

pub pages_given : {a b : List ℕ} {ta tb : Option Trail} (P : ℕ) (pages : List ℕ) → IsInterval (OfSome pages (IsOwnerWord P)) a ta b tb → EachPage pages (λ j. page_owner P b j ≡ 0) → (d : List ℕ) → d ≡ b → GivesPages P a d (Contains pages)
pages_given P pages run all d same = let taken = pages_taken P 0 pages run all d same in record { size = taken.size; owners = taken.owners; others = taken.others }

-- ---- the rest of descriptors

module _ {a b : List ℕ} {ta tb : Option Trail} (P : ℕ) (pages : List ℕ) (run : IsInterval (OfSome pages (IsReleasedWord P)) a ta b tb) (all : EachPage pages (IsWithoutKind P b)) where
  each_rest : (j f : ℕ) → Contains pages j → 1 ≤ f → f < descriptor_words a → word b (descriptor_word_of P j f) ≡ 0
  each_rest j f (k, low, is) some few = subst (λ (p : ℕ). word b (descriptor_word_of P p f) ≡ 0) (get_or_default pages k 0 j low ∙ is) (zero_field a P (slice_index pages k) b f (all.each k low) some few)

  no_rest : (w : ℕ) → ((j f : ℕ) → Contains pages j → 1 ≤ f → f < descriptor_words a → w ≢ descriptor_word_of P j f) → ¬ OfSome pages (IsReleasedWord P) w
  no_rest w out some = not_released a P (slice_index pages some.index) w (λ f. out (slice_index pages some.index) f (Contains-get_or pages some.index 0 some.before)) some.is

  pub pages_cleared : (d : List ℕ) → d ≡ b → ClearsPages P a d (Contains pages)
  unfolding word
  pages_cleared d same = subst (λ (l : List ℕ). ClearsPages P a l (Contains pages)) (sym same) (record {
    size = interval_length run;
    rests = each_rest;
    others = λ w out. interval_keeps w run (no_rest w out);
  })

-- what dirty pages say that are free
pub dirty_rests : {device : DeviceView} (view : PageView) → view.fields ≡ free_fields → PageIsDirty view device → EachPage view.pages (IsWithoutKind view.volume_pages device.words)
dirty_rests view free dirty = record {
  each = λ index inside.
      let says = dirty.stands.reads.each index inside ∙ ap (λ (fields : DescriptorFields). fields_of_page fields index) free in
      record { kind = ap (λ (fields : DescriptorFields). fields.kind) says; offset = ap (λ (fields : DescriptorFields). fields.offset) says };
}

-- ---- where there are none

pub none_taken : (P i : ℕ) (I pages : List ℕ) → length pages ≡ 0 → TakesPages P I I i pages
none_taken P i I pages none = record {
  size = refl;
  owners = λ j there. let (k, low, is) = there in absurd (omega (arith, low, none));
  others = λ w out. refl;
}

pub none_given : (P : ℕ) (I pages : List ℕ) → length pages ≡ 0 → GivesPages P I I (Contains pages)
none_given P I pages none = let taken = none_taken P 0 I pages none in record { size = taken.size; owners = taken.owners; others = taken.others }

pub none_cleared : (P : ℕ) (I pages : List ℕ) → length pages ≡ 0 → ClearsPages P I I (Contains pages)
none_cleared P I pages none = record {
  size = refl;
  rests = λ j f there some few. let (k, low, is) = there in absurd (omega (arith, low, none));
  others = λ w out. refl;
}

test_none : (n : ℕ) → n ≡ 0 → nat_lt 0 n ≡ false
test_none n none = grind (arith, nat_tests)

-- whether there are pages, as it was tested
pub some_pages : (pages : List ℕ) (b : Bool) → b ≡ (length pages == 0) → b ≡ false → 0 < length pages
some_pages pages b is test = grind (arith, nat_tests)

pub no_pages : (pages : List ℕ) (b : Bool) → b ≡ (length pages == 0) → b ≡ true → length pages ≡ 0
no_pages pages b is test = grind (arith, nat_tests)

-- ---- an interval over words of the pages' descriptors, from the object as it was taken to the fence

module _ (Q : ℕ → ℕ → ℕ → Type 0) (own : (P page word : ℕ) → Q P page word → IsOwnWord P page word) (W : List ℕ) {P : ℕ} {pages : List ℕ} {fields : DescriptorFields} {before after : PageView} (before_is : before ≡ pages_at P pages W)
    (after_is : after ≡ record before { fields = fields; touched = Descriptors; ticket = None }) {a b : DeviceView} {events : List Event} {taken : ℕ} (each : ℕ) (one : taken ≤ each * length before.pages)
    (run : StoresExactly (OfSome before.pages (Q before.volume_pages)) a b events taken) where
  run_at : StoresExactly (OfSome pages (Q P)) a b events taken
  run_at = subst (λ (v : PageView). StoresExactly (OfSome v.pages (Q v.volume_pages)) a b events taken) before_is run

  after_at : after ≡ record (pages_at P pages W) { fields = fields; touched = Descriptors; ticket = None }
  after_at = after_is ∙ ap (λ (v : PageView). record v { fields = fields; touched = Descriptors; ticket = None }) before_is

  pub of_object : IsInterval (OfSome pages (Q P)) a.words a.trail b.words b.trail
  of_object = run_at.interval

  pub each_of_object : (R : ℕ → ℕ → Type 0) → EachPage after.pages (R after.volume_pages) → EachPage pages (R P)
  each_of_object R all = subst (λ (v : PageView). EachPage v.pages (R v.volume_pages)) after_at all

  pub object_fenced : {T E : Type 0} {c d : DeviceView} → FlushesPages after.volume_pages after.pages after.touched b c → (result : Result T E) (count : ℕ) → (each + 1) * length pages ≤ count → IsSettledView a → ((word : ℕ) → OfSome after.pages (IsOwnWord after.volume_pages) word → IsFlushed c.trail word)
      → Fences c d result → StoresAndFences a d (count + 1) result
  object_fenced {c = c} flushes result count few settled flushed fence =
      let most = subst (λ (v : PageView). taken ≤ each * length v.pages) before_is one in
      interval_ends result settled
      (stores_weaker count (λ word is. is) (omega (arith, most, few)) (stores_flushed (exactly_stores run_at) (flushes_stores (subst (λ (v : PageView). FlushesPages v.volume_pages v.pages v.touched b c) after_at flushes))))
      (λ word some. subst (λ (v : PageView). (x : ℕ) → OfSome v.pages (IsOwnWord v.volume_pages) x → IsFlushed c.trail x) after_at flushed word
      (record { index = some.index; before = some.before; is = own P (slice_index pages some.index) word some.is })) fence

-- ---- a step over pages, where there are any

pub some_fenced : {T E : Type 0} {a b : DeviceView} {result : Result T E} (pages : List ℕ) (events : ℕ) (t : Bool) → t ≡ (length pages == 0) → t ≡ false → StoresAndFences a b events result → Fenced (nat_lt 0 (length pages)) events a b result
some_fenced {a = a} {b} {result} pages events t is test one = subst (λ (some : Bool). Fenced some events a b result) (sym (lt-ltb 0 (length pages) (some_pages pages t is test))) one

pub none_fenced : (device : DeviceView) (pages : List ℕ) (events : ℕ) (t : Bool) → t ≡ (length pages == 0) → t ≡ true → Fenced {T = Unit {0}} {E = PmFault} (nat_lt 0 (length pages)) events device device (Ok tt)
none_fenced device pages events t is test = subst (λ (some : Bool). Fenced {T = Unit {0}} {E = PmFault} some events device device (Ok tt)) (sym (test_none (length pages) (no_pages pages t is test))) (refl, refl)
