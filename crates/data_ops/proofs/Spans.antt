-- New bytes of a file in its pages, old and new ones: the intervals that write inside its size, and that fill it for a growth.
use Rattle.std.proofs.Common.{◌≡◌, ◌≢◌, ◌⊎◌, inl, inr, ℕ, ◌+◌, ◌-◌, ◌*◌, ◌/◌, ◌%◌, ◌<◌, ◌≤◌, Bool, true, false, cond, List, length, slice_index, refl, sym, ap, subst, ◌∙◌, arith, Option, nat_lt, drop, Some, min, length-drop, ◌^◌, take, None, length-take}
use Rattle.std.specs.Prelude.{nat_le, slice_get}
use Rattle.std.proofs.lemmas.List.{get_or_default, get_or-drop, get_or-take}
use Rattle.std.proofs.lemmas.Option.{slice_get_within, slice_get-get_or}
use Rattle.std.proofs.lemmas.List.Elements.{Contains-get_or}
use Rattle.std.proofs.Math.Seq.{take-length}
use Rattle.std.proofs.lemmas.Bool.{cases_lt, and_from, and_left, and_right, le-leb, lt-leb, lt-ltb, le-ltb}
use Rattle.pm_trait.specs.Trail.{Trail}
use Rattle.pm_trait.specs.Device.{IsInterval, IsFlushed, IsClean, IsSettledAt}
use Rattle.pm_trait.specs.DeviceView.{DeviceView, Stores}
use Rattle.pm_trait.proofs.DeviceLaws.{interval_keeps, interval_length, clean_stays, flushed_stays}
use Rattle.pm_trait.proofs.DeviceViewLaws.{stores_flushed, stores_weaker}
use Rattle.fence_token.proofs.StoredLaws.{exactly_stores, flushes_stores}
use Rattle.layout.specs.declared.fields.DescriptorFields.{DescriptorFields}
use Rattle.layout.specs.Geometry.{page_word_of, IsVolumeSize, data_pages_of, pieces}
use Rattle.layout.specs.Fields.{word, page_byte, inode_size}
use Rattle.layout.proofs.ByteLaws.{page_byte-kept}
use Rattle.layout.proofs.GeometryLaws.{same_page_word}
use Rattle.page_state.specs.declared.page.Touched.TheVariants.{Words, Whole}
use Rattle.page_state.specs.declared.span.FileSpan.{FileSpan}
use Rattle.page_state.specs.Spans.{is_in_range, byte_after, new_words, new_lines, span_of}
use Rattle.page_state.specs.Page.{OfSome, IsOwnWord, IsNewWordOf, descriptor_of, IsFilledWord, PageView, pages_at, PageIsDirty}
use Rattle.page_state.specs.Events.{HaveBytes, WritesSpan, FlushesPages, FillsBytes}
use Rattle.page_state.proofs.NewStores.{new_is_own}
use Rattle.page_state.proofs.Contents.{filled_is_own}
use Rattle.page_state.proofs.PageLaws.{own_words_apart, same_descriptor_of}
use Rattle.page_state.specs.Laws.{CountsNew}
use Rattle.page_state.proofs.Counted.{beyond_law, inside_law}
use Rattle.page_state.specs.States.{bytes_fields}
use Rattle.image_reading.specs.Reading.{IsPageOf, pages_of_size}
use Rattle.image_reading.proofs.FilePages.{page_from_place}
use Rattle.content_laws.specs.Range.{IsBeside, IsWrittenByte, WritesBelow, WritesTail}
use Rattle.content_laws.specs.Growth.{FillsFile, IsFillWord}
use Rattle.content_laws.specs.Inside.{WritesInside}
use Rattle.volume.specs.Costs.{span_events, page_events}
use Rattle.volume.specs.declared.plan.Writing.{Writing}
use Rattle.data_ops.specs.Files.{AreBytesFrom, HasPages, AreFree}
use Rattle.data_ops.specs.declared.grow.Growth.{Growth}
use Rattle.data_ops.specs.Growing.{MayFill, IsTailWord, old_page_events}
use Rattle.data_ops.specs.GrowthStages.{CanFill}
use Rattle.data_ops.specs.Writing.{StoresInside}
use Rattle.data_ops.specs.WriteStages.{CanOverwrite}
use Rattle.data_ops.proofs.Pages.{pages_settled}

-- ---- new bytes of a file in some of its pages

-- ---- one byte

range_true : (offset size at : ℕ) → offset ≤ at → at < offset + size → is_in_range offset size at ≡ true
range_true offset size at low high = and_from (nat_le offset at) (nat_lt at (offset + size)) (le-leb offset at low) (lt-ltb at (offset + size) high)

range_false : (offset size at : ℕ) → (at < offset) ⊎ (offset + size ≤ at) → is_in_range offset size at ≡ false
range_false offset size at (inl low) = and_left (nat_le offset at) (nat_lt at (offset + size)) (lt-leb offset at low)
range_false offset size at (inr high) = and_right (nat_le offset at) (nat_lt at (offset + size)) (le-ltb at (offset + size) high)

byte_new : (span : FileSpan) (bytes : List ℕ) (at old : ℕ) → span.offset ≤ at → at < span.offset + span.length → byte_after span bytes at old ≡ slice_index bytes (at - span.offset)
byte_new span bytes at old low high = ap (λ (t : Bool). cond t (slice_index bytes (at - span.offset)) (cond (nat_le span.zero_from at) 0 old)) (range_true span.offset span.length at low high)

byte_old : (span : FileSpan) (bytes : List ℕ) (at old : ℕ) → (at < span.offset) ⊎ (span.offset + span.length ≤ at) → at < span.zero_from → byte_after span bytes at old ≡ old
byte_old span bytes at old beside before =
    ap (λ (t : Bool). cond t (slice_index bytes (at - span.offset)) (cond (nat_le span.zero_from at) 0 old)) (range_false span.offset span.length at beside) ∙ ap (λ (t : Bool). cond t 0 old) (lt-leb span.zero_from at before)

byte_zero : (span : FileSpan) (bytes : List ℕ) (at old : ℕ) → (at < span.offset) ⊎ (span.offset + span.length ≤ at) → span.zero_from ≤ at → byte_after span bytes at old ≡ 0
byte_zero span bytes at old beside behind =
    ap (λ (t : Bool). cond t (slice_index bytes (at - span.offset)) (cond (nat_le span.zero_from at) 0 old)) (range_false span.offset span.length at beside) ∙ ap (λ (t : Bool). cond t 0 old) (le-leb span.zero_from at behind)

same_length : (span : FileSpan) (bytes : List ℕ) (at : ℕ) → span.length ≡ length bytes → IsBeside span.offset bytes at → (at < span.offset) ⊎ (span.offset + span.length ≤ at)
same_length span bytes at long (inl low) = inl low
same_length span bytes at long (inr high) = inr (omega (arith, long, high))

-- below the bytes that become zero it is the range's or the old one, and from there on the range's or zero
pub written_byte : (span : FileSpan) (bytes : List ℕ) (at old after : ℕ) → span.length ≡ length bytes → at < span.zero_from → after ≡ byte_after span bytes at old → IsWrittenByte span.offset bytes at old after
written_byte span bytes at old after long before is = record {
  new = λ inside. is ∙ byte_new span bytes at old inside.least (let below = inside.below in omega (arith, long, below));
  kept = λ beside. is ∙ byte_old span bytes at old (same_length span bytes at long beside) before;
}

pub zero_byte : (span : FileSpan) (bytes : List ℕ) (at old after : ℕ) → span.length ≡ length bytes → span.zero_from ≤ at → after ≡ byte_after span bytes at old → IsWrittenByte span.offset bytes at 0 after
zero_byte span bytes at old after long behind is = record {
  new = λ inside. is ∙ byte_new span bytes at old inside.least (let below = inside.below in omega (arith, long, below));
  kept = λ beside. is ∙ byte_zero span bytes at old (same_length span bytes at long beside) behind;
}

-- ---- a part of the pages of a file

-- Its pages are those of the list from this place on.
pub record IsPart (pages part : List ℕ) (first : ℕ) : Type 0 where
  pub below : (n : ℕ) → n < length part → first + n < length pages
  pub same : (n : ℕ) → n < length part → slice_index part n ≡ slice_index pages (first + n)

pub bytes_part : (P : ℕ) (I : List ℕ) (owner first : ℕ) (pages part : List ℕ) → AreBytesFrom P I owner 0 pages → IsPart pages part first → AreBytesFrom P I owner first part
bytes_part P I owner first pages part from is = record {
  in_range = record { each = λ n low. let there = from.in_range.each (first + n) (is.below n low) in let at = is.same n low in omega (arith, there, at) };
  distinct = record {
    each = λ n m low high same.
        let here = from.distinct.each (first + n) (first + m) (is.below n low) (is.below m high) (sym (is.same n low) ∙ same ∙ is.same m high) in
        omega (arith, here);
  };
  each = λ n low.
      ap (λ (page : ℕ). descriptor_of P I page) (is.same n low) ∙ from.each (first + n) (is.below n low)
      ∙ ap (λ (at : ℕ). let fields : DescriptorFields = record { owner = owner; kind = 1; offset = at } in fields) (let behind : 0 + (first + n) ≡ first + n = omega arith in behind);
}

module _ {P : ℕ} {W : List ℕ} {i : ℕ} {pages : List ℕ} (held : HasPages P W i pages) where
  -- a page of the file stands at its offset
  pub at_place : (k j : ℕ) → IsPageOf P W i k j → (k < length pages) × (slice_index pages k ≡ j)
  at_place k j page =
      let (m, low, is) = held.all j (record { in_range = page.in_range; owner = page.owner }) in
      let here : slice_index pages m ≡ j = get_or_default pages m 0 j low ∙ is in
      let at = ap (λ (d : DescriptorFields). d.offset) (held.bytes.each m low) in
      let moved = ap (λ (p : ℕ). (descriptor_of P W p).offset) here in
      let offset = page.offset in
      let same : m ≡ k = omega (arith, at, moved, offset) in
      (subst (λ (n : ℕ). n < length pages) same low, subst (λ (n : ℕ). slice_index pages n ≡ j) same here)

  pub page_at : (k : ℕ) → k < length pages → IsPageOf P W i k (slice_index pages k)
  page_at k low =
      let is = held.bytes.each k low in
      page_from_place (record {
        in_range = held.bytes.in_range.each k low;
        owner = ap (λ (d : DescriptorFields). d.owner) is;
        kind = ap (λ (d : DescriptorFields). d.kind) is;
        offset = let at = ap (λ (d : DescriptorFields). d.offset) is in omega (arith, at);
      })

  module _ (span : FileSpan) (bytes part : List ℕ) (is : IsPart pages part span.first) {b : List ℕ} {ta tb : Option Trail} (run : IsInterval (IsNewWordOf span P part) W ta b tb) (have : HaveBytes P part span bytes (page_byte P W) b) where
    pub byte_at : (o j : ℕ) → IsPageOf P W i (o / 4096) j → span.first ≤ o / 4096 → o / 4096 < span.first + length part → page_byte P b j (o % 4096) ≡ byte_after span bytes o (page_byte P W j (o % 4096))
    byte_at o j page low high =
        let n = o / 4096 - span.first in
        let inside : n < length part = omega (arith, low, high) in
        let behind : span.first + n ≡ o / 4096 = omega (arith, low) in
        let here : slice_index part n ≡ j = is.same n inside ∙ ap (λ (k : ℕ). slice_index pages k) behind ∙ (at_place (o / 4096) j page).1 in
        let at : 4096 * (span.first + n) + o % 4096 ≡ o = omega (arith, behind) in
        ap (λ (p : ℕ). page_byte P b p (o % 4096)) (sym here)
        ∙ have.each n (o % 4096) inside (omega arith)
        ∙ ap (λ (x : ℕ). byte_after span bytes x (page_byte P W (slice_index part n) (o % 4096))) at
        ∙ ap (λ (p : ℕ). byte_after span bytes o (page_byte P W p (o % 4096))) here

    -- other words than those of its pages are none of them
    pub no_other : (a : ℕ) → ((k j w : ℕ) → IsPageOf P W i k j → w < 512 → a ≢ page_word_of P j w) → ¬ IsNewWordOf span P part a
    no_other a out new =
        let place = new.is in
        let at = place.is.at in
        let low = new.below in
        out (span.first + new.index) (slice_index pages (span.first + new.index)) place.index (page_at (span.first + new.index) (is.below new.index low)) place.below
        (at ∙ ap (λ (p : ℕ). page_word_of P p place.index) (is.same new.index low))

    pub byte_kept : (o j : ℕ) → IsPageOf P W i (o / 4096) j → (o / 4096 < span.first) ⊎ (span.first + length part ≤ o / 4096) → page_byte P b j (o % 4096) ≡ page_byte P W j (o % 4096)
    unfolding word
    byte_kept o j page outside = page_byte-kept P W b j (o % 4096) (interval_keeps (page_word_of P j (o % 4096 / 8)) run no_new)
      where
        no_new : ¬ IsNewWordOf span P part (page_word_of P j (o % 4096 / 8))
        no_new new =
            let place = new.is in
            let low = new.below in
            let same = (same_page_word P j (slice_index part new.index) (o % 4096 / 8) place.index (omega arith) place.below place.is.at).0 in
            let (inside, there) = at_place (o / 4096) j page in
            let here = held.bytes.distinct.each (o / 4096) (span.first + new.index) inside (is.below new.index low) (there ∙ same ∙ is.same new.index low) in
            by here low outside
          where
            by : {n : ℕ} → o / 4096 ≡ span.first + n → n < length part → (o / 4096 < span.first) ⊎ (span.first + length part ≤ o / 4096) → ⊥
            by here low (inl before) = omega (arith, here, before)
            by here low (inr behind) = omega (arith, here, low, behind)

-- ---- from the object as it was taken to the flush of its new words

module _ {P : ℕ} (W bytes : List ℕ) {part : List ℕ} {span : FileSpan} {live written : PageView} (live_is : live ≡ pages_at P part W) (written_is : written ≡ record live { touched = Words span; ticket = None }) {a b : DeviceView}
    (run : WritesSpan live.volume_pages live.pages span bytes a b) where
  written_at : written ≡ record (pages_at P part W) { touched = Words span; ticket = None }
  written_at = written_is ∙ ap (λ (v : PageView). record v { touched = Words span; ticket = None }) live_is

  run_at : WritesSpan P part span bytes a b
  run_at = subst (λ (v : PageView). WritesSpan v.volume_pages v.pages span bytes a b) live_is run

  span_stored : {c : DeviceView} (events : ℕ) → events ≡ new_words span (length part) + new_lines span (length part) → FlushesPages written.volume_pages written.pages written.touched b c → Stores (IsNewWordOf span P part) a c events
  span_stored {c} events counted flushes =
      subst (λ (n : ℕ). Stores (IsNewWordOf span P part) a c n) (sym counted)
      (stores_flushed (exactly_stores run_at) (flushes_stores (subst (λ (v : PageView). FlushesPages v.volume_pages v.pages v.touched b c) written_at flushes)))

  span_flushed : {trail : Option Trail} → ((w : ℕ) → OfSome written.pages (IsOwnWord written.volume_pages) w → IsFlushed trail w) → (w : ℕ) → IsNewWordOf span P part w → IsFlushed trail w
  span_flushed {trail} flushed w new =
      subst (λ (v : PageView). (x : ℕ) → OfSome v.pages (IsOwnWord v.volume_pages) x → IsFlushed trail x) written_at flushed w
      (record { index = new.index; before = new.below; is = new_is_own span P (span.first + new.index) (slice_index part new.index) w new.is })

  module _ (here : a.words ≡ W) (have : HaveBytes live.volume_pages live.pages span bytes (page_byte live.volume_pages a.words) b.words) where
    span_run : IsInterval (IsNewWordOf span P part) W a.trail b.words b.trail
    span_run = subst (λ (l : List ℕ). IsInterval (IsNewWordOf span P part) l a.trail b.words b.trail) here run_at.interval

    span_have : HaveBytes P part span bytes (page_byte P W) b.words
    span_have =
        subst (λ (l : List ℕ). HaveBytes P part span bytes (page_byte P l) b.words) here
        (subst (λ (v : PageView). HaveBytes v.volume_pages v.pages span bytes (page_byte v.volume_pages a.words) b.words) live_is have)

-- its events, where the range of its new words isn't empty
new_events : (span : FileSpan) (n from to : ℕ) → CountsNew span n from to → from < to → span_events from to ≡ new_words span n + new_lines span n
new_events span n from to counted far =
    ap (λ (t : Bool). cond t (pieces to 8 - from / 8) 0 + cond t (pieces to 64 - from / 64) 0) (lt-ltb from to far)
    ∙ sym (ap (λ (m : ℕ). m + new_lines span n) counted.words ∙ ap (λ (m : ℕ). (pieces to 8 - from / 8) + m) counted.lines)

-- ---- a file's old pages are written to their end, and its new ones are filled

-- the pages from a place on are a part
pub dropped_part : (pages : List ℕ) (first : ℕ) → IsPart pages (drop first pages) first
dropped_part pages first = record {
  below = λ n low. let long = length-drop first pages in omega (arith, long, low);
  same = λ n low. get_or-drop first pages n 0;
}

-- a place of a list
slice_at : (pages : List ℕ) (k j : ℕ) → slice_get pages k ≡ Some j → (k < length pages) × (slice_index pages k ≡ j)
slice_at pages k j at =
    let low = slice_get_within pages k j at in
    let same : ◌≡◌ {A = Option ℕ} (Some (slice_index pages k)) (Some j) = sym (slice_get-get_or pages k 0 low) ∙ at in
    (low, cc)

pub may_fill : {P : ℕ} {W : List ℕ} {growth : Growth} {bytes old_pages new_pages : List ℕ} → CanFill P W growth bytes old_pages new_pages → MayFill P W growth bytes old_pages
may_fill can =
    let larger = can.larger in
    let small = can.small in
    let inside = can.inside in
    record {
      held = can.held;
      size = can.old_size;
      small = omega (arith, larger, small);
      range = omega (arith, small, inside);
      reaches = can.reaches;
      some = can.some;
    }

module _ {P : ℕ} {W : List ℕ} {growth : Growth} {bytes old_pages new_pages : List ℕ} (can : CanFill P W growth bytes old_pages new_pages) {tw : Option Trail} (size : IsVolumeSize P) (whole : length W ≡ 512 * P) (settled : IsSettledAt W tw) where
  -- a page of the file is none of the new ones
  pub pages_differ : (k j n : ℕ) → IsPageOf P W growth.inode k j → n < length new_pages → j ≢ slice_index new_pages n
  pages_differ k j n page low same =
      let owned = page.owner in
      let free = ap (λ (d : DescriptorFields). d.owner) (can.free.free.each n low) in
      let moved = ap (λ (p : ℕ). (descriptor_of P W p).owner) same in
      let least = can.held.least in
      omega (arith, owned, free, moved, least)

  pub apart : (w : ℕ) → IsTailWord P growth bytes old_pages w → OfSome new_pages (IsOwnWord P) w → ⊥
  apart w tail some =
      let low = tail.below in
      let place = tail.index in
      let first = min growth.offset growth.old_size / 4096 in
      let parts = dropped_part old_pages first in
      let page = page_at can.held (first + place) (parts.below place low) in
      let is = sym (parts.same place low) in
      own_words_apart P (slice_index (drop first old_pages) place) (slice_index new_pages some.index) w
      (subst (λ (p : ℕ). p < data_pages_of P) is page.in_range) (can.free.in_range.each some.index some.before)
      (λ same. pages_differ (first + place) (slice_index old_pages (first + place)) some.index page some.before (is ∙ same))
      (new_is_own (span_of first growth.old_size growth.offset bytes) P (first + place) (slice_index (drop first old_pages) place) w tail.is) some.is

  pub filled_apart : (w : ℕ) → IsTailWord P growth bytes old_pages w → OfSome new_pages (IsFilledWord P) w → ⊥
  filled_apart w tail some = apart w tail (record { index = some.index; before = some.before; is = filled_is_own P (slice_index new_pages some.index) w some.is })

  module _ {M : List ℕ} {tm : Option Trail} (one : IsInterval (IsTailWord P growth bytes old_pages) W tw M tm) where
    pub still_settled : (w : ℕ) → OfSome new_pages (IsOwnWord P) w → IsClean M tm w
    still_settled w some = clean_stays w one (λ tail. apart w tail some) (pages_settled P new_pages W tw size can.free.in_range whole settled w some)

    pub still_free : AreFree P M new_pages
    still_free = record {
      in_range = can.free.in_range;
      distinct = can.free.distinct;
      free = record {
        each = λ n low.
            same_descriptor_of P (slice_index new_pages n) W M (λ w is. interval_keeps w one (λ tail. apart w tail (record { index = n; before = low; is = inr is })))
            ∙ can.free.free.each n low;
      };
    }

    module _ {A : List ℕ} {ta : Option Trail} (two : IsInterval (OfSome new_pages (IsFilledWord P)) M tm A ta) where
      pub fill_flushed : ((w : ℕ) → IsTailWord P growth bytes old_pages w → IsFlushed tm w) → ((w : ℕ) → OfSome new_pages (IsFilledWord P) w → IsFlushed ta w)
          → (w : ℕ) → IsTailWord P growth bytes old_pages w ⊎ OfSome new_pages (IsFilledWord P) w → IsFlushed ta w
      fill_flushed olds news w (inl tail) = flushed_stays w two (λ some. filled_apart w tail some) (olds w tail)
      fill_flushed olds news w (inr some) = news w some

      -- the file's old pages stay while the new ones are filled
      byte_same : (o k j : ℕ) → IsPageOf P W growth.inode k j → page_byte P A j (o % 4096) ≡ page_byte P M j (o % 4096)
      unfolding word
      byte_same o k j page = page_byte-kept P M A j (o % 4096) (interval_keeps (page_word_of P j (o % 4096 / 8)) two (λ some.
          own_words_apart P j (slice_index new_pages some.index) (page_word_of P j (o % 4096 / 8)) page.in_range (can.free.in_range.each some.index some.before)
          (pages_differ k j some.index page some.before) (inl (record { place = o % 4096 / 8; in_page = omega arith; at = refl }))
          (filled_is_own P (slice_index new_pages some.index) (page_word_of P j (o % 4096 / 8)) some.is)))

      by_byte : {o before m a : ℕ} → a ≡ m → IsWrittenByte growth.offset bytes o before m → IsWrittenByte growth.offset bytes o before a
      by_byte same was = record { new = λ inside. same ∙ was.new inside; kept = λ beside. same ∙ was.kept beside }

      is_fill : (a n : ℕ) → n < length new_pages → IsFilledWord P (slice_index new_pages n) a → IsFillWord P W growth.inode new_pages a
      is_fill a n low (inl content) =
          subst (IsFillWord P W growth.inode new_pages) (sym content.at) (IsFillWord.new (slice_index new_pages n) content.place (Contains-get_or new_pages n 0 low) content.in_page)
      is_fill a n low (inr (inl at)) = subst (IsFillWord P W growth.inode new_pages) (sym at) (IsFillWord.descriptor (slice_index new_pages n) 1 (Contains-get_or new_pages n 0 low) (inl refl))
      is_fill a n low (inr (inr at)) = subst (IsFillWord P W growth.inode new_pages) (sym at) (IsFillWord.descriptor (slice_index new_pages n) 2 (Contains-get_or new_pages n 0 low) (inr refl))

      is_tail : (a : ℕ) → IsTailWord P growth bytes old_pages a → IsFillWord P W growth.inode new_pages a
      is_tail a tail =
          let low = tail.below in
          let first = min growth.offset growth.old_size / 4096 in
          let parts = dropped_part old_pages first in
          let place = tail.is in
          let at = place.is.at in
          let page = page_at can.held (first + tail.index) (parts.below tail.index low) in
          subst (IsFillWord P W growth.inode new_pages) (sym (at ∙ ap (λ (p : ℕ). page_word_of P p place.index) (parts.same tail.index low)))
          (IsFillWord.old (first + tail.index) (slice_index old_pages (first + tail.index)) place.index page place.below)

      others : (a : ℕ) → ¬ IsFillWord P W growth.inode new_pages a → word A a ≡ word W a
      unfolding word
      others a none = interval_keeps a two (λ some. none (is_fill a some.index some.before some.is)) ∙ interval_keeps a one (λ tail. none (is_tail a tail))

      pub fills : (d : List ℕ) → d ≡ A → WritesBelow P W M growth.inode growth.offset bytes → WritesTail P W M growth.inode growth.offset bytes → AreBytesFrom P A 0 (length old_pages) new_pages
          → HaveBytes P new_pages (span_of (length old_pages) 0 growth.offset bytes) bytes (λ page byte. 0) A → FillsFile P W d growth.inode growth.offset bytes new_pages
      fills d same below tail from have = subst (λ (l : List ℕ). FillsFile P W l growth.inode growth.offset bytes new_pages) (sym same) (record {
        size = interval_length two ∙ interval_length one;
        below = λ o j low page. by_byte (byte_same o (o / 4096) j page) (below o j low page);
        tail = λ o j behind page. by_byte (byte_same o (o / 4096) j page) (tail o j behind page);
        kinds = λ k j at. let (low, is) = slice_at new_pages k j at in ap (λ (p : ℕ). (descriptor_of P A p).kind) (sym is) ∙ ap (λ (d : DescriptorFields). d.kind) (from.each k low);
        offsets = λ k j at.
            let (low, is) = slice_at new_pages k j at in
            let count = can.held.count in
            let offset = ap (λ (p : ℕ). (descriptor_of P A p).offset) (sym is) ∙ ap (λ (d : DescriptorFields). d.offset) (from.each k low) in
            omega (arith, count, offset);
        filled = λ k j o at stands.
            let (low, is) = slice_at new_pages k j at in
            let count = can.held.count in
            let here : 4096 * (length old_pages + k) + o % 4096 ≡ o = omega (arith, count, stands) in
            let span = span_of (length old_pages) 0 growth.offset bytes in
            zero_byte span bytes o 0 (page_byte P A j (o % 4096)) refl (omega arith)
            (ap (λ (p : ℕ). page_byte P A p (o % 4096)) (sym is) ∙ have.each k (o % 4096) low (omega arith) ∙ ap (λ (x : ℕ). byte_after span bytes x 0) here);
        others = others;
      })

-- ---- old pages of a file that are written to their end

-- the rest of a list, as a slice to its end
all_dropped : (pages : List ℕ) (old_first : ℕ) → take (length pages - old_first) (drop old_first pages) ≡ drop old_first pages
all_dropped pages old_first = ap (λ (n : ℕ). take n (drop old_first pages)) (sym (length-drop old_first pages)) ∙ take-length (drop old_first pages)

module _ {P : ℕ} {W : List ℕ} {growth : Growth} {bytes pages : List ℕ} (may : MayFill P W growth bytes pages) {least : ℕ} (least_is : least ≡ min growth.offset growth.old_size) where
  -- where they begin
  abbrev old_first : ℕ
  old_first = least / 4096

  is : old_first ≡ min growth.offset growth.old_size / 4096
  is = ap (λ (n : ℕ). n / 4096) least_is

  abbrev old_span : FileSpan
  old_span = span_of old_first growth.old_size growth.offset bytes

  abbrev old_part : List ℕ
  old_part = take (length pages - old_first) (drop old_first pages)

  old_count : length pages ≡ pieces growth.old_size 4096
  unfolding pages_of_size
  old_count = may.held.count ∙ ap (λ (n : ℕ). pieces n 4096) may.size

  inside : old_first ≤ length pages
  inside = let all = old_count in omega (arith, is, all)

  old_long : old_first + length old_part ≡ length pages
  old_long = let same = ap (λ (l : List ℕ). length l) (all_dropped pages old_first) in let some = length-drop old_first pages in let low = inside in omega (arith, same, some, low)

  old_few : old_first + length old_part ≤ 2 ^ 28
  old_few = let all = old_long in let held = old_count in let small = may.small in omega (arith, all, held, small)

  pub old_bounds : (old_first ≤ length pages) × (old_first + length old_part ≤ 2 ^ 28)
  old_bounds = (inside, old_few)

  old_parts : IsPart pages old_part old_first
  old_parts = subst (λ (l : List ℕ). IsPart pages l old_first) (sym (all_dropped pages old_first)) (dropped_part pages old_first)

  pub old_from_first : AreBytesFrom P W growth.inode old_first old_part
  old_from_first = bytes_part P W growth.inode old_first pages old_part may.held.bytes old_parts

  -- the first of them, as the object is taken by
  pub old_taken : 0 < length old_part → descriptor_of P W (slice_index old_part 0) ≡ record { owner = growth.inode; kind = 1; offset = old_first + 0 }
  old_taken some = old_from_first.each 0 some

  -- what is said of its new words, said of those behind the range's begin or the old size
  as_tail : (Q : (ℕ → Type 0) → Type 0) → Q (IsNewWordOf old_span P old_part) → Q (IsTailWord P growth bytes pages)
  as_tail Q holds =
      subst (λ (n : ℕ). Q (IsNewWordOf (span_of n growth.old_size growth.offset bytes) P (drop n pages))) is
      (subst (λ (l : List ℕ). Q (IsNewWordOf old_span P l)) (all_dropped pages old_first) holds)

  old_counted : CountsNew old_span (length old_part) (min growth.offset growth.old_size) (4096 * (old_first + length old_part))
  old_counted =
      let all = old_long in
      let held = old_count in
      beyond_law old_span (length old_part) may.reaches (omega (arith, is)) (omega (arith, all, held))

  more : 0 < length old_part → min growth.offset growth.old_size < 4096 * (old_first + length old_part)
  more some = omega (arith, is, some)

  old_some_words : 0 < length old_part → 0 < new_words old_span (length old_part)
  old_some_words some =
      let words = old_counted.words in
      let far = more some in
      omega (arith, words, far)

  old_events : 0 < length old_part → old_page_events growth ≡ new_words old_span (length old_part) + new_lines old_span (length old_part)
  old_events some =
      let all = old_long in
      let held = old_count in
      let end : pieces growth.old_size 4096 * 4096 ≡ 4096 * (old_first + length old_part) = omega (arith, all, held) in
      ap (span_events (min growth.offset growth.old_size)) end ∙ new_events old_span (length old_part) (min growth.offset growth.old_size) _ old_counted (more some)

  module _ {b : List ℕ} {ta tb : Option Trail} (run : IsInterval (IsNewWordOf old_span P old_part) W ta b tb) (have : HaveBytes P old_part old_span bytes (page_byte P W) b) where
    old_below : WritesBelow P W b growth.inode growth.offset bytes
    old_below o j low page = elim (cases_lt (o / 4096) old_first) [
      | inl before ↦
          let same = byte_kept may.held old_span bytes old_part old_parts run have o j page (inl before) in
          record {
            new = λ in_range. let least = in_range.least in let size = may.size in absurd (omega (arith, least, before, is, low, size));
            kept = λ beside. same;
          }
      | inr there ↦
          let (high, at) = at_place may.held (o / 4096) j page in
          let all = old_long in
          let size = may.size in
          written_byte old_span bytes o (page_byte P W j (o % 4096)) (page_byte P b j (o % 4096)) refl (omega (arith, low, size))
          (byte_at may.held old_span bytes old_part old_parts run have o j page there (omega (arith, high, all)))
    ]

    old_tail : WritesTail P W b growth.inode growth.offset bytes
    old_tail o j behind page =
        let (high, at) = at_place may.held (o / 4096) j page in
        let all = old_long in
        let size = may.size in
        zero_byte old_span bytes o (page_byte P W j (o % 4096)) (page_byte P b j (o % 4096)) refl (omega (arith, behind, size))
        (byte_at may.held old_span bytes old_part old_parts run have o j page (omega (arith, is, behind, size)) (omega (arith, high, all)))

  -- where the range and the old size begin behind all old pages
  pub none_below : length old_part ≡ 0 → WritesBelow P W W growth.inode growth.offset bytes
  none_below none o j low page = record {
    new = λ in_range.
        let least = in_range.least in
        let (high, at) = at_place may.held (o / 4096) j page in
        let all = old_long in
        let size = may.size in
        absurd (omega (arith, least, high, all, none, is, low, size));
    kept = λ beside. refl;
  }

  pub none_tail : length old_part ≡ 0 → WritesTail P W W growth.inode growth.offset bytes
  none_tail none o j behind page =
      let (high, at) = at_place may.held (o / 4096) j page in
      let all = old_long in
      let size = may.size in
      absurd (omega (arith, high, all, none, is, behind, size))

  pub none_flushed : {trail : Option Trail} → length old_part ≡ 0 → (w : ℕ) → IsTailWord P growth bytes pages w → IsFlushed trail w
  none_flushed {trail} none = as_tail (λ T. (w : ℕ) → T w → IsFlushed trail w) (λ w new. let low = new.below in absurd (omega (arith, none, low)))

  -- ---- from the object as it was taken to the flush

  module _ {live : PageView} (live_is : live ≡ pages_at P old_part W) where
    pub few_places : old_first + length live.pages ≤ 2 ^ 28
    few_places = subst (λ (v : PageView). old_first + length v.pages ≤ 2 ^ 28) (sym live_is) old_few

    pub old_has_words : 0 < length old_part → 0 < new_words old_span (length live.pages)
    old_has_words some = subst (λ (v : PageView). 0 < new_words old_span (length v.pages)) (sym live_is) (old_some_words some)

    pub old_costs : 0 < length old_part → old_page_events growth ≡ new_words old_span (length live.pages) + new_lines old_span (length live.pages)
    old_costs some = old_events some ∙ ap (λ (v : PageView). new_words old_span (length v.pages) + new_lines old_span (length v.pages)) (sym live_is)

    module _ {written : PageView} (written_is : written ≡ record live { touched = Words old_span; ticket = None }) {a b : DeviceView} (run : WritesSpan live.volume_pages live.pages old_span bytes a b) where
      pub old_stored : {c : DeviceView} → 0 < length old_part → FlushesPages written.volume_pages written.pages written.touched b c → Stores (IsTailWord P growth bytes pages) a c (old_page_events growth)
      old_stored {c} some flushes = as_tail (λ T. Stores T a c (old_page_events growth)) (span_stored W bytes live_is written_is run (old_page_events growth) (old_events some) flushes)

      pub old_flushed : {trail : Option Trail} → ((w : ℕ) → OfSome written.pages (IsOwnWord written.volume_pages) w → IsFlushed trail w) → (w : ℕ) → IsTailWord P growth bytes pages w → IsFlushed trail w
      old_flushed {trail} flushed = as_tail (λ T. (w : ℕ) → T w → IsFlushed trail w) (span_flushed W bytes live_is written_is run flushed)

      module _ (here : a.words ≡ W) (have : HaveBytes live.volume_pages live.pages old_span bytes (page_byte live.volume_pages a.words) b.words) (d : List ℕ) (same : d ≡ b.words) where
        pub all_below : WritesBelow P W d growth.inode growth.offset bytes
        all_below = subst (λ (l : List ℕ). WritesBelow P W l growth.inode growth.offset bytes) (sym same) (old_below (span_run W bytes live_is written_is run here have) (span_have W bytes live_is written_is run here have))

        pub all_tail : WritesTail P W d growth.inode growth.offset bytes
        all_tail = subst (λ (l : List ℕ). WritesTail P W l growth.inode growth.offset bytes) (sym same) (old_tail (span_run W bytes live_is written_is run here have) (span_have W bytes live_is written_is run here have))

-- ---- pages of a file that are written inside its size

-- the range is below the size, and that below 2^40
pub range : {P : ℕ} {W : List ℕ} {writing : Writing} {bytes pages : List ℕ} → CanOverwrite P W writing bytes pages → (writing.offset + length bytes ≤ inode_size W writing.inode) × (inode_size W writing.inode ≤ 2 ^ 40)
range may = (may.inside, may.small)

module _ {P : ℕ} {W : List ℕ} {writing : Writing} {bytes pages : List ℕ} (may : CanOverwrite P W writing bytes pages) {end : ℕ} (up : end ≡ (writing.offset + length bytes) / 4096 + min 1 ((writing.offset + length bytes) % 4096)) where
  -- the pieces of a page, as the code rounds up
  end_is : end ≡ pieces (writing.offset + length bytes) 4096
  end_is = omega (arith, up)

  abbrev first : ℕ
  first = writing.offset / 4096

  abbrev part : List ℕ
  part = take (end - first) (drop first pages)

  abbrev pub span : FileSpan
  span = span_of first 1099511627776 writing.offset bytes

  count : length pages ≡ pieces (inode_size W writing.inode) 4096
  unfolding pages_of_size
  count = may.held.count

  order : first < end
  order = let some = may.some in omega (arith, end_is, some)

  within : end ≤ length pages
  within = let all = count in let inside = may.inside in omega (arith, all, inside, end_is)

  few : end ≤ 2 ^ 28
  few = let (inside, far) = range may in omega (arith, far, inside, end_is)

  long : length part ≡ end - first
  long = let one = length-take (end - first) (drop first pages) in let two = length-drop first pages in let all = within in omega (arith, one, two, all)

  pub bounds : (first < end) × (end ≤ length pages) × (end ≤ 2 ^ 28) × (length part ≡ end - first)
  bounds = (order, within, few, long)

  pub some : 0 < length part
  some = let all = long in let more = order in omega (arith, all, more)

  parts : IsPart pages part first
  parts = record {
    below = λ n low. let all = long in let most = within in omega (arith, all, most, low);
    same = λ n low. let all = long in get_or-take (end - first) (drop first pages) n 0 (omega (arith, all, low)) ∙ get_or-drop first pages n 0;
  }

  pub from_first : AreBytesFrom P W writing.inode first part
  from_first = bytes_part P W writing.inode first pages part may.held.bytes parts

  -- the first of them, as the object is taken by
  pub taken : descriptor_of P W (slice_index part 0) ≡ record { owner = writing.inode; kind = 1; offset = first + 0 }
  taken = from_first.each 0 some

  counted : CountsNew span (length part) writing.offset (writing.offset + length bytes)
  counted =
      let all = long in
      let more = order in
      let top = few in
      inside_law span (length part) (omega arith) may.some (omega (arith, all, more, end_is)) (omega (arith, all, more, top))

  some_words : 0 < new_words span (length part)
  some_words = let words = counted.words in let least = may.some in omega (arith, words, least)

  events : span_events writing.offset (writing.offset + length bytes) ≡ new_words span (length part) + new_lines span (length part)
  events = let least = may.some in new_events span (length part) writing.offset (writing.offset + length bytes) counted (omega (arith, least))

  module _ {b : List ℕ} {ta tb : Option Trail} (run : IsInterval (IsNewWordOf span P part) W ta b tb) (have : HaveBytes P part span bytes (page_byte P W) b) where
    below : WritesBelow P W b writing.inode writing.offset bytes
    below o j low page = elim (cases_lt (o / 4096) first) [
      | inl before ↦ record {
        new = λ inside. let least = inside.least in absurd (omega (arith, least, before));
        kept = λ beside. byte_kept may.held span bytes part parts run have o j page (inl before);
      }
      | inr there ↦ elim (cases_lt (o / 4096) (first + length part)) [
        | inl high ↦
            let far = (range may).1 in
            written_byte span bytes o (page_byte P W j (o % 4096)) (page_byte P b j (o % 4096)) refl (omega (arith, low, far))
            (byte_at may.held span bytes part parts run have o j page there high)
        | inr behind ↦ record {
          new = λ inside. let top = inside.below in let all = long in let more = order in absurd (omega (arith, top, behind, all, more, end_is));
          kept = λ beside. byte_kept may.held span bytes part parts run have o j page (inr behind);
        }
      ]
    ]

    -- the part ends not past the greatest file, and the range not past the size
    behind_kept : (o j : ℕ) → inode_size W writing.inode ≤ o → IsPageOf P W writing.inode (o / 4096) j → page_byte P b j (o % 4096) ≡ page_byte P W j (o % 4096)
    behind_kept o j behind page = elim (cases_lt (o / 4096) first) [
      | inl before ↦ byte_kept may.held span bytes part parts run have o j page (inl before)
      | inr there ↦ elim (cases_lt (o / 4096) (first + length part)) [
        | inl high ↦
            let all = long in
            let more = order in
            let top = few in
            let inside = may.inside in
            let is = written_byte span bytes o (page_byte P W j (o % 4096)) (page_byte P b j (o % 4096)) refl (omega (arith, high, all, more, top))
            (byte_at may.held span bytes part parts run have o j page there high) in
            is.kept (inr (omega (arith, behind, inside)))
        | inr away ↦ byte_kept may.held span bytes part parts run have o j page (inr away)
      ]
    ]

    writes : WritesInside P W b writing.inode writing.offset bytes
    unfolding word
    writes = record {
      size = interval_length run;
      writes = below;
      others = λ a out. interval_keeps a run (no_other may.held span bytes part parts run have a out);
    }

    pub stored : (d : List ℕ) → d ≡ b → StoresInside P W d writing.inode writing.offset bytes
    stored d same = subst (λ (l : List ℕ). StoresInside P W l writing.inode writing.offset bytes) (sym same) (record { writes = writes; kept = behind_kept })

  -- ---- from the object as it was taken to the flush

  module _ {live : PageView} (live_is : live ≡ pages_at P part W) where
    pub has_words : 0 < new_words span (length live.pages)
    has_words = subst (λ (v : PageView). 0 < new_words span (length v.pages)) (sym live_is) some_words

    pub costs : span_events writing.offset (writing.offset + length bytes) ≡ new_words span (length live.pages) + new_lines span (length live.pages)
    costs = events ∙ ap (λ (v : PageView). new_words span (length v.pages) + new_lines span (length v.pages)) (sym live_is)

    module _ {written : PageView} (written_is : written ≡ record live { touched = Words span; ticket = None }) {a b : DeviceView} (run : WritesSpan live.volume_pages live.pages span bytes a b) where
      pub all_stored : {c : DeviceView} → FlushesPages written.volume_pages written.pages written.touched b c → Stores (IsNewWordOf span P part) a c (span_events writing.offset (writing.offset + length bytes))
      all_stored flushes = span_stored W bytes live_is written_is run (span_events writing.offset (writing.offset + length bytes)) events flushes

      pub all_flushed : {trail : Option Trail} → ((w : ℕ) → OfSome written.pages (IsOwnWord written.volume_pages) w → IsFlushed trail w) → (w : ℕ) → IsNewWordOf span P part w → IsFlushed trail w
      all_flushed flushed = span_flushed W bytes live_is written_is run flushed

      pub all_written : a.words ≡ W → HaveBytes live.volume_pages live.pages span bytes (page_byte live.volume_pages a.words) b.words → (d : List ℕ) → d ≡ b.words → StoresInside P W d writing.inode writing.offset bytes
      all_written here have = stored (span_run W bytes live_is written_is run here have) (span_have W bytes live_is written_is run here have)

-- ---- new pages of a file that are filled

module _ (first : ℕ) (W : List ℕ) {P : ℕ} {pages : List ℕ} {before after : PageView} (before_is : before ≡ pages_at P pages W) (after_is : after ≡ record before { fields = bytes_fields first; touched = Whole; ticket = None }) where
  after_at : after ≡ record (pages_at P pages W) { fields = bytes_fields first; touched = Whole; ticket = None }
  after_at = after_is ∙ ap (λ (v : PageView). record v { fields = bytes_fields first; touched = Whole; ticket = None }) before_is

  pub new_bytes : {device : DeviceView} → AreFree P W pages → PageIsDirty after device → (words : List ℕ) → words ≡ device.words → AreBytesFrom P words 0 first pages
  new_bytes {device} free dirty words same = record {
    in_range = free.in_range;
    distinct = free.distinct;
    each = λ k low. ap (λ (l : List ℕ). descriptor_of P l (slice_index pages k)) same ∙ (subst (λ (v : PageView). PageIsDirty v device) after_at dirty).stands.reads.each k low;
  }

  pub new_have : (span : FileSpan) (bytes old words : List ℕ) → words ≡ old → HaveBytes before.volume_pages before.pages span bytes (λ page byte. 0) old → HaveBytes P pages span bytes (λ page byte. 0) words
  new_have span bytes old words same have =
      subst (λ (l : List ℕ). HaveBytes P pages span bytes (λ page byte. 0) l) (sym same) (subst (λ (v : PageView). HaveBytes v.volume_pages v.pages span bytes (λ page byte. 0) old) before_is have)

  pub new_stored : {a b c : DeviceView} (span : FileSpan) (bytes : List ℕ) → FillsBytes before.volume_pages before.pages span bytes a b → FlushesPages after.volume_pages after.pages after.touched b c → Stores (OfSome pages (IsFilledWord P)) a c (length pages * page_events)
  new_stored {a} {b} {c} span bytes run flushes =
      stores_weaker (length pages * page_events) (λ word is. is) (omega arith)
      (stores_flushed (exactly_stores (subst (λ (v : PageView). FillsBytes v.volume_pages v.pages span bytes a b) before_is run))
      (flushes_stores (subst (λ (v : PageView). FlushesPages v.volume_pages v.pages v.touched b c) after_at flushes)))

  pub new_flushed : {trail : Option Trail} → ((word : ℕ) → OfSome after.pages (IsOwnWord after.volume_pages) word → IsFlushed trail word) → (word : ℕ) → OfSome pages (IsFilledWord P) word → IsFlushed trail word
  new_flushed {trail} flushed word some =
      subst (λ (v : PageView). (x : ℕ) → OfSome v.pages (IsOwnWord v.volume_pages) x → IsFlushed trail x) after_at flushed word
      (record { index = some.index; before = some.before; is = filled_is_own P (slice_index pages some.index) word some.is })
