-- The words of a slot after stores to them.
use Rattle.std.proofs.Common.{◌≡◌, ◌≢◌, inl, inr, ℕ, suc, ◌+◌, ◌<◌, ◌≤◌, List, [], ◌∷◌, length, get_or, slice_index, slice_set, refl, sym, ◌∙◌, ap, subst, arith, get_or-set_same, get_or-set_other, length-set}
use Rattle.std.specs.Prelude.{Option}
use Rattle.std.proofs.lemmas.Bool.{cases_eq}
use Rattle.pm_trait.specs.declared.event.Event.TheVariants.{Store}
use Rattle.pm_trait.specs.Trail.{Trail}
use Rattle.pm_trait.specs.Device.{IsInterval, with_event}
use Rattle.pm_trait.specs.DeviceView.{DeviceView, Performs}
use Rattle.pm_trait.proofs.DeviceViewLaws.{store_stores}
use Rattle.pm_trait.proofs.DeviceLaws.{interval_empty, interval_weaker, interval_keeps, interval_length, then_store}
use Rattle.layout.specs.declared.fields.SlotFields.{SlotFields}
use Rattle.layout.specs.declared.fields.InodeFields.{InodeFields}
use Rattle.layout.specs.Geometry.{first_data_word_of, inode_word_of, slot_word_of}
use Rattle.layout.specs.Fields.{word, words_from, inode_kind, slot_inode, slot_pointer, slot_words}
use Rattle.layout.proofs.FieldLaws.{same_words_from}
use Rattle.fence_token.specs.Objects.{Stands, StandsClean}
use Rattle.fence_token.specs.Stored.{StoresExactly}
use Rattle.fence_token.proofs.StoredLaws.{exactly_store, exactly_then, exactly_as}
use Rattle.fence_token.proofs.ObjectLaws.{stands_clean_stays}
use Rattle.inode_state.specs.States.{IsInit, IsLive}
use Rattle.inode_state.specs.Inode.{InodeView, IsInodeWord, InodeIsClean, fields_at}
use Rattle.inode_state.proofs.InodeLaws.{inode_is_local}
use Rattle.dentry_state.specs.States.{committed_fields, pointed_fields}
use Rattle.dentry_state.specs.declared.dentry.Touched.{Touched}
use Rattle.dentry_state.specs.declared.dentry.Touched.TheVariants.{FirstLine, BothLines}
use Rattle.dentry_state.specs.Dentry.{DentryView, IsSlotWord, IsNameWord, IsRestWord, DentryStands, slot_fields_at, stores_from, last_touched}
use Rattle.dentry_state.proofs.DentryLaws.{same_fields, next_fields}

-- a word of a slot is one of the slot of the same place
pub address_as : (p q s t f w : ℕ) → w ≡ slot_word_of p s f → p ≡ q → s ≡ t → w ≡ slot_word_of q t f
address_as p q s t f w at pages slot = at ∙ ap (λ (k : ℕ). slot_word_of k s f) pages ∙ ap (λ (k : ℕ). slot_word_of q k f) slot

pub slot_word_as : (p q s t w : ℕ) → p ≡ q → s ≡ t → IsSlotWord p s w → IsSlotWord q t w
slot_word_as p q s t w pages slot is = record { field = is.field; is_field = is.is_field; at = address_as p q s t is.field w is.at pages slot }

-- a slot of the same place and fields stands too
pub stands_as : {now : List ℕ} (p q s t : ℕ) (f g : SlotFields) → q ≡ p → t ≡ s → g ≡ f → Stands (IsSlotWord p s) (λ words. slot_fields_at p words s ≡ f) now → Stands (IsSlotWord q t) (λ words. slot_fields_at q words t ≡ g) now
stands_as {now} p q s t f g pages slot fields stands =
    subst (λ (k : ℕ). Stands (IsSlotWord k t) (λ words. slot_fields_at k words t ≡ g) now) (sym pages)
    (subst (λ (k : ℕ). Stands (IsSlotWord p k) (λ words. slot_fields_at p words k ≡ g) now) (sym slot)
    (subst (λ (h : SlotFields). Stands (IsSlotWord p s) (λ words. slot_fields_at p words s ≡ h) now) (sym fields) stands))

pub clean_as : {now : List ℕ} {trail : Option Trail} (p q s t : ℕ) (f g : SlotFields) → q ≡ p → t ≡ s → g ≡ f → StandsClean (IsSlotWord p s) (λ words. slot_fields_at p words s ≡ f) now trail → StandsClean (IsSlotWord q t) (λ words. slot_fields_at q words t ≡ g) now trail
clean_as p q s t f g pages slot fields clean = record {
  stands = stands_as p q s t f g pages slot fields clean.stands;
  clean = λ word is. clean.clean word (slot_word_as q p t s word pages slot is);
}

-- two fields have two words
pub differs : (p s f g w : ℕ) → w ≡ slot_word_of p s g → f ≢ g → slot_word_of p s f ≢ w
unfolding slot_word_of
differs p s f g w at other same = other (omega (arith, at, same))

kept : (a b : List ℕ) (w v x : ℕ) → b ≡ slice_set a w v → x ≢ w → slice_index b x ≡ slice_index a x
kept a b w v x is other = ap (λ (l : List ℕ). slice_index l x) is ∙ get_or-set_other a w x v 0 other

put : (a b : List ℕ) (w v x : ℕ) → b ≡ slice_set a w v → w ≡ x → w < length a → slice_index b x ≡ v
put a b w v x is at inside = ap (λ (k : ℕ). slice_index b k) (sym at) ∙ ap (λ (l : List ℕ). slice_index l w) is ∙ get_or-set_same a w v 0 inside

-- an address of the slot is one of the device
pub word_inside : (p s f w : ℕ) (a : List ℕ) → w ≡ slot_word_of p s f → f < 16 → ((word : ℕ) → IsSlotWord p s word → word < length a) → w < length a
word_inside p s f w a at small inside = inside w (record { field = f; is_field = small; at = at })

-- ---- the words of a name

-- one of the first so many words of the name
pub record IsStored (pages slot count word : ℕ) : Type 0 where
  pub field : ℕ
  pub is_name : 2 ≤ field
  pub so_far : field < 2 + count
  pub at : word ≡ slot_word_of pages slot field

-- and those words hold the first so many values
pub record HoldsFirst (pages slot count : ℕ) (values now : List ℕ) : Type 0 where
  pub each : (k : ℕ) → k < count → slice_index now (slot_word_of pages slot (2 + k)) ≡ get_or values k 0

pub none_stored : (p s : ℕ) (now : List ℕ) (trail : Option Trail) → IsInterval (IsStored p s 0) now trail now trail
none_stored p s now trail = interval_weaker (λ word none. absurd none) (interval_empty now trail)

pub none_held : (p s : ℕ) (values now : List ℕ) → HoldsFirst p s 0 values now
none_held p s values now = record { each = λ k below. absurd (omega (arith, below)) }

-- one word more
pub one_more_stored : {a b c : List ℕ} {ta tb tc : Option Trail} (p s k w v : ℕ) → w ≡ slot_word_of p s (2 + k) → IsInterval (IsStored p s k) a ta b tb → c ≡ slice_set b w v → tc ≡ with_event tb (Store w v) → IsInterval (IsStored p s (k + 1)) a ta c tc
one_more_stored p s k w v at so_far words appended =
    interval_weaker (λ word either. elim either [
      | inl before ↦ let high = before.so_far in record { field = before.field; is_name = before.is_name; so_far = omega (arith, high); at = before.at }
      | inr is ↦ record { field = 2 + k; is_name = omega arith; so_far = omega arith; at = is ∙ at }
    ])
    (then_store w v so_far (λ before. let high = before.so_far in
    differs p s before.field (2 + k) w at (λ same. omega (arith, same, high)) (sym before.at)) words appended)

pub one_more_held : (p s k w v : ℕ) (values b c : List ℕ) → w ≡ slot_word_of p s (2 + k) → v ≡ get_or values k 0 → w < length b → c ≡ slice_set b w v → HoldsFirst p s k values b → HoldsFirst p s (k + 1) values c
one_more_held p s k w v values b c at value inside is so_far = record {
  each = λ j below. elim (cases_eq j k) [
    | inl here ↦ put b c w v (slot_word_of p s (2 + j)) is (at ∙ ap (λ (i : ℕ). slot_word_of p s (2 + i)) (sym here)) inside ∙ value ∙ ap (λ (i : ℕ). get_or values i 0) (sym here)
    | inr there ↦ kept b c w v (slot_word_of p s (2 + j)) is (differs p s (2 + j) (2 + k) w at (λ same. there (omega (arith, same)))) ∙ so_far.each j (omega (arith, below, there))
  ];
}

-- words that hold the values one by one hold them together
pub words_are : (now : List ℕ) (first : ℕ) (values : List ℕ) → ((k : ℕ) → k < length values → slice_index now (first + k) ≡ get_or values k 0) → words_from now first (length values) ≡ values
unfolding words_from word
words_are now first [] each = refl
words_are now first (value ∷ values) each =
    let start : first + 0 ≡ first = omega arith in
    let here = ap (λ (w : ℕ). slice_index now w) (sym start) ∙ each 0 (omega arith) in
    let rest = words_are now (first + 1) values (λ k below. let next : first + 1 + k ≡ first + suc k = omega arith in
    ap (λ (w : ℕ). slice_index now w) next ∙ each (suc k) (omega (arith, below))) in
    ap (λ (w : ℕ). w ∷ words_from now (first + 1) (length values)) here ∙ ap (λ (ws : List ℕ). value ∷ ws) rest

pub all_held : (p s count : ℕ) (values now : List ℕ) → count ≡ 14 → length values ≡ 14 → HoldsFirst p s count values now → slot_words p now s ≡ values
unfolding slot_words
all_held p s count values now whole long held =
    ap (λ (n : ℕ). words_from now (slot_word_of p s 2) n) (sym long)
    ∙ words_are now (slot_word_of p s 2) values (λ k below. ap (λ (w : ℕ). slice_index now w) (next_fields p s 2 k) ∙ held.each k (omega (arith, below, whole, long)))

pub all_stored : {a b : List ℕ} {ta tb : Option Trail} (p s count : ℕ) → count ≡ 14 → IsInterval (IsStored p s count) a ta b tb → IsInterval (IsNameWord p s) a ta b tb
all_stored p s count whole run =
    interval_weaker (λ word is. let high = is.so_far in record { field = is.field; is_name = is.is_name; is_field = omega (arith, high, whole); at = is.at }) run

-- neither the number nor the pointer is a word of the name
no_name_word : (p s f : ℕ) → f < 2 → ¬ IsNameWord p s (slot_word_of p s f)
no_name_word p s f low is =
    let at_least = is.is_name in
    differs p s f is.field (slot_word_of p s f) is.at (λ same. omega (arith, same, low, at_least)) refl

-- so they stay
pub name_stored : {a b : List ℕ} {ta tb : Option Trail} (p s : ℕ) (old new : SlotFields) → IsInterval (IsNameWord p s) a ta b tb → slot_words p b s ≡ new.name → old.inode ≡ new.inode → old.pointer ≡ new.pointer
    → Stands (IsSlotWord p s) (λ words. slot_fields_at p words s ≡ old) a → Stands (IsSlotWord p s) (λ words. slot_fields_at p words s ≡ new) b
unfolding slot_inode slot_pointer word
name_stored {a} {b} p s old new run name inode pointer stands = record {
  inside = λ w is. let before = stands.inside w is in omega (arith, before, interval_length run);
  reads = same_fields (slot_fields_at p b s) new
      (interval_keeps (slot_word_of p s 0) run (no_name_word p s 0 (omega arith)) ∙ ap (λ (f : SlotFields). f.inode) stands.reads ∙ inode)
      (interval_keeps (slot_word_of p s 1) run (no_name_word p s 1 (omega arith)) ∙ ap (λ (f : SlotFields). f.pointer) stands.reads ∙ pointer)
      name;
}

-- ---- the pointer stored, and then the name

pub rest_stored : {a b c : List ℕ} {tb tc : Option Trail} (p s : ℕ) (old new : SlotFields) (w : ℕ) → w ≡ slot_word_of p s 1 → b ≡ slice_set a w new.pointer → IsInterval (IsNameWord p s) b tb c tc → slot_words p c s ≡ new.name → old.inode ≡ new.inode
    → Stands (IsSlotWord p s) (λ words. slot_fields_at p words s ≡ old) a → Stands (IsSlotWord p s) (λ words. slot_fields_at p words s ≡ new) c
unfolding slot_inode slot_pointer word
rest_stored {a} {b} {c} p s old new w at is run name inode stands =
    let long : length b ≡ length a = ap length is ∙ length-set a w new.pointer in
    let inside = word_inside p s 1 w a at (omega arith) stands.inside in
    record {
      inside = λ x own. let before = stands.inside x own in omega (arith, before, long, interval_length run);
      reads = same_fields (slot_fields_at p c s) new
          (interval_keeps (slot_word_of p s 0) run (no_name_word p s 0 (omega arith)) ∙ kept a b w new.pointer (slot_word_of p s 0) is (differs p s 0 1 w at (λ none. omega (arith, none))) ∙ ap (λ (f : SlotFields). f.inode) stands.reads ∙ inode)
          (interval_keeps (slot_word_of p s 1) run (no_name_word p s 1 (omega arith)) ∙ put a b w new.pointer (slot_word_of p s 1) is at inside)
          name;
    }

-- both are stores of the fifteen words behind the number
pub rest_performed : {a b c : DeviceView} {w value count : ℕ} (p s more : ℕ) (values : List ℕ) → w ≡ slot_word_of p s 1 → Performs a b (Store w value ∷ []) → StoresExactly (IsNameWord p s) b c (stores_from (slot_word_of p s 2) values) count → 1 + count ≤ more
    → StoresExactly (IsRestWord p s) a c (stores_from (slot_word_of p s 1) (value ∷ values)) more
rest_performed {value = value} p s more values at stored named few =
    exactly_as (stores_from (slot_word_of p s 1) (value ∷ values)) more
    (λ word either. elim either [
      | inl is ↦ record { field = 1; is_rest = omega arith; is_field = omega arith; at = is ∙ at }
      | inr is ↦ let at_least = is.is_name in record { field = is.field; is_rest = omega (arith, at_least); is_field = is.is_field; at = is.at }
    ])
    (ap (λ (x : ℕ). Store x value ∷ stores_from (slot_word_of p s 2) values) at ∙ ap (λ (x : ℕ). Store (slot_word_of p s 1) value ∷ stores_from x values) (sym (next_fields p s 1 1)))
    few (exactly_then (exactly_store stored) named (λ word is own. no_name_word p s 1 (omega arith) (subst (λ (x : ℕ). IsNameWord p s x) (is ∙ at) own)))

-- ---- the number stored alone

pub number_stored : (p s : ℕ) (fields : SlotFields) (a b : List ℕ) (w number : ℕ) → w ≡ slot_word_of p s 0 → b ≡ slice_set a w number
    → Stands (IsSlotWord p s) (λ words. slot_fields_at p words s ≡ fields) a → Stands (IsSlotWord p s) (λ words. slot_fields_at p words s ≡ committed_fields fields number) b
unfolding slot_inode slot_pointer slot_words word
number_stored p s fields a b w number at is stands =
    let long : length b ≡ length a = ap length is ∙ length-set a w number in
    let inside = word_inside p s 0 w a at (omega arith) stands.inside in
    let same : (f : ℕ) → f ≢ 0 → slice_index b (slot_word_of p s f) ≡ slice_index a (slot_word_of p s f) = λ f other. kept a b w number (slot_word_of p s f) is (differs p s f 0 w at other) in
    record {
      inside = λ x own. let before = stands.inside x own in omega (arith, before, long);
      reads = same_fields (slot_fields_at p b s) (committed_fields fields number)
          (put a b w number (slot_word_of p s 0) is at inside)
          (same 1 (λ none. omega (arith, none)) ∙ ap (λ (f : SlotFields). f.pointer) stands.reads)
          (same_words_from b a (slot_word_of p s 2) 14 (λ k below. let next = next_fields p s 2 k in
          ap (λ (x : ℕ). slice_index b x) next ∙ same (2 + k) (λ none. omega (arith, none)) ∙ ap (λ (x : ℕ). slice_index a x) (sym next)) ∙ ap (λ (f : SlotFields). f.name) stands.reads);
    }

-- ---- the pointer stored alone

pub pointer_stored : (p s : ℕ) (fields : SlotFields) (a b : List ℕ) (w pointer : ℕ) → w ≡ slot_word_of p s 1 → b ≡ slice_set a w pointer
    → Stands (IsSlotWord p s) (λ words. slot_fields_at p words s ≡ fields) a → Stands (IsSlotWord p s) (λ words. slot_fields_at p words s ≡ pointed_fields fields pointer) b
unfolding slot_inode slot_pointer slot_words word
pointer_stored p s fields a b w pointer at is stands =
    let long : length b ≡ length a = ap length is ∙ length-set a w pointer in
    let inside = word_inside p s 1 w a at (omega arith) stands.inside in
    let same : (f : ℕ) → f ≢ 1 → slice_index b (slot_word_of p s f) ≡ slice_index a (slot_word_of p s f) = λ f other. kept a b w pointer (slot_word_of p s f) is (differs p s f 1 w at other) in
    record {
      inside = λ x own. let before = stands.inside x own in omega (arith, before, long);
      reads = same_fields (slot_fields_at p b s) (pointed_fields fields pointer)
          (same 0 (λ none. omega (arith, none)) ∙ ap (λ (f : SlotFields). f.inode) stands.reads)
          (put a b w pointer (slot_word_of p s 1) is at inside)
          (same_words_from b a (slot_word_of p s 2) 14 (λ k below. let next = next_fields p s 2 k in
          ap (λ (x : ℕ). slice_index b x) next ∙ same (2 + k) (λ none. omega (arith, none)) ∙ ap (λ (x : ℕ). slice_index a x) (sym next)) ∙ ap (λ (f : SlotFields). f.name) stands.reads);
    }

-- a field past the lines that were stored to is past the first
pub past_first : (touched : Touched) (field : ℕ) → last_touched touched < field → 7 < field
past_first FirstLine field past = past
past_first BothLines field past = omega (arith, past)

-- ---- the inode of a commit

-- a word of an inode that is the first of a slot is the first of the inode
first_of_both : (p s n word : ℕ) → IsInodeWord n word → word ≡ slot_word_of p s 0 → inode_word_of n 0 ≡ slot_word_of p s 0
unfolding inode_word_of slot_word_of first_data_word_of
first_of_both p s n word is at =
    let few = is.is_field in
    let own = is.at in
    omega (arith, few, own, at)

-- the kind that a new inode has, and one that is a file or a directory
pub new_kind : (n : ℕ) (fields : InodeFields) → IsInit n fields → fields.kind ≢ 0
new_kind n fields (inl file) none = let kind = ap (λ (f : InodeFields). f.kind) file in omega (arith, kind, none)
new_kind n fields (inr directory) none = let kind = ap (λ (f : InodeFields). f.kind) directory in omega (arith, kind, none)

pub live_kind : (n : ℕ) (fields : InodeFields) → IsLive n fields → fields.kind ≢ 0
live_kind n fields live none = elim live.0 [ inl file ↦ omega (arith, file, none) | inr directory ↦ omega (arith, directory, none) ]

-- so none of its words is the first of a slot that names none: its kind is not 0
inode_apart : (p s n w : ℕ) (now : List ℕ) (fields : InodeFields) → fields.kind ≢ 0 → fields_at now n ≡ fields → slot_inode p now s ≡ 0 → IsInodeWord n w → w ≢ slot_word_of p s 0
unfolding inode_kind slot_inode word
inode_apart p s n w now fields some reads none is at =
    some (sym (ap (λ (f : InodeFields). f.kind) reads) ∙ ap (λ (a : ℕ). slice_index now a) (first_of_both p s n w is at) ∙ none)

-- and it stays clean while the slot's number is stored
pub stays_clean : {old new : DeviceView} {number : ℕ} (dentry : DentryView) (inode : InodeView) → inode.fields.kind ≢ 0 → dentry.fields.inode ≡ 0 → DentryStands dentry old.words
    → Performs old new (Store (slot_word_of dentry.pages dentry.slot 0) number ∷ []) → InodeIsClean inode old → InodeIsClean inode new
stays_clean {old} dentry inode some none stands stored clean =
    stands_clean_stays (inode_is_local inode) (store_stores stored).stores
    (λ word own is. inode_apart dentry.pages dentry.slot inode.number word old.words inode.fields some clean.stands.reads (ap (λ (f : SlotFields). f.inode) stands.reads ∙ none) own is) clean
