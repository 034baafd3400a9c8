-- The words of an inode after stores to them.
use Rattle.std.proofs.Common.{◌≡◌, ◌≢◌, inl, inr, ⊎_elim, ℕ, ◌<◌, List, [], ◌∷◌, length, slice_index, slice_set, sym, ◌∙◌, ap, subst, arith, get_or-set_same, get_or-set_other, length-set}
use Rattle.std.specs.Prelude.{Option}
use Rattle.pm_trait.specs.declared.event.Event.{Event}
use Rattle.pm_trait.specs.declared.event.Event.TheVariants.{Store}
use Rattle.pm_trait.specs.Trail.{Trail}
use Rattle.pm_trait.specs.Device.{IsInterval, with_event}
use Rattle.pm_trait.proofs.DeviceLaws.{interval_store, then_store, interval_weaker}
use Rattle.pm_trait.specs.DeviceView.{DeviceView, Performs}
use Rattle.pm_trait.proofs.DeviceViewLaws.{performs_then}
use Rattle.layout.specs.declared.fields.InodeFields.{InodeFields}
use Rattle.layout.specs.Geometry.{inode_word_of}
use Rattle.layout.specs.Fields.{word, inode_fields, inode_kind, inode_links, inode_size, inode_own}
use Rattle.fence_token.specs.Objects.{Stands, StandsClean}
use Rattle.inode_state.specs.Inode.{IsInodeWord, fields_at, inode_stores}
use Rattle.inode_state.proofs.InodeLaws.{same_fields}

-- an inode of the same number and fields stands too
pub stands_as : {now : List ℕ} (m n : ℕ) (f g : InodeFields) → n ≡ m → g ≡ f → Stands (IsInodeWord m) (λ words. fields_at words m ≡ f) now → Stands (IsInodeWord n) (λ words. fields_at words n ≡ g) now
stands_as {now} m n f g number fields stands =
    subst (λ (k : ℕ). Stands (IsInodeWord k) (λ words. fields_at words k ≡ g) now) (sym number)
    (subst (λ (h : InodeFields). Stands (IsInodeWord m) (λ words. fields_at words m ≡ h) now) (sym fields) stands)

pub clean_as : {now : List ℕ} {trail : Option Trail} (m n : ℕ) (f g : InodeFields) → n ≡ m → g ≡ f → StandsClean (IsInodeWord m) (λ words. fields_at words m ≡ f) now trail → StandsClean (IsInodeWord n) (λ words. fields_at words n ≡ g) now trail
clean_as {now} {trail} m n f g number fields clean =
    subst (λ (k : ℕ). StandsClean (IsInodeWord k) (λ words. fields_at words k ≡ g) now trail) (sym number)
    (subst (λ (h : InodeFields). StandsClean (IsInodeWord m) (λ words. fields_at words m ≡ h) now trail) (sym fields) clean)

-- two fields have two words
differs : (n f g w : ℕ) → w ≡ inode_word_of n g → f ≢ g → inode_word_of n f ≢ w
unfolding inode_word_of
differs n f g w at other same = other (omega (arith, at, same))

kept : (a b : List ℕ) (w v x : ℕ) → b ≡ slice_set a w v → x ≢ w → slice_index b x ≡ slice_index a x
kept a b w v x is other = ap (λ (l : List ℕ). slice_index l x) is ∙ get_or-set_other a w x v 0 other

put : (a b : List ℕ) (w v x : ℕ) → b ≡ slice_set a w v → w ≡ x → w < length a → slice_index b x ≡ v
put a b w v x is at inside = ap (λ (k : ℕ). slice_index b k) (sym at) ∙ ap (λ (l : List ℕ). slice_index l w) is ∙ get_or-set_same a w v 0 inside

pub same_length : (a b : List ℕ) (w v : ℕ) → b ≡ slice_set a w v → length b ≡ length a
same_length a b w v is = ap length is ∙ length-set a w v

-- an address of the inode is one of the device
pub word_inside : (n f w : ℕ) (a : List ℕ) → w ≡ inode_word_of n f → f < inode_fields → ((word : ℕ) → IsInodeWord n word → word < length a) → w < length a
word_inside n f w a at small inside = inside w (record { field = f; is_field = small; at = at })

-- a store of each field is an interval over the inode's words
pub fields_stored : {a b c d e : List ℕ} {ta tb tc td te : Option Trail} (n w0 w1 w2 w3 v0 v1 v2 v3 : ℕ) → w0 ≡ inode_word_of n 0 → w1 ≡ inode_word_of n 1 → w2 ≡ inode_word_of n 2 → w3 ≡ inode_word_of n 3
    → b ≡ slice_set a w0 v0 → tb ≡ with_event ta (Store w0 v0) → c ≡ slice_set b w1 v1 → tc ≡ with_event tb (Store w1 v1)
    → d ≡ slice_set c w2 v2 → td ≡ with_event tc (Store w2 v2) → e ≡ slice_set d w3 v3 → te ≡ with_event td (Store w3 v3)
    → IsInterval (IsInodeWord n) a ta e te
fields_stored n w0 w1 w2 w3 v0 v1 v2 v3 at0 at1 at2 at3 b tb c tc d td e te =
    let other : (f g v w : ℕ) → v ≡ inode_word_of n f → w ≡ inode_word_of n g → f ≢ g → v ≢ w = λ f g v w at_f at_g apart same. differs n f g w at_g apart (sym at_f ∙ same) in
    let one = interval_store w0 v0 b tb in
    let two = then_store w1 v1 one (other 1 0 w1 w0 at1 at0 (λ same. omega (arith, same))) c tc in
    let three = then_store w2 v2 two (λ either. ⊎_elim (other 2 0 w2 w0 at2 at0 (λ same. omega (arith, same))) (other 2 1 w2 w1 at2 at1 (λ same. omega (arith, same))) either) d td in
    let four = then_store w3 v3 three (λ either. ⊎_elim (λ earlier. ⊎_elim (other 3 0 w3 w0 at3 at0 (λ same. omega (arith, same))) (other 3 1 w3 w1 at3 at1 (λ same. omega (arith, same))) earlier) (other 3 2 w3 w2 at3 at2 (λ same. omega (arith, same))) either) e te in
    interval_weaker (λ word either. elim either [
      | inr is3 ↦ record { field = 3; is_field = omega arith; at = is3 ∙ at3 }
      | inl before3 ↦ elim before3 [
        | inr is2 ↦ record { field = 2; is_field = omega arith; at = is2 ∙ at2 }
        | inl before2 ↦ elim before2 [
          | inr is1 ↦ record { field = 1; is_field = omega arith; at = is1 ∙ at1 }
          | inl is0 ↦ record { field = 0; is_field = omega arith; at = is0 ∙ at0 }
        ]
      ]
    ]) four

-- and the device has carried them out
pub fields_performed : {a b c d e : DeviceView} {w0 w1 w2 w3 : ℕ} (n : ℕ) (fields : InodeFields) → w0 ≡ inode_word_of n 0 → w1 ≡ inode_word_of n 1 → w2 ≡ inode_word_of n 2 → w3 ≡ inode_word_of n 3
    → Performs a b (Store w0 fields.kind ∷ []) → Performs b c (Store w1 fields.links ∷ []) → Performs c d (Store w2 fields.size ∷ []) → Performs d e (Store w3 fields.own ∷ [])
    → Performs a e (inode_stores n fields)
fields_performed {a} {e = e} {w0} {w1} {w2} {w3} n fields at0 at1 at2 at3 kind links size own =
    let stored : (Store w0 fields.kind ∷ Store w1 fields.links ∷ Store w2 fields.size ∷ Store w3 fields.own ∷ []) ≡ inode_stores n fields = cc in
    subst (λ (events : List Event). Performs a e events) stored (performs_then (performs_then (performs_then kind links) size) own)

-- and the words then say what was stored
pub fields_stand : (n : ℕ) (fields : InodeFields) (a b c d e : List ℕ) (w0 w1 w2 w3 : ℕ) → w0 ≡ inode_word_of n 0 → w1 ≡ inode_word_of n 1 → w2 ≡ inode_word_of n 2 → w3 ≡ inode_word_of n 3
    → b ≡ slice_set a w0 fields.kind → c ≡ slice_set b w1 fields.links → d ≡ slice_set c w2 fields.size → e ≡ slice_set d w3 fields.own
    → ((word : ℕ) → IsInodeWord n word → word < length a) → Stands (IsInodeWord n) (λ words. fields_at words n ≡ fields) e
unfolding inode_kind inode_links inode_size inode_own word
fields_stand n fields a b c d e w0 w1 w2 w3 at0 at1 at2 at3 isb isc isd ise inside =
    let longb = same_length a b w0 fields.kind isb in
    let longc = same_length b c w1 fields.links isc in
    let longd = same_length c d w2 fields.size isd in
    let longe = same_length d e w3 fields.own ise in
    let other : (f g w : ℕ) → w ≡ inode_word_of n g → f ≢ g → inode_word_of n f ≢ w = λ f g w at apart. differs n f g w at apart in
    let in0 = word_inside n 0 w0 a at0 (omega arith) inside in
    let in1 = word_inside n 1 w1 a at1 (omega arith) inside in
    let in2 = word_inside n 2 w2 a at2 (omega arith) inside in
    let in3 = word_inside n 3 w3 a at3 (omega arith) inside in
    let kind : slice_index e (inode_word_of n 0) ≡ fields.kind =
    kept d e w3 fields.own (inode_word_of n 0) ise (other 0 3 w3 at3 (λ same. omega (arith, same)))
    ∙ kept c d w2 fields.size (inode_word_of n 0) isd (other 0 2 w2 at2 (λ same. omega (arith, same)))
    ∙ kept b c w1 fields.links (inode_word_of n 0) isc (other 0 1 w1 at1 (λ same. omega (arith, same)))
    ∙ put a b w0 fields.kind (inode_word_of n 0) isb at0 in0 in
    let links : slice_index e (inode_word_of n 1) ≡ fields.links =
    kept d e w3 fields.own (inode_word_of n 1) ise (other 1 3 w3 at3 (λ same. omega (arith, same)))
    ∙ kept c d w2 fields.size (inode_word_of n 1) isd (other 1 2 w2 at2 (λ same. omega (arith, same)))
    ∙ put b c w1 fields.links (inode_word_of n 1) isc at1 (omega (arith, in1, longb)) in
    let size : slice_index e (inode_word_of n 2) ≡ fields.size =
    kept d e w3 fields.own (inode_word_of n 2) ise (other 2 3 w3 at3 (λ same. omega (arith, same)))
    ∙ put c d w2 fields.size (inode_word_of n 2) isd at2 (omega (arith, in2, longb, longc)) in
    let own : slice_index e (inode_word_of n 3) ≡ fields.own = put d e w3 fields.own (inode_word_of n 3) ise at3 (omega (arith, in3, longb, longc, longd)) in
    record {
      inside = λ word is. let before = inside word is in omega (arith, before, longb, longc, longd, longe);
      reads = same_fields (fields_at e n) fields kind links size own;
    }

-- the link count stored alone
pub links_stored : (n links : ℕ) (fields : InodeFields) (a b : List ℕ) (w : ℕ) → w ≡ inode_word_of n 1 → b ≡ slice_set a w links
    → Stands (IsInodeWord n) (λ words. fields_at words n ≡ fields) a → Stands (IsInodeWord n) (λ words. fields_at words n ≡ record fields { links = links }) b
unfolding inode_kind inode_links inode_size inode_own word
links_stored n links fields a b w at is stands =
    let long = same_length a b w links is in
    let in1 = word_inside n 1 w a at (omega arith) stands.inside in
    record {
      inside = λ word own. let before = stands.inside word own in omega (arith, before, long);
      reads = same_fields (fields_at b n) (record fields { links = links })
          (kept a b w links (inode_word_of n 0) is (differs n 0 1 w at (λ same. omega (arith, same))) ∙ ap (λ (f : InodeFields). f.kind) stands.reads)
          (put a b w links (inode_word_of n 1) is at in1)
          (kept a b w links (inode_word_of n 2) is (differs n 2 1 w at (λ same. omega (arith, same))) ∙ ap (λ (f : InodeFields). f.size) stands.reads)
          (kept a b w links (inode_word_of n 3) is (differs n 3 1 w at (λ same. omega (arith, same))) ∙ ap (λ (f : InodeFields). f.own) stands.reads);
    }

-- the size stored alone
pub size_stored : (n size : ℕ) (fields : InodeFields) (a b : List ℕ) (w : ℕ) → w ≡ inode_word_of n 2 → b ≡ slice_set a w size
    → Stands (IsInodeWord n) (λ words. fields_at words n ≡ fields) a → Stands (IsInodeWord n) (λ words. fields_at words n ≡ record fields { size = size }) b
unfolding inode_kind inode_links inode_size inode_own word
size_stored n size fields a b w at is stands =
    let long = same_length a b w size is in
    let in2 = word_inside n 2 w a at (omega arith) stands.inside in
    record {
      inside = λ word own. let before = stands.inside word own in omega (arith, before, long);
      reads = same_fields (fields_at b n) (record fields { size = size })
          (kept a b w size (inode_word_of n 0) is (differs n 0 2 w at (λ same. omega (arith, same))) ∙ ap (λ (f : InodeFields). f.kind) stands.reads)
          (kept a b w size (inode_word_of n 1) is (differs n 1 2 w at (λ same. omega (arith, same))) ∙ ap (λ (f : InodeFields). f.links) stands.reads)
          (put a b w size (inode_word_of n 2) is at in2)
          (kept a b w size (inode_word_of n 3) is (differs n 3 2 w at (λ same. omega (arith, same))) ∙ ap (λ (f : InodeFields). f.own) stands.reads);
    }
