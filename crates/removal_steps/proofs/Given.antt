-- The interval in which pages lose their owner: a file's, and a page of slots without a name.
use Rattle.std.proofs.Common.{◌≡◌, ◌≢◌, ◌⊎◌, inl, inr, ℕ, ◌*◌, ◌<◌, Bool, true, false, not, List, [], ◌∷◌, length, slice_index, Some, None, refl, sym, ap, subst, ◌∙◌, arith}
use Rattle.std.specs.Prelude.{Option, nat_lt}
use Rattle.std.proofs.lemmas.List.{get_or_default}
use Rattle.std.proofs.lemmas.List.Elements.{Contains-get_or}
use Rattle.pm_trait.specs.Trail.{Trail}
use Rattle.pm_trait.specs.Device.{IsInterval, IsFlushed, IsClean, IsSettledAt}
use Rattle.pm_trait.specs.DeviceView.{DeviceView, Stores}
use Rattle.pm_trait.proofs.DeviceLaws.{interval_keeps, interval_length, clean_stays, flushed_stays}
use Rattle.pm_trait.proofs.DeviceViewLaws.{stores_then, stores_weaker}
use Rattle.layout.specs.declared.fields.DescriptorFields.{DescriptorFields}
use Rattle.layout.specs.Geometry.{IsVolumeSize, data_pages_of, descriptor_word_of, slot_word_of}
use Rattle.layout.specs.Fields.{word, descriptor_fields, page_owner, page_kind, slot_inode}
use Rattle.page_state.specs.Page.{EachPage, OfSome, IsOwnWord, IsOwnerWord}
use Rattle.page_state.proofs.PageLaws.{own_words_apart}
use Rattle.image_laws.specs.Drop.{GivesPages}
use Rattle.volume.specs.Costs.{count_of}
use Rattle.volume.specs.Entered.{pages_of_option}
use Rattle.volume.specs.declared.plan.Loss.{Loss}
use Rattle.removal_steps.specs.Steps.{AreFilePages, IsEmptied, MayEmpty, CanDisown, IsCut, number_of, count_cut}
use Rattle.removal_steps.proofs.Pages.{pages_settled}
use Rattle.removal_steps.proofs.Emptied.{number_is_own}

-- ---- a page that may be there

pub one_of : (emptied : Option ℕ) (Q : ℕ → ℕ → Type 0) (w : ℕ) → OfSome (pages_of_option emptied) Q w → (j : ℕ) × (emptied ≡ Some j) × Q j w
one_of None Q w some = let before = some.before in absurd (omega (arith, before))
one_of (Some page) Q w some =
    let before = some.before in
    let first : some.index ≡ 0 = omega (arith, before) in
    (page, refl, subst (λ (k : ℕ). Q (slice_index (page ∷ []) k) w) first some.is)

of_it : (emptied : Option ℕ) (j : ℕ) (R : ℕ → Type 0) → emptied ≡ Some j → EachPage (pages_of_option emptied) R → R j
of_it emptied j R is each = let each_here = subst (λ (e : Option ℕ). EachPage (pages_of_option e) R) is each in each_here.each 0 (omega arith)

pub as_many : (emptied : Option ℕ) → length (pages_of_option emptied) ≡ count_of emptied
as_many None = refl
as_many (Some page) = refl

pub is_emptied : (P : ℕ) (I : List ℕ) (emptied : Option ℕ) (j : ℕ) → MayEmpty P I emptied → emptied ≡ Some j → IsEmptied P I j
is_emptied P I emptied j may is = subst (MayEmpty P I) is may

-- there is some page, where it was tested
pub some_page : (b : Bool) (n : ℕ) → b ≡ not (nat_lt 0 n) → b ≡ false → nat_lt 0 n ≡ true
some_page b n is test = elim (nat_lt 0 n) as (λ t. b ≡ not t → t ≡ true) [ true ↦ λ _. refl | false ↦ λ other. let none : ⊥ = cc in absurd none ] is

-- ---- a page whose words stay

pub still_emptied : (P j : ℕ) (a b : List ℕ) → ((w : ℕ) → IsOwnWord P j w → slice_index b w ≡ slice_index a w) → IsEmptied P a j → IsEmptied P b j
unfolding page_owner page_kind slot_inode word
still_emptied P j a b same emptied =
    let at : (field : ℕ) → field < descriptor_fields → slice_index b (descriptor_word_of P j field) ≡ slice_index a (descriptor_word_of P j field) = λ field few. same (descriptor_word_of P j field) (inr (record { field = field; is_field = few; at = refl })) in
    record {
      in_range = emptied.in_range;
      owned = λ none. emptied.owned (sym (at 0 (omega arith)) ∙ none);
      kind = at 1 (omega arith) ∙ emptied.kind;
      slots = λ slot in_page. same (slot_word_of P slot 0) (number_is_own P slot j in_page) ∙ emptied.slots slot in_page;
    }

-- a page of slots is none of a file's
not_of_file : (P i j k : ℕ) (I pages : List ℕ) → AreFilePages P I i pages → IsEmptied P I j → k < length pages → slice_index pages k ≢ j
unfolding page_kind
not_of_file P i j k I pages file emptied inside same =
    let bytes = ap (λ (d : DescriptorFields). d.kind) (file.each k inside) in
    let slots = emptied.kind in
    let moved = ap (λ (page : ℕ). page_kind P I page) same in
    omega (arith, bytes, slots, moved)

-- ---- the two calls, one after the other

module _ {P : ℕ} {a pages : List ℕ} {emptied : Option ℕ} {loss : Option Loss} {ta : Option Trail} (size : IsVolumeSize P) (can : CanDisown P a loss pages emptied) (whole : length a ≡ 512 * P) (settled : IsSettledAt a ta) where
  file : AreFilePages P a (number_of loss) pages
  file = can.file

  may : MayEmpty P a emptied
  may = can.emptied_is

  owner_is_own : (j w : ℕ) → IsOwnerWord P j w → IsOwnWord P j w
  owner_is_own j w at = inr (record { field = 0; is_field = omega arith; at = at })

  off_file : (j w : ℕ) → emptied ≡ Some j → IsOwnWord P j w → ¬ OfSome pages (IsOwnerWord P) w
  off_file j w is own some =
      let page = is_emptied P a emptied j may is in
      own_words_apart P (slice_index pages some.index) j w (file.in_range.each some.index some.before) page.in_range
      (not_of_file P (number_of loss) j some.index a pages file page some.before) (owner_is_own (slice_index pages some.index) w some.is) own

  pub apart : (w : ℕ) → OfSome pages (IsOwnerWord P) w → OfSome (pages_of_option emptied) (IsOwnerWord P) w → ⊥
  apart w some other =
      let (j, is, at) = one_of emptied (IsOwnerWord P) w other in
      off_file j w is (owner_is_own j w at) some

  module _ {b : List ℕ} {tb : Option Trail} (one : IsInterval (OfSome pages (IsOwnerWord P)) a ta b tb) where
    pub still_settled : (w : ℕ) → OfSome (pages_of_option emptied) (IsOwnWord P) w → IsClean b tb w
    still_settled w some =
        let (j, is, own) = one_of emptied (IsOwnWord P) w some in
        let page = is_emptied P a emptied j may is in
        clean_stays w one (off_file j w is own)
        (pages_settled P (j ∷ []) a ta size (record { each = λ index inside. let here : index ≡ 0 = omega (arith, inside) in subst (λ (k : ℕ). slice_index (j ∷ []) k < data_pages_of P) (sym here) page.in_range }) whole settled w (record { index = 0; before = omega arith; is = own }))

    pub still_may : MayEmpty P b emptied
    still_may = by emptied refl
      where
        by : (e : Option ℕ) → emptied ≡ e → MayEmpty P b e
        by None is = tt
        by (Some j) is = still_emptied P j a b (λ w own. interval_keeps w one (off_file j w is own)) (is_emptied P a emptied j may is)

    module _ {c : List ℕ} {tc : Option Trail} (two : IsInterval (OfSome (pages_of_option emptied) (IsOwnerWord P)) b tb c tc) where
      pub given : (d : List ℕ) → d ≡ c → EachPage pages (λ j. page_owner P b j ≡ 0) → EachPage (pages_of_option emptied) (λ j. page_owner P c j ≡ 0) → GivesPages P a d (IsCut pages emptied)
      unfolding word page_owner
      given d same ones others = subst (λ (l : List ℕ). GivesPages P a l (IsCut pages emptied)) (sym same) (record {
        size = interval_length two ∙ interval_length one;
        owners = owners;
        others = λ w out.
            interval_keeps w two (λ some. let (j, is, at) = one_of emptied (IsOwnerWord P) w some in out j (inr is) at)
            ∙ interval_keeps w one (λ some. out (slice_index pages some.index) (inl (Contains-get_or pages some.index 0 some.before)) some.is);
      })
        where
          owners : (j : ℕ) → IsCut pages emptied j → page_owner P c j ≡ 0
          owners j (inl (k, inside, is)) =
              let w = descriptor_word_of P (slice_index pages k) 0 in
              let stored : OfSome pages (IsOwnerWord P) w = record { index = k; before = inside; is = refl } in
              subst (λ (page : ℕ). page_owner P c page ≡ 0) (get_or_default pages k 0 j inside ∙ is) (interval_keeps w two (apart w stored) ∙ ones.each k inside)
          owners j (inr is) = of_it emptied j (λ page. page_owner P c page ≡ 0) is others

      pub given_flushed : ((w : ℕ) → OfSome pages (IsOwnerWord P) w → IsFlushed tb w) → ((w : ℕ) → OfSome (pages_of_option emptied) (IsOwnerWord P) w → IsFlushed tc w)
          → (w : ℕ) → OfSome pages (IsOwnerWord P) w ⊎ OfSome (pages_of_option emptied) (IsOwnerWord P) w → IsFlushed tc w
      given_flushed ones others w (inl some) = flushed_stays w two (apart w some) (ones w some)
      given_flushed ones others w (inr some) = others w some

-- all that is stored and flushed
pub all_given : {a b c : DeviceView} {V W : ℕ → Type 0} (pages : List ℕ) (emptied : Option ℕ) → Stores V a b (2 * length pages) → Stores W b c (2 * length (pages_of_option emptied)) → ((w : ℕ) → V w → W w → ⊥)
    → Stores (λ w. V w ⊎ W w) a c (count_cut pages emptied * 2)
all_given pages emptied one two differ =
    let many = as_many emptied in
    stores_weaker (count_cut pages emptied * 2) (λ w is. is) (omega (arith, many)) (stores_then one two differ)
