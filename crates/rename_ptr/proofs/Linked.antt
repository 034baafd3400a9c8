-- Words of slots are stored, and then a link count: what the interval of both makes.
use Rattle.std.proofs.Common.{◌≡◌, ◌⊎◌, inl, inr, ℕ, ◌+◌, ◌-◌, ◌*◌, ◌≤◌, List, length, Some, None, is_some, sym, ap, subst, ◌∙◌, arith}
use Rattle.std.specs.Prelude.{Option, ◌||◌, if◌then◌else◌}
use Rattle.std.proofs.lemmas.Bool.{cases_eq}
use Rattle.pm_trait.specs.DeviceView.{DeviceView, Stores}
use Rattle.pm_trait.proofs.DeviceViewLaws.{stores_weaker}
use Rattle.layout.specs.Name.{words_of_name}
use Rattle.volume.specs.Costs.{word_events, slot_rest_events, pointing_events}
use Rattle.volume.specs.declared.plan.Loss.{Loss}
use Rattle.volume.specs.declared.plan.Moving.{Moving}
use Rattle.pm_trait.specs.Trail.{Trail}
use Rattle.pm_trait.specs.Device.{IsInterval, IsFlushed, IsClean, IsSettledAt}
use Rattle.pm_trait.proofs.DeviceLaws.{interval_keeps, interval_length, clean_stays, flushed_stays}
use Rattle.layout.specs.declared.fields.InodeFields.{InodeFields}
use Rattle.layout.specs.declared.fields.SlotFields.{SlotFields}
use Rattle.layout.specs.Geometry.{IsVolumeSize, inodes_of, inode_word_of, slot_word_of}
use Rattle.layout.specs.Fields.{word, inode_links, slot_pointer, slot_words}
use Rattle.inode_state.specs.States.{IsLive as IsNode}
use Rattle.inode_state.specs.Inode.{IsInodeWord, fields_at}
use Rattle.inode_state.proofs.InodeLaws.{same_fields_at as same_inode_at}
use Rattle.dentry_state.specs.States.{free_fields}
use Rattle.dentry_state.specs.Dentry.{IsSlotWord, IsRestWord, slot_fields_at}
use Rattle.dentry_state.proofs.DentryLaws.{same_fields_at, slot_word_is_no_inode_word}
use Rattle.rename_laws.specs.Target.{Target, Vacant, Opened, Taken}
use Rattle.rename_laws.specs.Ready.{IsNewNameWord, HasNewName, PointsAt}
use Rattle.image_laws.specs.Links.{Falls, IsLinkWord, Rises}
use Rattle.rename_laws.specs.Intervals.{ClearsSource}
use Rattle.removal_steps.specs.Steps.{MayFall}
use Rattle.removal_steps.proofs.Clearing.{zero_word}
use Rattle.removal_steps.proofs.Slots.{inode_settled}
use Rattle.rename_ptr.specs.Steps.{MayRise, IsPointedWord, target_by}
use Rattle.rename_ptr.proofs.Stored.{IsCleared, pointer_word, rest_word}

links_word : (i w : ℕ) → w ≡ inode_word_of i 1 → IsInodeWord i w
links_word i w is = record { field = 1; is_field = omega arith; at = is }

-- the node of a count that rises or falls is one of the volume
abbrev IsIn : ℕ → Option ℕ → Type 0
IsIn P None = Unit {0}
IsIn P (Some i) = (1 ≤ i) × (i ≤ inodes_of P)

pub in_by_fall : (P : ℕ) (I : List ℕ) (o : Option ℕ) → MayFall P I o → IsIn P o
in_by_fall P I None may = tt
in_by_fall P I (Some i) may = (may.least, may.most)

pub in_by_rise : (P : ℕ) (I : List ℕ) (o : Option ℕ) → MayRise P I o → IsIn P o
in_by_rise P I None may = tt
in_by_rise P I (Some i) may = (may.least, may.most)

off_slots : (P : ℕ) (o : Option ℕ) → IsIn P o → (s w : ℕ) → IsSlotWord P s w → IsLinkWord o w → ⊥
off_slots P None within s w own is = is
off_slots P (Some i) within s w own is = slot_word_is_no_inode_word P s i w within.0 within.1 own (links_word i w is)

-- ---- words of slots are stored

module _ (P : ℕ) (W : ℕ → Type 0) (of_slots : (w : ℕ) → W w → (s : ℕ) × IsSlotWord P s w) {a b : List ℕ} {ta tb : Option Trail} (one : IsInterval W a ta b tb) where
  inode_off : (i : ℕ) → 1 ≤ i → i ≤ inodes_of P → (w : ℕ) → IsInodeWord i w → ¬ W w
  inode_off i least most w own stored = let (s, slot) = of_slots w stored in slot_word_is_no_inode_word P s i w least most slot own

  inode_still : (i : ℕ) → 1 ≤ i → i ≤ inodes_of P → fields_at b i ≡ fields_at a i
  inode_still i least most = same_inode_at i a b (λ w own. interval_keeps w one (inode_off i least most w own))

  pub fall_still : (o : Option ℕ) → MayFall P a o → MayFall P b o
  fall_still None may = tt
  fall_still (Some i) may = let same = inode_still i may.least may.most in record {
    least = may.least;
    most = may.most;
    node = subst (IsNode i) (sym same) may.node;
    some_link = subst (λ (n : ℕ). 1 ≤ n) (sym (ap (λ (f : InodeFields). f.links) same)) may.some_link;
  }

  pub rise_still : (o : Option ℕ) → MayRise P a o → MayRise P b o
  rise_still None may = tt
  rise_still (Some i) may = let same = inode_still i may.least may.most in record {
    least = may.least;
    most = may.most;
    live = subst (IsNode i) (sym same) may.live;
    countable = let few = may.countable in let links = ap (λ (f : InodeFields). f.links) same in omega (arith, few, links);
  }

  pub settled_still : IsVolumeSize P → length a ≡ 512 * P → IsSettledAt a ta → (o : Option ℕ) → IsIn P o → (i : ℕ) → o ≡ Some i → (w : ℕ) → IsInodeWord i w → IsClean b tb w
  settled_still size whole settled o within i is w own =
      let (least, most) = subst (IsIn P) is within in
      clean_stays w one (inode_off i least most w own) (inode_settled P i size least most whole settled w own)

  -- and then the count
  module _ (o : Option ℕ) (within : IsIn P o) {c : List ℕ} {tc : Option Trail} (two : IsInterval (IsLinkWord o) b tb c tc) where
    pub apart : (w : ℕ) → W w → IsLinkWord o w → ⊥
    apart w stored link = let (s, slot) = of_slots w stored in off_slots P o within s w slot link

    pub both_flushed : ((w : ℕ) → W w → IsFlushed tb w) → ((w : ℕ) → IsLinkWord o w → IsFlushed tc w) → (w : ℕ) → W w ⊎ IsLinkWord o w → IsFlushed tc w
    both_flushed slots counts w (inl is) = flushed_stays w two (apart w is) (slots w is)
    both_flushed slots counts w (inr is) = counts w is

    pub slot_kept : (s : ℕ) → slot_fields_at P c s ≡ slot_fields_at P b s
    slot_kept s = same_fields_at P s b c (λ w own. interval_keeps w two (off_slots P o within s w own))

    pub others_kept : (w : ℕ) → (W w → ⊥) → (IsLinkWord o w → ⊥) → word c w ≡ word a w
    unfolding word
    others_kept w out count = interval_keeps w two count ∙ interval_keeps w one out

    pub long : length c ≡ length a
    long = interval_length two ∙ interval_length one

  links_still : (i : ℕ) → 1 ≤ i → i ≤ inodes_of P → inode_links b i ≡ inode_links a i
  links_still i least most = ap (λ (f : InodeFields). f.links) (inode_still i least most)

  pub falls_from : (o : Option ℕ) → IsIn P o → (c : List ℕ) → Falls b c o → Falls a c o
  falls_from None within c fallen = tt
  falls_from (Some i) within c fallen = fallen ∙ links_still i within.0 within.1

  pub rises_from : (o : Option ℕ) → IsIn P o → (c : List ℕ) → Rises b c o → Rises a c o
  rises_from None within c risen = tt
  rises_from (Some i) within c risen = risen ∙ ap (λ (n : ℕ). n + 1) (links_still i within.0 within.1)

-- ---- the interval that clears the source

pub cleared_slots : (P s d w : ℕ) → IsCleared P s d w → (t : ℕ) × IsSlotWord P t w
cleared_slots P s d w (inl is) = (d, pointer_word P d w is)
cleared_slots P s d w (inr is) = (s, rest_word P s w is)

pub source_cleared : (P s d : ℕ) (o : Option ℕ) → IsIn P o → {a b c : List ℕ} {ta tb tc : Option Trail} → IsInterval (IsCleared P s d) a ta b tb → IsInterval (IsLinkWord o) b tb c tc
    → slot_pointer P b d ≡ 0 → slot_fields_at P b s ≡ free_fields → Falls b c o → ClearsSource P a c s d o
source_cleared P s d o within {a} {b} {c} one two pointer free fallen =
    let slots = cleared_slots P s d in
    record {
      size = long P (IsCleared P s d) slots one o within two;
      pointer = ap (λ (f : SlotFields). f.pointer) (slot_kept P (IsCleared P s d) slots one o within two d) ∙ pointer;
      zeros = λ f from few. zero_word P s f c (slot_kept P (IsCleared P s d) slots one o within two s ∙ free) from few;
      links = falls_from P (IsCleared P s d) slots one o within c fallen;
      others = λ w not_pointer not_rest count. others_kept P (IsCleared P s d) slots one o within two w (λ is. elim is [ inl same ↦ not_pointer same | inr rest ↦ not_rest rest.field rest.is_rest rest.is_field rest.at ]) count;
    }

-- ---- the interval that points

abbrev IsPointed : ℕ → ℕ → Target → ℕ → Type 0
IsPointed P d target w = (w ≡ slot_word_of P d 1) ⊎ IsNewNameWord P d target w

pub pointed_slots : (P d : ℕ) (target : Target) (w : ℕ) → IsPointed P d target w → (t : ℕ) × IsSlotWord P t w
pointed_slots P d target w (inl is) = (d, pointer_word P d w is)
pointed_slots P d (Vacant name) w (inr (k, lt, at)) = (d, record { field = 2 + k; is_field = omega (arith, lt); at = at })
pointed_slots P d (Opened page name) w (inr none) = absurd none
pointed_slots P d (Taken r) w (inr none) = absurd none

name_kept : (P d : ℕ) (target : Target) (b c : List ℕ) → slot_words P c d ≡ slot_words P b d → HasNewName P b d target → HasNewName P c d target
name_kept P d (Vacant name) b c same has = same ∙ has
name_kept P d (Opened page name) b c same has = tt
name_kept P d (Taken r) b c same has = tt

pub slot_pointed : (P s d : ℕ) (target : Target) (o : Option ℕ) → IsIn P o → {a b c : List ℕ} {ta tb tc : Option Trail} → IsInterval (IsPointed P d target) a ta b tb → IsInterval (IsLinkWord o) b tb c tc
    → slot_pointer P b d ≡ s + 1 → HasNewName P b d target → Rises b c o → PointsAt P a c s d target o
slot_pointed P s d target o within {a} {b} {c} one two pointer name risen =
    let slots = pointed_slots P d target in
    let same = slot_kept P (IsPointed P d target) slots one o within two d in
    record {
      size = long P (IsPointed P d target) slots one o within two;
      pointer = ap (λ (f : SlotFields). f.pointer) same ∙ pointer;
      name_is = name_kept P d target b c (ap (λ (f : SlotFields). f.name) same) name;
      links = rises_from P (IsPointed P d target) slots one o within c risen;
      others = λ w not_pointer not_name count. others_kept P (IsPointed P d target) slots one o within two w (λ is. elim is [ inl same ↦ not_pointer same | inr new ↦ not_name new ]) count;
    }

-- ---- a slot that gets a name with its pointer

rest_pointed : (P d : ℕ) (name : List ℕ) (w : ℕ) → IsRestWord P d w → IsPointed P d (Vacant name) w
rest_pointed P d name w is = elim (cases_eq is.field 1) [
  | inl one ↦ inl (is.at ∙ ap (λ (f : ℕ). slot_word_of P d f) one)
  | inr other ↦
      let low = is.is_rest in
      let high = is.is_field in
      let back : is.field ≡ 2 + (is.field - 2) = omega (arith, low, other) in
      inr (is.field - 2, omega (arith, low, high, other), is.at ∙ ap (λ (f : ℕ). slot_word_of P d f) back)
]

pub named_stores : (P : ℕ) (moving : Moving) {a b : DeviceView} → moving.replaced ≡ None → moving.new_page ≡ None → Stores (IsRestWord P moving.to_slot) a b slot_rest_events → Stores (IsPointedWord P moving) a b (pointing_events moving)
named_stores P moving none no_page one =
    stores_weaker (pointing_events moving)
    (λ w is. subst (λ (o : Option Loss). IsPointed P moving.to_slot (target_by moving o moving.new_page) w) (sym none)
    (subst (λ (page : Option ℕ). IsPointed P moving.to_slot (target_by moving None page) w) (sym no_page) (rest_pointed P moving.to_slot (words_of_name moving.to_name) w is)))
    (subst (λ (o : Option Loss). slot_rest_events ≤ (if is_some o || is_some moving.new_page then word_events else slot_rest_events)) (sym none)
    (subst (λ (page : Option ℕ). slot_rest_events ≤ (if is_some page then word_events else slot_rest_events)) (sym no_page) (omega arith)))
    one
