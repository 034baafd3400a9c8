-- What stands before a step of a removal, from what stood before the step before it, by the words that this one made: I before it, J after it.
use Rattle.std.proofs.Common.{◌≡◌, ◌≢◌, ◌⊎◌, inl, inr, ℕ, ◌+◌, ◌*◌, ◌<◌, ◌≤◌, true, List, length, Option, Some, None, refl, sym, ap, subst, ◌∙◌, arith}
use Rattle.std.proofs.Common.{get_or-set_same, get_or-set_other}
use Rattle.std.proofs.lemmas.Bool.{cases_eq}
use Rattle.std.proofs.lemmas.List.{get_or_default}
use Rattle.layout.specs.declared.kinds.NodeKind.{NodeKind}
use Rattle.layout.specs.declared.kinds.NodeKind.TheVariants.{File}
use Rattle.layout.specs.Fields.{word, inode_kind, inode_links, inode_own, page_owner, page_kind, slot_inode, slot_pointer}
use Rattle.layout.specs.Geometry.{inodes_of, data_pages_of, page_of_slot, inode_word_of, descriptor_word_of, slot_word_of}
use Rattle.layout.specs.Name.{IsNameWords}
use Rattle.layout.proofs.GeometryLaws.{page_of_slot_below, same_inode_word, same_descriptor_word, same_slot_word, slot_word_within, inode_word_not_descriptor_word, inode_word_not_slot_word, descriptor_word_not_slot_word}
use Rattle.inode_state.specs.States.{IsLive as IsNode}
use Rattle.inode_state.specs.Inode.{fields_at}
use Rattle.inode_state.specs.Unused.{IsHeldSlot}
use Rattle.inode_state.proofs.InodeLaws.{same_fields_at}
use Rattle.image_laws.specs.Drop.{ClearsName, GivesPages, dropped}
use Rattle.image_laws.proofs.Words.{slot_words-same}
use Rattle.volume.specs.declared.plan.Removal.{Removal}
use Rattle.removal_steps.specs.Steps.{HasLink, AreFilePages, IsLeft, IsEmptied, MayEmpty, MayClear, CanClear, CanDisown, CanClearRest, IsCut}
use Rattle.removal_steps.proofs.Kept.{still_file_pages}
use Rattle.removal_steps.proofs.Stages.{rest_stays, were_file_pages, may_be_emptied}
use Rattle.unlink_ops.specs.RemovalStages.{MayEmptyBut, HasLastLink, IsGoingBut, IsThere, IsUnnamed}
use Rattle.unlink_ops.specs.Taking.{falling_by}

-- Neither a descriptor nor an inode's kind and own number changes; of the slots' numbers only those of a name do, which become 0.
record KeepsBut (P : ℕ) (I J : List ℕ) (IsName : ℕ → Type 0) : Type 0 where
  pub descriptors : (j f : ℕ) → j < data_pages_of P → f < 8 → word J (descriptor_word_of P j f) ≡ word I (descriptor_word_of P j f)
  pub inodes : (i f : ℕ) → 1 ≤ i → i ≤ inodes_of P → f < 16 → f ≢ 1 → word J (inode_word_of i f) ≡ word I (inode_word_of i f)
  pub decided : (slot : ℕ) → IsName slot ⊎ (IsName slot → ⊥)
  pub zeros : (slot : ℕ) → IsName slot → slot_inode P J slot ≡ 0
  pub numbers : (slot : ℕ) → (IsName slot → ⊥) → slot_inode P J slot ≡ slot_inode P I slot

module _ {P : ℕ} {I J : List ℕ} {IsName : ℕ → Type 0} (keeps : KeepsBut P I J IsName) where
  file_kept : (inode : ℕ) (pages : List ℕ) → AreFilePages P I inode pages → AreFilePages P J inode pages
  file_kept inode pages file = still_file_pages P I J inode pages keeps.descriptors file

  emptied_kept : (page : ℕ) → page < data_pages_of P → page_owner P I page ≢ 0 → page_kind P I page ≡ 2 → ((slot : ℕ) → page_of_slot slot ≡ page → (IsName slot → ⊥) → slot_inode P I slot ≡ 0) → IsEmptied P J page
  unfolding page_owner page_kind
  emptied_kept page low owned kind slots = record {
    in_range = low;
    owned = λ none. owned (sym (keeps.descriptors page 0 low (omega arith)) ∙ none);
    kind = keeps.descriptors page 1 low (omega arith) ∙ kind;
    slots = λ slot stands. elim (keeps.decided slot) [ inl is ↦ keeps.zeros slot is | inr other ↦ keeps.numbers slot other ∙ slots slot stands other ];
  }

  held_before : (slot : ℕ) → IsHeldSlot P J slot → IsHeldSlot P I slot
  unfolding page_owner page_kind
  held_before slot held =
      let low = page_of_slot_below P slot held.in_range in
      record {
        in_range = held.in_range;
        owned = λ none. held.owned (keeps.descriptors (page_of_slot slot) 0 low (omega arith) ∙ none);
        kind = sym (keeps.descriptors (page_of_slot slot) 1 low (omega arith)) ∙ held.kind;
      }

  going_kept : (removal : Removal) (pages : List ℕ) → IsGoingBut P I removal pages IsName → IsGoingBut P J removal pages (λ slot. ⊥)
  unfolding inode_kind inode_own page_owner
  going_kept removal pages going = record {
    least = going.least;
    most = going.most;
    kind_is = keeps.inodes removal.loss.inode 0 going.least going.most (omega arith) (λ same. omega (arith, same)) ∙ going.kind_is;
    own = keeps.inodes removal.loss.inode 3 going.least going.most (omega arith) (λ same. omega (arith, same)) ∙ going.own;
    unowned = λ page low out same. going.unowned page low out (sym (keeps.descriptors page 0 low (omega arith)) ∙ same);
    unnamed = λ slot held none same. elim (keeps.decided slot) [
      | inl is ↦ (let zero = keeps.zeros slot is in let least = going.least in omega (arith, zero, least, same))
      | inr other ↦ going.unnamed slot (held_before slot held) other (sym (keeps.numbers slot other) ∙ same)
    ];
  }

-- ---- the slot's number becomes 0

module _ (P : ℕ) (I : List ℕ) (removal : Removal) (pages : List ℕ) (whole : length I ≡ 512 * P) (there : IsThere P I removal pages) where
  abbrev A : List ℕ
  A = dropped P I removal.slot

  word_kept : (a : ℕ) → a ≢ slot_word_of P removal.slot 0 → word A a ≡ word I a
  unfolding word
  word_kept a other = get_or-set_other I (slot_word_of P removal.slot 0) a 0 0 other

  number_zero : slot_inode P A removal.slot ≡ 0
  unfolding slot_inode word
  number_zero = let inside = slot_word_within P removal.slot 0 there.named.in_range (omega arith) in get_or-set_same I (slot_word_of P removal.slot 0) 0 0 (omega (arith, inside, whole))

  number_kept : (slot : ℕ) → (slot ≡ removal.slot → ⊥) → slot_inode P A slot ≡ slot_inode P I slot
  unfolding slot_inode
  number_kept slot other = word_kept (slot_word_of P slot 0) (λ same. other (same_slot_word P slot removal.slot 0 0 (omega arith) (omega arith) same).0)

  inode_kept : (i f : ℕ) → 1 ≤ i → i ≤ inodes_of P → f < 16 → word A (inode_word_of i f) ≡ word I (inode_word_of i f)
  inode_kept i f least most few = word_kept (inode_word_of i f) (inode_word_not_slot_word P i removal.slot f 0 least most few)

  keeps_but : KeepsBut P I A (λ slot. slot ≡ removal.slot)
  keeps_but = record {
    descriptors = λ j f low few. word_kept (descriptor_word_of P j f) (descriptor_word_not_slot_word P j removal.slot f 0 low few);
    inodes = λ i f least most few other. inode_kept i f least most few;
    decided = λ slot. cases_eq slot removal.slot;
    zeros = λ slot same. ap (slot_inode P A) same ∙ number_zero;
    numbers = number_kept;
  }

  fields_kept : (i : ℕ) → 1 ≤ i → i ≤ inodes_of P → fields_at A i ≡ fields_at I i
  unfolding word
  fields_kept i least most = same_fields_at i I A (λ w own. let few = own.is_field in word_kept w (λ same. inode_word_not_slot_word P i removal.slot own.field 0 least most (omega (arith, few)) (sym own.at ∙ same)))

  still_linked : (inode : ℕ) → HasLink P I inode → HasLink P A inode
  unfolding inode_links
  still_linked inode linked = record {
    least = linked.least;
    most = linked.most;
    node = subst (IsNode inode) (sym (fields_kept inode linked.least linked.most)) linked.node;
    some_link = (let same = inode_kept inode 1 linked.least linked.most (omega arith) in let some = linked.some_link in omega (arith, same, some));
  }

  can_clear : CanClear P A removal.slot (falling_by removal.loss.kind removal)
  unfolding slot_pointer
  can_clear = record {
    in_range = there.named.in_range;
    named = (
      number_zero,
      word_kept (slot_word_of P removal.slot 1) (λ same. let field = (same_slot_word P removal.slot removal.slot 1 0 (omega arith) (omega arith) same).1 in omega (arith, field)) ∙ there.named.live.1,
      subst IsNameWords
          (sym (slot_words-same P I A removal.slot (λ f few. word_kept (slot_word_of P removal.slot (2 + f)) (λ same. let field = (same_slot_word P removal.slot removal.slot (2 + f) 0 (omega (arith, few)) (omega arith) same).1 in omega (arith, field)))))
          there.named.live.2,
    );
    linked = still_linked (falling_by removal.loss.kind removal) there.linked;
  }

  last_kept : (inode : ℕ) → 1 ≤ inode → inode ≤ inodes_of P → removal.loss.inode ≡ inode → HasLastLink I removal → HasLastLink A removal
  unfolding inode_links
  last_kept inode least most same last =
      let low : 1 ≤ removal.loss.inode = omega (arith, same, least) in
      let high : removal.loss.inode ≤ inodes_of P = omega (arith, same, most) in
      record {
        kind = last.kind;
        node = subst (IsNode removal.loss.inode) (sym (fields_kept removal.loss.inode low high)) last.node;
        links = inode_kept removal.loss.inode 1 low high (omega arith) ∙ last.links;
      }

  emptied_after : (given : Option ℕ) → MayEmptyBut P I removal.slot given → MayEmpty P A given
  emptied_after None may = tt
  emptied_after (Some page) may = emptied_kept keeps_but page may.in_range may.owned may.kind may.slots

  -- the file is the node that loses the link
  file_falls : removal.loss.kind ≡ File → falling_by removal.loss.kind removal ≡ removal.loss.inode
  file_falls file = ap (λ (node : NodeKind). falling_by node removal) file

  unnamed_here : IsUnnamed P A removal pages
  unnamed_here = record {
    clear = can_clear;
    file = file_kept keeps_but removal.loss.inode pages there.file;
    last = λ some. let is = there.last some in last_kept (falling_by removal.loss.kind removal) there.linked.least there.linked.most (sym (file_falls is.kind)) is;
    emptied = emptied_after removal.given_back there.emptied;
    going = λ goes. going_kept keeps_but removal pages (there.going goes);
  }

pub unnamed : (P : ℕ) (I J : List ℕ) (removal : Removal) (pages : List ℕ) → length I ≡ 512 * P → IsThere P I removal pages → J ≡ dropped P I removal.slot → IsUnnamed P J removal pages
unnamed P I J removal pages whole there made = subst (λ (l : List ℕ). IsUnnamed P l removal pages) (sym made) (unnamed_here P I removal pages whole there)

-- ---- the rest of the slot is 0, and the node has a link less

module _ (P : ℕ) (I J : List ℕ) (removal : Removal) (pages : List ℕ) (before : IsUnnamed P I removal pages) (clears : ClearsName P I J removal.slot (falling_by removal.loss.kind removal)) where
  abbrev y : ℕ
  y = falling_by removal.loss.kind removal

  keeps_all : KeepsBut P I J (λ slot. ⊥)
  unfolding slot_inode
  keeps_all =
      let least = before.clear.linked.least in
      let most = before.clear.linked.most in
      record {
        descriptors = λ j f low few. clears.others (descriptor_word_of P j f) (λ g from upto. descriptor_word_not_slot_word P j removal.slot f g low few) (λ same. inode_word_not_descriptor_word P y j 1 f least most (omega arith) (sym same));
        inodes = λ i f low high few other. clears.others (inode_word_of i f) (λ g from upto. inode_word_not_slot_word P i removal.slot f g low high few) (λ same. other (same_inode_word i y f 1 low least few (omega arith) same).1);
        decided = λ slot. inr (λ none. none);
        zeros = λ slot none. absurd none;
        numbers = λ slot none. clears.others (slot_word_of P slot 0) (λ g from upto same. let field = (same_slot_word P slot removal.slot 0 g (omega arith) upto same).1 in omega (arith, from, field)) (λ same. inode_word_not_slot_word P y slot 1 0 least most (omega arith) (sym same));
      }

  emptied_still : (given : Option ℕ) → MayEmpty P I given → MayEmpty P J given
  emptied_still None may = tt
  emptied_still (Some page) may = emptied_kept keeps_all page may.in_range may.owned may.kind (λ slot stands none. may.slots slot stands)

  left_by : y ≡ removal.loss.inode → HasLastLink I removal → IsLeft P J removal.loss.inode
  unfolding inode_kind inode_own
  left_by same last =
      let low : 1 ≤ removal.loss.inode = (let least = before.clear.linked.least in omega (arith, same, least)) in
      let high : removal.loss.inode ≤ inodes_of P = (let most = before.clear.linked.most in omega (arith, same, most)) in
      let kind = keeps_all.inodes removal.loss.inode 0 low high (omega arith) (λ same. omega (arith, same)) in
      record {
        least = low;
        most = high;
        node = (
          elim last.node.0 [ inl file ↦ inl (kind ∙ file) | inr directory ↦ inr (kind ∙ directory) ],
          keeps_all.inodes removal.loss.inode 3 low high (omega arith) (λ same. omega (arith, same)) ∙ last.node.1,
        );
        no_links = (let fewer = subst (λ (i : ℕ). inode_links J i + 1 ≡ inode_links I i) same clears.links in let one = last.links in omega (arith, fewer, one));
      }

  pub can_disown : CanDisown P J (Some removal.loss) pages removal.given_back
  can_disown = record {
    file = file_kept keeps_all removal.loss.inode pages before.file;
    left = λ some. let last = before.last some in left_by (ap (λ (node : NodeKind). falling_by node removal) last.kind) last;
    emptied_is = emptied_still removal.given_back before.emptied;
  }

  pub still_going : removal.loss.goes ≡ true → IsGoingBut P J removal pages (λ slot. ⊥)
  still_going goes = going_kept keeps_all removal pages (before.going goes)

-- ---- the pages lose their owners

module _ (P : ℕ) (I J : List ℕ) (removal : Removal) (pages : List ℕ) (disown : CanDisown P I (Some removal.loss) pages removal.given_back) (going : removal.loss.goes ≡ true → IsGoingBut P I removal pages (λ slot. ⊥))
    (gives : GivesPages P I J (IsCut pages removal.given_back)) where
  emptied_low : (given : Option ℕ) (page : ℕ) → MayEmpty P I given → given ≡ Some page → page < data_pages_of P
  emptied_low given page may is = let emptied : IsEmptied P I page = subst (MayEmpty P I) is may in emptied.in_range

  cut_low : (page : ℕ) → IsCut pages removal.given_back page → page < data_pages_of P
  cut_low page (inl (k, inside, is)) = subst (λ (j : ℕ). j < data_pages_of P) (get_or_default pages k 0 page inside ∙ is) (disown.file.in_range.each k inside)
  cut_low page (inr is) = emptied_low removal.given_back page disown.emptied_is is

  -- a page that still has an owner has the one that it had
  owner_kept : (page : ℕ) → page_owner P J page ≢ 0 → page_owner P J page ≡ page_owner P I page
  unfolding page_owner
  owner_kept page owned =
      gives.others (descriptor_word_of P page 0)
      (λ other cut same. owned (ap (page_owner P J) (same_descriptor_word P page other 0 0 (omega arith) (omega arith) same).0 ∙ gives.owners other cut))

  was_held : (slot : ℕ) → IsHeldSlot P J slot → IsHeldSlot P I slot
  unfolding page_kind
  was_held slot held = record {
    in_range = held.in_range;
    owned = λ none. held.owned (owner_kept (page_of_slot slot) held.owned ∙ none);
    kind = sym (rest_stays P I J pages removal.given_back gives (page_of_slot slot) 1 (omega arith) (λ same. omega (arith, same))) ∙ held.kind;
  }

  number_same : (slot : ℕ) → slot_inode P J slot ≡ slot_inode P I slot
  unfolding slot_inode
  number_same slot = gives.others (slot_word_of P slot 0) (λ j cut same. descriptor_word_not_slot_word P j slot 0 0 (cut_low j cut) (omega arith) (sym same))

  may_clear : removal.loss.goes ≡ true → MayClear P J removal.loss.kind removal.loss.inode
  unfolding inode_kind inode_own
  may_clear goes =
      let is = going goes in
      let least = is.least in
      let same_word : (f : ℕ) → f < 16 → word J (inode_word_of removal.loss.inode f) ≡ word I (inode_word_of removal.loss.inode f)
      = λ f few. gives.others (inode_word_of removal.loss.inode f) (λ j cut. inode_word_not_descriptor_word P removal.loss.inode j f 0 is.least is.most few) in
      record {
        least = is.least;
        most = is.most;
        kind_is = same_word 0 (omega arith) ∙ is.kind_is;
        own = same_word 3 (omega arith) ∙ is.own;
        unowned = λ page low same.
            let some : page_owner P J page ≢ 0 = λ none. omega (arith, least, same, none) in
            is.unowned page low (λ among. some (gives.owners page (inl among))) (sym (owner_kept page some) ∙ same);
        unnamed = λ slot held same. is.unnamed slot (was_held slot held) (λ none. none) (sym (number_same slot) ∙ same);
      }

  pub can_clear_rest : CanClearRest P J (Some removal.loss) pages removal.given_back
  can_clear_rest = record {
    pages_are = were_file_pages P I J pages removal.given_back gives removal.loss.inode disown.file;
    emptied_is = may_be_emptied P I J pages removal.given_back gives removal.given_back refl disown.emptied_is;
    going = may_clear;
  }
