-- Slot d takes the number, and then slot s gives it up: what each of these words leaves to be repaired.
use Rattle.std.proofs.Common.{◌≡◌, ◌≢◌, inl, inr, ℕ, ◌+◌, ◌<◌, ◌≤◌, Bool, List, Option, Some, sym, ap, subst, ◌∙◌, arith}
use Rattle.layout.specs.Fields.{word, inode_links, slot_inode, slot_pointer, slot_words}
use Rattle.layout.specs.Geometry.{inodes_of, inode_word_of, descriptor_word_of, slot_word_of}
use Rattle.layout.specs.Name.{IsNameWords}
use Rattle.tree_model.specs.PathText.{Route}
use Rattle.image_reading.specs.Repairs.{IsPointer}
use Rattle.image_reading.specs.Residue.{IsTidyBeside}
use Rattle.image_reading.specs.Soundness.{Rule}
use Rattle.image_laws.specs.Move.{CanMove, moved}
use Rattle.image_laws.proofs.Addresses.{head-ne_slot, descriptor-ne_slot, inode-ne_slot, slot-ne_slot, slot-ne_field}
use Rattle.image_laws.proofs.Meaning.{same_itself}
use Rattle.image_laws.proofs.Words.{other_word, slot_words-same}
use Rattle.rename_laws.specs.Target.{Target, old_number}
use Rattle.rename_laws.specs.Ready.{IsMoveReady}
use Rattle.rename_laws.specs.Intervals.{left}
use Rattle.rename_laws.proofs.MovedNames as here
use Rattle.rename_laws.proofs.MovedWords as words
use Rattle.rename_laws.proofs.MoveNear as before
use Rattle.weave_laws.proofs.Named.{name_nonzero}
use Rattle.moving_laws.specs.Moving.{GoesWithMove, moved_left, MovedLaw, LeftLaw}
use Rattle.moving_laws.proofs.Behind as behind_it
use Rattle.moving_laws.proofs.Behind.{IsBehind}
use Rattle.moving_laws.proofs.GoneWith as gone
use Rattle.moving_laws.proofs.Lists.{same_some}

-- ---- the words that the commit leaves

module _ (P : ℕ) (I : List ℕ) (pa pb : Route) (s d : ℕ) (c : CanMove P I pa pb s d) where
  moved_word : (a : ℕ) → a ≢ slot_word_of P d 0 → word (moved P I s d) a ≡ word I a
  moved_word a ne = other_word I (slot_word_of P d 0) (slot_inode P I s) a ne

  moved_pointer : (t : ℕ) → slot_pointer P (moved P I s d) t ≡ slot_pointer P I t
  moved_pointer = (here.only P I pa pb s d c).pointer

  moved_links : (y : ℕ) → 1 ≤ y → y ≤ inodes_of P → inode_links (moved P I s d) y ≡ inode_links I y
  unfolding inode_links
  moved_links y some most = moved_word (inode_word_of y 1) (inode-ne_slot P y 1 d 0 some most (omega arith))

  source_pointer : slot_pointer P I s ≡ 0
  source_pointer = c.alone s c.source.held (here.apart P I pa pb s d c)

  moved_behind : IsBehind P I (moved P I s d) s d
  moved_behind = record {
    means = same_itself P (moved P I s d) (here.after P I pa pb s d c).coherent;
    descriptors = λ j f lt l8. moved_word (descriptor_word_of P j f) (descriptor-ne_slot P j f d 0 lt l8);
    inodes = λ y f some most lt ne. moved_word (inode_word_of y f) (inode-ne_slot P y f d 0 some most lt);
    links = λ y some most. inl (moved_links y some most);
    slots = λ t f ns nd lt. moved_word (slot_word_of P t f) (slot-ne_slot P t f d 0 lt (omega arith) nd);
    number = here.number_new P I pa pb s d c;
    pointer = inr (moved_pointer d ∙ c.pointer);
    source = moved_pointer s ∙ source_pointer;
    dead = λ live. live.stays d (here.held_forward P I pa pb s d c d c.held) (moved_pointer d ∙ c.pointer) (here.number_new P I pa pb s d c ∙ sym (here.source_number P I pa pb s d c));
    version = moved_word 1 (head-ne_slot P d 0 1 (omega arith));
  }

  -- slot s still has its number
  moved_nonzero : (f : ℕ) × (f < 16) × (word (moved P I s d) (slot_word_of P s f) ≢ 0)
  unfolding slot_inode
  moved_nonzero = (0, omega arith, (λ z. c.source.names (sym (here.source_number P I pa pb s d c) ∙ z)))

  -- ---- and those where slot s has given it up

  other_slots : d ≢ s
  other_slots e = here.apart P I pa pb s d c (sym e)

  left_pointer : (t : ℕ) → slot_pointer P (left P I s d) t ≡ slot_pointer P I t
  unfolding slot_pointer
  left_pointer t = words.left_word P I pa pb s d c (slot_word_of P t 1) (slot-ne_field P t 1 s 0 (omega arith) (omega arith) (λ e. omega (arith, e))) (slot-ne_field P t 1 d 0 (omega arith) (omega arith) (λ e. omega (arith, e)))

  left_links : (y : ℕ) → 1 ≤ y → y ≤ inodes_of P → inode_links (left P I s d) y ≡ inode_links I y
  unfolding inode_links
  left_links y some most = words.left_word P I pa pb s d c (inode_word_of y 1) (inode-ne_slot P y 1 s 0 some most (omega arith)) (inode-ne_slot P y 1 d 0 some most (omega arith))

  left_target : slot_inode P (left P I s d) d ≡ slot_inode P (moved P I s d) d
  unfolding slot_inode
  left_target = other_word (moved P I s d) (slot_word_of P s 0) 0 (slot_word_of P d 0) (slot-ne_slot P d 0 s 0 (omega arith) (omega arith) other_slots)

  left_behind : IsBehind P I (left P I s d) s d
  left_behind = record {
    means = words.same_left P I pa pb s d c;
    descriptors = λ j f lt l8. words.left_word P I pa pb s d c (descriptor_word_of P j f) (descriptor-ne_slot P j f s 0 lt l8) (descriptor-ne_slot P j f d 0 lt l8);
    inodes = λ y f some most lt ne. words.left_word P I pa pb s d c (inode_word_of y f) (inode-ne_slot P y f s 0 some most lt) (inode-ne_slot P y f d 0 some most lt);
    links = λ y some most. inl (left_links y some most);
    slots = λ t f ns nd lt. words.left_word P I pa pb s d c (slot_word_of P t f) (slot-ne_slot P t f s 0 lt (omega arith) ns) (slot-ne_slot P t f d 0 lt (omega arith) nd);
    number = left_target ∙ here.number_new P I pa pb s d c;
    pointer = inr (left_pointer d ∙ c.pointer);
    source = left_pointer s ∙ source_pointer;
    dead = λ live. live.names (words.left_number P I pa pb s d c);
    version = words.left_word P I pa pb s d c 1 (head-ne_slot P s 0 1 (omega arith)) (head-ne_slot P d 0 1 (omega arith));
  }

  left_name : slot_words P (left P I s d) s ≡ slot_words P I s
  left_name = slot_words-same P I (left P I s d) s (λ f lt. words.left_word P I pa pb s d c (slot_word_of P s (2 + f))
      (slot-ne_field P s (2 + f) s 0 (omega (arith, lt)) (omega arith) (λ e. omega (arith, e))) (slot-ne_field P s (2 + f) d 0 (omega (arith, lt)) (omega arith) (λ e. omega (arith, e))))

  -- it still has its name
  left_nonzero : (f : ℕ) × (f < 16) × (word (left P I s d) (slot_word_of P s f) ≢ 0)
  left_nonzero = name_nonzero P (left P I s d) s (subst IsNameWords (sym left_name) (c.coherent Rule.names s (here.source_slot P I pa pb s d c)))

-- ---- in both slot d points at slot s

module _ (P : ℕ) (W I Y : List ℕ) (pa pb : Route) (s x d : ℕ) (target : Target) (rising : Option ℕ) (ready : IsMoveReady P W I pa pb s x d target rising) (given_back : Option ℕ) (pages : List ℕ)
    (goes : Bool) (falling : Option ℕ) (with : GoesWithMove P W (moved P I s d) s x target given_back pages goes falling) (behind : IsBehind P I Y s d)
    (pointer : slot_pointer P Y d ≡ s + 1) (nonzero : (f : ℕ) × (f < 16) × (word Y (slot_word_of P s f) ≢ 0)) (links : (y : ℕ) → 1 ≤ y → y ≤ inodes_of P → inode_links Y y ≡ inode_links I y) where
  only_pointer : (t : ℕ) → IsPointer P Y t → t ≡ d
  only_pointer = behind_it.only_pointer P I Y pa pb s d ready.can_move (before.near P W I pa pb s x d target rising ready) behind

  d_pointer : IsPointer P Y d
  d_pointer = record { held = behind_it.d_held P I Y pa pb s d ready.can_move (before.near P W I pa pb s x d target rising ready) behind; nonzero = λ z. omega (arith, pointer, z) }

  committed : IsTidyBeside P Y (moved_left s d given_back pages goes (old_number target) falling)
  committed = record {
    of_pointer = λ t. ((λ e. subst (IsPointer P Y) (same_some d t e) d_pointer), (λ l. ap Some (sym (only_pointer t l))));
    of_slots = gone.of_slots P W I pa pb s x d target rising ready given_back pages goes falling with Y behind nonzero;
    of_pages = gone.of_pages P W I pa pb s x d target rising ready given_back pages goes falling with Y behind;
    of_inodes = gone.of_inodes P W I pa pb s x d target rising ready given_back pages goes falling with Y behind;
    of_counts = gone.of_counts P W I pa pb s x d target rising ready given_back pages goes falling with Y behind links;
    kinds = gone.kinds P W I pa pb s x d target rising ready given_back pages goes falling with Y behind;
    marks = gone.marks P W I pa pb s x d target rising ready given_back pages goes falling with Y behind;
  }

pub moved_law : MovedLaw
moved_law P W I pa pb s x d target rising given_back pages goes falling ready with =
    let c = ready.can_move in
    committed P W I (moved P I s d) pa pb s x d target rising ready given_back pages goes falling with (moved_behind P I pa pb s d c) (moved_pointer P I pa pb s d c d ∙ c.pointer)
    (moved_nonzero P I pa pb s d c) (moved_links P I pa pb s d c)

pub left_law : LeftLaw
left_law P W I pa pb s x d target rising given_back pages goes falling ready with =
    let c = ready.can_move in
    committed P W I (left P I s d) pa pb s x d target rising ready given_back pages goes falling with (left_behind P I pa pb s d c) (left_pointer P I pa pb s d c d ∙ c.pointer)
    (left_nonzero P I pa pb s d c) (left_links P I pa pb s d c)
