-- From the commit of a rename on each mix of old and new words means what the commit leaves.
use Rattle.std.proofs.Common.{◌≡◌, ◌≢◌, ◌↔◌, ◌⊎◌, inl, inr, ℕ, ◌+◌, ◌<◌, ◌≤◌, List, Option, Some, None, refl, sym, subst, ◌∙◌, arith}
use Rattle.layout.specs.Fields.{word, inode_links, slot_inode, slot_pointer}
use Rattle.layout.specs.Geometry.{inodes_of, data_pages_of, inode_word_of, descriptor_word_of, slot_word_of}
use Rattle.layout.proofs.Widths.{in_inode, in_descriptor, same_inode_words}
use Rattle.tree_model.specs.PathText.{Route}
use Rattle.image_reading.specs.Reading.{slot_owner, Reached, IsRoomOf}
use Rattle.image_laws.specs.Drop.{ClearsRest}
use Rattle.image_laws.specs.Frame.{SameMeaning}
use Rattle.image_laws.specs.Move.{CanMove, moved}
use Rattle.image_laws.specs.Quiet.{IsMix}
use Rattle.image_laws.specs.Stages.{MayGive, MayFree}
use Rattle.image_laws.proofs.Beside.{gives_keeps, rest_keeps}
use Rattle.image_laws.proofs.Meaning.{same_chained}
use Rattle.image_laws.proofs.Paths.{reached_pos, reached-le}
use Rattle.image_laws.proofs.Stages as stages
use Rattle.rename_laws.specs.Intervals.{left, IsGone, IsGivenUp, IsCleared, IsGiven, CommitLaw, LeavingLaw, MoveClearingLaw, MoveGivingLaw, MoveFreeingLaw}
use Rattle.image_laws.specs.Links.{Falls, IsLinkWord}
use Rattle.rename_laws.specs.Ready.{IsMoveReady}
use Rattle.rename_laws.specs.Target.{Target, Vacant, Opened, Taken, Holds, CanTake, IsFalling, old_number}
use Rattle.rename_laws.proofs.MovedCounts.{IsLowered, IsFallen, IsAlmostTidy}
use Rattle.rename_laws.proofs.MovedNames as here
use Rattle.rename_laws.proofs.MovedWords as words
use Rattle.rename_laws.proofs.MovedWords.{ClearsSlots}
use Rattle.rename_laws.proofs.MoveNear as before
use Rattle.rename_laws.proofs.MoveSpare as spares
use Rattle.rename_laws.proofs.MoveSpare.{IsOut, IsSpare, HasCleared}
use Rattle.rename_laws.proofs.MoveTidy.{HasEnded}

-- ---- what goes, by the target

module _ (P : ℕ) (W C : List ℕ) (pb : Route) (s x d : ℕ) where
  gone_some : (target : Target) → CanTake P W pb s x d target → IsGone P C target
      → (old_number target ≢ 0) × (Reached P C (old_number target) → ⊥)
  gone_some (Vacant name) take gone = absurd gone
  gone_some (Opened page name) take gone = absurd gone
  gone_some (Taken r) take gone = ((λ z. take.entry.0.live.names (take.number ∙ z)), gone)

  is_gone : (target : Target) → (old_number target ≢ 0) → (Reached P C (old_number target) → ⊥) → IsGone P C target
  is_gone (Vacant name) some gone = absurd (some refl)
  is_gone (Opened page name) some gone = absurd (some refl)
  is_gone (Taken r) some gone = gone

module _ (P : ℕ) (W I : List ℕ) (pa pb : Route) (s x d : ℕ) (target : Target) (rising : Option ℕ) (ready : IsMoveReady P W I pa pb s x d target rising) where
  c : CanMove P I pa pb s d
  c = ready.can_move

  pub near : IsAlmostTidy P I s d
  near = before.near P W I pa pb s x d target rising ready

  pub commit : (M : List ℕ) → IsMix I (moved P I s d) M → (M ≡ I) ⊎ (M ≡ moved P I s d)
  commit = words.commits P I pa pb s d c

  pub leaving : (M : List ℕ) → IsMix (moved P I s d) (left P I s d) M → SameMeaning P (moved P I s d) M
  leaving = words.leaves P I pa pb s d c

  -- ---- the source's words, the pointer and the count

  lowered_links : (J : List ℕ) (falling : Option ℕ) → Holds (IsFalling P W s x target) falling → Falls (left P I s d) J falling → (y : ℕ)
      → IsLowered P I s d y
      → inode_links J y + 1 ≡ inode_links (left P I s d) y
  lowered_links J None holds falls y low = absurd (holds y ((before.lowered P W I pa pb s x d target rising ready y).1 low))
  lowered_links J (Some z) holds falls y low =
      let same : z ≡ y = words.one_falls P I pa pb s d c z y ((before.lowered P W I pa pb s x d target rising ready z).0 holds) low in
      subst (λ u. inode_links J u + 1 ≡ inode_links (left P I s d) u) same falls

  lowered_word : (falling : Option ℕ) → Holds (IsFalling P W s x target) falling → (a : ℕ)
      → ((y : ℕ) → IsLowered P I s d y → a ≢ inode_word_of y 1) → IsLinkWord falling a → ⊥
  lowered_word None holds a other is = is
  lowered_word (Some z) holds a other is = other z ((before.lowered P W I pa pb s x d target rising ready z).0 holds) is

  module _ (J : List ℕ) (falling : Option ℕ) (cleared : IsCleared P W I J s x d target falling) where
    clears : ClearsSlots P I (left P I s d) J s d
    clears = record {
      size = cleared.clears.size;
      pointer = cleared.clears.pointer;
      zeros = cleared.clears.zeros;
      links = lowered_links J falling cleared.falls cleared.clears.links;
      others = λ a pointer source other. cleared.clears.others a pointer source (lowered_word falling cleared.falls a other);
    }

    pub clearing : (M : List ℕ) → IsMix (left P I s d) J M → SameMeaning P (moved P I s d) M
    clearing = words.clears_mix P I pa pb s d c J near clears

    pub has_cleared : HasCleared P I J s d
    has_cleared = words.is_cleared P I pa pb s d c J near clears

  -- ---- what goes

  pub out_gone : IsGone P (moved P I s d) target ↔ IsOut P I (moved P I s d) d
  out_gone = (
    (λ gone.
        let (some, unreached) = gone_some P W (moved P I s d) pb s x d target ready.can.target_slot gone in
        ((λ z. some (sym ready.number ∙ z)), (λ r. unreached (subst (Reached P (moved P I s d)) ready.number r)))),
    (λ out. is_gone P W (moved P I s d) pb s x d target (λ z. out.0 (ready.number ∙ z)) (λ r. out.1 (subst (Reached P (moved P I s d)) (sym ready.number) r))),
  )

  source_owner : slot_owner P (moved P I s d) s ≡ slot_owner P I s
  source_owner = here.owner_same P I pa pb s d c s c.source.held.in_range

  pub given_spare : (j : ℕ) → IsGivenUp P (moved P I s d) s target j ↔ IsSpare P I (moved P I s d) s d j
  given_spare j = (
    (λ given. record {
      in_range = given.in_range;
      why = elim given.why [
        | inl (gone, owner) ↦ inl (out_gone.0 gone, sym ((here.only P I pa pb s d c).owner j given.in_range) ∙ owner ∙ sym ready.number)
        | inr (at, none) ↦ inr (at, (λ room. none (subst (λ y. IsRoomOf P (moved P I s d) y j) (sym source_owner) room)))
      ];
    }),
    (λ spare. record {
      in_range = spare.in_range;
      why = elim spare.why [
        | inl (out, owner) ↦ inl (out_gone.1 out, (here.only P I pa pb s d c).owner j spare.in_range ∙ owner ∙ ready.number)
        | inr (at, none) ↦ inr (at, (λ room. none (subst (λ y. IsRoomOf P (moved P I s d) y j) source_owner room)))
      ];
    }),
  )

  module _ (J G : List ℕ) (falling : Option ℕ) (given : IsGiven P W I J G s x d target falling) where
    cleared : HasCleared P I J s d
    cleared = has_cleared J falling given.cleared

    may_give : MayGive P J (IsGivenUp P (moved P I s d) s target)
    may_give = let may = spares.may_give P I pa pb s d c J near cleared in record {
      coherent = may.coherent;
      no_pointer = may.no_pointer;
      decided = λ j. elim (may.decided j) [ inl is ↦ inl ((given_spare j).1 is) | inr none ↦ inr (λ is. none ((given_spare j).0 is)) ];
      needless = λ j is. may.needless j ((given_spare j).0 is);
    }

    pub giving : (M : List ℕ) → IsMix J G M → SameMeaning P (moved P I s d) M
    giving M mix =
        same_chained P (moved P I s d) J M cleared.means (stages.giving P J G M (IsGivenUp P (moved P I s d) s target) may_give given.gives mix)

    same_given : SameMeaning P J G
    same_given = stages.same_give P J G (IsGivenUp P (moved P I s d) s target) may_give given.gives

    pub means_given : SameMeaning P (moved P I s d) G
    means_given = same_chained P (moved P I s d) J G cleared.means same_given

    gone_or_not : IsGone P (moved P I s d) target ⊎ (IsGone P (moved P I s d) target → ⊥)
    gone_or_not = elim (spares.out_or_not P I pa pb s d c) [ inl out ↦ inl (out_gone.1 out) | inr stays ↦ inr (λ gone. stays (out_gone.0 gone)) ]

    module _ (K : List ℕ) (frees : ClearsRest P G K (IsGivenUp P (moved P I s d) s target) (IsGone P (moved P I s d) target) (old_number target)) where
      -- the inode that goes, or any where none does
      record Freed : Type 0 where
        inode : ℕ
        least : 1 ≤ inode
        most : inode ≤ inodes_of P
        is : IsGone P (moved P I s d) target → inode ≡ old_number target
        rest : ClearsRest P G K (IsGivenUp P (moved P I s d) s target) (IsGone P (moved P I s d) target) inode

      freed : Freed
      freed = elim gone_or_not [
        | inl gone ↦
            let some = (out_gone.0 gone).0 in
            let reached = here.replaced_reached P I pa pb s d c some in
            record {
              inode = old_number target;
              least = (let number = ready.number in omega (arith, some, number));
              most = subst (λ y. y ≤ inodes_of P) ready.number (reached-le P I c.coherent (slot_inode P I d) reached);
              is = λ _. refl;
              rest = frees;
            }
        | inr stays ↦
            let source = here.source_reached P I pa pb s d c in
            let some = reached_pos P I (slot_inode P I s) source in
            record {
              inode = slot_inode P I s;
              least = omega (arith, some);
              most = reached-le P I c.coherent (slot_inode P I s) source;
              is = λ gone. absurd (stays gone);
              rest = record {
                size = frees.size;
                rests = frees.rests;
                inode = λ gone. absurd (stays gone);
                others = λ a pages _. frees.others a pages (λ gone. absurd (stays gone));
              };
            }
      ]

      may_free : MayFree P G (IsGivenUp P (moved P I s d) s target) (IsGone P (moved P I s d) target) freed.inode
      may_free =
          stages.may_free_then P J G (IsGivenUp P (moved P I s d) s target) may_give given.gives (IsGone P (moved P I s d) target)
          freed.inode freed.least freed.most gone_or_not
          (λ gone (q, b). (out_gone.0 gone).1 (subst (Reached P (moved P I s d)) (freed.is gone ∙ sym ready.number) (q, (cleared.means.names q freed.inode).1 b)))

      pub freeing : (M : List ℕ) → IsMix G K M → SameMeaning P (moved P I s d) M
      freeing M mix = same_chained P (moved P I s d) G M means_given
          (stages.freeing P G K M (IsGivenUp P (moved P I s d) s target) (IsGone P (moved P I s d) target) freed.inode may_free freed.rest mix)

      pub means_end : SameMeaning P (moved P I s d) K
      means_end = freeing K (record { size = frees.size; words = λ a. inr refl })

      -- ---- the words in the end

      end_descriptor : (j f : ℕ) → j < data_pages_of P → f < 8 → (IsGivenUp P (moved P I s d) s target j → ⊥)
          → word K (descriptor_word_of P j f) ≡ word I (descriptor_word_of P j f)
      end_descriptor j f lt l8 none =
          stages.left_descriptor P J G K (IsGivenUp P (moved P I s d) s target) (IsGone P (moved P I s d) target) freed.inode may_give given.gives may_free freed.rest j f lt l8 none
          ∙ cleared.descriptors j f lt l8

      end_inode : (y f : ℕ) → 1 ≤ y → y ≤ inodes_of P → f < 16 → (IsGone P (moved P I s d) target → y ≢ old_number target)
          → word K (inode_word_of y f) ≡ word J (inode_word_of y f)
      end_inode y f some most lt other =
          stages.left_inode P J G K (IsGivenUp P (moved P I s d) s target) (IsGone P (moved P I s d) target) freed.inode may_give given.gives may_free freed.rest y f some most lt
          (λ gone e. other gone (e ∙ freed.is gone))

      end_slot : (t f : ℕ) → word K (slot_word_of P t f) ≡ word J (slot_word_of P t f)
      end_slot = stages.left_slot P J G K (IsGivenUp P (moved P I s d) s target) (IsGone P (moved P I s d) target) freed.inode may_give given.gives may_free freed.rest

      other_gone : (y : ℕ) → (IsOut P I (moved P I s d) d → y ≢ slot_inode P I d) → IsGone P (moved P I s d) target → y ≢ old_number target
      other_gone y other gone e = other (out_gone.0 gone) (e ∙ sym ready.number)

      end_links : (y : ℕ) → 1 ≤ y → y ≤ inodes_of P → (IsGone P (moved P I s d) target → y ≢ old_number target)
          → inode_links K y ≡ inode_links J y
      unfolding inode_links
      end_links y some most other = end_inode y 1 some most (omega arith) other

      version_freed : word K 1 ≡ word G 1
      unfolding word
      version_freed = rest_keeps P G K (IsGivenUp P (moved P I s d) s target) (IsGone P (moved P I s d) target) (old_number target) frees 1 (omega arith)

      pub has_ended : HasEnded P I K s d
      unfolding word slot_inode slot_pointer
      has_ended = record {
        means = means_end;
        descriptors = λ j f lt read none. end_descriptor j f lt (in_descriptor I f read) (λ is. none ((given_spare j).0 is));
        spare = λ j f is lt. stages.given_zero P J G K (IsGivenUp P (moved P I s d) s target) (IsGone P (moved P I s d) target) freed.inode may_give given.gives may_free freed.rest j f ((given_spare j).1 is) lt;
        inodes = λ y f some most read ne other. let lt = in_inode I f read in end_inode y f some most lt (other_gone y other) ∙ cleared.inodes y f some most lt ne;
        links = λ y some most other. subst (IsFallen P I s d y) (sym (end_links y some most (other_gone y other))) (cleared.links y some most);
        out = λ out f lt. subst (λ y. word K (inode_word_of y f) ≡ 0) (sym ready.number)
            (frees.inode (out_gone.1 out) f (subst (λ n. f < n) (same_inode_words G K version_freed) lt));
        slots = λ t f ns nd lt. end_slot t f ∙ cleared.slots t f ns nd lt;
        source = λ f lt. end_slot s f ∙ cleared.source f lt;
        number = end_slot d 0 ∙ cleared.number;
        name = λ f low lt. end_slot d f ∙ cleared.name f low lt;
        pointer = end_slot d 1 ∙ cleared.pointer;
        version = version_freed ∙ gives_keeps P J G (IsGivenUp P (moved P I s d) s target) given.gives 1 (omega arith) ∙ cleared.version;
      }

-- ---- the laws

pub commit_law : CommitLaw
commit_law P W I M pa pb s x d target rising ready mix = commit P W I pa pb s x d target rising ready M mix

pub leaving_law : LeavingLaw
leaving_law P W I M pa pb s x d target rising ready mix = leaving P W I pa pb s x d target rising ready M mix

pub clearing_law : MoveClearingLaw
clearing_law P W I J M pa pb s x d target rising falling ready cleared mix =
    clearing P W I pa pb s x d target rising ready J falling cleared M mix

pub giving_law : MoveGivingLaw
giving_law P W I J G M pa pb s x d target rising falling ready given mix = giving P W I pa pb s x d target rising ready J G falling given M mix

pub freeing_law : MoveFreeingLaw
freeing_law P W I J G K M pa pb s x d target rising falling ready ends mix =
    freeing P W I pa pb s x d target rising ready J G falling ends.given K ends.frees M mix
