-- The new page of a name gets its owner: the name waits in a page of the directory then, and what is to be repaired is the same.
use Rattle.std.proofs.Common.{◌≡◌, ◌↔◌, inl, inr, ℕ, ◌-◌, ◌<◌, List, [], ◌∷◌, Option, Some, None, refl, sym, ap, subst, ◌∙◌, arith}
use Rattle.pm_trait.specs.DeviceView.{DeviceView}
use Rattle.layout.specs.declared.fields.SlotFields.{SlotFields}
use Rattle.layout.specs.Geometry.{data_pages_of, page_of_slot}
use Rattle.layout.specs.Fields.{page_owner, page_kind, slot_words, slot_name}
use Rattle.layout.specs.Name.{IsNameWords, name_in_words}
use Rattle.layout.proofs.GeometryLaws.{slot_below}
use Rattle.tree_model.specs.PathText.{Route}
use Rattle.tree_model.specs.Run.{State}
use Rattle.image_reading.specs.Counts.{IsIn}
use Rattle.image_reading.specs.Reading.{IsDirectory, slot_owner, Reached}
use Rattle.image_reading.specs.Residue.{Residue, IsTidyBeside}
use Rattle.image_counts.specs.Entries.{IsFreePage, IsUnusedPage}
use Rattle.image_laws.specs.Create.{owned}
use Rattle.image_laws.specs.Stages.{IsEmptyPage}
use Rattle.image_laws.proofs.Free.{entries_stores}
use Rattle.image_laws.proofs.NewPage.{owned_owner, owned_slot, owned_descriptor, owned_stores}
use Rattle.image_laws.proofs.Paths.{reached_pos}
use Rattle.dentry_state.specs.Dentry.{slot_fields_at}
use Rattle.weave_laws.specs.Joined.{joined}
use Rattle.weave_laws.specs.Naming.{pages_left, IsWrittenPlace}
use Rattle.weave_laws.specs.Waiting.{WaitsBeside, IsWaitingName}
use Rattle.weave_laws.proofs.OwnWords.{owned_words_law}
use Rattle.weave_laws.proofs.PagedOwned.{page_owned_law}
use Rattle.weave_laws.proofs.PagedQuiet.{owning_quiet_law}
use Rattle.weave_laws.proofs.WaitingPlans.{waiting_claiming_law}
use Rattle.volume.specs.Volume.{VolumeView}
use Rattle.volume.specs.Beside.{KnowsBeside}
use Rattle.volume.specs.Costs.{commit_events}
use Rattle.volume.proofs.Moments.{with_kept}
use Rattle.entry_steps.specs.Steps.{owning}
use Rattle.entry_steps.specs.Waiting.{IsPageAt}
use Rattle.entry_steps.proofs.Named.{slot_as_owned}
use Rattle.waiting_laws.specs.Beside.{StandsWith, MakesStep, Leaves, KeepsMeaning}
use Rattle.waiting_laws.specs.Naming.{IsUnclaimedName}
use Rattle.image_counts.proofs.Distinct.{in_front}
use Rattle.knowing_laws.proofs.Quiet.{quiet_known_law}
use Rattle.waiting_laws.proofs.Standing.{waits}
use Rattle.waiting_laws.proofs.NamingBegun.{knows_kept, name_held, crash_quiet, waits_on}
use Rattle.waiting_laws.proofs.NamingQuiet.{IsQuietStep, keeps_entries, keeps_owners, takes_numbers}

-- The new page has its owner, and the name waits in it; what is to be repaired is the same.
pub record IsClaimed (P : ℕ) (I J : List ℕ) (state : State) (path : Route) (d s page : ℕ) (residue : Residue) : Type 0 where
  pub step : IsQuietStep P I J [] (page ∷ []) []
  pub tidy : IsTidyBeside P J residue
  pub name : IsWaitingName P J state.tree path d s
  pub place : IsWrittenPlace P J s (Some page)
  pub unused : IsUnusedPage P I page ↔ IsUnusedPage P J page

module _ {P : ℕ} {I : List ℕ} {state : State} {path : Route} {d s page : ℕ} {own others : Residue} (waits : WaitsBeside P I own others state) (name : IsUnclaimedName P I state.tree path d s page) (low : page < data_pages_of P) where
  claimable : Reached P I d × IsDirectory I d × IsEmptyPage P I page
  claimable = waiting_claiming_law P I state d page own others waits name.directory name.unowned name.bare

  abbrev J : List ℕ
  J = owned P I page d

  free : IsFreePage P I page
  free = (low, name.unowned)

  -- no reached slot stands in a page without an owner
  step : IsQuietStep P I J [] (page ∷ []) []
  unfolding slot_owner
  step = record {
    coherent = waits.holds.coherent;
    range = record { of_pages = λ j among. elim among [ inl is ↦ subst (λ x. x < data_pages_of P) (sym is) low | inr none ↦ absurd none ]; of_inodes = λ x none. absurd none };
    stores = owned_words_law P I page d;
    entries = entries_stores P I J waits.holds.coherent (owned_stores P I page d waits.holds.coherent claimable.0 claimable.1 low name.unowned claimable.2.kind claimable.2.numbers claimable.2.pointers);
    apart = λ t reached. (
      (λ none. none),
      (λ among. elim among [
        | inl is ↦ reached_pos P I (page_owner P I (page_of_slot t)) reached.owner (ap (page_owner P I) is ∙ name.unowned)
        | inr none ↦ none
      ]),
    );
    crash = λ M mix. owning_quiet_law P I M d page waits.holds.coherent claimable.0 claimable.1 free claimable.2 mix;
  }

  fields_same : (t : ℕ) → slot_fields_at P J t ≡ slot_fields_at P I t
  fields_same t = slot_as_owned P I J page d t low refl

  words_same : slot_words P J s ≡ slot_words P I s
  words_same = ap (λ (f : SlotFields). f.name) (fields_same s)

  kind_is : page_kind P J page ≡ 2
  unfolding page_kind
  kind_is = owned_descriptor P I page d waits.holds.coherent claimable.0 claimable.1 low name.unowned claimable.2.kind claimable.2.numbers claimable.2.pointers page 1 (omega arith) (inr (omega arith)) ∙ name.bare.kind

  owner_is : slot_owner P J s ≡ d
  unfolding slot_owner
  owner_is = ap (page_owner P J) name.page_is ∙ owned_owner P I page d waits.holds.coherent claimable.0 claimable.1 low name.unowned claimable.2.kind claimable.2.numbers claimable.2.pointers

  claimed_name : IsWaitingName P J state.tree path d s
  unfolding slot_name
  claimed_name = record {
    place = record {
      above = name.above;
      directory = name.directory;
      held = record {
        in_range = slot_below P s (subst (λ x. x < data_pages_of P) (sym name.page_is) low);
        kind = ap (page_kind P J) name.page_is ∙ kind_is;
        owned = λ none. reached_pos P I d claimable.0 (sym owner_is ∙ none);
      };
      owner = owner_is;
    };
    absent = name.absent;
    number = ap (λ (f : SlotFields). f.inode) (fields_same s) ∙ name.bare.numbers s name.page_is;
    words = subst IsNameWords (sym words_same) name.words;
    name_is = ap name_in_words words_same ∙ name.name_is;
  }

  claimed_place : IsWrittenPlace P I s (Some page) → IsWrittenPlace P J s (Some page)
  claimed_place (at, zeros) = (
    at,
    λ t here other f lt. owned_slot P I page d waits.holds.coherent claimable.0 claimable.1 low name.unowned claimable.2.kind claimable.2.numbers claimable.2.pointers t f ∙ zeros t here other f lt,
  )

  is_claimed : IsWrittenPlace P I s (Some page) → IsClaimed P I J state path d s page (joined own others)
  is_claimed place = record {
    step = step;
    tidy = page_owned_law P I d page (joined own others) waits.holds.coherent claimable.0 claimable.1 free claimable.2 waits.holds.beside;
    name = claimed_name;
    place = claimed_place place;
    unused = (
      (λ unused. let two = name.bare.kind in let none = unused.1 in absurd (omega (arith, two, none))),
      (λ unused. let two = kind_is in let none = unused.1 in absurd (omega (arith, two, none))),
    );
  }

-- ---- on the device and the volume

module _ {old : VolumeView} {before : DeviceView} {state : State} {path : Route} {d s : ℕ} {new_page : Option ℕ} {page : ℕ} {left others : Residue} (on : StandsWith old before state left others)
    (name : IsUnclaimedName old.size before.words state.tree path d s page) (at : IsPageAt old.size d s new_page page before) (place : IsWrittenPlace old.size before.words s new_page) where
  module _ (J : List ℕ) (made : (owning old.size page d).Makes before.words J) where
    pub claimed : IsClaimed old.size before.words J state path d s page (joined left others)
    claimed = subst (λ l. IsClaimed old.size before.words l state path d s page (joined left others)) (sym made)
        (is_claimed (waits old before state left others on) name at.ready.in_range (subst (IsWrittenPlace old.size before.words s) at.page_is place))

    pub crash_claimed : KeepsMeaning old.size before.words J
    crash_claimed = crash_quiet on.stands on.unmarked claimed.step

    pub place_then : IsWrittenPlace old.size J s new_page
    place_then = subst (IsWrittenPlace old.size J s) (sym at.page_is) claimed.place

    -- the volume knows what it knew
    known : IsIn page left.pages → KnowsBeside old J (joined left others)
    known among = quiet_known_law old old old before.words J (joined left others) (joined left others) None [] on.stands.knows claimed.step.stores.size (keeps_entries claimed.step)
        (keeps_owners claimed.step (joined left others) (joined left others) (λ j among. among)
        (λ j here. elim here [ inl is ↦ in_front j left.pages others.pages (subst (λ x. IsIn x left.pages) (sym is) among) | inr none ↦ absurd none ]))
        (takes_numbers claimed.step [] [] (λ x none. absurd none) (λ j none. absurd none)
        (λ j here out. elim here [ inl is ↦ subst (λ x. IsUnusedPage old.size before.words x ↔ IsUnusedPage old.size J x) (sym is) claimed.unused | inr none ↦ absurd none ])
        (λ x none. absurd none))
        refl refl

  -- the call waits again
  pub leaves : {after : DeviceView} (Enters : VolumeView → VolumeView → Type 0) → MakesStep (owning old.size page d) Enters old (with_kept (old.kept - commit_events) old) before after → (i : ℕ) → left.pages ≡ pages_left new_page
      → Leaves old (with_kept (old.kept - commit_events) old) before after state left others (name_held d s i)
  leaves {after} Enters makes i is = waits_on old (with_kept (old.kept - commit_events) old) old.kept before after state left left others [] (page ∷ []) [] (name_held d s i) (owning old.size page d) Enters old.inodes old.data_pages on makes refl refl (claimed after.words makes.takes.makes).step
      (record { of_slots = λ t none. absurd none; of_pages = λ j among. elim among [ inl here ↦ inl (here ∙ sym name.page_is) | inr none ↦ absurd none ]; of_inodes = λ x none. absurd none })
      (claimed after.words makes.takes.makes).tidy (knows_kept (old.kept - commit_events) (known after.words makes.takes.makes (subst (IsIn page) (sym (is ∙ ap pages_left at.page_is)) (inl refl)))) on.no_pointer
