-- A name is written, in a vacant slot or in a new page: what stands there then, and what the volume knows.
use Rattle.std.proofs.Common.{◌≡◌, ◌≢◌, inl, inr, ℕ, ◌+◌, ◌-◌, ◌<◌, Bool, true, List, [], ◌∷◌, ◌++◌, reverse, Option, Some, None, refl, sym, ap, subst, ◌∙◌, arith}
use Rattle.pm_trait.specs.DeviceView.{DeviceView}
use Rattle.pm_trait.specs.Unfolds.{Step}
use Rattle.layout.specs.Geometry.{data_pages_of, page_of_slot}
use Rattle.layout.specs.Fields.{inode_kind, page_owner, page_kind, slot_inode, slot_name}
use Rattle.layout.specs.Name.{IsName, IsBytes, words_of_name, IsNameWords, name_in_words}
use Rattle.layout.proofs.NameLaws.{name_in_words-words_of_name, IsNameWords-words_of_name}
use Rattle.layout.proofs.Widths.{descriptor_field_read}
use Rattle.fence_token.specs.declared.states.Clean.{Clean}
use Rattle.tree_model.specs.PathText.{Route}
use Rattle.tree_model.specs.Tree.{Tree, parent, last_name, id_at, is_directory}
use Rattle.image_reading.specs.Counts.{IsIn, IsDistinct}
use Rattle.image_reading.specs.Reading.{slot_owner, Reached}
use Rattle.image_reading.specs.Litter.{IsInode}
use Rattle.image_reading.specs.Residue.{Residue, no_residue, IsTidyBeside}
use Rattle.tree_model.specs.Run.{State}
use Rattle.tree_model.specs.declared.command.Command.{Command}
use Rattle.image_counts.specs.Entries.{IsUnusedPage}
use Rattle.image_counts.proofs.Distinct.{in_front, in_back}
use Rattle.image_laws.specs.Frame.{SameMeaning}
use Rattle.image_laws.specs.Quiet.{IsMix}
use Rattle.image_laws.specs.Stages.{IsReadySlot}
use Rattle.image_laws.proofs.Free.{entries_stores}
use Rattle.image_laws.proofs.KeptPages.{held_forth}
use Rattle.image_laws.proofs.Naming as naming
use Rattle.image_laws.proofs.Naming.{StoresName}
use Rattle.image_laws.proofs.Paths.{reached_pos}
use Rattle.weave_laws.specs.Beside.{StoresIn, AreInVolume}
use Rattle.weave_laws.specs.Joined.{joined}
use Rattle.weave_laws.specs.Naming.{slots_left, pages_left, IsWrittenPlace}
use Rattle.weave_laws.specs.Waiting.{HasNoPageOf, IsPlaceOf, IsWaitingName}
use Rattle.weave_laws.proofs.PagedWritten as written
use Rattle.weave_laws.proofs.PagedWritten.{WritesPage}
use Rattle.volume.specs.Volume.{VolumeView}
use Rattle.volume.specs.Beside.{KnowsBeside}
use Rattle.volume.specs.Costs.{events_of}
use Rattle.volume.specs.Entered.{pages_of_option, TakesPages}
use Rattle.volume.specs.Stages.{keeping}
use Rattle.volume.specs.declared.plan.Action.{Action}
use Rattle.volume.proofs.Moments.{with_kept}
use Rattle.entry_steps.specs.declared.place.NamePlace.{NamePlace}
use Rattle.entry_steps.specs.declared.place.NamePlace.TheVariants.{Slot, Page}
use Rattle.entry_steps.specs.Waiting.{IsPlaceAt}
use Rattle.entry_steps.proofs.Lists.{not_none, one_page}
use Rattle.knowing_laws.specs.Knowing.{EntersInodeOf}
use Rattle.knowing_laws.proofs.Quiet.{quiet_known_law}
use Rattle.waiting_laws.specs.Beside.{IsReady, MakesStep, Leaves}
use Rattle.waiting_laws.specs.Naming.{IsUnclaimedName, IsNameIn}
use Rattle.waiting_laws.proofs.NamingBegun.{knows_kept, begins_with, name_held, waits_on}
use Rattle.waiting_laws.proofs.NamingWords.{owner_stays}
use Rattle.waiting_laws.proofs.NamingQuiet.{IsQuietStep, keeps_entries, keeps_owners, takes_numbers}

-- ---- the name

-- The name stands in a page of the directory, or in the new page, and waits there. The new page is in use.
pub record HasName (P : ℕ) (J : List ℕ) (T : Tree) (path : Route) (d s : ℕ) (page : Option ℕ) : Type 0 where
  pub in_slot : page ≡ None → IsWaitingName P J T path d s
  pub in_page : (new : ℕ) → page ≡ Some new → IsUnclaimedName P J T path d s new
  pub place : IsWrittenPlace P J s page
  pub used : (j : ℕ) → IsIn j (pages_of_option page) → ¬ IsUnusedPage P J j

module _ {name : List ℕ} {path : Route} (is_name : IsName name) (of_bytes : IsBytes name) (last : name ≡ last_name path) where
  pub named_in_slot : {P : ℕ} {I J : List ℕ} {T : Tree} {d s : ℕ} → id_at T path ≡ None → IsReadySlot P I (reverse (parent path)) d s (words_of_name name) → StoresName P I J s (words_of_name name) → IsPlaceOf P I T path d s → HasName P J T path d s None
  unfolding slot_name
  named_in_slot {s = s} absent ready named place = record {
    in_slot = λ none. record {
      place = record {
        above = place.above;
        directory = place.directory;
        held = held_forth (naming.paged ready named) s (λ none. none) place.held;
        owner = naming.owner_same ready named s place.held ∙ place.owner;
      };
      absent = absent;
      number = naming.number_same ready named s ∙ ready.slot.free;
      words = subst IsNameWords (sym named.words) (IsNameWords-words_of_name name is_name of_bytes);
      name_is = ap name_in_words named.words ∙ name_in_words-words_of_name name is_name of_bytes ∙ last;
    };
    in_page = λ new is. absurd (not_none new is);
    place = tt;
    used = λ j none. absurd none;
  }

  pub named_in_page : {P : ℕ} {I J : List ℕ} {T : Tree} {d s j i y : ℕ} → id_at T path ≡ None → WritesPage P I J j s i y (words_of_name name) → page_of_slot s ≡ j → id_at T (parent path) ≡ Some d → is_directory T d ≡ true → HasName P J T path d s (Some j)
  unfolding slot_name page_owner
  named_in_page {P} {I} {J} {T} {d} {s} {j} absent writes at above directory = record {
    in_slot = λ is. absurd (not_none j (sym is));
    in_page = λ new is. subst (IsUnclaimedName P J T path d s) (one_page j new is) (record {
      above = above;
      directory = directory;
      absent = absent;
      page_is = at;
      unowned = writes.descriptors j 0 writes.free.0 (descriptor_field_read I 0 (omega arith)) (inr refl) ∙ writes.free.1;
      bare = record { kind = writes.page.kind; numbers = writes.page.numbers; pointers = writes.page.pointers };
      words = subst IsNameWords (sym writes.page.name_is) (IsNameWords-words_of_name name is_name of_bytes);
      name_is = ap name_in_words writes.page.name_is ∙ name_in_words-words_of_name name is_name of_bytes ∙ last;
    });
    place = (at, writes.page.zeros);
    used = λ k among unused. elim among [
      | inr none ↦ none
      | inl is ↦ let two = writes.page.kind in let none = ap (page_kind P J) (sym is) ∙ unused.1 in omega (arith, two, none)
    ];
  }

-- it stands where the call has it
pub name_at : {P : ℕ} {T : Tree} {path : Route} {d s : ℕ} (page : Option ℕ) (device : DeviceView) → HasName P device.words T path d s page → (place : NamePlace Clean) → IsPlaceAt P d s page place device → IsNameIn P device.words T path d s place
name_at page device has (Slot dentry) at = has.in_slot at.1
name_at page device has (Page new) at = has.in_page new at.page_is

-- ---- the step changes no meaning

pub quiet_in_slot : {P : ℕ} {I J : List ℕ} {p : Route} {d s : ℕ} {words inodes : List ℕ} → IsReadySlot P I p d s words → StoresName P I J s words → StoresIn P I J (s ∷ []) [] inodes
    → ((x : ℕ) → IsIn x inodes → IsInode P x) → ((M : List ℕ) → IsMix I J M → SameMeaning P I M) → IsQuietStep P I J (s ∷ []) [] inodes
quiet_in_slot {P} {I} {J} {s = s} ready named stores within crash = record {
  coherent = ready.coherent;
  range = record { of_pages = λ j none. absurd none; of_inodes = within };
  stores = stores;
  entries = naming.entries ready named;
  apart = λ t reached. ((λ among. elim among [ inl is ↦ reached.live.names (ap (λ x. slot_inode P I x) is ∙ ready.slot.free) | inr none ↦ none ]), (λ none. none));
  crash = crash;
}

pub quiet_in_page : {P : ℕ} {I J : List ℕ} {j s i y : ℕ} {words inodes : List ℕ} → WritesPage P I J j s i y words → StoresIn P I J [] (j ∷ []) inodes
    → ((x : ℕ) → IsIn x inodes → IsInode P x) → ((M : List ℕ) → IsMix I J M → SameMeaning P I M) → IsQuietStep P I J [] (j ∷ []) inodes
unfolding slot_owner
quiet_in_page {P} {I} {J} {j} writes stores within crash = record {
  coherent = writes.before;
  range = record { of_pages = λ k among. elim among [ inl is ↦ subst (λ x. x < data_pages_of P) (sym is) writes.free.0 | inr none ↦ absurd none ]; of_inodes = within };
  stores = stores;
  entries = entries_stores P I J writes.before (written.stores writes);
  apart = λ t reached. (
    (λ none. none),
    (λ among. elim among [
      | inl is ↦ reached_pos P I (page_owner P I (page_of_slot t)) reached.owner (ap (page_owner P I) is ∙ writes.free.1)
      | inr none ↦ none
    ]),
  );
  crash = crash;
}

-- ---- what it stores to

-- its slot and its page are held
slot_held : (s : ℕ) (page : Option ℕ) (t : ℕ) → IsIn t (slots_left s page) → IsIn t (s ∷ [])
slot_held s None t among = among
slot_held s (Some page) t among = absurd among

page_held : (P : ℕ) (J : List ℕ) (s : ℕ) (page : Option ℕ) → IsWrittenPlace P J s page → (j : ℕ) → IsIn j (pages_left page) → IsIn j (page_of_slot s ∷ [])
page_held P J s None at j among = absurd among
page_held P J s (Some page) at j among = elim among [ inl is ↦ inl (is ∙ sym at.0) | inr none ↦ absurd none ]

-- ---- the others' pages

apart_left : (page : Option ℕ) (rest : List ℕ) → IsDistinct (pages_left page ++ rest) → (j : ℕ) → IsIn j rest → ¬ IsIn j (pages_left page)
apart_left None rest once j among none = none
apart_left (Some page) rest once j among left = elim left [ inl is ↦ once.0 (subst (λ x. IsIn x rest) is among) | inr none ↦ none ]

-- they have the owners that they had
pub none_of_inode : {P : ℕ} {I J slots inodes : List ℕ} (page : Option ℕ) → StoresIn P I J slots (pages_left page) inodes → AreInVolume P (pages_left page) inodes → (left others : Residue) → left.pages ≡ pages_left page
    → IsTidyBeside P J (joined left others) → (i : ℕ) → HasNoPageOf P I others i → HasNoPageOf P J others i
none_of_inode page stores range left others is tidy i apart j among owner =
    let low = ((tidy.of_pages.each j).0 (in_back j left.pages others.pages among)).in_range in
    apart j among (sym (owner_stays range stores j low (apart_left page others.pages (subst (λ l. IsDistinct (l ++ others.pages)) is tidy.of_pages.distinct) j among)) ∙ owner)

-- ---- what the volume knows behind it

-- the page that is left is the plan's new one
pub page_left : (page : Option ℕ) → pages_left page ≡ pages_of_option page
page_left None = refl
page_left (Some page) = refl

-- The new page comes into use, and the inode, where there is one; each other inode that is stored to is reached.
known_behind : (old taken new : VolumeView) (I J : List ℕ) (slots inodes : List ℕ) (page inode : Option ℕ) (left others : Residue) → KnowsBeside old I others
    → IsQuietStep old.size I J slots (pages_left page) inodes → left.pages ≡ pages_left page → ((i : ℕ) → IsIn i (pages_of_option inode) → IsIn i inodes × (inode_kind J i ≢ 0))
    → ((j : ℕ) → IsIn j (pages_of_option page) → ¬ IsUnusedPage old.size J j) → ((x : ℕ) → IsIn x inodes → ¬ IsIn x (pages_of_option inode) → Reached old.size I x)
    → TakesPages old taken (pages_of_option page) → EntersInodeOf taken new inode → KnowsBeside new J (joined left others)
known_behind old taken new I J slots inodes page inode left others knows step is used pages_used reached takes enters =
    quiet_known_law old taken new I J others (joined left others) inode (pages_of_option page) knows step.stores.size (keeps_entries step)
    (keeps_owners step others (joined left others) (λ j among. in_back j left.pages others.pages among) (λ j among. in_front j left.pages others.pages (subst (IsIn j) (sym is) among)))
    (takes_numbers step (pages_of_option inode) (pages_of_option page) used pages_used (λ j among out. absurd (out (subst (IsIn j) (page_left page) among))) reached)
    takes enters

-- ---- where the call waits

-- The step changes no meaning, the name is written, and what is left is to be repaired.
pub record WritesName (P : ℕ) (I J : List ℕ) (state : State) (path : Route) (d s : ℕ) (page : Option ℕ) (inodes : List ℕ) (residue : Residue) : Type 0 where
  pub step : IsQuietStep P I J (slots_left s page) (pages_left page) inodes
  pub tidy : IsTidyBeside P J residue
  pub named : HasName P J state.tree path d s page

-- The call waits, and its numbers are taken: its new page's, and that of its inode where this is new.
pub written_waits : (volume taken new : VolumeView) (before after : DeviceView) (state : State) (path : Route) (d s i : ℕ) (page inode : Option ℕ) (inodes : List ℕ) (command : Command) (action : Action) (left others : Residue) (step : Step)
    (Enters : VolumeView → VolumeView → Type 0) (numbers pages_free : List Bool) → IsReady volume before state command action others → 0 < events_of action
    → WritesName volume.size before.words after.words state path d s page inodes (joined left others) → left.pages ≡ pages_left page → (joined left others).pointer ≡ None
    → ((x : ℕ) → IsIn x (pages_of_option inode) → IsIn x inodes × (inode_kind after.words x ≢ 0)) → ((x : ℕ) → IsIn x inodes → ¬ IsIn x (pages_of_option inode) → Reached volume.size before.words x)
    → ((x : ℕ) → IsIn x inodes → IsIn x (i ∷ d ∷ [])) → MakesStep step Enters (keeping volume action) new before after → step.stores ≡ true
    → new ≡ record volume { kept = volume.kept + events_of action - step.events; inodes = numbers; data_pages = pages_free }
    → TakesPages (with_kept new.kept volume) taken (pages_of_option page) → EntersInodeOf taken new inode
    → Leaves volume new before after state left others (name_held d s i)
written_waits volume taken new before after state path d s i page inode inodes command action left others step Enters numbers pages_free ready some wrote is none used reached within makes stores same takes enters =
    waits_on volume new (volume.kept + events_of action) before after state no_residue left others (slots_left s page) (pages_left page) inodes (name_held d s i) step Enters numbers pages_free (begins_with ready some) makes stores same wrote.step
    (record { of_slots = λ t among. inl (slot_held s page t among); of_pages = λ j among. page_held volume.size after.words s page wrote.named.place j among; of_inodes = within }) wrote.tidy
    (known_behind (with_kept new.kept volume) taken new before.words after.words (slots_left s page) inodes page inode left others (knows_kept new.kept ready.prepared.stands.knows) wrote.step is used wrote.named.used reached takes enters)
    none
