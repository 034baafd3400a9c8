-- What a call holds that has written a name: the slot, the page that this is in, the inode that it is to name and its directory. What the
-- call has left lies in that, and its numbers are taken.
use Rattle.std.proofs.Common.{◌≡◌, ◌≢◌, ◌⊎◌, inl, inr, ℕ, ◌-◌, ◌<◌, ◌≤◌, true, List, [], ◌∷◌, Option, Some, None, refl, sym, ap, subst, ◌∙◌, arith}
use Rattle.std.proofs.lemmas.Bool.{cases_eq}
use Rattle.pm_trait.specs.DeviceView.{DeviceView}
use Rattle.layout.specs.Geometry.{data_pages_of, page_of_slot}
use Rattle.layout.specs.Fields.{inode_kind, page_owner, slot_inode}
use Rattle.layout.proofs.GeometryLaws.{page_of_slot_below}
use Rattle.fence_token.specs.declared.states.Clean.{Clean}
use Rattle.tree_model.specs.PathText.{Route}
use Rattle.tree_model.specs.Tree.{parent, last_name, id_at, is_directory}
use Rattle.tree_model.specs.Run.{State}
use Rattle.image_reading.specs.Counts.{IsIn}
use Rattle.image_reading.specs.Litter.{IsInode}
use Rattle.image_reading.specs.Reading.{IsDirectory, slot_owner}
use Rattle.image_reading.specs.Residue.{Residue}
use Rattle.image_counts.specs.Laws.{ReadsBeside}
use Rattle.image_counts.proofs.Distinct.{in_front}
use Rattle.image_counts.proofs.Nodes.{size_law}
use Rattle.image_counts.proofs.Paths.{in_range}
use Rattle.weave_laws.specs.Joined.{joined}
use Rattle.weave_laws.specs.Naming.{slots_left, pages_left, IsWrittenPlace}
use Rattle.weave_laws.specs.Waiting.{IsWaitingName}
use Rattle.volume.specs.Volume.{VolumeView}
use Rattle.volume.specs.Entered.{pages_of_option, IsTaken, MayPutName}
use Rattle.volume.proofs.Frees.{reads_beside}
use Rattle.volume.proofs.Places.{owner_is}
use Rattle.entry_steps.specs.declared.place.NamePlace.{NamePlace}
use Rattle.entry_steps.specs.declared.place.NamePlace.TheVariants.{Slot, Page}
use Rattle.entry_steps.specs.Waiting.{IsPlaceAt, HasTakenPage}
use Rattle.waiting_laws.specs.Beside.{Holds, StandsWith}
use Rattle.waiting_laws.specs.Naming.{IsNameIn, KnowsPlace}
use Rattle.waiting_laws.proofs.NamingBegun.{name_held}
use Rattle.waiting_laws.proofs.NamingPlaced.{may_put}
use Rattle.waiting_laws.proofs.NamingEnds.{page_of_place, in_place}
use Rattle.waiting_laws.proofs.NamingWritten.{page_left}

-- What of a name is the same in either place: nothing is at the path, the slot has no number, and its page is the volume's, and the
-- directory's, or the new page that has no owner yet.
pub record IsAbsentIn (P : ℕ) (I : List ℕ) (state : State) (path : Route) (d s : ℕ) (page : Option ℕ) : Type 0 where
  pub above : id_at state.tree (parent path) ≡ Some d
  pub directory : is_directory state.tree d ≡ true
  pub absent : id_at state.tree path ≡ None
  pub low : page_of_slot s < data_pages_of P
  pub owner : (page_owner P I (page_of_slot s) ≡ d) ⊎ ((page_owner P I (page_of_slot s) ≡ 0) × (page ≡ Some (page_of_slot s)))
  pub number : slot_inode P I s ≡ 0
  pub place : IsWrittenPlace P I s page

pub absent_named : {P : ℕ} {I : List ℕ} (state : State) (path : Route) {d s : ℕ} (page : Option ℕ) → IsWaitingName P I state.tree path d s → IsWrittenPlace P I s page → IsAbsentIn P I state path d s page
absent_named {P} {I} state path {s = s} page name place = record {
  above = name.above;
  directory = name.directory;
  absent = name.absent;
  low = page_of_slot_below P s name.held.in_range;
  owner = inl (sym (owner_is P I s) ∙ name.owner);
  number = name.number;
  place = place;
}

pub absent_in : {P : ℕ} (state : State) (path : Route) {d s : ℕ} (page : Option ℕ) (device : DeviceView) (place : NamePlace Clean) → IsNameIn P device.words state.tree path d s place → IsPlaceAt P d s page place device
    → IsWrittenPlace P device.words s page → IsAbsentIn P device.words state path d s page
absent_in state path page device (Slot dentry) name at place = absent_named state path page name place
absent_in {P} state path {s = s} page device (Page new) name at place = record {
  above = name.above;
  directory = name.directory;
  absent = name.absent;
  low = subst (λ x. x < data_pages_of P) (sym name.page_is) at.ready.in_range;
  owner = inr (ap (page_owner P device.words) name.page_is ∙ name.unowned, at.page_is ∙ ap Some (sym name.page_is));
  number = name.bare.numbers s name.page_is;
  place = place;
}

-- ---- what is left lies in what is held

slot_in : (s : ℕ) (page : Option ℕ) (t : ℕ) → IsIn t (slots_left s page) → t ≡ s
slot_in s None t among = elim among [ inl is ↦ is | inr none ↦ absurd none ]
slot_in s (Some page) t among = absurd among

-- the slots of a new page name nothing: the name's has no number yet, and the others are zero
bare_page : (P : ℕ) (I : List ℕ) (s : ℕ) (page : Option ℕ) → IsWrittenPlace P I s page → slot_inode P I s ≡ 0 → (t : ℕ) → IsIn (page_of_slot t) (pages_left page) → slot_inode P I t ≡ 0
unfolding slot_inode
bare_page P I s None place number t among = absurd among
bare_page P I s (Some page) (at, zeros) number t among = elim among [
  | inr none ↦ absurd none
  | inl here ↦ elim (cases_eq t s) [ inl same ↦ ap (slot_inode P I) same ∙ number | inr other ↦ zeros t here other 0 (omega arith) ]
]

one_left : (page : Option ℕ) (new : ℕ) → page ≡ Some new → IsIn new (pages_left page)
one_left page new is = subst (λ p. IsIn new (pages_left p)) (sym is) (inl refl)

module _ {volume : VolumeView} {device : DeviceView} {state : State} {path : Route} {left others : Residue} {d s : ℕ} {page : Option ℕ} (with : StandsWith volume device state left others)
    (named : IsAbsentIn volume.size device.words state path d s page) (knows : KnowsPlace volume d page) (slots : left.slots ≡ slots_left s page) (pages : left.pages ≡ pages_left page) where
  abbrev P : ℕ
  P = volume.size

  abbrev I : List ℕ
  I = device.words

  holds : ReadsBeside P I (joined left others) state
  holds = reads_beside volume device state (joined left others) with.stands

  -- the directory is one of the table
  directory : IsInode P d × IsDirectory I d
  directory =
      let (reached, kind) = ((size_law P I state holds.coherent holds.reads).directories d).0 named.directory in
      let (least, most) = in_range P I holds.coherent d reached in
      (record { from_one = least; in_range = most }, kind)

  left_slot : (t : ℕ) → IsIn t left.slots → t ≡ s
  left_slot t among = slot_in s page t (subst (IsIn t) slots among)

  left_page : (j : ℕ) → IsIn j left.pages → IsIn j (pages_of_option page)
  left_page j among = subst (IsIn j) (pages ∙ page_left page) among

  its_page : (j : ℕ) → IsIn j left.pages → j ≡ page_of_slot s
  its_page j among = in_place s page (page_of_place P I s page named.place) j (left_page j among)

  -- of another inode the page isn't
  other_owner : (x : ℕ) → x ≢ d → 1 ≤ x → page_owner P I (page_of_slot s) ≢ x
  other_owner x other some same = elim named.owner [ inl is ↦ other (sym same ∙ is) | inr free ↦ omega (arith, some, sym same ∙ free.0) ]

  pub holds_name : (i : ℕ) → ((x : ℕ) → IsIn x left.inodes → IsIn x (i ∷ d ∷ [])) → ((x : ℕ) → IsIn x left.counts → IsIn x (i ∷ d ∷ [])) → IsInode P i → inode_kind I i ≢ 0 → Holds volume I left (name_held d s i)
  holds_name i inodes counts inode used = record {
    in_volume = record {
      of_pages = λ j among. elim among [ inl is ↦ subst (λ x. x < data_pages_of P) (sym is) named.low | inr none ↦ absurd none ];
      of_inodes = λ x among. elim among [
        | inl is ↦ subst (IsInode P) (sym is) inode
        | inr more ↦ elim more [ inl is ↦ subst (IsInode P) (sym is) directory.0 | inr none ↦ absurd none ]
      ];
    };
    of_slots = λ t among. elim among [ inl is ↦ inl (ap page_of_slot is) | inr none ↦ absurd none ];
    of_pages = λ j among. elim among [
      | inl is ↦ elim named.owner [
        | inl owned ↦ inr (inr (inl (ap (page_owner P I) is ∙ owned)))
        | inr (free, new) ↦ inl (subst (IsIn j) (sym (pages ∙ ap pages_left new)) (inl is))
      ]
      | inr none ↦ absurd none
    ];
    used = λ x among. elim among [
      | inl is ↦ subst (λ y. inode_kind I y ≢ 0) (sym is) used
      | inr more ↦ elim more [ inl is ↦ (λ none. let two = directory.1 in omega (arith, two, ap (inode_kind I) (sym is) ∙ none)) | inr none ↦ absurd none ]
    ];
    bare = λ t among held. bare_page P I s page named.place named.number t (subst (IsIn (page_of_slot t)) pages among);
    left_slots = λ t among. inl (left_slot t among);
    left_pages = λ j among. inl (its_page j among);
    left_inodes = inodes;
    untouched = λ x out some.
        let other : x ≢ d = λ is. out (inr (inl is)) in
        record {
          apart = record {
            slots = λ t among owner. other_owner x other some (sym (owner_is P I s) ∙ ap (slot_owner P I) (sym (left_slot t among)) ∙ owner);
            pages = λ j among owner. other_owner x other some (ap (page_owner P I) (sym (its_page j among)) ∙ owner);
            links = λ among. out (counts x among);
          };
          listed = λ j among there. knows.unlisted x j (left_page j among) there;
        };
  }

  -- ---- it may go on

  -- the index may get the name
  pub may_put_name : (name : List ℕ) → name ≡ last_name path → MayPutName volume d name
  may_put_name name is = may_put volume device state (joined left others) with.stands path d name named.above is named.absent

  -- its numbers are taken
  pub inode_taken : (i : ℕ) → IsInode P i → inode_kind I i ≢ 0 → IsTaken volume.inodes (i - 1)
  inode_taken i inode used = (
    (let least = inode.from_one in let most = inode.in_range in let each = with.stands.knows.each_inode in omega (arith, least, most, each)),
    (λ free. used ((with.stands.knows.inodes i inode.from_one inode.in_range).0 free)),
  )

  pub page_taken : HasTakenPage volume page
  page_taken new is =
      let among = in_front new left.pages others.pages (subst (IsIn new) (sym pages) (one_left page new is)) in
      let low = ((with.stands.beside.of_pages.each new).0 among).in_range in (
        (let each = with.stands.knows.each_page in omega (arith, low, each)),
        (λ free.
            let unused = (with.stands.knows.data_pages new low).0 free in
            elim (with.stands.beside.marks new among) [ inl owned ↦ owned unused.0 | inr kind ↦ kind unused.1 ]),
      )
