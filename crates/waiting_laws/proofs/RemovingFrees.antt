-- What is left of a removal's pages and of its node is cleared: behind this step nothing of it is left.
use Rattle.std.proofs.Common.{◌≡◌, ◌≢◌, ◌⊎◌, inl, inr, ℕ, ◌-◌, ◌<◌, ◌≤◌, Bool, true, false, cond, List, [], ◌∷◌, ◌++◌, Option, Some, None, refl, sym, ap, subst, ◌∙◌, arith}
use Rattle.std.specs.Prelude.{Contains, slice_index}
use Rattle.std.proofs.lemmas.Bool.{cases_eq}
use Rattle.std.proofs.lemmas.List.{get_or_default}
use Rattle.pm_trait.specs.DeviceView.{DeviceView}
use Rattle.pm_trait.specs.Unfolds.{Step}
use Rattle.layout.specs.Geometry.{inodes_of, inode_word_of, descriptor_word_of}
use Rattle.layout.specs.Fields.{word, descriptor_words, inode_kind, page_owner, page_kind, page_offset}
use Rattle.layout.proofs.Widths.{in_inode, in_descriptor, inode_field_read, descriptor_field_read}
use Rattle.layout.specs.declared.fields.DescriptorFields.{DescriptorFields}
use Rattle.tree_model.specs.Run.{State}
use Rattle.image_reading.specs.Counts.{IsIn}
use Rattle.image_reading.specs.Reading.{HasBytes, Reached, ReadsAs}
use Rattle.image_reading.specs.Residue.{Residue, no_residue, IsTidyBeside}
use Rattle.image_reading.specs.Soundness.{IsCoherent}
use Rattle.image_counts.proofs.Distinct.{in_front, in_back, in_either}
use Rattle.image_counts.proofs.Nodes.{size_law}
use Rattle.image_counts.proofs.Paths.{root_reached}
use Rattle.image_laws.specs.Drop.{ClearsRest}
use Rattle.image_laws.specs.Frame.{SameMeaning}
use Rattle.image_laws.specs.Free.{Stores}
use Rattle.image_laws.specs.Stages.{MayFree}
use Rattle.image_laws.proofs.Addresses.{descriptor-ne_inode, descriptor_word-one}
use Rattle.image_laws.proofs.Free.{same_stores}
use Rattle.image_laws.proofs.Stages as stages
use Rattle.removal_steps.specs.Steps.{MayBeEmptied, WasEmptied}
use Rattle.weave_laws.specs.Beside.{StoresIn}
use Rattle.weave_laws.specs.Joined.{joined}
use Rattle.weave_laws.specs.Naming.{pages_left}
use Rattle.weave_laws.specs.Removing.{inodes_left}
use Rattle.weave_laws.proofs.Contained.{in_contained, contained_in}
use Rattle.weave_laws.proofs.Disjoint.{wider_law}
use Rattle.weave_laws.proofs.OwnWords.{freed_words_law}
use Rattle.weave_laws.proofs.Freed.{freed_law}
use Rattle.weave_laws.proofs.WaitingRemovals.{waiting_freeing_law}
use Rattle.volatile_index.specs.Index.{NodeView, node_of, pages_of}
use Rattle.volume.specs.Volume.{VolumeView}
use Rattle.volume.specs.Beside.{KnowsBeside}
use Rattle.volume.specs.Entered.{pages_of_option, LeavesPageOf, LeavesInodeIf}
use Rattle.volume.specs.declared.plan.Removal.{Removal}
use Rattle.volume.proofs.Moments.{with_kept, page_beside, node_beside}
use Rattle.knowing_laws.specs.Knowing.{KeepsPagesBut, FreesNumbers, AreListedAt, AreGiven, pages_with, inodes_with, pages_given}
use Rattle.knowing_laws.proofs.Givings.{given_known_law}
use Rattle.unlink_ops.specs.declared.removal.Stage.TheVariants.{Disowned}
use Rattle.unlink_ops.specs.RemovalStages.{pages_gone, step_at, EntersAt}
use Rattle.waiting_laws.specs.Beside.{StandsWith, MakesStep, Affects, Leaves, KeepsMeaning}
use Rattle.waiting_laws.specs.Removing.{held_by, left_at, WaitsToRemove}
use Rattle.waiting_laws.proofs.RemovingKnows.{reads_same, entries_stay, unused_as, free_inode_as, known_keeping}
use Rattle.waiting_laws.proofs.RemovingWaits as waiting
use Rattle.waiting_laws.proofs.RemovingWaits.{at, all_left, cut_by, by_cut, all_held}
use Rattle.waiting_laws.proofs.Standing as standing
use Rattle.waiting_laws.proofs.Standing.{IsBehind, IsReached}

-- ---- lists

option_left : (given : Option ℕ) → pages_of_option given ≡ pages_left given
option_left None = refl
option_left (Some page) = refl

gone_with : (volume : VolumeView) (removal : Removal) → pages_with removal.loss.goes volume removal.loss.inode ≡ pages_gone volume removal
gone_with volume removal = elim removal.loss.goes as (λ t. pages_with t volume removal.loss.inode ≡ cond t (pages_of volume.index removal.loss.inode) []) [ true ↦ refl | false ↦ refl ]

same_inodes : (goes : Bool) (i : ℕ) → inodes_with goes i ≡ inodes_left goes i
same_inodes true i = refl
same_inodes false i = refl

goes_in : (goes : Bool) (i x : ℕ) → IsIn x (inodes_with goes i) → (goes ≡ true) × (x ≡ i)
goes_in true i x among = elim among [ inl is ↦ (refl, is) | inr none ↦ absurd none ]
goes_in false i x among = absurd among

in_goes : (goes : Bool) (i : ℕ) → goes ≡ true → IsIn i (inodes_with goes i)
in_goes goes i is = subst (λ (t : Bool). IsIn i (inodes_with t i)) (sym is) (inl refl)

-- a list without one of its pages has no other
fewer_in : (front back : List ℕ) (page j : ℕ) → IsIn j (front ++ back) → IsIn j (front ++ page ∷ back)
fewer_in front back page j among = elim (in_either j front back among) [ inl here ↦ in_front j front (page ∷ back) here | inr there ↦ in_back j front (page ∷ back) (inr there) ]

-- ---- words of tables

-- the kind of no inode is the kind or the offset of a page
kind_apart : (P i j f : ℕ) → 1 ≤ f → f < 8 → inode_word_of i 0 ≢ descriptor_word_of P j f
unfolding inode_word_of descriptor_word_of
kind_apart P i j f low high same = omega (arith, same, low, high)

-- nor a word of another inode
kind_own : (x i f : ℕ) → f < 16 → 2 ≤ i → inode_word_of x 0 ≡ inode_word_of i f → x ≡ i
unfolding inode_word_of
kind_own x i f few some same = omega (arith, same, few, some)

-- ---- what leaves the index

page_gone : (old given : VolumeView) (d : ℕ) (page : Option ℕ) → LeavesPageOf old given d page → (i j : ℕ) → Contains (pages_of given.index i) j → Contains (pages_of old.index i) j
page_gone old given d None same i j there = subst (λ (v : VolumeView). Contains (pages_of v.index i) j) same there
page_gone old given d (Some page) leaves i j there = elim (cases_eq i d) [
  | inl is ↦
      let drops = leaves.index.node in
      let now = subst (λ (x : ℕ). Contains (pages_of given.index x) j) is there in
      let less = subst (λ (l : List ℕ). Contains l j) drops.new_is.pages now in
      let was : Contains (pages_of old.index d) j = subst (λ (l : List ℕ). Contains l j) (sym drops.old_is)
      (in_contained j (drops.front ++ page ∷ drops.back) (fewer_in drops.front drops.back page j (contained_in j (drops.front ++ drops.back) less))) in
      subst (λ (x : ℕ). Contains (pages_of old.index x) j) (sym is) was
  | inr other ↦ subst (λ (node : NodeView). Contains node.pages j) (leaves.index.elsewhere.others i other) there
]

page_others : (old given : VolumeView) (d : ℕ) (page : Option ℕ) → LeavesPageOf old given d page → (i : ℕ) → i ≢ d → node_of given.index i ≡ node_of old.index i
page_others old given d None same i other = ap (λ (v : VolumeView). node_of v.index i) same
page_others old given d (Some page) leaves i other = leaves.index.elsewhere.others i other

node_gone : (given new : VolumeView) (goes : Bool) (x : ℕ) → LeavesInodeIf goes given new x → (i j : ℕ) → Contains (pages_of new.index i) j → Contains (pages_of given.index i) j
node_gone given new false x same i j there = subst (λ (v : VolumeView). Contains (pages_of v.index i) j) same there
node_gone given new true x leaves i j there = elim (cases_eq i x) [
  | inl is ↦
      let now = subst (λ (y : ℕ). Contains (pages_of new.index y) j) is there in
      absurd (contained_in j [] (subst (λ (l : List ℕ). Contains l j) leaves.index.node.pages now))
  | inr other ↦ subst (λ (node : NodeView). Contains node.pages j) (leaves.index.elsewhere.others i other) there
]

node_others : (given new : VolumeView) (goes : Bool) (x : ℕ) → LeavesInodeIf goes given new x → (i : ℕ) → i ≢ x → node_of new.index i ≡ node_of given.index i
node_others given new false x same i other = ap (λ (v : VolumeView). node_of v.index i) same
node_others given new true x leaves i other = leaves.index.elsewhere.others i other

-- ---- the words J of the step

module _ (old : VolumeView) (before : DeviceView) (state : State) (removal : Removal) (others : Residue) (waits : WaitsToRemove old before state (at removal Disowned) others)
    (J : List ℕ) (made : (step_at old.size removal (pages_gone old removal) Disowned).Makes before.words J) where
  abbrev P : ℕ
  P = old.size

  abbrev I : List ℕ
  I = before.words

  abbrev i : ℕ
  i = removal.loss.inode

  abbrev goes : Bool
  goes = removal.loss.goes

  abbrev pages : List ℕ
  pages = pages_gone old removal

  abbrev all : List ℕ
  all = all_left pages removal.given_back

  abbrev spent : ℕ
  spent = (step_at P removal pages Disowned).events

  abbrev K : VolumeView
  K = with_kept (old.kept - spent) old

  rest : ClearsRest P I J (Contains all) (goes ≡ true) i
  rest = record {
    size = made.size;
    rests = λ j f is. made.rests j f (cut_by pages removal.given_back j is);
    inode = made.inode;
    others = λ a out kept. made.others a (λ j f cut. out j f (by_cut pages removal.given_back j cut)) kept;
  }

  emptied_unowned : (given : Option ℕ) → MayBeEmptied P I given → (j : ℕ) → given ≡ Some j → page_owner P I j ≡ 0
  emptied_unowned given may j is = let page : WasEmptied P I j = subst (MayBeEmptied P I) is may in page.owner

  unowned : (j : ℕ) → Contains all j → page_owner P I j ≡ 0
  unowned j there = elim (cut_by pages removal.given_back j there) [
    | inl (k, inside, is) ↦
        let here : slice_index pages k ≡ j = get_or_default pages k 0 j inside ∙ is in
        ap (page_owner P I) (sym here) ∙ ap (λ (d : DescriptorFields). d.owner) (waits.words.rest.pages_are.each k inside)
    | inr given ↦ emptied_unowned removal.given_back waits.words.rest.emptied_is j given
  ]

  i_most : i ≤ inodes_of P
  i_most = let most = waits.losses.node.1 in let each = waits.beside.stands.knows.nodes.each_inode in omega (arith, most, each)

  d_most : removal.directory ≤ inodes_of P
  d_most = let most = waits.losses.directory.1 in let each = waits.beside.stands.knows.nodes.each_inode in omega (arith, most, each)

  may : MayFree P I (Contains all) (goes ≡ true) i
  may = waiting_freeing_law P I state all goes i others (waiting.beside_words old before state removal Disowned others waits) (record { from_one = waits.losses.node.0; in_range = i_most }) unowned

  free_stores : Stores P I J
  free_stores = stages.rest_stores P I J (Contains all) (goes ≡ true) i may rest

  meaning : SameMeaning P I J
  meaning = same_stores P I J may.coherent free_stores

  tidy : IsTidyBeside P J (joined no_residue others)
  tidy = freed_law P I J all goes i others may rest waits.beside.stands.beside

  -- ---- the words

  only : StoresIn P I J (held_by old removal).slots (held_by old removal).pages (held_by old removal).inodes
  only = wider_law P I J [] all (inodes_left goes i) (held_by old removal).slots (held_by old removal).pages (held_by old removal).inodes
      (record {
        of_slots = λ t none. absurd none;
        of_pages = all_held old I removal waits.page;
        of_inodes = λ x among. inl (goes_in goes i x (subst (IsIn x) (sym (same_inodes goes i)) among)).1;
      })
      (freed_words_law P I J all goes i rest)

  -- a word of a descriptor, where it isn't cleared
  descriptor_kept : (j f : ℕ) → f < descriptor_words I → (f ≡ 0) ⊎ (¬ Contains all j) → word J (descriptor_word_of P j f) ≡ word I (descriptor_word_of P j f)
  descriptor_kept j f few other = rest.others (descriptor_word_of P j f)
      (λ k g there low high same.
      let (page, field) = descriptor_word-one P j f k g (in_descriptor I f few) (in_descriptor I g high) same in
      elim other [ inl zero ↦ omega (arith, zero, field, low) | inr out ↦ out (subst (Contains all) (sym page) there) ])
      (λ is g few same. descriptor-ne_inode P j f i g waits.losses.node.0 i_most (in_inode I g few) same)

  owner_kept : (j : ℕ) → page_owner P J j ≡ page_owner P I j
  unfolding page_owner
  owner_kept j = descriptor_kept j 0 (descriptor_field_read I 0 (omega arith)) (inl refl)

  kind_kept : (j : ℕ) → ¬ Contains all j → page_kind P J j ≡ page_kind P I j
  unfolding page_kind
  kind_kept j out = descriptor_kept j 1 (descriptor_field_read I 1 (omega arith)) (inr out)

  offset_kept : (j : ℕ) → ¬ Contains all j → page_offset P J j ≡ page_offset P I j
  unfolding page_offset
  offset_kept j out = descriptor_kept j 2 (descriptor_field_read I 2 (omega arith)) (inr out)

  kind_gone : (j : ℕ) → Contains all j → page_kind P J j ≡ 0
  unfolding page_kind
  kind_gone j there = rest.rests j 1 there (omega arith) (descriptor_field_read I 1 (omega arith))

  -- the root never goes
  not_root : goes ≡ true → 2 ≤ i
  not_root is = let least = waits.losses.node.0 in elim (cases_eq i 1) [
    | inl one ↦ absurd (may.unreached is (subst (Reached P I) (sym one) (root_reached P I may.coherent)))
    | inr other ↦ omega (arith, least, other)
  ]

  node_kind : (x : ℕ) → ¬ IsIn x (inodes_with goes i) → inode_kind J x ≡ inode_kind I x
  unfolding inode_kind
  node_kind x out = rest.others (inode_word_of x 0)
      (λ j f there low high same. kind_apart P x j f low (in_descriptor I f high) same)
      (λ is f few same. out (subst (λ (y : ℕ). IsIn y (inodes_with goes i)) (sym (kind_own x i f (in_inode I f few) (not_root is) same)) (in_goes goes i is)))

  node_gone_kind : goes ≡ true → inode_kind J i ≡ 0
  unfolding inode_kind
  node_gone_kind is = rest.inode is 0 (inode_field_read I 0 (omega arith))

  -- ---- what the volume knows

  abbrev freed : List ℕ
  freed = pages_given K removal.given_back goes i

  freed_all : (j : ℕ) → IsIn j freed → IsIn j all
  freed_all j among = elim (in_either j (pages_of_option removal.given_back) (pages_with goes K i) among) [
    | inl back ↦ in_back j pages (pages_left removal.given_back) (subst (IsIn j) (option_left removal.given_back) back)
    | inr node ↦ in_front j pages (pages_left removal.given_back) (subst (IsIn j) (gone_with K removal) node)
  ]

  all_freed : (j : ℕ) → IsIn j all → IsIn j freed
  all_freed j among = elim (in_either j pages (pages_left removal.given_back) among) [
    | inl node ↦ in_back j (pages_of_option removal.given_back) (pages_with goes K i) (subst (IsIn j) (sym (gone_with K removal)) node)
    | inr back ↦ in_front j (pages_of_option removal.given_back) (pages_with goes K i) (subst (IsIn j) (sym (option_left removal.given_back)) back)
  ]

  out_of : (j : ℕ) → ¬ IsIn j freed → ¬ Contains all j
  out_of j out there = out (all_freed j (contained_in j all there))

  keeps_pages : KeepsPagesBut P I J (joined (left_at old removal Disowned) others) (joined no_residue others) freed
  keeps_pages = record {
    left = λ j out kept among. elim (in_either j all others.pages among) [ inl here ↦ kept (all_freed j here) | inr there ↦ out there ];
    owners = λ j low out kept. owner_kept j;
    offsets = λ j low out kept. offset_kept j (out_of j kept);
  }

  numbers : FreesNumbers P I J (inodes_with goes i) freed
  numbers = record {
    change = record {
      inodes_within = λ x among. let is = (goes_in goes i x among).1 in (subst (λ (y : ℕ). 1 ≤ y) (sym is) waits.losses.node.0, subst (λ (y : ℕ). y ≤ inodes_of P) (sym is) i_most);
      other_inodes = λ x least most out. free_inode_as I J x (node_kind x out);
      other_pages = λ j low out. unused_as P I J j (owner_kept j) (kind_kept j (out_of j out));
    };
    inodes_free = λ x among. let (is, same) = goes_in goes i x among in subst (λ (y : ℕ). inode_kind J y ≡ 0) (sym same) (node_gone_kind is);
    pages_free = λ j among. let there = in_contained j all (freed_all j among) in (owner_kept j ∙ unowned j there, kind_gone j there);
  }

  directory_stays : HasBytes J removal.directory → ⊥
  directory_stays one =
      let two = (((size_law P J state meaning.coherent (reads_same P I J state meaning waits.beside.stands.reads)).directories removal.directory).0 waits.parent).1 in
      omega (arith, one, two)

  given : AreGiven K I J removal.directory i removal.given_back goes
  given = record {
    directory = directory_stays;
    apart = λ is. (waits.losses.apart is).0;
    free = numbers;
    page_listed = subst (λ (l : List ℕ). AreListedAt K l removal.directory) (sym (option_left removal.given_back)) waits.listed.directory;
    pages_listed = subst (λ (l : List ℕ). AreListedAt K l i) (sym (gone_with K removal)) waits.listed.node;
  }

  -- where the volume has taken this in, it knows the words
  knows : (new : VolumeView) → EntersAt (at removal Disowned) K new → KnowsBeside new J (joined no_residue others)
  knows new enters = given_known_law K enters.given new I J (joined (left_at old removal Disowned) others) (joined no_residue others) removal.directory i removal.given_back goes
      (known_keeping (old.kept - spent) old I (joined (left_at old removal Disowned) others) waits.beside.stands.knows) rest.size
      waits.losses.directory.0 d_most waits.losses.node.0 i_most (entries_stay P I J may.coherent free_stores) keeps_pages given enters.page enters.inode

  -- what a volume of this size stands beside then
  reached : (new : VolumeView) → EntersAt (at removal Disowned) K new → new.size ≡ P → IsReached new J state no_residue others
  reached new enters size = record {
    coherent = subst (λ (p : ℕ). IsCoherent p J) (sym size) meaning.coherent;
    beside = subst (λ (p : ℕ). IsTidyBeside p J (joined no_residue others)) (sym size) tidy;
    reads = subst (λ (p : ℕ). ReadsAs p J state) (sym size) (reads_same P I J state meaning waits.beside.stands.reads);
    knows = knows new enters;
    no_pointer = waits.beside.no_pointer;
  }

  -- no crash in it changes a meaning
  pub quiet : KeepsMeaning P I J
  quiet = standing.quiet P I J (held_by old removal).slots (held_by old removal).pages (held_by old removal).inodes only (waiting.no_mark old before state removal Disowned others waits)
      (λ M mix. stages.freeing_law P I J M all goes i may rest mix)

-- ---- the volume behind it

module _ (old new : VolumeView) (before after : DeviceView) (state : State) (removal : Removal) (others : Residue) (waits : WaitsToRemove old before state (at removal Disowned) others)
    (makes : MakesStep (step_at old.size removal (pages_gone old removal) Disowned) (EntersAt (at removal Disowned)) old new before after) where
  abbrev step : Step
  step = step_at old.size removal (pages_gone old removal) Disowned

  abbrev R : VolumeView
  R = with_kept (old.kept - step.events) old

  behind : IsBehind old new step.events
  behind =
      let one = page_beside R makes.enters.given removal.directory removal.given_back makes.enters.page in
      let two = node_beside makes.enters.given new removal.loss.goes removal.loss.inode makes.enters.inode in
      record { size = two.size ∙ one.size; stopped = two.stopped ∙ one.stopped; marked = two.marked ∙ one.marked; kept = two.kept ∙ one.kept }

  stored : StoresIn old.size before.words after.words (held_by old removal).slots (held_by old removal).pages (held_by old removal).inodes
  stored = only old before state removal others waits after.words makes.takes.makes

  some : step.stores ≡ true
  some = waiting.some_left old removal waits.losses waits.words.some

  beside : StandsWith new after state no_residue others
  beside = standing.behind old new before after state state (left_at old removal Disowned) no_residue others step (EntersAt (at removal Disowned)) (held_by old removal).slots (held_by old removal).pages (held_by old removal).inodes
      waits.beside makes some behind stored (reached old before state removal others waits after.words makes.takes.makes new makes.enters behind.size)

  affects : Affects old new (held_by old removal)
  affects = record {
    size = behind.size;
    others = λ x out.
        node_others makes.enters.given new removal.loss.goes removal.loss.inode makes.enters.inode x (λ same. out (inl same))
        ∙ page_others R makes.enters.given removal.directory removal.given_back makes.enters.page x (λ same. out (inr (inl same)));
    lists = λ x j there. inl (page_gone R makes.enters.given removal.directory removal.given_back makes.enters.page x j (node_gone makes.enters.given new removal.loss.goes removal.loss.inode makes.enters.inode x j there));
  }

  pub frees : Leaves old new before after state no_residue others (held_by old removal)
  frees = record { beside = beside; stores = stored; affects = affects }
