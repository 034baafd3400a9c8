-- A cut goes on from a step to the next, and to its end.
use Rattle.std.proofs.Common.{◌≡◌, ◌≢◌, inl, inr, ℕ, ◌-◌, ◌<◌, ◌≤◌, true, false, nat_lt, List, [], ◌∷◌, ◌++◌, length, drop, refl, sym, ap, subst, ◌∙◌, arith, length-append}
use Rattle.std.specs.Prelude.{Contains}
use Rattle.std.proofs.Math.Seq.{drop-append_seam}
use Rattle.std.proofs.lemmas.Bool.{cases_eq}
use Rattle.std.proofs.lemmas.List.Elements.{Contains-append_left}
use Rattle.std.proofs.lemmas.Bool.Decides.{nat_tests}
use Rattle.pm_trait.specs.DeviceView.{DeviceView}
use Rattle.layout.specs.Geometry.{inodes_of}
use Rattle.layout.specs.Fields.{page_owner}
use Rattle.layout.specs.Superblock.{has_mark}
use Rattle.tree_model.specs.Run.{State}
use Rattle.tree_model.specs.declared.reply.Reply.TheVariants.{Done}
use Rattle.image_reading.specs.Counts.{IsIn}
use Rattle.image_reading.specs.Reading.{HasBytes, Reached, ReadsAs}
use Rattle.image_reading.specs.Residue.{Residue, no_residue, IsTidyBeside}
use Rattle.image_reading.specs.Soundness.{IsCoherent}
use Rattle.image_counts.proofs.Distinct.{in_front}
use Rattle.image_laws.specs.Drop.{GivesPages}
use Rattle.image_laws.specs.Stages.{MayFree}
use Rattle.image_laws.proofs.Stages as stages
use Rattle.content_laws.specs.Cut.{MayTrim, ClearsPages}
use Rattle.content_laws.proofs.Trims.{trimming}
use Rattle.weave_laws.specs.Beside.{AreAmong, StoresIn}
use Rattle.weave_laws.specs.Joined.{joined}
use Rattle.weave_laws.specs.Removing.{IsLeftPage, cleared_left}
use Rattle.weave_laws.specs.Waiting.{WaitsBeside}
use Rattle.weave_laws.proofs.Contained.{contained_in, in_contained, contained_or_not}
use Rattle.weave_laws.proofs.Disjoint.{wider_law}
use Rattle.weave_laws.proofs.Freed.{freed_law}
use Rattle.weave_laws.proofs.GivenPages.{given_law}
use Rattle.weave_laws.proofs.OwnWords.{given_words_law, freed_words_law}
use Rattle.weave_laws.proofs.WaitingFiles.{waiting_trimming_law}
use Rattle.weave_laws.proofs.WaitingRemovals.{waiting_freeing_law}
use Rattle.knowing_laws.specs.Knowing.{KeepsPagesBut, FreesNumbers, AreListedAt}
use Rattle.knowing_laws.proofs.Cut.{cut_known_law}
use Rattle.volatile_index.specs.Index.{NodeView, pages_of}
use Rattle.volume.specs.Volume.{VolumeView}
use Rattle.volume.specs.Beside.{KnowsBeside}
use Rattle.volume.specs.Entered.{LeavesLastPages}
use Rattle.volume.specs.declared.next.Next.TheVariants.{More, Ended}
use Rattle.volume.specs.declared.plan.Resizing.{Resizing}
use Rattle.data_ops.specs.ResizeStages.{StandsStage, EntersAt, step_of, next_cutting}
use Rattle.data_ops.specs.declared.truncate.CutProgress.{CutProgress}
use Rattle.data_ops.specs.declared.truncate.CutProgress.TheVariants.{Begun, Lowered, Trimmed}
use Rattle.data_ops.specs.declared.truncate.Stage.TheVariants.{Cutting}
use Rattle.data_ops.specs.Cutting.{gone_pages}
use Rattle.waiting_laws.specs.Beside.{StandsWith, MakesStep, Leaves, KeepsMeaning, Affects}
use Rattle.waiting_laws.specs.Cutting.{HasItsCutPages, WaitsToCut, WaitsOn, CutTrimmedLaw, CutEndsLaw, pages_cut, left_by, held_by}
use Rattle.waiting_laws.proofs.Standing.{IsReached, waits, no_mark, behind, quiet}
use Rattle.waiting_laws.proofs.FileKnown.{known_keeping, known_still}
use Rattle.waiting_laws.proofs.FileEntries.{keeps_entries}
use Rattle.waiting_laws.proofs.CuttingWords as words
use Rattle.waiting_laws.proofs.FileLists.{dropped_in, gone_long}
use Rattle.waiting_laws.proofs.FilePages as files

-- ---- what the call holds

-- the file's last pages are its pages
pub among_held : (volume : VolumeView) (resizing : Resizing) → AreAmong [] (pages_cut volume resizing) [] [] (pages_of volume.index resizing.inode ++ []) (resizing.inode ∷ [])
among_held volume resizing = record {
  of_slots = λ s none. absurd none;
  of_pages = λ j cut.
      let pages = pages_of volume.index resizing.inode in
      in_front j pages [] (contained_in j pages (dropped_in (length pages - resizing.cut) pages j (in_contained j (pages_cut volume resizing) cut)));
  of_inodes = λ i none. absurd none;
}

-- so many last pages are what is behind the others
gone_are : (resizing : Resizing) (pages kept gone : List ℕ) → pages ≡ kept ++ gone → length gone ≡ resizing.cut → gone_pages resizing pages ≡ gone
gone_are resizing pages kept gone split count =
    let all = ap length split ∙ length-append kept gone in
    let first : length pages - resizing.cut ≡ length kept = omega (arith, all, count) in
    ap (λ (l : List ℕ). drop (length pages - resizing.cut) l) split ∙ ap (λ (n : ℕ). drop n (kept ++ gone)) first ∙ drop-append_seam kept gone

-- ---- a call that waits, and is to make its next step

module _ (old : VolumeView) (before : DeviceView) (state : State) (resizing : Resizing) (progress : CutProgress) (others : Residue) (waiting : WaitsToCut old before state resizing progress others) where
  abbrev P : ℕ
  P = old.size

  abbrev I : List ℕ
  I = before.words

  abbrev i : ℕ
  i = resizing.inode

  abbrev gone : List ℕ
  gone = pages_cut old resizing

  abbrev left : Residue
  left = joined (cleared_left gone false i) others

  -- what the laws of words ask of it
  at_words : WaitsBeside P I (cleared_left gone false i) others state
  at_words = waits old before state (left_by old resizing) others waiting.beside

  -- the file is one of the tree, and of the inode table
  pub there : Reached P I i × HasBytes I i
  there = (files.reached old before state left waiting.beside.stands i waiting.file, files.file old before state left waiting.beside.stands i waiting.file)

  pub least : 1 ≤ i
  least = waiting.at.2.least

  pub most : i ≤ inodes_of P
  most = (files.in_inodes old before state left waiting.beside.stands i waiting.file).1

  none : has_mark I ≡ false
  none = no_mark old before state left waiting.beside.stands waiting.beside.unmarked

  -- where pages go the step has a store
  some_gone : 0 < resizing.cut → nat_lt 0 (length gone) ≡ true
  some_gone some = let long = gone_long resizing (pages_of old.index i) waiting.at.2.enough in grind (arith, nat_tests, some, long)

  -- ---- the owners

  module _ (owned : (j : ℕ) → Contains gone j → page_owner P I j ≡ i) (J : List ℕ) (gives : GivesPages P I J (Contains gone)) where
    may_trim : MayTrim P I i (Contains gone)
    may_trim = (waiting_trimming_law P I state i gone others at_words waiting.file owned).0

    are_left : (j : ℕ) → Contains gone j → IsLeftPage P I left j
    are_left = (waiting_trimming_law P I state i gone others at_words waiting.file owned).1

    given_stores : StoresIn P I J [] gone []
    given_stores = given_words_law P I J gone gives

    -- the words then mean the same, and the same is left
    given_reached : (kept : ℕ) → IsReached (record old { kept = kept }) J state (left_by old resizing) others
    given_reached kept =
        let same = words.same_given P I J i gone may_trim gives in
        record {
          coherent = same.coherent;
          beside = given_law P I J gone left same gives are_left waiting.beside.stands.beside;
          reads = record { tree = same.reads state.tree at_words.holds.reads.tree; room = same.room state.room at_words.holds.reads.room };
          knows = known_still kept old I J left left waiting.beside.stands.knows gives.size (keeps_entries (words.change_given P I J i gone may_trim gives)) (words.pages_given P I J i gone may_trim gives others)
              (words.numbers_given P I J i gone may_trim gives);
          no_pointer = waiting.beside.no_pointer;
        }

    pub given_keeps : KeepsMeaning P I J
    given_keeps = quiet P I J [] gone [] given_stores none (λ M mix. trimming P I J (Contains gone) gives i may_trim M mix)

    -- a page that the others have left isn't the file's then
    others_given : (j : ℕ) → IsIn j others.pages → page_owner P J j ≢ i
    others_given j among owner = elim (contained_or_not gone j) [
      | inl given ↦ (let zero = gives.owners j given in let some = least in omega (arith, zero, some, owner))
      | inr out ↦ waiting.alone j among (sym (words.owner_given P I J i gone may_trim gives j out) ∙ owner)
    ]

  -- ---- the rest

  module _ (unowned : (j : ℕ) → Contains gone j → page_owner P I j ≡ 0) (J : List ℕ) (clears : ClearsPages P I J (Contains gone)) where
    may_free : MayFree P I (Contains gone) words.Nothing i
    may_free = waiting_freeing_law P I state gone false i others at_words (record { from_one = least; in_range = most }) unowned

    cleared_stores : StoresIn P I J [] gone []
    cleared_stores = freed_words_law P I J gone false i (words.clears_rest P I J i gone clears)

    pub cleared_keeps : KeepsMeaning P I J
    cleared_keeps = quiet P I J [] gone [] cleared_stores none (λ M mix. stages.freeing P I J M (Contains gone) words.Nothing i may_free (words.clears_rest P I J i gone clears) mix)

    module _ (kept : ℕ) (new : VolumeView) (leaves : LeavesLastPages (record old { kept = kept }) new i resizing.cut) where
      same_pages : gone ≡ leaves.gone
      same_pages = gone_are resizing (pages_of old.index i) leaves.kept leaves.gone leaves.split leaves.count_is

      -- the pages have left their list, and are free
      cleared_knows : KnowsBeside new J others
      cleared_knows =
          cut_known_law (record old { kept = kept }) new I J left others i resizing.cut (known_keeping kept old I left waiting.beside.stands.knows) clears.size least most leaves
          (keeps_entries (words.change_cleared P I J i gone may_free there.0 clears))
          (subst (λ (pages : List ℕ). KeepsPagesBut P I J left others pages) same_pages (words.pages_cleared P I J i gone may_free there.0 clears others))
          (subst (λ (pages : List ℕ). FreesNumbers P I J [] pages) same_pages (words.frees P I J i gone may_free there.0 clears))
          (subst (λ (pages : List ℕ). AreListedAt (record old { kept = kept }) pages i) same_pages waiting.listed)

      size_is : new.size ≡ P
      size_is = ap (λ (v : VolumeView). v.size) leaves.rest

      -- nothing of them is left
      cleared_reached : IsReached new J state no_residue others
      cleared_reached =
          let same = words.same_cleared P I J i gone may_free there.0 clears in
          record {
            coherent = subst (λ (p : ℕ). IsCoherent p J) (sym size_is) same.coherent;
            beside = subst (λ (p : ℕ). IsTidyBeside p J others) (sym size_is) (freed_law P I J gone false i others may_free (words.clears_rest P I J i gone clears) waiting.beside.stands.beside);
            reads = subst (λ (p : ℕ). ReadsAs p J state) (sym size_is) (record { tree = same.reads state.tree at_words.holds.reads.tree; room = same.room state.room at_words.holds.reads.room });
            knows = cleared_knows;
            no_pointer = waiting.beside.no_pointer;
          }

      -- the list of the file has lost them, and no other has changed
      lists : (x j : ℕ) → Contains (pages_of new.index x) j → Contains (pages_of old.index x) j
      lists x j listed = elim (cases_eq x i) [
        | inl same ↦ subst (λ (y : ℕ). Contains (pages_of old.index y) j) (sym same)
            (subst (λ (l : List ℕ). Contains l j) (sym leaves.split) (Contains-append_left leaves.kept leaves.gone j (subst (λ (l : List ℕ). Contains l j) (ap (pages_of new.index) same ∙ leaves.index.node.pages) listed)))
        | inr other ↦ subst (λ (node : NodeView). Contains node.pages j) (leaves.index.elsewhere.others x other) listed
      ]

      affects : Affects old new (held_by old resizing)
      affects = record {
        size = size_is;
        others = λ x out. leaves.index.elsewhere.others x (λ same. out (inl same));
        lists = λ x j listed. inl (lists x j listed);
      }

-- ---- behind a step that isn't the last

module _ (old new : VolumeView) (before after : DeviceView) (state : State) (resizing : Resizing) (others : Residue) (waiting : WaitsToCut old before state resizing Lowered others)
    (makes : MakesStep (step_of old (Cutting resizing Lowered)) (EntersAt (Cutting resizing Lowered)) old new before after) where
  abbrev owned : (j : ℕ) → Contains (pages_cut old resizing) j → page_owner old.size before.words j ≡ resizing.inode
  owned = waiting.cut

  abbrev spent : VolumeView
  spent = record old { kept = old.kept - (step_of old (Cutting resizing Lowered)).events }

  abbrev J : List ℕ
  J = after.words

  trim : MayTrim old.size before.words resizing.inode (Contains (pages_cut old resizing))
  trim = may_trim old before state resizing Lowered others waiting owned J makes.takes.makes

  beside_given : StandsWith new after state (left_by old resizing) others
  beside_given =
      let is : new ≡ spent = makes.enters in
      behind old new before after state state (left_by old resizing) (left_by old resizing) others (step_of old (Cutting resizing Lowered)) (EntersAt (Cutting resizing Lowered)) [] (pages_cut old resizing) []
      waiting.beside makes (some_gone old before state resizing Lowered others waiting waiting.at.1.0)
      (record {
        size = ap (λ (v : VolumeView). v.size) is;
        stopped = ap (λ (v : VolumeView). v.stopped) is;
        marked = ap (λ (v : VolumeView). v.marked) is;
        kept = ap (λ (v : VolumeView). v.kept) is;
      })
      (given_stores old before state resizing Lowered others waiting owned J makes.takes.makes)
      (subst (λ (v : VolumeView). IsReached v J state (left_by old resizing) others) (sym is)
      (given_reached old before state resizing Lowered others waiting owned J makes.takes.makes spent.kept))

  -- what stands of it on the volume as it was, but for the events that are kept
  waits_spent : StandsStage spent after (Cutting resizing Trimmed) → StandsWith spent after state (left_by old resizing) others → WaitsOn old spent before after state resizing Trimmed others
  waits_spent stands beside = record {
    waits = record {
      beside = beside;
      at = stands.at;
      file = waiting.file;
      cut = makes.takes.makes.owners;
      kept = λ j listed out. words.owner_given old.size before.words J resizing.inode (pages_cut old resizing) trim makes.takes.makes j out ∙ waiting.kept j listed out;
      listed = waiting.listed;
      alone = others_given old before state resizing Lowered others waiting owned J makes.takes.makes;
    };
    leaves = record {
      beside = beside;
      stores = wider_law old.size before.words J [] (pages_cut old resizing) [] [] (pages_of old.index resizing.inode ++ []) (resizing.inode ∷ []) (among_held old resizing)
          (given_stores old before state resizing Lowered others waiting owned J makes.takes.makes);
      affects = record { size = refl; others = λ x out. refl; lists = λ x j listed. inl listed };
    };
  }

  trimmed : StandsStage new after (Cutting resizing Trimmed) → WaitsOn old new before after state resizing Trimmed others
  trimmed stands =
      subst (λ (v : VolumeView). StandsStage v after (Cutting resizing Trimmed) → StandsWith v after state (left_by old resizing) others → WaitsOn old v before after state resizing Trimmed others)
      (sym makes.enters) waits_spent stands beside_given

-- A call that waits has lowered the size, where it goes on, or else taken the owners.
goes_on : (P : ℕ) (I pages : List ℕ) (resizing : Resizing) (progress next : CutProgress) → HasItsCutPages P I resizing.inode pages progress → next_cutting resizing progress ≡ More (Cutting resizing next) → (progress ≡ Lowered) × (next ≡ Trimmed)
goes_on P I pages resizing Begun next has is = absurd has
goes_on P I pages resizing Lowered next has is = (refl, cc)
goes_on P I pages resizing Trimmed next has is = cc

-- and it ends once they have none.
ends : (P : ℕ) (I pages : List ℕ) (resizing : Resizing) (progress : CutProgress) → HasItsCutPages P I resizing.inode pages progress → next_cutting resizing progress ≡ Ended Done → progress ≡ Trimmed
ends P I pages resizing Begun has is = absurd has
ends P I pages resizing Lowered has is = cc
ends P I pages resizing Trimmed has is = refl

pub cut_trimmed_law : CutTrimmedLaw
cut_trimmed_law old new before after state resizing progress next others waiting makes is stands =
    let (at, then) = goes_on old.size before.words (pages_cut old resizing) resizing progress next waiting.cut is in
    let there = trimmed old new before after state resizing others (subst (λ (p : CutProgress). WaitsToCut old before state resizing p others) at waiting)
    (subst (λ (p : CutProgress). MakesStep (step_of old (Cutting resizing p)) (EntersAt (Cutting resizing p)) old new before after) at makes)
    (subst (λ (p : CutProgress). StandsStage new after (Cutting resizing p)) then stands) in
    subst (λ (p : CutProgress). WaitsOn old new before after state resizing p others) (sym then) there

-- ---- behind the last

module _ (old new : VolumeView) (before after : DeviceView) (state : State) (resizing : Resizing) (others : Residue) (waiting : WaitsToCut old before state resizing Trimmed others)
    (makes : MakesStep (step_of old (Cutting resizing Trimmed)) (EntersAt (Cutting resizing Trimmed)) old new before after) where
  abbrev unowned : (j : ℕ) → Contains (pages_cut old resizing) j → page_owner old.size before.words j ≡ 0
  unowned = waiting.cut

  abbrev kept : ℕ
  kept = old.kept - (step_of old (Cutting resizing Trimmed)).events

  abbrev leaving : LeavesLastPages (record old { kept = kept }) new resizing.inode resizing.cut
  leaving = makes.enters

  stores_only : StoresIn old.size before.words after.words [] (pages_cut old resizing) []
  stores_only = cleared_stores old before state resizing Trimmed others waiting unowned after.words makes.takes.makes

  beside_cleared : StandsWith new after state no_residue others
  beside_cleared =
      behind old new before after state state (left_by old resizing) no_residue others (step_of old (Cutting resizing Trimmed)) (EntersAt (Cutting resizing Trimmed)) [] (pages_cut old resizing) []
      waiting.beside makes (some_gone old before state resizing Trimmed others waiting waiting.at.1.0)
      (record {
        size = ap (λ (v : VolumeView). v.size) leaving.rest;
        stopped = ap (λ (v : VolumeView). v.stopped) leaving.rest;
        marked = ap (λ (v : VolumeView). v.marked) leaving.rest;
        kept = ap (λ (v : VolumeView). v.kept) leaving.rest;
      })
      stores_only
      (cleared_reached old before state resizing Trimmed others waiting unowned after.words makes.takes.makes kept new leaving)

  ended : Leaves old new before after state no_residue others (held_by old resizing)
  ended = record {
    beside = beside_cleared;
    stores = wider_law old.size before.words after.words [] (pages_cut old resizing) [] [] (pages_of old.index resizing.inode ++ []) (resizing.inode ∷ []) (among_held old resizing) stores_only;
    affects = affects old before state resizing Trimmed others waiting unowned after.words makes.takes.makes kept new leaving;
  }

pub cut_ends_law : CutEndsLaw
cut_ends_law old new before after state resizing progress others waiting makes is =
    let at = ends old.size before.words (pages_cut old resizing) resizing progress waiting.cut is in
    ended old new before after state resizing others (subst (λ (p : CutProgress). WaitsToCut old before state resizing p others) at waiting)
    (subst (λ (p : CutProgress). MakesStep (step_of old (Cutting resizing p)) (EntersAt (Cutting resizing p)) old new before after) at makes)
