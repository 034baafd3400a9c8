-- A growth begins: its first step fills the new pages, and behind that it waits.
use Rattle.std.proofs.Common.{◌≡◌, inl, inr, ℕ, ◌+◌, ◌-◌, ◌≤◌, false, List, [], ◌∷◌, ◌++◌, length, refl, sym, ap, subst, ◌∙◌, arith}
use Rattle.std.specs.Prelude.{Some, Contains}
use Rattle.pm_trait.specs.DeviceView.{DeviceView}
use Rattle.layout.specs.Geometry.{inodes_of}
use Rattle.layout.specs.Fields.{inode_size}
use Rattle.layout.specs.Superblock.{has_mark}
use Rattle.tree_model.specs.Run.{State}
use Rattle.tree_model.specs.declared.command.Command.{Command}
use Rattle.image_reading.specs.Counts.{IsIn}
use Rattle.image_reading.specs.Reading.{pages_of_size}
use Rattle.image_reading.specs.Residue.{Residue, no_residue}
use Rattle.image_reading.specs.Soundness.{IsCoherent}
use Rattle.image_counts.specs.Entries.{IsPageIn}
use Rattle.content_laws.specs.Growth.{FillsFile}
use Rattle.weave_laws.specs.Beside.{StoresIn}
use Rattle.weave_laws.specs.Bytes.{MayFill}
use Rattle.weave_laws.specs.Joined.{joined}
use Rattle.weave_laws.specs.Waiting.{AreInOrder}
use Rattle.weave_laws.proofs.BytesFilled as filling
use Rattle.weave_laws.proofs.Contained.{in_contained, contained_in}
use Rattle.weave_laws.proofs.Disjoint.{wider_law}
use Rattle.weave_laws.proofs.Growing.{filled_range_law}
use Rattle.weave_laws.proofs.OwnWords.{filled_words_law}
use Rattle.weave_laws.proofs.SizedFilled.{filled_law}
use Rattle.weave_laws.proofs.SizedRaised.{more_pages}
use Rattle.weave_laws.proofs.WaitingFiles.{waiting_filling_law}
use Rattle.volatile_index.specs.Index.{pages_of}
use Rattle.volume.specs.Volume.{VolumeView}
use Rattle.volume.specs.Entered.{with_taken}
use Rattle.volume.specs.Stages.{keeping}
use Rattle.volume.specs.declared.plan.Action.{Action}
use Rattle.data_ops.specs.declared.grow.Growth.{Growth}
use Rattle.data_ops.specs.declared.grow.Progress.{Progress}
use Rattle.data_ops.specs.declared.grow.Progress.TheVariants.{Begun, Filled, Owned}
use Rattle.data_ops.specs.GrowthStages.{EntersGrowth, step_of_growth, next_of_growth}
use Rattle.data_ops.specs.GrowthSteps.{StandsGrowth}
use Rattle.waiting_laws.specs.Beside.{IsReady, StandsWith, MakesStep}
use Rattle.waiting_laws.specs.Growing.{pages_left_by, HasItsNewPages, WaitsToGrow, TearsFile, WaitsOn, GrowthFilledLaw}
use Rattle.waiting_laws.proofs.Standing.{IsReached, waits, no_mark, behind, mixed_sound}
use Rattle.waiting_laws.proofs.FilePages as files
use Rattle.waiting_laws.proofs.GrowingFill as fill
use Rattle.waiting_laws.proofs.FileKnown.{known_keeping, known_filled}
use Rattle.waiting_laws.proofs.FileEntries.{file_still}
use Rattle.waiting_laws.proofs.FileLists.{listed_within}
use Rattle.waiting_laws.proofs.GrowingPlans.{IsPlannedGrowth, planned_growth}
use Rattle.waiting_laws.proofs.ReadyStands.{stands_keeping}
use Rattle.waiting_laws.proofs.GrowingTorn.{torn_state, reads_filled}

-- the new pages are filled; where there are none nothing is said
filled_pages : (P : ℕ) (J : List ℕ) (inode : ℕ) (pages : List ℕ) (next : Progress) → next_of_growth Begun pages ≡ Some next → HasItsNewPages P J inode pages Filled → HasItsNewPages P J inode pages next
filled_pages P J inode [] next follows filled = subst (HasItsNewPages P J inode []) (let same : Owned ≡ next = cc in same) (λ j (k, low, at). absurd (omega (arith, low)))
filled_pages P J inode (page ∷ pages) next follows filled = subst (HasItsNewPages P J inode (page ∷ pages)) (let same : Filled ≡ next = cc in same) filled

module _ (volume : VolumeView) (before : DeviceView) (state : State) (command : Command) (action : Action) (growth : Growth) (bytes pages : List ℕ) (others : Residue)
    (ready : IsReady volume before state command action others) (planned : IsPlannedGrowth volume before state growth bytes pages others) where
  abbrev P : ℕ
  P = volume.size

  abbrev I : List ℕ
  I = before.words

  abbrev i : ℕ
  i = growth.inode

  abbrev old : List ℕ
  old = pages_of volume.index i

  abbrev later : State
  later = torn_state I state i growth.offset bytes

  with : StandsWith (keeping volume action) before state no_residue others
  with = stands_keeping volume before state command action others ready

  may : MayFill P I i pages
  may = waiting_filling_law P I state i pages others (waits (keeping volume action) before state no_residue others with) planned.file planned.unused

  file_there : (1 ≤ i) × (i ≤ inodes_of P)
  file_there = files.in_inodes volume before state others ready.prepared.stands i planned.file

  of_file : (j : ℕ) → Contains old j → IsPageIn P I i j
  of_file = files.of_file volume before state others ready.prepared.stands i planned.file planned.untouched

  order : AreInOrder P I old 0 (inode_size I i)
  order = files.in_order volume before state others ready.prepared.stands i planned.file planned.untouched

  unmarked : has_mark I ≡ false
  unmarked = no_mark volume before state others ready.prepared.stands ready.unmarked

  count : length pages + pages_of_size (inode_size I i) ≡ pages_of_size growth.new_size
  count =
      let all = planned.count in
      let more = more_pages growth.old_size growth.new_size (let larger = planned.larger in omega (arith, larger)) in
      let same = ap pages_of_size planned.size in
      omega (arith, all, more, same)

  unlisted : (x j : ℕ) → IsIn j pages → ¬ Contains (pages_of volume.index x) j
  unlisted x j among listed =
      let knows = ready.prepared.stands.knows in
      let unused = planned.unused j (in_contained j pages among) in
      let (least, most) = listed_within volume.index x j listed in
      let page = (knows.nodes.pages x j least (let each = knows.nodes.each_inode in omega (arith, most, each)) (λ left. elim (ready.prepared.stands.beside.marks j left) [ inl owner ↦ owner unused.1.0 | inr kind ↦ kind unused.1.1 ])).0 listed in
      let owner = page.owner in
      let none = unused.1.0 in
      omega (arith, owner, none, least)

  -- ---- the volume behind the step, which has lost the step's events

  abbrev spent : ℕ → VolumeView
  spent kept = record (keeping volume action) { kept = kept }

  -- and has taken the pages
  abbrev taken : ℕ → VolumeView
  taken kept = record (spent kept) { data_pages = with_taken volume.data_pages pages }

  -- ---- the words

  module _ (J : List ℕ) (fills : FillsFile P I J i growth.offset bytes pages) where
    stores : StoresIn P I J [] (old ++ pages) (i ∷ [])
    stores = wider_law P I J [] (old ++ pages) [] [] (old ++ pages) (i ∷ []) (record { of_slots = λ s among. absurd among; of_pages = λ j among. among; of_inodes = λ x among. absurd among })
        (filled_words_law P I J i growth.offset bytes pages old (files.all_pages volume before state others ready.prepared.stands i planned.file planned.untouched) fills)

    pub tears_file : TearsFile P I J state later i growth.offset bytes
    tears_file = record {
      crash = λ M mix.
          let torn = (filling.leaves_filled P I J i growth.offset bytes pages may fills).torn M mix in
          (mixed_sound P I J M [] (old ++ pages) (i ∷ []) stores unmarked mix torn.coherent, torn);
      file = planned.file;
      tree = refl;
      room = refl;
    }

    coherent : IsCoherent P J
    coherent = (filling.shape P I J i growth.offset bytes pages may fills).coherent

    reached : (kept : ℕ) → IsReached (taken kept) J later (pages_left_by i pages) others
    reached kept = record {
      coherent = coherent;
      beside = filled_law P I J i growth.offset bytes pages others may fills ready.prepared.stands.beside;
      reads = reads_filled P I J i growth.offset bytes pages may fills state ready.prepared.stands.reads;
      knows = known_filled (spent kept) I J others (joined (pages_left_by i pages) others) (fill.change P I J i growth.offset bytes pages others may fills) fills.size (known_keeping kept volume I others ready.prepared.stands.knows) pages
          (λ j is. contained_in j pages is) (fill.left P I J i growth.offset bytes pages others may fills) (fill.used P I J i growth.offset bytes pages others may fills) (taken kept) refl;
      no_pointer = ready.no_pointer;
    }

  -- ---- behind the step

  module _ (new : VolumeView) (after : DeviceView) (next : Progress)
      (makes : MakesStep (step_of_growth volume.size growth bytes pages Begun) (EntersGrowth growth.inode pages Begun) (keeping volume action) new before after)
      (follows : next_of_growth Begun pages ≡ Some next) (stands : StandsGrowth new after growth bytes pages next) where
    abbrev L : List ℕ
    L = after.words

    filled : FillsFile P I L i growth.offset bytes pages
    filled = makes.takes.makes

    abbrev kept_then : ℕ
    kept_then = (keeping volume action).kept - (step_of_growth volume.size growth bytes pages Begun).events

    abbrev volume_then : VolumeView
    volume_then = taken kept_then

    beside : StandsWith volume_then after later (pages_left_by i pages) others
    beside = behind (keeping volume action) volume_then before after state later no_residue (pages_left_by i pages) others (step_of_growth volume.size growth bytes pages Begun) (EntersGrowth i pages Begun) [] (old ++ pages) (i ∷ [])
        with (record { kept = makes.kept; takes = makes.takes; enters = refl }) refl (record { size = refl; stopped = refl; marked = refl; kept = refl }) (stores L filled) (reached L filled kept_then)

    waits_then : StandsGrowth volume_then after growth bytes pages next → WaitsToGrow volume_then after later growth bytes pages next others
    waits_then stands_then = record {
      beside = beside;
      at = stands_then.at;
      knows = stands_then.knows;
      file = file_still (fill.change P I L i growth.offset bytes pages others may filled) later may.file (reached L filled kept_then).reads;
      size = fill.size_same P I L i growth.offset bytes pages others may filled ∙ planned.size;
      larger = planned.larger;
      small = planned.small;
      old_order = fill.old_order P I L i growth.offset bytes pages others may filled old file_there.0 of_file growth.old_size (subst (λ n. AreInOrder P I old 0 n) planned.size order);
      old_pages = fill.old_pages P I L i growth.offset bytes pages others may filled old file_there.0 of_file;
      new_order = subst (λ n. AreInOrder P L pages n growth.new_size) planned.size (fill.new_order P I L i growth.offset bytes pages others may filled growth.new_size count);
      new_pages = filled_pages P L i pages next follows (fill.new_pages P I L i growth.offset bytes pages others may filled);
      range = filled_range_law P I L i growth.offset bytes old pages may order of_file filled;
      unlisted = unlisted;
      alone = fill.still_alone P I L i growth.offset bytes pages others may filled (λ j among. ((ready.prepared.stands.beside.of_pages.each j).0 among).in_range) planned.untouched.apart.pages;
    }

    pub waits_on : WaitsOn volume new before after later growth bytes pages next others
    waits_on = subst (λ v. WaitsOn volume v before after later growth bytes pages next others) (sym makes.enters) (record {
      waits = waits_then (subst (λ v. StandsGrowth v after growth bytes pages next) makes.enters stands);
      leaves = record { beside = beside; stores = stores L filled; affects = record { size = refl; others = λ x none. refl; lists = λ x j listed. inl listed } };
    })

pub growth_filled_law : GrowthFilledLaw
growth_filled_law volume new before after state command action growth bytes pages next others ready grows makes follows stands =
    let planned = planned_growth volume before state command action growth bytes pages others ready grows in (
      torn_state before.words state growth.inode growth.offset bytes,
      tears_file volume before state command action growth bytes pages others ready planned after.words makes.takes.makes,
      waits_on volume before state command action growth bytes pages others ready planned new after next makes follows stands,
    )
