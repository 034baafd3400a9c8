-- The filled pages become the file's: the growth waits again.
use Rattle.std.proofs.Common.{◌≡◌, inl, ℕ, ◌-◌, ◌<◌, false, List, [], ◌∷◌, ◌++◌, length, refl, sym, subst, ◌∙◌}
use Rattle.std.specs.Prelude.{Option, Some, None, Contains}
use Rattle.std.proofs.lemmas.Bool.{lt-ltb}
use Rattle.pm_trait.specs.DeviceView.{DeviceView}
use Rattle.layout.specs.Geometry.{data_pages_of}
use Rattle.layout.specs.Superblock.{has_mark}
use Rattle.tree_model.specs.Run.{State}
use Rattle.image_reading.specs.Counts.{IsIn}
use Rattle.image_reading.specs.Residue.{Residue}
use Rattle.image_counts.proofs.Distinct.{in_front, in_back}
use Rattle.image_laws.specs.Frame.{SameMeaning}
use Rattle.image_laws.proofs.Free.{mix_itself}
use Rattle.content_laws.specs.Growth.{TakesPages}
use Rattle.weave_laws.specs.Beside.{StoresIn}
use Rattle.weave_laws.specs.Bytes.{MayOwn}
use Rattle.weave_laws.specs.Joined.{joined}
use Rattle.weave_laws.specs.Waiting.{AreInOrder}
use Rattle.weave_laws.proofs.Contained.{contained_in}
use Rattle.weave_laws.proofs.Disjoint.{wider_law}
use Rattle.weave_laws.proofs.Listed.{distinct_apart}
use Rattle.weave_laws.proofs.Growing.{taken_range_law}
use Rattle.weave_laws.proofs.OwnWords.{taken_words_law}
use Rattle.weave_laws.proofs.PagesTaken.{taken_meaning_law}
use Rattle.weave_laws.proofs.SizedTaken.{taken_law}
use Rattle.weave_laws.proofs.WaitingFiles.{waiting_owning_law}
use Rattle.volatile_index.specs.Index.{pages_of}
use Rattle.volume.specs.Volume.{VolumeView}
use Rattle.data_ops.specs.declared.grow.Growth.{Growth}
use Rattle.data_ops.specs.declared.grow.Progress.{Progress}
use Rattle.data_ops.specs.declared.grow.Progress.TheVariants.{Begun, Filled, Owned}
use Rattle.data_ops.specs.GrowthStages.{EntersGrowth, step_of_growth}
use Rattle.data_ops.specs.GrowthSteps.{StandsGrowth}
use Rattle.waiting_laws.specs.Beside.{StandsWith, MakesStep, KeepsMeaning}
use Rattle.waiting_laws.specs.Growing.{pages_left_by, WaitsToGrow, WaitsOn, GrowthOwnedLaw}
use Rattle.waiting_laws.proofs.Standing.{IsReached, waits, no_mark, behind, quiet}
use Rattle.waiting_laws.proofs.FileKnown.{known_still}
use Rattle.waiting_laws.proofs.GrowingTake as take

module _ (old : VolumeView) (before : DeviceView) (state : State) (growth : Growth) (bytes pages : List ℕ) (others : Residue) (waiting : WaitsToGrow old before state growth bytes pages Filled others) where
  abbrev P : ℕ
  P = old.size

  abbrev I : List ℕ
  I = before.words

  abbrev i : ℕ
  i = growth.inode

  abbrev own : List ℕ
  own = pages_of old.index i

  abbrev residue : Residue
  residue = joined (pages_left_by i pages) others

  may : MayOwn P I i pages
  may = waiting_owning_law P I state i growth.new_size pages others (waits old before state (pages_left_by i pages) others waiting.beside) waiting.file
      (subst (λ n. AreInOrder P I pages n growth.new_size) (sym waiting.size) waiting.new_order) waiting.new_pages

  unmarked : has_mark I ≡ false
  unmarked = no_mark old before state residue waiting.beside.stands waiting.beside.unmarked

  left : (j : ℕ) → Contains pages j → IsIn j (pages ++ others.pages)
  left j is = in_front j pages others.pages (contained_in j pages is)

  apart : (j : ℕ) → IsIn j others.pages → (j < data_pages_of P) × (¬ IsIn j pages)
  apart j among =
      let listed = waiting.beside.stands.beside.of_pages in
      (((listed.each j).0 (in_back j pages others.pages among)).in_range, (λ mine. distinct_apart pages others.pages listed.distinct j mine among))

  -- ---- the words

  module _ (J : List ℕ) (takes : TakesPages P I J i pages) where
    owners_stored : StoresIn P I J [] pages []
    owners_stored = taken_words_law P I J i pages takes

    stores : StoresIn P I J [] (own ++ pages) (i ∷ [])
    stores = wider_law P I J [] pages [] [] (own ++ pages) (i ∷ []) (record { of_slots = λ s among. absurd among; of_pages = λ j among. in_back j own pages among; of_inodes = λ x among. absurd among }) owners_stored

    pub keeps_meaning : KeepsMeaning P I J
    keeps_meaning = quiet P I J [] pages [] owners_stored unmarked (λ M mix. taken_meaning_law P I J M i pages may takes mix)

    same : SameMeaning P I J
    same = taken_meaning_law P I J J i pages may takes (mix_itself I J takes.size)

    reached : (kept : ℕ) → IsReached (record old { kept = kept }) J state (pages_left_by i pages) others
    reached kept = record {
      coherent = same.coherent;
      beside = taken_law P I J i pages residue may takes waiting.beside.stands.beside;
      reads = record { tree = same.reads state.tree waiting.beside.stands.reads.tree; room = same.room state.room waiting.beside.stands.reads.room };
      knows = known_still kept old I J residue residue waiting.beside.stands.knows takes.size (take.entries P I J i pages may takes) (take.keeps_pages P I J i pages may takes residue left) (take.numbers P I J i pages may takes);
      no_pointer = waiting.beside.no_pointer;
    }

  -- ---- behind the step: the volume has lost its events alone

  module _ (new : VolumeView) (after : DeviceView) (makes : MakesStep (step_of_growth old.size growth bytes pages Filled) (EntersGrowth growth.inode pages Filled) old new before after)
      (stands : StandsGrowth new after growth bytes pages Owned) where
    abbrev L : List ℕ
    L = after.words

    taken : TakesPages P I L i pages
    taken = makes.takes.makes

    abbrev spent : VolumeView
    spent = record old { kept = old.kept - (step_of_growth old.size growth bytes pages Filled).events }

    beside : StandsWith spent after state (pages_left_by i pages) others
    beside = behind old spent before after state state (pages_left_by i pages) (pages_left_by i pages) others (step_of_growth old.size growth bytes pages Filled) (EntersGrowth i pages Filled) [] (own ++ pages) (i ∷ [])
        waiting.beside (record { kept = makes.kept; takes = makes.takes; enters = refl }) (lt-ltb 0 (length pages) waiting.at.some) (record { size = refl; stopped = refl; marked = refl; kept = refl }) (stores L taken) (reached L taken spent.kept)

    waits_then : StandsGrowth spent after growth bytes pages Owned → WaitsToGrow spent after state growth bytes pages Owned others
    waits_then stands_then = record {
      beside = beside;
      at = stands_then.at;
      knows = stands_then.knows;
      file = waiting.file;
      size = take.size_same P I L i pages may taken ∙ waiting.size;
      larger = waiting.larger;
      small = waiting.small;
      old_order = take.still_order P I L i pages may taken own 0 growth.old_size waiting.old_order;
      old_pages = λ j there. take.still_in P I L i pages may taken j (waiting.old_pages j there);
      new_order = take.still_order P I L i pages may taken pages growth.old_size growth.new_size waiting.new_order;
      new_pages = take.new_in P I L i pages may taken;
      range = taken_range_law P I L (own ++ pages) i growth.offset bytes pages may taken waiting.range;
      unlisted = waiting.unlisted;
      alone = take.still_alone P I L i pages may taken others apart waiting.alone;
    }

    pub waits_on : WaitsOn old new before after state growth bytes pages Owned others
    waits_on = subst (λ v. WaitsOn old v before after state growth bytes pages Owned others) (sym makes.enters) (record {
      waits = waits_then (subst (λ v. StandsGrowth v after growth bytes pages Owned) makes.enters stands);
      leaves = record { beside = beside; stores = stores L taken; affects = record { size = refl; others = λ x none. refl; lists = λ x j listed. inl listed } };
    })

owned_next : (next : Progress) → ◌≡◌ {A = Option Progress} (Some Owned) (Some next) → Owned ≡ next
owned_next next e = cc

no_next : (next : Progress) → ◌≡◌ {A = Option Progress} None (Some next) → ⊥
no_next next e = cc

pub growth_owned_law : GrowthOwnedLaw
growth_owned_law old new before after state growth bytes pages Begun next others waiting makes follows stands = absurd waiting.new_pages
growth_owned_law old new before after state growth bytes pages Filled next others waiting makes follows stands =
    let owned = owned_next next follows in
    let stands_owned = subst (λ p. StandsGrowth new after growth bytes pages p) (sym owned) stands in
    subst (λ p. WaitsOn old new before after state growth bytes pages p others) owned (waits_on old before state growth bytes pages others waiting new after makes stands_owned)
growth_owned_law old new before after state growth bytes pages Owned next others waiting makes follows stands = absurd (no_next next follows)
