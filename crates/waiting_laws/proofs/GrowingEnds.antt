-- The size rises over the new pages: the growth is committed, and has left nothing.
use Rattle.std.proofs.Common.{◌≡◌, ◌⊎◌, inl, inr, ℕ, ◌-◌, ◌≤◌, List, [], ◌∷◌, ◌++◌, refl, sym, ap, subst, ◌∙◌, arith, length-set}
use Rattle.std.specs.Prelude.{Option, Some, None, Contains}
use Rattle.std.proofs.lemmas.Bool.{cases_eq}
use Rattle.std.proofs.lemmas.List.Elements.{Contains-append_cases}
use Rattle.pm_trait.specs.DeviceView.{DeviceView}
use Rattle.layout.specs.Fields.{inode_size}
use Rattle.layout.specs.Geometry.{inode_word_of, inodes_of}
use Rattle.tree_model.specs.PathText.{Route}
use Rattle.tree_model.specs.Run.{State}
use Rattle.tree_model.specs.Tree.{id_at}
use Rattle.tree_model.specs.declared.command.Command.{Command}
use Rattle.tree_model.specs.declared.command.Command.TheVariants.{Write}
use Rattle.image_reading.specs.Counts.{IsIn}
use Rattle.image_reading.specs.Reading.{ReadsAs}
use Rattle.image_reading.specs.Residue.{Residue, no_residue, IsTidyBeside}
use Rattle.image_reading.specs.Soundness.{IsCoherent, Sound}
use Rattle.image_counts.specs.Entries.{IsPageIn}
use Rattle.image_counts.proofs.Distinct.{in_either}
use Rattle.image_laws.specs.CreateStep.{IsStepped}
use Rattle.content_laws.specs.Growth.{sized}
use Rattle.weave_laws.specs.Beside.{StoresIn}
use Rattle.weave_laws.specs.Bytes.{MayRaise, HoldsRange}
use Rattle.weave_laws.specs.Joined.{joined}
use Rattle.weave_laws.specs.Sizing.{ArePagesBetween}
use Rattle.weave_laws.specs.Waiting.{AreInOrder}
use Rattle.weave_laws.proofs.Contained.{in_contained, contained_in}
use Rattle.weave_laws.proofs.Disjoint.{wider_law}
use Rattle.weave_laws.proofs.Growing.{held_range_law}
use Rattle.weave_laws.proofs.OwnWords.{sized_words_law}
use Rattle.weave_laws.proofs.Resized.{raised_coherent, raised_meaning_law}
use Rattle.weave_laws.proofs.SizedRaised.{raised_law}
use Rattle.weave_laws.proofs.SizedWords as size_words
use Rattle.weave_laws.proofs.SizedSteps.{raised_write_law, raised_truncate_law}
use Rattle.weave_laws.proofs.WaitingFiles.{in_order, waiting_raising_law}
use Rattle.volatile_index.specs.Index.{NodeView, pages_of}
use Rattle.volume.specs.Volume.{VolumeView}
use Rattle.volume.specs.Beside.{KnowsBeside}
use Rattle.volume.specs.Entered.{PutsPages}
use Rattle.data_ops.specs.declared.grow.Growth.{Growth}
use Rattle.data_ops.specs.declared.grow.Progress.{Progress}
use Rattle.data_ops.specs.declared.grow.Progress.TheVariants.{Begun, Filled, Owned}
use Rattle.data_ops.specs.Growing.{IsGrowing}
use Rattle.data_ops.specs.GrowthStages.{EntersGrowth, step_of_growth}
use Rattle.knowing_laws.specs.Knowing.{FollowPages}
use Rattle.knowing_laws.proofs.Pages.{pages_known}
use Rattle.waiting_laws.specs.Beside.{StandsWith, MakesStep, Leaves, Affects, Commits}
use Rattle.waiting_laws.specs.Growing.{file_held_by, pages_left_by, WaitsToGrow, GrowthEndsLaw}
use Rattle.waiting_laws.proofs.Standing.{IsReached, waits, no_mark, same_mark, sound_without, behind}
use Rattle.waiting_laws.proofs.FilePages as files
use Rattle.waiting_laws.proofs.FilePages.{no_size}
use Rattle.waiting_laws.proofs.FileKnown.{known_keeping}
use Rattle.waiting_laws.proofs.FileEntries.{keeps_entries}
use Rattle.waiting_laws.proofs.FileSized as words

-- what the command leaves, by what it is
stepped_by : (P : ℕ) (I : List ℕ) (state : State) (growth : Growth) (bytes : List ℕ) (path : Route) (command : Command) (n : ℕ) → MayRaise P I growth.inode growth.new_size → HoldsRange P I growth.inode growth.new_size growth.offset bytes
    → id_at state.tree path ≡ Some growth.inode → ReadsAs P I state → IsGrowing growth bytes path command → IsStepped P (sized I growth.inode growth.new_size) state command n
stepped_by P I state growth bytes path _ n may holds at reads (IsGrowing.write size some) =
    subst (λ z. IsStepped P (sized I growth.inode z) state (Write path growth.offset bytes) n) (sym size)
    (raised_write_law P I state path growth.inode growth.offset n bytes (subst (MayRaise P I growth.inode) size may) (subst (λ z. HoldsRange P I growth.inode z growth.offset bytes) size holds) some at reads)
stepped_by P I state growth bytes path _ n may holds at reads (IsGrowing.truncate none starts) =
    raised_truncate_law P I state path growth.inode growth.new_size growth.offset n may (subst (λ l. HoldsRange P I growth.inode growth.new_size growth.offset l) none holds) at reads

module _ (old : VolumeView) (before : DeviceView) (state : State) (growth : Growth) (bytes pages : List ℕ) (others : Residue) (waiting : WaitsToGrow old before state growth bytes pages Owned others) where
  abbrev P : ℕ
  P = old.size

  abbrev I : List ℕ
  I = before.words

  abbrev i : ℕ
  i = growth.inode

  abbrev z : ℕ
  z = growth.new_size

  abbrev J : List ℕ
  J = sized I i z

  abbrev own : List ℕ
  own = pages_of old.index i

  abbrev residue : Residue
  residue = joined (pages_left_by i pages) others

  new_order : AreInOrder P I pages (inode_size I i) z
  new_order = subst (λ n. AreInOrder P I pages n z) (sym waiting.size) waiting.new_order

  may_raise : MayRaise P I i z × ArePagesBetween P I i pages (inode_size I i) z
  may_raise = waiting_raising_law P I state i z pages others (waits old before state (pages_left_by i pages) others waiting.beside) waiting.file new_order (λ j is. (waiting.new_pages j is).owner) waiting.alone
      (let size = waiting.size in let larger = waiting.larger in omega (arith, size, larger)) waiting.small

  of_both : (j : ℕ) → Contains (own ++ pages) j → IsPageIn P I i j
  of_both j there = elim (Contains-append_cases own pages j there) [ inl front ↦ waiting.old_pages j front | inr back ↦ waiting.new_pages j back ]

  holds : HoldsRange P I i z growth.offset bytes
  holds = held_range_law P I i z growth.offset bytes own pages may_raise.0 (subst (λ n. AreInOrder P I own 0 n) (sym waiting.size) waiting.old_order) new_order of_both waiting.range

  -- ---- the command

  stores_sized : StoresIn P I J [] [] (i ∷ [])
  stores_sized = sized_words_law P I i z

  sound : Sound P J
  sound = sound_without P J (raised_meaning_law P I i z growth.offset bytes may_raise.0 holds).coherent
      (same_mark P I J [] [] (i ∷ []) stores_sized ∙ no_mark old before state residue waiting.beside.stands waiting.beside.unmarked)

  stepped : (path : Route) (command : Command) (n : ℕ) → IsGrowing growth bytes path command → id_at state.tree path ≡ Some i → IsStepped P J state command n
  stepped path command n grows named = stepped_by P I state growth bytes path command n may_raise.0 holds named waiting.beside.stands.reads grows

  pub commits : (path : Route) (command : Command) (n : ℕ) → IsGrowing growth bytes path command → id_at state.tree path ≡ Some i
      → (L : List ℕ) → (step_of_growth old.size growth bytes pages Owned).Makes I L → Commits P I L state command n
  commits path command n grows named L made = subst (λ l. Commits P I l state command n) (sym made)
      (record { crash = (raised_meaning_law P I i z growth.offset bytes may_raise.0 holds).commit; sound = sound; stepped = stepped path command n grows named })

  -- ---- the volume behind it

  module _ (new : VolumeView) (after : DeviceView) (makes : MakesStep (step_of_growth old.size growth bytes pages Owned) (EntersGrowth growth.inode pages Owned) old new before after) where
    same_words : after.words ≡ J
    same_words = makes.takes.makes

    stores : StoresIn P I after.words [] (own ++ pages) (i ∷ [])
    stores = subst (λ l. StoresIn P I l [] (own ++ pages) (i ∷ [])) (sym same_words) (
        wider_law P I J [] [] (i ∷ []) [] (own ++ pages) (i ∷ []) (record { of_slots = λ s among. absurd among; of_pages = λ j among. absurd among; of_inodes = λ x among. among }) stores_sized)

    abbrev spent : VolumeView
    spent = record old { kept = old.kept - (step_of_growth old.size growth bytes pages Owned).events }

    puts : PutsPages spent new i pages
    puts = makes.enters

    abbrev listed : VolumeView
    listed = record spent { index = new.index }

    file_there : (1 ≤ i) × (i ≤ inodes_of P)
    file_there = files.in_inodes old before state residue waiting.beside.stands i waiting.file

    follow : FollowPages spent J pages i
    follow = record {
      are = record {
        owned = λ j among. words.still_in P I i z file_there.0 file_there.1 i j (waiting.new_pages j (in_contained j pages among));
        unlisted = λ x j among least most there. waiting.unlisted x j among there;
        once = in_order P I pages growth.old_size z waiting.new_order;
      };
      offsets = λ k j at.
          let same = words.offset_same P I i z file_there.0 file_there.1 j in
          let stood = waiting.new_order.offsets k j at in
          let all = waiting.old_order.count in
          let none = no_size in
          omega (arith, same, stood, all, none);
    }

    -- with the words and the state that a step leaves
    reached : (l : List ℕ) → l ≡ J → (later : State) → ReadsAs P l later → IsReached listed l later no_residue others
    reached l same later reads = record {
      coherent = subst (IsCoherent P) (sym same) (raised_meaning_law P I i z growth.offset bytes may_raise.0 holds).coherent;
      beside = subst (λ w. IsTidyBeside P w others) (sym same) (raised_law P I i z pages others may_raise.0 may_raise.1 waiting.beside.stands.beside);
      reads = reads;
      knows = subst (λ w. KnowsBeside listed w others) (sym same) (
          pages_known spent listed I J residue others i pages (known_keeping spent.kept old I residue waiting.beside.stands.knows) (length-set I (inode_word_of i 2) z) file_there.0 file_there.1
          (keeps_entries (size_words.change P I i z may_raise.0.coherent may_raise.0.reached (raised_coherent P I i z may_raise.0)))
          (words.keeps_pages P I i z file_there.0 file_there.1 residue others pages (λ j kept none among. elim (in_either j pages others.pages among) [ inl mine ↦ none mine | inr theirs ↦ kept theirs ])) follow (words.numbers P I i z file_there.0 file_there.1) (record { index = puts.index; rest = refl }));
      no_pointer = waiting.beside.no_pointer;
    }

    beside : (later : State) → ReadsAs P after.words later → StandsWith listed after later no_residue others
    beside later reads = behind old listed before after state later (pages_left_by i pages) no_residue others (step_of_growth old.size growth bytes pages Owned) (EntersGrowth i pages Owned) [] (own ++ pages) (i ∷ [])
        waiting.beside (record { kept = makes.kept; takes = makes.takes; enters = record { index = puts.index; rest = refl } }) refl (record { size = refl; stopped = refl; marked = refl; kept = refl }) stores
        (reached after.words same_words later reads)

    lists : (x j : ℕ) → Contains (pages_of new.index x) j → Contains (pages_of old.index x) j ⊎ IsIn j (own ++ pages)
    lists x j there = elim (cases_eq x i) [
      | inl same ↦
          let here : Contains (own ++ pages) j = subst (λ (l : List ℕ). Contains l j) (ap (λ y. pages_of new.index y) same ∙ puts.index.node.pages) there in
          inr (contained_in j (own ++ pages) here)
      | inr other ↦ inl (subst (λ (node : NodeView). Contains node.pages j) (puts.index.elsewhere.others x other) there)
    ]

    affects : Affects old listed (file_held_by old i pages)
    affects = record { size = refl; others = λ x none. puts.index.elsewhere.others x (λ same. none (inl same)); lists = lists }

    pub leaves : (later : State) → ReadsAs P after.words later → Leaves old new before after later no_residue others (file_held_by old i pages)
    leaves later reads = subst (λ v. Leaves old v before after later no_residue others (file_held_by old i pages)) (sym puts.rest) (record { beside = beside later reads; stores = stores; affects = affects })

unfinished : (progress : Progress) → ◌≡◌ {A = Option Progress} (Some progress) None → ⊥
unfinished progress e = cc

pub growth_ends_law : GrowthEndsLaw
growth_ends_law old new before after state path command growth bytes pages Begun n others waiting grows named makes last = absurd waiting.new_pages
growth_ends_law old new before after state path command growth bytes pages Filled n others waiting grows named makes last = absurd (unfinished Owned last)
growth_ends_law old new before after state path command growth bytes pages Owned n others waiting grows named makes last =
    let ends = commits old before state growth bytes pages others waiting path command n grows named after.words makes.takes.makes in
    (ends, leaves old before state growth bytes pages others waiting new after makes ends.stepped.new ends.stepped.reads)
