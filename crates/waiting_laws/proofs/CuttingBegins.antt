-- The first step of a cut commits it: the call waits where pages are to be given back, and else it has ended.
use Rattle.std.proofs.Common.{◌≡◌, ◌≢◌, ◌⊎◌, inl, ℕ, ◌+◌, ◌-◌, ◌≤◌, Bool, true, false, nat_lt, if◌then◌else◌, List, [], ◌∷◌, ◌++◌, length-set, refl, sym, ap, subst, ◌∙◌, arith}
use Rattle.std.specs.Prelude.{Contains}
use Rattle.std.proofs.lemmas.Bool.Decides.{nat_tests}
use Rattle.std.proofs.lemmas.List.{nil_from_length}
use Rattle.pm_trait.specs.DeviceView.{DeviceView}
use Rattle.layout.specs.Geometry.{inodes_of, inode_word_of}
use Rattle.layout.specs.Fields.{inode_size, page_owner}
use Rattle.tree_model.specs.PathText.{Route}
use Rattle.tree_model.specs.Run.{State}
use Rattle.tree_model.specs.declared.command.Command.TheVariants.{Truncate}
use Rattle.tree_model.specs.declared.reply.Reply.TheVariants.{Done}
use Rattle.image_reading.specs.Counts.{IsIn, IsDistinct}
use Rattle.image_reading.specs.Reading.{ReadsAs}
use Rattle.image_reading.specs.Residue.{Residue, no_residue}
use Rattle.image_reading.specs.Soundness.{Sound}
use Rattle.image_laws.specs.Quiet.{IsMix}
use Rattle.image_counts.proofs.Distinct.{in_back}
use Rattle.image_laws.specs.CreateStep.{IsStepped}
use Rattle.content_laws.specs.Growth.{sized}
use Rattle.weave_laws.specs.Bytes.{MayLower}
use Rattle.weave_laws.specs.Beside.{StoresIn}
use Rattle.weave_laws.specs.Joined.{joined}
use Rattle.weave_laws.specs.Removing.{cleared_left}
use Rattle.weave_laws.specs.Sizing.{ArePagesBetween}
use Rattle.weave_laws.proofs.Contained.{in_contained}
use Rattle.weave_laws.proofs.Disjoint.{wider_law}
use Rattle.weave_laws.proofs.OwnWords.{sized_words_law}
use Rattle.weave_laws.proofs.Resized.{lowered_coherent, leaves_lowered}
use Rattle.weave_laws.proofs.Sized.{ChangesFile}
use Rattle.weave_laws.proofs.SizedWords as size_words
use Rattle.weave_laws.proofs.SizedLowered.{lowered_law}
use Rattle.weave_laws.proofs.SizedSteps.{lowered_truncate_law}
use Rattle.weave_laws.proofs.WaitingFiles.{waiting_lowering_law}
use Rattle.volatile_index.specs.Index.{pages_of}
use Rattle.volume.specs.Costs.{commit_events, events_of}
use Rattle.volume.specs.Volume.{VolumeView}
use Rattle.volume.specs.Stages.{keeping}
use Rattle.volume.specs.declared.next.Next.{Next}
use Rattle.volume.specs.declared.next.Next.TheVariants.{More, Ended}
use Rattle.volume.specs.declared.plan.Resizing.{Resizing}
use Rattle.volume.specs.declared.plan.Action.TheVariants.{Resize}
use Rattle.data_ops.specs.Cutting.{gone_pages}
use Rattle.data_ops.specs.ResizeStages.{StandsStage, EntersAt, begun_resizing, step_of}
use Rattle.data_ops.specs.declared.truncate.CutProgress.{CutProgress}
use Rattle.data_ops.specs.declared.truncate.CutProgress.TheVariants.{Begun, Lowered}
use Rattle.data_ops.specs.declared.truncate.Stage.{Stage}
use Rattle.data_ops.specs.declared.truncate.Stage.TheVariants.{Cutting}
use Rattle.waiting_laws.specs.Beside.{IsReady, StandsWith, MakesStep, Leaves, Commits}
use Rattle.waiting_laws.specs.Cutting.{WaitsOn, CutLoweredLaw, CutAtOnceLaw, left_by, held_by}
use Rattle.waiting_laws.proofs.Standing.{IsReached, waits, no_mark, same_mark, sound_without, behind}
use Rattle.waiting_laws.proofs.ReadyStands.{stands_keeping}
use Rattle.waiting_laws.proofs.FilePages as files
use Rattle.waiting_laws.proofs.FileTruncations as truncations
use Rattle.waiting_laws.proofs.CuttingFiles as ready_file
use Rattle.waiting_laws.proofs.FileKnown.{known_still}
use Rattle.waiting_laws.proofs.FileEntries.{keeps_entries, file_still}
use Rattle.waiting_laws.proofs.FileSized as words

module _ (volume : VolumeView) (before : DeviceView) (state : State) (path : Route) (resizing : Resizing) (others : Residue) (ready : IsReady volume before state (Truncate path resizing.new_size) (Resize resizing) others)
    (begins : begun_resizing resizing ≡ Cutting resizing Begun) where
  abbrev P : ℕ
  P = volume.size

  abbrev I : List ℕ
  I = before.words

  abbrev i : ℕ
  i = resizing.inode

  abbrev z : ℕ
  z = resizing.new_size

  abbrev gone : List ℕ
  gone = gone_pages resizing (pages_of volume.index i)

  abbrev K : List ℕ
  K = sized I i z

  abbrev kept_now : ℕ
  kept_now = volume.kept + events_of (Resize resizing)

  with : StandsWith (keeping volume (Resize resizing)) before state no_residue others
  with = stands_keeping volume before state (Truncate path resizing.new_size) (Resize resizing) others ready

  -- the size may fall, and those are the pages behind it
  lowers : MayLower P I i z × IsDistinct gone × ArePagesBetween P I i gone z (inode_size I i)
  lowers =
      waiting_lowering_law P I state i z gone others (waits (keeping volume (Resize resizing)) before state no_residue others with) (truncations.file volume before state path resizing others ready)
      (ready_file.order volume before state path resizing others ready begins) (ready_file.gone_listed volume before state path resizing others ready begins) (ready_file.less volume before state path resizing others ready begins)

  abbrev may : MayLower P I i z
  may = lowers.0

  least : 1 ≤ i
  least = (files.in_inodes volume before state others ready.prepared.stands i (truncations.file volume before state path resizing others ready)).0

  most : i ≤ inodes_of P
  most = (files.in_inodes volume before state others ready.prepared.stands i (truncations.file volume before state path resizing others ready)).1

  -- ---- the words with the new size

  abbrev change : ChangesFile P I K i (λ j. ⊥)
  change = size_words.change P I i z may.coherent may.reached (lowered_coherent P I i z may)

  crash : (M : List ℕ) → IsMix I K M → (M ≡ I) ⊎ (M ≡ K)
  crash = (leaves_lowered P I i z may).commit

  stepped : (n : ℕ) → IsStepped P K state (Truncate path z) n
  stepped n = lowered_truncate_law P I state path i z n may (truncations.for_resizing volume before state path resizing others ready).inode_is ready.prepared.stands.reads

  stores_sized : StoresIn P I K [] [] (i ∷ [])
  stores_sized = sized_words_law P I i z

  sound : Sound P K
  sound = sound_without P K (leaves_lowered P I i z may).coherent
      (same_mark P I K [] [] (i ∷ []) stores_sized ∙ no_mark volume before state others ready.prepared.stands ready.unmarked)

  -- the step that makes them commits the truncation
  pub commits : (n : ℕ) (J : List ℕ) → (step_of volume (Cutting resizing Begun)).Makes I J → Commits P I J state (Truncate path z) n
  commits n J made = subst (λ (l : List ℕ). Commits P I l state (Truncate path z) n) (sym made) (record { crash = crash; sound = sound; stepped = stepped n })

  -- beside what is left then, in any state that the words read as
  reached : (kept : ℕ) (later : State) → ReadsAs P K later → IsReached (record volume { kept = kept }) K later (left_by volume resizing) others
  reached kept later reads = record {
    coherent = (leaves_lowered P I i z may).coherent;
    beside = lowered_law P I i z gone others may lowers.1 lowers.2 ready.prepared.stands.beside;
    reads = reads;
    knows = known_still kept volume I K others (joined (left_by volume resizing) others) ready.prepared.stands.knows (length-set I (inode_word_of i 2) z) (keeps_entries change)
        (words.keeps_pages P I i z least most others (joined (left_by volume resizing) others) [] (λ j out none among. out (in_back j gone others.pages among))) (words.numbers P I i z least most);
    no_pointer = ready.no_pointer;
  }

  -- ---- behind the step

  module _ (new : VolumeView) (after : DeviceView) (makes : MakesStep (step_of (keeping volume (Resize resizing)) (Cutting resizing Begun)) (EntersAt (Cutting resizing Begun)) (keeping volume (Resize resizing)) new before after) where
    abbrev spent : VolumeView
    spent = record volume { kept = kept_now - commit_events }

    stores_only : StoresIn P I after.words [] [] (i ∷ [])
    stores_only = subst (λ (J : List ℕ). StoresIn P I J [] [] (i ∷ [])) (sym makes.takes.makes) stores_sized

    module _ (later : State) (reads : ReadsAs P after.words later) where
      reads_sized : ReadsAs P K later
      reads_sized = subst (λ (J : List ℕ). ReadsAs P J later) makes.takes.makes reads

      beside_spent : StandsWith new after later (left_by volume resizing) others
      beside_spent =
          let is : new ≡ spent = makes.enters in
          behind (keeping volume (Resize resizing)) new before after state later no_residue (left_by volume resizing) others (step_of (keeping volume (Resize resizing)) (Cutting resizing Begun)) (EntersAt (Cutting resizing Begun))
          [] [] (i ∷ []) with makes refl
          (record {
            size = ap (λ (v : VolumeView). v.size) is;
            stopped = ap (λ (v : VolumeView). v.stopped) is;
            marked = ap (λ (v : VolumeView). v.marked) is;
            kept = ap (λ (v : VolumeView). v.kept) is;
          })
          stores_only
          (subst (λ (v : VolumeView). IsReached v after.words later (left_by volume resizing) others) (sym is)
          (subst (λ (J : List ℕ). IsReached spent J later (left_by volume resizing) others) (sym makes.takes.makes) (reached spent.kept later reads_sized)))

      leaves_spent : StandsWith spent after later (left_by volume resizing) others → Leaves volume spent before after later (left_by volume resizing) others (held_by volume resizing)
      leaves_spent beside = record {
        beside = beside;
        stores = wider_law P I after.words [] [] (i ∷ []) [] (pages_of volume.index i ++ []) (i ∷ []) (record { of_slots = λ s none. absurd none; of_pages = λ j none. absurd none; of_inodes = λ x is. is }) stores_only;
        affects = record { size = refl; others = λ x out. refl; lists = λ x j listed. inl listed };
      }

      pub leaves : Leaves volume new before after later (left_by volume resizing) others (held_by volume resizing)
      leaves =
          subst (λ (v : VolumeView). StandsWith v after later (left_by volume resizing) others → Leaves volume v before after later (left_by volume resizing) others (held_by volume resizing))
          (sym makes.enters) leaves_spent beside_spent

      owner_now : (j : ℕ) → page_owner P after.words j ≡ page_owner P I j
      owner_now j = ap (λ (J : List ℕ). page_owner P J j) makes.takes.makes ∙ words.owner_same P I i z least most j

      -- the pages that are cut stand in no other list
      unlisted : (x j : ℕ) → IsIn j gone → 1 ≤ x → x ≤ inodes_of P → x ≢ i → ¬ Contains (pages_of volume.index x) j
      unlisted x j among some few other listed =
          let page = ready_file.gone_listed volume before state path resizing others ready begins j (in_contained j gone among) in
          let untouched = truncations.untouched volume before state path resizing others ready in
          let is = (ready.prepared.stands.knows.nodes.pages x j some few (λ left. untouched.apart.pages j left page.owner)).0 listed in
          other (sym is.owner ∙ page.owner)

      waits_spent : StandsStage spent after (Cutting resizing Lowered) → Leaves volume spent before after later (left_by volume resizing) others (held_by volume resizing) → WaitsOn volume spent before after later resizing Lowered others
      waits_spent stands leaves = record {
        waits = record {
          beside = leaves.beside;
          at = stands.at;
          file = file_still change later may.file reads_sized;
          cut = λ j among. owner_now j ∙ (ready_file.gone_listed volume before state path resizing others ready begins j among).owner;
          kept = λ j listed out. owner_now j ∙ (ready_file.listed volume before state path resizing others ready begins j listed).owner;
          listed = unlisted;
          alone = λ j among owner. (truncations.untouched volume before state path resizing others ready).apart.pages j among (sym (owner_now j) ∙ owner);
        };
        leaves = leaves;
      }

      pub waits_on : StandsStage new after (Cutting resizing Lowered) → WaitsOn volume new before after later resizing Lowered others
      waits_on stands =
          subst (λ (v : VolumeView). StandsStage v after (Cutting resizing Lowered) → Leaves volume v before after later (left_by volume resizing) others (held_by volume resizing) → WaitsOn volume v before after later resizing Lowered others)
          (sym makes.enters) waits_spent stands leaves

      -- where none are to be given back nothing is left
      pub left_none : gone ≡ [] → Leaves volume new before after later no_residue others (held_by volume resizing)
      left_none none = subst (λ (pages : List ℕ). Leaves volume new before after later (cleared_left pages false i) others (held_by volume resizing)) none leaves

-- ---- where the step leads

next_some : (some : Bool) (resizing : Resizing) (progress : CutProgress) → ◌≡◌ {A = Next Stage} (if some then More (Cutting resizing Lowered) else Ended Done) (More (Cutting resizing progress)) → progress ≡ Lowered
next_some true resizing progress is = cc
next_some false resizing progress is = cc

next_none : (some : Bool) (resizing : Resizing) → ◌≡◌ {A = Next Stage} (if some then More (Cutting resizing Lowered) else Ended Done) (Ended Done) → some ≡ false
next_none true resizing is = cc
next_none false resizing is = refl

pub cut_lowered_law : CutLoweredLaw
cut_lowered_law volume new before after state path resizing progress n others ready begins makes is stands =
    let commit = commits volume before state path resizing others ready begins n after.words makes.takes.makes in
    let at = next_some (nat_lt 0 resizing.cut) resizing progress is in (
      commit,
      subst (λ (p : CutProgress). WaitsOn volume new before after commit.stepped.new resizing p others) (sym at)
          (waits_on volume before state path resizing others ready begins new after makes commit.stepped.new commit.stepped.reads (subst (λ (p : CutProgress). StandsStage new after (Cutting resizing p)) at stands)),
    )

pub cut_at_once_law : CutAtOnceLaw
cut_at_once_law volume new before after state path resizing n others ready begins makes is =
    let commit = commits volume before state path resizing others ready begins n after.words makes.takes.makes in
    let test = next_none (nat_lt 0 resizing.cut) resizing is in
    let none : resizing.cut ≡ 0 = grind (arith, nat_tests, test) in (
      commit,
      left_none volume before state path resizing others ready begins new after makes commit.stepped.new commit.stepped.reads
          (nil_from_length (gone_pages resizing (pages_of volume.index resizing.inode)) (ready_file.none_gone volume before state path resizing others ready begins none)),
    )
