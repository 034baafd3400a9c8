-- The history of a rename is that of the words: its commit enters it, a crash leaves it or in the commit the one behind it, and an acknowledgement
-- leaves it.
use Rattle.std.proofs.Common.{◌≡◌, inl, inr, ℕ, ◌+◌, ◌≤◌, Bool, true, false, IsTrue, List, [], Option, Some, None, is_some, refl, sym, ap, subst, ◌∙◌, arith}
use Rattle.std.proofs.lemmas.Bool.{eqb-true, lt-leb}
use Rattle.pm_trait.specs.DeviceView.{DeviceView, Acknowledges}
use Rattle.pm_trait.specs.Unfolds.{Through}
use Rattle.tree_model.specs.Capacity.{untaken}
use Rattle.tree_model.specs.Step.{refusal_with}
use Rattle.tree_model.specs.Tree.{Node, Tree, node_at}
use Rattle.tree_model.specs.Run.{State}
use Rattle.tree_model.specs.declared.command.Command.{Command}
use Rattle.tree_model.specs.declared.command.Command.TheVariants.{Rename}
use Rattle.mixing_laws.proofs.Ranges.{none_mixed_law}
use Rattle.image_counts.proofs.States.{state_law}
use Rattle.image_laws.specs.Quiet.{IsMix}
use Rattle.volume.specs.Volume.{VolumeView}
use Rattle.volume.specs.declared.plan.Moving.{Moving}
use Rattle.removal_steps.specs.Steps.{gone_pages}
use Rattle.rename_ptr.specs.Stages as moves
use Rattle.rename_ptr.specs.declared.rename.Progress.{Progress}
use Rattle.rename_ptr.specs.declared.rename.Progress.TheVariants.{Pointed}
use Rattle.rename_ptr.specs.declared.rename.Stage.TheVariants.{Moving as MovesName}
use Rattle.running_calls.specs.declared.running.Running.{Running}
use Rattle.running_calls.specs.Stages.{step_of}
use Rattle.waiting_laws.specs.Beside.{Commits}
use Rattle.waiting_laws.specs.Begins.{holds_nothing}
use Rattle.waiting_laws.specs.Moving.{WaitsToMove, left_by}
use Rattle.waiting_laws.proofs.MovingCommits.{moving_commit_law}
use Rattle.waiting_laws.proofs.Preparing.{acknowledged}
use Rattle.waiting_laws.proofs.UnnamedCrash.{moving_quiet_law}
use Rattle.running_laws.specs.Steps.{IsAfter, Means, commits, has_committed, commits_move}
use Rattle.session_laws.specs.Calls.{Call, Calls, fences_of_call}
use Rattle.session_laws.specs.Histories.{IsHistory, EntersHistory, IsCrashOf, MayBeLeft}
use Rattle.session_laws.specs.Moving.{MoveWaits, MoveEntersLaw, MoveCrashLaw, MoveAcknowledgedLaw}
use Rattle.session_laws.proofs.MoveSteps.{commit_or_quiet}

-- where no range is written, a history is its words
history_itself : (state : State) → IsHistory [] state state
history_itself state = record { tree = (none_mixed_law state.tree state.tree).1 refl; room = refl }

-- inodes are numbered from 1
none_of_zero : (T : Tree) → (IsTrue (is_some (node_at T 0)) → 1 ≤ 0) → node_at T 0 ≡ None
none_of_zero T least = by_node (node_at T 0) least
  where
    by_node : (node : Option Node) → (IsTrue (is_some node) → 1 ≤ 0) → node ≡ None
    by_node None least = refl
    by_node (Some node) least = absurd (let one = least refl in omega (arith, one))

module _ (volume : VolumeView) (device : DeviceView) (words : State) (calls : Calls) (s : ℕ) (call : Call) (waits : MoveWaits volume device words calls s call) where
  abbrev moving : Moving
  moving = waits.moving

  abbrev progress : Progress
  progress = waits.progress

  no_zero : node_at words.tree 0 ≡ None
  no_zero = none_of_zero words.tree (λ there. ((state_law volume.size device.words words waits.waits.stands.sound.coherent waits.waits.stands.reads).fits.ids 0 there).0)

  -- what commits now has not committed yet
  not_yet : commits call.running ≡ true → has_committed call.running ≡ false
  not_yet is =
      let now = eqb-true (fences_of_call volume call) (call.behind + 1) (sym waits.behind.commit ∙ is) in
      waits.behind.committed ∙ lt-leb (fences_of_call volume call) call.behind (omega (arith, now))

  accepted : commits call.running ≡ true → refusal_with (untaken volume.size) words.tree words.room call.command ≡ None
  accepted is = subst (λ (c : Command). refusal_with (untaken volume.size) words.tree words.room c ≡ None) (sym waits.command_is) (waits.accepted (not_yet is))

  pub enters : (later : State) → commits call.running ≡ true → IsAfter words later call.command 0 → EntersHistory (untaken volume.size) words later call.command 0
  enters later is behind = record { accepted = accepted is; unused = no_zero; after = behind }

  -- ---- a crash

  module _ (J M : List ℕ) (made : (step_of volume [] call.running).Makes device.words J) (mix : IsMix device.words J M) where
    makes : (moves.step_of volume (MovesName moving progress)).Makes device.words J
    makes = subst (λ (running : Running). (step_of volume [] running).Makes device.words J) waits.running_is made

    abbrev Left : Type 0
    Left = MayBeLeft volume.size [] (untaken volume.size) (commits call.running) call.command 0 words M

    quietly : (progress ≡ Pointed → ⊥) → Left
    quietly other =
        let crash = moving_quiet_law volume device words waits.from waits.to moving progress J waits.waits other makes M mix in
        let reads = waits.waits.stands.reads in
        inl (record {
          sound = crash.sound;
          read = words;
          reads = record { tree = crash.same.reads words.tree reads.tree; room = crash.same.room words.room reads.room };
          mixed = history_itself words;
        })

    committing : progress ≡ Pointed → Left
    committing is =
        let committed : Commits volume.size device.words J words (Rename waits.from waits.to) 0 =
        moving_commit_law volume device words waits.from waits.to moving 0 J (subst (WaitsToMove volume device words waits.from waits.to moving) is waits.waits)
        (subst (λ (p : Progress). (moves.step_of volume (MovesName moving p)).Makes device.words J) is makes) in
        let stepped = committed.stepped in
        let commit : commits call.running ≡ true = ap commits waits.running_is ∙ ap commits_move is in
        let behind : IsAfter words stepped.new call.command 0 =
        subst (λ (c : Command). IsAfter words stepped.new c 0) (sym waits.command_is) (record { tree = stepped.tree; room = stepped.room }) in
        elim (committed.crash M mix) [
          | inl same ↦ inl (subst (λ (l : List ℕ). IsCrashOf volume.size l [] words) (sym same)
              (record { sound = waits.waits.stands.sound; read = words; reads = waits.waits.stands.reads; mixed = history_itself words }))
          | inr same ↦ inr (
            commit,
            stepped.new,
            enters stepped.new commit behind,
            subst (λ (l : List ℕ). IsCrashOf volume.size l [] stepped.new) (sym same)
                (record { sound = committed.sound; read = stepped.new; reads = stepped.reads; mixed = history_itself stepped.new }),
          )
        ]

    pub crash : Left
    crash = elim (commit_or_quiet progress) [ inl is ↦ committing is | inr quiet ↦ quietly quiet.0 ]

  -- ---- an acknowledgement

  module _ (after : DeviceView) (acks : Acknowledges device after) where
    waits_after : WaitsToMove volume after words waits.from waits.to moving progress
    waits_after = let here = waits.waits in record {
      stands = (acknowledged volume device after words (left_by volume moving progress) holds_nothing here.stands acks).0;
      going = here.going;
      unmarked = here.unmarked;
      at = record {
        first = here.at.first;
        planned = here.at.planned;
        pages_are = here.at.pages_are;
        made = subst (λ (l : List ℕ). Through (moves.made_at volume.size moving (gone_pages volume moving.replaced) progress) here.at.first l) (sym acks.words) here.at.made;
        store = here.at.store;
      };
      knows = here.knows;
      start = here.start;
      planned = here.planned;
      named = here.named;
      listed = here.listed;
    }

    pub stays : MoveWaits volume after words calls s call
    stays = record {
      runs = waits.runs;
      alone = waits.alone;
      from = waits.from;
      to = waits.to;
      moving = moving;
      progress = progress;
      command_is = waits.command_is;
      running_is = waits.running_is;
      named = waits.named;
      waits = waits_after;
      accepted = waits.accepted;
      behind = waits.behind;
      of_plan = waits.of_plan;
      kept = waits.kept;
      few = waits.few;
    }

pub move_enters_law : MoveEntersLaw
move_enters_law volume device words later calls s call waits means is =
    enters volume device words calls s call waits later is (subst (λ (t : Bool). Means t words later call.command 0) is means)

pub move_crash_law : MoveCrashLaw
move_crash_law volume device words calls s call J M waits made mix = crash volume device words calls s call waits J M made mix

pub move_acknowledged_law : MoveAcknowledgedLaw
move_acknowledged_law volume before after words calls s call waits acks = stays volume before words calls s call waits after acks
