-- A command that names nothing of the running calls' may be prepared, wherever they wait, and behind that they wait as they did.
use Rattle.std.proofs.Common.{◌≡◌, inl, inr, ℕ, ◌≤◌, true, false, Option, None, Some, is_some, Result, refl, sym, subst, ◌∙◌, arith}
use Rattle.std.proofs.lemmas.Bool.{cases_eq}
use Rattle.pm_trait.specs.DeviceView.{DeviceView}
use Rattle.tree_model.specs.Tree.{Tree, Node, node_at}
use Rattle.tree_model.specs.Run.{State, is_changing}
use Rattle.tree_model.specs.declared.command.Command.{Command}
use Rattle.tree_model.specs.declared.reply.Refusal.{Refusal}
use Rattle.naming_laws.specs.Naming.{names_inode, names_all}
use Rattle.naming_laws.proofs.Named.{present_named}
use Rattle.image_reading.specs.Residue.{Residue, no_residue}
use Rattle.image_counts.proofs.States.{state_law}
use Rattle.volume.specs.Volume.{VolumeView}
use Rattle.volume.specs.Beside.{StandsBeside, NamesUntouched, MayPrepare}
use Rattle.volume.specs.Named.{AreNamedBy, refusal_of_walks}
use Rattle.volume.specs.Prepared.{IsSameButPlaces, Prepares}
use Rattle.volume.specs.declared.named.NamedNodes.{NamedNodes}
use Rattle.volume.specs.declared.named.NamedNodes.TheVariants.{All, These}
use Rattle.volume.specs.declared.plan.Action.{Action}
use Rattle.volume.proofs.Reserved.{stands_still}
use Rattle.volume.proofs.WalkedBeside.{stands_tree}
use Rattle.running_laws.proofs.StillWaits.{still_waits_law}
use Rattle.running_laws.proofs.WaitStands.{holds_law}
use Rattle.session_laws.specs.Calls.{Call, Calls, call_at, without, left_of_all, IsNamed}
use Rattle.session_laws.specs.Going.{AreFree}
use Rattle.session_laws.proofs.Lists.{left_idle}
use Rattle.session_laws.proofs.ReadyAsked.{asks_law}
use Rattle.session_laws.proofs.ReadyPassed.{prepared_law}
use Rattle.sessions.specs.Interleave.{AllWait, idle, beside, alone}
use Rattle.sessions.proofs.CommandNames.{holds_node, names_some}

no_node : {X : Type 0} (node : Option Node) → node ≡ None → is_some node ≡ true → X
no_node None none there = cc
no_node (Some node) none there = cc

-- where nothing is left nothing is touched
untouched_alone : (volume : VolumeView) (device : DeviceView) (T : Tree) (command : Command) → NamesUntouched volume device.words no_residue T command
untouched_alone volume device T command = record {
  each = λ i is. record {
    apart = record { slots = λ s left. absurd left; pages = λ j left. absurd left; links = λ left. left };
    listed = λ page left. absurd left;
  };
  alone = λ all. refl;
}

module _ (volume : VolumeView) (device : DeviceView) (words : State) (calls : Calls) (wait : AllWait volume device words calls)
    (stands : StandsBeside volume device words (left_of_all volume calls)) where
  from_one : (i : ℕ) → is_some (node_at words.tree i) ≡ true → 1 ≤ i
  from_one i there = ((state_law volume.size device.words words stands.sound.coherent stands.reads).fits.ids i there).0

  -- each running call names an inode
  abbrev NamesOne : Call → Type 0
  NamesOne call = (i : ℕ) × (1 ≤ i) × IsNamed call.named i

  pub each_names : (s : ℕ) (call : Call) → call_at calls s ≡ Some call → NamesOne call
  each_names s call runs = names wait
    where
      names : AllWait volume device words calls → NamesOne call
      names (idle none going kept quiet) = let is_none = none s in cc
      names (beside calls_wait kept) =
          let mine = calls_wait.each s call runs in
          let (i, held, there) = holds_node volume device words call.command call.running (left_of_all volume (without calls s)) mine.waits in
          elim (mine.holds i held) [ inl named ↦ (i, from_one i there, named) | inr none ↦ no_node (node_at words.tree i) none there ]
      names (alone r other waits begun) = elim (cases_eq r s) [
        | inl same ↦
            let is : other ≡ call = let there = waits.runs in cc in
            (1, omega arith, subst (λ (call : Call). IsNamed call.named 1) is (subst (λ (nodes : NamedNodes). IsNamed nodes 1) (sym waits.named) (omega arith)))
        | inr differ ↦ let none = waits.alone s differ in cc
      ]

  module _ (command : Command) (named : NamedNodes) (names : AreNamedBy words.tree command named) (free : AreFree named calls) where
    -- beside a call that names all a free command names nothing
    names_nothing : (s : ℕ) (call : Call) → call_at calls s ≡ Some call → call.named ≡ All → (i : ℕ) → names_inode words.tree command i ≡ true → ⊥
    names_nothing s call runs all i is = nothing named names free
      where
        nothing : (named : NamedNodes) → AreNamedBy words.tree command named → AreFree named calls → ⊥
        nothing All names free = let none = free s in cc
        nothing (These inodes) names free =
            free s call runs i ((names.1 i).1 is)
            (subst (λ (nodes : NamedNodes). IsNamed nodes i) (sym all)
            (from_one i (present_named words.tree (stands_tree volume device words (left_of_all volume calls) stands) command i is)))

    not_all : (s : ℕ) (call : Call) → call_at calls s ≡ Some call → names_all command ≡ true → ⊥
    not_all s call runs all = nothing named names free
      where
        nothing : (named : NamedNodes) → AreNamedBy words.tree command named → AreFree named calls → ⊥
        nothing All names free = let none = free s in cc
        nothing (These inodes) names free = let some = names.0 in cc

    pub may_prepare : MayPrepare volume device words (left_of_all volume calls) command
    may_prepare = may wait
      where
        may : AllWait volume device words calls → MayPrepare volume device words (left_of_all volume calls) command
        may (idle none going kept quiet) = record {
          stands = stands;
          untouched = subst (λ (left : Residue). NamesUntouched volume device.words left words.tree command) (sym (left_idle volume calls none))
              (untouched_alone volume device words.tree command);
        }
        may (beside calls_wait kept) = asks_law holds_law volume device words calls command named calls_wait names free
        may (alone s call waits begun) = record {
          stands = stands;
          untouched = record {
            each = λ i is. absurd (names_nothing s call waits.runs waits.named i is);
            alone = λ all. absurd (not_all s call waits.runs all);
          };
        }

    -- ---- behind it

    -- beside one that names all it reads
    reads : (s : ℕ) (call : Call) → call_at calls s ≡ Some call → call.named ≡ All → refusal_of_walks words.tree command ≡ None → is_changing command ≡ false
    reads s call runs all passes = elim (is_changing command) as (λ changing. is_changing command ≡ changing → changing ≡ false) [
      | true ↦ λ changing.
          let (i, is) = names_some words.tree (stands_tree volume device words (left_of_all volume calls) stands) command changing passes in
          absurd (names_nothing s call runs all i is)
      | false ↦ λ is. refl
    ] refl

    pub wait_behind : (new : VolumeView) (after : DeviceView) (result : Result Action Refusal) → Prepares volume new device after command result
        → refusal_of_walks words.tree command ≡ None → AllWait new after words calls
    wait_behind new after result prepares passes = behind wait
      where
        view : IsSameButPlaces volume new
        view = prepares.view

        behind : AllWait volume device words calls → AllWait new after words calls
        behind (idle none going kept quiet) =
            idle none (view.same_state ∙ going) (view.same_kept ∙ kept) (stands_still volume new device after words no_residue view prepares.device quiet)
        behind (beside calls_wait kept) =
            let still = stands_still volume new device after words (left_of_all volume calls) view prepares.device stands in
            let passed = prepared_law still_waits_law holds_law volume new device after words calls command result calls_wait prepares still in
            beside passed.calls_wait (view.same_kept ∙ kept ∙ sym passed.events)
        behind (alone s call waits begun) =
            let same = prepares.reading (reads s call waits.runs waits.named passes) in
            subst (λ (volume : VolumeView). AllWait volume after words calls) (sym same.0)
            (subst (λ (device : DeviceView). AllWait volume device words calls) (sym same.1) (alone s call waits begun))
