-- Where calls wait the volume goes on, and stands for the words' state beside what all of them have left.
use Rattle.std.proofs.Common.{◌≡◌, ℕ, zero, suc, ◌++◌, List, [], ◌∷◌, Option, None, Some, refl, sym, ap, subst, ◌∙◌, arith}
use Rattle.std.proofs.lemmas.List.{append-nil}
use Rattle.std.specs.Option.{option_or}
use Rattle.pm_trait.specs.DeviceView.{DeviceView}
use Rattle.tree_model.specs.Run.{State}
use Rattle.image_reading.specs.Residue.{Residue, no_residue}
use Rattle.weave_laws.specs.Joined.{joined}
use Rattle.volume.specs.Volume.{VolumeView}
use Rattle.volume.specs.Beside.{StandsBeside}
use Rattle.running_calls.specs.declared.running.Running.{Running}
use Rattle.running_laws.specs.Waits.{left_by}
use Rattle.session_laws.specs.Calls.{Call, Calls, call_at, left_of_all}
use Rattle.session_laws.specs.Moving.{MoveWaits, RunsAlone}
use Rattle.session_laws.proofs.Lists.{left_idle}
use Rattle.session_laws.proofs.ReadyAsked.{few_kept_law}
use Rattle.sessions.specs.Interleave.{AllWait, idle, beside, alone}
use Rattle.sessions.specs.Laws.{WeavesOn, WeavesOnLaw}

-- ---- what a call has left that runs alone

no_other : (pointer : Option ℕ) → option_or pointer None ≡ pointer
no_other None = refl
no_other (Some s) = refl

residue_of : Option ℕ → List ℕ → List ℕ → List ℕ → List ℕ → Residue
residue_of pointer slots pages inodes counts = record { pointer = pointer; slots = slots; pages = pages; inodes = inodes; counts = counts }

joined_nothing : (one : Residue) → joined one no_residue ≡ one
unfolding residue_of
joined_nothing one =
    let pointer = no_other one.pointer in
    let slots = append-nil one.slots in
    let pages = append-nil one.pages in
    let inodes = append-nil one.inodes in
    let counts = append-nil one.counts in
    let same : residue_of (option_or one.pointer None) (one.slots ++ []) (one.pages ++ []) (one.inodes ++ []) (one.counts ++ [])
    ≡ residue_of one.pointer one.slots one.pages one.inodes one.counts = cc in
    same

left_alone : (volume : VolumeView) (calls : Calls) (s : ℕ) (call : Call) → call_at calls s ≡ Some call → RunsAlone calls s
    → left_of_all volume calls ≡ left_by volume call.running
left_alone volume [] s call runs only = cc
left_alone volume (None ∷ calls) zero call runs only = cc
left_alone volume (None ∷ calls) (suc s) call runs only = left_alone volume calls s call runs (λ r other. only (suc r) (λ same. other (omega (arith, same))))
left_alone volume (Some first ∷ calls) zero call runs only =
    let same : first ≡ call = cc in
    ap (joined (left_by volume first.running)) (left_idle volume calls (λ r. only (suc r) (λ zero_is. omega (arith, zero_is))))
    ∙ joined_nothing (left_by volume first.running) ∙ ap (λ (other : Call). left_by volume other.running) same
left_alone volume (Some first ∷ calls) (suc s) call runs only = let none = only 0 (λ is_zero. omega (arith, is_zero)) in cc

move_left : (volume : VolumeView) (device : DeviceView) (words : State) (calls : Calls) (s : ℕ) (call : Call) → MoveWaits volume device words calls s call
    → StandsBeside volume device words (left_of_all volume calls)
move_left volume device words calls s call waits =
    subst (StandsBeside volume device words)
    (sym (left_alone volume calls s call waits.runs waits.alone ∙ ap (λ (running : Running). left_by volume running) waits.running_is)) waits.waits.stands

-- ---- all of them

pub weaves_on_law : WeavesOnLaw
weaves_on_law weave device calls history weaving = on weaving.waits
  where
    on : AllWait weave.volume device weaving.words calls → WeavesOn weave device calls weaving.words
    on (idle nothing going none stands) = record {
      going = going;
      stands = subst (StandsBeside weave.volume device weaving.words) (sym (left_idle weave.volume calls nothing)) stands;
      few = omega (arith, none);
    }
    on (beside wait kept) = record {
      going = wait.beside.going;
      stands = wait.beside.stands;
      few = let few = few_kept_law weave.volume device weaving.words calls wait weaving.few in omega (arith, few, kept);
    }
    on (alone s call waits begun) = record {
      going = waits.waits.going;
      stands = move_left weave.volume device weaving.words calls s call waits;
      few = let kept = waits.kept in let few = waits.few in omega (arith, few, kept);
    }
