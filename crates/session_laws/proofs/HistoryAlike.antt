-- What a command finds in the history: it is refused there as in the words, and reads the same where it is free of the running calls.
use Rattle.std.proofs.Common.{◌≡◌, ℕ, true, [], ◌∷◌, ◌++◌, None, sym, ap, ◌∙◌}
use Rattle.pm_trait.specs.DeviceView.{DeviceView}
use Rattle.tree_model.specs.Capacity.{Supply}
use Rattle.tree_model.specs.Step.{first, at, refusal_with, answer_of}
use Rattle.tree_model.specs.Run.{State, IsVolumeState}
use Rattle.tree_model.specs.declared.command.Command.{Command}
use Rattle.tree_model.specs.declared.reply.Refusal.TheVariants.{Root}
use Rattle.naming_laws.specs.Naming.{names_inode}
use Rattle.image_reading.specs.Counts.{IsIn}
use Rattle.image_reading.specs.Residue.{no_residue}
use Rattle.mixing_laws.specs.Mixed.{files_of, DoesAlike}
use Rattle.mixing_laws.proofs.Does.{does_alike_law}
use Rattle.mixing_laws.proofs.Finds.{finds_alike_law}
use Rattle.volume.specs.Volume.{VolumeView}
use Rattle.volume.specs.Named.{AreNamedBy, is_at_root}
use Rattle.volume.specs.declared.named.NamedNodes.{NamedNodes}
use Rattle.running_laws.specs.Steps.{IsAfter}
use Rattle.session_laws.specs.Calls.{Calls, ranges_of_all, CallsWait}
use Rattle.session_laws.specs.Going.{AreFree}
use Rattle.session_laws.specs.Histories.{IsHistory, AnswersAlikeLaw, ReadsAlikeLaw}
use Rattle.session_laws.proofs.HistoryApart.{named_by, volume_state, free_file}
use Rattle.session_laws.proofs.HistoryBegins.{zero_unused}
use Rattle.session_laws.proofs.HistoryEnters.{Enters, enters}
use Rattle.session_laws.proofs.Named.{named_still}

-- ---- refusals and names

pub answers_alike_law : AnswersAlikeLaw
answers_alike_law supply ranges history words command is =
    let finds = finds_alike_law supply words.room command ranges history.tree words.tree is.tree in
    record {
      refusal = ap (λ room. refusal_with supply history.tree room command) (sym is.room) ∙ sym finds.refusal;
      named = λ named names. named_still words.tree history.tree command named (λ i. sym (finds.named i)) names;
      walks = ap (λ faults. first (faults ++ at Root (is_at_root command) ∷ [])) (sym finds.walks);
    }

-- ---- what a free command does

module _ (volume : VolumeView) (device : DeviceView) (supply : Supply) (words history : State) (calls : Calls) (command : Command) (named : NamedNodes)
    (wait : CallsWait volume device words no_residue calls) (is : IsHistory (ranges_of_all calls) history words) (names : AreNamedBy words.tree command named)
    (free : AreFree named calls) (accepted : refusal_with supply words.tree words.room command ≡ None) where
  valid : IsVolumeState volume.size words
  valid = volume_state volume device words no_residue calls wait

  pub apart : (i : ℕ) → names_inode words.tree command i ≡ true → ¬ IsIn i (files_of (ranges_of_all calls))
  apart i is_named = free_file volume device words no_residue calls wait named free i (named_by volume.size words command named valid names i is_named)

  does : DoesAlike supply 0 words.room command history.tree words.tree (ranges_of_all calls)
  does = does_alike_law volume.size supply 0 (ranges_of_all calls) history.tree words.tree words.room command valid accepted (zero_unused volume.size words valid) apart is.tree

  pub free_enters : (later : State) → IsAfter words later command 0 → Enters supply (ranges_of_all calls) history later command 0
  free_enters later after = enters supply (ranges_of_all calls) (ranges_of_all calls) history words later command 0 is accepted (zero_unused volume.size words valid) does after

  pub free_answer : answer_of supply history.tree history.room command ≡ answer_of supply words.tree words.room command
  free_answer = ap (λ room. answer_of supply history.tree room command) (sym is.room) ∙ sym does.answer

pub reads_alike_law : ReadsAlikeLaw
reads_alike_law volume device supply words history calls command named wait is reading names free accepted =
    free_answer volume device supply words history calls command named wait is names free accepted
