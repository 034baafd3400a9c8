-- Where the only session stands between two turns: it runs no call, one that has no entry yet, or one that has.
use Rattle.std.proofs.Common.{◌≡◌, ◌≢◌, inl, inr, ℕ, ◌+◌, Bool, true, false, not, ◌||◌, is_some, IsTrue, length, Option, None, Some, Ok, refl, sym, ap, subst, ◌∙◌, arith}
use Rattle.std.proofs.lemmas.Bool.{cases_Bool}
use Rattle.tree_model.specs.Run.{State, LineStep, is_changing, may_fail}
use Rattle.tree_model.specs.Step.{Done, least_free_id}
use Rattle.tree_model.specs.Tree.{Tree, Node, node_at}
use Rattle.tree_model.specs.declared.command.Command.{Command}
use Rattle.tree_model.specs.declared.reply.Reply.TheVariants as replies
use Rattle.tree_model.proofs.TreeLaws.{least_free_id-only}
use Rattle.naming_laws.specs.Naming.{inode_need}
use Rattle.image_reading.specs.Residue.{Residue, no_residue}
use Rattle.image_counts.specs.Laws.{supply_beside}
use Rattle.volume.specs.Volume.{VolumeView}
use Rattle.running_laws.specs.Steps.{has_committed, given_inode}
use Rattle.session_laws.specs.Calls.{Call, call_at}
use Rattle.sessions.specs.Steps.{HasLeft, IsLeastGiven, IsSameCall}
use Rattle.sessions.specs.declared.entry.WeaveReply.TheVariants.{Plain}
use Rattle.sessions.proofs.FencesTakes.{none_taken}
use Rattle.schedules.specs.Turns.{Border}
use Rattle.lone_laws.proofs.OneCall.{may_fail_free}

-- ---- a call that runs, from the state at its begin on

-- Its command was accepted there, and its node gets the least free inode.
pub record IsCarried (P : ℕ) (base : State) (call : Call) : Type 0 where
  pub may_fail : IsTrue (may_fail P base call.command)
  pub given : inode_need call.command ≡ 1 → given_inode call.running ≡ least_free_id base.tree

pub carried_on : (P : ℕ) (base : State) (ran call : Call) → IsCarried P base ran → IsSameCall ran call → IsCarried P base call
carried_on P base ran call carried same = record {
  may_fail = subst (λ (c : Command). IsTrue (may_fail P base c)) (sym same.command) carried.may_fail;
  given = λ one. same.given ∙ carried.given (ap inode_need (sym same.command) ∙ one);
}

-- ---- its begin

is_there : (found : Option Node) → found ≢ None → is_some found ≡ true
is_there None some = absurd (some refl)
is_there (Some node) some = refl

least_given : (T : Tree) (id : ℕ) → IsLeastGiven T no_residue id → id ≡ least_free_id T
least_given T id given =
    sym (least_free_id-only T id given.from_two given.unused (λ lower from_two below. elim (given.least lower from_two below) [
      | inl some ↦ is_there (node_at T lower) some
      | inr held ↦ absurd held
    ]))

pub carried_first : (P : ℕ) (others : Residue) (volume : VolumeView) (history : State) (call : Call) → others ≡ no_residue → HasLeft P others volume history call → IsCarried P history call
carried_first P others volume history call none left = record {
  may_fail = may_fail_free P history (supply_beside P others) call.command (ap (supply_beside P) none) changing left.enters.accepted;
  given = λ one. least_given history.tree (given_inode call.running) (subst (λ (residue : Residue). IsLeastGiven history.tree residue (given_inode call.running)) none (left.given one));
}
  where
    -- what takes a fence changes
    changing : is_changing call.command ≡ true
    changing = elim (cases_Bool (is_changing call.command)) [
      | inl is ↦ is
      | inr reads ↦
          let fences = left.fences in
          let nothing = none_taken history (Ok call.command) (Plain replies.Done) left.entered (ap (λ (t : Bool). not t || false) reads) in
          absurd (omega (arith, fences, nothing))
    ]

-- ---- the border

-- Its history is the state before the line that is next, or what this line leaves; and each call that began is an entry or is to come.
pub data Stands (P : ℕ) (base : State) (border : Border) : Type 0 where
  idle : call_at border.calls 0 ≡ None → border.history ≡ base → length border.weave.entries ≡ border.weave.begun → Stands P base border
  waits : (call : Call) → call_at border.calls 0 ≡ Some call → IsCarried P base call → has_committed call.running ≡ false → border.history ≡ base
      → length border.weave.entries + 1 ≡ border.weave.begun → Stands P base border
  has_entry : (call : Call) → call_at border.calls 0 ≡ Some call → IsCarried P base call → has_committed call.running ≡ true
      → LineStep P base (Ok call.command) Done border.history → length border.weave.entries ≡ border.weave.begun → Stands P base border
