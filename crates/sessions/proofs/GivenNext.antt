-- A call that goes on gives its node the same inode.
use Rattle.std.proofs.Common.{◌≡◌, ℕ, refl, sym, ap, subst, ◌∙◌}
use Rattle.volume.specs.declared.next.Next.{Next}
use Rattle.volume.specs.declared.next.Next.TheVariants.{More, Ended as HasEnded}
use Rattle.volume.specs.declared.plan.NewEntry.{NewEntry}
use Rattle.fence_token.specs.declared.states.Clean.{Clean}
use Rattle.entry_steps.specs.declared.place.NamePlace.{NamePlace}
use Rattle.entry_steps.specs.declared.place.NamePlace.TheVariants.{Slot, Page}
use Rattle.create_ops.specs.Stages as entries
use Rattle.create_ops.specs.declared.run.Stage.{Stage as EntryStage}
use Rattle.create_ops.specs.declared.run.Stage.TheVariants.{Begun as EntryBegun, Written as EntryWritten, Claimed as EntryClaimed}
use Rattle.running_calls.specs.Stages.{IsNext, as_call}
use Rattle.running_calls.specs.declared.running.Running.{Running}
use Rattle.running_calls.specs.declared.running.Running.TheVariants.{Makes, Links, Removes, Moves, Writes, Resizes}
use Rattle.running_laws.specs.Steps.{given_inode}

-- what is left gives the same
abbrev given_left : Next Running → ℕ
given_left (More running) = given_inode running
given_left (HasEnded reply) = 0

abbrev KeepsEntry : NewEntry → Next entries.RunningView → Type 0
KeepsEntry entry (More running) = running.entry.inode ≡ entry.inode
KeepsEntry entry (HasEnded reply) = Unit {0}

kept_placed : (entry : NewEntry) (place : NamePlace Clean) (left : Next entries.RunningView) → entries.IsAfterPlace entry place left → KeepsEntry entry left
kept_placed entry (Slot slot) left is = subst (KeepsEntry entry) (sym is) tt
kept_placed entry (Page page) left (node, is) = subst (KeepsEntry entry) (sym is) refl

kept_entry : (entry : NewEntry) (stage : EntryStage) (left : Next entries.RunningView) → entries.IsAfter entry stage left → KeepsEntry entry left
kept_entry entry EntryBegun left (node, is) = subst (KeepsEntry entry) (sym is) refl
kept_entry entry (EntryWritten node) left is = kept_placed entry node.place left is
kept_entry entry (EntryClaimed node) left is = subst (KeepsEntry entry) (sym is) tt

entry_given : (entry : NewEntry) (running : Running) (left : Next entries.RunningView) → KeepsEntry entry left → More running ≡ as_call Makes left
    → given_inode running ≡ entry.inode
entry_given entry running (More next) kept is = ap given_left is ∙ kept
entry_given entry running (HasEnded reply) kept is = absurd (let clash : ◌≡◌ {A = Next Running} (More running) (HasEnded reply) = is in cc)

none_given : {Stage : Type 0} (of_kind : Stage → Running) → ((stage : Stage) → given_inode (of_kind stage) ≡ 0) → (left : Next Stage) → given_left (as_call of_kind left) ≡ 0
none_given of_kind none (More stage) = none stage
none_given of_kind none (HasEnded reply) = refl

pub next_given : (running next : Running) → IsNext running (More next) → given_inode next ≡ given_inode running
next_given (Makes running) next (left, after, is) = entry_given running.entry next left (kept_entry running.entry running.stage left after) is
next_given (Links running) next (left, after, is) = ap given_left is ∙ none_given Links (λ stage. refl) left
next_given (Removes running) next is = ap given_left is ∙ none_given Removes (λ stage. refl) _
next_given (Moves running) next is = ap given_left is ∙ none_given Moves (λ stage. refl) _
next_given (Writes running) next is = ap given_left is ∙ none_given Writes (λ stage. refl) _
next_given (Resizes running) next is = ap given_left is ∙ none_given Resizes (λ stage. refl) _
