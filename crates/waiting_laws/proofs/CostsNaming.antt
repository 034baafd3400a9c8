-- What is left of an entry that is made, and of a name that a file gets, costs its next step and what is left behind that.
use Rattle.std.proofs.Common.{◌≡◌, ℕ, List, [], ◌∷◌, ◌++◌, Option, Some, None, refl, sym, ap, subst, ◌∙◌}
use Rattle.pm_trait.specs.DeviceView.{DeviceView}
use Rattle.pm_trait.specs.Unfolds.{Step, fences_in}
use Rattle.fence_token.specs.declared.states.Clean.{Clean}
use Rattle.tree_model.specs.declared.reply.Reply.{Reply}
use Rattle.volume.specs.Costs.{fences_of_plan}
use Rattle.volume.specs.declared.next.Next.{Next}
use Rattle.volume.specs.declared.next.Next.TheVariants.{More, Ended}
use Rattle.volume.specs.declared.plan.Action.TheVariants.{Make, Name}
use Rattle.volume.specs.declared.plan.NewEntry.{NewEntry}
use Rattle.volume.specs.declared.plan.NewName.{NewName}
use Rattle.entry_steps.specs.declared.place.NamePlace.{NamePlace}
use Rattle.entry_steps.specs.declared.place.NamePlace.TheVariants.{Slot, Page}
use Rattle.entry_steps.specs.Steps.{claim_steps, naming}
use Rattle.entry_steps.specs.Waiting.{left_of_place, step_of_place}
use Rattle.entry_steps.proofs.Waiting.{rest_of_place, claims}
use Rattle.create_ops.specs.declared.run.Stage.{Stage as MakingStage}
use Rattle.create_ops.specs.declared.run.Stage.TheVariants.{Begun as MakingBegun, Written as NodeWritten, Claimed as NodeClaimed}
use Rattle.create_ops.specs.Making as making
use Rattle.create_ops.specs.Stages as entries
use Rattle.create_ops.proofs.Course as entry_course
use Rattle.create_ops.proofs.Going as entry_going
use Rattle.unlink_ops.specs.declared.link.Stage.{Stage as LinkingStage}
use Rattle.unlink_ops.specs.declared.link.Stage.TheVariants.{Begun as LinkingBegun, Written as LinkWritten, Claimed as LinkClaimed}
use Rattle.unlink_ops.specs.Linking as linking
use Rattle.unlink_ops.specs.LinkStages as links
use Rattle.unlink_ops.proofs.LinkCourse as link_course
use Rattle.unlink_ops.proofs.LinkGoing as link_going
use Rattle.waiting_laws.specs.Costs.{Costs, CostsPlan, MakingCosts, LinkingCosts}
use Rattle.waiting_laws.proofs.CostsSteps.{alike_same, costs_first, costs_behind}

-- a name that waits for its number
place_costs : (P directory slot inode : ℕ) (place : NamePlace Clean) → Costs (left_of_place P directory slot inode place) (step_of_place P directory slot inode place) (rest_of_place P directory slot inode place)
place_costs P directory slot inode (Slot dentry) = costs_first (naming P slot inode) [] refl
place_costs P directory slot inode (Page page) = costs_first (step_of_place P directory slot inode (Page page)) (naming P slot inode ∷ []) refl

-- ---- an entry

module _ (P : ℕ) (entry : NewEntry) where
  -- all of it
  making_fences : (new_page : Option ℕ) → fences_of_plan (Make (record entry { new_page = new_page }))
      ≡ fences_in (making.writing P (record entry { new_page = new_page }) ∷ (claim_steps P entry.directory new_page ++ naming P entry.slot entry.inode ∷ []))
  making_fences None = refl
  making_fences (Some page) = refl

  making_plan : CostsPlan (Make entry) (entries.left_of P (entries.begun entry))
  making_plan = record { events = entry_course.costs P entry; fences = making_fences entry.new_page }

  -- what is left behind the next step, where another one follows or none
  abbrev making_rest : MakingStage → List Step
  making_rest MakingBegun = claim_steps P entry.directory entry.new_page ++ naming P entry.slot entry.inode ∷ []
  making_rest (NodeWritten node) = rest_of_place P entry.directory entry.slot entry.inode node.place
  making_rest (NodeClaimed node) = []

  -- the next step has a store
  making_first : (stage : MakingStage) → Costs (entries.left_at P entry stage) (entries.step_at P entry stage) (making_rest stage)
  making_first MakingBegun = costs_first (making.writing P entry) (making_rest MakingBegun) refl
  making_first (NodeWritten node) = place_costs P entry.directory entry.slot entry.inode node.place
  making_first (NodeClaimed node) = costs_first (naming P entry.slot entry.inode) [] refl

  making_placed : (place : NamePlace Clean) (next : Next entries.RunningView) → entries.IsAfterPlace entry place next → entry_going.left_next P next ≡ rest_of_place P entry.directory entry.slot entry.inode place
  making_placed (Slot slot) next is = ap (entry_going.left_next P) is
  making_placed (Page page) next (node, is) = ap (entry_going.left_next P) is

  -- the words of a written name tell which place it has
  making_left : (stage : MakingStage) (device : DeviceView) (next : Next entries.RunningView) → entries.IsAfter entry stage next
      → ((running : entries.RunningView) → next ≡ More running → entries.IsAt P running.entry running.stage device) → entry_going.left_next P next ≡ making_rest stage
  making_left MakingBegun device next (node, is) at =
      ap (entry_going.left_next P) is ∙ claims P entry.directory entry.slot entry.inode entry.new_page node.place device (at (record { entry = entry; stage = NodeWritten node }) is).1
  making_left (NodeWritten node) device next is at = making_placed node.place next is
  making_left (NodeClaimed node) device next is at = ap (entry_going.left_next P) is

  making_behind : (stage : MakingStage) (device : DeviceView) (next : Next entries.RunningView) → entries.IsAfter entry stage next
      → ((running : entries.RunningView) → next ≡ More running → entries.IsAt P running.entry running.stage device)
      → Costs (entries.left_at P entry stage) (entries.step_at P entry stage) (entry_going.left_next P next)
  making_behind stage device next is at =
      costs_behind (entries.left_at P entry stage) (entries.step_at P entry stage) (making_rest stage) (entry_going.left_next P next) (making_first stage)
      (alike_same (making_rest stage) (entry_going.left_next P next) (sym (making_left stage device next is at)))

  -- the call doesn't end behind its first step
  making_ended_place : (place : NamePlace Clean) (reply : Reply) → entries.IsAfterPlace entry place (Ended reply) → rest_of_place P entry.directory entry.slot entry.inode place ≡ []
  making_ended_place (Slot slot) reply is = refl
  making_ended_place (Page page) reply (node, is) = absurd (let clash : ◌≡◌ {A = Next entries.RunningView} (Ended reply) (More (record { entry = entry; stage = NodeClaimed node })) = is in cc)

  making_ended : (stage : MakingStage) (reply : Reply) → entries.IsAfter entry stage (Ended reply) → making_rest stage ≡ []
  making_ended MakingBegun reply (node, is) = absurd (let clash : ◌≡◌ {A = Next entries.RunningView} (Ended reply) (More (record { entry = entry; stage = NodeWritten node })) = is in cc)
  making_ended (NodeWritten node) reply is = making_ended_place node.place reply is
  making_ended (NodeClaimed node) reply is = refl

  making_ends : (stage : MakingStage) (reply : Reply) → entries.IsAfter entry stage (Ended reply) → Costs (entries.left_at P entry stage) (entries.step_at P entry stage) []
  making_ends stage reply is =
      costs_behind (entries.left_at P entry stage) (entries.step_at P entry stage) (making_rest stage) [] (making_first stage) (alike_same (making_rest stage) [] (making_ended stage reply is))

-- the running call that goes on
abbrev running_or : {T : Type 0} → T → Next T → T
running_or other (More running) = running
running_or other (Ended reply) = other

more_is : {T : Type 0} (one other : T) → ◌≡◌ {A = Next T} (More one) (More other) → one ≡ other
more_is one other is = ap (running_or one) is

pub making_costs : MakingCosts
making_costs = record {
  plan = making_plan;
  goes_on = λ volume device running next is stands.
      making_behind volume.size running.entry running.stage device (More next) is (λ other same. subst (λ (r : entries.RunningView). entries.IsAt volume.size r.entry r.stage device) (more_is next other same) stands.words);
  ends = λ P running reply is. making_ends P running.entry running.stage reply is;
}

-- ---- one more name

module _ (P : ℕ) (link : NewName) where
  -- all of it
  linking_fences : (new_page : Option ℕ) → fences_of_plan (Name (record link { new_page = new_page }))
      ≡ fences_in (linking.writing P (record link { new_page = new_page }) ∷ (claim_steps P link.directory new_page ++ naming P link.slot link.inode ∷ []))
  linking_fences None = refl
  linking_fences (Some page) = refl

  linking_plan : CostsPlan (Name link) (links.left_of P (links.begun link))
  linking_plan = record { events = link_course.costs P link; fences = linking_fences link.new_page }

  -- what is left behind the next step
  abbrev linking_rest : LinkingStage → List Step
  linking_rest LinkingBegun = claim_steps P link.directory link.new_page ++ naming P link.slot link.inode ∷ []
  linking_rest (LinkWritten file) = rest_of_place P link.directory link.slot link.inode file.place
  linking_rest (LinkClaimed file) = []

  -- the next step has a store
  linking_first : (stage : LinkingStage) → Costs (links.left_at P link stage) (links.step_at P link stage) (linking_rest stage)
  linking_first LinkingBegun = costs_first (linking.writing P link) (linking_rest LinkingBegun) refl
  linking_first (LinkWritten file) = place_costs P link.directory link.slot link.inode file.place
  linking_first (LinkClaimed file) = costs_first (naming P link.slot link.inode) [] refl

  linking_placed : (place : NamePlace Clean) (next : Next links.RunningView) → links.IsAfterPlace link place next → link_going.left_next P next ≡ rest_of_place P link.directory link.slot link.inode place
  linking_placed (Slot slot) next is = ap (link_going.left_next P) is
  linking_placed (Page page) next (file, is) = ap (link_going.left_next P) is

  -- the words of a written name tell which place it has
  linking_left : (stage : LinkingStage) (device : DeviceView) (next : Next links.RunningView) → links.IsAfter link stage next
      → ((running : links.RunningView) → next ≡ More running → links.IsAt P running.link running.stage device) → link_going.left_next P next ≡ linking_rest stage
  linking_left LinkingBegun device next (file, is) at =
      ap (link_going.left_next P) is ∙ claims P link.directory link.slot link.inode link.new_page file.place device (at (record { link = link; stage = LinkWritten file }) is).1
  linking_left (LinkWritten file) device next is at = linking_placed file.place next is
  linking_left (LinkClaimed file) device next is at = ap (link_going.left_next P) is

  linking_behind : (stage : LinkingStage) (device : DeviceView) (next : Next links.RunningView) → links.IsAfter link stage next
      → ((running : links.RunningView) → next ≡ More running → links.IsAt P running.link running.stage device)
      → Costs (links.left_at P link stage) (links.step_at P link stage) (link_going.left_next P next)
  linking_behind stage device next is at =
      costs_behind (links.left_at P link stage) (links.step_at P link stage) (linking_rest stage) (link_going.left_next P next) (linking_first stage)
      (alike_same (linking_rest stage) (link_going.left_next P next) (sym (linking_left stage device next is at)))

  -- the call doesn't end behind its first step
  linking_ended_place : (place : NamePlace Clean) (reply : Reply) → links.IsAfterPlace link place (Ended reply) → rest_of_place P link.directory link.slot link.inode place ≡ []
  linking_ended_place (Slot slot) reply is = refl
  linking_ended_place (Page page) reply (file, is) = absurd (let clash : ◌≡◌ {A = Next links.RunningView} (Ended reply) (More (record { link = link; stage = LinkClaimed file })) = is in cc)

  linking_ended : (stage : LinkingStage) (reply : Reply) → links.IsAfter link stage (Ended reply) → linking_rest stage ≡ []
  linking_ended LinkingBegun reply (file, is) = absurd (let clash : ◌≡◌ {A = Next links.RunningView} (Ended reply) (More (record { link = link; stage = LinkWritten file })) = is in cc)
  linking_ended (LinkWritten file) reply is = linking_ended_place file.place reply is
  linking_ended (LinkClaimed file) reply is = refl

  linking_ends : (stage : LinkingStage) (reply : Reply) → links.IsAfter link stage (Ended reply) → Costs (links.left_at P link stage) (links.step_at P link stage) []
  linking_ends stage reply is =
      costs_behind (links.left_at P link stage) (links.step_at P link stage) (linking_rest stage) [] (linking_first stage) (alike_same (linking_rest stage) [] (linking_ended stage reply is))

pub linking_costs : LinkingCosts
linking_costs = record {
  plan = linking_plan;
  goes_on = λ volume device running next is stands.
      linking_behind volume.size running.link running.stage device (More next) is (λ other same. subst (λ (r : links.RunningView). links.IsAt volume.size r.link r.stage device) (more_is next other same) stands.words);
  ends = λ P running reply is. linking_ends P running.link running.stage reply is;
}
