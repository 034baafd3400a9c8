-- Steps as a list tells them, and what holds of any plan of a write or a truncation: the state that it leaves, also where nothing is to
-- be done, and that no step stores to the superblock.
use Rattle.std.proofs.Common.{◌≡◌, inl, inr, ℕ, false, true, List, [], ◌∷◌, refl, sym, subst, Bool, ◌∙◌, ◌+◌, nat_lt, Contains, ◌⊎◌, cond, Some, arith, ◌==◌, length, ◌<◌}
use Rattle.std.specs.Prelude.{Result, Ok, Err, nat_le}
use Rattle.pm_trait.specs.DeviceView.{DeviceView, IsSettledView, MakesIntervals}
use Rattle.pm_trait.specs.Unfolds.{Step, Takes, InTurn, Unfolds, AllKeep, Quietly}
use Rattle.pm_trait.proofs.Unfolding.{done}
use Rattle.pm_trait.proofs.DeviceLaws.{leaves_here}
use Rattle.layout.specs.Superblock.{IsSuperblockWord}
use Rattle.tree_model.specs.Capacity.{untaken}
use Rattle.tree_model.specs.Run.{State}
use Rattle.tree_model.specs.Step.{Answer, answer_of, least_free_id, room_after, step}
use Rattle.tree_model.specs.declared.command.Command.{Command}
use Rattle.tree_model.specs.Tree.{Tree}
use Rattle.tree_model.specs.declared.reply.Reply.{Reply}
use Rattle.tree_model.specs.PathText.{Route}
use Rattle.tree_model.specs.declared.command.Command.TheVariants.{Write, Truncate}
use Rattle.image_reading.specs.Tidy.{Tidy}
use Rattle.image_reading.specs.Reading.{Reads}
use Rattle.image_laws.specs.CreateStep.{IsStepped}
use Rattle.image_laws.proofs.Beside.{gives_keeps}
use Rattle.content_laws.proofs.Beside.{sized_keeps, inside_keeps, fills_keeps, takes_keeps, clears_keeps}
use Rattle.volume.specs.Carried.{LeavesState, IsPlanFor, Follows}
use Rattle.volume.specs.declared.plan.Action.{Action}
use Rattle.volume.specs.Stands.{Knows}
use Rattle.volume.specs.Volume.{VolumeView}
use Rattle.volume.specs.declared.plan.Resizing.{Resizing}
use Rattle.volume.specs.declared.plan.Writing.{Writing}
use Rattle.volume.specs.Crashes.{MayReadAs}
use Rattle.volume.specs.declared.plan.Action.TheVariants.{Write as WriteBytes, WriteNothing, Resize, KeepSize}
use Rattle.volume.specs.Planned.{IsNothingOr, IsPlanOf, is_size_of, IsWritingFor, IsResizingFor}
use Rattle.plan_laws.specs.Laws.{gives_back}
use Rattle.plan_laws.proofs.Left
use Rattle.plan_laws.proofs.Left.{IsCountedBy, KeepsMark}
use Rattle.data_ops.specs.declared.grow.Growth.{Growth}
use Rattle.data_ops.specs.Cutting.{gone_pages, growth_to, cut_steps, resize_steps}
use Rattle.data_ops.specs.Steps.{growth_steps, either_steps}
use Rattle.data_ops.specs.Writing.{growth_of, overwriting, write_steps}

-- the step, by the words that it made
abbrev pub exactly : List ℕ → Step → Step
exactly words step = record { Makes = λ I J. J ≡ words; stores = step.stores; events = step.events }

-- whether or not its fence failed
pub first_words : {T E : Type 0} {step : Step} {later : List Step} {a c : DeviceView} {result : Result T E} → Unfolds (step ∷ later) a c result → (words : List ℕ) × step.Makes a.words words × Unfolds (exactly words step ∷ later) a c result
first_words {a = a} {c = c} made = elim made.in_turn [
  | inl (one, is) ↦ (c.words, one.makes, record { in_turn = inl (record { makes = refl; fenced = one.fenced }, is) })
  | inr (b, one, rest) ↦ (b.words, one.makes, record { in_turn = inr (b, record { makes = refl; fenced = one.fenced }, rest) })
]

only_turn : {T E : Type 0} {step : Step} {a c : DeviceView} (result : Result T E) → InTurn (step ∷ []) a c result → Takes step a c result
only_turn (Ok value) (inl (one, is)) = let none : ⊥ = cc is in absurd none
only_turn (Err fault) (inl (one, is)) = one
only_turn {T} {E} {step} {a} (Ok value) (inr (b, one, (same, is))) = subst (λ (d : DeviceView). Takes {T = T} {E = E} step a d (Ok value)) (sym same) (done value one)
only_turn (Err fault) (inr (b, one, (same, is))) = let clash : false ≡ true = is in absurd cc

pub only : {T E : Type 0} {step : Step} {a c : DeviceView} {result : Result T E} → Unfolds (step ∷ []) a c result → Takes step a c result
only {result = result} made = only_turn result made.in_turn

-- ---- what the plan says of an action of its kind

module _ {A : Type 0} (make : A → Action) (nothing : Action) (apart : (x : A) → make x ≡ nothing → ⊥) (same : (x y : A) → make x ≡ make y → x ≡ y) (For : A → Type 0) where
  says : (none : Bool) (x : A) → IsNothingOr none nothing (λ action. (y : A) × (action ≡ make y) × For y) (make x) → (none ≡ false) × For x
  says true x is = absurd (apart x is)
  says false x (y, is, for) = (refl, subst For (sym (same x y is)) for)

  says_nothing : (none : Bool) → IsNothingOr none nothing (λ action. (y : A) × (action ≡ make y) × For y) nothing → none ≡ true
  says_nothing true is = refl
  says_nothing false (y, is, for) = absurd (apart y (sym is))

pub not_nothing : (writing : Writing) → WriteBytes writing ≡ WriteNothing → ⊥
not_nothing writing e = cc

pub same_writing : (one two : Writing) → ◌≡◌ {A = Action} (WriteBytes one) (WriteBytes two) → one ≡ two
same_writing one two e = cc

pub not_same_size : (resizing : Resizing) → Resize resizing ≡ KeepSize → ⊥
not_same_size resizing e = cc

pub same_resizing : (one two : Resizing) → ◌≡◌ {A = Action} (Resize one) (Resize two) → one ≡ two
same_resizing one two e = cc

module _ (P : ℕ) (W : List ℕ) (state : State) (path : Route) where
  pub writing_for : (offset : ℕ) (bytes : List ℕ) (writing : Writing) → IsPlanOf P W state (Write path offset bytes) (WriteBytes writing) → ((length bytes == 0) ≡ false) × IsWritingFor P W state path offset bytes writing
  writing_for offset bytes = says WriteBytes WriteNothing not_nothing same_writing (IsWritingFor P W state path offset bytes) (length bytes == 0)

  pub no_byte : (offset : ℕ) (bytes : List ℕ) → IsPlanOf P W state (Write path offset bytes) WriteNothing → (length bytes == 0) ≡ true
  no_byte offset bytes = says_nothing WriteBytes WriteNothing not_nothing same_writing (IsWritingFor P W state path offset bytes) (length bytes == 0)

  pub resizing_for : (size : ℕ) (resizing : Resizing) → IsPlanOf P W state (Truncate path size) (Resize resizing) → (is_size_of state path size ≡ false) × IsResizingFor P W state path size resizing
  resizing_for size = says Resize KeepSize not_same_size same_resizing (IsResizingFor P W state path size) (is_size_of state path size)

  pub same_size : (size : ℕ) → IsPlanOf P W state (Truncate path size) KeepSize → is_size_of state path size ≡ true
  same_size size = says_nothing Resize KeepSize not_same_size same_resizing (IsResizingFor P W state path size) (is_size_of state path size)

-- ---- steps that are these or those

pub either_sum : (sum_of : List Step → ℕ) (first : Bool) (ones others : List Step) (one other : ℕ) → (first ≡ true → one ≡ sum_of ones) → (first ≡ false → other ≡ sum_of others)
    → cond first one other ≡ sum_of (either_steps first ones others)
either_sum sum_of true ones others one other here there = here refl
either_sum sum_of false ones others one other here there = there refl

pub either_more : (first : Bool) (one other : ℕ) → 0 < one → 0 < other → 0 < cond first one other
either_more true one other some more = some
either_more false one other some more = more

pub either_made : {T E : Type 0} {a b : DeviceView} {result : Result T E} (first : Bool) (ones others : List Step) → Unfolds (either_steps first ones others) a b result
    → ((first ≡ true) × Unfolds ones a b result) ⊎ ((first ≡ false) × Unfolds others a b result)
either_made true ones others made = inl (refl, made)
either_made false ones others made = inr (refl, made)

pub made_as : {T E : Type 0} {a b : DeviceView} {result : Result T E} (events other fences more : ℕ) → other ≡ events → more ≡ fences → MakesIntervals a b events fences result → MakesIntervals a b other more result
made_as {a = a} {b} {result} events other fences more same again made =
    subst (λ (n : ℕ). MakesIntervals a b n more result) (sym same) (subst (λ (n : ℕ). MakesIntervals a b events n result) (sym again) made)

-- ---- no step stores to the superblock

growth_keep : (P : ℕ) (growth : Growth) (bytes pages : List ℕ) → AllKeep IsSuperblockWord (growth_steps P growth bytes pages)
growth_keep P growth bytes pages = (
  (λ I J fills. fills_keeps P I J growth.inode growth.offset bytes pages fills),
  ((λ I J takes. takes_keeps P I J growth.inode pages takes), ((λ I J is. sized_keeps I J growth.inode growth.new_size is), tt)),
)

cut_keep : (P : ℕ) (resizing : Resizing) (pages : List ℕ) → AllKeep IsSuperblockWord (cut_steps P resizing pages)
cut_keep P resizing pages = (
  (λ I J is. sized_keeps I J resizing.inode resizing.new_size is),
  ((λ I J gives. gives_keeps P I J (Contains (gone_pages resizing pages)) gives), ((λ I J clears. clears_keeps P I J (Contains (gone_pages resizing pages)) clears), tt)),
)

either_keep : (which : Bool) (ones others : List Step) → AllKeep IsSuperblockWord ones → AllKeep IsSuperblockWord others → AllKeep IsSuperblockWord (either_steps which ones others)
either_keep true ones others one other = one
either_keep false ones others one other = other

pub resize_keep : (P : ℕ) (resizing : Resizing) (pages : List ℕ) → AllKeep IsSuperblockWord (resize_steps P resizing pages)
resize_keep P resizing pages =
    either_keep (nat_lt resizing.old_size resizing.new_size) (growth_steps P (growth_to resizing) [] resizing.new_pages) (cut_steps P resizing pages)
    (growth_keep P (growth_to resizing) [] resizing.new_pages) (cut_keep P resizing pages)

pub write_keep : (P : ℕ) (writing : Writing) (bytes : List ℕ) → AllKeep IsSuperblockWord (write_steps P writing bytes)
write_keep P writing bytes =
    either_keep (nat_le (writing.offset + writing.count) writing.old_size) (overwriting P writing.inode writing.offset bytes ∷ []) (growth_steps P (growth_of writing) bytes writing.new_pages)
    ((λ I J stores. inside_keeps P I J writing.inode writing.offset bytes stores.writes), tt) (growth_keep P (growth_of writing) bytes writing.new_pages)

-- ---- a volume whose device reads as what a command leaves, by a law of contents, and that knows it, stands for a state that the command leaves

module _ {volume : VolumeView} {device : DeviceView} {state : State} {command : Command} {answer : Answer} {action : Action} (plan : IsPlanFor volume device state command action)
    (told : answer_of (untaken volume.size) state.tree state.room command ≡ answer)
    (kept : (gives : Bool) → room_after (least_free_id state.tree) state.tree state.room command gives ≡ room_after (least_free_id state.tree) state.tree state.room command (gives_back action)) where
  pub leaves_stepped : (K : List ℕ) → Tidy volume.size K → IsStepped volume.size K state command (least_free_id state.tree) → (new : VolumeView) (after : DeviceView) → new.size ≡ volume.size → Knows new K → after.words ≡ K → IsSettledView after
      → IsCountedBy action device after → KeepsMark volume new device.words K after → LeavesState volume new device after state command answer
  leaves_stepped K tidy stepped new after same knows words settled counted keeps =
      let (gives, room, fits) = stepped.room in
      Left.leaves_state plan.stands.tidy plan.stands.reads plan.planned told tidy stepped.reads (stepped.tree ∙ sym (Left.tree_is plan.stands.tidy plan.stands.reads plan.planned told)) (room ∙ kept gives) volume new device after refl same knows words settled counted keeps

  -- where nothing is to be done, the words and the volume are as they were
  pub follows_idle : IsCountedBy action device device → IsStepped volume.size device.words state command (least_free_id state.tree) → {E : Type 0} (reply : Reply) → Follows {E = E} volume volume device device state command answer (Ok reply)
  follows_idle counted stepped reply =
      let stands = plan.stands in
      let later = (step volume.size state.tree state.room command).tree in
      let reads : Reads volume.size device.words later = subst (λ (tree : Tree). Reads volume.size device.words tree) (stepped.tree ∙ sym (Left.tree_is stands.tidy stands.reads plan.planned told)) stepped.reads.tree in
      let here = leaves_here (Quietly (λ image. Reads volume.size image later)) stands.settled (refl, reads) in
      record {
        made = leaves_stepped device.words stands.tidy stepped volume device refl stands.knows refl stands.settled counted
            (record { known = stands.mark; same = refl; beside = λ word k. refl; room = stands.room; no_call = stands.no_call });
        atomic = record {
          any_moment = leaves_here (Quietly (MayReadAs volume.size state (Some command))) stands.settled (refl, record { sound = stands.tidy.sound; tree = state.tree; reads = stands.reads.tree; allowed = inl refl });
          stays = record { continues = here.continues; each = λ first second from order upto all image may. (here.each second image (omega (arith, from, order)) upto may).1 };
        };
      }
