-- What a plan says of its command.
use Rattle.std.proofs.Common.{◌≡◌, ℕ, ◌+◌, ◌≤◌, Bool, true, false, cond, ◌||◌, nat_lt, nat_le, List, [], ◌∷◌, Option, is_some, refl, sym, ap, ◌∙◌, arith, true≢false}
use Rattle.std.proofs.lemmas.Bool.{false_from_ne_true}
use Rattle.tree_model.specs.PathText.{Route}
use Rattle.tree_model.specs.Run.{State, is_changing}
use Rattle.tree_model.specs.Fences.{most_fences}
use Rattle.tree_model.specs.Step.{making}
use Rattle.tree_model.specs.declared.command.Command.{Command}
use Rattle.tree_model.specs.declared.command.Command.TheVariants.{Create, Mkdir, Link, Unlink, Rmdir, Rename, Write, Truncate, Read, Stat as Tell, List as Show, Df}
use Rattle.volume.specs.declared.plan.Action.TheVariants.{Make, Name, Remove, Move, Write as WriteBytes, WriteNothing, Resize, KeepSize, KeepNames, Read as ReadBytes, Status, Names, Space}
use Rattle.volume.specs.Planned.{IsMovingFor, IsWritingFor, IsResizingFor, IsNothingOr, IsPlanOf}
use Rattle.volume.specs.Costs.{events_of, pages_removed, pages_replaced, goes_of, fences_for_claim, fences_for_page, fences_for_loss, fences_for_growth, fences_of_plan}
use Rattle.volume.specs.Prepared.{is_change, IsChange}
use Rattle.layout.specs.declared.kinds.NodeKind.{NodeKind}
use Rattle.volume.specs.declared.plan.NewEntry.{NewEntry}
use Rattle.volume.specs.declared.plan.Action.{Action}

-- ---- by what it does

abbrev pub makes_node : Action → Bool
makes_node (Make entry) = true
makes_node _ = false

-- where nothing is to be done, or what is made of some x, for which it is
module _ (R : Type 0) {A : Type 0} (make : A → Action) (For : A → Type 0) (nothing action : Action) where
  pub nothing_or : (b : Bool) → IsNothingOr b nothing (λ action. (x : A) × (action ≡ make x) × For x) action → (action ≡ nothing → R) → ((x : A) → action ≡ make x → For x → R) → R
  nothing_or true plan none some = none plan
  nothing_or false (x, is, made) none some = some x is made

-- the plan of a command changes something where the command may
pub change_is : (P : ℕ) (I : List ℕ) (state : State) (command : Command) (action : Action) → IsPlanOf P I state command action → is_changing command ≡ is_change action
change_is P I state (Create path) action (entry, is, made) = sym (ap is_change is)
change_is P I state (Mkdir path) action (entry, is, made) = sym (ap is_change is)
change_is P I state (Link from to) action (link, is, made) = sym (ap is_change is)
change_is P I state (Unlink path) action (removal, is, made) = sym (ap is_change is)
change_is P I state (Rmdir path) action (removal, is, made) = sym (ap is_change is)
change_is P I state (Rename from to) action plan = nothing_or (true ≡ is_change action) Move (IsMovingFor P I state from to) KeepNames action _ plan (λ is. sym (ap is_change is)) (λ moving is for. sym (ap is_change is))
change_is P I state (Write path offset bytes) action plan = nothing_or (true ≡ is_change action) WriteBytes (IsWritingFor P I state path offset bytes) WriteNothing action _ plan (λ is. sym (ap is_change is)) (λ writing is for. sym (ap is_change is))
change_is P I state (Truncate path size) action plan = nothing_or (true ≡ is_change action) Resize (IsResizingFor P I state path size) KeepSize action _ plan (λ is. sym (ap is_change is)) (λ resizing is for. sym (ap is_change is))
change_is P I state (Read path offset count) action (reading, is, made) = sym (ap is_change is)
change_is P I state (Tell path) action is = sym (ap is_change is)
change_is P I state (Show path) action is = sym (ap is_change is)
change_is P I state Df action is = sym (ap is_change is)

-- a plan that changes nothing is one of a command that reads
pub telling_reads : (P : ℕ) (I : List ℕ) (state : State) (command : Command) (action : Action) → IsPlanOf P I state command action → ¬ IsChange action → is_changing command ≡ false
telling_reads P I state command action plan not = change_is P I state command action plan ∙ false_from_ne_true (is_change action) not

-- what changes nothing has no event
pub reads_idle : (action : Action) → is_change action ≡ false → events_of action ≡ 0
reads_idle (Make entry) is = absurd (true≢false is)
reads_idle (Name link) is = absurd (true≢false is)
reads_idle (Remove removal) is = absurd (true≢false is)
reads_idle (Move moving) is = absurd (true≢false is)
reads_idle (WriteBytes writing) is = absurd (true≢false is)
reads_idle WriteNothing is = refl
reads_idle (Resize resizing) is = absurd (true≢false is)
reads_idle KeepSize is = refl
reads_idle KeepNames is = refl
reads_idle (ReadBytes reading) is = refl
reads_idle (Status inode) is = refl
reads_idle (Names inode) is = refl
reads_idle Space is = refl

-- ---- an entry

pub same_entry : (entry other : NewEntry) → Make entry ≡ Make other → entry ≡ other
same_entry entry other is = cc

no_entry : {X : Type 0} (entry : NewEntry) (action : Action) → Make entry ≡ action → makes_node action ≡ false → X
no_entry entry action is none = let both : true ≡ false = ap makes_node is ∙ none in absurd (cc)

-- the command of an entry's plan makes a node of its kind
pub planned_making : (P : ℕ) (I : List ℕ) (state : State) (command : Command) (entry : NewEntry) → IsPlanOf P I state command (Make entry) → (path : Route) × (command ≡ making entry.kind path)
planned_making P I state (Create path) entry (other, is, made) = (path, ap (λ (k : NodeKind). making k path) (sym (ap (λ (e : NewEntry). e.kind) (same_entry entry other is) ∙ made.kind_is)))
planned_making P I state (Mkdir path) entry (other, is, made) = (path, ap (λ (k : NodeKind). making k path) (sym (ap (λ (e : NewEntry). e.kind) (same_entry entry other is) ∙ made.kind_is)))
planned_making P I state (Link from to) entry (link, is, made) = no_entry entry (Name link) is refl
planned_making P I state (Unlink path) entry (removal, is, made) = no_entry entry (Remove removal) is refl
planned_making P I state (Rmdir path) entry (removal, is, made) = no_entry entry (Remove removal) is refl
planned_making P I state (Rename from to) entry plan =
    nothing_or ((path : Route) × (Rename from to ≡ making entry.kind path)) Move (IsMovingFor P I state from to) KeepNames (Make entry) _ plan (λ is. no_entry entry KeepNames is refl) (λ moving is for. no_entry entry (Move moving) is refl)
planned_making P I state (Write path offset bytes) entry plan =
    nothing_or ((to : Route) × (Write path offset bytes ≡ making entry.kind to)) WriteBytes (IsWritingFor P I state path offset bytes) WriteNothing (Make entry) _ plan (λ is. no_entry entry WriteNothing is refl) (λ writing is for. no_entry entry (WriteBytes writing) is refl)
planned_making P I state (Truncate path size) entry plan =
    nothing_or ((to : Route) × (Truncate path size ≡ making entry.kind to)) Resize (IsResizingFor P I state path size) KeepSize (Make entry) _ plan (λ is. no_entry entry KeepSize is refl) (λ resizing is for. no_entry entry (Resize resizing) is refl)
planned_making P I state (Read path offset count) entry (reading, is, made) = no_entry entry (ReadBytes reading) is refl
planned_making P I state (Tell path) entry is = no_entry entry (Status _) is refl
planned_making P I state (Show path) entry is = no_entry entry (Names _) is refl
planned_making P I state Df entry is = no_entry entry Space is refl

-- ---- what a plan costs

at_most : (b : Bool) (x y limit : ℕ) → x ≤ limit → y ≤ limit → cond b x y ≤ limit
at_most true x y limit p q = p
at_most false x y limit p q = q

claim-le : (page : Option ℕ) → fences_for_claim page ≤ 1
claim-le page = at_most (is_some page) 1 0 1 (omega arith) (omega arith)

page-le : (page : Option ℕ) → fences_for_page page ≤ 2
page-le page = at_most (is_some page) 2 0 2 (omega arith) (omega arith)

loss-le : (pages : ℕ) (goes : Bool) → fences_for_loss pages goes ≤ 2
loss-le pages goes =
    let owners = at_most (nat_lt 0 pages) 1 0 1 (omega arith) (omega arith) in
    let rest = at_most (nat_lt 0 pages || goes) 1 0 1 (omega arith) (omega arith) in
    omega (arith, owners, rest)

growth-le : (pages : List ℕ) → fences_for_growth pages ≤ 3
growth-le [] = omega arith
growth-le (page ∷ pages) = omega arith

-- no plan makes more than a move with a new page that gives one back
pub fences_of_plan-le : (action : Action) → fences_of_plan action ≤ most_fences
fences_of_plan-le (Make entry) = let page = claim-le entry.new_page in omega (arith, page)
fences_of_plan-le (Name link) = let page = claim-le link.new_page in omega (arith, page)
fences_of_plan-le (Remove removal) = let loss = loss-le (pages_removed removal) removal.loss.goes in omega (arith, loss)
fences_of_plan-le (Move moving) =
    let page = page-le moving.new_page in
    let loss = loss-le (pages_replaced moving) (goes_of moving.replaced) in
    omega (arith, page, loss)
fences_of_plan-le (WriteBytes writing) =
    let growth = growth-le writing.new_pages in
    at_most (nat_le (writing.offset + writing.count) writing.old_size) 1 (fences_for_growth writing.new_pages) most_fences (omega arith) (omega (arith, growth))
fences_of_plan-le WriteNothing = omega arith
fences_of_plan-le (Resize resizing) =
    let growth = growth-le resizing.new_pages in
    let loss = loss-le resizing.cut false in
    at_most (nat_lt resizing.old_size resizing.new_size) (fences_for_growth resizing.new_pages) (1 + fences_for_loss resizing.cut false) most_fences (omega (arith, growth)) (omega (arith, loss))
fences_of_plan-le KeepSize = omega arith
fences_of_plan-le KeepNames = omega arith
fences_of_plan-le (ReadBytes reading) = omega arith
fences_of_plan-le (Status inode) = omega arith
fences_of_plan-le (Names inode) = omega arith
fences_of_plan-le Space = omega arith
