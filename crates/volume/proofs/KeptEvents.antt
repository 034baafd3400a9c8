-- A plan is bounded and its events are few, so that a volume counts those of all calls that run; and there is room for what these have left.
use Rattle.std.proofs.Common.{◌≡◌, refl, ℕ, ◌+◌, ◌-◌, ◌*◌, ◌/◌, ◌^◌, ◌<◌, ◌≤◌, Bool, true, false, cond, ◌||◌, nat_lt, nat_le, min, length, Option, Some, None, is_some, arith}
use Rattle.std.proofs.lemmas.Bool.{ltb-false}
use Rattle.pm_trait.specs.DeviceView.{DeviceView}
use Rattle.layout.specs.Geometry.{most_data_pages}
use Rattle.layout.specs.declared.kinds.NodeKind.{NodeKind}
use Rattle.layout.specs.declared.kinds.NodeKind.TheVariants.{File, Directory}
use Rattle.tree_model.specs.Capacity.{file_limit}
use Rattle.tree_model.specs.Run.{State}
use Rattle.tree_model.specs.declared.command.Command.{Command}
use Rattle.image_reading.specs.Residue.{no_residue}
use Rattle.volume.specs.Volume.{VolumeView}
use Rattle.volume.specs.Carried.{HasReserved, IsPlanFor}
use Rattle.volume.specs.Stages.{keeping, HasKept}
use Rattle.volume.specs.Costs.{count_of, pages_removed, pages_replaced, pages_of_loss, goes_of, links_events, place_events, claim_events, new_page_events, pointing_events, loss_events, span_events, growth_events, where_true, kept_events, events_of}
use Rattle.volume.specs.Moves.{rising_of, falling_of}
use Rattle.volume.specs.Prepared.{IsBounded}
use Rattle.volume.specs.declared.plan.Moving.{Moving}
use Rattle.volume.specs.declared.plan.Action.{Action}
use Rattle.volume.specs.declared.plan.Action.TheVariants.{Make, Name, Remove, Move, Write as WriteBytes, WriteNothing, Resize, KeepSize, KeepNames, Read as ReadBytes, Status, Names, Space}
use Rattle.volume.proofs.Beside.{stands_beside}
use Rattle.volume.proofs.PlanActions.{pages_few}

pub bounded : (volume : VolumeView) (device : DeviceView) (state : State) (command : Command) (action : Action) → IsPlanFor volume device state command action → IsBounded action
bounded volume device state command action plan = pages_few volume device state no_residue (stands_beside plan.stands) command action plan.planned

-- ---- parts

at_most : (b : Bool) (x y limit : ℕ) → x ≤ limit → y ≤ limit → cond b x y ≤ limit
at_most true x y limit p q = p
at_most false x y limit p q = q

one-le : {T : Type 0} (o : Option T) → count_of o ≤ 1
one-le None = omega arith
one-le (Some x) = omega arith

links-le : (kind : NodeKind) → links_events kind ≤ 2
links-le File = omega arith
links-le Directory = omega arith

place-le : (page : Option ℕ) → place_events page ≤ 600
place-le page = at_most (is_some page) 579 16 600 (omega arith) (omega arith)

claim-le : (page : Option ℕ) → claim_events page ≤ 3
claim-le page = at_most (is_some page) 3 0 3 (omega arith) (omega arith)

new_page-le : (page : Option ℕ) → new_page_events page ≤ 600
new_page-le page = at_most (is_some page) 583 0 600 (omega arith) (omega arith)

loss-le : (pages : ℕ) (goes : Bool) → loss_events pages goes ≤ 5 * pages + 10
loss-le pages goes =
    let inode = at_most goes 5 0 5 (omega arith) (omega arith) in
    let owners = at_most (nat_lt 0 pages) (pages * 2 + 1) 0 (2 * pages + 1) (omega arith) (omega arith) in
    let rest = at_most (nat_lt 0 pages || goes) (pages * 3 + cond goes 5 0 + 1) 0 (3 * pages + 6) (omega (arith, inode)) (omega arith) in
    omega (arith, owners, rest)

span-le : (first end : ℕ) → span_events first end ≤ end + 10
span-le first end =
    let words = at_most (nat_lt first end) ((end + 7) / 8 - first / 8) 0 ((end + 7) / 8) (omega arith) (omega arith) in
    let lines = at_most (nat_lt first end) ((end + 63) / 64 - first / 64) 0 ((end + 63) / 64) (omega arith) (omega arith) in
    omega (arith, words, lines)

growth-le : (old_size offset pages : ℕ) → old_size ≤ file_limit → pages ≤ most_data_pages → growth_events old_size offset pages < 2 ^ 41
growth-le old_size offset pages size few =
    let span = span-le (min offset old_size) ((old_size + 4095) / 4096 * 4096) in
    let owners = at_most (nat_lt 0 pages) (pages * 2 + 1) 0 (2 * pages + 1) (omega arith) (omega arith) in
    omega (arith, span, owners, size, few)

replaced_few : (moving : Moving) → pages_of_loss moving.replaced ≤ most_data_pages → pages_replaced moving ≤ most_data_pages + 1
replaced_few moving few = let given = one-le moving.given_back in omega (arith, few, given)

pointing-le : (moving : Moving) → pointing_events moving ≤ 20
pointing-le moving = at_most (is_some moving.replaced || is_some moving.new_page) 2 17 20 (omega arith) (omega arith)

-- ---- of a plan

pub events_few : (action : Action) → IsBounded action → events_of action < 2 ^ 41
events_few (Make entry) few = let place = place-le entry.new_page in let claim = claim-le entry.new_page in let links = links-le entry.kind in omega (arith, place, claim, links)
events_few (Name link) few = let place = place-le link.new_page in let claim = claim-le link.new_page in omega (arith, place, claim)
events_few (Remove removal) few = let given = one-le removal.given_back in let loss = loss-le (pages_removed removal) removal.loss.goes in omega (arith, few, given, loss)
events_few (Move moving) few =
    let page = new_page-le moving.new_page in
    let pointing = pointing-le moving in
    let rising = one-le (rising_of moving) in
    let falling = one-le (falling_of moving) in
    let pages = replaced_few moving few in
    let loss = loss-le (pages_replaced moving) (goes_of moving.replaced) in
    omega (arith, page, pointing, rising, falling, pages, loss)
events_few (WriteBytes writing) few =
    let inside = span-le writing.offset (writing.offset + writing.count) in
    let growth = growth-le writing.old_size writing.offset (length writing.new_pages) few.old_size few.new_pages in
    let end = few.end in
    let most = at_most (nat_le (writing.offset + writing.count) writing.old_size) (span_events writing.offset (writing.offset + writing.count) + 1) (growth_events writing.old_size writing.offset (length writing.new_pages)) (2 ^ 41 - 1)
    (omega (arith, inside, end)) (omega (arith, growth)) in
    omega (arith, most)
events_few (Resize resizing) few =
    let growth = growth-le resizing.old_size resizing.old_size (length resizing.new_pages) few.old_size few.new_pages in
    let loss = loss-le resizing.cut false in
    let cut = few.cut in
    let most = at_most (nat_lt resizing.old_size resizing.new_size) (growth_events resizing.old_size resizing.old_size (length resizing.new_pages)) (3 + loss_events resizing.cut false) (2 ^ 41 - 1)
    (omega (arith, growth)) (omega (arith, loss, cut)) in
    omega (arith, most)
events_few WriteNothing few = omega arith
events_few KeepSize few = omega arith
events_few KeepNames few = omega arith
events_few (ReadBytes reading) few = omega arith
events_few (Status inode) few = omega arith
events_few (Names inode) few = omega arith
events_few Space few = omega arith

-- so a volume can count them beside those of other calls
pub events_countable : (action : Action) → IsBounded action → events_of action < 2 ^ 62
events_countable action few = let less = events_few action few in omega (arith, less)

-- ---- what a call has left

module _ (volume : VolumeView) where
  -- a call that begins has room where its plan has, and where all that run have theirs
  pub has_kept : (device : DeviceView) (action : Action) → IsBounded action → volume.kept ≤ 2 ^ 62 → volume.kept ≤ device.spare → HasReserved volume device action → HasKept (keeping volume action) device (events_of action)
  has_kept device action few count enough reserved =
      let less = events_countable action few in
      record {
        among = omega arith;
        countable = omega (arith, less, count);
        room = by_events (events_of action) (kept_events volume.marked) reserved.room;
      }
    where
      by_events : (events mark : ℕ) → where_true (nat_lt 0 events) (events + (mark + volume.kept)) ≤ device.spare → volume.kept + events ≤ device.spare
      by_events events mark =
          elim (nat_lt 0 events) as (λ t. nat_lt 0 events ≡ t → where_true t (events + (mark + volume.kept)) ≤ device.spare → volume.kept + events ≤ device.spare) [
            | true ↦ λ is room. omega (arith, room)
            | false ↦ λ is room. (let none = ltb-false 0 events is in omega (arith, none, enough))
          ] refl

  -- and so has one that begins alone
  pub has_kept_alone : (device : DeviceView) (action : Action) → IsBounded action → volume.kept ≡ 0 → HasReserved volume device action → HasKept (keeping volume action) device (events_of action)
  has_kept_alone device action few none reserved = has_kept device action few (omega (arith, none)) (omega (arith, none)) reserved

  -- behind a step there is room for what is left
  pub has_kept_still : (before after : DeviceView) (step left : ℕ) → before.spare ≤ after.spare + step → HasKept volume before (step + left) → HasKept (record volume { kept = volume.kept - step }) after left
  has_kept_still before after step left taken has = record {
    among = let all = has.among in omega (arith, all);
    countable = let few = has.countable in omega (arith, few);
    room = let room = has.room in let all = has.among in omega (arith, room, taken, all);
  }
