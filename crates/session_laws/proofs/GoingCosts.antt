-- A call that waits makes its next step: of what it has left that takes its events and a fence, however many events are kept for others.
use Rattle.std.proofs.Common.{◌≡◌, ℕ, ◌^◌, ◌<◌, ◌≤◌, sym, ◌∙◌, arith}
use Rattle.pm_trait.specs.DeviceView.{DeviceView}
use Rattle.pm_trait.specs.Unfolds.{events_in}
use Rattle.tree_model.specs.Run.{State}
use Rattle.tree_model.specs.declared.command.Command.{Command}
use Rattle.image_reading.specs.Residue.{Residue}
use Rattle.weave_laws.specs.Joined.{joined}
use Rattle.volume.specs.Volume.{VolumeView}
use Rattle.volume.specs.Stages.{HasKept}
use Rattle.volume.specs.declared.next.Next.{Next}
use Rattle.running_calls.specs.declared.running.Running.{Running}
use Rattle.running_calls.specs.Stages.{StandsStage, StandsNext, IsNext, EntersAt, left_of}
use Rattle.waiting_laws.specs.Beside.{StandsWith, PassesBy}
use Rattle.running_laws.specs.Waits.{left_by, held_by, bytes_of_command, Waits, LeavesAlone, WaitsStill, StandsBesideLaw, StandsLaw, StillWaitsLaw}
use Rattle.running_laws.specs.Numbers.{CostsStep, StepCostsLaw}
use Rattle.session_laws.proofs.OrderStill.{passes_itself}
use Rattle.session_laws.proofs.GoingStored.{some_fence, step_events_kept}

module _ (still_waits : StillWaitsLaw) (stands_beside : StandsBesideLaw) (stands_law : StandsLaw) (step_costs : StepCostsLaw)
    (volume : VolumeView) (device : DeviceView) (words : State) (command : Command) (running : Running) (others : Residue)
    (waits : Waits volume device words command running others) (alone : LeavesAlone volume.size device.words (held_by volume running) others)
    (few : events_in (left_of volume (bytes_of_command command) running) < 2 ^ 41)
    (kept : events_in (left_of volume (bytes_of_command command) running) ≤ volume.kept) where
  abbrev all : ℕ
  all = events_in (left_of volume (bytes_of_command command) running)

  -- the volume with the events of this call alone
  abbrev own : VolumeView
  own = record volume { kept = all }

  stands : StandsWith volume device words (left_by volume running) others
  stands = stands_beside volume device words command running others waits

  own_stands : StandsWith own device words (left_by volume running) others
  own_stands =
      let beside = stands.stands in
      let room = beside.room in
      let knows = beside.knows in
      record {
        stands = record {
          settled = beside.settled;
          sound = beside.sound;
          beside = beside.beside;
          reads = beside.reads;
          knows = record {
            whole = knows.whole;
            nodes = knows.nodes;
            each_inode = knows.each_inode;
            inodes = knows.inodes;
            each_page = knows.each_page;
            data_pages = knows.data_pages;
          };
          mark = beside.mark;
          room = omega (arith, room, kept);
        };
        going = stands.going;
        unmarked = stands.unmarked;
        no_pointer = stands.no_pointer;
      }

  passes : PassesBy volume own device device words words (held_by volume running)
  passes =
      let itself = passes_itself volume device words (joined (left_by volume running) others) (held_by volume running) stands.stands in
      record { size = itself.size; words = itself.words; nodes = itself.nodes; index = itself.index; lists = itself.lists }

  still : WaitsStill volume own device words command running others
  still = still_waits volume own device device words words command running others others waits passes own_stands alone

  own_kept : HasKept own device (events_in (left_of own (bytes_of_command command) running))
  own_kept =
      let same = still.events in
      let room = own_stands.stands.room in
      record { among = omega (arith, same); countable = omega (arith, few); room = omega (arith, room) }

  may : StandsStage own device (bytes_of_command command) running
  may = stands_law own device words command running others still.waits own_kept

  pub goes_costs : (between new : VolumeView) (after : DeviceView) (next : Next Running) → between.index ≡ volume.index → between.size ≡ volume.size → EntersAt running between new
      → IsNext running next → StandsNext new after (bytes_of_command command) next → CostsStep volume new (bytes_of_command command) running next
  goes_costs between new after next index size enters is behind =
      let some = some_fence own device (bytes_of_command command) words command others running still.waits may in
      let costs = step_costs own between new device after (bytes_of_command command) running next may some index size enters is behind in
      let same = step_events_kept all volume (bytes_of_command command) running in
      let more = costs.events in
      let events_same = still.events in
      record { events = omega (arith, more, same, events_same); fences = sym still.fences ∙ costs.fences }
