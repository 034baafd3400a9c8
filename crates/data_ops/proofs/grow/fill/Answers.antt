use Rattle.std.proofs.Common.{◌∙◌, arith}
use Rattle.pm_trait.proofs.DeviceLaws.{interval_length}
use Rattle.pm_trait.proofs.DeviceViewLaws.{stores_then}
use Rattle.image_reading.specs.Reading.{pages_of_size}
use Rattle.pm_trait.proofs.Unfolding.{interval_ends}
use Rattle.data_ops.proofs.Spans.{may_fill, filled_apart, still_settled, still_free, fill_flushed, fills}
use Rattle.data_ops.proofs.grow.fill.Goals as goal

pub fill_old-requires : goal.fill_old-requires
fill_old-requires g c = record {
  whole = c.requires.begins.whole;
  settled = c.requires.begins.settled;
  may = may_fill c.requires.ready;
  room = let room = c.requires.begins.room in omega (arith, room);
}

pub fill_new-requires : goal.fill_new-requires
unfolding pages_of_size
fill_new-requires g c =
    let can = c.requires.ready in
    let begins = c.requires.begins in
    let stores = c.fill_old.ensures.device in
    let size = c.args.geometry.now.volume_size in
    record {
      whole = interval_length stores.stores ∙ begins.whole;
      settled = still_settled can size begins.whole begins.settled stores.stores;
      free = still_free can size begins.whole begins.settled stores.stores;
      places = omega (arith, can.held.count, can.old_size, can.count, can.small, can.larger);
      range = omega (arith, can.small, can.inside);
      room = omega (arith, begins.room, stores.room);
    }

pub end_interval-requires : goal.end_interval-requires
end_interval-requires g c =
    let begins = c.requires.begins in
    let one = c.fill_old.ensures.device in
    let two = c.fill_new.ensures.device in
    record { countable = omega (arith, begins.countable, one.counts.fences, two.counts.fences); room = omega (arith, begins.room, one.room, two.room) }

pub returns : goal.returns
returns g c =
    let can = c.requires.ready in
    let size = c.args.geometry.now.volume_size in
    let settled = c.requires.begins.settled in
    let one = c.fill_old.ensures in
    let two = c.fill_new.ensures in
    record {
      takes = record {
        makes = fills can size c.requires.begins.whole settled one.device.stores two.device.stores (g.P.Pm.view c.end_interval.new.pm).words c.end_interval.ensures.device.words one.below one.tail two.filled two.bytes;
        fenced = interval_ends c.end_interval.result settled (stores_then one.device two.device (filled_apart can size c.requires.begins.whole settled))
            (fill_flushed can size c.requires.begins.whole settled one.device.stores two.device.stores one.flushed two.flushed) c.end_interval.ensures.device;
      };
    }
