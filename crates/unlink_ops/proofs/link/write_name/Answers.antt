use Rattle.std.proofs.Common.{ap, rules}
use Rattle.pm_trait.proofs.DeviceViewLaws.{stores_then, ok_ends, err_ends}
use Rattle.inode_state.specs.Inode.{InodeView}
use Rattle.fence_token.proofs.ObjectLaws.{stands_in_flight_fence}
use Rattle.entry_steps.proofs.Placing.{place_fenced}
use Rattle.unlink_ops.proofs.Writes.{file_settled, still_whole, place_still_free, place_still_settled, links_apart, written_flushed, file_waits, link_made}
use Rattle.unlink_ops.proofs.link.write_name.Goals as goal

pub raise_links-inode-requires-clause-settled : goal.raise_links-inode-requires-clause-settled
raise_links-inode-requires-clause-settled g c =
    let geometry = c.args.geometry.now in
    file_settled geometry.pages c.args.link.now geometry.volume_size c.requires.ready c.requires.begins.settled

pub write-place-requires-clause-whole : goal.write-place-requires-clause-whole
write-place-requires-clause-whole g c =
    let geometry = c.args.geometry.now in
    still_whole geometry.pages c.args.link.now geometry.volume_size c.requires.ready c.requires.begins.settled c.raise_links-inode.ensures.device.stores

pub write-place-requires-clause-free : goal.write-place-requires-clause-free
write-place-requires-clause-free g c =
    let geometry = c.args.geometry.now in
    place_still_free geometry.pages c.args.link.now geometry.volume_size c.requires.ready c.requires.begins.settled c.raise_links-inode.ensures.device.stores

pub write-place-requires-clause-settled : goal.write-place-requires-clause-settled
write-place-requires-clause-settled g c =
    let geometry = c.args.geometry.now in
    place_still_settled geometry.pages c.args.link.now geometry.volume_size c.requires.ready c.requires.begins.settled c.raise_links-inode.ensures.device.stores

pub settle-requires-clause-in_flight : goal.settle-requires-clause-in_flight
settle-requires-clause-in_flight g c =
    let geometry = c.args.geometry.now in
    stands_in_flight_fence c.fence.ensures.device.words c.in-Ok.ensures.device.ok
    (file_waits geometry.pages c.args.link.now geometry.volume_size c.requires.ready c.requires.begins.settled c.raise_links-inode.ensures.device.stores c.write-place.ensures.device.stores
    c.raise_links-inode.result (ap (λ (inode : InodeView). inode.number) c.raise_links-inode.ensures.object) c.raise_links-inode.ensures.in_flight)

pub settle-requires-in-Ok-clause-in_flight : goal.settle-requires-in-Ok-clause-in_flight
settle-requires-in-Ok-clause-in_flight g c = place_fenced c.write-place.result (g.P.Pm.view c.write-place.new.pm) (g.P.Pm.view c.fence.new.pm) c.fence.ensures.device.words c.in-Ok.ensures.device.ok c.write-place.ensures.in_flight

-- all that is stored, and all of it flushed
pub returns-in-Ok-clause-takes : goal.returns-in-Ok-clause-takes
returns-in-Ok-clause-takes g c =
    let geometry = c.args.geometry.now in
    let link = c.args.link.now in
    let inode = c.raise_links-inode.ensures in
    let place = c.write-place.ensures in
    record {
      makes = (
        link_made geometry.pages link geometry.volume_size c.requires.ready c.requires.begins.settled inode.device.stores place.device.stores (g.P.Pm.view c.fence.new.pm).words c.fence.ensures.device.words inode.links place.words,
        search rules,
        search rules,
      );
      fenced = ok_ends (record { inode = c.settle.result; place = c.settle-in-Ok.result }) c.requires.begins.settled
          (stores_then inode.device place.device (links_apart geometry.pages link geometry.volume_size c.requires.ready c.requires.begins.settled))
          (written_flushed geometry.pages link geometry.volume_size c.requires.ready c.requires.begins.settled inode.device.stores place.device.stores inode.flushed place.flushed)
          c.in-Ok.ensures.device;
    }

pub returns-in-Err-clause-takes : goal.returns-in-Err-clause-takes
returns-in-Err-clause-takes g c =
    let geometry = c.args.geometry.now in
    let link = c.args.link.now in
    let inode = c.raise_links-inode.ensures in
    let place = c.write-place.ensures in
    record {
      makes = (
        link_made geometry.pages link geometry.volume_size c.requires.ready c.requires.begins.settled inode.device.stores place.device.stores (g.P.Pm.view c.fence.new.pm).words c.fence.ensures.device.words inode.links place.words,
        search rules,
        search rules,
      );
      fenced = err_ends c.in-Err.fault c.requires.begins.settled
          (stores_then inode.device place.device (links_apart geometry.pages link geometry.volume_size c.requires.ready c.requires.begins.settled))
          (written_flushed geometry.pages link geometry.volume_size c.requires.ready c.requires.begins.settled inode.device.stores place.device.stores inode.flushed place.flushed)
          c.in-Err.ensures.device;
    }
