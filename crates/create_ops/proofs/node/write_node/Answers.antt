use Rattle.std.proofs.Common.{ap, rules}
use Rattle.pm_trait.proofs.DeviceViewLaws.{stores_then, ok_ends}
use Rattle.inode_state.specs.Inode.{InodeView}
use Rattle.fence_token.proofs.ObjectLaws.{stands_in_flight_fence}
use Rattle.entry_steps.proofs.Answered.{failed_interval}
use Rattle.entry_steps.proofs.Placing.{place_waits, place_fenced}
use Rattle.create_ops.proofs.Nodes.{inode_settled, still_whole, place_still_free, place_still_settled, whole_again, parent_still, parent_still_settled, inode_apart, links_apart, off_parent, written_flushed, inode_waits, node_made}
use Rattle.create_ops.proofs.node.write_node.Goals as goal

pub init_inode-inode-requires-clause-settled : goal.init_inode-inode-requires-clause-settled
init_inode-inode-requires-clause-settled g c =
    let geometry = c.args.geometry.now in
    inode_settled geometry.pages c.args.entry.now geometry.volume_size c.requires.ready c.requires.begins.settled

pub write-place-requires-clause-whole : goal.write-place-requires-clause-whole
write-place-requires-clause-whole g c =
    let geometry = c.args.geometry.now in
    still_whole geometry.pages c.args.entry.now geometry.volume_size c.requires.ready c.requires.begins.settled c.init_inode-inode.ensures.device.stores

pub write-place-requires-clause-free : goal.write-place-requires-clause-free
write-place-requires-clause-free g c =
    let geometry = c.args.geometry.now in
    place_still_free geometry.pages c.args.entry.now geometry.volume_size c.requires.ready c.requires.begins.settled c.init_inode-inode.ensures.device.stores

pub write-place-requires-clause-settled : goal.write-place-requires-clause-settled
write-place-requires-clause-settled g c =
    let geometry = c.args.geometry.now in
    place_still_settled geometry.pages c.args.entry.now geometry.volume_size c.requires.ready c.requires.begins.settled c.init_inode-inode.ensures.device.stores

pub count_child-requires-clause-whole : goal.count_child-requires-clause-whole
count_child-requires-clause-whole g c =
    let geometry = c.args.geometry.now in
    whole_again geometry.pages c.args.entry.now geometry.volume_size c.requires.ready c.requires.begins.settled c.init_inode-inode.ensures.device.stores c.write-place.ensures.device.stores

pub count_child-requires-clause-parent : goal.count_child-requires-clause-parent
count_child-requires-clause-parent g c =
    let geometry = c.args.geometry.now in
    parent_still geometry.pages c.args.entry.now geometry.volume_size c.requires.ready c.requires.begins.settled c.init_inode-inode.ensures.device.stores c.write-place.ensures.device.stores

pub count_child-requires-clause-settled : goal.count_child-requires-clause-settled
count_child-requires-clause-settled g c =
    let geometry = c.args.geometry.now in
    parent_still_settled geometry.pages c.args.entry.now geometry.volume_size c.requires.ready c.requires.begins.settled c.init_inode-inode.ensures.device.stores c.write-place.ensures.device.stores

pub settle-requires-clause-in_flight : goal.settle-requires-clause-in_flight
settle-requires-clause-in_flight g c =
    let geometry = c.args.geometry.now in
    stands_in_flight_fence c.fence.ensures.device.words c.in_ok-token.ensures.device.ok
    (inode_waits geometry.pages c.args.entry.now geometry.volume_size c.requires.ready c.requires.begins.settled c.init_inode-inode.ensures.device.stores c.write-place.ensures.device.stores c.count_child.ensures.device.stores
    c.init_inode-inode.result (ap (λ (inode : InodeView). inode.number) c.init_inode-inode.ensures.object) c.init_inode-inode.ensures.in_flight)

pub settle-requires-2-clause-in_flight : goal.settle-requires-2-clause-in_flight
settle-requires-2-clause-in_flight g c =
    let geometry = c.args.geometry.now in
    let entry = c.args.entry.now in
    let written = g.P.Pm.view c.write-place.new.pm in
    let counted = g.P.Pm.view c.count_child.new.pm in
    place_fenced c.write-place.result counted (g.P.Pm.view c.fence.new.pm) c.fence.ensures.device.words c.in_ok-token.ensures.device.ok
    (place_waits geometry.pages entry.slot entry.name written.fences entry.new_page c.write-place.result written counted c.write-place.ensures.object c.count_child.ensures.device.stores
    (off_parent geometry.pages entry geometry.volume_size c.requires.ready c.requires.begins.settled c.init_inode-inode.ensures.device.stores c.write-place.ensures.device.stores c.count_child.ensures.device.stores)
    c.write-place.ensures.in_flight)

-- all that is stored, and all of it flushed
pub returns-clause-takes : goal.returns-clause-takes
returns-clause-takes g c =
    let geometry = c.args.geometry.now in
    let entry = c.args.entry.now in
    let inode = c.init_inode-inode.ensures in
    let place = c.write-place.ensures in
    let child = c.count_child.ensures in
    record {
      makes = (
        node_made geometry.pages entry geometry.volume_size c.requires.ready c.requires.begins.settled inode.device.stores place.device.stores child.device.stores
            (g.P.Pm.view c.fence.new.pm).words c.init_inode-inode.result c.fence.ensures.device.words (ap (λ (i : InodeView). i.number) inode.object) (ap (λ (i : InodeView). i.fields) inode.object) inode.in_flight place.words child.links,
        search rules,
        search rules,
      );
      fenced = ok_ends (record { inode = c.settle.result; place = c.settle-2.result }) c.requires.begins.settled
          (stores_then (stores_then inode.device place.device (inode_apart geometry.pages entry geometry.volume_size c.requires.ready c.requires.begins.settled)) child.device
          (links_apart geometry.pages entry geometry.volume_size c.requires.ready c.requires.begins.settled inode.device.stores place.device.stores child.device.stores))
          (written_flushed geometry.pages entry geometry.volume_size c.requires.ready c.requires.begins.settled inode.device.stores place.device.stores child.device.stores inode.flushed place.flushed child.flushed)
          c.in_ok-token.ensures.device;
    }

pub returns-in_err-token-clause-takes : goal.returns-in_err-token-clause-takes
returns-in_err-token-clause-takes g c =
    let geometry = c.args.geometry.now in
    let entry = c.args.entry.now in
    let inode = c.init_inode-inode.ensures in
    let place = c.write-place.ensures in
    let child = c.count_child.ensures in
    record {
      makes = (
        node_made geometry.pages entry geometry.volume_size c.requires.ready c.requires.begins.settled inode.device.stores place.device.stores child.device.stores
            (g.P.Pm.view c.fence.new.pm).words c.init_inode-inode.result c.fence.ensures.device.words (ap (λ (i : InodeView). i.number) inode.object) (ap (λ (i : InodeView). i.fields) inode.object) inode.in_flight place.words child.links,
        search rules,
        search rules,
      );
      fenced = failed_interval c.from_residual.result c.from_residual.ensures.0 c.requires.begins.settled
          (stores_then (stores_then inode.device place.device (inode_apart geometry.pages entry geometry.volume_size c.requires.ready c.requires.begins.settled)) child.device
          (links_apart geometry.pages entry geometry.volume_size c.requires.ready c.requires.begins.settled inode.device.stores place.device.stores child.device.stores))
          (written_flushed geometry.pages entry geometry.volume_size c.requires.ready c.requires.begins.settled inode.device.stores place.device.stores child.device.stores inode.flushed place.flushed child.flushed)
          c.in_err-token.ensures.device;
    }
