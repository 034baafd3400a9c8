use Rattle.std.proofs.Common.{ℕ, ◌+◌, length, slice_index, ap, ◌∙◌}
use Rattle.std.proofs.lemmas.List.{length_push}
use Rattle.image_reading.specs.Reading.{IsLinkCount}
use Rattle.recovery.proofs.Listing.{places_more}
use Rattle.recovery.proofs.plan.counts_of.Goals as goal

pub loop-inode-preserved : goal.loop-inode-preserved
loop-inode-preserved c =
    let image = c.args.scanned.now.image in
    let items = c.in_ok-push.ensures.items in
    let so_far = c.loop-inode.invariant in
    record {
      size = ap length items ∙ length_push c.loop-inode.counts.items c.links.result ∙ ap (λ (n : ℕ). n + 1) so_far.size;
      each = places_more (λ place count. IsLinkCount image.geometry.pages image.words.now (slice_index c.args.inodes.now place) count)
          c.loop-inode.inode-index c.links.result c.loop-inode.counts.items c.push.new.self.items so_far.size items c.links.ensures so_far.each;
    }
