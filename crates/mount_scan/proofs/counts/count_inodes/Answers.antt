use Rattle.std.proofs.Common.{◌≡◌, ℕ, ◌+◌, ◌≤◌, subst, arith}
use Rattle.layout.specs.Geometry.{inodes_of}
use Rattle.image_reading.specs.Reading.{Reached}
use Rattle.image_reading.specs.Repairs.{IsLitterInode, IsLitterCount}
use Rattle.image_counts.proofs.Paths.{in_range}
use Rattle.mount_scan.specs.Counting.{IsReachedDirectory, IsReachedFile, CountsInodes}
use Rattle.mount_scan.proofs.Counted.{count_begun, count_told, count_fits}
use Rattle.mount_scan.proofs.Told.{inode_limit}
use Rattle.mount_scan.proofs.counts.count_inodes.Goals as goal

pub loop-number-init : goal.loop-number-init
loop-number-init c =
    let image = c.args.scanned.now.image in
    let P = image.geometry.pages in
    let W = image.words.now in
    let least : (i : ℕ) → Reached P W i → 1 ≤ i = λ i reached. (in_range P W c.requires.coherent i reached).0 in
    record {
      directories = count_begun (IsReachedDirectory P W) 1 (λ i lt is. (let low = least i is.0 in omega (arith, lt, low)));
      files = count_begun (IsReachedFile P W) 1 (λ i lt is. (let low = least i is.0 in omega (arith, lt, low)));
      litter = count_begun (IsLitterInode P W) 1 (λ i lt is. (let low = is.least in omega (arith, lt, low)));
      links = count_begun (IsLitterCount P W) 1 (λ i lt is. (let low = least i is.reached in omega (arith, lt, low)));
    }

pub overflow_add-counts : goal.overflow_add-counts
overflow_add-counts c =
    let image = c.args.scanned.now.image in
    let few = inode_limit image.geometry c.loop-number.number c.loop-number-test.true in
    let fits = count_fits (IsReachedDirectory image.geometry.pages image.words.now) _ _ _ _ c.from.ensures few c.loop-number.invariant.directories in
    omega (arith, fits)

pub overflow_add-counts-in-loop-number : goal.overflow_add-counts-in-loop-number
overflow_add-counts-in-loop-number c =
    let image = c.args.scanned.now.image in
    let few = inode_limit image.geometry c.loop-number.number c.loop-number-test.true in
    let fits = count_fits (IsReachedFile image.geometry.pages image.words.now) _ _ _ _ c.from-in-loop-number.ensures few c.loop-number.invariant.files in
    omega (arith, fits)

pub overflow_add-counts-in-loop-number-2 : goal.overflow_add-counts-in-loop-number-2
overflow_add-counts-in-loop-number-2 c =
    let image = c.args.scanned.now.image in
    let few = inode_limit image.geometry c.loop-number.number c.loop-number-test.true in
    let fits = count_fits (IsLitterInode image.geometry.pages image.words.now) _ _ _ _ c.from-in-loop-number-2.ensures few c.loop-number.invariant.litter in
    omega (arith, fits)

pub overflow_add-counts-in-loop-number-3 : goal.overflow_add-counts-in-loop-number-3
overflow_add-counts-in-loop-number-3 c =
    let image = c.args.scanned.now.image in
    let few = inode_limit image.geometry c.loop-number.number c.loop-number-test.true in
    let fits = count_fits (IsLitterCount image.geometry.pages image.words.now) _ _ _ _ c.from-in-loop-number-3.ensures few c.loop-number.invariant.links in
    omega (arith, fits)

pub loop-number-preserved : goal.loop-number-preserved
loop-number-preserved c =
    let image = c.args.scanned.now.image in
    let P = image.geometry.pages in
    let W = image.words.now in
    let inode = c.loop-number.number + 1 in
    let before = c.loop-number.invariant in
    record {
      directories = count_told (IsReachedDirectory P W) inode _ _ _ c.from.ensures c.is_reached_of_kind.ensures before.directories;
      files = count_told (IsReachedFile P W) inode _ _ _ c.from-in-loop-number.ensures c.is_reached_of_kind-in-loop-number.ensures before.files;
      litter = count_told (IsLitterInode P W) inode _ _ _ c.from-in-loop-number-2.ensures c.is_litter_inode.ensures before.litter;
      links = count_told (IsLitterCount P W) inode _ _ _ c.from-in-loop-number-3.ensures c.has_other_links.ensures before.links;
    }

pub returns : goal.returns
returns c =
    let image = c.args.scanned.now.image in
    let P = image.geometry.pages in
    let end : c.loop-number.number + 1 ≡ inodes_of P + 1 = omega (arith, c.loop-number-test.false, image.geometry.inodes_exact) in
    subst (λ (limit : ℕ). CountsInodes P image.words.now limit c.loop-number.counts) end c.loop-number.invariant
