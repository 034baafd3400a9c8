use Rattle.std.proofs.Common.{ℕ, ◌≡◌, ◌+◌, ◌/◌, ◌%◌, ◌<◌, List, ◌++◌, length, drop, slice_index, refl, sym, ap, subst, ◌∙◌, arith, length-take}
use Rattle.layout.specs.Geometry.{inodes_of, data_pages_of}
use Rattle.layout.specs.Fields.{inode_size, page_byte}
use Rattle.page_state.specs.Page.{EachPage}
use Rattle.tree_model.specs.Tree.{bytes_of}
use Rattle.tree_model.specs.Run.{State}
use Rattle.volatile_index.specs.Index.{pages_of}
use Rattle.volume.proofs.WalkedBeside.{in_index}
use Rattle.volume.proofs.Statuses.{same_state_beside}
use Rattle.data_ops.specs.Reading.{IsRead}
use Rattle.data_ops.proofs.ReadBytes.{reached, held, long, reach, byte_is, small, bytes_read}
use Rattle.data_ops.proofs.reading.read.Goals as goal

pub inode_at-size-requires-clause-from_one : goal.inode_at-size-requires-clause-from_one
inode_at-size-requires-clause-from_one g c = (held c.args.volume.now (g.P.Pm.view c.args.pm.now) c.args.inode c.requires.file).least

pub inode_at-size-requires-clause-inode_in_range : goal.inode_at-size-requires-clause-inode_in_range
inode_at-size-requires-clause-inode_in_range g c =
    let most = (held c.args.volume.now (g.P.Pm.view c.args.pm.now) c.args.inode c.requires.file).most in
    let same = ap inodes_of c.geometry-geometry.ensures in
    omega (arith, most, same, c.geometry-geometry.result.now.inodes_exact)

pub pages-requires-clause-from_one : goal.pages-requires-clause-from_one
pages-requires-clause-from_one g c = (held c.args.volume.now (g.P.Pm.view c.args.pm.now) c.args.inode c.requires.file).least

pub pages-requires-clause-in_range : goal.pages-requires-clause-in_range
pages-requires-clause-in_range g c =
    let device = g.P.Pm.view c.args.pm.now in
    (in_index c.args.volume.now device c.args.inode (c.requires.file.0, c.requires.file.1, c.requires.file.2) (reached c.args.volume.now device c.args.inode c.requires.file).0).1

pub read_pages-requires-clause-in_range : goal.read_pages-requires-clause-in_range
read_pages-requires-clause-in_range g c =
    let each = (held c.args.volume.now (g.P.Pm.view c.args.pm.now) c.args.inode c.requires.file).bytes.in_range in
    let exact = c.geometry-geometry.result.now.data_pages_exact ∙ ap data_pages_of c.geometry-geometry.ensures in
    subst (λ (l : List ℕ). EachPage l (λ page. page < c.geometry-geometry.result.now.data_pages)) (sym c.pages.ensures)
    (subst (λ (n : ℕ). EachPage (pages_of c.args.volume.now.index c.args.inode) (λ page. page < n)) (sym exact) each)

pub read_pages-requires-clause-inside : goal.read_pages-requires-clause-inside
read_pages-requires-clause-inside g c = λ some.
    let device = g.P.Pm.view c.args.pm.now in
    let far = reach c.args.volume.now device c.args.inode c.requires.file in
    let size : c.inode_at-size.result.size ≡ inode_size device.words c.args.inode = c.inode_at-size.ensures.size ∙ ap (λ (l : List ℕ). inode_size l c.args.inode) c.image.ensures in
    let all = ap (λ (l : List ℕ). length l) c.pages.ensures in
    let part = length-take c.min-count.result c.args.buf.now in
    omega (arith, some, far, size, all, part, c.min-count.ensures, c.saturating_sub-left.ensures)

pub read_pages-requires-clause-small : goal.read_pages-requires-clause-small
read_pages-requires-clause-small g c = λ some.
    let device = g.P.Pm.view c.args.pm.now in
    let few = small c.args.volume.now device c.args.inode c.requires.file in
    let size : c.inode_at-size.result.size ≡ inode_size device.words c.args.inode = c.inode_at-size.ensures.size ∙ ap (λ (l : List ℕ). inode_size l c.args.inode) c.image.ensures in
    let part = length-take c.min-count.result c.args.buf.now in
    omega (arith, some, few, size, part, c.min-count.ensures, c.saturating_sub-left.ensures)

pub returns : goal.returns
returns g c = λ state residue stands.
    let (known, left, stands_known, there, untouched) = c.requires.file in
    let device = g.P.Pm.view c.args.pm.now in
    let volume = c.args.volume.now in
    let i = c.args.inode in
    let offset = c.args.offset in
    let size : c.inode_at-size.result.size ≡ inode_size device.words i = c.inode_at-size.ensures.size ∙ ap (λ (l : List ℕ). inode_size l i) c.image.ensures in
    let whole = long volume device i c.requires.file in
    let part = length-take c.min-count.result c.args.buf.now in
    let kept = c.read_pages.auto.buf in
    let low : (k : ℕ) → k < c.min-count.result → offset + k < inode_size device.words i = λ k inside. omega (arith, inside, size, c.min-count.ensures, c.saturating_sub-left.ensures) in
    let full : length c.read_pages.new.buf ≡ c.min-count.result = omega (arith, part, kept, c.min-count.ensures) in
    subst (λ (s : State). IsRead (bytes_of s.tree i) offset c.args.buf.now (c.read_pages.new.buf ++ drop c.min-count.result c.args.buf.now) c.min-count.result)
    (same_state_beside volume device known state left residue stands_known stands)
    (bytes_read c.args.buf.now (c.read_pages.new.buf ++ drop c.min-count.result c.args.buf.now) c.read_pages.new.buf (bytes_of known.tree i) offset c.min-count.result
    (omega (arith, size, whole, c.min-count.ensures, c.saturating_sub-left.ensures)) refl full
    (λ k inside.
    c.read_pages.ensures k (omega (arith, inside, full))
    ∙ ap (λ (p : ℕ). page_byte p device.words (slice_index c.pages.result.now ((offset + k) / 4096)) ((offset + k) % 4096)) c.geometry-geometry.ensures
    ∙ ap (λ (l : List ℕ). page_byte volume.size device.words (slice_index l ((offset + k) / 4096)) ((offset + k) % 4096)) c.pages.ensures
    ∙ byte_is volume device i c.requires.file (offset + k) (low k inside)))
