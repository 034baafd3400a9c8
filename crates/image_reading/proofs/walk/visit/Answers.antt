use Rattle.std.proofs.Common.{◌-◌, ◌<◌, ◌≤◌, get_or, sym, subst, arith, rules}
use Rattle.image_reading.specs.Walk.{IsPageTaken}
use Rattle.layout.specs.Geometry.{most_pages}
use Rattle.layout.proofs.GeometryLaws.{inodes_below}
use Rattle.image_reading.proofs.Places.{one_inode}
use Rattle.image_reading.proofs.Linked.{pages_begin, pages_map, pages_step, pages_smaller, pages_left}
use Rattle.image_reading.proofs.Marked.{extends_itself, extends_twice}
use Rattle.image_reading.proofs.Walked as lemmas
use Rattle.image_reading.proofs.walk.visit.Goals as goal

pub inode_at-requires-clause-from_one : goal.inode_at-requires-clause-from_one
inode_at-requires-clause-from_one c =
    let g = c.args.image.now.geometry in
    (lemmas.reached_range g.pages c.args.image.now.words.now c.args.inode (one_inode g.pages g.volume_size) c.requires.reached).0

pub inode_at-requires-clause-inode_in_range : goal.inode_at-requires-clause-inode_in_range
inode_at-requires-clause-inode_in_range c =
    let g = c.args.image.now.geometry in
    let most = (lemmas.reached_range g.pages c.args.image.now.words.now c.args.inode (one_inode g.pages g.volume_size) c.requires.reached).1 in
    omega (arith, most, g.inodes_exact)

pub offset_bounds-lists-inode : goal.offset_bounds-lists-inode
offset_bounds-lists-inode c =
    let g = c.args.image.now.geometry in
    let most = (lemmas.reached_range g.pages c.args.image.now.words.now c.args.inode (one_inode g.pages g.volume_size) c.requires.reached).1 in
    let few = inodes_below g.pages g.volume_size in
    let small : c.args.inode ≤ most_pages = omega (arith, most, few, g.volume_size) in
    search (rules, small)

pub bounds-lists-inode : goal.bounds-lists-inode
bounds-lists-inode c =
    let g = c.args.image.now.geometry in
    let most = (lemmas.reached_range g.pages c.args.image.now.words.now c.args.inode (one_inode g.pages g.volume_size) c.requires.reached).1 in
    omega (arith, most, c.requires.linked.inodes)

pub loop-link-init : goal.loop-link-init
loop-link-init c =
    let g = c.args.image.now.geometry in
    let within = (lemmas.reached_range g.pages c.args.image.now.words.now c.args.inode (one_inode g.pages g.volume_size) c.requires.reached).1 in
    let first = c.requires.linked.firsts c.args.inode within in
    record {
      walk = c.requires.walk;
      extends = extends_itself c.args.reach.now;
      pages = pages_begin g.pages c.args.image.now.words.now c.args.inode (IsPageTaken g.pages c.args.image.now.words.now c.args.reach.now) (get_or c.args.lists.first.now c.args.inode 0) first;
    }

pub loop-link-preserved : goal.loop-link-preserved
loop-link-preserved c =
    let g = c.args.image.now.geometry in
    let P = g.pages in
    let I = c.args.image.now.words.now in
    let old = c.loop-link.reach in
    let new = c.visit_page.new.reach in
    let within = (lemmas.reached_range P I c.args.inode (one_inode P g.volume_size) c.requires.reached).1 in
    let pages = pages_map P I c.args.inode (IsPageTaken P I old) (IsPageTaken P I new) c.loop-link.link
    (λ j. lemmas.page_taken_later P I old new j c.visit_page.ensures.extends) c.loop-link.invariant.pages in
    record {
      walk = c.visit_page.ensures.walk;
      extends = extends_twice _ _ _ c.loop-link.invariant.extends c.visit_page.ensures.extends;
      pages = pages_step P I c.args.inode (IsPageTaken P I new) c.loop-link.link (get_or c.args.lists.next.now (c.loop-link.link - 1) 0) c.loop-link-test.true pages
          c.visit_page.ensures.taken (c.requires.linked.nexts (c.loop-link.link - 1)) within;
    }

pub loop-link-smaller : goal.loop-link-smaller
loop-link-smaller c =
    let g = c.args.image.now.geometry in
    let P = g.pages in
    let I = c.args.image.now.words.now in
    let v = get_or c.args.lists.next.now (c.loop-link.link - 1) 0 in
    let within = (lemmas.reached_range P I c.args.inode (one_inode P g.volume_size) c.requires.reached).1 in
    let smaller = pages_smaller P I c.args.inode (IsPageTaken P I c.loop-link.reach) c.loop-link.link v c.loop-link-test.true c.loop-link.invariant.pages
    (c.requires.linked.nexts (c.loop-link.link - 1)) within in
    subst (λ n. pages_left n v < pages_left n c.loop-link.link) (sym g.data_pages_exact) smaller

pub returns : goal.returns
returns c = record {
  walk = c.loop-link.invariant.walk;
  extends = c.loop-link.invariant.extends;
  taken = lemmas.pages_closed c.args.image.now.geometry.pages c.args.image.now.words.now c.loop-link.reach c.args.inode c.loop-link.link c.loop-link-test.false c.loop-link.invariant.pages;
}
