-- What a call enters at its three moments is what its action has done, whatever events the volume keeps between them.
use Rattle.std.proofs.Common.{◌≡◌, ℕ, Bool, true, false, List, [], Option, Some, None, refl, sym, ap, subst, ◌∙◌}
use Rattle.volatile_index.specs.Index.{NodeView}
use Rattle.volume.specs.Volume.{VolumeView}
use Rattle.volume.specs.Entered.{pages_of_option, with_taken, EntersPages, EntersName, EntersInode, TakesPages, PutsPages, PutsName, LeavesName, LeavesPageOf, LeavesLastPages, LeavesInodeIf, HasDone, TakesName}
use Rattle.volume.specs.declared.plan.NewEntry.{NewEntry}
use Rattle.volume.specs.declared.plan.NewName.{NewName}
use Rattle.volume.specs.declared.plan.Loss.{Loss}
use Rattle.volume.specs.declared.plan.Removal.{Removal}
use Rattle.volume.specs.declared.plan.Moving.{Moving}
use Rattle.volume.specs.declared.plan.Writing.{Writing}
use Rattle.volume.specs.declared.plan.Resizing.{Resizing}
use Rattle.volume.specs.declared.plan.Action.TheVariants.{Make, Name, Remove, Move, Write as WriteBytes, Resize}
use Rattle.volume.proofs.Grown.{has_grown, has_cut}

-- ---- a volume that keeps so many events

abbrev pub with_kept : ℕ → VolumeView → VolumeView
with_kept k volume = record volume { kept = k }

pub kept_already : (volume : VolumeView) (k : ℕ) → volume.kept ≡ k → with_kept k volume ≡ volume
kept_already volume k is = λ i. record volume { kept = sym is i }

-- ---- what is entered or leaves, whatever is kept

module _ (k : ℕ) (a b : VolumeView) where
  pub takes_keeping : (pages : List ℕ) → TakesPages a b pages → TakesPages (with_kept k a) (with_kept k b) pages
  takes_keeping pages takes = ap (with_kept k) takes

  pub inode_keeping : (inode : ℕ) → EntersInode a b inode → EntersInode (with_kept k a) (with_kept k b) inode
  inode_keeping inode enters = ap (with_kept k) enters

  pub pages_keeping : (inode : ℕ) (pages : List ℕ) → PutsPages a b inode pages → PutsPages (with_kept k a) (with_kept k b) inode pages
  pages_keeping inode pages puts = record { index = puts.index; rest = ap (with_kept k) puts.rest }

  pub name_keeping : (directory : ℕ) (name : List ℕ) (slot : ℕ) (new_page : Option ℕ) → PutsName a b directory name slot new_page → PutsName (with_kept k a) (with_kept k b) directory name slot new_page
  name_keeping directory name slot new_page puts = record {
    opened = with_kept k puts.opened;
    page = record { index = puts.page.index; rest = ap (with_kept k) puts.page.rest };
    index = puts.index;
    rest = ap (with_kept k) puts.rest;
  }

  pub removal_keeping : (directory : ℕ) (name : List ℕ) → LeavesName a b directory name → LeavesName (with_kept k a) (with_kept k b) directory name
  removal_keeping directory name leaves = record { index = leaves.index; rest = ap (with_kept k) leaves.rest }

  pub page_keeping : (directory : ℕ) (given : Option ℕ) → LeavesPageOf a b directory given → LeavesPageOf (with_kept k a) (with_kept k b) directory given
  page_keeping directory None same = ap (with_kept k) same
  page_keeping directory (Some page) leaves = record { index = leaves.index; rest = ap (with_kept k) leaves.rest }

  pub cut_keeping : (inode count : ℕ) → LeavesLastPages a b inode count → LeavesLastPages (with_kept k a) (with_kept k b) inode count
  cut_keeping inode count leaves = record {
    kept = leaves.kept;
    gone = leaves.gone;
    split = leaves.split;
    count_is = leaves.count_is;
    index = leaves.index;
    rest = ap (with_kept k) leaves.rest;
  }

  pub node_keeping : (goes : Bool) (inode : ℕ) → LeavesInodeIf goes a b inode → LeavesInodeIf goes (with_kept k a) (with_kept k b) inode
  node_keeping true inode leaves = record { index = leaves.index; rest = ap (with_kept k) leaves.rest }
  node_keeping false inode same = ap (with_kept k) same

-- ---- what stays beside it

pub record IsSameBeside (a b : VolumeView) : Type 0 where
  pub size : b.size ≡ a.size
  pub stopped : b.stopped ≡ a.stopped
  pub marked : b.marked ≡ a.marked
  pub kept : b.kept ≡ a.kept

module _ (a b : VolumeView) where
  beside_by : (index : List NodeView) (inodes data_pages : List Bool) → b ≡ record a { index = index; inodes = inodes; data_pages = data_pages } → IsSameBeside a b
  beside_by index inodes data_pages is = record {
    size = ap (λ (v : VolumeView). v.size) is;
    stopped = ap (λ (v : VolumeView). v.stopped) is;
    marked = ap (λ (v : VolumeView). v.marked) is;
    kept = ap (λ (v : VolumeView). v.kept) is;
  }

  pub takes_beside : (pages : List ℕ) → TakesPages a b pages → IsSameBeside a b
  takes_beside pages takes = beside_by a.index a.inodes _ takes

  pub inode_beside : (inode : ℕ) → EntersInode a b inode → IsSameBeside a b
  inode_beside inode enters = beside_by a.index _ a.data_pages enters

  pub pages_beside : (inode : ℕ) (pages : List ℕ) → PutsPages a b inode pages → IsSameBeside a b
  pages_beside inode pages puts = beside_by b.index a.inodes a.data_pages puts.rest

  pub name_beside : (directory : ℕ) (name : List ℕ) (slot : ℕ) (new_page : Option ℕ) → PutsName a b directory name slot new_page → IsSameBeside a b
  name_beside directory name slot new_page puts = beside_by b.index a.inodes a.data_pages (puts.rest ∙ ap (λ (v : VolumeView). record v { index = b.index }) puts.page.rest)

  pub removal_beside : (directory : ℕ) (name : List ℕ) → LeavesName a b directory name → IsSameBeside a b
  removal_beside directory name leaves = beside_by b.index a.inodes a.data_pages leaves.rest

  pub page_beside : (directory : ℕ) (given : Option ℕ) → LeavesPageOf a b directory given → IsSameBeside a b
  page_beside directory None same = beside_by a.index a.inodes a.data_pages same
  page_beside directory (Some page) leaves = beside_by b.index a.inodes _ leaves.rest

  pub cut_beside : (inode count : ℕ) → LeavesLastPages a b inode count → IsSameBeside a b
  cut_beside inode count leaves = beside_by b.index a.inodes _ leaves.rest

  pub node_beside : (goes : Bool) (inode : ℕ) → LeavesInodeIf goes a b inode → IsSameBeside a b
  node_beside true inode leaves = beside_by b.index _ _ leaves.rest
  node_beside false inode same = beside_by a.index a.inodes a.data_pages same

-- where there is no page none is taken
pub none_taken : (a b : VolumeView) (page : Option ℕ) → page ≡ None → TakesPages a b (pages_of_option page) → b ≡ a
none_taken a b page none takes = subst (λ (p : Option ℕ). TakesPages a b (pages_of_option p)) none takes

-- ---- pages of a file, and a name

module _ (a b d : VolumeView) (k m : ℕ) where
  pub pages_entered : (inode : ℕ) (pages : List ℕ) → TakesPages (with_kept k a) b pages → PutsPages (with_kept m b) d inode pages → EntersPages a (with_kept a.kept d) inode pages
  pages_entered inode pages takes puts =
      let now = subst (λ (v : VolumeView). PutsPages (with_kept m v) d inode pages) takes puts in
      record { index = now.index; rest = ap (with_kept a.kept) now.rest }

  pub name_entered : (directory : ℕ) (name : List ℕ) (slot : ℕ) (new_page : Option ℕ) → TakesPages (with_kept k a) b (pages_of_option new_page) → PutsName (with_kept m b) d directory name slot new_page
      → EntersName a (with_kept a.kept d) directory name slot new_page
  name_entered directory name slot new_page takes puts =
      let now = subst (λ (v : VolumeView). PutsName (with_kept m v) d directory name slot new_page) takes puts in
      record {
        opened = with_kept a.kept now.opened;
        page = record { index = now.page.index; rest = ap (with_kept a.kept) now.page.rest };
        index = now.index;
        rest = ap (with_kept a.kept) now.rest;
      }

  pub has_linked : (link : NewName) → TakesPages (with_kept k a) b (pages_of_option link.new_page) → PutsName (with_kept m b) d link.directory link.name link.slot link.new_page → HasDone a (with_kept a.kept d) (Name link)
  has_linked link takes puts = name_entered link.directory link.name link.slot link.new_page takes puts

  pub has_written : (writing : Writing) → TakesPages (with_kept k a) b writing.new_pages → PutsPages (with_kept m b) d writing.inode writing.new_pages → HasDone a (with_kept a.kept d) (WriteBytes writing)
  has_written writing takes puts = pages_entered writing.inode writing.new_pages takes puts

  pub has_lengthened : (resizing : Resizing) → TakesPages (with_kept k a) b resizing.new_pages → PutsPages (with_kept m b) d resizing.inode resizing.new_pages → resizing.cut ≡ 0 → HasDone a (with_kept a.kept d) (Resize resizing)
  has_lengthened resizing takes puts none = has_grown a (with_kept a.kept d) resizing (pages_entered resizing.inode resizing.new_pages takes puts) none

-- a file that is cut gives its last pages back at the end
pub has_shortened : (a d : VolumeView) (k : ℕ) (resizing : Resizing) → LeavesLastPages (with_kept k a) d resizing.inode resizing.cut → resizing.new_pages ≡ [] → HasDone a (with_kept a.kept d) (Resize resizing)
has_shortened a d k resizing leaves none = has_cut a (with_kept a.kept d) resizing (cut_keeping a.kept (with_kept k a) d resizing.inode resizing.cut leaves) none

-- ---- an entry with its node

-- the numbers behind the first step, the name behind the commit
module _ (a b c d : VolumeView) (k m : ℕ) (entry : NewEntry) where
  abbrev before_inode : VolumeView → VolumeView
  before_inode v = record v { inodes = a.inodes; kept = a.kept }

  pub has_made : TakesPages (with_kept k a) b (pages_of_option entry.new_page) → EntersInode b c entry.inode → PutsName (with_kept m c) d entry.directory entry.name entry.slot entry.new_page → HasDone a (with_kept a.kept d) (Make entry)
  has_made takes enters puts =
      let numbers = subst (λ (v : VolumeView). EntersInode v c entry.inode) takes enters in
      let now = subst (λ (v : VolumeView). PutsName (with_kept m v) d entry.directory entry.name entry.slot entry.new_page) numbers puts in
      let taken = ap (λ (v : VolumeView). v.inodes) now.rest ∙ ap (λ (v : VolumeView). v.inodes) now.page.rest in (
        before_inode d,
        record {
          opened = before_inode now.opened;
          page = record { index = now.page.index; rest = ap before_inode now.page.rest };
          index = now.index;
          rest = ap before_inode now.rest;
        },
        (λ i. record d { inodes = taken i; kept = a.kept }),
      )

-- ---- a name that goes

-- the name behind the commit, the numbers behind the last step
pub has_removed : (a b c d : VolumeView) (k m : ℕ) (removal : Removal) → LeavesName (with_kept k a) b removal.directory removal.name → LeavesPageOf (with_kept m b) c removal.directory removal.given_back → LeavesInodeIf removal.loss.goes c d removal.loss.inode
    → HasDone a (with_kept a.kept d) (Remove removal)
has_removed a b c d k m removal name page inode = record {
  unnamed = with_kept a.kept b;
  given = with_kept a.kept c;
  name = removal_keeping a.kept (with_kept k a) b removal.directory removal.name name;
  page = page_keeping a.kept (with_kept m b) c removal.directory removal.given_back page;
  inode = node_keeping a.kept c d removal.loss.goes removal.loss.inode inode;
}

-- ---- a name that moves

-- to a place of its own: the page behind the first step, both names behind the commit, the page that is left behind the last
pub has_moved_on : (a b c d e : VolumeView) (k m n : ℕ) (moving : Moving) → moving.replaced ≡ None → TakesPages (with_kept k a) b (pages_of_option moving.new_page) → LeavesName (with_kept m b) c moving.from_directory moving.from_name
    → PutsName c d moving.to_directory moving.to_name moving.to_slot moving.new_page → LeavesPageOf (with_kept n d) e moving.from_directory moving.given_back → HasDone a (with_kept a.kept e) (Move moving)
has_moved_on a b c d e k m n moving none takes out puts page =
    let now = subst (λ (v : VolumeView). LeavesName (with_kept m v) c moving.from_directory moving.from_name) takes out in
    let unnamed : VolumeView = record a { index = c.index } in
    let taken : VolumeView = record unnamed { data_pages = with_taken a.data_pages (pages_of_option moving.new_page) } in
    record {
      unnamed = unnamed;
      named = with_kept a.kept d;
      source = record { index = now.index; rest = refl };
      target = subst (TakesName unnamed (with_kept a.kept d) moving) (sym none)
          (name_entered unnamed taken d a.kept m moving.to_directory moving.to_name moving.to_slot moving.new_page refl
          (subst (λ (v : VolumeView). PutsName v d moving.to_directory moving.to_name moving.to_slot moving.new_page) now.rest puts));
      page = page_keeping a.kept (with_kept n d) e moving.from_directory moving.given_back page;
    }

-- or in place of another node's: its name behind the commit, the inode of that node and the page behind the last
pub has_moved_over : (a b c d : VolumeView) (k m : ℕ) (moving : Moving) (loss : Loss) → moving.replaced ≡ Some loss → LeavesName (with_kept k a) b moving.from_directory moving.from_name → LeavesInodeIf loss.goes (with_kept m b) c loss.inode
    → LeavesPageOf c d moving.from_directory moving.given_back → HasDone a (with_kept a.kept d) (Move moving)
has_moved_over a b c d k m moving loss some out inode page = record {
  unnamed = with_kept a.kept b;
  named = with_kept a.kept c;
  source = removal_keeping a.kept (with_kept k a) b moving.from_directory moving.from_name out;
  target = subst (TakesName (with_kept a.kept b) (with_kept a.kept c) moving) (sym some) (node_keeping a.kept (with_kept m b) c loss.goes loss.inode inode);
  page = page_keeping a.kept c d moving.from_directory moving.given_back page;
}
