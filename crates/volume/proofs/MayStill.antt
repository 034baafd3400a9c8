-- What a volume may take in and give back it may still, once a call has made another of its moments.
use Rattle.std.proofs.Common.{◌≡◌, ◌≢◌, inl, inr, ℕ, ◌+◌, ◌-◌, ◌<◌, ◌≤◌, Bool, true, false, List, [], ◌∷◌, length, Contains, Option, None, Some, IsTrue, refl, sym, ap, subst, ◌∙◌, arith}
use Rattle.std.specs.Prelude.{slice_set}
use Rattle.std.proofs.lemmas.Bool.{cases_eq}
use Rattle.std.proofs.lemmas.List.{length-set}
use Rattle.std.proofs.lemmas.List.Elements.{Contains-append_left}
use Rattle.image_reading.specs.Counts.{IsIn, IsDistinct}
use Rattle.allocators.specs.Numbers.{IsFree}
use Rattle.allocators.proofs.NumbersLaws.{free_before, taken_after_take}
use Rattle.volatile_index.specs.declared.entry.Entry.{Entry}
use Rattle.volatile_index.specs.Entries.{IsAbsent, IsPresent}
use Rattle.volatile_index.specs.Index.{NodeView, node_of, inodes_of_index, entries_of, pages_of, page_places_of, RemovesEntry, ChangesNode}
use Rattle.volatile_index.proofs.EntryLaws.{contains_still}
use Rattle.volume.specs.Volume.{VolumeView}
use Rattle.volume.specs.Entered.{pages_of_option, with_taken, with_given, HasPagePlaces, HasNamePlace, IsTaken, MayPutName, MayRemoveName, MayGiveBack, MayGo, MayLosePages, TakesPages, PutsName, LeavesName, LeavesPageOf, LeavesInodeIf}
use Rattle.volume.proofs.Given.{length-with_given, free_before_given}
use Rattle.volume.proofs.PageLists.{in_contained}

-- ---- numbers that are taken

-- one is taken still where another is given back
pub taken_beside : (free : List Bool) (page other : ℕ) → other ≢ page → IsTaken free other → IsTaken (slice_set free page true) other
taken_beside free page other apart taken = (
  (let same = length-set free page true in let below = taken.0 in omega (arith, same, below)),
  (λ is. taken.1 (free_before free page other true apart is)),
)

-- where more is taken
pub taken_still : (free : List Bool) (numbers : List ℕ) (k : ℕ) → IsTaken free k → IsTaken (with_taken free numbers) k
taken_still free [] k taken = taken
taken_still free (number ∷ numbers) k taken = taken_still (slice_set free number false) numbers k (
  (let same = length-set free number false in let below = taken.0 in omega (arith, same, below)),
  (λ is. elim (cases_eq k number) [
    | inl same ↦ taken_after_take free number (subst (λ j. j < length free) same taken.0) (subst (IsFree (slice_set free number false)) same is)
    | inr other ↦ taken.1 (free_before free number k false other is)
  ]),
)

-- and where others are given back
pub taken_among : (free : List Bool) (numbers : List ℕ) (k : ℕ) → ¬ IsIn k numbers → IsTaken free k → IsTaken (with_given free numbers) k
taken_among free numbers k other taken = (
  (let same = length-with_given free numbers in let below = taken.0 in omega (arith, same, below)),
  (λ is. taken.1 (free_before_given free numbers k other is)),
)

-- ---- a node without a name has no more entries, and a place that was there

pub record IsLess (old new : NodeView) : Type 0 where
  pub entries : (entry : Entry) → Contains new.entries entry → Contains old.entries entry
  pub place : IsTrue old.has_place → IsTrue new.has_place
  pub pages : new.pages ≡ old.pages
  pub page_places : new.page_places ≡ old.page_places

less_itself : (node : NodeView) → IsLess node node
less_itself node = record { entries = λ entry there. there; place = λ there. there; pages = refl; page_places = refl }

less_removed : (name : List ℕ) (old new : NodeView) → RemovesEntry name old new → IsLess old new
less_removed name old new removes =
    let (slot, with) = removes.entries in
    record {
      entries = λ entry there. contains_still new.entries old.entries (record { name = name; slot = slot }) entry with there;
      place = removes.place;
      pages = removes.pages;
      page_places = removes.page_places;
    }

less_in : (directory : ℕ) (name : List ℕ) (before after : List NodeView) → ChangesNode directory before after (RemovesEntry name) → (d : ℕ) → IsLess (node_of before d) (node_of after d)
less_in directory name before after change d = elim (cases_eq d directory) [
  | inl same ↦ subst (λ d. IsLess (node_of before d) (node_of after d)) (sym same) (less_removed name _ _ change.node)
  | inr other ↦ subst (λ (node : NodeView). IsLess (node_of before d) node) (sym (change.elsewhere.others d other)) (less_itself (node_of before d))
]

module _ (old new : VolumeView) where
  -- ---- where the index is the same, and what is taken

  module _ (same : new.index ≡ old.index) where
    inodes_same : inodes_of_index new.index ≡ inodes_of_index old.index
    inodes_same = ap inodes_of_index same

    pub may_put_alike : (directory : ℕ) (name : List ℕ) → MayPutName old directory name → MayPutName new directory name
    may_put_alike directory name may = record {
      least = may.least;
      most = omega (arith, may.most, inodes_same);
      absent = subst (λ (index : List NodeView). IsAbsent (entries_of index directory) name) (sym same) may.absent;
    }

    pub may_remove_alike : (directory : ℕ) (name : List ℕ) → MayRemoveName old directory name → MayRemoveName new directory name
    may_remove_alike directory name may = record {
      least = may.least;
      most = omega (arith, may.most, inodes_same);
      present = subst (λ (index : List NodeView). IsPresent (entries_of index directory) name) (sym same) may.present;
    }

    pub page_places_alike : (inode : ℕ) (pages : List ℕ) → HasPagePlaces old inode pages → HasPagePlaces new inode pages
    page_places_alike inode [] has = tt
    page_places_alike inode (page ∷ pages) has = subst (λ (index : List NodeView). length (pages_of index inode) + length (page ∷ pages) ≤ page_places_of index inode) (sym same) has

    pub name_place_alike : (directory : ℕ) (new_page : Option ℕ) → HasNamePlace old directory new_page → HasNamePlace new directory new_page
    name_place_alike directory new_page has = record {
      entry = subst (λ (index : List NodeView). IsTrue ((node_of index directory).has_place)) (sym same) has.entry;
      page = page_places_alike directory (pages_of_option new_page) has.page;
    }

    module _ (taken : (page : ℕ) → IsTaken old.data_pages page → IsTaken new.data_pages page) where
      pub may_give_alike : (directory : ℕ) (given : Option ℕ) → MayGiveBack old directory given → MayGiveBack new directory given
      may_give_alike directory None may = tt
      may_give_alike directory (Some page) may = (subst (λ (index : List NodeView). Contains (pages_of index directory) page) (sym same) may.0, taken page may.1)

      pub may_go_alike : (inode : ℕ) → (IsTaken old.inodes (inode - 1) → IsTaken new.inodes (inode - 1)) → MayGo old inode → MayGo new inode
      may_go_alike inode inodes may = record {
        least = may.least;
        most = omega (arith, may.most, inodes_same);
        inode_taken = inodes may.inode_taken;
        once = subst (λ (index : List NodeView). IsDistinct (pages_of index inode)) (sym same) may.once;
        pages_taken = λ page there. taken page (may.pages_taken page (subst (λ (index : List NodeView). Contains (pages_of index inode) page) same there));
      }

      pub may_lose_alike : (inode count : ℕ) → MayLosePages old inode count → MayLosePages new inode count
      may_lose_alike inode count may = record {
        least = may.least;
        most = omega (arith, may.most, inodes_same);
        enough = subst (λ (index : List NodeView). count ≤ length (pages_of index inode)) (sym same) may.enough;
        once = subst (λ (index : List NodeView). IsDistinct (pages_of index inode)) (sym same) may.once;
        pages_taken = λ page there. taken page (may.pages_taken page (subst (λ (index : List NodeView). Contains (pages_of index inode) page) same there));
      }

  -- ---- behind the first moment

  module _ (pages : List ℕ) (takes : TakesPages old new pages) where
    pub same_index : new.index ≡ old.index
    same_index = ap (λ (v : VolumeView). v.index) takes

    pub still_taken : (page : ℕ) → IsTaken old.data_pages page → IsTaken new.data_pages page
    still_taken page taken = subst (λ (v : VolumeView). IsTaken v.data_pages page) (sym takes) (taken_still old.data_pages pages page taken)

    pub may_give_taken : (directory : ℕ) (given : Option ℕ) → MayGiveBack old directory given → MayGiveBack new directory given
    may_give_taken = may_give_alike same_index still_taken

    pub may_go_taken : (inode : ℕ) → MayGo old inode → MayGo new inode
    may_go_taken inode = may_go_alike same_index still_taken inode (λ taken. subst (λ (v : VolumeView). IsTaken v.inodes (inode - 1)) (sym takes) taken)

  -- ---- once a name is out

  module _ (directory : ℕ) (name : List ℕ) (leaves : LeavesName old new directory name) where
    less : (d : ℕ) → IsLess (node_of old.index d) (node_of new.index d)
    less = less_in directory name old.index new.index leaves.index

    taken_as : (page : ℕ) → IsTaken old.data_pages page → IsTaken new.data_pages page
    taken_as page taken = subst (λ (v : VolumeView). IsTaken v.data_pages page) (sym leaves.rest) taken

    pub may_put_left : (d : ℕ) (other : List ℕ) → MayPutName old d other → MayPutName new d other
    may_put_left d other may = record {
      least = may.least;
      most = omega (arith, may.most, leaves.index.elsewhere.inodes);
      absent = λ entry there. may.absent entry ((less d).entries entry there);
    }

    page_places_left : (d : ℕ) (new_page : Option ℕ) → HasPagePlaces old d (pages_of_option new_page) → HasPagePlaces new d (pages_of_option new_page)
    page_places_left d None has = tt
    page_places_left d (Some page) has = let long = ap length (less d).pages in let places = (less d).page_places in omega (arith, has, long, places)

    pub name_place_left : (d : ℕ) (new_page : Option ℕ) → HasNamePlace old d new_page → HasNamePlace new d new_page
    name_place_left d new_page has = record { entry = (less d).place has.entry; page = page_places_left d new_page has.page }

    pub may_give_left : (d : ℕ) (given : Option ℕ) → MayGiveBack old d given → MayGiveBack new d given
    may_give_left d None may = tt
    may_give_left d (Some page) may = (subst (λ (pages : List ℕ). Contains pages page) (sym (less d).pages) may.0, taken_as page may.1)

    pub may_go_left : (inode : ℕ) → MayGo old inode → MayGo new inode
    may_go_left inode may = record {
      least = may.least;
      most = omega (arith, may.most, leaves.index.elsewhere.inodes);
      inode_taken = subst (λ (v : VolumeView). IsTaken v.inodes (inode - 1)) (sym leaves.rest) may.inode_taken;
      once = subst IsDistinct (sym (less inode).pages) may.once;
      pages_taken = λ page there. taken_as page (may.pages_taken page (subst (λ (pages : List ℕ). Contains pages page) (less inode).pages there));
    }

  -- ---- once a name is in

  pub may_give_named : (directory : ℕ) (name : List ℕ) (slot : ℕ) (new_page : Option ℕ) → PutsName old new directory name slot new_page → (d : ℕ) (given : Option ℕ) → MayGiveBack old d given → MayGiveBack new d given
  may_give_named directory name slot new_page puts d None may = tt
  may_give_named directory name slot new_page puts d (Some page) may = (
    (elim (cases_eq d directory) [
      | inl same ↦
          subst (λ i. Contains (pages_of new.index i) page) (sym same)
          (subst (λ (pages : List ℕ). Contains pages page) (sym (puts.index.node.pages ∙ puts.page.index.node.pages))
          (Contains-append_left (pages_of old.index directory) (pages_of_option new_page) page (subst (λ i. Contains (pages_of old.index i) page) same may.0)))
      | inr other ↦
          subst (λ (node : NodeView). Contains node.pages page) (sym (puts.index.elsewhere.others d other ∙ puts.page.index.elsewhere.others d other)) may.0
    ]),
    subst (λ (v : VolumeView). IsTaken v.data_pages page) (sym puts.rest) (subst (λ (v : VolumeView). IsTaken v.data_pages page) (sym puts.page.rest) may.1),
  )

  -- ---- behind the last moment, of a directory and a node that isn't it and has no page of it

  module _ (directory inode : ℕ) (apart : directory ≢ inode) where
    -- the node once the page is given back
    pub may_go_given : (given : Option ℕ) → LeavesPageOf old new directory given → ((page : ℕ) → given ≡ Some page → ¬ Contains (pages_of old.index inode) page) → MayGo old inode → MayGo new inode
    may_go_given None same others may = subst (λ (v : VolumeView). MayGo v inode) (sym same) may
    may_go_given (Some page) leaves others may =
        let pages = ap (λ (node : NodeView). node.pages) (leaves.index.elsewhere.others inode (λ one. apart (sym one))) in
        record {
          least = may.least;
          most = omega (arith, may.most, leaves.index.elsewhere.inodes);
          inode_taken = subst (λ (v : VolumeView). IsTaken v.inodes (inode - 1)) (sym leaves.rest) may.inode_taken;
          once = subst IsDistinct (sym pages) may.once;
          pages_taken = λ other there.
              let was = subst (λ (l : List ℕ). Contains l other) pages there in
              subst (λ (v : VolumeView). IsTaken v.data_pages other) (sym leaves.rest)
              (taken_beside old.data_pages page other (λ one. others page refl (subst (Contains (pages_of old.index inode)) one was)) (may.pages_taken other was));
        }

    -- the page once the node is given back
    pub may_give_gone : (goes : Bool) → LeavesInodeIf goes old new inode → (given : Option ℕ) → ((page : ℕ) → given ≡ Some page → ¬ Contains (pages_of old.index inode) page) → MayGiveBack old directory given → MayGiveBack new directory given
    may_give_gone false same given others may = subst (λ (v : VolumeView). MayGiveBack v directory given) (sym same) may
    may_give_gone true leaves None others may = tt
    may_give_gone true leaves (Some page) others may = (
      subst (λ (node : NodeView). Contains node.pages page) (sym (leaves.index.elsewhere.others directory apart)) may.0,
      subst (λ (v : VolumeView). IsTaken v.data_pages page) (sym leaves.rest)
          (taken_among old.data_pages (pages_of old.index inode) page (λ among. others page refl (in_contained page (pages_of old.index inode) among)) may.1),
    )
