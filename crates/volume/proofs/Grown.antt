-- Pages that a file gets and loses.
use Rattle.std.proofs.Common.{◌≡◌, ℕ, zero, suc, ◌+◌, ◌<◌, ◌≤◌, false, Bool, List, [], ◌∷◌, ◌++◌, length, take, drop, get_or, Contains, inl, inr, refl, sym, ap, subst, ◌∙◌, arith}
use Rattle.std.specs.Prelude.{slice_set}
use Rattle.std.proofs.lemmas.List.{append_assoc, append-nil, length-append, length-take-le, take_more, take-append-drop}
use Rattle.std.proofs.lemmas.List.Elements.{Contains-append_right}
use Rattle.image_reading.specs.Counts.{IsIn, IsDistinct}
use Rattle.allocators.specs.Numbers.{IsFree}
use Rattle.allocators.proofs.NumbersLaws.{free_still}
use Rattle.volatile_index.specs.Index.{NodeView, pages_of, page_places_of, IsWithPages, ChangesNode}
use Rattle.volume.specs.Volume.{VolumeView}
use Rattle.volume.specs.Entered.{HasPagePlaces, EntersPages, PutsPages, LeavesLastPages, HasResized, with_taken}
use Rattle.volume.specs.declared.plan.Resizing.{Resizing}
use Rattle.volume.proofs.Given.{not_before}

-- ---- numbers that are taken

with_taken-push : (free : List Bool) (numbers : List ℕ) (k : ℕ) → with_taken free (numbers ++ k ∷ []) ≡ slice_set (with_taken free numbers) k false
with_taken-push free [] k = refl
with_taken-push free (number ∷ numbers) k = with_taken-push (slice_set free number false) numbers k

-- what was free before and wasn't taken is free still
pub free_still_taken : (free : List Bool) (numbers : List ℕ) (k : ℕ) → ¬ IsIn k numbers → IsFree free k → IsFree (with_taken free numbers) k
free_still_taken free [] k other is = is
free_still_taken free (number ∷ numbers) k other is =
    free_still_taken (slice_set free number false) numbers k (λ among. other (inr among)) (free_still free number k false (λ same. other (inl same)) is)

module _ (free : List Bool) (numbers : List ℕ) (place : ℕ) (within : place < length numbers) where
  pub still_free : IsDistinct numbers → IsFree free (get_or numbers place 0) → IsFree (with_taken free (take place numbers)) (get_or numbers place 0)
  still_free distinct is = free_still_taken free (take place numbers) (get_or numbers place 0) (not_before numbers place within distinct) is

  pub one_taken : (taken : List Bool) → taken ≡ slice_set (with_taken free (take place numbers)) (get_or numbers place 0) false → taken ≡ with_taken free (take (place + 1) numbers)
  one_taken taken is = is ∙ sym (with_taken-push free (take place numbers) (get_or numbers place 0)) ∙ ap (with_taken free) (sym (take_more numbers place 0 within))

-- ---- pages that are added

abbrev pub IsWithMore : ℕ → List ℕ → List NodeView → List NodeView → Type 0
IsWithMore inode pages old new = ChangesNode inode old new (λ old new. IsWithPages (old.pages ++ pages) old new)

pub none_added : (inode : ℕ) (index : List NodeView) → IsWithMore inode [] index index
none_added inode index = record {
  node = record { pages = sym (append-nil (pages_of index inode)); page_places = refl; entries = refl; place = refl };
  elsewhere = record { inodes = refl; others = λ other apart. refl };
}

pub one_added : (inode : ℕ) (pages : List ℕ) (page : ℕ) (old mid new : List NodeView) → IsWithMore inode pages old mid → IsWithMore inode (page ∷ []) mid new → IsWithMore inode (pages ++ page ∷ []) old new
one_added inode pages page old mid new before after = record {
  node = record {
    pages = after.node.pages ∙ ap (λ l. l ++ page ∷ []) before.node.pages ∙ append_assoc (pages_of old inode) pages (page ∷ []);
    page_places = after.node.page_places ∙ before.node.page_places;
    entries = after.node.entries ∙ before.node.entries;
    place = after.node.place ∙ before.node.place;
  };
  elsewhere = record {
    inodes = after.elsewhere.inodes ∙ before.elsewhere.inodes;
    others = λ other apart. after.elsewhere.others other apart ∙ before.elsewhere.others other apart;
  };
}

pub next_added : (inode : ℕ) (pages : List ℕ) (place : ℕ) (old mid new : List NodeView) → place < length pages → IsWithMore inode (take place pages) old mid → IsWithMore inode (get_or pages place 0 ∷ []) mid new → IsWithMore inode (take (place + 1) pages) old new
next_added inode pages place old mid new within before after =
    subst (λ l. IsWithMore inode l old new) (sym (take_more pages place 0 within)) (one_added inode (take place pages) (get_or pages place 0) old mid new before after)

-- there is a place for the next
pub place_left : (inode : ℕ) (pages : List ℕ) (place : ℕ) (old mid : List NodeView) → place < length pages → IsWithMore inode (take place pages) old mid → length (pages_of old inode) + length pages ≤ page_places_of old inode → length (pages_of mid inode) < page_places_of mid inode
place_left inode pages place old mid within before room =
    let long = ap length before.node.pages ∙ length-append (pages_of old inode) (take place pages) in
    let few = length-take-le place pages (omega (arith, within)) in
    let places = before.node.page_places in
    omega (arith, long, few, places, room, within)

-- reserved places are there where any are needed
pub places_there : (volume : VolumeView) (inode : ℕ) (pages : List ℕ) → HasPagePlaces volume inode pages → 0 < length pages → length (pages_of volume.index inode) + length pages ≤ page_places_of volume.index inode
places_there volume inode [] places some = absurd (omega (arith, some))
places_there volume inode (page ∷ pages) places some = places

pub places_reserved : (volume : VolumeView) (inode : ℕ) (pages : List ℕ) → (0 < length pages → length (pages_of volume.index inode) + length pages ≤ page_places_of volume.index inode) → HasPagePlaces volume inode pages
places_reserved volume inode [] there = tt
places_reserved volume inode (page ∷ pages) there = there (omega arith)

-- ---- pages at the end

pub distinct_drop : (k : ℕ) (xs : List ℕ) → IsDistinct xs → IsDistinct (drop k xs)
distinct_drop zero xs distinct = distinct
distinct_drop (suc k) [] distinct = tt
distinct_drop (suc k) (x ∷ xs) distinct = distinct_drop k xs distinct.1

pub in_dropped : (k : ℕ) (xs : List ℕ) (x : ℕ) → Contains (drop k xs) x → Contains xs x
in_dropped k xs x there = subst (λ l. Contains l x) (take-append-drop k xs) (Contains-append_right (take k xs) (drop k xs) x there)

-- ---- a file that grows loses none, and one that is cut gets none

pub none_entered : (volume : VolumeView) (inode : ℕ) → EntersPages volume volume inode []
none_entered volume inode = record { index = none_added inode volume.index; rest = refl }

pub none_put : (volume : VolumeView) (inode : ℕ) → PutsPages volume volume inode []
none_put volume inode = record { index = none_added inode volume.index; rest = refl }

pub none_lost : (volume : VolumeView) (inode : ℕ) → LeavesLastPages volume volume inode 0
none_lost volume inode = record {
  kept = pages_of volume.index inode;
  gone = [];
  split = sym (append-nil (pages_of volume.index inode));
  count_is = refl;
  index = record {
    node = record { pages = refl; page_places = refl; entries = refl; place = refl };
    elsewhere = record { inodes = refl; others = λ other apart. refl };
  };
  rest = refl;
}

pub has_grown : (old new : VolumeView) (resizing : Resizing) → EntersPages old new resizing.inode resizing.new_pages → resizing.cut ≡ 0 → HasResized old new resizing
has_grown old new resizing enters none = record { grown = new; pages = enters; cut = subst (LeavesLastPages new new resizing.inode) (sym none) (none_lost new resizing.inode) }

pub has_cut : (old new : VolumeView) (resizing : Resizing) → LeavesLastPages old new resizing.inode resizing.cut → resizing.new_pages ≡ [] → HasResized old new resizing
has_cut old new resizing leaves none = record { grown = old; pages = subst (EntersPages old old resizing.inode) (sym none) (none_entered old resizing.inode); cut = leaves }
