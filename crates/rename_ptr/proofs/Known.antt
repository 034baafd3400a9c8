-- What a move knows of the volume before a step it knows, in part, behind it: a step takes in only what it made.
use Rattle.std.proofs.Common.{◌≡◌, inl, inr, ℕ, ◌-◌, Bool, true, false, cond, List, [], length, Contains, Option, None, Some, refl, sym, ap, subst, ◌∙◌, arith}
use Rattle.std.proofs.lemmas.Bool.{cases_eq}
use Rattle.volatile_index.specs.Index.{NodeView, inodes_of_index, pages_of}
use Rattle.volume.specs.Volume.{VolumeView}
use Rattle.volume.specs.Entered.{pages_of_option, IsTaken, LeavesName, LeavesInodeIf, MayGiveBack}
use Rattle.volume.specs.declared.plan.Loss.{Loss}
use Rattle.volume.specs.declared.plan.Moving.{Moving}
use Rattle.volume.proofs.MayStill.{may_put_alike, may_remove_alike, name_place_alike, may_give_alike, may_go_alike, may_give_left, may_go_left, may_give_named, may_give_gone}
use Rattle.volume.proofs.Moments.{with_kept, IsSameBeside, takes_beside, name_beside, removal_beside, page_beside, node_beside}
use Rattle.removal_steps.specs.Steps.{gone_pages}
use Rattle.rename_ptr.specs.Stages.{HasNumbers, HasNames, HasNamesAt, KnowsMove, HasPlaceFor, HasLosses, MayLose, MovesName, PutsTarget, LosesReplaced, EntersMoving}
use Rattle.rename_ptr.specs.declared.rename.Progress.{Progress}
use Rattle.rename_ptr.specs.declared.rename.Progress.TheVariants.{Begun, Filled, Opened, Pointed, Moved, Left, Cleared, Disowned}

-- ---- where the index is the same, and what is taken

module _ (old new : VolumeView) (same : new.index ≡ old.index) where
  pub gone_alike : (replaced : Option Loss) → gone_pages new replaced ≡ gone_pages old replaced
  gone_alike None = refl
  gone_alike (Some loss) = ap (λ (index : List NodeView). cond loss.goes (pages_of index loss.inode) []) same

  place_alike : (moving : Moving) (replaced : Option Loss) → HasPlaceFor old moving replaced → HasPlaceFor new moving replaced
  place_alike moving None has = (may_put_alike old new same moving.to_directory moving.to_name has.0, name_place_alike old new same moving.to_directory moving.new_page has.1)
  place_alike moving (Some loss) has = tt

  pub names_alike : (moving : Moving) → HasNames old moving → HasNames new moving
  names_alike moving has = record {
    source = may_remove_alike old new same moving.from_directory moving.from_name has.source;
    target = place_alike moving moving.replaced has.target;
  }

  module _ (pages : (page : ℕ) → IsTaken old.data_pages page → IsTaken new.data_pages page) (inodes : (k : ℕ) → IsTaken old.inodes k → IsTaken new.inodes k) where
    lose_alike : (moving : Moving) (replaced : Option Loss) → MayLose old moving replaced → MayLose new moving replaced
    lose_alike moving None may = tt
    lose_alike moving (Some loss) (least, most, goes) = (
      least,
      (let each = ap inodes_of_index same in omega (arith, most, each)),
      (λ is. let (may, apart) = goes is in (may_go_alike old new same pages loss.inode (inodes (loss.inode - 1)) may, apart)),
    )

    pub losses_alike : (moving : Moving) → HasLosses old moving → HasLosses new moving
    losses_alike moving has = record {
      directory = (has.directory.0, (let most = has.directory.1 in let each = ap inodes_of_index same in omega (arith, most, each)));
      count = ap length (gone_alike moving.replaced) ∙ has.count;
      few = has.few;
      page = may_give_alike old new same pages moving.from_directory moving.given_back has.page;
      inode = lose_alike moving moving.replaced has.inode;
      apart = λ page is among. has.apart page is (subst (λ (l : List ℕ). Contains l page) (gone_alike moving.replaced) among);
    }

-- whatever events are kept
module _ (volume : VolumeView) (k : ℕ) (moving : Moving) where
  numbers_kept : (progress : Progress) → HasNumbers volume moving progress → HasNumbers (with_kept k volume) moving progress
  numbers_kept Begun may = record { once = may.once; free = may.free }
  numbers_kept Filled taken = taken
  numbers_kept Opened taken = taken
  numbers_kept Pointed taken = taken
  numbers_kept Moved none = none
  numbers_kept Left none = none
  numbers_kept Cleared none = none
  numbers_kept Disowned none = none

  named_kept : HasNames volume moving → HasNames (with_kept k volume) moving
  named_kept has = names_alike volume (with_kept k volume) refl moving has

  names_kept : (progress : Progress) → HasNamesAt volume moving progress → HasNamesAt (with_kept k volume) moving progress
  names_kept Begun has = named_kept has
  names_kept Filled has = named_kept has
  names_kept Opened has = named_kept has
  names_kept Pointed has = named_kept has
  names_kept Moved none = none
  names_kept Left none = none
  names_kept Cleared none = none
  names_kept Disowned none = none

  pub knows_kept : (progress : Progress) → KnowsMove volume moving progress → KnowsMove (with_kept k volume) moving progress
  knows_kept progress knows = record {
    numbers = numbers_kept progress knows.numbers;
    names = names_kept progress knows.names;
    losses = losses_alike volume (with_kept k volume) refl (λ page taken. taken) (λ i taken. taken) moving knows.losses;
  }

-- ---- once the name has moved

module _ (old new : VolumeView) (moving : Moving) where
  -- the old name is out
  module _ (leaves : LeavesName old new moving.from_directory moving.from_name) where
    pages_left : (d : ℕ) → pages_of new.index d ≡ pages_of old.index d
    pages_left d = elim (cases_eq d moving.from_directory) [
      | inl same ↦ ap (pages_of new.index) same ∙ leaves.index.node.pages ∙ ap (pages_of old.index) (sym same)
      | inr other ↦ ap (λ (node : NodeView). node.pages) (leaves.index.elsewhere.others d other)
    ]

    gone_left : (replaced : Option Loss) → gone_pages new replaced ≡ gone_pages old replaced
    gone_left None = refl
    gone_left (Some loss) = ap (λ (l : List ℕ). cond loss.goes l []) (pages_left loss.inode)

    lose_left : (replaced : Option Loss) → MayLose old moving replaced → MayLose new moving replaced
    lose_left None may = tt
    lose_left (Some loss) (least, most, goes) = (
      least,
      (let each = leaves.index.elsewhere.inodes in omega (arith, most, each)),
      (λ is. let (may, apart) = goes is in (may_go_left old new moving.from_directory moving.from_name leaves loss.inode may, apart)),
    )

    losses_left : HasLosses old moving → HasLosses new moving
    losses_left has = record {
      directory = (has.directory.0, (let most = has.directory.1 in let each = leaves.index.elsewhere.inodes in omega (arith, most, each)));
      count = ap length (gone_left moving.replaced) ∙ has.count;
      few = has.few;
      page = may_give_left old new moving.from_directory moving.from_name leaves moving.from_directory moving.given_back has.page;
      inode = lose_left moving.replaced has.inode;
      apart = λ page is among. has.apart page is (subst (λ (l : List ℕ). Contains l page) (gone_left moving.replaced) among);
    }

  -- and the new one is in
  gone_put : (replaced : Option Loss) → PutsTarget old new moving replaced → gone_pages new replaced ≡ gone_pages old replaced
  gone_put None puts = refl
  gone_put (Some loss) same = ap (λ (v : VolumeView). gone_pages v (Some loss)) same

  each_put : (replaced : Option Loss) → PutsTarget old new moving replaced → inodes_of_index new.index ≡ inodes_of_index old.index
  each_put None puts = puts.index.elsewhere.inodes ∙ puts.page.index.elsewhere.inodes
  each_put (Some loss) same = ap (λ (v : VolumeView). inodes_of_index v.index) same

  lose_put : (replaced : Option Loss) → PutsTarget old new moving replaced → MayLose old moving replaced → MayLose new moving replaced
  lose_put None puts may = tt
  lose_put (Some loss) same may = subst (λ (v : VolumeView). MayLose v moving (Some loss)) (sym same) may

  give_put : (replaced : Option Loss) → PutsTarget old new moving replaced → HasLosses old moving → MayGiveBack new moving.from_directory moving.given_back
  give_put None puts has = may_give_named old new moving.to_directory moving.to_name moving.to_slot moving.new_page puts moving.from_directory moving.given_back has.page
  give_put (Some loss) same has = subst (λ (v : VolumeView). MayGiveBack v moving.from_directory moving.given_back) (sym same) has.page

  losses_put : PutsTarget old new moving moving.replaced → HasLosses old moving → HasLosses new moving
  losses_put puts has = record {
    directory = (has.directory.0, (let most = has.directory.1 in let each = each_put moving.replaced puts in omega (arith, most, each)));
    count = ap length (gone_put moving.replaced puts) ∙ has.count;
    few = has.few;
    page = give_put moving.replaced puts has;
    inode = lose_put moving.replaced puts has.inode;
    apart = λ page is among. has.apart page is (subst (λ (l : List ℕ). Contains l page) (gone_put moving.replaced puts) among);
  }

module _ (old new : VolumeView) (moving : Moving) (moves : MovesName old new moving) where
  pub gone_moved : gone_pages new moving.replaced ≡ gone_pages old moving.replaced
  gone_moved = gone_put moves.unnamed new moving moving.replaced moves.target ∙ gone_left old moves.unnamed moving moves.source moving.replaced

  pub losses_moved : HasLosses old moving → HasLosses new moving
  losses_moved has = losses_put moves.unnamed new moving moves.target (losses_left old moves.unnamed moving moves.source has)

-- ---- once a replaced node is given back

module _ (old lost : VolumeView) (moving : Moving) (has : HasLosses old moving) where
  gives_by : (loss : Loss) (goes : Bool) → loss.goes ≡ goes → LeavesInodeIf goes old lost loss.inode → MayLose old moving (Some loss) → ((page : ℕ) → moving.given_back ≡ Some page → Contains (gone_pages old (Some loss)) page → ⊥)
      → MayGiveBack lost moving.from_directory moving.given_back
  gives_by loss false is same may apart = subst (λ (v : VolumeView). MayGiveBack v moving.from_directory moving.given_back) (sym same) has.page
  gives_by loss true is leaves (least, most, goes) apart =
      may_give_gone old lost moving.from_directory loss.inode (goes is).1 true leaves moving.given_back
      (λ page given among. apart page given (subst (λ (t : Bool). Contains (cond t (pages_of old.index loss.inode) []) page) (sym is) among)) has.page

  gives_back_by : (replaced : Option Loss) → LosesReplaced old lost replaced → MayLose old moving replaced → ((page : ℕ) → moving.given_back ≡ Some page → Contains (gone_pages old replaced) page → ⊥)
      → MayGiveBack lost moving.from_directory moving.given_back
  gives_back_by None same may apart = subst (λ (v : VolumeView). MayGiveBack v moving.from_directory moving.given_back) (sym same) has.page
  gives_back_by (Some loss) leaves may apart = gives_by loss loss.goes refl leaves may apart

  pub may_give_lost : LosesReplaced old lost moving.replaced → MayGiveBack lost moving.from_directory moving.given_back
  may_give_lost loses = gives_back_by moving.replaced loses has.inode has.apart

-- ---- what stays beside it

beside_then : (a b c : VolumeView) → IsSameBeside a b → IsSameBeside b c → IsSameBeside a c
beside_then a b c one two = record { size = two.size ∙ one.size; stopped = two.stopped ∙ one.stopped; marked = two.marked ∙ one.marked; kept = two.kept ∙ one.kept }

beside_itself : (a b : VolumeView) → b ≡ a → IsSameBeside a b
beside_itself a b same = record { size = ap (λ (v : VolumeView). v.size) same; stopped = ap (λ (v : VolumeView). v.stopped) same; marked = ap (λ (v : VolumeView). v.marked) same; kept = ap (λ (v : VolumeView). v.kept) same }

module _ (a b : VolumeView) (moving : Moving) where
  put_beside : (replaced : Option Loss) → PutsTarget a b moving replaced → IsSameBeside a b
  put_beside None puts = name_beside a b moving.to_directory moving.to_name moving.to_slot moving.new_page puts
  put_beside (Some loss) same = beside_itself a b same

  lost_beside : (replaced : Option Loss) → LosesReplaced a b replaced → IsSameBeside a b
  lost_beside None same = beside_itself a b same
  lost_beside (Some loss) leaves = node_beside a b loss.goes loss.inode leaves

pub enters_beside : (a b : VolumeView) (moving : Moving) (progress : Progress) → EntersMoving moving progress a b → IsSameBeside a b
enters_beside a b moving Begun takes = takes_beside a b (pages_of_option moving.new_page) takes
enters_beside a b moving Filled same = beside_itself a b same
enters_beside a b moving Opened same = beside_itself a b same
enters_beside a b moving Pointed moves = beside_then a moves.unnamed b (removal_beside a moves.unnamed moving.from_directory moving.from_name moves.source) (put_beside moves.unnamed b moving moving.replaced moves.target)
enters_beside a b moving Moved same = beside_itself a b same
enters_beside a b moving Left same = beside_itself a b same
enters_beside a b moving Cleared same = beside_itself a b same
enters_beside a b moving Disowned gives = beside_then a gives.lost b (lost_beside a gives.lost moving moving.replaced gives.inode) (page_beside gives.lost b moving.from_directory moving.given_back gives.page)
