-- What the volume has come to by each stage of a move, from the volume at its begin, whatever events it kept between.
use Rattle.std.proofs.Common.{◌≡◌, ℕ, Bool, false, Option, None, Some, refl, sym, ap, subst, ◌∙◌, arith}
use Rattle.volume.specs.Volume.{VolumeView}
use Rattle.volume.specs.Costs.{goes_of, count_of, pages_replaced}
use Rattle.volume.specs.Entered.{pages_of_option, TakesPages, LeavesName, LeavesPageOf, LeavesInodeIf, HasMoved}
use Rattle.volume.specs.declared.plan.Loss.{Loss}
use Rattle.volume.specs.declared.plan.Moving.{Moving}
use Rattle.volume.proofs.Moments.{with_kept, kept_already, none_taken, has_moved_on, has_moved_over}
use Rattle.rename_ptr.specs.Stages.{MovesName, PutsTarget, GivesBack, LosesReplaced}
use Rattle.rename_ptr.specs.declared.rename.Progress.{Progress}
use Rattle.rename_ptr.specs.declared.rename.Progress.TheVariants.{Begun, Filled, Opened, Pointed, Moved, Left, Cleared, Disowned}

-- its new page is taken
pub record HasPageTaken (old now : VolumeView) (moving : Moving) : Type 0 where
  pub kept : ℕ
  pub taken : VolumeView
  pub page : TakesPages (with_kept kept old) taken (pages_of_option moving.new_page)
  pub same : now ≡ with_kept now.kept taken

-- the name has moved
pub record HasNameMoved (old now : VolumeView) (moving : Moving) : Type 0 where
  pub before : VolumeView
  pub page : HasPageTaken old before moving
  pub kept : ℕ
  pub moved : VolumeView
  pub names : MovesName (with_kept kept before) moved moving
  pub same : now ≡ with_kept now.kept moved

-- and what goes is given back
pub record HasGivenBack (old now : VolumeView) (moving : Moving) : Type 0 where
  pub before : VolumeView
  pub names : HasNameMoved old before moving
  pub kept : ℕ
  pub gives : GivesBack (with_kept kept before) now moving

abbrev pub HasComeTo : VolumeView → VolumeView → Moving → Progress → Type 0
HasComeTo old now moving Begun = now ≡ with_kept now.kept old
HasComeTo old now moving Filled = HasPageTaken old now moving
HasComeTo old now moving Opened = HasPageTaken old now moving
HasComeTo old now moving Pointed = HasPageTaken old now moving
HasComeTo old now moving Moved = HasNameMoved old now moving
HasComeTo old now moving Left = HasNameMoved old now moving
HasComeTo old now moving Cleared = HasNameMoved old now moving
HasComeTo old now moving Disowned = HasNameMoved old now moving

-- ---- over a step that takes nothing in

kept_as : (now then : VolumeView) (k : ℕ) → now ≡ with_kept k then → now ≡ with_kept now.kept then
kept_as now then k is = is ∙ ap (λ (n : ℕ). with_kept n then) (sym (ap (λ (v : VolumeView). v.kept) is))

module _ (old now new : VolumeView) (moving : Moving) (k : ℕ) where
  pub page_first : now ≡ with_kept now.kept old → TakesPages (with_kept k now) new (pages_of_option moving.new_page) → HasPageTaken old new moving
  page_first come takes = record { kept = k; taken = new; page = subst (λ (v : VolumeView). TakesPages v new (pages_of_option moving.new_page)) (ap (with_kept k) come) takes; same = refl }

  pub page_still : HasPageTaken old now moving → new ≡ with_kept k now → HasPageTaken old new moving
  page_still come same = record { kept = come.kept; taken = come.taken; page = come.page; same = kept_as new come.taken k (same ∙ ap (with_kept k) come.same) }

  pub name_moved : HasPageTaken old now moving → MovesName (with_kept k now) new moving → HasNameMoved old new moving
  name_moved come moves = record { before = now; page = come; kept = k; moved = new; names = moves; same = refl }

  pub name_still : HasNameMoved old now moving → new ≡ with_kept k now → HasNameMoved old new moving
  name_still come same = record { before = come.before; page = come.page; kept = come.kept; moved = come.moved; names = come.names; same = kept_as new come.moved k (same ∙ ap (with_kept k) come.same) }

  pub given_back : HasNameMoved old now moving → GivesBack (with_kept k now) new moving → HasGivenBack old new moving
  given_back come gives = record { before = now; names = come; kept = k; gives = gives }

  -- where nothing goes
  loses_none : (replaced : Option Loss) → goes_of replaced ≡ false → new ≡ with_kept k now → LosesReplaced (with_kept k now) new replaced
  loses_none None stays same = same
  loses_none (Some loss) stays same = subst (λ (goes : Bool). LeavesInodeIf goes (with_kept k now) new loss.inode) (sym stays) same

  page_none : (given : Option ℕ) → count_of given ≡ 0 → LeavesPageOf new new moving.from_directory given
  page_none None none = refl
  page_none (Some page) none = absurd (omega (arith, none))

  pub nothing_back : pages_replaced moving ≡ 0 → goes_of moving.replaced ≡ false → HasNameMoved old now moving → new ≡ with_kept k now → HasGivenBack old new moving
  nothing_back none stays come same = given_back come (record { lost = new; inode = loses_none moving.replaced stays same; page = page_none moving.given_back (omega (arith, none)) })

-- ---- at the end

module _ (old now : VolumeView) (moving : Moving) (come : HasGivenBack old now moving) where
  abbrev names : HasNameMoved old come.before moving
  names = come.names

  abbrev page : HasPageTaken old names.before moving
  page = names.page

  source : LeavesName (with_kept names.kept page.taken) names.names.unnamed moving.from_directory moving.from_name
  source = subst (λ (v : VolumeView). LeavesName v names.names.unnamed moving.from_directory moving.from_name) (ap (with_kept names.kept) page.same) names.names.source

  page_back : (v : VolumeView) → come.gives.lost ≡ v → LeavesPageOf v now moving.from_directory moving.given_back
  page_back v is = subst (λ (lost : VolumeView). LeavesPageOf lost now moving.from_directory moving.given_back) is come.gives.page

  done_by : (replaced : Option Loss) → moving.replaced ≡ replaced → ((loss : Loss) → replaced ≡ Some loss → moving.new_page ≡ None) → PutsTarget names.names.unnamed names.moved moving replaced
      → LosesReplaced (with_kept come.kept names.moved) come.gives.lost replaced → HasMoved old (with_kept old.kept now) moving
  done_by None is no_page puts leaves =
      has_moved_on old page.taken names.names.unnamed names.moved now page.kept names.kept come.kept moving is page.page source puts (page_back (with_kept come.kept names.moved) leaves)
  done_by (Some loss) is no_page puts leaves =
      let none = none_taken (with_kept page.kept old) page.taken moving.new_page (no_page loss refl) page.page in
      has_moved_over old names.names.unnamed come.gives.lost now names.kept come.kept moving loss is
      (subst (λ (v : VolumeView). LeavesName v names.names.unnamed moving.from_directory moving.from_name) (ap (with_kept names.kept) none) source)
      (subst (λ (v : VolumeView). LeavesInodeIf loss.goes (with_kept come.kept v) come.gives.lost loss.inode) puts leaves)
      come.gives.page

  pub has_moved : ((loss : Loss) → moving.replaced ≡ Some loss → moving.new_page ≡ None) → now.kept ≡ old.kept → HasMoved old now moving
  has_moved no_page kept = subst (λ (v : VolumeView). HasMoved old v moving) (kept_already now old.kept kept)
      (done_by moving.replaced refl no_page names.names.target
      (subst (λ (v : VolumeView). LosesReplaced v come.gives.lost moving.replaced) (ap (with_kept come.kept) names.same) come.gives.inode))
