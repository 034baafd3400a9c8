-- What a volume knows once a move has given back what goes: a replaced inode with its pages, and the page of the old slot.
use Rattle.std.proofs.Common.{◌≡◌, ◌≢◌, ◌↔◌, inl, inr, ℕ, zero, suc, ◌-◌, ◌≤◌, Bool, true, false, cond, List, [], ◌∷◌, ◌++◌, length, Option, Some, None, refl, sym, ap, subst, ◌∙◌, arith, true≢false}
use Rattle.std.specs.Prelude.{slice_set}
use Rattle.std.proofs.lemmas.Bool.{cases_eq}
use Rattle.std.proofs.lemmas.List.{length-set, get_or-set_same, get_or-set_other, set_comm}
use Rattle.layout.specs.Geometry.{inodes_of}
use Rattle.layout.specs.Fields.{inode_kind}
use Rattle.image_reading.specs.Counts.{IsIn}
use Rattle.image_reading.specs.Reading.{HasBytes}
use Rattle.image_reading.specs.Residue.{Residue, no_residue}
use Rattle.image_reading.specs.Soundness.{IsCoherent}
use Rattle.image_counts.proofs.Distinct.{in_front, in_back, in_either}
use Rattle.volatile_index.specs.Index.{NodeView, empty_node, node_of, inodes_of_index, pages_of, IsWithPages, DropsPage}
use Rattle.volume.specs.Volume.{VolumeView}
use Rattle.volume.specs.Beside.{KnowsBeside}
use Rattle.volume.specs.Costs.{goes_of}
use Rattle.volume.specs.Entered.{pages_of_option, with_given, LeavesPage, LeavesPageOf, LeavesInode, LeavesInodeIf}
use Rattle.volume.specs.declared.plan.Loss.{Loss}
use Rattle.volume.specs.declared.plan.Moving.{Moving}
use Rattle.removal_steps.specs.Steps.{gone_pages, number_of}
use Rattle.knowing_laws.specs.Knowing.{KeepsPagesBut, FreesNumbers, AreListedAt, pages_with, inodes_with, pages_given}
use Rattle.knowing_laws.proofs.Givings.{given_known_law}
use Rattle.rename_ptr.specs.Stages.{GivesBack, LosesReplaced}
use Rattle.waiting_laws.proofs.MovingQuiet.{keeps_entries, unused_same}
use Rattle.waiting_laws.proofs.MovingEnded.{IsLastStep}

-- ---- a move gives back the inode before the page, and the law the page before the inode

set_both : (free : List Bool) (j k : ℕ) → slice_set (slice_set free j true) k true ≡ slice_set (slice_set free k true) j true
set_both free j k = elim (cases_eq j k) [
  | inl same ↦ ap (λ (i : ℕ). slice_set (slice_set free j true) i true) (sym same) ∙ ap (λ (i : ℕ). slice_set (slice_set free i true) j true) same
  | inr other ↦ set_comm free j k true true other
]

one_first : (free : List Bool) (pages : List ℕ) (page : ℕ) → slice_set (with_given free pages) page true ≡ with_given (slice_set free page true) pages
one_first free [] page = refl
one_first free (first ∷ pages) page = one_first (slice_set free first true) pages page ∙ ap (λ (l : List Bool). with_given l pages) (set_both free first page)

set_node : (index : List NodeView) (i : ℕ) (node : NodeView) → 1 ≤ i → i ≤ length index → node_of (slice_set index (i - 1) node) i ≡ node
unfolding node_of
set_node index zero node least most = absurd (omega (arith, least))
set_node index (suc k) node least most =
    let place : suc k - 1 ≡ k = omega arith in
    subst (λ (p : ℕ). node_of (slice_set index p node) (suc k) ≡ node) (sym place) (get_or-set_same index k node empty_node (omega (arith, most)))

other_node : (index : List NodeView) (i other : ℕ) (node : NodeView) → 1 ≤ i → other ≢ i → node_of (slice_set index (i - 1) node) other ≡ node_of index other
unfolding node_of
other_node index i zero node least away = refl
other_node index i (suc k) node least away = get_or-set_other index (i - 1) k node empty_node (λ e. away (omega (arith, e, least)))

-- The page leaves first, and then the node, where it goes.
record LeavesPageFirst (old new : VolumeView) (d i : ℕ) (page : Option ℕ) (goes : Bool) : Type 0 where
  given : VolumeView
  page_leaves : LeavesPageOf old given d page
  node_leaves : LeavesInodeIf goes given new i

module _ (old lost new : VolumeView) (d i : ℕ) (least : 1 ≤ i) (most : i ≤ inodes_of_index old.index) where
  module _ (page : ℕ) (apart : d ≢ i) (node : LeavesInode old lost i) (leaves : LeavesPage lost new d page) where
    abbrev given : VolumeView
    given = record old { index = slice_set new.index (i - 1) (node_of old.index i); data_pages = slice_set old.data_pages page true }

    each : inodes_of_index new.index ≡ inodes_of_index old.index
    each = leaves.index.elsewhere.inodes ∙ node.index.elsewhere.inodes

    here : node_of given.index i ≡ node_of old.index i
    here = set_node new.index i (node_of old.index i) least (omega (arith, most, each))

    there : (other : ℕ) → other ≢ i → node_of given.index other ≡ node_of new.index other
    there other away = other_node new.index i other (node_of old.index i) least away

    others : (other : ℕ) → other ≢ d → node_of given.index other ≡ node_of old.index other
    others other away = elim (cases_eq other i) [
      | inl same ↦ subst (λ (x : ℕ). node_of given.index x ≡ node_of old.index x) (sym same) here
      | inr apart ↦ there other apart ∙ leaves.index.elsewhere.others other away ∙ node.index.elsewhere.others other apart
    ]

    both_leave : LeavesPageFirst old new d i (Some page) true
    both_leave = record {
      given = given;
      page_leaves = record {
        index = record {
          node = subst (λ (a : NodeView). DropsPage page a (node_of given.index d)) (node.index.elsewhere.others d apart) (subst (DropsPage page (node_of lost.index d)) (sym (there d apart)) leaves.index.node);
          elsewhere = record { inodes = length-set new.index (i - 1) (node_of old.index i) ∙ each; others = others };
        };
        rest = refl;
      };
      node_leaves = record {
        index = record {
          node = subst (λ (a : NodeView). IsWithPages [] a (node_of new.index i)) (sym here)
              (subst (IsWithPages [] (node_of old.index i)) (sym (leaves.index.elsewhere.others i (λ same. apart (sym same)))) node.index.node);
          elsewhere = record { inodes = sym (length-set new.index (i - 1) (node_of old.index i)); others = λ other away. sym (there other away) };
        };
        rest =
            leaves.rest ∙ ap (λ (v : VolumeView). record v { index = new.index; data_pages = slice_set v.data_pages page true }) node.rest
            ∙ ap (λ (numbers : List Bool). record old { index = new.index; inodes = slice_set old.inodes (i - 1) true; data_pages = numbers })
            (one_first old.data_pages (pages_of old.index i) page ∙ ap (λ (n : NodeView). with_given (slice_set old.data_pages page true) n.pages) (sym here));
      };
    }

  page_first : (goes : Bool) (page : Option ℕ) → (goes ≡ true → d ≢ i) → LeavesInodeIf goes old lost i → LeavesPageOf lost new d page → LeavesPageFirst old new d i page goes
  page_first false page apart same leaves = record { given = new; page_leaves = subst (λ (v : VolumeView). LeavesPageOf v new d page) same leaves; node_leaves = refl }
  page_first true None apart node same = record { given = old; page_leaves = refl; node_leaves = subst (λ (v : VolumeView). LeavesInode old v i) (sym same) node }
  page_first true (Some page) apart node leaves = both_leave page (apart refl) node leaves

-- ---- the node that goes

-- where none goes, any inode of the table will do
abbrev pub goer : Option Loss → ℕ → ℕ
goer None d = d
goer (Some loss) d = loss.inode

pub goer_is : (replaced : Option Loss) (d : ℕ) → goes_of replaced ≡ true → goer replaced d ≡ number_of replaced
goer_is None d goes = absurd (true≢false (sym goes))
goer_is (Some loss) d goes = refl

loses_if : (old lost : VolumeView) (replaced : Option Loss) (d : ℕ) → LosesReplaced old lost replaced → LeavesInodeIf (goes_of replaced) old lost (goer replaced d)
loses_if old lost None d same = same
loses_if old lost (Some loss) d leaves = leaves

with_goes : (volume : VolumeView) (goes : Bool) (i : ℕ) → pages_with goes volume i ≡ cond goes (pages_of volume.index i) []
with_goes volume true i = refl
with_goes volume false i = refl

pub pages_gone : (volume : VolumeView) (replaced : Option Loss) (d : ℕ) → pages_with (goes_of replaced) volume (goer replaced d) ≡ gone_pages volume replaced
pages_gone volume None d = refl
pages_gone volume (Some loss) d = with_goes volume loss.goes loss.inode

in_with : (goes : Bool) (i j : ℕ) → IsIn j (inodes_with goes i) ↔ ((goes ≡ true) × (j ≡ i))
in_with true i j = ((λ among. elim among [ inl same ↦ (refl, same) | inr none ↦ absurd none ]), (λ (goes, same). inl same))
in_with false i j = ((λ none. absurd none), (λ (goes, same). absurd (true≢false (sym goes))))

-- ---- all of it

module _ (old new : VolumeView) (X K : List ℕ) (residue : Residue) (moving : Moving) where
  abbrev d : ℕ
  d = moving.from_directory

  abbrev goes : Bool
  goes = goes_of moving.replaced

  abbrev i : ℕ
  i = goer moving.replaced d

  abbrev gone : List ℕ
  gone = gone_pages old moving.replaced

  abbrev all : List ℕ
  all = gone ++ pages_of_option moving.given_back

  -- in the order of the law
  abbrev back : List ℕ
  back = pages_given old moving.given_back goes i

  all_back : (j : ℕ) → IsIn j all → IsIn j back
  all_back j among = elim (in_either j gone (pages_of_option moving.given_back) among) [
    | inl went ↦ in_back j (pages_of_option moving.given_back) (pages_with goes old i) (subst (IsIn j) (sym (pages_gone old moving.replaced d)) went)
    | inr page ↦ in_front j (pages_of_option moving.given_back) (pages_with goes old i) page
  ]

  back_all : (j : ℕ) → IsIn j back → IsIn j all
  back_all j among = elim (in_either j (pages_of_option moving.given_back) (pages_with goes old i) among) [
    | inl page ↦ in_back j gone (pages_of_option moving.given_back) page
    | inr went ↦ in_front j gone (pages_of_option moving.given_back) (subst (IsIn j) (pages_gone old moving.replaced d) went)
  ]

  module _ (within : (1 ≤ i) × (i ≤ inodes_of old.size)) (step : IsLastStep old.size X K all goes (number_of moving.replaced)) where
    frees : FreesNumbers old.size X K (inodes_with goes i) back
    frees = record {
      change = record {
        inodes_within = λ x among. let (went, same) = (in_with goes i x).0 among in let (least, most) = within in (omega (arith, same, least), omega (arith, same, most));
        other_inodes = λ x least most out.
            let kind = step.kinds x least most (λ went same. out ((in_with goes i x).1 (went, same ∙ sym (goer_is moving.replaced d went)))) in
            ((λ zero. kind ∙ zero), (λ zero. sym kind ∙ zero));
        other_pages = λ j low out. unused_same step.paged j low (λ among. out (all_back j among));
      };
      inodes_free = λ x among. let (went, same) = (in_with goes i x).0 among in ap (inode_kind K) (same ∙ goer_is moving.replaced d went) ∙ step.gone_kind went;
      pages_free = λ j among. step.unused j (back_all j among);
    }

    keeps : residue.pages ≡ all → KeepsPagesBut old.size X K residue no_residue back
    keeps same = record {
      left = λ j none out among. out (all_back j (subst (IsIn j) same among));
      owners = λ j low none out. step.paged.owner j low (λ among. out (all_back j among));
      offsets = λ j low none out. step.paged.offset j low (λ among. out (all_back j among));
    }

    pub known_given : KnowsBeside old X residue → IsCoherent old.size X → residue.pages ≡ all → (1 ≤ d) × (d ≤ inodes_of old.size) → (HasBytes K d → ⊥) → (goes ≡ true → d ≢ i)
        → AreListedAt old (pages_of_option moving.given_back) d → AreListedAt old (pages_with goes old i) i → GivesBack old new moving → KnowsBeside new K no_residue
    known_given knows coherent same directory no_file apart page_listed pages_listed gives =
        let most : i ≤ inodes_of_index old.index = subst (λ (n : ℕ). i ≤ n) (sym knows.nodes.each_inode) within.1 in
        let first = page_first old gives.lost new d i within.0 most goes moving.given_back apart (loses_if old gives.lost moving.replaced d gives.inode) gives.page in
        given_known_law old first.given new X K residue no_residue d i moving.given_back goes knows step.long directory.0 directory.1 within.0 within.1
        (keeps_entries old.size X K coherent step.means step.entries) (keeps same)
        (record { directory = no_file; apart = apart; free = frees; page_listed = page_listed; pages_listed = pages_listed }) first.page_leaves first.node_leaves
