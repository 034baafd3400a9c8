-- What a volume knows of the pages that go with a node, and how many they are.
use Rattle.std.proofs.Common.{◌≡◌, inl, inr, ℕ, zero, suc, ◌<◌, Bool, true, false, cond, List, [], ◌∷◌, length, slice_index, get_or, Some, None, refl, sym, ap, ◌∙◌, arith, true≢false}
use Rattle.std.specs.Prelude.{Option}
use Rattle.std.proofs.lemmas.Bool.{cases_lt, false≢true}
use Rattle.std.proofs.lemmas.List.{get_or_default}
use Rattle.std.proofs.lemmas.List.Elements.{Contains-get_or}
use Rattle.std.proofs.lemmas.Grind.{get_or_default_zero}
use Rattle.std.proofs.lemmas.Option.{slice_get-get_or}
use Rattle.pm_trait.specs.DeviceView.{DeviceView}
use Rattle.tree_model.specs.Run.{State}
use Rattle.tree_model.specs.declared.command.Command.{Command}
use Rattle.page_state.specs.Page.{AreDistinct}
use Rattle.image_reading.specs.Counts.{IsDistinct}
use Rattle.image_reading.specs.Reading.{Reached}
use Rattle.image_reading.proofs.Counts.{count_one}
use Rattle.image_counts.specs.Entries.{IsPageIn}
use Rattle.volatile_index.specs.Index.{pages_of}
use Rattle.volume.specs.Planned.{IsLossOf}
use Rattle.volume.specs.Stands.{StandsFor}
use Rattle.volume.specs.Volume.{VolumeView}
use Rattle.volume.specs.declared.plan.Loss.{Loss}
use Rattle.volume.proofs.PageLists.{in_contained, contained_in}
use Rattle.volume.proofs.Walked.{in_table}
use Rattle.removal_steps.specs.Steps.{AreGonePages, gone_pages}

-- a list in which each number stands once has it in one place
same_place : (xs : List ℕ) → IsDistinct xs → (k l : ℕ) → k < length xs → l < length xs → get_or xs k 0 ≡ get_or xs l 0 → k ≡ l
same_place [] once k l low high e = absurd (omega (arith, low))
same_place (x ∷ xs) once zero zero low high e = refl
same_place (x ∷ xs) once zero (suc l) low high e =
    let there : l < length xs = omega (arith, high) in
    absurd (once.0 (contained_in x xs (l, there, get_or_default_zero xs l x there ∙ sym e)))
same_place (x ∷ xs) once (suc k) zero low high e =
    let there : k < length xs = omega (arith, low) in
    absurd (once.0 (contained_in x xs (k, there, get_or_default_zero xs k x there ∙ e)))
same_place (x ∷ xs) once (suc k) (suc l) low high e = ap suc (same_place xs once.1 k l (omega (arith, low)) (omega (arith, high)) e)

-- and the other way round
pub apart_of : (xs : List ℕ) → AreDistinct xs → IsDistinct xs
apart_of [] apart = tt
apart_of (x ∷ xs) apart = (
  (λ is.
      let (k, inside, same) = in_contained x xs is in
      let none : 0 ≡ suc k = apart.each 0 (suc k) (omega arith) (omega (arith, inside)) (sym same ∙ get_or_default xs k x 0 inside) in
      omega (arith, none)),
  apart_of xs (record { each = λ one two low high same. (let is = apart.each (suc one) (suc two) (omega (arith, low)) (omega (arith, high)) same in omega (arith, is)) }),
)

-- the pages that go are as many as the plan says
pub gone_counted : (P : ℕ) (I : List ℕ) (state : State) (command : Command) (loss : Loss) (pages : List ℕ) → IsLossOf P I state command loss → AreGonePages P I (Some loss) pages → length pages ≡ loss.pages
gone_counted P I state command loss pages lost are = by loss.goes refl
  where
    by : (goes : Bool) → loss.goes ≡ goes → length pages ≡ loss.pages
    by true goes = count_one (IsPageIn P I loss.inode) (length pages) loss.pages
        (pages, apart_of pages are.distinct, (λ j. ((λ among. ((are.among j).0 (in_contained j pages among)).1), (λ page. contained_in j pages ((are.among j).1 (goes, page))))), refl)
        (lost.pages goes)
    by false stays = elim (cases_lt 0 (length pages)) [
      | inl some ↦ absurd (false≢true (sym stays ∙ ((are.among (slice_index pages 0)).0 (Contains-get_or pages 0 0 some)).0))
      | inr none ↦ let planned = lost.no_pages stays in omega (arith, none, planned)
    ]

module _ (volume : VolumeView) (device : DeviceView) (state : State) (stands : StandsFor volume device state) where
  none_gone : (loss : Loss) → loss.goes ≡ false → AreGonePages volume.size device.words (Some loss) []
  none_gone loss stays = record {
    among = λ j. ((λ there. absurd (contained_in j [] there)), (λ (goes, is). absurd (true≢false (sym goes ∙ stays))));
    distinct = record { each = same_place [] tt };
    offsets = λ bytes k low. absurd (omega (arith, low));
  }

  all_gone : (loss : Loss) → loss.goes ≡ true → Reached volume.size device.words loss.inode → AreGonePages volume.size device.words (Some loss) (pages_of volume.index loss.inode)
  all_gone loss goes node =
      let (least, most) = in_table volume device loss.inode (state, stands) node in
      let nodes = stands.knows.nodes in
      let all = pages_of volume.index loss.inode in
      record {
        among = λ j. let known = nodes.pages loss.inode j least most in ((λ there. (goes, known.0 there)), (λ (_, is). known.1 is));
        distinct = record { each = same_place all (nodes.once loss.inode least most) };
        offsets = λ bytes k low. nodes.offsets loss.inode k (get_or all k 0) node bytes (slice_get-get_or all k 0 low);
      }

  -- those that the volume tells are those of the node, where this is reached
  pub gone_pages_are : (loss : Option Loss) → ((lost : Loss) → loss ≡ Some lost → Reached volume.size device.words lost.inode) → AreGonePages volume.size device.words loss (gone_pages volume loss)
  gone_pages_are None node = record {
    among = λ j. ((λ there. absurd (contained_in j [] there)), (λ (goes, is). absurd (true≢false (sym goes))));
    distinct = record { each = same_place [] tt };
    offsets = λ bytes k low. absurd (omega (arith, low));
  }
  gone_pages_are (Some loss) node = by loss.goes refl
    where
      by : (goes : Bool) → loss.goes ≡ goes → AreGonePages volume.size device.words (Some loss) (cond goes (pages_of volume.index loss.inode) [])
      by false stays = none_gone loss stays
      by true goes = all_gone loss goes (node loss refl)
