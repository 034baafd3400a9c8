-- What it does to a volume that its mark is given a value.
use Rattle.std.proofs.Common.{◌≡◌, inl, inr, ℕ, ◌<◌, ◌≤◌, Bool, true, false, List, length, refl, sym, ap, subst, ◌∙◌, arith}
use Rattle.std.proofs.lemmas.List.{length-set, get_or-set_same, get_or-set_other}
use Rattle.std.specs.Prelude.{◌==◌, Result, Ok, Err, OnOk, slice_index, slice_set}
use Rattle.pm_trait.specs.Device.{Mix}
use Rattle.pm_trait.specs.DeviceView.{DeviceView}
use Rattle.pm_trait.specs.Unfolds.{Takes}
use Rattle.pm_trait.proofs.Unfolding.{quiet_fenced}
use Rattle.layout.specs.Superblock.{mark_word, closed_mark, open_mark, has_mark}
use Rattle.fence_token.specs.Setting.{setting}
use Rattle.tree_model.specs.Run.{State}
use Rattle.tree_model.specs.declared.command.Command.{Command}
use Rattle.image_reading.specs.Reading.{ReadsAs}
use Rattle.image_reading.specs.Soundness.{Rule}
use Rattle.image_reading.specs.Tidy.{Tidy}
use Rattle.image_reading.proofs.Tidied.{tidied, as_tidy}
use Rattle.image_laws.specs.Marking.{SameButMark}
use Rattle.image_laws.proofs.Marking.{mark_law}
use Rattle.volume.specs.declared.plan.Action.{Action}
use Rattle.volume.specs.Carried.{IsPlanFor}
use Rattle.volume.specs.Costs.{kept_events}
use Rattle.volume.specs.Crashes.{MeansState}
use Rattle.volume.specs.Stands.{IsStanding, StandsFor}
use Rattle.volume.specs.Volume.{VolumeView}
use Rattle.mark_ops.specs.Marking.{IsSettledIn, SetsMark, Closes}
use Rattle.mark_ops.proofs.Known.{knows_marked}
use Rattle.mark_ops.proofs.Remarked.{planned}

-- ---- words

-- it gives the mark a value, and no other word
set_mark : (I J : List ℕ) (value : ℕ) → J ≡ slice_set I mark_word value → SameButMark I J
set_mark I J value is = record {
  long = ap length is ∙ length-set I mark_word value;
  others = λ a other. ap (λ (words : List ℕ). slice_index words a) is ∙ get_or-set_other I mark_word a value 0 other;
}

-- and so does what a crash leaves of it
mixed : (I J image : List ℕ) → SameButMark I J → Mix I J image → SameButMark I image
mixed I J image same mix = record {
  long = mix.long;
  others = λ a other. elim (mix.each a) [ inl old ↦ old | inr new ↦ new ∙ same.others a other ];
}

tidy_marked : (P : ℕ) (I J : List ℕ) → SameButMark I J → Tidy P I → Tidy P J
tidy_marked P I J same tidy = as_tidy (mark_law P I J same (tidied tidy)).0

reads_marked : (P : ℕ) (I J : List ℕ) (state : State) → SameButMark I J → Tidy P I → ReadsAs P I state → ReadsAs P J state
reads_marked P I J state same tidy reads = let means = (mark_law P I J same (tidied tidy)).1 in record { tree = means.reads state.tree reads.tree; room = means.room state.room reads.room }

-- ---- the device

there : {T E : Type 0} (P value : ℕ) (state : State) (before after : DeviceView) (result : Result T E) → Tidy P before.words → ReadsAs P before.words state → Takes (setting mark_word value) before after result → OnOk result (IsSettledIn P state after)
there P value state before after (Ok done) tidy reads takes =
    let same = set_mark before.words after.words value takes.makes in
    record { settled = takes.fenced.fenced.settled; tidy = tidy_marked P before.words after.words same tidy; reads = reads_marked P before.words after.words state same tidy reads }
there P value state before after (Err fault) tidy reads takes = tt

sets : {T E : Type 0} (P value : ℕ) (state : State) (before after : DeviceView) (result : Result T E) → Tidy P before.words → ReadsAs P before.words state → Takes (setting mark_word value) before after result
    → SetsMark P value state before after result
sets P value state before after result tidy reads takes = record {
  takes = takes;
  any_moment = quiet_fenced (MeansState P state) takes.fenced.fenced (λ image mix.
      let same = mixed before.words after.words image (set_mark before.words after.words value takes.makes) mix in
      record { sound = (tidy_marked P before.words image same tidy).sound; reads = reads_marked P before.words image state same tidy reads });
  there = there P value state before after result tidy reads takes;
}

-- ---- the volume

-- a volume has more words than the mark's
has_mark_word : (volume : VolumeView) (device : DeviceView) → IsStanding volume device → mark_word < length device.words
has_mark_word volume device (state, stands) =
    let (least, most) = (stands.tidy.sound.coherent Rule.head 0).size refl in
    let whole = stands.knows.whole in
    omega (arith, least, whole)

no_mark : (I J : List ℕ) → mark_word < length I → J ≡ slice_set I mark_word open_mark → has_mark J ≡ false
no_mark I J lt is = ap has_mark is ∙ ap (λ (value : ℕ). value == closed_mark) (get_or-set_same I mark_word open_mark 0 lt)

module _ {T E : Type 0} {volume : VolumeView} {before after : DeviceView} where
  pub sets_mark : {value : ℕ} {state : State} {result : Result T E} → Takes (setting mark_word value) before after result → StandsFor volume before state → SetsMark volume.size value state before after result
  sets_mark {value} {state} {result} takes stands = sets volume.size value state before after result stands.tidy stands.reads takes

  -- a volume without the mark is closed so
  pub closes_unmarked : {state : State} {result : Result T E} → volume.marked ≡ false → Takes (setting mark_word closed_mark) before after result → StandsFor volume before state → Closes volume.marked volume.size state before after result
  closes_unmarked {state} {result} unmarked takes stands = subst (λ (marked : Bool). Closes marked volume.size state before after result) (sym unmarked) (sets_mark takes stands)

  module _ {value : T} (room : kept_events true ≤ before.spare) (takes : Takes {E = E} (setting mark_word open_mark) before after (Ok value)) where
    -- it stands for the same state without its mark,
    pub stands_unmarked : {state : State} → StandsFor volume before state → StandsFor (record volume { marked = false }) after state
    stands_unmarked {state} stands =
        let same = set_mark before.words after.words open_mark takes.makes in
        let taken = takes.fenced.counts.room in
        record {
          settled = takes.fenced.fenced.settled;
          tidy = tidy_marked volume.size before.words after.words same stands.tidy;
          reads = reads_marked volume.size before.words after.words state same stands.tidy stands.reads;
          knows = knows_marked volume false same stands.knows;
          mark = sym (no_mark before.words after.words (has_mark_word volume before (state, stands)) takes.makes);
          room = omega (arith, room, taken);
          no_call = stands.no_call;
        }

    -- and a plan for it stays one
    pub planned_unmarked : {state : State} {command : Command} {action : Action} → IsPlanFor volume before state command action → IsPlanFor (record volume { marked = false }) after state command action
    planned_unmarked {state} {command} {action} plan = record {
      stands = stands_unmarked plan.stands;
      planned = planned volume.size (set_mark before.words after.words open_mark takes.makes) state command action plan.planned;
    }
