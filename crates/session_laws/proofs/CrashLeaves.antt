-- What a crash leaves of the words: what they mean, bytes of one range beside it, or what a command leaves.
use Rattle.std.proofs.Common.{◌≡◌, ℕ, List, IsTrue, refl}
use Rattle.tree_model.specs.Allowed.{is_mix}
use Rattle.tree_model.specs.Tree.{bytes_of}
use Rattle.tree_model.specs.Step.{with_bytes}
use Rattle.tree_model.specs.Run.{State}
use Rattle.image_reading.specs.Reading.{ReadsAs}
use Rattle.image_reading.specs.Soundness.{Sound}
use Rattle.image_laws.specs.Quiet.{IsMix}
use Rattle.mixing_laws.specs.Mixed.{Range}
use Rattle.waiting_laws.specs.Beside.{KeepsMeaning}
use Rattle.running_laws.specs.Crashes.{TearsRange}
use Rattle.session_laws.specs.Histories.{IsHistory, IsCrashOf, QuietCrashLaw}

module _ (P : ℕ) (I J M : List ℕ) (words : State) (reads : ReadsAs P I words) (mix : IsMix I J M) where
  pub crash_kept : (ranges : List Range) (history : State) → IsHistory ranges history words → KeepsMeaning P I J → IsCrashOf P M ranges history
  crash_kept ranges history is keeps =
      let kept = keeps M mix in
      record { sound = kept.sound; read = words; reads = record { tree = kept.same.reads words.tree reads.tree; room = kept.same.room words.room reads.room }; mixed = is }

  -- where such bytes make the words of a history still
  pub crash_torn : (range : Range) (ranges : List Range) (history : State)
      → ((mixed : List ℕ) → IsTrue (is_mix range.offset range.bytes 0 (bytes_of words.tree range.file) mixed) → (later : State)
      → later.tree ≡ with_bytes words.tree range.file mixed
      → later.room ≡ words.room → IsHistory ranges history later)
      → TearsRange P I J range → IsCrashOf P M ranges history
  crash_torn range ranges history stores tears =
      let (sound, torn) = tears M mix in
      let (mixed, is_mixed, read) = torn.reads words.tree reads.tree in
      let later : State = record { tree = with_bytes words.tree range.file mixed; room = words.room } in
      record { sound = sound; read = later; reads = record { tree = read; room = torn.room words.room reads.room }; mixed = stores mixed is_mixed later refl refl }

pub crash_before : (P : ℕ) (I : List ℕ) (words : State) (ranges : List Range) (history : State) → Sound P I → ReadsAs P I words → IsHistory ranges history words
    → IsCrashOf P I ranges history
crash_before P I words ranges history sound reads is = record { sound = sound; read = words; reads = reads; mixed = is }

pub quiet_crash_law : QuietCrashLaw
quiet_crash_law volume device words history calls wait is =
    crash_before volume.size device.words words _ history wait.beside.stands.sound wait.beside.stands.reads is
