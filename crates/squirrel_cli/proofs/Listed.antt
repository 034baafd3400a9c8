-- The listing of a mounted volume, and its close.
use Rattle.std.proofs.Common.{◌≡◌, inl, inr, refl, sym, ap, subst, ◌∙◌, arith}
use Rattle.std.specs.Prelude.{Result, Ok, Err}
use Rattle.io_edge.specs.Bytes.{Writes}
use Rattle.io_edge.specs.declared.sink.WriteFault.{WriteFault}
use Rattle.pm_trait.specs.DeviceView.{DeviceView}
use Rattle.tree_model.specs.Run.{State}
use Rattle.script.specs.Texts.{listing_text}
use Rattle.volume.specs.Stands.{IsStanding, StandsFor}
use Rattle.volume.specs.Volume.{VolumeView}
use Rattle.engine.specs.Session.{SessionView}
use Rattle.squirrel_cli.specs.Causes.{TellsFaults}
use Rattle.squirrel_cli.specs.GoingOn.{LeavesGoing, ListsOn}
use Rattle.squirrel_cli.specs.Mounts.{ClosesAs}
use Rattle.squirrel_cli.specs.Seen.{Seen}
use Rattle.squirrel_cli.specs.declared.status.Status.{Status}
use Rattle.squirrel_cli.specs.declared.status.Status.TheVariants as status
use Rattle.squirrel_cli.proofs.Answered.{written_cut, written_whole}
use Rattle.squirrel_cli.proofs.Closing.{close_cause, close_going}
use Rattle.squirrel_cli.proofs.Refusals.{listed_cause}

module _ {session ended : SessionView} {volume : VolumeView} (same : ended ≡ session) (of : session.volume ≡ volume) where
  pub session_is : ended.volume ≡ volume
  session_is = ap (λ (s : SessionView). s.volume) same ∙ of

  pub listing_stands : {device : DeviceView} → IsStanding volume device → IsStanding ended.volume device
  listing_stands {device} stands = subst (λ (v : VolumeView). IsStanding v device) (sym session_is) stands

  module _ {K : Type 0} (old new : Seen (Unit {0}) K) (is : Status) (script : new.script ≡ old.script)
      (closes : (state : State) → StandsFor ended.volume old.device state → ClosesAs ended.volume.size state old.device new.device is) where
    closes_on : (state : State) → StandsFor volume old.device state → ClosesAs volume.size state old.device new.device is
    closes_on state stands =
        subst (λ (v : VolumeView). ClosesAs v.size state old.device new.device is) session_is
        (closes state (subst (λ (v : VolumeView). StandsFor v old.device state) (sym session_is) stands))

    pub listed_on : {written : Result (Unit {0}) WriteFault} {done : Unit {0}} → written ≡ Ok done
        → ((state : State) → StandsFor session.volume old.device state → Writes old.took new.took old.write_faults new.write_faults (listing_text state.tree) written) → ListsOn volume old new is
    listed_on ok writes = record {
      script = script;
      told = λ state stands. inl ((written_whole ok (writes state (subst (λ (v : VolumeView). StandsFor v old.device state) (sym of) stands))).0, closes_on state stands);
    }

    pub listing_cause : {written : Result (Unit {0}) WriteFault} {done : Unit {0}} → written ≡ Ok done → new.read_faults ≡ old.read_faults
        → ((state : State) → StandsFor session.volume old.device state → Writes old.took new.took old.write_faults new.write_faults (listing_text state.tree) written) → IsStanding volume old.device → TellsFaults old new is
    listing_cause ok unread writes (state, stands) =
        close_cause old new volume.size state old.device refl unread (written_whole ok (writes state (subst (λ (v : VolumeView). StandsFor v old.device state) (sym of) stands))).1 (closes_on state stands)

    pub listing_going : IsStanding volume old.device → LeavesGoing volume.size old.device new.device
    listing_going (state, stands) = close_going volume.size state old.device old.device new.device is refl (omega arith) (closes_on state stands)

-- a write failed, and the device is as it was
module _ {session volume : VolumeView} (of : session ≡ volume) {K : Type 0} (old new : Seen (Unit {0}) K) (script : new.script ≡ old.script) (device : new.device ≡ old.device) {written : Result (Unit {0}) WriteFault} {fault : WriteFault} (err : written ≡ Err fault)
    (writes : (state : State) → StandsFor session old.device state → Writes old.took new.took old.write_faults new.write_faults (listing_text state.tree) written) where
  pub uncut_on : ListsOn volume old new status.WriteFault
  uncut_on = record {
    script = script;
    told = λ state stands. inr (refl, (written_cut err (writes state (subst (λ (v : VolumeView). StandsFor v old.device state) (sym of) stands))).0, device);
  }

  pub uncut_cause : new.read_faults ≡ old.read_faults → IsStanding volume old.device → TellsFaults old new status.WriteFault
  uncut_cause unread (state, stands) =
      let cut = written_cut err (writes state (subst (λ (v : VolumeView). StandsFor v old.device state) (sym of) stands)) in
      listed_cause old new {text = listing_text state.tree} (inr (inr (refl, cut.0))) (record { write = λ told. cut.1; no_write_fault = λ other. absurd (other refl) }) unread (ap (λ (d : DeviceView). d.faults) device)
