-- An inode to which nothing leads, on a settled device.
use Rattle.std.proofs.Common.{◌≡◌, ℕ, ◌*◌, Bool, true, false, not, List, [], ◌∷◌, length, refl, sym, subst, arith}
use Rattle.pm_trait.specs.declared.event.Event.TheVariants.{Flush}
use Rattle.pm_trait.specs.DeviceView.{DeviceView, IsSettledView, Performs, Stores}
use Rattle.pm_trait.proofs.DeviceViewLaws.{stores_flushed, flush_stores}
use Rattle.layout.specs.declared.kinds.NodeKind.{NodeKind}
use Rattle.layout.specs.Geometry.{IsVolumeSize}
use Rattle.layout.proofs.GeometryLaws.{descriptor_word_within}
use Rattle.fence_token.specs.Stored.{StoresExactly}
use Rattle.fence_token.proofs.StoredLaws.{exactly_stores}
use Rattle.inode_state.specs.Inode.{IsInodeWord}
use Rattle.inode_state.specs.Unused.{IsUnused}
use Rattle.dentry_state.proofs.DentryLaws.{slot_word_is, slot_word_in_volume}
use Rattle.volume.specs.Costs.{where_true, inode_events}
use Rattle.removal_steps.specs.Steps.{MayClear, IsGoneWord}

-- it goes, where it was tested that it stays
pub goes_on : (goes : Bool) → not goes ≡ false → goes ≡ true
goes_on true test = refl
goes_on false test = let none : ⊥ = cc in absurd none

pub unused : {device : DeviceView} (P i Q n : ℕ) (kind : NodeKind) → IsVolumeSize P → Q ≡ P → n ≡ i → length device.words ≡ 512 * P → IsSettledView device → MayClear P device.words kind i → IsUnused Q n device
unused {device} P i Q n kind size volume number whole settled may =
    subst (λ (q : ℕ). IsUnused q n device) (sym volume) (subst (λ (k : ℕ). IsUnused P k device) (sym number)
    (record {
      unowned = record {
        other = may.unowned;
        settled = λ page in_range. let within = descriptor_word_within P page 0 size in_range (omega arith) in settled.each _ (omega (arith, within, whole));
      };
      unnamed = record {
        other = may.unnamed;
        settled = λ slot held. let within = slot_word_in_volume P slot _ held.in_range (slot_word_is P slot 0 (omega arith)) in settled.each _ (omega (arith, within, whole));
      };
      kinds = λ page in_range. let within = descriptor_word_within P page 1 size in_range (omega arith) in settled.each _ (omega (arith, within, whole));
    }))

pub node_stored : {a b c : DeviceView} {line : ℕ} {events : List _} (goes : Bool) (i n : ℕ) → goes ≡ true → n ≡ i → StoresExactly (IsInodeWord n) a b events 4 → Performs b c (Flush line ∷ []) → Stores (IsGoneWord goes i) a c (where_true goes inode_events)
node_stored {a} {c = c} goes i n going number run flush =
    subst (λ (t : Bool). Stores (IsGoneWord t i) a c (where_true t inode_events)) (sym going)
    (subst (λ (k : ℕ). Stores (IsInodeWord k) a c 5) number (stores_flushed (exactly_stores run) (flush_stores flush)))
