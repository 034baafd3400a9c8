-- Stores of one call and the flush after them: a link count, a name, a slot's number.
use Rattle.std.proofs.Common.{◌≡◌, ℕ, ◌+◌, [], ◌∷◌, sym, subst, arith}
use Rattle.std.specs.Prelude.{Option, Result}
use Rattle.pm_trait.specs.Trail.{Trail}
use Rattle.pm_trait.specs.Device.{IsFlushed}
use Rattle.pm_trait.specs.declared.event.Event.TheVariants.{Store, Flush}
use Rattle.pm_trait.specs.DeviceView.{DeviceView, Performs, Stores}
use Rattle.pm_trait.specs.Unfolds.{Takes}
use Rattle.pm_trait.proofs.DeviceViewLaws.{store_stores, flush_stores, stores_flushed}
use Rattle.layout.specs.Geometry.{inode_word_of, slot_word_of}
use Rattle.fence_token.specs.Flushes.{FlushesLines}
use Rattle.fence_token.proofs.ObjectLaws.{lines_stores}
use Rattle.dentry_state.specs.Dentry.{DentryView, IsSlotWord, IsNameWord}
use Rattle.entry_steps.specs.Steps.{naming}

pub links_stored : {a b c : DeviceView} {value line : ℕ} (m n : ℕ) → n ≡ m → Performs a b (Store (inode_word_of n 1) value ∷ []) → Performs b c (Flush line ∷ []) → Stores (λ word. word ≡ inode_word_of m 1) a c 2
links_stored {a} {c = c} m n same stored flush = subst (λ (k : ℕ). Stores (λ word. word ≡ inode_word_of k 1) a c 2) same (stores_flushed (store_stores stored) (flush_stores flush))

pub name_stored : {a b c : DeviceView} {line lines : ℕ} (P s : ℕ) (dentry : DentryView) → dentry.pages ≡ P → dentry.slot ≡ s → lines ≡ 2 → Stores (IsNameWord dentry.pages dentry.slot) a b 14 → FlushesLines b c line lines → Stores (IsNameWord P s) a c 16
name_stored {a} {c = c} {lines = lines} P s dentry pages slot both run flushes =
    subst (λ (count : ℕ). Stores (IsNameWord P s) a c (14 + count)) both
    (subst (λ (p : ℕ). Stores (IsNameWord p s) a c (14 + lines)) pages (subst (λ (k : ℕ). Stores (IsNameWord dentry.pages k) a c (14 + lines)) slot (stores_flushed run (lines_stores flushes))))

-- ---- a slot's number

pub commit_flushed : {trail : Option Trail} (P Q s t : ℕ) → Q ≡ P → t ≡ s → ((word : ℕ) → IsSlotWord Q t word → IsFlushed trail word) → (word : ℕ) → word ≡ slot_word_of P s 0 → IsFlushed trail word
commit_flushed P Q s t volume slot flushed word is =
    let own : IsSlotWord P s word = record { field = 0; is_field = omega arith; at = is } in
    flushed word (subst (λ (k : ℕ). IsSlotWord k t word) (sym volume) (subst (λ (k : ℕ). IsSlotWord P k word) (sym slot) own))

-- the store of the slot's number, and its flush
pub slot_stored : {a b c : DeviceView} {word value line lines : ℕ} → lines ≡ 1 → Performs a b (Store word value ∷ []) → FlushesLines b c line lines → Stores (λ other. other ≡ word) a c 2
slot_stored {a} {c = c} {word = word} one stored flushes = subst (λ (count : ℕ). Stores (λ other. other ≡ word) a c (1 + count)) one (stores_flushed (store_stores stored) (lines_stores flushes))

-- the step that named it, by the numbers that the plan has
pub naming_as : {T E : Type 0} {P slot inode pages s i : ℕ} {a b : DeviceView} {result : Result T E} → pages ≡ P → s ≡ slot → i ≡ inode → Takes (naming pages s i) a b result → Takes (naming P slot inode) a b result
naming_as {P = P} {slot} {inode} {pages} {s} {i} {a} {b} {result} volume same number takes =
    subst (λ (p : ℕ). Takes (naming p slot inode) a b result) volume (subst (λ (t : ℕ). Takes (naming pages t inode) a b result) same (subst (λ (n : ℕ). Takes (naming pages s n) a b result) number takes))
