-- The names of a tree stay where a file's pages, bytes or size change.
use Rattle.std.proofs.Common.{◌≡◌, ◌↔◌, ℕ, ◌+◌, true, List, sym, ap, subst, ◌∙◌, arith}
use Rattle.layout.specs.Fields.{inode_kind, slot_inode, slot_pointer, slot_name}
use Rattle.layout.specs.Name.{name_in_words}
use Rattle.tree_model.specs.Run.{State}
use Rattle.tree_model.specs.Tree.{is_file}
use Rattle.image_reading.specs.Reading.{HasBytes, slot_owner, IsHeld, IsLive, Reached, IsReachedSlot, ReadsAs}
use Rattle.image_counts.specs.Entries.{IsEntryOf}
use Rattle.image_counts.proofs.Nodes.{size_law}
use Rattle.image_counts.proofs.Paths.{in_range}
use Rattle.image_laws.proofs.KeptPages as pages
use Rattle.image_laws.proofs.Words.{slot_words-same}
use Rattle.weave_laws.proofs.Sized as after
use Rattle.weave_laws.proofs.Sized.{ChangesFile}
use Rattle.knowing_laws.specs.Knowing.{KeepsEntries}

module _ {P : ℕ} {A K : List ℕ} {i : ℕ} {Page : ℕ → Type 0} (change : ChangesFile P A K i Page) where
  -- a slot of a directory's page
  forth : (t : ℕ) → IsHeld P A t → IsHeld P K t
  forth t held = pages.held_forth (after.paged change) t (λ is. change.unheld t is held) held

  back : (t : ℕ) → IsHeld P K t → IsHeld P A t
  back t held = pages.held_back (after.paged change) t (λ is. change.unheld_after t is held) held

  number_same : (t : ℕ) → IsHeld P A t → slot_inode P K t ≡ slot_inode P A t
  unfolding slot_inode
  number_same t held = change.slots t 0 held (omega arith)

  pointer_same : (t : ℕ) → IsHeld P A t → slot_pointer P K t ≡ slot_pointer P A t
  unfolding slot_pointer
  pointer_same t held = change.slots t 1 held (omega arith)

  name_same : (t : ℕ) → IsHeld P A t → slot_name P K t ≡ slot_name P A t
  unfolding slot_name
  name_same t held = ap name_in_words (slot_words-same P A K t (λ f lt. change.slots t (2 + f) held (omega (arith, lt))))

  owner_same : (t : ℕ) → IsHeld P A t → slot_owner P K t ≡ slot_owner P A t
  owner_same t held = pages.held_owner_same (after.paged change) t held (λ is. change.unheld t is held)

  -- one that is live
  live_forth : (t : ℕ) → IsLive P A t → IsLive P K t
  live_forth t live = record {
    held = forth t live.held;
    names = λ z. live.names (sym (number_same t live.held) ∙ z);
    stays = λ d held points e. let was = back d held in live.stays d was (sym (pointer_same d was) ∙ points) (sym (number_same d was) ∙ e ∙ number_same t live.held);
  }

  live_back : (t : ℕ) → IsLive P K t → IsLive P A t
  live_back t live =
      let own = back t live.held in
      record {
        held = own;
        names = λ z. live.names (number_same t own ∙ z);
        stays = λ d held points e. live.stays d (forth d held) (pointer_same d held ∙ points) (number_same d held ∙ e ∙ sym (number_same t own));
      }

  slot_forth : (t : ℕ) → IsReachedSlot P A t → IsReachedSlot P K t
  slot_forth t r =
      let owner = owner_same t r.live.held in
      record {
        owner = subst (Reached P K) (sym owner) ((after.reached change (slot_owner P A t)).0 r.owner);
        directory = ap (inode_kind K) owner ∙ after.kind_reached change (slot_owner P A t) r.owner ∙ r.directory;
        live = live_forth t r.live;
      }

  slot_back : (t : ℕ) → IsReachedSlot P K t → IsReachedSlot P A t
  slot_back t r =
      let live = live_back t r.live in
      let owner = owner_same t live.held in
      let was = (after.reached change (slot_owner P A t)).1 (subst (Reached P K) owner r.owner) in
      record { owner = was; directory = sym (after.kind_reached change (slot_owner P A t) was) ∙ ap (inode_kind K) (sym owner) ∙ r.directory; live = live }

  entries_same : (d slot : ℕ) (bytes : List ℕ) → IsEntryOf P A d bytes slot ↔ IsEntryOf P K d bytes slot
  entries_same d slot bytes = (
    (λ e. let held = e.slot.live.held in record { slot = slot_forth slot e.slot; owner = owner_same slot held ∙ e.owner; name = name_same slot held ∙ e.name }),
    (λ e.
        let was = slot_back slot e.slot in
        let held = was.live.held in
        record { slot = was; owner = sym (owner_same slot held) ∙ e.owner; name = sym (name_same slot held) ∙ e.name }),
  )

  -- so the entries stay, and no file comes
  pub keeps_entries : KeepsEntries P A K
  keeps_entries = record {
    entries = entries_same;
    files = λ x r file.
        let was = (after.reached change x).1 r in
        let (least, most) = in_range P A change.before x was in
        record { least = least; most = most; reached = was; file = sym (after.kind_reached change x was) ∙ file };
  }

  -- and the file is one still
  pub file_still : (later : State) → HasBytes A i → ReadsAs P K later → is_file later.tree i ≡ true
  file_still later file reads = ((size_law P K later change.after reads).files i).1 ((after.reached change i).0 change.file, after.kind_reached change i change.file ∙ file)
