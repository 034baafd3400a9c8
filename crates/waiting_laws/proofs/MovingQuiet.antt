-- Words that mean what other words mean: entries stay, and of two such words each means the other. B are the words at a begin, X and Y later ones.
use Rattle.std.proofs.Common.{◌≡◌, ◌↔◌, inl, inr, ℕ, ◌<◌, ◌≤◌, List, ◌∷◌, length, refl, sym, subst, ◌∙◌}
use Rattle.layout.specs.Geometry.{inodes_of, data_pages_of}
use Rattle.layout.specs.Fields.{inode_kind, slot_inode, slot_name}
use Rattle.tree_model.specs.Tree.{Directory}
use Rattle.tree_model.specs.PathText.{Route}
use Rattle.tree_model.specs.Run.{State}
use Rattle.image_reading.specs.Counts.{IsIn}
use Rattle.image_reading.specs.Reading.{HasBytes, IsDirectory, slot_owner, Names, Reached, ReadsAs}
use Rattle.image_reading.specs.Residue.{Residue, IsTidyBeside}
use Rattle.image_reading.specs.Soundness.{Rule, IsCoherent}
use Rattle.image_counts.specs.Entries.{IsEntryOf, IsUnusedPage}
use Rattle.image_counts.proofs.Paths as paths
use Rattle.image_laws.specs.Frame.{SameMeaning}
use Rattle.image_laws.specs.Quiet.{IsMix}
use Rattle.image_laws.proofs.Free.{mix_itself}
use Rattle.image_laws.proofs.KeptPages.{KeepsPages}
use Rattle.image_laws.proofs.Meaning.{same_itself}
use Rattle.image_laws.proofs.OnlySlot.{OnlySlot}
use Rattle.image_laws.proofs.Paths.{slot_of}
use Rattle.image_laws.proofs.Rooms.{room_law}
use Rattle.knowing_laws.specs.Knowing.{KeepsEntries}

-- ---- meanings

module _ (P : ℕ) (B X Y : List ℕ) (coherent : IsCoherent P B) (one : SameMeaning P B X) (two : SameMeaning P B Y) where
  names_same : (p : Route) (i : ℕ) → Names P X p i ↔ Names P Y p i
  names_same p i = ((λ a. (two.names p i).0 ((one.names p i).1 a)), (λ a. (one.names p i).0 ((two.names p i).1 a)))

  first_reached : (i : ℕ) → Reached P X i → Reached P B i
  first_reached i (p, a) = (p, (one.names p i).1 a)

  -- what means the same as the same means the same
  pub between : SameMeaning P X Y
  between = record {
    coherent = two.coherent;
    names = names_same;
    nodes = λ i x r. let was = first_reached i r in ((λ n. (two.nodes i x was).0 ((one.nodes i x was).1 n)), (λ n. (one.nodes i x was).0 ((two.nodes i x was).1 n)));
    reads = λ T reads. record {
      names = λ path i. ((λ e. (names_same _ i).0 ((reads.names path i).0 e)), (λ a. (reads.names path i).1 ((names_same _ i).1 a)));
      nodes = λ i x. (
        (λ e.
            let ((p, a), n) = (reads.nodes i x).0 e in
            let was = first_reached i (p, a) in
            ((p, (names_same p i).0 a), (two.nodes i x was).0 ((one.nodes i x was).1 n))),
        (λ ((p, a), n).
            let r : Reached P X i = (p, (names_same p i).1 a) in
            let was = first_reached i r in
            (reads.nodes i x).1 (r, (one.nodes i x was).0 ((two.nodes i x was).1 n))),
      );
    };
    room = λ room has d k.
        let (some, there) = room_law P B coherent in
        let a = one.room some there d k in
        let b = two.room some there d k in
        let c = has d k in
        ((λ e. b.0 (a.1 (c.0 e))), (λ z. c.1 (a.0 (b.1 z))));
  }

-- words that mean the same read as the same state
pub reads_same : (P : ℕ) (X Y : List ℕ) → SameMeaning P X Y → (state : State) → ReadsAs P X state → ReadsAs P Y state
reads_same P X Y same state reads = record { tree = same.reads state.tree reads.tree; room = same.room state.room reads.room }

-- a file then was one
module _ (P : ℕ) (X Y : List ℕ) (coherent : IsCoherent P X) (same : SameMeaning P X Y) where
  pub reached_back : (i : ℕ) → Reached P Y i → Reached P X i
  reached_back i (p, a) = (p, (same.names p i).1 a)

  pub directory_back : (i : ℕ) → Reached P X i → IsDirectory Y i → IsDirectory X i
  directory_back i r two = (same.nodes i Directory r).1 two

  file_back : (i : ℕ) → Reached P Y i → HasBytes Y i → HasBytes X i
  file_back i r one =
      let was = reached_back i r in
      elim ((coherent Rule.kinds i).kind was) [
        | inl file ↦ file
        | inr two ↦ absurd (let other = (same.nodes i Directory was).0 two in let clash : ◌≡◌ {A = ℕ} 1 2 = sym one ∙ other in cc)
      ]

-- ---- entries

module _ (P : ℕ) (X Y : List ℕ) (before : IsCoherent P X) (after : IsCoherent P Y) (names : (p : Route) (i : ℕ) → Names P X p i ↔ Names P Y p i) where
  -- a name of a directory then was one, in some slot
  was_entry : (d t : ℕ) (bytes : List ℕ) → IsEntryOf P Y d bytes t → (u : ℕ) × IsEntryOf P X d bytes u
  was_entry d t bytes e =
      let (p, owner) = e.slot.owner in
      let leads = paths.slot_leads P Y after t e.slot in
      let (u, was, leads_too) = (names (slot_name P Y t ∷ p) (slot_inode P Y t)).1 (t, owner, leads) in (
        u,
        record {
          slot = slot_of P X u p (slot_name P Y t) (slot_inode P Y t) was leads_too;
          owner = paths.one_inode P Y after p (slot_owner P X u) (slot_owner P Y t) ((names p (slot_owner P X u)).0 was) owner ∙ e.owner;
          name = leads_too.name ∙ e.name;
        },
      )

  -- where each entry stays, none comes
  pub entries_stay : ((d t : ℕ) (bytes : List ℕ) → IsEntryOf P X d bytes t → IsEntryOf P Y d bytes t) → (d t : ℕ) (bytes : List ℕ) → IsEntryOf P X d bytes t ↔ IsEntryOf P Y d bytes t
  entries_stay stays d t bytes = (
    stays d t bytes,
    (λ e.
        let (u, was) = was_entry d t bytes e in
        let is = stays d u bytes was in
        let here : u ≡ t = paths.same_slot P Y after u t is.slot e.slot (is.owner ∙ sym e.owner) (is.name ∙ sym e.name) in
        subst (λ (s : ℕ). IsEntryOf P X d bytes s) here was),
  )

-- where each entry was there, none goes
pub entries_were : (P : ℕ) (X Y : List ℕ) → IsCoherent P X → IsCoherent P Y → ((p : Route) (i : ℕ) → Names P X p i ↔ Names P Y p i)
    → ((d t : ℕ) (bytes : List ℕ) → IsEntryOf P Y d bytes t → IsEntryOf P X d bytes t) → (d t : ℕ) (bytes : List ℕ) → IsEntryOf P X d bytes t ↔ IsEntryOf P Y d bytes t
entries_were P X Y before after names was d t bytes =
    let same = entries_stay P Y X after before (λ p i. ((names p i).1, (names p i).0)) was d t bytes in
    (same.1, same.0)

-- where the entries stay, and the meaning, no file comes
pub keeps_entries : (P : ℕ) (X Y : List ℕ) → IsCoherent P X → SameMeaning P X Y → ((d t : ℕ) (bytes : List ℕ) → IsEntryOf P X d bytes t ↔ IsEntryOf P Y d bytes t) → KeepsEntries P X Y
keeps_entries P X Y coherent same entries = record {
  entries = λ d slot bytes. entries d slot bytes;
  files = λ i reached bytes.
      let was = reached_back P X Y coherent same i reached in
      let (least, most) = paths.in_range P X coherent i was in
      record { least = least; most = most; reached = was; file = file_back P X Y coherent same i reached bytes };
}

-- ---- descriptors

pub paged_itself : {P : ℕ} {X : List ℕ} {Out : ℕ → Type 0} → KeepsPages P X X Out
paged_itself = record { owner = λ j low out. refl; kind = λ j low out. refl; offset = λ j low out. refl }

pub paged_slot : {P : ℕ} {X Y : List ℕ} {s : ℕ} {Out : ℕ → Type 0} → OnlySlot P X Y s → KeepsPages P X Y Out
paged_slot only = record { owner = λ j low out. only.owner j low; kind = λ j low out. only.kind j low; offset = λ j low out. only.offset j low }

-- those of fewer pages don't stay
pub paged_within : {P : ℕ} {X Y : List ℕ} {Page Out : ℕ → Type 0} → KeepsPages P X Y Page → ((j : ℕ) → Page j → Out j) → KeepsPages P X Y Out
paged_within kept within = record {
  owner = λ j low out. kept.owner j low (λ is. out (within j is));
  kind = λ j low out. kept.kind j low (λ is. out (within j is));
  offset = λ j low out. kept.offset j low (λ is. out (within j is));
}

-- of two that have those of the same, each has the other's
pub paged_between : {P : ℕ} {B X Y : List ℕ} {Out : ℕ → Type 0} → KeepsPages P B X Out → KeepsPages P B Y Out → KeepsPages P X Y Out
paged_between one two = record {
  owner = λ j low out. two.owner j low out ∙ sym (one.owner j low out);
  kind = λ j low out. two.kind j low out ∙ sym (one.kind j low out);
  offset = λ j low out. two.offset j low out ∙ sym (one.offset j low out);
}

-- a page whose descriptor stays is unused in both or in neither
pub unused_same : {P : ℕ} {X Y : List ℕ} {Out : ℕ → Type 0} → KeepsPages P X Y Out → (j : ℕ) → j < data_pages_of P → ¬ Out j → IsUnusedPage P X j ↔ IsUnusedPage P Y j
unused_same kept j low out = (
  (λ (owner, kind). (kept.owner j low out ∙ owner, kept.kind j low out ∙ kind)),
  (λ (owner, kind). (sym (kept.owner j low out) ∙ owner, sym (kept.kind j low out) ∙ kind)),
)

-- ---- nothing was committed

-- From B to Y nothing was committed: Y means what B means and is tidy beside the residue, and has B's entries and kinds, and its descriptors but
-- those of pages that are left.
pub record IsQuietSince (P : ℕ) (B Y : List ℕ) (residue : Residue) : Type 0 where
  pub means : SameMeaning P B Y
  pub beside : IsTidyBeside P Y residue
  pub entries : (d t : ℕ) (bytes : List ℕ) → IsEntryOf P B d bytes t ↔ IsEntryOf P Y d bytes t
  pub kinds : (i : ℕ) → 1 ≤ i → i ≤ inodes_of P → inode_kind Y i ≡ inode_kind B i
  pub paged : KeepsPages P B Y (λ j. IsIn j residue.pages)

-- the words themselves
pub since_itself : (P : ℕ) (B : List ℕ) (residue : Residue) → IsCoherent P B → IsTidyBeside P B residue → IsQuietSince P B B residue
since_itself P B residue coherent beside = record {
  means = same_itself P B coherent;
  beside = beside;
  entries = λ d t bytes. ((λ is. is), (λ is. is));
  kinds = λ i least most. refl;
  paged = paged_itself;
}

-- A step from X to Y, of which no crash changes the meaning, leaves the residue, entries and kinds stay, and descriptors but those of pages that are left.
pub record IsQuietStep (P : ℕ) (X Y : List ℕ) (before after : Residue) : Type 0 where
  pub long : length Y ≡ length X
  pub crash : (M : List ℕ) → IsMix X Y M → SameMeaning P X M
  pub beside : IsTidyBeside P Y after
  pub entries : (d t : ℕ) (bytes : List ℕ) → IsEntryOf P X d bytes t ↔ IsEntryOf P Y d bytes t
  pub kinds : (i : ℕ) → 1 ≤ i → i ≤ inodes_of P → inode_kind Y i ≡ inode_kind X i
  pub paged : KeepsPages P X Y (λ j. IsIn j after.pages)
  pub within : (j : ℕ) → IsIn j before.pages → IsIn j after.pages

pub quiet_step : (P : ℕ) (B X Y : List ℕ) (before after : Residue) → IsCoherent P B → IsQuietSince P B X before → IsQuietSince P B Y after → ((j : ℕ) → IsIn j before.pages → IsIn j after.pages)
    → length Y ≡ length X → ((M : List ℕ) → IsMix X Y M → SameMeaning P B M) → IsQuietStep P X Y before after
quiet_step P B X Y before after coherent one two within long crash = record {
  long = long;
  crash = λ M mix. between P B X M coherent one.means (crash M mix);
  beside = two.beside;
  entries = λ d t bytes. let a = one.entries d t bytes in let b = two.entries d t bytes in ((λ e. b.0 (a.1 e)), (λ e. a.0 (b.1 e)));
  kinds = λ i least most. two.kinds i least most ∙ sym (one.kinds i least most);
  paged = paged_between (paged_within one.paged within) two.paged;
  within = within;
}

-- its words mean what those before it mean
pub step_means : {P : ℕ} {X Y : List ℕ} {before after : Residue} → IsQuietStep P X Y before after → SameMeaning P X Y
step_means {X = X} {Y = Y} step = step.crash Y (mix_itself X Y step.long)
