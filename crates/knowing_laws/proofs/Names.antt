-- What is known once a name is in the index, with the page that it came with.
use Rattle.std.proofs.Common.{◌≡◌, ◌≢◌, ◌↔◌, inl, inr, ℕ, ◌≤◌, List, ◌++◌, refl, sym, ap, subst, ◌∙◌}
use Rattle.std.specs.Prelude.{Contains}
use Rattle.std.proofs.lemmas.Bool.{cases_eq}
use Rattle.layout.specs.Geometry.{inodes_of}
use Rattle.image_reading.specs.Reading.{HasBytes}
use Rattle.image_counts.specs.Entries.{IsEntryOf}
use Rattle.volatile_index.specs.Index.{NodeView, node_of, entries_of, pages_of}
use Rattle.volatile_index.specs.declared.entry.Entry.{Entry}
use Rattle.volatile_index.proofs.EntryLaws.{contains_entry, contains_still, contains_before}
use Rattle.volume.specs.Volume.{VolumeView}
use Rattle.volume.specs.Entered.{pages_of_option}
use Rattle.volume.specs.Beside.{KnowsNodesBeside, KnowsBeside}
use Rattle.entry_steps.proofs.Lists.{contains_at}
use Rattle.knowing_laws.specs.Knowing.{NameKnownLaw}
use Rattle.knowing_laws.proofs.Pages.{with_index, known_by_nodes, IsGrown, grown}

same_entry : (a b : List ℕ) (t u : ℕ) → a ≡ b → t ≡ u → ◌≡◌ {A = Entry} (record { name = a; slot = t }) (record { name = b; slot = u })
same_entry a b t u names slots = cc

pub name_known : NameKnownLaw
name_known old new I J before after d slot name new_page knows long least most brings keeps are change puts =
    subst (λ (v : VolumeView). KnowsBeside v J after) (sym puts.rest)
    (subst (λ (v : VolumeView). KnowsBeside (with_index v new.index) J after) (sym puts.page.rest) (known_by_nodes old new.index I J before after knows long change nodes))
  where
    mid : List NodeView
    mid = puts.opened.index

    pages : List ℕ
    pages = pages_of_option new_page

    added : Entry
    added = record { name = name; slot = slot }

    here : pages_of new.index d ≡ pages_of old.index d ++ pages
    here = puts.index.node.pages ∙ puts.page.index.node.pages

    others : (x : ℕ) → x ≢ d → node_of new.index x ≡ node_of old.index x
    others x other = puts.index.elsewhere.others x other ∙ puts.page.index.elsewhere.others x other

    elsewhere : (x : ℕ) → x ≢ d → pages_of new.index x ≡ pages_of old.index x
    elsewhere x other = ap (λ (node : NodeView). node.pages) (others x other)

    mid_has : (entry : Entry) → Contains (entries_of mid d) entry ↔ Contains (entries_of old.index d) entry
    mid_has entry = subst (λ (l : List Entry). Contains l entry ↔ Contains (entries_of old.index d) entry) (sym puts.page.index.node.entries) ((λ there. there), (λ there. there))

    entries_here : (t : ℕ) (bytes : List ℕ) → Contains (entries_of new.index d) (record { name = bytes; slot = t }) ↔ IsEntryOf old.size J d bytes t
    entries_here t bytes =
        let a = knows.nodes.entries d t bytes least most in
        let b = brings.entries d t bytes in
        let m = mid_has (record { name = bytes; slot = t }) in (
          (λ there. elim (contains_before (entries_of mid d) (entries_of new.index d) added (record { name = bytes; slot = t }) puts.index.node.entries there) [
            | inl same ↦ b.1 (inr (refl, ap (λ (e : Entry). e.slot) same, ap (λ (e : Entry). e.name) same))
            | inr was ↦ b.1 (inl (a.0 (m.0 was)))
          ]),
          (λ is. elim (b.0 is) [
            | inl was ↦ contains_still (entries_of mid d) (entries_of new.index d) added (record { name = bytes; slot = t }) puts.index.node.entries (m.1 (a.1 was))
            | inr (same, slots, names) ↦ subst (λ (e : Entry). Contains (entries_of new.index d) e) (same_entry name bytes slot t (sym names) (sym slots)) (contains_entry (entries_of mid d) (entries_of new.index d) added puts.index.node.entries)
          ]),
        )

    entries_there : (e t : ℕ) (bytes : List ℕ) → e ≢ d → 1 ≤ e → e ≤ inodes_of old.size → Contains (entries_of new.index e) (record { name = bytes; slot = t }) ↔ IsEntryOf old.size J e bytes t
    entries_there e t bytes other some upto = subst (λ (l : List Entry). Contains l (record { name = bytes; slot = t }) ↔ IsEntryOf old.size J e bytes t) (ap (λ (node : NodeView). node.entries) (sym (others e other)))
        (let a = knows.nodes.entries e t bytes some upto in let b = brings.entries e t bytes in (
          (λ there. b.1 (inl (a.0 there))),
          (λ is. elim (b.0 is) [ inl was ↦ a.1 was | inr (same, slots, names) ↦ absurd (other same) ]),
        ))

    now : IsGrown old new.index I J after d pages
    now = grown old new.index I J before after d pages knows least most keeps are here elsewhere

    nodes : KnowsNodesBeside old.size new.index J after
    nodes = record {
      each_inode = puts.index.elsewhere.inodes ∙ puts.page.index.elsewhere.inodes ∙ knows.nodes.each_inode;
      entries = λ e t bytes some upto. elim (cases_eq e d) [
        | inl same ↦ subst (λ y. Contains (entries_of new.index y) (record { name = bytes; slot = t }) ↔ IsEntryOf old.size J y bytes t) (sym same) (entries_here t bytes)
        | inr other ↦ entries_there e t bytes other some upto
      ];
      pages = now.listed;
      once = now.once;
      offsets = λ x k j reached file kept stands. elim (brings.files x reached file) [
        | inl was ↦ elim (now.offsets x k j was kept stands) [
          | inl is ↦ is
          | inr (same, n, at, count) ↦ absurd (brings.directory (subst (HasBytes J) same file))
        ]
        | inr (some, upto, none) ↦ absurd (none j ((now.listed x j some upto kept).0 (contains_at (pages_of new.index x) k j stands)))
      ];
    }
