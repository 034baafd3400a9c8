-- What an index of the image holds after create and mkdir.
use Rattle.std.proofs.Common.{◌≡◌, inl, inr, ℕ, List, sym, ◌∙◌}
use Rattle.layout.specs.Geometry.{page_of_slot, slot_word_of}
use Rattle.layout.specs.declared.kinds.NodeKind.{NodeKind}
use Rattle.tree_model.specs.PathText.{Route}
use Rattle.image_counts.specs.Entries.{IsFreePage}
use Rattle.image_laws.specs.Create.{CanName, MakesEmptyPage, MakesNode, committed, owned}
use Rattle.image_laws.specs.Grown.{HasGrown, GrownLaw, NewPageGrownLaw}
use Rattle.image_laws.proofs.Adds.{only, stored, add_law}
use Rattle.image_laws.proofs.Creates.{is_ready, free_inode}
use Rattle.image_laws.proofs.Making as making
use Rattle.image_laws.proofs.MakeTidy.{grown_after}
use Rattle.image_laws.proofs.PageCreates.{taken}
use Rattle.image_laws.proofs.PageReady.{page_ready, inode_ready, forth, back, owner_same, entry_same, slot_same, file_page_same, kind_as_before}
use Rattle.image_laws.proofs.Words.{other_word}
use Rattle.image_laws.specs.Stages.{IsReady}

-- from an image that is ready
grown_from : (P : ℕ) (B I : List ℕ) (p : Route) (kind : NodeKind) (d s i : ℕ) (name : List ℕ) → IsReady P B p d s i name → MakesNode P B I kind d s i name → HasGrown P B (committed P I s i) d s i name
grown_from P B I p kind d s i name ready makes =
    let can = making.can_add P B I p kind d s i name ready makes in
    grown_after P B I (committed P I s i) p kind d s i name ready makes can (only P I s i can.coherent) (stored P I s i can.coherent can.slot.held.in_range) (other_word I (slot_word_of P s 0) i) (add_law P I p d s i can).coherent

pub grown_law : GrownLaw
grown_law P W I p kind d s i name can vacant makes = grown_from P W I p kind d s i name (is_ready P W p d s i name can vacant) makes

-- from the image in which the directory owns the new page to the one before
pub grown_with_page : (P : ℕ) (W A J : List ℕ) (p : Route) (d j s i : ℕ) (name : List ℕ) (can : CanName P W p d name) (page : IsFreePage P W j) (at : page_of_slot s ≡ j) (made : MakesEmptyPage P W A j)
    → HasGrown P (owned P A j d) J d s i name → HasGrown P W J d s i name
grown_with_page P W A J p d j s i name can page at made g =
    let t = taken P W A p d j s name can page at made in
    record {
      reached = λ x. (
        (λ r. elim ((g.reached x).0 r) [ inl old ↦ inl (back P W (owned P A j d) p d j s name can page at t x old) | inr e ↦ inr e ]),
        (λ h. (g.reached x).1 (elim h [ inl old ↦ inl (forth P W (owned P A j d) p d j s name can page at t x old) | inr e ↦ inr e ])),
      );
      entries = λ x u.
          let same = entry_same P W (owned P A j d) p d j s name can page at t x u in (
            (λ h. elim ((g.entries x u).0 h) [ inl old ↦ inl (same.0 old) | inr new ↦ inr new ]),
            (λ h. (g.entries x u).1 (elim h [ inl old ↦ inl (same.1 old) | inr new ↦ inr new ])),
          );
      pages = λ x y. (
        (λ h. elim ((g.pages x y).0 h) [ inl old ↦ inl ((t.rooms x y).1 old) | inr new ↦ inr new ]),
        (λ h. (g.pages x y).1 (elim h [ inl old ↦ inl ((t.rooms x y).0 old) | inr new ↦ inr new ])),
      );
      files = λ x k y r file.
          let same = file_page_same P W (owned P A j d) p d j s name can page at t x k y r in
          let after = g.files x k y (forth P W (owned P A j d) p d j s name can page at t x r) (kind_as_before P W (owned P A j d) p d j s name can page at t x r file) in
          ((λ h. same.0 (after.0 h)), (λ h. after.1 (same.1 h)));
      owner = g.owner;
      owners = λ y lt ne. g.owners y lt ne ∙ owner_same P W (owned P A j d) p d j s name can page at t y lt (λ e. ne (e ∙ sym at));
      new_name = g.new_name;
      new_inode = g.new_inode;
      names = λ u r. g.names u ((t.reached_slots u).0 r) ∙ (slot_same P W (owned P A j d) p d j s name can page at t u r).0;
      inodes = λ u r. g.inodes u ((t.reached_slots u).0 r) ∙ (slot_same P W (owned P A j d) p d j s name can page at t u r).1;
    }

pub new_page_grown_law : NewPageGrownLaw
new_page_grown_law P W A I p kind d j s i name can page at made makes =
    let t = taken P W A p d j s name can.place page at made in
    let inode = inode_ready P W (owned P A j d) p d j s name can.place page at t i (free_inode P W p d i name can) in
    grown_with_page P W A (committed P I s i) p d j s i name can.place page at made
    (grown_from P (owned P A j d) I p kind d s i name (record { place = page_ready P W (owned P A j d) p d j s name can.place page at t; inode = inode }) makes)
