-- What an index holds from step to step.
use Rattle.std.proofs.Common.{◌≡◌, ◌≢◌, ◌↔◌, ◌⊎◌, inl, inr, ℕ, ◌+◌, ◌<◌, ◌≤◌, List, [], ◌∷◌, ◌++◌, length, get_or, set, Contains, Some, refl, sym, ap, subst, ◌∙◌, arith}
use Rattle.std.specs.Prelude.{slice_get}
use Rattle.std.proofs.lemmas.Bool.{cases_eq, cases_lt}
use Rattle.std.proofs.lemmas.List.{length-set}
use Rattle.std.proofs.lemmas.Option.{slice_get_within}
use Rattle.layout.specs.Geometry.{inodes_of, data_pages_of}
use Rattle.layout.specs.Fields.{inode_kind, page_owner, page_offset, slot_name}
use Rattle.image_reading.specs.Counts.{IsIn, IsDistinct}
use Rattle.image_reading.specs.Reading.{IsDirectory, HasBytes, slot_owner}
use Rattle.image_reading.proofs.ReachedTable.{place_of, distinct_at}
use Rattle.image_reading.specs.Tidy.{Tidy}
use Rattle.image_counts.specs.Entries.{IsEntryOf, IsPageIn}
use Rattle.volatile_index.specs.Entries.{IsAbsent, IsWithEntry}
use Rattle.volatile_index.proofs.EntryLaws.{contains_none, contains_entry, contains_still, contains_before}
use Rattle.volatile_index.specs.Index.{NodeView, node_of, IsSameElsewhere}
use Rattle.volatile_index.specs.declared.entry.Entry.{Entry}
use Rattle.volume.specs.Stands.{KnowsNodes}
use Rattle.mount_scan.specs.Building.{IsAmong, HasPlacesOf, HasPlaces, HoldsOf, Holds}
use Rattle.mount_scan.proofs.Lists.{got_contained, contained_got, distinct_by_places, push_cases, push_still, push_there, push_distinct, set_there, set_elsewhere}
use Rattle.mount_scan.proofs.Facts.{in_table, owner_reached, offset_below, page_at, one_offset, one_entry}

none_in_nil : (x : ℕ) → ¬ Contains [] x
none_in_nil x (k, lt, is) = omega arith

none_put : (names : List ℕ) (s : ℕ) → ¬ IsAmong names 0 s
none_put names s (k, lt, is) = omega (arith, lt)

-- ---- before the first page

module _ (P : ℕ) (I : List ℕ) where
  places_hold : (i : ℕ) (held : NodeView) → HasPlacesOf I i held → HoldsOf P I 0 [] 0 i held
  places_hold i held has = record {
    entries = λ slot bytes. (
      (λ there. absurd (contains_none (record { name = bytes; slot = slot }) (subst (λ (es : List Entry). Contains es (record { name = bytes; slot = slot })) has.entries there))),
      (λ (entry, among). absurd (none_put [] slot among)),
    );
    of_others = λ other page. (
      (λ there. absurd (none_in_nil page (subst (λ (xs : List ℕ). Contains xs page) (has.of_others other) there))),
      (λ (is, below). absurd (omega (arith, below))),
    );
    once = λ other. subst IsDistinct (sym (has.of_others other)) tt;
    places = has.of_file;
    of_file = λ file page is below. absurd (omega (arith, below));
  }

  pub all_places_hold : (index : List NodeView) → HasPlaces P I (inodes_of P) index → Holds P I 0 [] 0 index
  all_places_hold index has = record {
    each_inode = has.each_inode;
    each = λ i least most. places_hold i (node_of index i) (has.made i least most);
  }

  -- ---- pages of which there is nothing to hold

  more_pages : (i p more : ℕ) (names : List ℕ) (put : ℕ) (held : NodeView) → ((page : ℕ) → p ≤ page → page < more → ¬ IsPageIn P I i page) → p ≤ more
      → HoldsOf P I p names put i held → HoldsOf P I more names put i held
  more_pages i p more names put held none le holds = record {
    entries = holds.entries;
    of_others = λ other page. (
      (λ there. let (is, below) = (holds.of_others other page).0 there in (is, omega (arith, below, le))),
      (λ (is, below). (holds.of_others other page).1 (is, old page is below)),
    );
    once = holds.once;
    places = holds.places;
    of_file = λ file page is below. holds.of_file file page is (old page is below);
  }
    where
      old : (page : ℕ) → IsPageIn P I i page → page < more → page < p
      old page is below = elim (cases_lt page p) [ inl lt ↦ lt | inr ge ↦ absurd (none page ge below is) ]

  -- ---- one page more

  with_page : (i p : ℕ) (names : List ℕ) (put : ℕ) (old new : NodeView) → ¬ HasBytes I i → IsPageIn P I i p → new.pages ≡ old.pages ++ p ∷ [] → new.entries ≡ old.entries
      → HoldsOf P I p names put i old → HoldsOf P I (p + 1) names put i new
  with_page i p names put old new other page pages entries holds = record {
    entries = λ slot bytes. subst (λ (es : List Entry). Contains es (record { name = bytes; slot = slot }) ↔ (IsEntryOf P I i bytes slot × IsAmong names put slot)) (sym entries) (holds.entries slot bytes);
    of_others = λ not_file x. subst (λ (xs : List ℕ). Contains xs x ↔ (IsPageIn P I i x × (x < p + 1))) (sym pages) (to x, from x);
    once = λ not_file. subst IsDistinct (sym pages) (push_distinct old.pages p (holds.once other) (λ there. let (is, below) = (holds.of_others other p).0 there in omega (arith, below)));
    places = λ file. absurd (other file);
    of_file = λ file. absurd (other file);
  }
    where
      to : (x : ℕ) → Contains (old.pages ++ p ∷ []) x → IsPageIn P I i x × (x < p + 1)
      to x there = elim (push_cases old.pages p x there) [
        | inl before ↦ let (is, below) = (holds.of_others other x).0 before in (is, omega (arith, below))
        | inr same ↦ (subst (IsPageIn P I i) (sym same) page, omega (arith, same))
      ]

      from : (x : ℕ) → IsPageIn P I i x × (x < p + 1) → Contains (old.pages ++ p ∷ []) x
      from x (is, below) = elim (cases_lt x p) [
        | inl lt ↦ push_still old.pages p x ((holds.of_others other x).1 (is, lt))
        | inr ge ↦ let same : p ≡ x = omega (arith, below, ge) in subst (λ (y : ℕ). Contains (old.pages ++ p ∷ []) y) same (push_there old.pages p)
      ]

  with_file_page : (i p : ℕ) (names : List ℕ) (put : ℕ) (old new : NodeView) → Tidy P I → 1 ≤ i → i ≤ inodes_of P → HasBytes I i → IsPageIn P I i p
      → new.pages ≡ set old.pages (page_offset P I p) p → new.entries ≡ old.entries
      → HoldsOf P I p names put i old → HoldsOf P I (p + 1) names put i new
  with_file_page i p names put old new tidy least most file page pages entries holds = record {
    entries = λ slot bytes. subst (λ (es : List Entry). Contains es (record { name = bytes; slot = slot }) ↔ (IsEntryOf P I i bytes slot × IsAmong names put slot)) (sym entries) (holds.entries slot bytes);
    of_others = λ other. absurd (other file);
    once = λ other. absurd (other file);
    places = λ is_file. ap length pages ∙ length-set old.pages (page_offset P I p) p ∙ holds.places file;
    of_file = λ is_file x is below. subst (λ (xs : List ℕ). slice_get xs (page_offset P I x) ≡ Some x) (sym pages) (at x is below);
  }
    where
      at : (x : ℕ) → IsPageIn P I i x → x < p + 1 → slice_get (set old.pages (page_offset P I p) p) (page_offset P I x) ≡ Some x
      at x is below = elim (cases_lt x p) [
        | inl lt ↦ set_elsewhere old.pages (page_offset P I p) (page_offset P I x) p x
            (λ same. let one = one_offset P I tidy i least most file x p is page same in omega (arith, lt, one)) (holds.of_file file x is lt)
        | inr ge ↦
            let same : p ≡ x = omega (arith, below, ge) in
            subst (λ (y : ℕ). slice_get (set old.pages (page_offset P I p) p) (page_offset P I y) ≡ Some y) same
            (set_there old.pages (page_offset P I p) p (let long = holds.places file in let offset = offset_below P I tidy i least most file p page in omega (arith, long, offset)))
      ]

  -- ---- one entry more

  module _ (names : List ℕ) (put s : ℕ) (next : get_or names put 0 ≡ s) where
    still : (slot : ℕ) → IsAmong names put slot → IsAmong names (put + 1) slot
    still slot (k, lt, is) = (k, omega (arith, lt), is)

    cases_among : (slot : ℕ) → IsAmong names (put + 1) slot → IsAmong names put slot ⊎ (s ≡ slot)
    cases_among slot (k, lt, is) = elim (cases_lt k put) [
      | inl before ↦ inl (k, before, is)
      | inr ge ↦ let last : put ≡ k = omega (arith, lt, ge) in inr (sym next ∙ ap (λ j. get_or names j 0) last ∙ is)
    ]

    with_entry : (i p : ℕ) (old new : NodeView) (bytes : List ℕ) → IsEntryOf P I i bytes s → IsWithEntry old.entries new.entries (record { name = bytes; slot = s }) → new.pages ≡ old.pages
        → HoldsOf P I p names put i old → HoldsOf P I p names (put + 1) i new
    with_entry i p old new bytes entry with pages holds = record {
      entries = λ slot name. (to slot name, from slot name);
      of_others = λ other x. subst (λ (xs : List ℕ). Contains xs x ↔ (IsPageIn P I i x × (x < p))) (sym pages) (holds.of_others other x);
      once = λ other. subst IsDistinct (sym pages) (holds.once other);
      places = λ file. ap length pages ∙ holds.places file;
      of_file = λ file x is below. subst (λ (xs : List ℕ). slice_get xs (page_offset P I x) ≡ Some x) (sym pages) (holds.of_file file x is below);
    }
      where
        to : (slot : ℕ) (name : List ℕ) → Contains new.entries (record { name = name; slot = slot }) → IsEntryOf P I i name slot × IsAmong names (put + 1) slot
        to slot name there = elim (contains_before old.entries new.entries (record { name = bytes; slot = s }) (record { name = name; slot = slot }) with there) [
          | inl same ↦
              let slots = ap (λ (e : Entry). e.slot) same in
              (subst (λ (e : Entry). IsEntryOf P I i e.name e.slot) (sym same) entry, (put, omega arith, next ∙ sym slots))
          | inr before ↦ let (is, among) = (holds.entries slot name).0 before in (is, still slot among)
        ]

        from : (slot : ℕ) (name : List ℕ) → IsEntryOf P I i name slot × IsAmong names (put + 1) slot → Contains new.entries (record { name = name; slot = slot })
        from slot name (is, among) = elim (cases_among slot among) [
          | inl before ↦ contains_still old.entries new.entries (record { name = bytes; slot = s }) (record { name = name; slot = slot }) with ((holds.entries slot name).1 (is, before))
          | inr same ↦
              let same_names = sym entry.name ∙ ap (slot_name P I) same ∙ is.name in
              subst (λ (e : Entry). Contains new.entries e) (λ k. record { name = same_names k; slot = same k }) (contains_entry old.entries new.entries (record { name = bytes; slot = s }) with)
        ]

    without_entry : (d i p : ℕ) (held : NodeView) (bytes : List ℕ) → IsEntryOf P I d bytes s → i ≢ d → HoldsOf P I p names put i held → HoldsOf P I p names (put + 1) i held
    without_entry d i p held bytes entry apart holds = record {
      entries = λ slot name. (
        (λ there. let (is, among) = (holds.entries slot name).0 there in (is, still slot among)),
        (λ (is, among). elim (cases_among slot among) [
          | inl before ↦ (holds.entries slot name).1 (is, before)
          | inr same ↦ absurd (apart (sym is.owner ∙ ap (slot_owner P I) (sym same) ∙ entry.owner))
        ]),
      );
      of_others = holds.of_others;
      once = holds.once;
      places = holds.places;
      of_file = holds.of_file;
    }

    pub entry_absent : (i p : ℕ) (held : NodeView) (bytes : List ℕ) → Tidy P I → IsDistinct names → put < length names → IsEntryOf P I i bytes s → HoldsOf P I p names put i held → IsAbsent held.entries bytes
    entry_absent i p held bytes tidy distinct within entry holds other there same =
        let (is, (k, lt, at)) = (holds.entries other.slot other.name).0 there in
        let one = one_entry P I tidy i other.slot s bytes (subst (λ (name : List ℕ). IsEntryOf P I i name other.slot) same is) entry in
        distinct_at names k put distinct lt within (at ∙ one ∙ sym next)

  kept : (i p : ℕ) (names : List ℕ) (put : ℕ) (old new : NodeView) → new.entries ≡ old.entries → new.pages ≡ old.pages → HoldsOf P I p names put i old → HoldsOf P I p names put i new
  kept i p names put old new entries pages holds = record {
    entries = λ slot bytes. subst (λ (es : List Entry). Contains es (record { name = bytes; slot = slot }) ↔ (IsEntryOf P I i bytes slot × IsAmong names put slot)) (sym entries) (holds.entries slot bytes);
    of_others = λ other x. subst (λ (xs : List ℕ). Contains xs x ↔ (IsPageIn P I i x × (x < p))) (sym pages) (holds.of_others other x);
    once = λ other. subst IsDistinct (sym pages) (holds.once other);
    places = λ file. ap length pages ∙ holds.places file;
    of_file = λ file x is below. subst (λ (xs : List ℕ). slice_get xs (page_offset P I x) ≡ Some x) (sym pages) (holds.of_file file x is below);
  }

  -- ---- a step at one inode

  at_one : (d p more : ℕ) (names : List ℕ) (put more_put : ℕ) (old new : List NodeView) → IsSameElsewhere d old new → HoldsOf P I more names more_put d (node_of new d)
      → ((i : ℕ) → 1 ≤ i → i ≢ d → (held : NodeView) → HoldsOf P I p names put i held → HoldsOf P I more names more_put i held) → Holds P I p names put old → Holds P I more names more_put new
  at_one d p more names put more_put old new elsewhere here others holds = record {
    each_inode = elsewhere.inodes ∙ holds.each_inode;
    each = λ i least most. elim (cases_eq i d) [
      | inl same ↦ subst (λ (k : ℕ). HoldsOf P I more names more_put k (node_of new k)) (sym same) here
      | inr other ↦ subst (HoldsOf P I more names more_put i) (sym (elsewhere.others i other)) (others i least other (node_of old i) (holds.each i least most))
    ];
  }

  -- what is held stays
  pub all_kept : (d p : ℕ) (names : List ℕ) (put : ℕ) (old new : List NodeView) → IsSameElsewhere d old new → (node_of new d).entries ≡ (node_of old d).entries → (node_of new d).pages ≡ (node_of old d).pages
      → Holds P I p names put old → Holds P I p names put new
  all_kept d p names put old new elsewhere entries pages holds = record {
    each_inode = elsewhere.inodes ∙ holds.each_inode;
    each = λ i least most. elim (cases_eq i d) [
      | inl same ↦ kept i p names put (node_of old i) (node_of new i)
          (ap (λ k. (node_of new k).entries) same ∙ entries ∙ ap (λ k. (node_of old k).entries) (sym same))
          (ap (λ k. (node_of new k).pages) same ∙ pages ∙ ap (λ k. (node_of old k).pages) (sym same)) (holds.each i least most)
      | inr other ↦ subst (HoldsOf P I p names put i) (sym (elsewhere.others i other)) (holds.each i least most)
    ];
  }

  pub entry_put : (d p : ℕ) (names : List ℕ) (put s : ℕ) (old new : List NodeView) (bytes : List ℕ) → get_or names put 0 ≡ s → 1 ≤ d → d ≤ inodes_of P → IsEntryOf P I d bytes s → IsSameElsewhere d old new
      → IsWithEntry (node_of old d).entries (node_of new d).entries (record { name = bytes; slot = s }) → (node_of new d).pages ≡ (node_of old d).pages
      → Holds P I p names put old → Holds P I p names (put + 1) new
  entry_put d p names put s old new bytes next least most entry elsewhere with pages holds =
      at_one d p p names put (put + 1) old new elsewhere (with_entry names put s next d p (node_of old d) (node_of new d) bytes entry with pages (holds.each d least most))
      (λ i from_one apart held. without_entry names put s next d i p held bytes entry apart) holds

  -- nothing is put yet, of whichever names
  pub none_of : (p : ℕ) (names : List ℕ) (index : List NodeView) → Holds P I p [] 0 index → Holds P I p names 0 index
  none_of p names index holds = record {
    each_inode = holds.each_inode;
    each = λ i least most. let held = holds.each i least most in record {
      entries = λ slot bytes. (
        (λ there. let (is, among) = (held.entries slot bytes).0 there in absurd (none_put [] slot among)),
        (λ (is, among). absurd (none_put names slot among)),
      );
      of_others = held.of_others;
      once = held.once;
      places = held.places;
      of_file = held.of_file;
    };
  }

  -- ---- whole pages

  no_other_page : (p i page : ℕ) → page_owner P I p ≢ i → p ≤ page → page < p + 1 → ¬ IsPageIn P I i page
  no_other_page p i page apart low high is = let same : page ≡ p = omega (arith, low, high) in apart (ap (page_owner P I) (sym same) ∙ is.owner)

  not_mine : (p i : ℕ) (held : NodeView) → page_owner P I p ≢ i → HoldsOf P I p [] 0 i held → HoldsOf P I (p + 1) [] 0 i held
  not_mine p i held apart holds = more_pages i p (p + 1) [] 0 held (λ page. no_other_page p i page apart) (omega arith) holds

  pub page_skipped : (p : ℕ) (index : List NodeView) → page_owner P I p ≡ 0 → Holds P I p [] 0 index → Holds P I (p + 1) [] 0 index
  page_skipped p index free holds = record {
    each_inode = holds.each_inode;
    each = λ i least most. not_mine p i (node_of index i) (λ same. omega (arith, least, free, same)) (holds.each i least most);
  }

  pub file_page_set : (p : ℕ) (old new : List NodeView) → Tidy P I → p < data_pages_of P → page_owner P I p ≢ 0 → HasBytes I (page_owner P I p) → IsSameElsewhere (page_owner P I p) old new
      → (node_of new (page_owner P I p)).pages ≡ set (node_of old (page_owner P I p)).pages (page_offset P I p) p
      → (node_of new (page_owner P I p)).entries ≡ (node_of old (page_owner P I p)).entries
      → Holds P I p [] 0 old → Holds P I (p + 1) [] 0 new
  file_page_set p old new tidy within owned file elsewhere pages entries holds =
      at_one (page_owner P I p) p (p + 1) [] 0 0 old new elsewhere
      (with_file_page (page_owner P I p) p [] 0 (node_of old (page_owner P I p)) (node_of new (page_owner P I p)) tidy range.0 range.1 file (record { in_range = within; owner = refl }) pages entries (holds.each (page_owner P I p) range.0 range.1))
      (λ i least apart held. not_mine p i held (λ same. apart (sym same))) holds
    where
      range : (1 ≤ page_owner P I p) × (page_owner P I p ≤ inodes_of P)
      range = in_table P I tidy (page_owner P I p) (owner_reached P I tidy p within owned)

  pub page_pushed : (p : ℕ) (old new : List NodeView) → Tidy P I → p < data_pages_of P → page_owner P I p ≢ 0 → IsDirectory I (page_owner P I p) → IsSameElsewhere (page_owner P I p) old new
      → (node_of new (page_owner P I p)).pages ≡ (node_of old (page_owner P I p)).pages ++ p ∷ []
      → (node_of new (page_owner P I p)).entries ≡ (node_of old (page_owner P I p)).entries
      → Holds P I p [] 0 old → Holds P I (p + 1) [] 0 new
  page_pushed p old new tidy within owned directory elsewhere pages entries holds =
      at_one (page_owner P I p) p (p + 1) [] 0 0 old new elsewhere
      (with_page (page_owner P I p) p [] 0 (node_of old (page_owner P I p)) (node_of new (page_owner P I p)) (λ file. omega (arith, file, directory)) (record { in_range = within; owner = refl }) pages entries (holds.each (page_owner P I p) range.0 range.1))
      (λ i least apart held. not_mine p i held (λ same. apart (sym same))) holds
    where
      range : (1 ≤ page_owner P I p) × (page_owner P I p ≤ inodes_of P)
      range = in_table P I tidy (page_owner P I p) (owner_reached P I tidy p within owned)

  -- ---- after the last page and the last name

  module _ (tidy : Tidy P I) (index : List NodeView) (names : List ℕ) (holds : Holds P I (data_pages_of P) names (length names) index) where
    abbrev pages_at : ℕ → List ℕ
    pages_at i = (node_of index i).pages

    module _ (i : ℕ) (least : 1 ≤ i) (most : i ≤ inodes_of P) (file : HasBytes I i) where
      placed : (k x : ℕ) → slice_get (pages_at i) k ≡ Some x → IsPageIn P I i x × (page_offset P I x ≡ k)
      placed k x is =
          let within = slice_get_within (pages_at i) k x is in
          let long = (holds.each i least most).places file in
          let (j, page, offset) = page_at P I tidy i least most file k (omega (arith, within, long)) in
          let there = (holds.each i least most).of_file file j page page.in_range in
          let same : Some j ≡ Some x = sym there ∙ ap (slice_get (pages_at i)) offset ∙ is in
          let one : j ≡ x = cc in
          (subst (IsPageIn P I i) one page, ap (page_offset P I) (sym one) ∙ offset)

      file_pages : (x : ℕ) → Contains (pages_at i) x ↔ IsPageIn P I i x
      file_pages x = (
        (λ there. let (k, lt, is) = contained_got (pages_at i) x there in (placed k x is).0),
        (λ page. got_contained (pages_at i) (page_offset P I x) x ((holds.each i least most).of_file file x page page.in_range)),
      )

      file_once : IsDistinct (pages_at i)
      file_once = distinct_by_places (pages_at i) (λ k l x a b. sym (placed k x a).1 ∙ (placed l x b).1)

    other_pages : (i : ℕ) → 1 ≤ i → i ≤ inodes_of P → ¬ HasBytes I i → (x : ℕ) → Contains (pages_at i) x ↔ IsPageIn P I i x
    other_pages i least most other x = (
      (λ there. (((holds.each i least most).of_others other x).0 there).0),
      (λ page. ((holds.each i least most).of_others other x).1 (page, page.in_range)),
    )

    pub knows_nodes : ((d slot : ℕ) (bytes : List ℕ) → IsEntryOf P I d bytes slot → IsIn slot names) → KnowsNodes P index I
    knows_nodes all = record {
      each_inode = holds.each_inode;
      entries = λ d slot bytes least most. (
        (λ there. (((holds.each d least most).entries slot bytes).0 there).0),
        (λ entry. ((holds.each d least most).entries slot bytes).1 (entry, place_of slot names (all d slot bytes entry))),
      );
      pages = λ i x least most. elim (cases_eq (inode_kind I i) 1) [ inl file ↦ file_pages i least most file x | inr other ↦ other_pages i least most other x ];
      once = λ i least most. elim (cases_eq (inode_kind I i) 1) [ inl file ↦ file_once i least most file | inr other ↦ (holds.each i least most).once other ];
      offsets = λ i k x reached file is. let within = in_table P I tidy i reached in (placed i within.0 within.1 file k x is).1;
    }
