-- A growth that waits while another call makes a step: it waits still, and holds the same.
use Rattle.std.proofs.Common.{◌≡◌, ◌⊎◌, inl, inr, ℕ, ◌<◌, ◌≤◌, true, List, [], ◌∷◌, ◌++◌, length, refl, sym, ap, subst, ◌∙◌, arith}
use Rattle.std.specs.Prelude.{Contains}
use Rattle.std.proofs.lemmas.List.Elements.{Contains-append_left}
use Rattle.pm_trait.specs.DeviceView.{DeviceView}
use Rattle.layout.specs.declared.fields.InodeFields.{InodeFields}
use Rattle.layout.specs.Geometry.{inodes_of, data_pages_of, descriptor_word_of}
use Rattle.layout.specs.Fields.{page_owner}
use Rattle.layout.proofs.GeometryLaws.{descriptor_word_within}
use Rattle.tree_model.specs.Run.{State}
use Rattle.tree_model.specs.Tree.{is_file, is_file_node}
use Rattle.inode_state.specs.States.{IsLive}
use Rattle.inode_state.specs.Inode.{fields_at}
use Rattle.inode_state.specs.Covered.{IsPageAt}
use Rattle.inode_state.proofs.InodeLaws.{same_fields}
use Rattle.image_reading.specs.Counts.{IsIn}
use Rattle.image_reading.specs.Reading.{pages_of_size}
use Rattle.image_reading.specs.Residue.{Residue}
use Rattle.image_reading.specs.Soundness.{Rule}
use Rattle.image_counts.specs.Entries.{IsPageIn, IsUnusedPage}
use Rattle.image_counts.proofs.Distinct.{in_back, in_either}
use Rattle.content_laws.proofs.Lists.{contains_at}
use Rattle.weave_laws.specs.Beside.{KeepsPage, KeepsInode}
use Rattle.weave_laws.specs.Joined.{joined}
use Rattle.weave_laws.specs.Growing.{HaveRange}
use Rattle.weave_laws.specs.Waiting.{AreInOrder, HasNoPageOf}
use Rattle.weave_laws.proofs.Contained.{in_contained, contained_in, in_or_not}
use Rattle.weave_laws.proofs.Growing.{kept_range_law}
use Rattle.volatile_index.specs.Index.{pages_of}
use Rattle.volume.specs.Volume.{VolumeView}
use Rattle.volume.specs.Entered.{HasPagePlaces}
use Rattle.data_ops.specs.declared.grow.Growth.{Growth}
use Rattle.data_ops.specs.declared.grow.Progress.{Progress}
use Rattle.data_ops.specs.declared.grow.Progress.TheVariants.{Begun, Filled, Owned}
use Rattle.data_ops.specs.Files.{HasPages}
use Rattle.data_ops.specs.Steps.{CanRaise}
use Rattle.data_ops.specs.GrowthStages.{AreFilled, AreTaken, HasNewPages, IsGrowthAt, KnowsGrowth}
use Rattle.waiting_laws.specs.Beside.{HasSameNode, StandsWith, PassesBy}
use Rattle.waiting_laws.specs.Growing.{file_held_by, pages_left_by, HasItsNewPages, WaitsToGrow, GrowthStillLaw}
use Rattle.waiting_laws.proofs.FileKnown.{used_taken}
use Rattle.waiting_laws.proofs.FilePages as files
use Rattle.waiting_laws.proofs.FilePages.{bytes_still, held_same}
use Rattle.waiting_laws.proofs.GrowingHeld as held

-- the places of a list stay
same_places : (old new : VolumeView) (inode : ℕ) (pages : List ℕ) → HasSameNode inode old.index new.index → HasPagePlaces old inode pages → HasPagePlaces new inode pages
same_places old new inode [] same places = tt
same_places old new inode (page ∷ pages) same places =
    let long = ap (λ (l : List ℕ). length l) same.pages in
    let more = same.page_places in
    omega (arith, long, more, places)

-- the new pages are taken at both moments at which the call waits
taken_while : (volume : VolumeView) (pages : List ℕ) (P : ℕ) (I : List ℕ) (inode : ℕ) (progress : Progress) → HasItsNewPages P I inode pages progress → AreTaken volume pages → HasNewPages volume pages progress
taken_while volume pages P I inode Begun words taken = absurd words
taken_while volume pages P I inode Filled words taken = taken
taken_while volume pages P I inode Owned words taken = taken

module _ (old new : VolumeView) (before after : DeviceView) (state later : State) (growth : Growth) (bytes pages : List ℕ) (progress : Progress) (others now : Residue)
    (waiting : WaitsToGrow old before state growth bytes pages progress others) (passes : PassesBy old new before after state later (file_held_by old growth.inode pages))
    (beside : StandsWith new after later (pages_left_by growth.inode pages) now) (alone : HasNoPageOf new.size after.words now growth.inode) where
  abbrev P : ℕ
  P = old.size

  abbrev I : List ℕ
  I = before.words

  abbrev J : List ℕ
  J = after.words

  abbrev i : ℕ
  i = growth.inode

  abbrev own : List ℕ
  own = pages_of old.index i

  abbrev residue : Residue
  residue = joined (pages_left_by i pages) now

  -- ---- what is kept

  own_same : pages_of new.index i ≡ own
  own_same = (passes.index i (inl refl)).pages

  -- what is said of the old volume's size and of its list is said of the new one's
  moved : (Q : ℕ → List ℕ → Type 0) → Q P own → Q new.size (pages_of new.index i)
  moved Q q = subst (λ n. Q n (pages_of new.index i)) (sym passes.size) (subst (Q P) (sym own_same) q)

  inode_kept : KeepsInode I J i
  inode_kept = passes.words.of_inodes i (inl refl)

  page_kept : (j : ℕ) → Contains (own ++ pages) j → KeepsPage P I J j
  page_kept j there = passes.words.of_pages j (contained_in j (own ++ pages) there)

  old_kept : (j : ℕ) → Contains own j → KeepsPage P I J j
  old_kept j there = page_kept j (Contains-append_left own pages j there)

  new_kept : (j : ℕ) → Contains pages j → KeepsPage P I J j
  new_kept j there = passes.words.of_pages j (in_back j own pages (contained_in j pages there))

  fields_kept : fields_at J i ≡ fields_at I i
  fields_kept = same_fields (fields_at J i) (fields_at I i) inode_kept.kind inode_kept.links inode_kept.size inode_kept.own

  still_in : (j : ℕ) → Contains (own ++ pages) j → IsPageIn P I i j → IsPageIn P J i j
  still_in j there page = record { in_range = page.in_range; owner = (page_kept j there).owner ∙ page.owner }

  -- ---- the file and its pages

  still_file : is_file later.tree i ≡ true
  still_file = ap is_file_node (passes.nodes.nodes i (inl refl)).node ∙ waiting.file

  old_pages : (j : ℕ) → Contains own j → IsPageIn P J i j
  old_pages j there = still_in j (Contains-append_left own pages j there) (waiting.old_pages j there)

  still_order : (list : List ℕ) (from to : ℕ) → ((j : ℕ) → Contains list j → KeepsPage P I J j) → AreInOrder P I list from to → AreInOrder P J list from to
  still_order list from to kept order = record { offsets = λ k j at. (kept j (contains_at list k j at)).offset ∙ order.offsets k j at; count = order.count }

  pages_by : (progress : Progress) → HasItsNewPages P I i pages progress → HasItsNewPages P J i pages progress
  pages_by Begun words = words
  pages_by Filled words = λ j is. ((new_kept j is).owner ∙ (words j is).0, (new_kept j is).kind ∙ (words j is).1)
  pages_by Owned words = λ j is. record { in_range = (words j is).in_range; owner = (new_kept j is).owner ∙ (words j is).owner }

  new_pages : HasItsNewPages P J i pages progress
  new_pages = pages_by progress waiting.new_pages

  range : HaveRange P J (own ++ pages) i growth.offset bytes
  range = kept_range_law P I J [] (own ++ pages) (i ∷ []) (own ++ pages) i growth.offset bytes passes.words (inl refl) (λ j there. contained_in j (own ++ pages) there) waiting.range

  unlisted : (x j : ℕ) → IsIn j pages → ¬ Contains (pages_of new.index x) j
  unlisted x j among there = waiting.unlisted x j among (passes.lists x j (in_back j own pages among) there)

  -- ---- what the volume knows

  file_there : (1 ≤ i) × (i ≤ inodes_of new.size)
  file_there = files.in_inodes new after later residue beside.stands i still_file

  -- no page that the volume hasn't in its list is the file's
  mine : (j : ℕ) → IsPageIn P J i j → Contains own j ⊎ Contains pages j
  mine j page = elim (in_or_not j pages) [
    | inl among ↦ inr (in_contained j pages among)
    | inr none ↦
        let here : IsPageIn new.size J i j = subst (λ n. IsPageIn n J i j) (sym passes.size) page in
        let unleft : ¬ IsIn j (pages ++ now.pages) = λ left. elim (in_either j pages now.pages left) [ inl among ↦ none among | inr theirs ↦ alone j theirs here.owner ] in
        inl (subst (λ (l : List ℕ). Contains l j) own_same ((beside.stands.knows.nodes.pages i j file_there.0 file_there.1 unleft).1 here))
  ]

  used_by : (progress : Progress) → HasItsNewPages P J i pages progress → (j : ℕ) → Contains pages j → ¬ IsUnusedPage P J j
  used_by Begun words j is unused = words
  used_by Filled words j is unused = let one = (words j is).1 in let zero = unused.1 in omega (arith, one, zero)
  used_by Owned words j is unused = let owner = (words j is).owner in let zero = unused.0 in let least = file_there.0 in omega (arith, owner, zero, least)

  taken : AreTaken new pages
  taken j is =
      let low : j < data_pages_of new.size = subst (λ n. j < data_pages_of n) (sym passes.size) (held.within old before state growth bytes pages progress others waiting j (in_back j own pages (contained_in j pages is))) in
      used_taken new J residue beside.stands.knows j low (λ unused. used_by progress new_pages j is (subst (λ n. IsUnusedPage n J j) passes.size unused))

  knows : KnowsGrowth new i pages progress
  knows = record {
    least = file_there.0;
    most = (let (least, most) = file_there in let each = beside.stands.knows.nodes.each_inode in omega (arith, most, each));
    places = same_places old new i pages (passes.index i (inl refl)) waiting.knows.places;
    numbers = taken_while new pages P J i progress new_pages taken;
  }

  -- ---- the words before its next step

  still_held : ((j : ℕ) → Contains pages j → page_owner P J j ≡ 0) → HasPages P I i own → HasPages P J i own
  still_held unowned were = record {
    least = were.least;
    most = were.most;
    live = subst (λ (f : InodeFields). IsLive i f) (sym fields_kept) were.live;
    file = inode_kept.kind ∙ were.file;
    bytes = bytes_still P I J i 0 own old_kept were.bytes;
    all = λ j page. elim (mine j page) [
      | inl there ↦ there
      | inr new ↦ (let owner = page.owner in let zero = unowned j new in let least = were.least in absurd (omega (arith, owner, zero, least)))
    ];
    count = were.count ∙ ap pages_of_size (sym inode_kept.size);
  }

  still_filled : ((j : ℕ) → Contains pages j → page_owner P J j ≡ 0) → AreFilled P I growth own pages → AreFilled P J growth own pages
  still_filled unowned were = record {
    some = were.some;
    held = still_held unowned were.held;
    pages_are = bytes_still P I J 0 (length own) pages new_kept were.pages_are;
    enough = were.enough;
  }

  -- a page of the file before the step is one that the call holds
  was_mine : (j : ℕ) → IsPageIn P I i j → Contains (own ++ pages) j
  was_mine j page =
      let there = waiting.beside.stands.knows.nodes in
      let (least, most) = files.in_inodes old before state (joined (pages_left_by i pages) others) waiting.beside.stands i waiting.file in
      elim (in_or_not j pages) [
        | inl among ↦ in_contained j (own ++ pages) (in_back j own pages among)
        | inr none ↦ Contains-append_left own pages j ((there.pages i j least most (λ left. elim (in_either j pages others.pages left) [ inl among ↦ none among | inr theirs ↦ waiting.alone j theirs page.owner ])).1 page)
      ]

  settled_page : (page offset : ℕ) → IsPageAt P i offset before page → IsPageAt P i offset after page
  settled_page page offset at =
      let keeps = page_kept page (was_mine page (record { in_range = at.in_range; owner = at.owner })) in
      record {
        in_range = at.in_range;
        owner = keeps.owner ∙ at.owner;
        kind = keeps.kind ∙ at.kind;
        at = keeps.offset ∙ at.at;
        settled = λ field few.
            let size = (waiting.beside.stands.sound.coherent Rule.head 0).size refl in
            let inside = descriptor_word_within P page field size at.in_range (omega (arith, few)) in
            let whole = beside.stands.knows.whole in
            let same = passes.size in
            beside.stands.settled.each (descriptor_word_of P page field) (omega (arith, inside, whole, same));
      }

  still_raised : CanRaise P before i growth.new_size → CanRaise P after i growth.new_size
  still_raised was = record {
    least = was.least;
    most = was.most;
    live = subst (λ (f : InodeFields). IsLive i f) (sym fields_kept) was.live;
    covered = λ offset below. let (page, at) = was.covered offset below in (page, settled_page page offset at);
  }

  at_by : (progress : Progress) → HasItsNewPages P J i pages progress → IsGrowthAt P before growth bytes own pages progress → IsGrowthAt P after growth bytes own pages progress
  at_by Begun words at = absurd words
  at_by Filled words at = still_filled (λ j is. (words j is).0) at
  at_by Owned words at = still_raised at

  -- ---- it waits

  pub waits : WaitsToGrow new after later growth bytes pages progress now
  waits = record {
    beside = beside;
    at = moved (λ p list. IsGrowthAt p after growth bytes list pages progress) (at_by progress new_pages waiting.at);
    knows = knows;
    file = still_file;
    size = inode_kept.size ∙ waiting.size;
    larger = waiting.larger;
    small = waiting.small;
    old_order = moved (λ p list. AreInOrder p J list 0 growth.old_size) (still_order own 0 growth.old_size old_kept waiting.old_order);
    old_pages = moved (λ p list. (j : ℕ) → Contains list j → IsPageIn p J i j) old_pages;
    new_order = moved (λ p list. AreInOrder p J pages growth.old_size growth.new_size) (still_order pages growth.old_size growth.new_size new_kept waiting.new_order);
    new_pages = moved (λ p list. HasItsNewPages p J i pages progress) new_pages;
    range = moved (λ p list. HaveRange p J (list ++ pages) i growth.offset bytes) range;
    unlisted = unlisted;
    alone = alone;
  }

pub growth_still_law : GrowthStillLaw
growth_still_law old new before after state later growth bytes pages progress others now waiting passes beside alone = (
  waits old new before after state later growth bytes pages progress others now waiting passes beside alone,
  held_same old new growth.inode pages (passes.index growth.inode (inl refl)).pages,
)
