-- A cut that waits: what it has left lies in what it holds, and it waits still when another call has made a step.
use Rattle.std.proofs.Common.{◌≡◌, ◌≢◌, ◌⊎◌, inl, inr, ℕ, ◌-◌, ◌<◌, ◌≤◌, false, List, [], ◌++◌, length, refl, sym, ap, subst, ◌∙◌, arith}
use Rattle.std.specs.Prelude.{Contains}
use Rattle.pm_trait.specs.DeviceView.{DeviceView}
use Rattle.layout.specs.Geometry.{inodes_of, data_pages_of, pieces}
use Rattle.layout.specs.Fields.{inode_kind, page_owner}
use Rattle.tree_model.specs.Run.{State}
use Rattle.tree_model.specs.Tree.{is_file_node}
use Rattle.image_reading.specs.Counts.{IsIn}
use Rattle.image_reading.specs.Residue.{Residue}
use Rattle.image_counts.specs.Entries.{IsUnusedPage}
use Rattle.image_counts.proofs.Distinct.{in_front, in_either}
use Rattle.weave_laws.specs.Beside.{KeepsPage, KeepsInode}
use Rattle.weave_laws.specs.Joined.{joined}
use Rattle.weave_laws.specs.Removing.{cleared_left}
use Rattle.weave_laws.specs.Waiting.{HasNoPageOf}
use Rattle.weave_laws.proofs.Contained.{in_contained, contained_in, contained_or_not}
use Rattle.volatile_index.specs.Index.{pages_of}
use Rattle.volume.specs.Volume.{VolumeView}
use Rattle.volume.specs.Entered.{MayLosePages}
use Rattle.volume.specs.declared.plan.Resizing.{Resizing}
use Rattle.data_ops.specs.Cutting.{gone_pages}
use Rattle.data_ops.specs.ResizeStages.{IsCutAt}
use Rattle.data_ops.specs.declared.truncate.CutProgress.{CutProgress}
use Rattle.data_ops.specs.declared.truncate.CutProgress.TheVariants.{Begun, Lowered, Trimmed}
use Rattle.waiting_laws.specs.Beside.{Holds, StandsWith, PassesBy}
use Rattle.waiting_laws.specs.Cutting.{HasItsCutPages, WaitsToCut, CutHoldsLaw, CutStillLaw, pages_cut, left_by, held_by}
use Rattle.waiting_laws.proofs.FileKnown.{used_taken}
use Rattle.waiting_laws.proofs.FileLists.{listed_within, dropped_in}
use Rattle.waiting_laws.proofs.FileBare.{left_bare}
use Rattle.waiting_laws.proofs.FilePages.{bytes_still, held_same}
use Rattle.waiting_laws.proofs.CuttingSteps.{there, least, most, among_held}

-- ---- what is left of the pages

-- they are the file's, or have no owner
cut_owner : (P : ℕ) (I : List ℕ) (inode : ℕ) (pages : List ℕ) (progress : CutProgress) → HasItsCutPages P I inode pages progress → (j : ℕ) → Contains pages j → (page_owner P I j ≡ inode) ⊎ (page_owner P I j ≡ 0)
cut_owner P I inode pages Begun has j among = absurd has
cut_owner P I inode pages Lowered has j among = inl (has j among)
cut_owner P I inode pages Trimmed has j among = inr (has j among)

-- ---- what it holds

module _ (volume : VolumeView) (device : DeviceView) (state : State) (resizing : Resizing) (progress : CutProgress) (others : Residue) (waiting : WaitsToCut volume device state resizing progress others) where
  abbrev i : ℕ
  i = resizing.inode

  abbrev pages : List ℕ
  pages = pages_of volume.index i

  abbrev gone : List ℕ
  gone = pages_cut volume resizing

  some : 1 ≤ i
  some = least volume device state resizing progress others waiting

  few : i ≤ inodes_of volume.size
  few = most volume device state resizing progress others waiting

  pub page_within : (j : ℕ) → Contains pages j → j < data_pages_of volume.size
  page_within j among = let low = (waiting.at.2.pages_taken j among).0 in let each = waiting.beside.stands.knows.each_page in omega (arith, low, each)

  -- a page of its that it holds is of the file
  its_pages : (j : ℕ) → IsIn j (pages ++ []) → Contains pages j
  its_pages j held = elim (in_either j pages [] held) [ inl among ↦ in_contained j pages among | inr none ↦ absurd none ]

  unlisted : (x j : ℕ) → x ≢ i → 1 ≤ x → IsIn j gone → ¬ Contains (pages_of volume.index x) j
  unlisted x j other from_one among listed =
      let within = (listed_within volume.index x j listed).1 in
      let each = waiting.beside.stands.knows.nodes.each_inode in
      waiting.listed x j among from_one (omega (arith, within, each)) other listed

  pub holds : Holds volume device.words (left_by volume resizing) (held_by volume resizing)
  holds = record {
    in_volume = record {
      of_pages = λ j held. page_within j (its_pages j held);
      of_inodes = λ x held. elim held [
        | inl same ↦ record { from_one = let least = some in omega (arith, same, least); in_range = let most = few in omega (arith, same, most) }
        | inr none ↦ absurd none
      ];
    };
    of_slots = λ s none. absurd none;
    of_pages = λ j held. elim (contained_or_not gone j) [
      | inl cut ↦ inl (contained_in j gone cut)
      | inr out ↦ inr (inl (waiting.kept j (its_pages j held) out))
    ];
    used = λ x held free. elim held [
      | inl same ↦ (let one = (there volume device state resizing progress others waiting).1 in let kind = ap (inode_kind device.words) same in omega (arith, one, kind, free))
      | inr none ↦ none
    ];
    bare =
        let file = there volume device state resizing progress others waiting in
        left_bare volume.size device.words i gone waiting.beside.stands.sound.coherent file.0 file.1 (λ j cut. cut_owner volume.size device.words i gone progress waiting.cut j (in_contained j gone cut));
    left_slots = λ s none. absurd none;
    left_pages = λ j cut. (among_held volume resizing).of_pages j cut;
    left_inodes = λ x none. absurd none;
    untouched = λ x out from_one.
        let other : x ≢ i = λ same. out (inl same) in
        record {
          apart = record {
            slots = λ s none. absurd none;
            pages = λ j cut owner. elim (cut_owner volume.size device.words i gone progress waiting.cut j (in_contained j gone cut)) [
              | inl own ↦ other (sym owner ∙ own)
              | inr none ↦ omega (arith, none, owner, from_one)
            ];
            links = λ none. none;
          };
          listed = λ j cut. unlisted x j other from_one cut;
        };
  }

pub cut_holds_law : CutHoldsLaw
cut_holds_law volume device state resizing progress others waiting = holds volume device state resizing progress others waiting

-- ---- words that stay

module _ (P : ℕ) (I J : List ℕ) (resizing : Resizing) (pages : List ℕ) (inode : KeepsInode I J resizing.inode) (keeps : (j : ℕ) → Contains (gone_pages resizing pages) j → KeepsPage P I J j) where
  -- so the next step of a cut that waits may be made as before,
  at_still : (progress : CutProgress) → HasItsCutPages P I resizing.inode (gone_pages resizing pages) progress → IsCutAt P I resizing pages progress → IsCutAt P J resizing pages progress
  at_still Begun has at = absurd has
  at_still Lowered has (some, can) = (
    some,
    record {
      least = can.least;
      most = can.most;
      live = (subst (λ (kind : ℕ). (kind ≡ 1) ⊎ (kind ≡ 2)) (sym inode.kind) can.live.0, inode.own ∙ can.live.1);
      first = can.first;
      behind = subst (λ (size : ℕ). pieces size 4096 ≤ can.first) (sym inode.size) can.behind;
      pages_are = bytes_still P I J resizing.inode can.first (gone_pages resizing pages) keeps can.pages_are;
    },
  )
  at_still Trimmed has (some, can) = (some, record { first = can.first; pages_are = bytes_still P I J 0 can.first (gone_pages resizing pages) keeps can.pages_are })

  -- and its pages have the owner that they had
  cut_still : (progress : CutProgress) → HasItsCutPages P I resizing.inode (gone_pages resizing pages) progress → HasItsCutPages P J resizing.inode (gone_pages resizing pages) progress
  cut_still Begun has = absurd has
  cut_still Lowered has = λ j among. (keeps j among).owner ∙ has j among
  cut_still Trimmed has = λ j among. (keeps j among).owner ∙ has j among

-- ---- behind a step of another call

module _ (old new : VolumeView) (before after : DeviceView) (state later : State) (resizing : Resizing) (progress : CutProgress) (others now : Residue) (waiting : WaitsToCut old before state resizing progress others)
    (passes : PassesBy old new before after state later (held_by old resizing)) (beside : StandsWith new after later (left_by old resizing) now) where
  abbrev P : ℕ
  P = old.size

  abbrev I : List ℕ
  I = before.words

  abbrev J : List ℕ
  J = after.words

  abbrev inode : ℕ
  inode = resizing.inode

  abbrev list : List ℕ
  list = pages_of old.index inode

  -- the file's list is as it was,
  pub same_list : pages_of new.index inode ≡ list
  same_list = (passes.index inode (inl refl)).pages

  held_page : (j : ℕ) → Contains list j → IsIn j (list ++ [])
  held_page j among = in_front j list [] (contained_in j list among)

  -- and so are the words of the file and its pages
  page_still : (j : ℕ) → Contains list j → KeepsPage P I J j
  page_still j among = passes.words.of_pages j (held_page j among)

  gone_still : (j : ℕ) → Contains (pages_cut old resizing) j → KeepsPage P I J j
  gone_still j cut = page_still j (dropped_in (length list - resizing.cut) list j cut)

  inode_still : KeepsInode I J inode
  inode_still = passes.words.of_inodes inode (inl refl)

  within : inode ≤ inodes_of new.size
  within = subst (λ (p : ℕ). inode ≤ inodes_of p) (sym passes.size) (most old before state resizing progress others waiting)

  -- a page of its is in use
  not_free : (j : ℕ) → Contains list j → ¬ IsUnusedPage new.size J j
  not_free j among free =
      let keep = page_still j among in
      let (none, kindless) = subst (λ (p : ℕ). IsUnusedPage p J j) passes.size free in
      (waiting.at.2.pages_taken j among).1 ((waiting.beside.stands.knows.data_pages j (page_within old before state resizing progress others waiting j among)).1 (sym keep.owner ∙ none, sym keep.kind ∙ kindless))

  page_low : (j : ℕ) → Contains list j → j < data_pages_of new.size
  page_low j among = subst (λ (p : ℕ). j < data_pages_of p) (sym passes.size) (page_within old before state resizing progress others waiting j among)

  may_lose : MayLosePages new inode resizing.cut
  may_lose =
      let knows = beside.stands.knows in
      record {
        least = least old before state resizing progress others waiting;
        most = let each = knows.nodes.each_inode in let low = within in omega (arith, each, low);
        enough = let same = ap length same_list in let was = waiting.at.2.enough in omega (arith, same, was);
        once = knows.nodes.once inode (least old before state resizing progress others waiting) within;
        pages_taken = λ j listed.
            let among = subst (λ (l : List ℕ). Contains l j) same_list listed in
            used_taken new J (joined (left_by old resizing) now) knows j (page_low j among) (not_free j among);
      }

  pub waits_still : HasNoPageOf new.size J now inode → WaitsToCut new after later resizing progress now
  waits_still alone = record {
    beside = subst (λ (l : List ℕ). StandsWith new after later (cleared_left (gone_pages resizing l) false inode) now) (sym same_list) beside;
    at = (
      waiting.at.0,
      subst (λ (p : ℕ). IsCutAt p J resizing (pages_of new.index inode) progress) (sym passes.size)
          (subst (λ (l : List ℕ). IsCutAt P J resizing l progress) (sym same_list) (at_still P I J resizing list inode_still gone_still progress waiting.cut waiting.at.1)),
      may_lose,
    );
    file = ap is_file_node (passes.nodes.nodes inode (inl refl)).node ∙ waiting.file;
    cut = subst (λ (p : ℕ). HasItsCutPages p J inode (pages_cut new resizing) progress) (sym passes.size)
        (subst (λ (l : List ℕ). HasItsCutPages P J inode (gone_pages resizing l) progress) (sym same_list) (cut_still P I J resizing list inode_still gone_still progress waiting.cut));
    kept = λ j listed out.
        let among = subst (λ (l : List ℕ). Contains l j) same_list listed in
        ap (λ (p : ℕ). page_owner p J j) passes.size ∙ (page_still j among).owner ∙ waiting.kept j among (λ cut. out (subst (λ (l : List ℕ). Contains (gone_pages resizing l) j) (sym same_list) cut));
    listed = λ x j cut from_one low other listed.
        let was = subst (λ (l : List ℕ). IsIn j (gone_pages resizing l)) same_list cut in
        waiting.listed x j was from_one (subst (λ (p : ℕ). x ≤ inodes_of p) passes.size low) other (passes.lists x j ((among_held old resizing).of_pages j was) listed);
    alone = alone;
  }

  left_same : left_by new resizing ≡ left_by old resizing
  left_same = ap (λ (l : List ℕ). cleared_left (gone_pages resizing l) false inode) same_list

  pub still : HasNoPageOf new.size J now inode → WaitsToCut new after later resizing progress now × (left_by new resizing ≡ left_by old resizing) × (held_by new resizing ≡ held_by old resizing)
  still alone = (waits_still alone, left_same, held_same old new inode [] same_list)

pub cut_still_law : CutStillLaw
cut_still_law old new before after state later resizing progress others now waiting passes beside alone = still old new before after state later resizing progress others now waiting passes beside alone
