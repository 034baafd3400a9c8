-- The pages that a tree with its room takes are those that recovery would keep.
use Rattle.std.proofs.Common.{◌≡◌, inl, inr, ℕ, ◌<◌, List, [], ◌∷◌, length, sum_by, Some, unwrap_or, nat_cmp, refl, sym, ap, subst, ◌∙◌, arith}
use Rattle.std.specs.Cmp.{nat_cmp_total}
use Rattle.std.specs.FinMap.{nat_cmp-IsAntisymmetric}
use Rattle.layout.specs.Fields.{inode_size, page_owner, page_offset}
use Rattle.tree_model.specs.Table.{get}
use Rattle.tree_model.specs.Tree.{Tree, Node, Directory, File, Room, node_at, node_pages, file_pages, pages_in}
use Rattle.tree_model.specs.Capacity.{pages_in_use}
use Rattle.image_reading.specs.Counts.{IsIn, IsDistinct, Count}
use Rattle.image_reading.specs.Reading.{IsDirectory, HasBytes, Reached, IsPageOf, IsRoomOf, pages_of_size, Reads, HasRoom}
use Rattle.image_reading.specs.Repairs.{IsKeptFilePage, IsKeptDirectoryPage, IsKept}
use Rattle.image_reading.specs.Soundness.{Rule, IsCoherent}
use Rattle.image_reading.proofs.Counts.{count_none}
use Rattle.image_reading.proofs.FilePages.{page_from_place}
use Rattle.image_counts.specs.Laws.{KeptPageLaw}
use Rattle.image_counts.proofs.Nodes.{one_page, file_node}
use Rattle.image_counts.proofs.Links.{not_both_kinds}
use Rattle.image_counts.proofs.Distinct.{run, length-run, in_run, of_run, distinct_run}
use Rattle.image_counts.proofs.Counting.{Among, AreApart, IsMatching, IsMatched, count_matched, IsSharing, count_shared, count_alike, count_either}
use Rattle.image_counts.proofs.Entries.{find_among, same_entry, entries_apart, among_find}
use Rattle.image_counts.proofs.Decided.{room_owner, room_counted}

-- a list of numbers, as a list of elements
pub in_among : (x : ℕ) (xs : List ℕ) → Among x xs → IsIn x xs
in_among x [] among = among
in_among x (y ∷ xs) among = elim among [ inl same ↦ inl same | inr later ↦ inr (in_among x xs later) ]

pub among_in : (x : ℕ) (xs : List ℕ) → IsIn x xs → Among x xs
among_in x [] here = here
among_in x (y ∷ xs) here = elim here [ inl same ↦ inl same | inr later ↦ inr (among_in x xs later) ]

pub apart_distinct : (xs : List ℕ) → IsDistinct xs → AreApart xs
apart_distinct [] distinct = tt
apart_distinct (x ∷ xs) distinct = ((λ among. distinct.0 (in_among x xs among)), apart_distinct xs distinct.1)

pages_of_bytes : (bytes : List ℕ) (size : ℕ) → length bytes ≡ size → file_pages bytes ≡ pages_of_size size
unfolding pages_of_size
pages_of_bytes bytes size long = ap (λ n. pages_of_size n) long

-- a kept page of inode i, which is a file
abbrev pub IsFilePage : ℕ → List ℕ → ℕ → ℕ → Type 0
IsFilePage P I i j = IsKeptFilePage P I j × (page_owner P I j ≡ i)

module _ (P : ℕ) (I : List ℕ) (coherent : IsCoherent P I) where
  -- ---- a file has one kept page for each offset below its end

  offsets : (i : ℕ) → List ℕ
  offsets i = run 0 (pages_of_size (inode_size I i))

  offset_within : (i k : ℕ) → Among k (offsets i) → k < pages_of_size (inode_size I i)
  unfolding offsets
  offset_within i k among = let (low, high) = of_run k 0 (pages_of_size (inode_size I i)) (in_among k (offsets i) among) in omega (arith, high)

  offset_among : (i k : ℕ) → k < pages_of_size (inode_size I i) → Among k (offsets i)
  unfolding offsets
  offset_among i k below = among_in k (offsets i) (in_run k 0 (pages_of_size (inode_size I i)) (omega arith) (omega (arith, below)))

  offsets_apart : (i : ℕ) → AreApart (offsets i)
  unfolding offsets
  offsets_apart i = apart_distinct (offsets i) (distinct_run 0 (pages_of_size (inode_size I i)))

  length-offsets : (i : ℕ) → length (offsets i) ≡ pages_of_size (inode_size I i)
  unfolding offsets
  length-offsets i = length-run 0 (pages_of_size (inode_size I i))

  matching : (i : ℕ) → Reached P I i → HasBytes I i → IsMatching (IsPageOf P I i) (offsets i)
  matching i reached file = record {
    apart = offsets_apart i;
    each = λ k among. coherent Rule.all_pages i reached file k (offset_within i k among);
    one = λ k h j among a b. one_page P I coherent i k h j reached file (offset_within i k among) a b;
    own = λ k l j among there a b. sym a.offset ∙ b.offset;
  }

  pub count_file_pages : (i : ℕ) → Reached P I i → HasBytes I i → Count (IsFilePage P I i) (pages_of_size (inode_size I i))
  count_file_pages i reached file =
      subst (Count (IsFilePage P I i)) (length-offsets i)
      (count_alike (IsMatched (IsPageOf P I i) (offsets i)) (IsFilePage P I i) (length (offsets i)) to from (count_matched (IsPageOf P I i) (offsets i) (matching i reached file)))
    where
      to : (j : ℕ) → IsMatched (IsPageOf P I i) (offsets i) j → IsFilePage P I i j
      to j (k, among, page) = (
        record {
          in_range = page.in_range;
          owner = subst (Reached P I) (sym page.owner) reached;
          file = subst (HasBytes I) (sym page.owner) file;
          below = subst (λ z. page_offset P I j < pages_of_size (inode_size I z)) (sym page.owner) (subst (λ z. z < pages_of_size (inode_size I i)) (sym page.offset) (offset_within i k among));
        },
        page.owner,
      )

      from : (j : ℕ) → IsFilePage P I i j → IsMatched (IsPageOf P I i) (offsets i) j
      from j (kept, owner) = (
        page_offset P I j,
        offset_among i (page_offset P I j) (subst (λ z. page_offset P I j < pages_of_size (inode_size I z)) owner kept.below),
        page_from_place (record { in_range = kept.in_range; owner = owner; kind = (coherent Rule.page_kinds j).file kept.in_range kept.owner kept.file; offset = refl }),
      )

module _ (P : ℕ) (I : List ℕ) (room : Room) (rooms : HasRoom P I room) where
  -- the room of a directory
  pub room_at : (d : ℕ) → Reached P I d → IsDirectory I d → (k : ℕ) × (get room d ≡ Some k) × Count (IsRoomOf P I d) k
  room_at d reached directory = let (k, count) = room_counted P I d reached directory in (k, (rooms d k).1 (reached, directory, count), count)

  pub count_room : (d : ℕ) → Reached P I d → IsDirectory I d → Count (IsRoomOf P I d) (pages_in room d)
  count_room d reached directory =
      let (k, is, count) = room_at d reached directory in
      subst (Count (IsRoomOf P I d)) (sym (ap (λ o. unwrap_or o 0) is)) count

module _ (P : ℕ) (I : List ℕ) (T : Tree) (room : Room) (coherent : IsCoherent P I) (reads : Reads P I T) (rooms : HasRoom P I room) where
  -- ---- the pages of files

  abbrev IsPageOfNode : ℕ × Node → ℕ → Type 0
  IsPageOfNode e j = IsFilePage P I e.0 j

  count_node : (i : ℕ) (x : Node) → node_at T i ≡ Some x → Count (IsFilePage P I i) (node_pages x)
  count_node i Directory is = count_none (IsFilePage P I i) (λ j (kept, owner).
      not_both_kinds I i (subst (HasBytes I) owner kept.file) ((reads.nodes i Directory).0 is).1)
  count_node i (File bytes) is =
      let (reached, node) = (reads.nodes i (File bytes)).0 is in
      subst (Count (IsFilePage P I i)) (sym (pages_of_bytes bytes (inode_size I i) node.1.size)) (count_file_pages P I coherent i reached node.0)

  sharing_nodes : IsSharing IsPageOfNode (λ e. node_pages e.1) T.nodes.entries
  sharing_nodes = record {
    apart = entries_apart nat_cmp nat_cmp_total T.nodes.entries T.nodes.sorted;
    each = λ e among. count_node e.0 e.1 (find_among nat_cmp nat_cmp_total T.nodes.entries e T.nodes.sorted among);
    own = λ e f j among there a b. same_entry nat_cmp nat_cmp_total T.nodes.entries e f T.nodes.sorted among there (sym a.1 ∙ b.1);
  }

  file_entry : (j : ℕ) → IsKeptFilePage P I j → IsMatched IsPageOfNode T.nodes.entries j
  file_entry j kept =
      let (bytes, is) = file_node P I T coherent reads (page_owner P I j) kept.owner kept.file in
      ((page_owner P I j, File bytes), among_find nat_cmp nat_cmp_total nat_cmp-IsAntisymmetric T.nodes.entries (page_owner P I j) (File bytes) is, (kept, refl))

  count_in_files : Count (IsKeptFilePage P I) (sum_by (λ e. node_pages e.1) T.nodes.entries)
  count_in_files = count_alike (IsMatched IsPageOfNode T.nodes.entries) (IsKeptFilePage P I) (sum_by (λ e. node_pages e.1) T.nodes.entries)
      (λ j (e, among, page). page.0) file_entry (count_shared IsPageOfNode (λ e. node_pages e.1) T.nodes.entries sharing_nodes)

  -- ---- the pages of directories

  abbrev IsPageOfRoom : ℕ × ℕ → ℕ → Type 0
  IsPageOfRoom e j = IsRoomOf P I e.0 j

  sharing_rooms : IsSharing IsPageOfRoom (λ e. e.1) room.entries
  sharing_rooms = record {
    apart = entries_apart nat_cmp nat_cmp_total room.entries room.sorted;
    each = λ e among. ((rooms e.0 e.1).0 (find_among nat_cmp nat_cmp_total room.entries e room.sorted among)).2;
    own = λ e f j among there a b. same_entry nat_cmp nat_cmp_total room.entries e f room.sorted among there (sym (room_owner P I e.0 j a) ∙ room_owner P I f.0 j b);
  }

  room_entry : (j : ℕ) → IsKeptDirectoryPage P I j → IsMatched IsPageOfRoom room.entries j
  room_entry j kept =
      let (k, is, count) = room_at P I room rooms (page_owner P I j) kept.reached kept.directory in
      ((page_owner P I j, k), among_find nat_cmp nat_cmp_total nat_cmp-IsAntisymmetric room.entries (page_owner P I j) k is, kept)

  count_in_rooms : Count (IsKeptDirectoryPage P I) (sum_by (λ e. e.1) room.entries)
  count_in_rooms = count_alike (IsMatched IsPageOfRoom room.entries) (IsKeptDirectoryPage P I) (sum_by (λ e. e.1) room.entries)
      (λ j (e, among, page). subst (λ d. IsRoomOf P I d j) (sym (room_owner P I e.0 j page)) page) room_entry (count_shared IsPageOfRoom (λ e. e.1) room.entries sharing_rooms)

  -- ---- all of them

  pub count_kept : Count (IsKept P I) (pages_in_use T room)
  count_kept = count_either (IsKeptFilePage P I) (IsKeptDirectoryPage P I) (sum_by (λ e. node_pages e.1) T.nodes.entries) (sum_by (λ e. e.1) room.entries)
      (λ j kept other. not_both_kinds I (page_owner P I j) kept.file other.directory) count_in_files count_in_rooms

pub kept_page_law : KeptPageLaw
kept_page_law P I state coherent reads = count_kept P I state.tree state.room coherent reads.tree reads.room
