-- What is counted in the words is what is counted in the tree that they read as.
use Rattle.std.proofs.Common.{◌≡◌, inl, inr, ℕ, ◌+◌, ◌*◌, ◌^◌, ◌<◌, ◌≤◌, Bool, true, List, length, filter, count_by, Option, Some, None, is_some, nat_cmp, refl, sym, ap, subst, ◌∙◌, arith}
use Rattle.std.specs.Cmp.{nat_cmp_total}
use Rattle.std.specs.FinMap.{nat_cmp-IsAntisymmetric}
use Rattle.std.proofs.lemmas.List.Sums.{length-filter}
use Rattle.layout.specs.declared.geometry.Geometry.{Geometry}
use Rattle.layout.proofs.GeometryLaws.{data_pages_below, inodes_below}
use Rattle.layout.specs.Geometry.{most_data_pages, inodes_of, data_pages_of, slots_of, page_of_slot, descriptor_word_of}
use Rattle.layout.specs.Fields.{descriptor_words}
use Rattle.tree_model.specs.Tree.{Tree, Node, node_at, is_directory, is_file, is_directory_node, is_file_node}
use Rattle.image_reading.specs.Counts.{Count}
use Rattle.image_reading.specs.Litter.{IsZeroDescriptor}
use Rattle.image_reading.specs.Reading.{IsLive, Reached, IsReachedSlot, slot_owner, Reads}
use Rattle.image_reading.specs.Repairs.{RepairCounts, HasRepairs, IsKept, IsKeptDirectoryPage, IsLitterSlot, IsLitterPage, IsLitterInode, IsLitterCount, IsPointer}
use Rattle.image_reading.specs.Soundness.{IsCoherent}
use Rattle.image_reading.proofs.Counts.{count_one}
use Rattle.image_counts.proofs.Counting.{IsMatching, IsMatched, count_matched, count_alike, among_filter, filter_among, filter_apart}
use Rattle.image_counts.proofs.Entries.{same_entry, entries_apart, among_find}
use Rattle.image_counts.proofs.Nodes.{has_sizes}
use Rattle.image_counts.proofs.Paths.{in_range}
use Rattle.image_laws.proofs.Trees.{tree_law}
use Rattle.repair_laws.proofs.Kept.{kept_held}
use Rattle.repair_laws.proofs.Storing.{some_or_zero}
use Rattle.script.specs.declared.check.CheckCounts.{CheckCounts}
use Rattle.volume.specs.Totals.{below_root}
use Rattle.volume.proofs.Summed.{count_names}
use Rattle.mount_scan.specs.Counting.{directory_count, file_count, AreCountsOf, IsReachedDirectory, IsReachedFile, CountsInodes, CountsPages}
use Rattle.mount_scan.specs.declared.counts.InodeCounts.{InodeCounts}
use Rattle.mount_scan.specs.declared.counts.PageCounts.{PageCounts}
use Rattle.mount_scan.proofs.Counted.{count_all}

-- ---- nodes that pass a test

some_of : (o : Option Node) → is_some o ≡ true → (x : Node) × (o ≡ Some x)
some_of None e = cc
some_of (Some x) e = (x, refl)

module _ (T : Tree) (t : ℕ → Bool) (nodes : (i : ℕ) → t i ≡ true → is_some (node_at T i) ≡ true) where
  abbrev passes : ℕ × Node → Bool
  passes e = t e.0

  abbrev passing : List (ℕ × Node)
  passing = filter passes T.nodes.entries

  abbrev IsKey : ℕ × Node → ℕ → Type 0
  IsKey e i = i ≡ e.0

  matching : IsMatching IsKey passing
  matching = record {
    apart = filter_apart passes T.nodes.entries (entries_apart nat_cmp nat_cmp_total T.nodes.entries T.nodes.sorted);
    each = λ e among. (e.0, refl);
    one = λ e s t among a b. a ∙ sym b;
    own = λ e f s among there a b. same_entry nat_cmp nat_cmp_total T.nodes.entries e f T.nodes.sorted
        (among_filter passes T.nodes.entries e among).0 (among_filter passes T.nodes.entries f there).0 (sym a ∙ b);
  }

  to : (i : ℕ) → IsMatched IsKey passing i → t i ≡ true
  to i (e, among, is) = ap t is ∙ (among_filter passes T.nodes.entries e among).1

  from : (i : ℕ) → t i ≡ true → IsMatched IsKey passing i
  from i passed =
      let (x, is) = some_of (node_at T i) (nodes i passed) in
      let among = among_find nat_cmp nat_cmp_total nat_cmp-IsAntisymmetric T.nodes.entries i x is in
      ((i, x), filter_among passes T.nodes.entries (i, x) among passed, refl)

  pub count_nodes : Count (λ i. t i ≡ true) (count_by passes T.nodes.entries)
  count_nodes = subst (Count (λ i. t i ≡ true)) (length-filter passes T.nodes.entries)
      (count_alike (IsMatched IsKey passing) (λ i. t i ≡ true) (length passing) to from (count_matched IsKey passing matching))

directory_there : (o : Option Node) → is_directory_node o ≡ true → is_some o ≡ true
directory_there None e = cc
directory_there (Some x) e = refl

file_there : (o : Option Node) → is_file_node o ≡ true → is_some o ≡ true
file_there None e = cc
file_there (Some x) e = refl

-- ---- directories and files

module _ (P : ℕ) (I : List ℕ) (T : Tree) (coherent : IsCoherent P I) (reads : Reads P I T) where
  count_directories : Count (IsReachedDirectory P I) (directory_count T)
  count_directories = count_alike (λ i. is_directory T i ≡ true) (IsReachedDirectory P I) (directory_count T)
      (λ i is. ((has_sizes P I T coherent reads).directories i).0 is) (λ i is. ((has_sizes P I T coherent reads).directories i).1 is)
      (count_nodes T (is_directory T) (λ i is. directory_there (node_at T i) is))

  count_files : Count (IsReachedFile P I) (file_count T)
  count_files = count_alike (λ i. is_file T i ≡ true) (IsReachedFile P I) (file_count T)
      (λ i is. ((has_sizes P I T coherent reads).files i).0 is) (λ i is. ((has_sizes P I T coherent reads).files i).1 is)
      (count_nodes T (is_file T) (λ i is. file_there (node_at T i) is))

-- ---- all counts

-- a reached slot stands in a kept directory page
pub reached_kept : (P : ℕ) (I : List ℕ) (s : ℕ) → IsReachedSlot P I s → IsKeptDirectoryPage P I (page_of_slot s)
unfolding slot_owner
reached_kept P I s slot = record { reached = slot.owner; directory = slot.directory; slot = (s, refl, refl, slot.live) }

-- and a live slot of one is reached
pub kept_reached : (P : ℕ) (I : List ℕ) (s : ℕ) → IsKeptDirectoryPage P I (page_of_slot s) → IsLive P I s → IsReachedSlot P I s
unfolding slot_owner
kept_reached P I s page live = record { owner = page.reached; directory = page.directory; live = live }

module _ (P : ℕ) (I : List ℕ) (coherent : IsCoherent P I) (inodes : InodeCounts) (pages : PageCounts) (pointers : ℕ)
    (of_inodes : CountsInodes P I (inodes_of P + 1) inodes) (of_pages : CountsPages P I (data_pages_of P) (slots_of P) pages)
    (of_pointers : Count (IsPointer P I) pointers) where
  abbrev counts : CheckCounts
  counts = record {
    directories = inodes.directories;
    files = inodes.files;
    names = pages.slots.names;
    pointers = pointers;
    slots = pages.slots.litter;
    pages = pages.litter;
    inodes = inodes.litter;
    counts = inodes.links;
  }

  within : (i : ℕ) → Reached P I i → i < inodes_of P + 1
  within i reached = let most = (in_range P I coherent i reached).1 in omega (arith, most)

  abbrev repairs : RepairCounts
  repairs = record { pointers = pointers; slots = pages.slots.litter; pages = pages.litter; inodes = inodes.litter; counts = inodes.links }

  has_repairs : HasRepairs P I repairs
  has_repairs = record {
    of_pointers = of_pointers;
    of_slots = count_all (IsLitterSlot P I) (slots_of P) pages.slots.litter (λ s litter. (kept_held P I coherent s litter.page).in_range) of_pages.in_slots.litter;
    of_pages = count_all (IsLitterPage P I) (data_pages_of P) pages.litter (λ j litter. litter.in_range) of_pages.litter;
    of_inodes = count_all (IsLitterInode P I) (inodes_of P + 1) inodes.litter (λ i litter. (let most = litter.most in omega (arith, most))) of_inodes.litter;
    of_counts = count_all (IsLitterCount P I) (inodes_of P + 1) inodes.links (λ i litter. within i litter.reached) of_inodes.links;
  }

  pub counted : AreCountsOf P I counts
  counted =
      let (T, reads, form) = tree_law P I coherent in
      let directories = count_one (IsReachedDirectory P I) inodes.directories (directory_count T)
      (count_all (IsReachedDirectory P I) (inodes_of P + 1) inodes.directories (λ i is. within i is.0) of_inodes.directories) (count_directories P I T coherent reads) in
      let files = count_one (IsReachedFile P I) inodes.files (file_count T)
      (count_all (IsReachedFile P I) (inodes_of P + 1) inodes.files (λ i is. within i is.0) of_inodes.files) (count_files P I T coherent reads) in
      let names = count_one (IsReachedSlot P I) pages.slots.names (below_root T)
      (count_all (IsReachedSlot P I) (slots_of P) pages.slots.names (λ s slot. slot.live.held.in_range) of_pages.in_slots.names) (count_names P I T coherent reads) in
      record {
        tree = T;
        reads = reads;
        repairs = repairs;
        counted = has_repairs;
        are = λ k. record {
          directories = directories k;
          files = files k;
          names = names k;
          pointers = pointers;
          slots = pages.slots.litter;
          pages = pages.litter;
          inodes = inodes.litter;
          counts = inodes.links;
        };
      }

-- ---- a descriptor's words

module _ (P : ℕ) (I : List ℕ) (j : ℕ) where
  -- where not all are zero, one isn't
  pub litter_page : j < data_pages_of P → ¬ IsKept P I j → ¬ IsZeroDescriptor P I j → IsLitterPage P I j
  litter_page within free other = elim (some_or_zero I (descriptor_word_of P j) 0 (descriptor_words I)) [
    | inl some ↦ record { in_range = within; free = free; nonzero = (some.0, some.1.below, some.1.nonzero) }
    | inr zeros ↦ absurd (other zeros)
  ]

-- ---- loops end before a count is too great

pub inode_limit : (g : Geometry) (n : ℕ) → n < g.inodes → n + 1 ≤ 2 ^ 22
inode_limit g n lt = let few = inodes_below g.pages g.volume_size in let most = g.volume_size.1 in omega (arith, lt, few, most, g.inodes_exact)

pub page_limit : (g : Geometry) (j : ℕ) → j < g.data_pages → j ≤ most_data_pages
page_limit g j lt = let few = data_pages_below g.pages g.volume_size in omega (arith, lt, few, g.volume_size, g.data_pages_exact)

pub slot_limit : (g : Geometry) (j place : ℕ) → j < data_pages_of g.pages → place < 32 → 32 * j + place ≤ 2 ^ 22
slot_limit g j place lt inside = let few = data_pages_below g.pages g.volume_size in let most = g.volume_size.1 in omega (arith, lt, inside, few, most)

-- ---- a page that isn't a directory's kept one

pub none_of_page : (P : ℕ) (I : List ℕ) (j : ℕ) → ¬ IsKeptDirectoryPage P I j → (s : ℕ) → 32 * j ≤ s → s < 32 * (j + 1) → ¬ IsKeptDirectoryPage P I (page_of_slot s)
unfolding page_of_slot
none_of_page P I j other s low high kept =
    let at : page_of_slot s ≡ j = omega (arith, low, high) in
    other (subst (IsKeptDirectoryPage P I) at kept)
