-- What the words and the index say of a node, beside calls that run.
use Rattle.std.proofs.Common.{◌≡◌, inl, inr, ℕ, ◌≤◌, Bool, true, false, cond, List, [], ◌∷◌, length, Contains, is_some, refl, sym, ap, subst, ◌∙◌, Less}
use Rattle.pm_trait.specs.DeviceView.{DeviceView}
use Rattle.layout.specs.Geometry.{inodes_of}
use Rattle.layout.specs.Fields.{inode_links, inode_size, slot_name}
use Rattle.tree_model.specs.Tree.{node_at, is_directory, bytes_of, bytes_of_node, name_count}
use Rattle.tree_model.specs.Run.{State}
use Rattle.tree_model.specs.Step.{status_of}
use Rattle.tree_model.proofs.NodeLaws.{file_is, a_file}
use Rattle.image_reading.specs.Counts.{Count}
use Rattle.image_reading.specs.Reading.{Reached}
use Rattle.image_reading.specs.Residue.{Residue, no_residue}
use Rattle.image_reading.proofs.Counts.{count_one}
use Rattle.image_reading.proofs.Readings.{one_tree, one_room}
use Rattle.image_counts.specs.Entries.{IsEntryOf, IsSlotOf}
use Rattle.image_counts.proofs.Counting.{Among, AreApart, IsMatching, IsMatched, count_matched, count_alike}
use Rattle.image_counts.specs.Laws.{IsApart}
use Rattle.image_counts.proofs.Links.{link_word_beside_law}
use Rattle.image_counts.proofs.Nodes.{size_law}
use Rattle.image_counts.proofs.Nodes as nodes
use Rattle.image_counts.proofs.Slots.{name_count_law}
use Rattle.volatile_index.specs.Entries.{IsSorted}
use Rattle.volatile_index.proofs.EntryLaws.{differs, sorted_tail, contains_here, contains_more, contains_none, contains_cases, less_than_contained}
use Rattle.volatile_index.specs.Index.{entries_of}
use Rattle.volatile_index.specs.declared.entry.Entry.{Entry}
use Rattle.volume.specs.Volume.{VolumeView}
use Rattle.volume.specs.Stands.{StandsFor}
use Rattle.volume.specs.Beside.{StandsBeside}
use Rattle.volume.proofs.Beside.{stands_beside}
use Rattle.volume.proofs.WalkedBeside.{in_table}

-- ---- entries are apart

pub among_contained : (entry : Entry) (entries : List Entry) → Among entry entries → Contains entries entry
among_contained entry [] among = absurd among
among_contained entry (first ∷ entries) among = elim among [
  | inl is ↦ subst (λ (e : Entry). Contains (first ∷ entries) e) (sym is) (contains_here first entries)
  | inr later ↦ contains_more first entries entry (among_contained entry entries later)
]

pub contained_among : (entry : Entry) (entries : List Entry) → Contains entries entry → Among entry entries
contained_among entry [] there = absurd (contains_none entry there)
contained_among entry (first ∷ entries) there = elim (contains_cases first entries entry there) [ inl is ↦ inl is | inr later ↦ inr (contained_among entry entries later) ]

sorted_apart : (entries : List Entry) → IsSorted entries → AreApart entries
sorted_apart [] sorted = tt
sorted_apart (first ∷ entries) sorted = (
  (λ again. differs first.name first.name Less (less_than_contained first entries first sorted (among_contained first entries again)) (λ e. (cc)) refl),
  sorted_apart entries (sorted_tail first entries sorted),
)

-- ---- names

module _ (volume : VolumeView) (device : DeviceView) (state : State) (residue : Residue) (stands : StandsBeside volume device state residue) where
  -- the entries of a directory are matched with their slots
  pub matching : (d : ℕ) → 1 ≤ d → d ≤ inodes_of volume.size → IsSorted (entries_of volume.index d) → IsMatching (λ (entry : Entry) s. entry.slot ≡ s) (entries_of volume.index d)
  matching d least most sorted = record {
    apart = sorted_apart (entries_of volume.index d) sorted;
    each = λ entry among. (entry.slot, refl);
    one = λ entry s t among here there. sym here ∙ there;
    own = λ one other s among too here there.
        let name_one = (is_entry one among).name in
        let name_other = (is_entry other too).name in
        let same = here ∙ sym there in
        let names = sym name_one ∙ ap (slot_name volume.size device.words) same ∙ name_other in
        λ i. record { name = names i; slot = same i };
  }
    where
      is_entry : (entry : Entry) → Among entry (entries_of volume.index d) → IsEntryOf volume.size device.words d entry.name entry.slot
      is_entry entry among = (stands.knows.nodes.entries d entry.slot entry.name least most).0 (among_contained entry (entries_of volume.index d) among)

  pub slots_counted : (d : ℕ) → 1 ≤ d → d ≤ inodes_of volume.size → IsSorted (entries_of volume.index d) → Count (IsSlotOf volume.size device.words d) (length (entries_of volume.index d))
  slots_counted d least most sorted =
      let entries = entries_of volume.index d in
      count_alike (IsMatched (λ (entry : Entry) s. entry.slot ≡ s) entries) (IsSlotOf volume.size device.words d) (length entries) to from (count_matched (λ (entry : Entry) s. entry.slot ≡ s) entries (matching d least most sorted))
    where
      to : (s : ℕ) → IsMatched (λ (entry : Entry) s. entry.slot ≡ s) (entries_of volume.index d) s → IsSlotOf volume.size device.words d s
      to s (entry, among, is) =
          let entered = (stands.knows.nodes.entries d entry.slot entry.name least most).0 (among_contained entry (entries_of volume.index d) among) in
          subst (λ (slot : ℕ). IsSlotOf volume.size device.words d slot) is (entered.slot, entered.owner)

      from : (s : ℕ) → IsSlotOf volume.size device.words d s → IsMatched (λ (entry : Entry) s. entry.slot ≡ s) (entries_of volume.index d) s
      from s (slot, owner) =
          let entry : Entry = record { name = slot_name volume.size device.words s; slot = s } in
          (entry, contained_among entry (entries_of volume.index d) ((stands.knows.nodes.entries d s (slot_name volume.size device.words s) least most).1 (record { slot = slot; owner = owner; name = refl })), refl)

  pub names_counted : (d : ℕ) → 1 ≤ d → d ≤ inodes_of volume.size → IsSorted (entries_of volume.index d) → length (entries_of volume.index d) ≡ name_count state.tree d
  names_counted d least most sorted =
      count_one (IsSlotOf volume.size device.words d) (length (entries_of volume.index d)) (name_count state.tree d) (slots_counted d least most sorted)
      (name_count_law volume.size device.words state stands.sound.coherent stands.reads d)

  -- ---- nodes

  pub node_reached_beside : (inode : ℕ) → is_some (node_at state.tree inode) ≡ true → Reached volume.size device.words inode
  node_reached_beside inode there = nodes.node_reached volume.size device.words state.tree stands.sound.coherent stands.reads.tree inode there

  -- a node that is there and no directory is a file of the inode's size
  pub file_long : (inode : ℕ) → is_some (node_at state.tree inode) ≡ true → is_directory state.tree inode ≡ false → length (bytes_of state.tree inode) ≡ inode_size device.words inode
  file_long inode there other =
      let (bytes, is) = file_is (node_at state.tree inode) (a_file (node_at state.tree inode) there other) in
      ap (λ o. length (bytes_of_node o)) is ∙ (size_law volume.size device.words state stands.sound.coherent stands.reads).sizes inode bytes is

  pub status : (inode links amount : ℕ) (dir : Bool) → is_some (node_at state.tree inode) ≡ true → IsApart volume.size device.words residue inode → dir ≡ is_directory state.tree inode
      → links ≡ inode_links device.words inode → amount ≡ cond dir (name_count state.tree inode) (length (bytes_of state.tree inode))
      → record { dir = dir; inode = inode; links = links; amount = amount } ≡ status_of state.tree inode
  status inode links amount dir there apart dir_is links_is amount_is =
      let linked = links_is ∙ sym (link_word_beside_law volume.size device.words residue state (record { coherent = stands.sound.coherent; beside = stands.beside; reads = stands.reads }) inode (node_reached_beside inode there) apart) in
      let told = amount_is ∙ ap (λ b. cond b (name_count state.tree inode) (length (bytes_of state.tree inode))) dir_is in
      λ i. record { dir = dir_is i; inode = inode; links = linked i; amount = told i }

  pub node_within_beside : (inode : ℕ) → is_some (node_at state.tree inode) ≡ true → (1 ≤ inode) × (inode ≤ inodes_of volume.size)
  node_within_beside inode there = in_table volume device inode (state, residue, stands) (node_reached_beside inode there)

-- ---- a volume stands for one tree and room, whatever the residue

pub same_state_beside : (volume : VolumeView) (device : DeviceView) (state other : State) (residue other_residue : Residue) → StandsBeside volume device state residue → StandsBeside volume device other other_residue → state ≡ other
same_state_beside volume device state other residue other_residue stands stands_too =
    let tree = one_tree volume.size device.words state.tree other.tree stands.reads.tree stands_too.reads.tree in
    let room = one_room volume.size device.words state.room other.room stands.reads.room stands_too.reads.room in
    λ i. record { tree = tree i; room = room i }

-- ---- where no call runs

pub same_state : (volume : VolumeView) (device : DeviceView) (state other : State) → StandsFor volume device state → StandsFor volume device other → state ≡ other
same_state volume device state other stands stands_too = same_state_beside volume device state other no_residue no_residue (stands_beside stands) (stands_beside stands_too)

pub node_reached : (volume : VolumeView) (device : DeviceView) (state : State) → StandsFor volume device state → (inode : ℕ) → is_some (node_at state.tree inode) ≡ true → Reached volume.size device.words inode
node_reached volume device state stands inode there = node_reached_beside volume device state no_residue (stands_beside stands) inode there

pub node_within : (volume : VolumeView) (device : DeviceView) (state : State) → StandsFor volume device state → (inode : ℕ) → is_some (node_at state.tree inode) ≡ true → (1 ≤ inode) × (inode ≤ inodes_of volume.size)
node_within volume device state stands inode there = node_within_beside volume device state no_residue (stands_beside stands) inode there
