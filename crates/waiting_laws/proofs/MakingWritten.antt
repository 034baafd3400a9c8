-- Behind its first step the making of an entry waits: its node and its name are written, in a slot or in a new page.
use Rattle.std.proofs.Common.{◌≡◌, ◌≢◌, inl, inr, ℕ, ◌+◌, ◌<◌, List, ◌∷◌, reverse, slice_index, Option, Some, None, refl, sym, ap, subst, ◌∙◌, arith}
use Rattle.pm_trait.specs.DeviceView.{DeviceView}
use Rattle.layout.specs.declared.kinds.NodeKind.{NodeKind}
use Rattle.layout.specs.declared.kinds.NodeKind.TheVariants.{File, Directory}
use Rattle.layout.specs.Geometry.{inode_word_of}
use Rattle.layout.specs.Fields.{word, inode_words, inode_kind, inode_links}
use Rattle.layout.specs.Name.{IsName, IsBytes, words_of_name}
use Rattle.layout.proofs.Widths.{inode_field_read}
use Rattle.tree_model.specs.PathText.{Route}
use Rattle.tree_model.specs.Tree.{parent, link_count}
use Rattle.tree_model.specs.Run.{State}
use Rattle.tree_model.specs.Step.{making as of_kind}
use Rattle.image_reading.specs.Counts.{IsIn}
use Rattle.image_reading.specs.Litter.{IsInode}
use Rattle.image_reading.specs.Reading.{Reached, IsLinkCount}
use Rattle.image_reading.specs.Residue.{Residue}
use Rattle.image_counts.specs.Entries.{IsFreePage}
use Rattle.image_counts.specs.Laws.{ReadsBeside}
use Rattle.image_counts.proofs.Links.{links_counted, link_word_beside_law}
use Rattle.image_laws.specs.Create.{node_words, parent_links}
use Rattle.image_laws.specs.Stages.{IsReady as IsReadyNode}
use Rattle.image_laws.proofs.Making as node_laws
use Rattle.image_laws.proofs.Stages.{making_law}
use Rattle.weave_laws.specs.Joined.{joined}
use Rattle.weave_laws.specs.Naming.{counts_left, node_left, IsCountedParent}
use Rattle.weave_laws.specs.Waiting.{HasRaisedLinks}
use Rattle.weave_laws.proofs.FreeBeside.{kindless_unreached}
use Rattle.weave_laws.proofs.NodeWritten.{node_written_law, some_code}
use Rattle.weave_laws.proofs.OwnWords.{node_words_law, paged_node_words_law}
use Rattle.weave_laws.proofs.PagedNode.{writes, paged_node_written_law}
use Rattle.weave_laws.proofs.PagedQuiet.{paged_node_quiet_law}
use Rattle.weave_laws.proofs.WaitingPlans.{waiting_inode_law}
use Rattle.volume.specs.Volume.{VolumeView}
use Rattle.volume.specs.Planned.{IsPlace, IsEntryFor}
use Rattle.volume.specs.Stages.{keeping}
use Rattle.volume.specs.declared.next.Next.{Next}
use Rattle.volume.specs.declared.next.Next.TheVariants.{More}
use Rattle.volume.specs.declared.plan.NewEntry.{NewEntry}
use Rattle.volume.specs.declared.plan.Action.TheVariants.{Make}
use Rattle.create_ops.specs.declared.node.NewNode.{NewNode}
use Rattle.create_ops.specs.declared.run.Stage.TheVariants.{Written}
use Rattle.create_ops.specs.Making.{WritesNode, writing}
use Rattle.create_ops.specs.Stages.{RunningView, begun, EntersAt, StandsStage}
use Rattle.volume.proofs.Moments.{with_kept}
use Rattle.create_ops.proofs.Course.{more_events}
use Rattle.create_ops.proofs.Standing.{with_numbers, numbers_in}
use Rattle.waiting_laws.specs.Beside.{IsReady, MakesStep, KeepsMeaning}
use Rattle.waiting_laws.specs.Making.{left_by, WaitsOn, MakingWrittenLaw}
use Rattle.waiting_laws.proofs.NamingBegun.{crash_quiet}
use Rattle.waiting_laws.proofs.NamingPlaced as placed
use Rattle.waiting_laws.proofs.NamingPlaced.{IsComingName}
use Rattle.waiting_laws.proofs.NamingWords.{read_before}
use Rattle.waiting_laws.proofs.NamingWritten.{WritesName, named_in_slot, named_in_page, name_at, quiet_in_slot, quiet_in_page, none_of_inode, written_waits}
use Rattle.waiting_laws.proofs.MakingBegins as begins

-- ---- the node

pub counts_in : (kind : NodeKind) (d x : ℕ) → IsIn x (counts_left kind d) → x ≡ d
counts_in Directory d x among = elim among [ inl is ↦ is | inr none ↦ absurd none ]
counts_in File d x among = absurd among

-- ---- the step

-- The node, its name and the link word of a directory's parent are to be repaired.
pub record WritesEntry (P : ℕ) (I J : List ℕ) (state : State) (path : Route) (kind : NodeKind) (d s i : ℕ) (page : Option ℕ) (others : Residue) : Type 0 where
  pub name : WritesName P I J state path d s page (i ∷ counts_left kind d) (joined (node_left kind d s page i) others)
  pub open name use *
  pub words : (f : ℕ) → f < inode_words I → word J (inode_word_of i f) ≡ slice_index (node_words kind i) f
  pub links : inode_links J d ≡ parent_links kind (inode_links I d)

module _ (volume : VolumeView) (before : DeviceView) (state : State) (path : Route) (entry : NewEntry) (others : Residue) (ready : IsReady volume before state (of_kind entry.kind path) (Make entry) others) where
  abbrev P : ℕ
  P = volume.size

  abbrev I : List ℕ
  I = before.words

  abbrev d : ℕ
  d = entry.directory

  abbrev s : ℕ
  s = entry.slot

  abbrev i : ℕ
  i = entry.inode

  abbrev kind : NodeKind
  kind = entry.kind

  for_entry : IsEntryFor P I state path entry.kind entry
  for_entry = begins.for_entry volume before state path entry others ready

  coming : IsComingName volume before state others path d entry.name s entry.new_page
  coming = begins.coming volume before state path entry others ready

  holds : ReadsBeside P I others state
  holds = placed.holds coming

  reached : Reached P I d
  reached = (placed.reached_d coming).0

  inode : IsInode P i
  inode = record { from_one = for_entry.inode_is.free.0; in_range = for_entry.inode_is.free.1 }

  -- its directory has the links that the tree counts
  links_were : link_count state.tree d ≡ inode_links I d
  links_were = link_word_beside_law P I others state holds d reached coming.apart

  counted : (kind : NodeKind) → IsCountedParent P I kind d
  counted Directory = subst (IsLinkCount P I d) links_were (links_counted P I state.tree holds.coherent holds.reads.tree d reached)
  counted File = tt

  inodes_in : (x : ℕ) → IsIn x (i ∷ counts_left kind d) → IsInode P x
  inodes_in x among = elim among [
    | inl is ↦ subst (IsInode P) (sym is) inode
    | inr count ↦ let (least, most) = placed.table_d coming in subst (IsInode P) (sym (counts_in kind d x count)) (record { from_one = least; in_range = most })
  ]

  writes_entry : (J : List ℕ) → IsName entry.name → IsBytes entry.name → (page : Option ℕ) → IsPlace P I d s page → WritesNode P I J entry page → WritesEntry P I J state path entry.kind d s i page others
  writes_entry J is_name of_bytes None place makes =
      let words = words_of_name entry.name in
      let slot = placed.ready_slot coming place.vacant ready.no_pointer is_name of_bytes in
      let at : IsReadyNode P I (reverse (parent path)) d s i words = record { place = slot; inode = waiting_inode_law P I state i others (record { holds = holds; no_pointer = ready.no_pointer }) for_entry.inode_is.free (ready.unused i inode.from_one for_entry.inode_is.free.2) } in
      let stored = node_laws.named P I J (reverse (parent path)) kind d s i words at makes in
      record {
        name = record {
          step = quiet_in_slot slot stored (node_words_law P I J kind d s i words makes) inodes_in (λ M mix. making_law P I J M (reverse (parent path)) kind d s i words at makes mix);
          tidy = node_written_law P I J (reverse (parent path)) kind d s i words others at (placed.blank coming place.vacant) for_entry.inode_is.free.2 (counted kind) makes holds.beside;
          named = named_in_slot is_name of_bytes coming.new.name_is coming.may.absent slot stored (placed.place_of coming place.vacant);
        };
        words = makes.inode;
        links = makes.parent;
      }
  writes_entry J is_name of_bytes (Some page) place makes =
      let words = words_of_name entry.name in
      let (at, unused) = placed.new_page_is {P = P} {I = I} {d = d} place in
      let free : IsFreePage P I page = (unused.0, unused.1.0) in
      let unreached = kindless_unreached P I i holds.coherent for_entry.inode_is.free.2 in
      let written = writes P I J kind d page s i words holds.coherent reached free at inode unreached makes in
      record {
        name = record {
          step = quiet_in_page written (paged_node_words_law P I J kind d page s i words at makes) inodes_in (λ M mix. paged_node_quiet_law P I J M kind d page s i words holds.coherent reached free at inode unreached makes mix);
          tidy = paged_node_written_law P I J kind d page s i words others holds.coherent reached unused at for_entry.inode_is.free (counted kind) makes holds.beside;
          named = named_in_page is_name of_bytes coming.new.name_is coming.may.absent written at coming.new.directory_is (placed.is_holder coming);
        };
        words = makes.inode;
        links = makes.parent;
      }

  -- what the step makes,
  pub wrote_by : (J : List ℕ) → (writing P entry).Makes I J → WritesEntry P I J state path entry.kind d s i entry.new_page others
  wrote_by J (written, is_name, of_bytes) = writes_entry J is_name of_bytes entry.new_page coming.new.place written

  -- and that a crash in it changes no meaning
  pub crash_written : (J : List ℕ) → (writing P entry).Makes I J → KeepsMeaning P I J
  crash_written J made = crash_quiet ready.prepared.stands ready.unmarked (wrote_by J made).step

  -- ---- where it waits

  module _ (after : DeviceView) (wrote : WritesEntry P I after.words state path entry.kind d s i entry.new_page others) where
    abbrev J : List ℕ
    J = after.words

    abbrev N : VolumeView
    N = with_numbers (keeping volume (Make entry)) entry

    raised : (kind : NodeKind) → inode_links J d ≡ parent_links kind (inode_links I d) → HasRaisedLinks J state.tree kind d
    raised Directory links = links ∙ ap (λ n. n + 1) (sym links_were)
    raised File links = tt

    kind_used : inode_kind J i ≢ 0
    unfolding inode_kind
    kind_used none = some_code kind (sym (node_laws.node_says kind i).0 ∙ sym (wrote.words 0 (inode_field_read I 0 (omega arith))) ∙ none)

    waits_now : (file : NewNode) → MakesStep (writing P entry) (EntersAt (begun entry)) (keeping volume (Make entry)) N before after → StandsStage N after (record { entry = entry; stage = Written file })
        → WaitsOn volume N before after state path (record { entry = entry; stage = Written file }) others
    waits_now file makes stands =
        let leaves = written_waits volume (record (with_kept N.kept volume) { data_pages = N.data_pages }) N before after state path d s i entry.new_page (Some i) (i ∷ counts_left kind d) (of_kind entry.kind path) (Make entry)
        (left_by entry) others (writing P entry) (EntersAt (begun entry)) N.inodes N.data_pages ready (more_events entry) wrote.name refl ready.no_pointer
        (λ x among. elim among [ inl is ↦ (inl is, subst (λ y. inode_kind J y ≢ 0) (sym is) kind_used) | inr none ↦ absurd none ])
        (λ x among other. elim among [ inl is ↦ absurd (other (inl is)) | inr count ↦ subst (Reached P I) (sym (counts_in kind d x count)) reached ])
        (λ x among. elim among [ inl is ↦ inl is | inr count ↦ inr (inl (counts_in kind d x count)) ])
        makes refl refl refl refl in
        record {
          waits = record {
            beside = leaves.beside;
            words = stands.words;
            name_is = coming.new.name_is;
            name = name_at entry.new_page after wrote.named file.place stands.words.1;
            place = wrote.named.place;
            full = placed.full coming;
            node = λ f lt. wrote.words f (read_before I J f lt);
            links = raised kind wrote.links;
            alone = none_of_inode entry.new_page wrote.step.stores wrote.step.range (left_by entry) others refl wrote.tidy i (ready.unused i inode.from_one for_entry.inode_is.free.2);
            knows = record { place = stands.place; unlisted = placed.unlisted coming };
          };
          leaves = leaves;
        }

pub next_is : (one other : RunningView) → ◌≡◌ {A = Next RunningView} (More one) (More other) → one ≡ other
next_is one other e = cc

pub making_written : MakingWrittenLaw
making_written volume new before after state path entry next others ready makes (file, is) stands =
    let (taken, page, inode) = makes.enters in
    let new_is = numbers_in entry (keeping volume (Make entry)) _ taken new refl page inode in
    let wrote = wrote_by volume before state path entry others ready after.words makes.takes.makes in
    let running : RunningView = record { entry = entry; stage = Written file } in
    subst (λ (r : RunningView). WaitsOn volume new before after state path r others) (sym (next_is next running is))
    (subst (λ (v : VolumeView). MakesStep (writing volume.size entry) (EntersAt (begun entry)) (keeping volume (Make entry)) v before after → StandsStage v after running → WaitsOn volume v before after state path running others) (sym new_is)
    (waits_now volume before state path entry others ready after wrote file) makes (subst (λ (r : RunningView). StandsStage new after r) (next_is next running is) stands))
