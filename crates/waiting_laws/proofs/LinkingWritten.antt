-- Behind its first step one more name for a file waits: it is written, in a slot or in a new page, and the file's links are raised.
use Rattle.std.proofs.Common.{◌≡◌, inl, inr, ℕ, ◌+◌, ◌-◌, List, [], ◌∷◌, reverse, Option, Some, None, refl, sym, ap, subst, ◌∙◌}
use Rattle.pm_trait.specs.DeviceView.{DeviceView}
use Rattle.layout.specs.Fields.{inode_links}
use Rattle.layout.specs.Name.{IsName, IsBytes, words_of_name}
use Rattle.tree_model.specs.PathText.{Route}
use Rattle.tree_model.specs.Tree.{parent, link_count}
use Rattle.tree_model.specs.Run.{State}
use Rattle.tree_model.specs.declared.command.Command.TheVariants.{Link}
use Rattle.image_reading.specs.Counts.{IsIn}
use Rattle.image_reading.specs.Litter.{IsInode}
use Rattle.image_reading.specs.Reading.{Reached, IsLinkCount}
use Rattle.image_reading.specs.Residue.{Residue}
use Rattle.image_counts.specs.Entries.{IsFreePage}
use Rattle.image_counts.specs.Laws.{ReadsBeside}
use Rattle.image_counts.proofs.Links.{links_counted, link_word_beside_law}
use Rattle.image_laws.specs.Add.{IsOldFile}
use Rattle.image_laws.proofs.Linking as link_laws
use Rattle.image_laws.proofs.Stages.{linking_law}
use Rattle.weave_laws.specs.Joined.{joined}
use Rattle.weave_laws.specs.Naming.{link_left}
use Rattle.weave_laws.proofs.LinkWritten.{link_written_law}
use Rattle.weave_laws.proofs.OwnWords.{link_words_law, paged_link_words_law}
use Rattle.weave_laws.proofs.PagedLink.{writes, paged_link_written_law}
use Rattle.weave_laws.proofs.PagedQuiet.{paged_link_quiet_law}
use Rattle.volume.specs.Volume.{VolumeView}
use Rattle.volume.specs.Entered.{pages_of_option, with_taken}
use Rattle.volume.specs.Planned.{IsPlace}
use Rattle.volume.specs.Stages.{keeping}
use Rattle.volume.specs.declared.next.Next.{Next}
use Rattle.volume.specs.declared.next.Next.TheVariants.{More}
use Rattle.volume.specs.declared.plan.NewName.{NewName}
use Rattle.volume.specs.declared.plan.Action.TheVariants.{Name}
use Rattle.unlink_ops.specs.declared.link.NamedFile.{NamedFile}
use Rattle.unlink_ops.specs.declared.link.Stage.TheVariants.{Written}
use Rattle.unlink_ops.specs.Linking.{WritesLink, written_events, writing}
use Rattle.unlink_ops.specs.LinkStages.{RunningView, begun, EntersAt, StandsStage}
use Rattle.unlink_ops.proofs.LinkCourse.{more_events}
use Rattle.waiting_laws.specs.Beside.{IsReady, MakesStep, KeepsMeaning}
use Rattle.waiting_laws.specs.Linking.{left_by, WaitsOn, LinkingWrittenLaw}
use Rattle.waiting_laws.proofs.NamingBegun.{crash_quiet}
use Rattle.waiting_laws.proofs.NamingPlaced as placed
use Rattle.waiting_laws.proofs.NamingPlaced.{IsComingName}
use Rattle.waiting_laws.proofs.NamingWritten.{WritesName, named_in_slot, named_in_page, name_at, quiet_in_slot, quiet_in_page, written_waits}
use Rattle.waiting_laws.proofs.LinkingBegins as begins

-- The name and the link word of its file are to be repaired.
pub record WritesLinkName (P : ℕ) (I J : List ℕ) (state : State) (path : Route) (d s i : ℕ) (page : Option ℕ) (others : Residue) : Type 0 where
  pub name : WritesName P I J state path d s page (i ∷ []) (joined (link_left s page i) others)
  pub open name use *
  pub links : inode_links J i ≡ inode_links I i + 1

module _ (volume : VolumeView) (before : DeviceView) (state : State) (from path : Route) (link : NewName) (others : Residue) (ready : IsReady volume before state (Link from path) (Name link) others) where
  abbrev P : ℕ
  P = volume.size

  abbrev I : List ℕ
  I = before.words

  abbrev d : ℕ
  d = link.directory

  abbrev s : ℕ
  s = link.slot

  abbrev i : ℕ
  i = link.inode

  coming : IsComingName volume before state others path d link.name s link.new_page
  coming = begins.coming volume before state from path link others ready

  holds : ReadsBeside P I others state
  holds = placed.holds coming

  file : IsOldFile P I i
  file = begins.old_file volume before state from path link others ready

  -- the file has the links that the tree counts
  links_were : link_count state.tree i ≡ inode_links I i
  links_were = link_word_beside_law P I others state holds i file.reached (begins.file_apart volume before state from path link others ready)

  counted : IsLinkCount P I i (inode_links I i)
  counted = subst (IsLinkCount P I i) links_were (links_counted P I state.tree holds.coherent holds.reads.tree i file.reached)

  inode_in : (x : ℕ) → IsIn x (i ∷ []) → IsInode P x
  inode_in x among = elim among [
    | inl is ↦ let (least, most) = placed.in_table holds i file.reached in subst (IsInode P) (sym is) (record { from_one = least; in_range = most })
    | inr none ↦ absurd none
  ]

  writes_name : (J : List ℕ) → IsName link.name → IsBytes link.name → (page : Option ℕ) → IsPlace P I d s page → WritesLink P I J link page → WritesLinkName P I J state path d s i page others
  writes_name J is_name of_bytes None place makes =
      let words = words_of_name link.name in
      let slot = placed.ready_slot coming place.vacant ready.no_pointer is_name of_bytes in
      let stored = link_laws.named P I J (reverse (parent path)) d s i words slot file makes in
      record {
        name = record {
          step = quiet_in_slot slot stored (link_words_law P I J s i words makes) inode_in (λ M mix. linking_law P I J M (reverse (parent path)) d s i words slot file makes mix);
          tidy = link_written_law P I J (reverse (parent path)) d s i words others slot (placed.blank coming place.vacant) file counted makes holds.beside;
          named = named_in_slot is_name of_bytes coming.new.name_is coming.may.absent slot stored (placed.place_of coming place.vacant);
        };
        links = makes.links;
      }
  writes_name J is_name of_bytes (Some page) place makes =
      let words = words_of_name link.name in
      let (at, unused) = placed.new_page_is {P = P} {I = I} {d = d} place in
      let free : IsFreePage P I page = (unused.0, unused.1.0) in
      let written = writes P I J page s i words holds.coherent free at file makes in
      record {
        name = record {
          step = quiet_in_page written (paged_link_words_law P I J page s i words at makes) inode_in (λ M mix. paged_link_quiet_law P I J M page s i words holds.coherent free at file makes mix);
          tidy = paged_link_written_law P I J page s i words others holds.coherent unused at file counted makes holds.beside;
          named = named_in_page is_name of_bytes coming.new.name_is coming.may.absent written at coming.new.directory_is (placed.is_holder coming);
        };
        links = makes.links;
      }

  -- what the step makes,
  pub wrote_by : (J : List ℕ) → (writing P link).Makes I J → WritesLinkName P I J state path d s i link.new_page others
  wrote_by J (written, is_name, of_bytes) = writes_name J is_name of_bytes link.new_page coming.new.place written

  -- and that a crash in it changes no meaning
  pub crash_written : (J : List ℕ) → (writing P link).Makes I J → KeepsMeaning P I J
  crash_written J made = crash_quiet ready.prepared.stands ready.unmarked (wrote_by J made).step

  -- ---- where it waits

  module _ (after : DeviceView) (wrote : WritesLinkName P I after.words state path d s i link.new_page others) where
    -- the volume behind the step
    abbrev N : VolumeView
    N = record volume { kept = (keeping volume (Name link)).kept - written_events link; data_pages = with_taken volume.data_pages (pages_of_option link.new_page) }

    waits_now : (node : NamedFile) → MakesStep (writing P link) (EntersAt (begun link)) (keeping volume (Name link)) N before after → StandsStage N after (record { link = link; stage = Written node })
        → WaitsOn volume N before after state from path (record { link = link; stage = Written node }) others
    waits_now node makes stands =
        let leaves = written_waits volume N N before after state path d s i link.new_page None (i ∷ []) (Link from path) (Name link) (left_by link) others (writing P link) (EntersAt (begun link)) N.inodes N.data_pages ready (more_events link)
        wrote.name refl ready.no_pointer (λ x none. absurd none) (λ x among other. elim among [ inl is ↦ subst (Reached P I) (sym is) file.reached | inr none ↦ absurd none ])
        (λ x among. elim among [ inl is ↦ inl is | inr none ↦ absurd none ]) makes refl refl refl refl in
        record {
          waits = record {
            beside = leaves.beside;
            words = stands.words;
            file_is = (begins.for_link volume before state from path link others ready).inode_is;
            name_is = coming.new.name_is;
            name = name_at link.new_page after wrote.named node.place stands.words.1;
            place = wrote.named.place;
            full = placed.full coming;
            file = begins.file_is volume before state from path link others ready;
            links = wrote.links ∙ ap (λ n. n + 1) (sym links_were);
            knows = record { place = stands.place; unlisted = placed.unlisted coming };
          };
          leaves = leaves;
        }

pub next_is : (one other : RunningView) → ◌≡◌ {A = Next RunningView} (More one) (More other) → one ≡ other
next_is one other e = cc

pub linking_written : LinkingWrittenLaw
linking_written volume new before after state from path link next others ready makes (node, is) stands =
    let wrote = wrote_by volume before state from path link others ready after.words makes.takes.makes in
    let running : RunningView = record { link = link; stage = Written node } in
    subst (λ (r : RunningView). WaitsOn volume new before after state from path r others) (sym (next_is next running is))
    (subst (λ (v : VolumeView). MakesStep (writing volume.size link) (EntersAt (begun link)) (keeping volume (Name link)) v before after → StandsStage v after running → WaitsOn volume v before after state from path running others) (sym makes.enters)
    (waits_now volume before state from path link others ready after wrote node) makes (subst (λ (r : RunningView). StandsStage new after r) (next_is next running is) stands))
