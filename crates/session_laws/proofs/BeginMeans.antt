-- What the first step of a call leaves of the tree and the room: all that its command doesn't name stays, whether the step commits, stores bytes of
-- a range alone, or does neither.
use Rattle.std.proofs.Common.{◌≡◌, ◌≢◌, ℕ, ◌+◌, ◌≤◌, true, false, Bool, cond, List, [], ◌∷◌, length, count_by, Option, Some, None, refl, sym, ap, subst, ◌∙◌, arith}
use Rattle.std.proofs.lemmas.Bool.{false_from_ne_true}
use Rattle.tree_model.specs.Capacity.{Supply}
use Rattle.tree_model.specs.PathText.{Route}
use Rattle.tree_model.specs.Tree.{Tree, Node, File, Directory, Room, id_at, node_at, is_directory, is_directory_node, is_file_node, bytes_of, entries_in, path_count, pages_in}
use Rattle.tree_model.specs.Step.{refusal_with, with_bytes, overwritten, resized}
use Rattle.tree_model.specs.Run.{State, IsVolumeState}
use Rattle.tree_model.specs.declared.command.Command.{Command}
use Rattle.tree_model.proofs.NodeLaws.{no_directory}
use Rattle.tree_model.proofs.TreeLaws.{node_at-with_bytes_other}
use Rattle.naming_laws.specs.Naming.{names_inode}
use Rattle.naming_laws.specs.Still.{Enters, FindsSame, KeepsNode}
use Rattle.naming_laws.proofs.Apart.{apart_law}
use Rattle.naming_laws.proofs.Edits.{same_kind}
use Rattle.naming_laws.proofs.Unused.{unused_law}
use Rattle.image_reading.specs.Counts.{IsIn}
use Rattle.mixing_laws.specs.Mixed.{Range, IsMixed}
use Rattle.mixing_laws.proofs.Finds.{finds_alike_law}
use Rattle.mixing_laws.proofs.Mixes.{stored_below_law}
use Rattle.mixing_laws.proofs.Ranges.{none_mixed_law, more_mixed_law}
use Rattle.waiting_laws.specs.Beside.{KeepsNodes}
use Rattle.running_laws.specs.Steps.{IsAfter, HasStoredBelow, MeansUncommitted, MeansFirst}
use Rattle.session_laws.specs.Calls.{listed_range}
use Rattle.session_laws.proofs.GoingEnters.{keeps_themselves, finds_itself, keeps_unnamed}

-- no id is named by both
abbrev pub NamesNone : Tree → Command → Command → Type 0
NamesNone T one other = (i : ℕ) → names_inode T one i ≡ true → ¬ (names_inode T other i ≡ true)

-- Nodes that the command doesn't name stay, a command that names none of its nodes finds the same, and an id that no node had has none.
pub record StaysBeside (words later : State) (command : Command) : Type 0 where
  pub keeps : (inodes : List ℕ) → ((i : ℕ) → IsIn i inodes → 1 ≤ i) → ((i : ℕ) → names_inode words.tree command i ≡ true → ¬ IsIn i inodes) → KeepsNodes inodes words later
  pub finds : (supply : Supply) (other : Command) → refusal_with supply words.tree words.room other ≡ None → NamesNone words.tree other command → FindsSame other words later
  pub unused : (i : ℕ) → 1 ≤ i → node_at words.tree i ≡ None → node_at later.tree i ≡ None

-- ---- where nothing changes

same_stays : (words later : State) (command : Command) → later ≡ words → StaysBeside words later command
same_stays words later command same = record {
  keeps = λ inodes least apart. keeps_themselves inodes words later same;
  finds = λ supply other accepted apart. finds_itself other words later same;
  unused = λ i least none. ap (λ (l : State). node_at l.tree i) same ∙ none;
}

-- ---- where bytes of a range are stored

no_file : (o : Option Node) → is_file_node o ≡ true → o ≡ None → ⊥
no_file None is none = cc
no_file (Some node) is none = cc

module _ (range : Range) (words later : State) (stored : HasStoredBelow range words later) where
  abbrev mixed : List ℕ
  mixed = resized (overwritten (bytes_of words.tree range.file) range.offset range.bytes) (length (bytes_of words.tree range.file))

  tree_mixed : IsMixed (range ∷ []) words.tree later.tree
  tree_mixed =
      subst (IsMixed (range ∷ []) words.tree) (sym stored.tree)
      (more_mixed_law [] range words.tree words.tree mixed ((none_mixed_law words.tree words.tree).1 refl) (λ none. none) stored.file
      (stored_below_law range.offset range.bytes (bytes_of words.tree range.file)))

  kinds : (i : ℕ) → is_directory (with_bytes words.tree range.file mixed) i ≡ is_directory words.tree i
  kinds = same_kind words.tree range.file mixed (no_directory (node_at words.tree range.file) stored.file)

  other_node : (i : ℕ) → i ≢ range.file → KeepsNode i words later
  other_node i other = record {
    node = ap (λ (T : Tree). node_at T i) stored.tree ∙ node_at-with_bytes_other words.tree range.file mixed i other;
    names = ap (λ (T : Tree). length (entries_in T i)) stored.tree;
    links = ap (λ (T : Tree). cond (is_directory T i) (2 + count_by (λ e. is_directory T e.1) (entries_in T i)) (path_count T i)) stored.tree
        ∙ (λ k. cond (kinds i k) (2 + count_by (λ e. kinds e.1 k) (entries_in words.tree i)) (path_count words.tree i));
    paths = ap (λ (T : Tree). path_count T i) stored.tree;
    pages = ap (λ (r : Room). pages_in r i) stored.room;
  }

  same_path : (path : Route) → id_at later.tree path ≡ id_at words.tree path
  same_path path = ap (λ (T : Tree). id_at T path) stored.tree

  stored_finds : (supply : Supply) (c : Command) → ((i : ℕ) → names_inode words.tree c i ≡ true → i ≢ range.file) → FindsSame c words later
  stored_finds supply c other =
      let alike = finds_alike_law supply words.room c (range ∷ []) words.tree later.tree tree_mixed in
      record {
        walks = alike.walks;
        ids = λ path among. same_path path;
        named = alike.named;
        nodes = λ i named. (other_node i (other i named)).node;
        names = λ i named. (other_node i (other i named)).names;
        links = λ i named. (other_node i (other i named)).links;
        paths = λ i named. (other_node i (other i named)).paths;
        pages = λ i named. (other_node i (other i named)).pages;
      }

  stored_stays : (command : Command) → names_inode words.tree command range.file ≡ true → StaysBeside words later command
  stored_stays command names = record {
    keeps = λ inodes least apart. record {
      nodes = λ i among. other_node i (λ same. apart range.file names (subst (λ x. IsIn x inodes) same among));
      paths = λ path i among is. same_path path ∙ is;
      names = λ path i among is. same_path path;
    };
    finds = λ supply other accepted apart. stored_finds supply other
        (λ i named same. apart i named (subst (λ x. names_inode words.tree command x ≡ true) (sym same) names));
    unused = λ i least none.
        (other_node i (λ same. no_file (node_at words.tree range.file) stored.file (ap (node_at words.tree) (sym same) ∙ none))).node ∙ none;
  }

-- ---- where the command is carried out, by which no node is made

module _ (volume : ℕ) (supply : Supply) (words later : State) (command : Command) (valid : IsVolumeState volume words)
    (accepted : refusal_with supply words.tree words.room command ≡ None) (zero : node_at words.tree 0 ≡ None) (after : IsAfter words later command 0) where
  enters : Enters supply 0 words later command
  enters = record { accepted = accepted; unused = zero; tree = after.tree; room = after.room }

  after_stays : StaysBeside words later command
  after_stays = record {
    keeps = λ inodes least apart.
        keeps_unnamed volume 0 supply words later command valid enters inodes
        (λ i among. false_from_ne_true (names_inode words.tree command i) (λ named. apart i named among))
        (λ i among none. let from_one = least i among in omega (arith, none, from_one));
    finds = λ free other is apart.
        apart_law volume free supply 0 words later other command valid is enters
        (λ i named. false_from_ne_true (names_inode words.tree command i) (apart i named));
    unused = λ i least none. unused_law volume supply 0 words later command valid enters i none (λ same. omega (arith, same, least));
  }

-- ---- a first step

-- Where the step doesn't commit, the range is that of the call, whose file the command names.
pub first_stays : (volume : ℕ) (supply : Supply) (words later : State) (command : Command) (is_commit : Bool) (range : Option Range) (id : ℕ) → IsVolumeState volume words
    → refusal_with supply words.tree words.room command ≡ None → node_at words.tree 0 ≡ None → (is_commit ≡ true → id ≡ 0)
    → ((r : Range) → range ≡ Some r → names_inode words.tree command r.file ≡ true) → MeansFirst is_commit range words later command id → StaysBeside words later command
first_stays volume supply words later command true range id valid accepted zero given names means =
    after_stays volume supply words later command valid accepted zero (subst (λ x. IsAfter words later command x) (given refl) means)
first_stays volume supply words later command false None id valid accepted zero given names means = same_stays words later command means
first_stays volume supply words later command false (Some range) id valid accepted zero given names means = stored_stays range words later means command (names range refl)

-- Behind a step that doesn't commit the tree is mixed of the range alone, and the room the same.
pub uncommitted_mixed : (words later : State) (range : Option Range) → MeansUncommitted range words later → IsMixed (listed_range range) words.tree later.tree
uncommitted_mixed words later None same = subst (λ (l : State). IsMixed [] words.tree l.tree) (sym same) ((none_mixed_law words.tree words.tree).1 refl)
uncommitted_mixed words later (Some range) stored = tree_mixed range words later stored

pub uncommitted_room : (words later : State) (range : Option Range) → MeansUncommitted range words later → later.room ≡ words.room
uncommitted_room words later None same = ap (λ (l : State). l.room) same
uncommitted_room words later (Some range) stored = stored.room
