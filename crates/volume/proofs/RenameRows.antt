-- The row of a rename, by what the volume knows.
use Rattle.std.proofs.Common.{◌≡◌, ◌≢◌, ℕ, ◌+◌, ◌<◌, ◌≤◌, inl, inr, Bool, true, false, cond, not, ◌&&◌, ◌||◌, ◌==◌, nat_lt, List, [], ◌∷◌, length, Contains, Option, Some, None, is_some, is_none, unwrap_or, Ok, Err, refl, sym, ap, subst, ◌∙◌, arith, true≢false}
use Rattle.std.proofs.lemmas.List.{length-map}
use Rattle.std.proofs.lemmas.Bool.Decides.{nat_tests}
use Rattle.pm_trait.specs.DeviceView.{DeviceView}
use Rattle.layout.specs.Geometry.{page_of_slot}
use Rattle.layout.specs.Fields.{slot_inode, inode_links}
use Rattle.layout.specs.declared.kinds.NodeKind.{NodeKind}
use Rattle.layout.specs.declared.kinds.NodeKind.TheVariants.{File, Directory}
use Rattle.tree_model.specs.PathText.{Route}
use Rattle.tree_model.specs.Tree.{Tree, Node, IsTree, root_id, is_root, parent, is_above, is_number, id_at, node_at, is_directory, is_file, is_directory_node, is_file_node, last_name, entries_in, name_count, path_count}
use Rattle.tree_model.specs.Walk.{Place, root_place, walk, walk_to_parent}
use Rattle.tree_model.specs.Capacity.{free_pages, untaken}
use Rattle.tree_model.specs.Accepted.{MayReplace}
use Rattle.tree_model.specs.Step.{first, at, fault_of, id_of, is_same_node, names_in, page_for_name, faults_of_rename, refusal_of, refusal_with, least_free_id, tree_after, without_path}
use Rattle.tree_model.specs.Run.{State}
use Rattle.tree_model.specs.declared.command.Command.TheVariants.{Rename, Rmdir}
use Rattle.tree_model.specs.declared.reply.Refusal.{Refusal}
use Rattle.tree_model.specs.declared.reply.Refusal.TheVariants.{NotDir, Root, IsDir, NotEmpty, IntoItself, NoPages}
use Rattle.tree_model.proofs.AcceptedLaws.{Accepted-from_row}
use Rattle.tree_model.proofs.NodeLaws.{a_file, no_file}
use Rattle.tree_model.proofs.PathCounts.{gone-where_unnamed, path_count-without_path}
use Rattle.image_reading.specs.Counts.{Count}
use Rattle.image_reading.specs.Residue.{Residue, no_residue}
use Rattle.image_counts.specs.Entries.{IsUnusedDataPage, IsPageIn}
use Rattle.image_counts.specs.Laws.{supply_beside}
use Rattle.image_counts.proofs.Apart.{apart_nothing}
use Rattle.image_counts.proofs.Links.{link_word_beside_law}
use Rattle.volatile_index.specs.Entries.{IsAbsent}
use Rattle.volatile_index.specs.Index.{entries_of}
use Rattle.volume.specs.Volume.{VolumeView}
use Rattle.volume.specs.Beside.{StandsBeside, StandsAlone, HasNodeAlone, MayPrepare}
use Rattle.volume.specs.Moves.{is_directory_kind}
use Rattle.volume.specs.Planned.{IsVacantSlot, IsPlace, IsNameAt, IsLossOf, IsAlone, IsGivenBack, IsMovingFor, IsNothingOr, IsPlannedWith, IsPlanned}
use Rattle.volume.specs.Walks.{name_row, replace_row, WouldHold}
use Rattle.volume.specs.Prepared.{IsLeftWith, IsPlanFound}
use Rattle.volume.specs.declared.plan.Loss.{Loss}
use Rattle.volume.specs.declared.plan.Moving.{Moving}
use Rattle.volume.specs.declared.plan.Action.{Action}
use Rattle.volume.specs.declared.plan.Action.TheVariants.{Move, KeepNames}
use Rattle.volume.proofs.Beside.{untouched_nothing}
use Rattle.volume.proofs.Frees.{reads_beside}
use Rattle.volume.proofs.WalkedBeside.{stands_tree, reached_at}
use Rattle.volume.proofs.Statuses.{same_state_beside}
use Rattle.volume.proofs.Holders.{held, named_there, named_absent, lacks_page, has_page}
use Rattle.volume.proofs.RemovalRows.{is_some_test, is_none_test, otherwise, name_found, name_is, rmdir_row}

-- ---- a rename is prepared alone

module _ (volume : VolumeView) (device : DeviceView) (state : State) (residue : Residue) (from to : Route) (asked : MayPrepare volume device state residue (Rename from to)) where
  left_none : residue ≡ no_residue
  left_none = asked.untouched.alone refl

  pub alone : StandsAlone volume device state
  alone = subst (StandsBeside volume device state) left_none asked.stands

module _ (volume : VolumeView) (device : DeviceView) (from to : Route) where
  pub plan_alone : (action : Action) → ((state : State) → StandsAlone volume device state → IsPlanned volume.size device.words state (Rename from to) action) → IsPlanFound volume device (Rename from to) action
  plan_alone action planned = λ state residue asked.
      subst (λ (left : Residue). IsPlannedWith (supply_beside volume.size left) device.words state (Rename from to) action) (sym (left_none volume device state residue from to asked)) (planned state (alone volume device state residue from to asked))

  pub refusal_alone : (fault : Refusal) → ((state : State) → StandsAlone volume device state → refusal_of volume.size state.tree state.room (Rename from to) ≡ Some fault)
      → (state : State) (residue : Residue) → MayPrepare volume device state residue (Rename from to) → refusal_with (supply_beside volume.size residue) state.tree state.room (Rename from to) ≡ Some fault
  refusal_alone fault refused state residue asked =
      subst (λ (left : Residue). refusal_with (supply_beside volume.size left) state.tree state.room (Rename from to) ≡ Some fault) (sym (left_none volume device state residue from to asked)) (refused state (alone volume device state residue from to asked))

-- ---- how the row begins

abbrev row : Option Refusal → Option Refusal → Bool → Bool → List (Option Refusal) → Option Refusal
row walked held is_the_root same faults = first (walked ∷ held ∷ at Root is_the_root ∷ cond same [] faults)

or_false : (a b : Bool) → a ≡ false → b ≡ false → a || b ≡ false
or_false a b one other = λ i. one i || other i

and_false : (b : Bool) → b && false ≡ false
and_false true = refl
and_false false = refl

or_true : (a : Bool) → a || true ≡ true
or_true true = refl
or_true false = refl

-- a fault of the old name's own row is the first where the new name's walk passes
source_first : (walked : Option Refusal) (from_root to_root same : Bool) (faults : List (Option Refusal)) (fault : Refusal) → first (walked ∷ at Root from_root ∷ []) ≡ Some fault
    → row walked None (from_root || to_root) same faults ≡ Some fault
source_first (Some found) from_root to_root same faults fault e = e
source_first None true to_root same faults fault e = e
source_first None false to_root same faults fault e = cc

module _ (P : ℕ) (state : State) (from to : Route) where
  abbrev is_same : Bool
  is_same = is_same_node state.tree from to

  abbrev later : List (Option Refusal)
  later = faults_of_rename (untaken P) state.tree state.room from to

  pub rename_source_fails : (fault : Refusal) → walk state.tree from ≡ Err fault → refusal_of P state.tree state.room (Rename from to) ≡ Some fault
  rename_source_fails fault e = ap (λ w. row (fault_of w) (fault_of (walk_to_parent state.tree to)) (is_root from || is_root to) is_same later) e

  pub rename_target_fails : (place : Place) (fault : Refusal) → walk state.tree from ≡ Ok place → walk_to_parent state.tree to ≡ Err fault → refusal_of P state.tree state.room (Rename from to) ≡ Some fault
  rename_target_fails place fault walked e = λ i. row (fault_of (walked i)) (fault_of (e i)) (is_root from || is_root to) is_same later

  pub rename_to_root : (place : Place) → walk state.tree from ≡ Ok place → to ≡ [] → walk_to_parent state.tree to ≡ Ok root_place → refusal_of P state.tree state.room (Rename from to) ≡ Some Root
  rename_to_root place walked is e =
      let root = ap (λ (p : Route). is_root from || is_root p) is ∙ or_true (is_root from) in
      λ i. row (fault_of (walked i)) (fault_of (e i)) (root i) is_same later

  pub rename_row_fails : (place : Place) (fault : Refusal) → walk_to_parent state.tree to ≡ Ok place → name_row state.tree from ≡ Some fault → refusal_of P state.tree state.room (Rename from to) ≡ Some fault
  rename_row_fails place fault held e =
      ap (λ h. row (fault_of (walk state.tree from)) (fault_of h) (is_root from || is_root to) is_same later) held
      ∙ source_first (fault_of (walk state.tree from)) (is_root from) (is_root to) is_same later fault e

-- its walk passes, and it isn't the root's
passes : (walked : Option Refusal) (b : Bool) → first (walked ∷ at Root b ∷ []) ≡ None → (walked ≡ None) × (b ≡ false)
passes (Some fault) b e = cc
passes None true e = cc
passes None false e = (refl, refl)

-- ---- what is tested of two nodes

abbrev told : Bool → Bool → Bool → Bool → Bool → Bool → Bool → Bool → Option Refusal
told directory file there onto_directory onto_file some above lacks =
    first (at NotDir (directory && there && onto_file) ∷ at IsDir (file && there && onto_directory) ∷ at NotEmpty (directory && there && onto_directory && some)
    ∷ at IntoItself (directory && above) ∷ at NoPages lacks ∷ [])

to_new_name : (directory file onto_directory onto_file some above lacks : Bool) → told directory file false onto_directory onto_file some above lacks ≡ first (at IntoItself (directory && above) ∷ at NoPages lacks ∷ [])
to_new_name true true onto_directory onto_file some above lacks = refl
to_new_name true false onto_directory onto_file some above lacks = refl
to_new_name false true onto_directory onto_file some above lacks = refl
to_new_name false false onto_directory onto_file some above lacks = refl

abbrev replacing : Bool → Bool → Bool → Bool → List (Option Refusal) → Option Refusal
replacing directory onto_directory onto_file some rest =
    first (at NotDir (directory && onto_file) ∷ at IsDir (not directory && onto_directory) ∷ at NotEmpty (directory && onto_directory && some) ∷ rest)

onto_name : (directory onto_directory onto_file some above : Bool)
    → told directory (not directory) true onto_directory onto_file some above false ≡ replacing directory onto_directory onto_file some (at IntoItself (directory && above) ∷ None ∷ [])
onto_name true onto_directory onto_file some above = refl
onto_name false onto_directory onto_file some above = refl

replace_fails : (a b c : Option Refusal) (rest : List (Option Refusal)) (fault : Refusal) → first (a ∷ b ∷ c ∷ []) ≡ Some fault → first (a ∷ b ∷ c ∷ rest) ≡ Some fault
replace_fails (Some found) b c rest fault e = e
replace_fails None (Some found) c rest fault e = e
replace_fails None None (Some found) rest fault e = e
replace_fails None None None rest fault e = cc

replace_passes : (a b c : Option Refusal) (rest : List (Option Refusal)) → first (a ∷ b ∷ c ∷ []) ≡ None → first (a ∷ b ∷ c ∷ rest) ≡ first rest
replace_passes (Some found) b c rest e = cc
replace_passes None (Some found) c rest e = cc
replace_passes None None (Some found) rest e = cc
replace_passes None None None rest e = refl

-- a node that is no directory is a file
is_file_by : (o : Option Node) (directory : Bool) → is_some o ≡ true → is_directory_node o ≡ directory → is_file_node o ≡ not directory
is_file_by o true there is = no_file o is
is_file_by o false there is = a_file o there is

-- so many names
pub no_names_counted : (T : Tree) (inode names : ℕ) → names ≡ length (names_in T inode) → names ≤ 0 → nat_lt 0 (name_count T inode) ≡ false
no_names_counted T inode names is none = ap (nat_lt 0) (sym (is ∙ length-map (entries_in T inode) (λ e. last_name e.0))) ∙ is_none_test names none

pub some_names_counted : (T : Tree) (inode names : ℕ) → names ≡ length (names_in T inode) → 0 < names → nat_lt 0 (name_count T inode) ≡ true
some_names_counted T inode names is some = ap (nat_lt 0) (sym (is ∙ length-map (entries_in T inode) (λ e. last_name e.0))) ∙ is_some_test names some

-- a page is given back where another condition holds too
pub given_too : (Alone Other : Type 0) (slot : ℕ) (given : Option ℕ) → Other → IsGivenBack Alone slot given → IsGivenBack (Alone × Other) slot given
given_too Alone Other slot None other kept = λ both. kept both.0
given_too Alone Other slot (Some page) other (alone, is) = ((alone, other), is)

-- the node that a volume has stands in each state that it stands for
pub there_now : (volume : VolumeView) (device : DeviceView) (inode : ℕ) → HasNodeAlone volume device inode → (state : State) → StandsAlone volume device state → is_some (node_at state.tree inode) ≡ true
there_now volume device inode (known, stands_known, there) state stands =
    subst (λ (s : State). is_some (node_at s.tree inode) ≡ true) (same_state_beside volume device known state no_residue no_residue stands_known stands) there

-- which of two nodes may not take the other's name
module _ (T : Tree) (kind : NodeKind) (inode : ℕ) (there : is_some (node_at T inode) ≡ true) where
  replaced_by : (directory : Bool) → is_directory_kind kind ≡ directory → (onto_directory some : Bool) → is_directory T inode ≡ onto_directory → nat_lt 0 (name_count T inode) ≡ some
      → replace_row T kind inode ≡ replacing directory onto_directory (not onto_directory) some []
  replaced_by directory is onto_directory some onto names = λ i. replacing (is i) (onto i) (is_file_by (node_at T inode) onto_directory there onto i) (names i) []

  pub no_file_by_directory : kind ≡ Directory → is_directory T inode ≡ false → replace_row T kind inode ≡ Some NotDir
  no_file_by_directory is onto = replaced_by true (ap is_directory_kind is) false _ onto refl

  pub filled_directory : kind ≡ Directory → is_directory T inode ≡ true → nat_lt 0 (name_count T inode) ≡ true → replace_row T kind inode ≡ Some NotEmpty
  filled_directory is onto some = replaced_by true (ap is_directory_kind is) true true onto some

  pub empty_directory : kind ≡ Directory → is_directory T inode ≡ true → nat_lt 0 (name_count T inode) ≡ false → replace_row T kind inode ≡ None
  empty_directory is onto none = replaced_by true (ap is_directory_kind is) true false onto none

  pub file_by_file : kind ≡ File → is_directory T inode ≡ false → replace_row T kind inode ≡ None
  file_by_file is onto = replaced_by false (ap is_directory_kind is) false _ onto refl

-- ---- numbers

no_less : (n : ℕ) → nat_lt n 0 ≡ false
no_less n = grind (arith, nat_tests)

same_number : (a b : ℕ) → a ≡ b → (a == b) && true ≡ true
same_number a b e = grind (arith, nat_tests)

other_number : (a b : ℕ) → a ≢ b → (a == b) && true ≡ false
other_number a b e = grind (arith, nat_tests)

one_more : (less n : ℕ) → (less == 0) ≡ true → less + 1 ≡ n → (n == 1) ≡ true
one_more less n none more = grind (arith, nat_tests)

same_some : (x y : ℕ) → ◌≡◌ {A = Option ℕ} (Some x) (Some y) → x ≡ y
same_some x y e = cc

module _ (volume : VolumeView) (device : DeviceView) (state : State) (stands : StandsAlone volume device state) (from to : Route) where
  abbrev tests : List (Option Refusal)
  tests = faults_of_rename (untaken volume.size) state.tree state.room from to

  module _ (d : ℕ) (name : List ℕ) (holder : WouldHold state.tree to d name) where
    module _ (begins : name_row state.tree from ≡ None) where
      walked : fault_of (walk state.tree from) ≡ None
      walked = (passes (fault_of (walk state.tree from)) (is_root from) begins).0

      below : is_root from ≡ false
      below = (passes (fault_of (walk state.tree from)) (is_root from) begins).1

      behind : (same : Bool) → is_same_node state.tree from to ≡ same → refusal_of volume.size state.tree state.room (Rename from to) ≡ row None None false same tests
      behind same is = λ i. row (walked i) (fault_of (holder.walked i)) (or_false (is_root from) (is_root to) below holder.below i) (is i) tests

      module _ (directory : ℕ) (from_name : List ℕ) (from_slot inode : ℕ) (source : IsNameAt volume.size device.words state from directory from_name from_slot inode) where
        from_is : id_of state.tree from ≡ inode
        from_is = ap (λ o. unwrap_or o root_id) source.inode_is

        tree : IsTree state.tree
        tree = stands_tree volume device state no_residue stands

        there_from : is_some (node_at state.tree inode) ≡ true
        there_from = tree.present from inode source.inode_is

        abbrev moving_to : NodeKind → ℕ → Option ℕ → Option Loss → Option ℕ → Moving
        moving_to kind slot new_page replaced given_back = record {
          inode = inode;
          kind = kind;
          from_directory = directory;
          from_name = from_name;
          from_slot = from_slot;
          to_directory = d;
          to_name = name;
          to_slot = slot;
          new_page = new_page;
          replaced = replaced;
          given_back = given_back;
        }

        abbrev IsLeftEmpty : ℕ → Option ℕ → Type 0
        IsLeftEmpty slot given_back = IsGivenBack (IsAlone volume.size device.words from_slot × (page_of_slot slot ≢ page_of_slot from_slot)) from_slot given_back

        -- ---- to a name that isn't there

        module _ (absent : IsAbsent (entries_of volume.index d) name) where
          none : id_at state.tree to ≡ None
          none = named_absent volume device state no_residue stands to d name holder absent

          differ : is_same_node state.tree from to ≡ false
          differ = ap (λ o. is_number (id_at state.tree from) (id_of state.tree to) && is_some o) none ∙ and_false (is_number (id_at state.tree from) (id_of state.tree to))

          abbrev lacks : Bool
          lacks = nat_lt (free_pages (untaken volume.size) state.tree state.room) (page_for_name state.tree state.room (Some (id_of state.tree (parent to))))

          new_row : refusal_of volume.size state.tree state.room (Rename from to) ≡ first (at IntoItself (is_directory state.tree inode && is_above from to) ∷ at NoPages lacks ∷ [])
          new_row =
              behind false differ
              ∙ (λ i. told (is_directory state.tree (from_is i)) (is_file state.tree (from_is i)) (is_some (none i)) (is_directory state.tree (id_of state.tree to)) (is_file state.tree (id_of state.tree to))
              (nat_lt 0 (name_count state.tree (id_of state.tree to))) (is_above from to)
              (nat_lt (free_pages (untaken volume.size) state.tree state.room) (page_for_name state.tree state.room (cond (is_some (none i)) None (Some (id_of state.tree (parent to)))))))
              ∙ to_new_name (is_directory state.tree inode) (is_file state.tree inode) (is_directory state.tree (id_of state.tree to)) (is_file state.tree (id_of state.tree to))
              (nat_lt 0 (name_count state.tree (id_of state.tree to))) (is_above from to) lacks

          pub new_into_itself : is_directory state.tree inode && is_above from to ≡ true → refusal_of volume.size state.tree state.room (Rename from to) ≡ Some IntoItself
          new_into_itself is = new_row ∙ ap (λ b. first (at IntoItself b ∷ at NoPages lacks ∷ [])) is

          module _ (outside : is_directory state.tree inode && is_above from to ≡ false) where
            pub new_no_page : ((slot : ℕ) → ¬ IsVacantSlot volume.size device.words d slot) → ((page : ℕ) → ¬ IsUnusedDataPage volume.size device.words page) → refusal_of volume.size state.tree state.room (Rename from to) ≡ Some NoPages
            new_no_page all_named all_used =
                let short = lacks_page volume device state no_residue stands to d name holder (untouched_nothing volume device.words d) all_named all_used in
                new_row ∙ (λ i. first (at IntoItself (outside i) ∷ at NoPages (short i) ∷ []))

            pub new_planned : (kind : NodeKind) (slot : ℕ) (new_page given_back : Option ℕ) → is_directory state.tree inode ≡ is_directory_kind kind → IsPlace volume.size device.words d slot new_page → IsLeftEmpty slot given_back
                → IsPlanned volume.size device.words state (Rename from to) (Move (moving_to kind slot new_page None given_back))
            new_planned kind slot new_page given_back kind_is place given =
                let enough = has_page volume device state no_residue stands to d name holder (untouched_nothing volume device.words d) slot new_page place in
                let moving = moving_to kind slot new_page None given_back in
                let for : IsMovingFor volume.size device.words state from to moving = record {
                  kind_is = kind_is;
                  source = source;
                  target = (none, record { directory_is = (held volume device state no_residue stands to d name holder).0; name_is = holder.named; place = place });
                  given_back = given;
                } in
                record {
                  accepted = new_row ∙ (λ i. first (at IntoItself (outside i) ∷ at NoPages (enough i) ∷ []));
                  plan_is = subst (λ b. IsNothingOr b KeepNames (λ action. (other : Moving) × (action ≡ Move other) × IsMovingFor volume.size device.words state from to other) (Move moving)) (sym differ) (moving, refl, for);
                }

        -- ---- to one that is there

        module _ (slot : ℕ) (there : Contains (entries_of volume.index d) (record { name = name; slot = slot })) where
          abbrev other : ℕ
          other = slot_inode volume.size device.words slot

          named : id_at state.tree to ≡ Some other
          named = named_there volume device state no_residue stands to d name holder slot there

          to_is : id_of state.tree to ≡ other
          to_is = ap (λ o. unwrap_or o root_id) named

          there_to : is_some (node_at state.tree other) ≡ true
          there_to = tree.present to other named

          same_is : is_same_node state.tree from to ≡ (inode == other) && true
          same_is = λ i. is_number (source.inode_is i) (to_is i) && is_some (named i)

          pub keep_planned : other ≡ inode → IsPlanned volume.size device.words state (Rename from to) KeepNames
          keep_planned same =
              let one = same_is ∙ same_number inode other (sym same) in
              record {
                accepted = behind true one;
                plan_is = subst (λ b. IsNothingOr b KeepNames (λ action. (moving : Moving) × (action ≡ Move moving) × IsMovingFor volume.size device.words state from to moving) KeepNames) (sym one) refl;
              }

          module _ (two : other ≢ inode) (kind : NodeKind) (kind_is : is_directory state.tree inode ≡ is_directory_kind kind) where
            apart : is_same_node state.tree from to ≡ false
            apart = same_is ∙ other_number inode other (λ same. two (sym same))

            file_is : is_file state.tree inode ≡ not (is_directory_kind kind)
            file_is = is_file_by (node_at state.tree inode) (is_directory_kind kind) there_from kind_is

            onto_row : refusal_of volume.size state.tree state.room (Rename from to)
                ≡ replacing (is_directory_kind kind) (is_directory state.tree other) (is_file state.tree other) (nat_lt 0 (name_count state.tree other)) (at IntoItself (is_directory_kind kind && is_above from to) ∷ None ∷ [])
            onto_row =
                behind false apart
                ∙ (λ i. told (is_directory state.tree (from_is i)) (is_file state.tree (from_is i)) (is_some (named i)) (is_directory state.tree (to_is i)) (is_file state.tree (to_is i)) (nat_lt 0 (name_count state.tree (to_is i))) (is_above from to)
                (nat_lt (free_pages (untaken volume.size) state.tree state.room) (page_for_name state.tree state.room (cond (is_some (named i)) None (Some (id_of state.tree (parent to)))))))
                ∙ (λ i. told (kind_is i) (file_is i) true (is_directory state.tree other) (is_file state.tree other) (nat_lt 0 (name_count state.tree other)) (is_above from to) (no_less (free_pages (untaken volume.size) state.tree state.room) i))
                ∙ onto_name (is_directory_kind kind) (is_directory state.tree other) (is_file state.tree other) (nat_lt 0 (name_count state.tree other)) (is_above from to)

            pub onto_fails : (fault : Refusal) → replace_row state.tree kind other ≡ Some fault → refusal_of volume.size state.tree state.room (Rename from to) ≡ Some fault
            onto_fails fault e =
                onto_row
                ∙ replace_fails (at NotDir (is_directory_kind kind && is_file state.tree other)) (at IsDir (not (is_directory_kind kind) && is_directory state.tree other))
                (at NotEmpty (is_directory_kind kind && is_directory state.tree other && nat_lt 0 (name_count state.tree other))) (at IntoItself (is_directory_kind kind && is_above from to) ∷ None ∷ []) fault e

            module _ (replaces : replace_row state.tree kind other ≡ None) where
              passed : refusal_of volume.size state.tree state.room (Rename from to) ≡ first (at IntoItself (is_directory state.tree inode && is_above from to) ∷ None ∷ [])
              passed =
                  onto_row
                  ∙ replace_passes (at NotDir (is_directory_kind kind && is_file state.tree other)) (at IsDir (not (is_directory_kind kind) && is_directory state.tree other))
                  (at NotEmpty (is_directory_kind kind && is_directory state.tree other && nat_lt 0 (name_count state.tree other))) (at IntoItself (is_directory_kind kind && is_above from to) ∷ None ∷ []) replaces
                  ∙ ap (λ b. first (at IntoItself (b && is_above from to) ∷ None ∷ [])) (sym kind_is)

              pub onto_into_itself : is_directory state.tree inode && is_above from to ≡ true → refusal_of volume.size state.tree state.room (Rename from to) ≡ Some IntoItself
              onto_into_itself is = passed ∙ ap (λ b. first (at IntoItself b ∷ None ∷ [])) is

              module _ (outside : is_directory state.tree inode && is_above from to ≡ false) where
                accepted : refusal_of volume.size state.tree state.room (Rename from to) ≡ None
                accepted = passed ∙ ap (λ b. first (at IntoItself b ∷ None ∷ [])) outside

                replace : MayReplace state.tree from to inode
                replace =
                    let found = Accepted-from_row (untaken volume.size) state.tree state.room (Rename from to) tree accepted in
                    let same = same_some found.source.id inode (sym found.source.named ∙ source.inode_is) in
                    elim found.moves [
                      | inl one ↦ absurd (true≢false (sym one ∙ apart))
                      | inr move ↦ elim move.target [
                        | inl new ↦ absurd (true≢false (sym (ap is_some named) ∙ ap is_some new.absent))
                        | inr onto ↦ subst (MayReplace state.tree from to) same onto
                      ]
                    ]

                its_id : replace.target.id ≡ other
                its_id = same_some replace.target.id other (sym replace.target.named ∙ named)

                kinds : is_directory state.tree other ≡ is_directory_kind kind
                kinds = ap (is_directory state.tree) (sym its_id) ∙ replace.kind ∙ kind_is

                empty : name_count state.tree other ≡ 0
                empty = ap (name_count state.tree) (sym its_id) ∙ replace.empty

                goes : is_none (node_at (tree_after (least_free_id state.tree) state.tree (Rename from to)) other) ≡ (path_count state.tree other == 1)
                goes = subst (λ (id : ℕ). is_none (node_at (tree_after (least_free_id state.tree) state.tree (Rename from to)) id) ≡ (path_count state.tree id == 1)) its_id (replace.goes (least_free_id state.tree))

                -- a directory has one path: without it, it is gone
                one_path : is_directory state.tree other ≡ true → (path_count state.tree other == 1) ≡ true
                one_path directory =
                    let is_name = name_is volume device state no_residue stands to d name holder slot there in
                    let begins = name_found volume device state no_residue stands to d name holder slot there in
                    let found = Accepted-from_row (untaken volume.size) state.tree state.room (Rmdir to) tree
                    (rmdir_row volume device state no_residue stands to begins d name slot other is_name false false (no_file (node_at state.tree other) directory) (ap (nat_lt 0) empty ∙ no_less 0)) in
                    let same = same_some found.source.id other (sym found.source.named ∙ named) in
                    let gone = ap (λ id. node_at (tree_after (least_free_id state.tree) state.tree (Rmdir to)) id) (sym same) ∙ found.goes (least_free_id state.tree) in
                    let present = ap (node_at state.tree) (sym its_id) ∙ replace.target.present in
                    let none_left = sym (gone-where_unnamed (without_path state.tree to) other replace.target.node present) ∙ ap is_none gone in
                    one_more (path_count (without_path state.tree to) other) (path_count state.tree other) none_left (path_count-without_path state.tree to other named)

                counted : (directory : Bool) → is_directory state.tree other ≡ directory → directory || (inode_links device.words other == 1) ≡ (path_count state.tree other == 1)
                counted true is = sym (one_path is)
                counted false is =
                    let reached = reached_at volume device state no_residue to other stands named in
                    ap (λ n. n == 1) (sym (link_word_beside_law volume.size device.words no_residue state (reads_beside volume device state no_residue stands) other reached (apart_nothing volume.size device.words other)) ∙ otherwise (is_directory state.tree other) _ (path_count state.tree other) is)

                pub onto_planned : (loss : Loss) (given_back : Option ℕ) → IsLeftWith volume.size device.words other kind loss → IsLeftEmpty slot given_back
                    → IsPlanned volume.size device.words state (Rename from to) (Move (moving_to kind slot None (Some loss) given_back))
                onto_planned loss given_back left given =
                    let moving = moving_to kind slot None (Some loss) given_back in
                    let is_loss : IsLossOf volume.size device.words state (Rename from to) loss = record {
                      kind_is = ap (is_directory state.tree) left.inode_is ∙ kinds ∙ ap is_directory_kind (sym left.kind_is);
                      goes_is = left.goes_is ∙ ap (λ b. b || (inode_links device.words other == 1)) (sym kinds) ∙ counted (is_directory state.tree other) refl ∙ sym goes
                          ∙ ap (λ id. is_none (node_at (tree_after (least_free_id state.tree) state.tree (Rename from to)) id)) (sym left.inode_is);
                      pages = λ all. subst (λ (id : ℕ). Count (IsPageIn volume.size device.words id) loss.pages) (sym left.inode_is) (left.pages all);
                      no_pages = left.no_pages;
                    } in
                    let is_name = subst (λ (id : ℕ). IsNameAt volume.size device.words state to d name slot id) (sym left.inode_is) (name_is volume device state no_residue stands to d name holder slot there) in
                    let for : IsMovingFor volume.size device.words state from to moving = record { kind_is = kind_is; source = source; target = (is_name, is_loss, refl); given_back = given } in
                    record {
                      accepted = accepted;
                      plan_is = subst (λ b. IsNothingOr b KeepNames (λ action. (other : Moving) × (action ≡ Move other) × IsMovingFor volume.size device.words state from to other) (Move moving)) (sym apart) (moving, refl, for);
                    }
