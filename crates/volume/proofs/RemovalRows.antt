-- The rows of commands that take a name away, by what the volume knows.
use Rattle.std.proofs.Common.{◌≡◌, ℕ, ◌<◌, ◌≤◌, ◌==◌, Bool, true, false, cond, nat_lt, List, [], ◌∷◌, length, Contains, Option, Some, None, is_some, is_none, unwrap_or, Ok, Err, refl, sym, ap, ◌∙◌, arith}
use Rattle.std.proofs.lemmas.List.{length-map}
use Rattle.std.proofs.lemmas.Bool.Decides.{nat_tests}
use Rattle.pm_trait.specs.DeviceView.{DeviceView}
use Rattle.layout.specs.Fields.{inode_links, slot_inode}
use Rattle.layout.specs.declared.kinds.NodeKind.{NodeKind}
use Rattle.layout.specs.declared.kinds.NodeKind.TheVariants.{File, Directory}
use Rattle.tree_model.specs.PathText.{Route}
use Rattle.tree_model.specs.Tree.{root_id, is_root, parent, last_name, node_at, is_directory, is_file, name_count, path_count, entries_in}
use Rattle.tree_model.specs.Walk.{walk, walk_to_parent, step_into}
use Rattle.tree_model.specs.Step.{first, at, fault_of, id_of, least_free_id, names_in, tree_after, refusal_with}
use Rattle.tree_model.specs.Run.{State}
use Rattle.tree_model.specs.declared.command.Command.TheVariants.{Unlink, Rmdir}
use Rattle.tree_model.specs.declared.reply.Refusal.{Refusal}
use Rattle.tree_model.specs.declared.reply.Refusal.TheVariants.{NotFound, NotDir, Root, IsDir, NotEmpty}
use Rattle.tree_model.proofs.NodeLaws.{a_file, no_file}
use Rattle.tree_model.proofs.AcceptedLaws.{Accepted-from_row}
use Rattle.image_reading.specs.Counts.{Count}
use Rattle.image_reading.specs.Residue.{Residue}
use Rattle.image_counts.specs.Entries.{IsPageIn}
use Rattle.image_counts.specs.Laws.{supply_beside}
use Rattle.image_counts.proofs.Links.{link_word_beside_law}
use Rattle.volatile_index.specs.Entries.{IsAbsent}
use Rattle.volatile_index.specs.Index.{entries_of}
use Rattle.volume.specs.Volume.{VolumeView}
use Rattle.volume.specs.Beside.{StandsBeside, IsUntouched}
use Rattle.volume.specs.Walks.{name_row, WouldHold}
use Rattle.volume.specs.declared.plan.Action.TheVariants.{Remove}
use Rattle.volume.specs.Planned.{IsNameAt, IsAlone, IsGivenBack, IsPlannedWith}
use Rattle.volume.specs.declared.plan.Removal.{Removal}
use Rattle.volume.proofs.Ways.{walk_last, parent_walked, walk_fails}
use Rattle.volume.proofs.WalkedBeside.{stands_tree, reached_at, entry_there, step_there, step_absent}
use Rattle.volume.proofs.Frees.{reads_beside}
use Rattle.volume.proofs.Holders.{held, named_there}

-- ---- how a row begins

abbrev begun : Option Refusal → Bool → Option Refusal
begun walked is_the_root = first (walked ∷ at Root is_the_root ∷ [])

pub fails_first : (a b : Option Refusal) (rest : List (Option Refusal)) (fault : Refusal) → first (a ∷ b ∷ []) ≡ Some fault → first (a ∷ b ∷ rest) ≡ Some fault
fails_first (Some found) b rest fault e = e
fails_first None (Some found) rest fault e = e
fails_first None None rest fault e = cc

pub passes_first : (a b : Option Refusal) (rest : List (Option Refusal)) → first (a ∷ b ∷ []) ≡ None → first (a ∷ b ∷ rest) ≡ first rest
passes_first (Some found) b rest e = cc
passes_first None (Some found) rest e = cc
passes_first None None rest e = refl

pub otherwise : (b : Bool) (x y : ℕ) → b ≡ false → cond b x y ≡ y
otherwise b x y is = ap (λ t. cond t x y) is

pub is_some_test : (n : ℕ) → 0 < n → nat_lt 0 n ≡ true
is_some_test n some = grind (arith, nat_tests)

pub is_none_test : (n : ℕ) → n ≤ 0 → nat_lt 0 n ≡ false
is_none_test n none = grind (arith, nat_tests)

module _ (volume : VolumeView) (device : DeviceView) (state : State) (residue : Residue) (stands : StandsBeside volume device state residue) (path : Route) where
  pub name_fails : (fault : Refusal) → walk_to_parent state.tree path ≡ Err fault → name_row state.tree path ≡ Some fault
  name_fails fault e = ap (λ w. begun (fault_of w) (is_root path)) (walk_fails state.tree path fault (stands_tree volume device state residue stands) e)

  module _ (d : ℕ) (name : List ℕ) (holder : WouldHold state.tree path d name) where
    at_name : walk state.tree path ≡ step_into state.tree (Ok (record { path = parent path; id = d })) name
    at_name =
        walk_last state.tree path holder.below
        ∙ (λ i. step_into state.tree (parent_walked state.tree path (record { path = parent path; id = d }) holder.walked i) (sym holder.named i))

    pub name_absent : IsAbsent (entries_of volume.index d) name → name_row state.tree path ≡ Some NotFound
    name_absent none =
        let (at_parent, directory) = held volume device state residue stands path d name holder in
        ap (λ w. begun (fault_of w) (is_root path)) (at_name ∙ step_absent volume device state residue (parent path) d name stands at_parent directory none)

    module _ (slot : ℕ) (there : Contains (entries_of volume.index d) (record { name = name; slot = slot })) where
      pub name_found : name_row state.tree path ≡ None
      name_found =
          let (at_parent, directory) = held volume device state residue stands path d name holder in
          let walked = at_name ∙ step_there volume device state residue (parent path) d slot name stands at_parent directory there in
          λ i. begun (fault_of (walked i)) (holder.below i)

      pub name_is : IsNameAt volume.size device.words state path d name slot (slot_inode volume.size device.words slot)
      name_is =
          let at_parent = (held volume device state residue stands path d name holder).0 in
          record {
            directory_is = at_parent;
            name_is = holder.named;
            slot_is = entry_there volume device d slot name (state, residue, stands) (reached_at volume device state residue (parent path) d stands at_parent) there;
            inode_is = named_there volume device state residue stands path d name holder slot there;
          }

  -- ---- the rows

  pub unlink_fails : (fault : Refusal) → name_row state.tree path ≡ Some fault → refusal_with (supply_beside volume.size residue) state.tree state.room (Unlink path) ≡ Some fault
  unlink_fails fault e = fails_first (fault_of (walk state.tree path)) (at Root (is_root path)) (at IsDir (is_directory state.tree (id_of state.tree path)) ∷ []) fault e

  pub rmdir_fails : (fault : Refusal) → name_row state.tree path ≡ Some fault → refusal_with (supply_beside volume.size residue) state.tree state.room (Rmdir path) ≡ Some fault
  rmdir_fails fault e =
      fails_first (fault_of (walk state.tree path)) (at Root (is_root path)) (at NotDir (is_file state.tree (id_of state.tree path)) ∷ at NotEmpty (nat_lt 0 (name_count state.tree (id_of state.tree path))) ∷ []) fault e

  module _ (passes : name_row state.tree path ≡ None) (d : ℕ) (name : List ℕ) (slot inode : ℕ) (is_name : IsNameAt volume.size device.words state path d name slot inode) where
    its_id : id_of state.tree path ≡ inode
    its_id = ap (λ o. unwrap_or o root_id) is_name.inode_is

    abbrev IsLeft : Bool → ℕ → Option ℕ → Type 0
    IsLeft goes pages given_back = (goes ≡ true → Count (IsPageIn volume.size device.words inode) pages) × (goes ≡ false → pages ≡ 0) × IsGivenBack (IsAlone volume.size device.words slot) slot given_back

    abbrev removal_of : NodeKind → Bool → ℕ → Option ℕ → Removal
    removal_of kind goes pages given_back =
        record { directory = d; name = name; slot = slot; loss = record { inode = inode; kind = kind; goes = goes; pages = pages }; given_back = given_back }

    -- ---- a file

    unlink_row : (b : Bool) → is_directory state.tree inode ≡ b → refusal_with (supply_beside volume.size residue) state.tree state.room (Unlink path) ≡ at IsDir b
    unlink_row b is =
        passes_first (fault_of (walk state.tree path)) (at Root (is_root path)) (at IsDir (is_directory state.tree (id_of state.tree path)) ∷ []) passes
        ∙ ap (λ id. first (at IsDir (is_directory state.tree id) ∷ [])) its_id ∙ ap (λ t. first (at IsDir t ∷ [])) is ∙ alone b
      where
        alone : (b : Bool) → first (at IsDir b ∷ []) ≡ at IsDir b
        alone true = refl
        alone false = refl

    pub unlink_directory : is_directory state.tree inode ≡ true → refusal_with (supply_beside volume.size residue) state.tree state.room (Unlink path) ≡ Some IsDir
    unlink_directory is = unlink_row true is

    pub unlink_planned : IsUntouched volume device.words residue inode → (links pages : ℕ) (given_back : Option ℕ) → is_directory state.tree inode ≡ false → links ≡ inode_links device.words inode → IsLeft (links == 1) pages given_back
        → IsPlannedWith (supply_beside volume.size residue) device.words state (Unlink path) (Remove (removal_of File (links == 1) pages given_back))
    unlink_planned untouched links pages given_back is links_are (all, none, given) =
        let accepted = unlink_row false is in
        let found = Accepted-from_row (supply_beside volume.size residue) state.tree state.room (Unlink path) (stands_tree volume device state residue stands) accepted in
        let same : found.source.id ≡ inode = sym found.source.is ∙ its_id in
        let goes = found.goes (least_free_id state.tree) in
        let reached = reached_at volume device state residue path inode stands is_name.inode_is in
        let counted = links_are ∙ sym (link_word_beside_law volume.size device.words residue state (reads_beside volume device state residue stands) inode reached untouched.apart) ∙ otherwise (is_directory state.tree inode) _ (path_count state.tree inode) is in
        record {
          accepted = accepted;
          plan_is = (
            removal_of File (links == 1) pages given_back,
            refl,
            record {
              named = is_name;
              loss = record {
                kind_is = is;
                goes_is = ap (λ n. n == 1) counted ∙ ap (λ id. path_count state.tree id == 1) (sym same) ∙ sym goes
                    ∙ ap (λ id. is_none (node_at (tree_after (least_free_id state.tree) state.tree (Unlink path)) id)) same;
                pages = all;
                no_pages = none;
              };
              given_back = given;
            },
          );
        }

    -- ---- a directory

    pub rmdir_row : (file some : Bool) → is_file state.tree inode ≡ file → nat_lt 0 (name_count state.tree inode) ≡ some
        → refusal_with (supply_beside volume.size residue) state.tree state.room (Rmdir path) ≡ first (at NotDir file ∷ at NotEmpty some ∷ [])
    rmdir_row file some is names =
        passes_first (fault_of (walk state.tree path)) (at Root (is_root path)) (at NotDir (is_file state.tree (id_of state.tree path)) ∷ at NotEmpty (nat_lt 0 (name_count state.tree (id_of state.tree path))) ∷ []) passes
        ∙ ap (λ id. first (at NotDir (is_file state.tree id) ∷ at NotEmpty (nat_lt 0 (name_count state.tree id)) ∷ [])) its_id
        ∙ (λ i. first (at NotDir (is i) ∷ at NotEmpty (names i) ∷ []))

    there : is_some (node_at state.tree inode) ≡ true
    there = (stands_tree volume device state residue stands).present path inode is_name.inode_is

    pub rmdir_file : is_directory state.tree inode ≡ false → refusal_with (supply_beside volume.size residue) state.tree state.room (Rmdir path) ≡ Some NotDir
    rmdir_file is = rmdir_row true (nat_lt 0 (name_count state.tree inode)) (a_file (node_at state.tree inode) there is) refl

    -- the directory has so many names
    module _ (names : ℕ) (is : is_directory state.tree inode ≡ true) (names_are : names ≡ length (names_in state.tree inode)) where
      counted : names ≡ name_count state.tree inode
      counted = names_are ∙ length-map (entries_in state.tree inode) (λ e. last_name e.0)

      pub rmdir_some : 0 < names → refusal_with (supply_beside volume.size residue) state.tree state.room (Rmdir path) ≡ Some NotEmpty
      rmdir_some some = rmdir_row false true (no_file (node_at state.tree inode) is) (ap (nat_lt 0) (sym counted) ∙ is_some_test names some)

      pub rmdir_planned : (pages : ℕ) (given_back : Option ℕ) → names ≤ 0 → IsLeft true pages given_back
          → IsPlannedWith (supply_beside volume.size residue) device.words state (Rmdir path) (Remove (removal_of Directory true pages given_back))
      rmdir_planned pages given_back none (all, nothing, given) =
          let accepted = rmdir_row false false (no_file (node_at state.tree inode) is) (ap (nat_lt 0) (sym counted) ∙ is_none_test names none) in
          let found = Accepted-from_row (supply_beside volume.size residue) state.tree state.room (Rmdir path) (stands_tree volume device state residue stands) accepted in
          let same : found.source.id ≡ inode = sym found.source.is ∙ its_id in
          record {
            accepted = accepted;
            plan_is = (
              removal_of Directory true pages given_back,
              refl,
              record {
                named = is_name;
                loss = record {
                  kind_is = is;
                  goes_is = ap is_none (sym (found.goes (least_free_id state.tree))) ∙ ap (λ id. is_none (node_at (tree_after (least_free_id state.tree) state.tree (Rmdir path)) id)) same;
                  pages = all;
                  no_pages = nothing;
                };
                given_back = given;
              },
            );
          }
