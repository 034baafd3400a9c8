-- The rows of commands that read and write files, by what the volume knows.
use Rattle.std.proofs.Common.{◌≡◌, inl, inr, ℕ, ◌+◌, ◌-◌, ◌<◌, ◌≤◌, Bool, true, false, cond, ◌==◌, nat_lt, nat_eq, List, [], ◌∷◌, length, Option, Some, None, unwrap_or, Ok, Err, refl, sym, ap, subst, ◌∙◌, arith, eqb-true}
use Rattle.std.proofs.lemmas.Bool.{false_from_ne_true}
use Rattle.std.proofs.lemmas.Bool.Decides.{nat_tests}
use Rattle.pm_trait.specs.DeviceView.{DeviceView}
use Rattle.layout.specs.Geometry.{pieces}
use Rattle.layout.specs.Fields.{inode_size}
use Rattle.tree_model.specs.PathText.{Route}
use Rattle.tree_model.specs.Tree.{root_id, id_at, is_directory, bytes_of, page_bytes}
use Rattle.tree_model.specs.Walk.{walk}
use Rattle.tree_model.proofs.WalkLaws.{id_at-from_walk}
use Rattle.tree_model.specs.Capacity.{Supply, free_pages, file_limit}
use Rattle.tree_model.specs.Step.{first, at, fault_of, id_of, rise, read_limit, lacks_pages, refusal_with}
use Rattle.tree_model.specs.Run.{State}
use Rattle.tree_model.specs.declared.command.Command.TheVariants.{Write, Truncate, Read}
use Rattle.tree_model.specs.declared.reply.Refusal.{Refusal}
use Rattle.tree_model.specs.declared.reply.Refusal.TheVariants.{IsDir, TooBig, NoPages}
use Rattle.image_reading.specs.Residue.{Residue}
use Rattle.image_counts.specs.Entries.{IsUnusedDataPage}
use Rattle.image_counts.specs.Laws.{supply_beside}
use Rattle.allocators.specs.Numbers.{IsFree, free_in}
use Rattle.volume.specs.Volume.{VolumeView}
use Rattle.volume.specs.Beside.{StandsBeside}
use Rattle.volume.specs.Walks.{file_row, IsSizedFile}
use Rattle.volume.specs.declared.plan.Action.TheVariants.{Write as WriteBytes, WriteNothing, Resize, KeepSize, Read as ReadBytes}
use Rattle.volume.specs.Lowest.{AreLowestOf}
use Rattle.volume.specs.Planned.{IsWritingFor, IsResizingFor, IsNothingOr, IsPlannedWith}
use Rattle.volume.specs.Prepared.{IsRefusal, LacksPages}
use Rattle.volume.specs.declared.plan.Writing.{Writing}
use Rattle.volume.specs.declared.plan.Resizing.{Resizing}
use Rattle.volume.proofs.WalkedBeside.{stands_tree}
use Rattle.volume.proofs.Places.{free_page, page_free}
use Rattle.volume.proofs.Frees.{free_pages_beside}
use Rattle.volume.proofs.RemovalRows.{fails_first, passes_first}
use Rattle.volume.proofs.LowestPages.{lowest_alike}
use Rattle.volume.proofs.ContentPlans.{size_within}
use Rattle.volume.proofs.Statuses.{file_long}

-- ---- tests

less_test : (a b : ℕ) → a < b → nat_lt a b ≡ true
less_test a b less = grind (arith, nat_tests)

not_less_test : (a b : ℕ) → b ≤ a → nat_lt a b ≡ false
not_less_test a b most = grind (arith, nat_tests)

pub same_test : (a b : ℕ) → a ≡ b → nat_eq a b ≡ true
same_test a b same = grind (arith, nat_tests)

pub differ_test : (a b : ℕ) → ¬ (a ≡ b) → a == b ≡ false
differ_test a b differ = false_from_ne_true (a == b) (λ is. differ (eqb-true a b is))

-- ---- how the rows begin and end

abbrev limits : Bool → Bool → Option Refusal
limits big lacks = first (at TooBig big ∷ at NoPages lacks ∷ [])

module _ (volume : VolumeView) (device : DeviceView) (state : State) (residue : Residue) (stands : StandsBeside volume device state residue) (path : Route) where
  abbrev supply : Supply
  supply = supply_beside volume.size residue

  abbrev lacks : ℕ → Bool
  lacks n = nat_lt (free_pages supply state.tree state.room) n

  enough : (n : ℕ) → n ≤ free_in volume.data_pages → lacks n ≡ false
  enough n most = let all = free_pages_beside volume device state residue stands in not_less_test (free_pages supply state.tree state.room) n (omega (arith, all, most))

  short : (n : ℕ) → free_in volume.data_pages < n → lacks n ≡ true
  short n less = let all = free_pages_beside volume device state residue stands in less_test (free_pages supply state.tree state.room) n (omega (arith, all, less))

  to_free_pages : (n : ℕ) (pages : List ℕ) → AreLowestOf (IsFree volume.data_pages) n pages → AreLowestOf (IsUnusedDataPage volume.size device.words) n pages
  to_free_pages n pages = lowest_alike (IsFree volume.data_pages) (IsUnusedDataPage volume.size device.words) n pages (free_page volume device (state, residue, stands)) (page_free volume device (state, residue, stands))

  -- ---- the file of a path

  abbrev begun : Option Refusal → Bool → Option Refusal
  begun walked directory = first (walked ∷ at IsDir directory ∷ [])

  pub file_missing : (fault : Refusal) → walk state.tree path ≡ Err fault → file_row state.tree path ≡ Some fault
  file_missing fault e = ap (λ w. begun (fault_of w) (is_directory state.tree (id_of state.tree path))) e

  module _ (inode : ℕ) (walked : walk state.tree path ≡ Ok (record { path = path; id = inode })) where
    pub named : id_at state.tree path ≡ Some inode
    named = id_at-from_walk state.tree path (record { path = path; id = inode }) (stands_tree volume device state residue stands) walked

    its_kind : is_directory state.tree (id_of state.tree path) ≡ is_directory state.tree inode
    its_kind = ap (λ o. is_directory state.tree (unwrap_or o root_id)) named

    pub file_is_directory : is_directory state.tree inode ≡ true → file_row state.tree path ≡ Some IsDir
    file_is_directory is = let kind = its_kind ∙ is in λ i. begun (fault_of (walked i)) (kind i)

    pub file_found : (size : ℕ) → is_directory state.tree inode ≡ false → size ≡ inode_size device.words inode → IsSizedFile state.tree path inode size
    file_found size is size_is =
        let kind = its_kind ∙ is in
        let there = (stands_tree volume device state residue stands).present path inode named in
        record {
          row = λ i. begun (fault_of (walked i)) (kind i);
          inode_is = named;
          size_is = size_is ∙ sym (file_long volume device state residue stands inode there is);
        }

  -- a file has a size that it may have
  pub size_fits : (inode size : ℕ) → IsSizedFile state.tree path inode size → size ≤ file_limit
  size_fits inode size file = size_within volume device state residue stands inode size file.size_is

  -- a refusal before the limits
  pub write_fails : (offset : ℕ) (bytes : List ℕ) (fault : Refusal) → file_row state.tree path ≡ Some fault → refusal_with supply state.tree state.room (Write path offset bytes) ≡ Some fault
  write_fails offset bytes fault e =
      fails_first (fault_of (walk state.tree path)) (at IsDir (is_directory state.tree (id_of state.tree path)))
      (at TooBig (nat_lt file_limit (offset + length bytes)) ∷ at NoPages (lacks_pages supply state.tree state.room (Write path offset bytes)) ∷ []) fault e

  pub truncate_fails : (size : ℕ) (fault : Refusal) → file_row state.tree path ≡ Some fault → refusal_with supply state.tree state.room (Truncate path size) ≡ Some fault
  truncate_fails size fault e =
      fails_first (fault_of (walk state.tree path)) (at IsDir (is_directory state.tree (id_of state.tree path)))
      (at TooBig (nat_lt file_limit size) ∷ at NoPages (lacks_pages supply state.tree state.room (Truncate path size)) ∷ []) fault e

  pub read_fails : (offset count : ℕ) (fault : Refusal) → file_row state.tree path ≡ Some fault → refusal_with supply state.tree state.room (Read path offset count) ≡ Some fault
  read_fails offset count fault e =
      fails_first (fault_of (walk state.tree path)) (at IsDir (is_directory state.tree (id_of state.tree path))) (at TooBig (nat_lt read_limit count) ∷ []) fault e

  module _ (inode size : ℕ) (file : IsSizedFile state.tree path inode size) where
    its_id : id_of state.tree path ≡ inode
    its_id = ap (λ o. unwrap_or o root_id) file.inode_is

    its_size : size ≡ length (bytes_of state.tree (id_of state.tree path))
    its_size = file.size_is ∙ ap (λ id. length (bytes_of state.tree id)) (sym its_id)

    rise_is : (n : ℕ) → rise (bytes_of state.tree (id_of state.tree path)) n ≡ pieces n 4096 - pieces size 4096
    rise_is n = ap (λ long. pieces n page_bytes - pieces long page_bytes) (sym its_size)

    -- ---- a write

    module _ (offset : ℕ) (bytes : List ℕ) where
      write_row : refusal_with supply state.tree state.room (Write path offset bytes)
          ≡ limits (nat_lt file_limit (offset + length bytes)) (lacks (cond (length bytes == 0) 0 (rise (bytes_of state.tree (id_of state.tree path)) (offset + length bytes))))
      write_row =
          passes_first (fault_of (walk state.tree path)) (at IsDir (is_directory state.tree (id_of state.tree path)))
          (at TooBig (nat_lt file_limit (offset + length bytes)) ∷ at NoPages (lacks_pages supply state.tree state.room (Write path offset bytes)) ∷ []) file.row

      pub write_too_big : file_limit < offset + length bytes → refusal_with supply state.tree state.room (Write path offset bytes) ≡ Some TooBig
      write_too_big big = write_row ∙ ap (λ b. limits b (lacks (cond (length bytes == 0) 0 (rise (bytes_of state.tree (id_of state.tree path)) (offset + length bytes))))) (less_test file_limit (offset + length bytes) big)

      module _ (fits : offset + length bytes ≤ file_limit) where
        write_limits : refusal_with supply state.tree state.room (Write path offset bytes)
            ≡ limits false (lacks (cond (length bytes == 0) 0 (rise (bytes_of state.tree (id_of state.tree path)) (offset + length bytes))))
        write_limits = write_row ∙ ap (λ b. limits b (lacks (cond (length bytes == 0) 0 (rise (bytes_of state.tree (id_of state.tree path)) (offset + length bytes))))) (not_less_test file_limit (offset + length bytes) fits)

        pub write_nothing : length bytes == 0 ≡ true → IsPlannedWith supply device.words state (Write path offset bytes) WriteNothing
        write_nothing none = record {
          accepted = write_limits
              ∙ ap (λ b. limits false (lacks (cond b 0 (rise (bytes_of state.tree (id_of state.tree path)) (offset + length bytes))))) none
              ∙ ap (limits false) (enough 0 (omega arith));
          plan_is = subst (λ b. IsNothingOr b WriteNothing (λ action. (writing : Writing) × (action ≡ WriteBytes writing) × IsWritingFor volume.size device.words state path offset bytes writing) WriteNothing) (sym none) refl;
        }

        module _ (some : length bytes == 0 ≡ false) where
          write_need : cond (length bytes == 0) 0 (rise (bytes_of state.tree (id_of state.tree path)) (offset + length bytes)) ≡ pieces (offset + length bytes) 4096 - pieces size 4096
          write_need = ap (λ b. cond b 0 (rise (bytes_of state.tree (id_of state.tree path)) (offset + length bytes))) some ∙ rise_is (offset + length bytes)

          write_short : free_in volume.data_pages < pieces (offset + length bytes) 4096 - pieces size 4096 → refusal_with supply state.tree state.room (Write path offset bytes) ≡ Some NoPages
          write_short less = write_limits ∙ ap (λ n. limits false (lacks n)) write_need ∙ ap (limits false) (short (pieces (offset + length bytes) 4096 - pieces size 4096) less)

          write_accepted : pieces (offset + length bytes) 4096 - pieces size 4096 ≤ free_in volume.data_pages → refusal_with supply state.tree state.room (Write path offset bytes) ≡ None
          write_accepted most = write_limits ∙ ap (λ n. limits false (lacks n)) write_need ∙ ap (limits false) (enough (pieces (offset + length bytes) 4096 - pieces size 4096) most)

          pub write_lacks : (refusal : Refusal) → LacksPages (free_in volume.data_pages) (pieces (offset + length bytes) 4096 - pieces size 4096) refusal → IsRefusal supply state (Write path offset bytes) refusal device device
          write_lacks refusal lacking = elim lacking [
            | inl (is, less) ↦ inl (write_short less ∙ ap Some (sym is))
            | inr (is, most, needed) ↦ inr (record {
              answered = is;
              change = refl;
              accepted = write_accepted most;
              cause = inl (ap (nat_lt 0) write_need ∙ less_test 0 (pieces (offset + length bytes) 4096 - pieces size 4096) needed);
            })
          ]

          pub write_planned : (pages : List ℕ) → AreLowestOf (IsFree volume.data_pages) (pieces (offset + length bytes) 4096 - pieces size 4096) pages → pieces (offset + length bytes) 4096 - pieces size 4096 ≤ free_in volume.data_pages
              → IsPlannedWith supply device.words state (Write path offset bytes) (WriteBytes (record { inode = inode; offset = offset; count = length bytes; old_size = size; new_pages = pages }))
          write_planned pages lowest most =
              let writing : Writing = record { inode = inode; offset = offset; count = length bytes; old_size = size; new_pages = pages } in
              let for : IsWritingFor volume.size device.words state path offset bytes writing = record {
                inode_is = file.inode_is;
                offset_is = refl;
                count_is = refl;
                size_is = file.size_is;
                new_pages = subst (λ n. AreLowestOf (IsUnusedDataPage volume.size device.words) n pages) (sym write_need) (to_free_pages (pieces (offset + length bytes) 4096 - pieces size 4096) pages lowest);
              } in
              record {
                accepted = write_accepted most;
                plan_is = subst (λ b. IsNothingOr b WriteNothing (λ action. (other : Writing) × (action ≡ WriteBytes other) × IsWritingFor volume.size device.words state path offset bytes other) (WriteBytes writing)) (sym some) (writing, refl, for);
              }

    -- ---- another size

    module _ (new_size : ℕ) where
      truncate_row : refusal_with supply state.tree state.room (Truncate path new_size) ≡ limits (nat_lt file_limit new_size) (lacks (rise (bytes_of state.tree (id_of state.tree path)) new_size))
      truncate_row =
          passes_first (fault_of (walk state.tree path)) (at IsDir (is_directory state.tree (id_of state.tree path)))
          (at TooBig (nat_lt file_limit new_size) ∷ at NoPages (lacks_pages supply state.tree state.room (Truncate path new_size)) ∷ []) file.row

      pub truncate_too_big : file_limit < new_size → refusal_with supply state.tree state.room (Truncate path new_size) ≡ Some TooBig
      truncate_too_big big = truncate_row ∙ ap (λ b. limits b (lacks (rise (bytes_of state.tree (id_of state.tree path)) new_size))) (less_test file_limit new_size big)

      module _ (fits : new_size ≤ file_limit) where
        truncate_limits : refusal_with supply state.tree state.room (Truncate path new_size) ≡ limits false (lacks (pieces new_size 4096 - pieces size 4096))
        truncate_limits = truncate_row ∙ (λ i. limits (not_less_test file_limit new_size fits i) (lacks (rise_is new_size i)))

        truncate_accepted : pieces new_size 4096 - pieces size 4096 ≤ free_in volume.data_pages → refusal_with supply state.tree state.room (Truncate path new_size) ≡ None
        truncate_accepted most = truncate_limits ∙ ap (limits false) (enough (pieces new_size 4096 - pieces size 4096) most)

        same_need : new_size ≡ size → pieces new_size 4096 - pieces size 4096 ≡ 0
        same_need same = ap (λ n. pieces n 4096 - pieces size 4096) same ∙ (omega arith)

        pub truncate_nothing : new_size ≡ size → IsPlannedWith supply device.words state (Truncate path new_size) KeepSize
        truncate_nothing same = record {
          accepted = truncate_accepted (let none = same_need same in omega (arith, none));
          plan_is = subst (λ b. IsNothingOr b KeepSize (λ action. (resizing : Resizing) × (action ≡ Resize resizing) × IsResizingFor volume.size device.words state path new_size resizing) KeepSize)
              (sym (same_test new_size (length (bytes_of state.tree (id_of state.tree path))) (same ∙ its_size))) refl;
        }

        pub truncate_lacks : (refusal : Refusal) → LacksPages (free_in volume.data_pages) (pieces new_size 4096 - pieces size 4096) refusal → IsRefusal supply state (Truncate path new_size) refusal device device
        truncate_lacks refusal lacking = elim lacking [
          | inl (is, less) ↦ inl (truncate_limits ∙ ap (limits false) (short (pieces new_size 4096 - pieces size 4096) less) ∙ ap Some (sym is))
          | inr (is, most, needed) ↦ inr (record {
            answered = is;
            change = refl;
            accepted = truncate_accepted most;
            cause = inl (ap (nat_lt 0) (rise_is new_size) ∙ less_test 0 (pieces new_size 4096 - pieces size 4096) needed);
          })
        ]

        pub truncate_planned : (pages : List ℕ) (cut : ℕ) → new_size == size ≡ false → cut ≡ pieces size 4096 - pieces new_size 4096
            → AreLowestOf (IsFree volume.data_pages) (pieces new_size 4096 - pieces size 4096) pages → pieces new_size 4096 - pieces size 4096 ≤ free_in volume.data_pages
            → IsPlannedWith supply device.words state (Truncate path new_size) (Resize (record { inode = inode; old_size = size; new_size = new_size; new_pages = pages; cut = cut }))
        truncate_planned pages cut other cut_is lowest most =
            let resizing : Resizing = record { inode = inode; old_size = size; new_size = new_size; new_pages = pages; cut = cut } in
            let for : IsResizingFor volume.size device.words state path new_size resizing = record {
              inode_is = file.inode_is;
              old_is = file.size_is;
              new_is = refl;
              new_pages = subst (λ n. AreLowestOf (IsUnusedDataPage volume.size device.words) n pages) (sym (rise_is new_size)) (to_free_pages (pieces new_size 4096 - pieces size 4096) pages lowest);
              cut_is = cut_is;
            } in
            record {
              accepted = truncate_accepted most;
              plan_is = subst (λ b. IsNothingOr b KeepSize (λ action. (made : Resizing) × (action ≡ Resize made) × IsResizingFor volume.size device.words state path new_size made) (Resize resizing))
                  (sym (ap (λ long. new_size == long) (sym its_size) ∙ other)) (resizing, refl, for);
            }

    -- ---- a read

    module _ (offset count : ℕ) where
      read_row : refusal_with supply state.tree state.room (Read path offset count) ≡ first (at TooBig (nat_lt read_limit count) ∷ [])
      read_row = passes_first (fault_of (walk state.tree path)) (at IsDir (is_directory state.tree (id_of state.tree path))) (at TooBig (nat_lt read_limit count) ∷ []) file.row

      pub read_too_big : read_limit < count → refusal_with supply state.tree state.room (Read path offset count) ≡ Some TooBig
      read_too_big big = read_row ∙ ap (λ b. first (at TooBig b ∷ [])) (less_test read_limit count big)

      pub read_planned : count ≤ read_limit → IsPlannedWith supply device.words state (Read path offset count) (ReadBytes (record { inode = inode; offset = offset; count = count }))
      read_planned most = record {
        accepted = read_row ∙ ap (λ b. first (at TooBig b ∷ [])) (not_less_test read_limit count most);
        plan_is = (record { inode = inode; offset = offset; count = count }, refl, record { inode_is = file.inode_is; offset_is = refl; count_is = refl });
      }
