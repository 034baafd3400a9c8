-- Fences of commands on fresh volumes and which of them need a place, computed from the definitions.
use Rattle.std.proofs.Common.{◌≡◌, ℕ, ◌+◌, ◌/◌, ◌%◌, Bool, true, false, cond, List, [], ◌∷◌, ◌++◌, map, codes, refl, Ok, Err, replicate}
use Rattle.std.specs.Prelude.{flat_map}
use Rattle.std.specs.List.{range_with_len}
use Rattle.layout.specs.Geometry.{inodes_of, data_pages_of}
use Rattle.tree_model.specs.PathText.{Route}
use Rattle.tree_model.specs.Tree.{Room, room_fits}
use Rattle.tree_model.specs.Step.{Answer, Done, Count, Status, Bytes, Listed, Space, Refused, Unread, Fault, Stopped, step, tree_after, room_after, least_free_id}
use Rattle.tree_model.specs.Run.{State, fresh_state, may_fail, plain_end, plain_answers, plain_states}
use Rattle.tree_model.specs.Fences.{fences_of, fences_of_run}
use Rattle.tree_model.specs.Places.{needs_places}
use Rattle.tree_model.specs.declared.command.Command.{Command}
use Rattle.tree_model.specs.declared.command.Command.TheVariants.{Create, Mkdir, Link, Unlink, Rmdir, Rename, Write, Truncate, Read, Stat, List as Show, Df}
use Rattle.tree_model.specs.declared.reply.LineFault.TheVariants.{BadLine}
use Rattle.tree_model.specs.declared.reply.Refusal.TheVariants.{Exists, NoPages, NoMemory}
use Rattle.tree_model.proofs.Rows.{a, b, c, d, below}

-- ---- runs in which each loss of a name says whether it gives a page back, where it may do either

pub data Turn : Type 0 where
  keeps : Command → Turn
  gives : Command → Turn

abbrev pub command_of : Turn → Command
command_of (keeps c) = c
command_of (gives c) = c

-- the first of two rooms where it fits
abbrev pub first_fitting : State → Room → State
first_fitting state other = cond (room_fits state.tree state.room) state (record { tree = state.tree; room = other })

abbrev pub left_by : ℕ → State → Turn → State
left_by volume old (keeps c) =
    let id = least_free_id old.tree in
    first_fitting (record { tree = tree_after id old.tree c; room = room_after id old.tree old.room c false }) (room_after id old.tree old.room c true)
left_by volume old (gives c) =
    let id = least_free_id old.tree in
    first_fitting (record { tree = tree_after id old.tree c; room = room_after id old.tree old.room c true }) (room_after id old.tree old.room c false)

abbrev pub next : ℕ → State → Turn → State
next volume old turn = left_where (may_fail volume old (command_of turn))
  where
    left_where : Bool → State
    left_where true = left_by volume old turn
    left_where false = old

-- the fences and the answer of each command
abbrev pub run : ℕ → State → List Turn → List (ℕ × Answer)
run volume old [] = []
run volume old (turn ∷ turns) =
    let new = next volume old turn in
    let answer = (step volume old.tree old.room (command_of turn)).answer in
    (fences_of old (Ok (command_of turn)) answer new, answer) ∷ run volume new turns

abbrev pub after : ℕ → State → List Turn → State
after volume old [] = old
after volume old (turn ∷ turns) = after volume (next volume old turn) turns

abbrev pub kept : List Command → List Turn
kept commands = map keeps commands

abbrev pub on : ℕ → List Command → List (ℕ × Answer)
on volume commands = run volume fresh_state (kept commands)

-- so many fences of a command that is done
abbrev pub done : List ℕ → List (ℕ × Answer)
done counts = map (λ n. (n, Done)) counts

abbrev pub space : ℕ → ℕ → ℕ → ℕ → ℕ × Answer
space inodes inodes_all pages pages_all =
    (0, Space (record { inodes = inodes; inodes_all = inodes_all; pages = pages; pages_all = pages_all }))

abbrev pub p : Route
p = codes "p" ∷ []

abbrev pub q : Route
q = codes "q" ∷ []

abbrev pub z : Route
z = codes "z" ∷ []

-- a path of a name with a number in the directory /d, and in the root
abbrev pub in_d : ℕ → Route
in_d n = codes "d" ∷ (110 ∷ n ∷ []) ∷ []

abbrev pub in_root : ℕ → Route
in_root n = (110 ∷ n / 100 ∷ n % 100 ∷ []) ∷ []

-- ---- each line of the table

new_names : on 16 (Create a ∷ Create b ∷ []) ++ on 16 (Mkdir d ∷ Mkdir p ∷ []) ++ on 16 (Create a ∷ Mkdir d ∷ Link a (in_d 1) ∷ Link a (in_d 2) ∷ [])
    ≡ done (3 ∷ 2 ∷ []) ++ done (3 ∷ 2 ∷ []) ++ done (3 ∷ 2 ∷ 3 ∷ 2 ∷ [])
unfolding inodes_of data_pages_of
new_names = refl

-- the file stays, also with pages, or goes without them, or with them, and no page of a directory is given back
unlinks_beside_other_names :
    on 16 (Create a ∷ Link a b ∷ Unlink b ∷ Write a 0 (codes "hi") ∷ Link a b ∷ Unlink a ∷ []) ++ on 16 (Create a ∷ Create b ∷ Unlink b ∷ [])
    ++ on 16 (Create a ∷ Write a 0 (codes "hi") ∷ Create b ∷ Unlink a ∷ [])
    ≡ done (3 ∷ 2 ∷ 2 ∷ []) ++ (3, Count 2) ∷ done (2 ∷ 2 ∷ []) ++ done (3 ∷ 2 ∷ 3 ∷ []) ++ (3, Done) ∷ (3, Count 2) ∷ done (2 ∷ 4 ∷ [])
unfolding inodes_of data_pages_of
unlinks_beside_other_names = refl

-- the same where the page is given back
unlinks_of_a_last_name :
    on 16 (Create a ∷ Mkdir d ∷ Link a (in_d 1) ∷ Unlink (in_d 1) ∷ []) ++ on 16 (Create a ∷ Unlink a ∷ []) ++ on 16 (Create a ∷ Write a 0 (codes "hi") ∷ Unlink a ∷ [])
    ≡ done (3 ∷ 2 ∷ 3 ∷ 4 ∷ []) ++ done (3 ∷ 4 ∷ []) ++ (3, Done) ∷ (3, Count 2) ∷ (4, Done) ∷ []
unfolding inodes_of data_pages_of
unlinks_of_a_last_name = refl

rmdirs : on 16 (Mkdir d ∷ Mkdir p ∷ Rmdir p ∷ Rmdir d ∷ []) ≡ done (3 ∷ 2 ∷ 3 ∷ 4 ∷ [])
unfolding inodes_of data_pages_of
rmdirs = refl

renames_of_one_node : on 16 (Create a ∷ Link a b ∷ Rename a b ∷ Rename a a ∷ []) ≡ done (3 ∷ 2 ∷ 0 ∷ 0 ∷ [])
unfolding inodes_of data_pages_of
renames_of_one_node = refl

-- inside a directory, with a new page, with a page given back, and with both
renames_to_a_new_name :
    on 16 (Create a ∷ Rename a b ∷ []) ++ on 16 (Create a ∷ Mkdir d ∷ Rename a (in_d 1) ∷ Rename (in_d 1) a ∷ []) ++ on 64 (Mkdir d ∷ Mkdir p ∷ Create (in_d 1) ∷ Rename (in_d 1) (below (codes "p") (codes "x")) ∷ [])
    ≡ done (3 ∷ 4 ∷ []) ++ done (3 ∷ 2 ∷ 6 ∷ 6 ∷ []) ++ done (3 ∷ 2 ∷ 3 ∷ 8 ∷ [])
unfolding inodes_of data_pages_of
renames_to_a_new_name = refl

-- the replaced file stays, also with pages, or goes without them, or with them; then an empty directory goes
renames_over_a_name :
    on 64 (Create a ∷ Link a b ∷ Create c ∷ Rename c b ∷ Write a 0 (codes "hi") ∷ Link a d ∷ Rename b d ∷ []) ++ on 64 (Create a ∷ Create b ∷ Rename a b ∷ []) ++ on 64 (Create a ∷ Create b ∷ Write b 0 (codes "hi") ∷ Rename a b ∷ [])
    ++ on 64 (Mkdir d ∷ Mkdir p ∷ Rename d p ∷ [])
    ≡ done (3 ∷ 2 ∷ 2 ∷ 4 ∷ []) ++ (3, Count 2) ∷ done (2 ∷ 4 ∷ []) ++ done (3 ∷ 2 ∷ 5 ∷ []) ++ (3, Done) ∷ (2, Done) ∷ (3, Count 2) ∷ (6, Done) ∷ done (3 ∷ 2 ∷ 5 ∷ [])
unfolding inodes_of data_pages_of
renames_over_a_name = refl

-- the same where the source was its directory's last name
renames_of_a_last_name_over_a_name :
    on 64 (Create a ∷ Link a b ∷ Mkdir d ∷ Create (in_d 1) ∷ Rename (in_d 1) b ∷ []) ++ on 64 (Create a ∷ Mkdir d ∷ Create (in_d 1) ∷ Rename (in_d 1) a ∷ [])
    ++ on 64 (Create a ∷ Write a 0 (codes "hi") ∷ Mkdir d ∷ Create (in_d 1) ∷ Rename (in_d 1) a ∷ [])
    ≡ done (3 ∷ 2 ∷ 2 ∷ 3 ∷ 6 ∷ []) ++ done (3 ∷ 2 ∷ 3 ∷ 6 ∷ []) ++ (3, Done) ∷ (3, Count 2) ∷ done (2 ∷ 3 ∷ 6 ∷ [])
unfolding inodes_of data_pages_of
renames_of_a_last_name_over_a_name = refl

-- no bytes, at the end and past it, with its end at the size, past it in the last page, to the page's end, one byte and two pages further
writes :
    on 16 (Create a ∷ Write a 0 [] ∷ Write a 5 [] ∷ Write a 0 (codes "abc") ∷ Write a 1 (codes "x") ∷ Write a 1 (codes "bc") ∷ Write a 1 (codes "bcd") ∷ Write a 4095 (codes "x")
    ∷ Write a 4095 (codes "xy") ∷ Write a 16384 (codes "x") ∷ Write a 16385 [] ∷ [])
    ≡ (3, Done) ∷ (0, Count 0) ∷ (0, Count 0) ∷ (3, Count 3) ∷ (1, Count 1) ∷ (1, Count 2) ∷ (2, Count 3) ∷ (2, Count 1) ∷ (3, Count 2) ∷ (3, Count 1) ∷ (0, Count 0) ∷ []
unfolding inodes_of data_pages_of
writes = refl

-- to the same size, to more in new pages and in the last one, to less in it, to the page before, to nothing
truncates :
    on 16 (Create a ∷ Truncate a 0 ∷ Truncate a 9000 ∷ Truncate a 9000 ∷ Truncate a 9001 ∷ Truncate a 8193 ∷ Truncate a 8192 ∷ Truncate a 4097 ∷ Truncate a 4096 ∷ Truncate a 4097 ∷ Truncate a 1
    ∷ Truncate a 0 ∷ [])
    ≡ done (3 ∷ 0 ∷ 3 ∷ 0 ∷ 2 ∷ 1 ∷ 3 ∷ 1 ∷ 3 ∷ 3 ∷ 3 ∷ 3 ∷ [])
unfolding inodes_of data_pages_of
truncates = refl

readers_and_refusals : on 16 (Create a ∷ Read a 0 4 ∷ Stat a ∷ Show [] ∷ Df ∷ Create a ∷ Truncate a 57345 ∷ [])
    ≡ (3, Done) ∷ (0, Bytes []) ∷ (0, Status (record { dir = false; inode = 2; links = 1; amount = 0 })) ∷ (0, Listed 1 (codes "a" ∷ [])) ∷ space 2 4 12 13 ∷ (0, Refused Exists) ∷ (0, Refused NoPages) ∷ []
unfolding inodes_of data_pages_of
readers_and_refusals = refl

-- nothing that failed is counted, whatever the command
abbrev pub one_of_each : List Command
one_of_each = Create b ∷ Mkdir b ∷ Link a b ∷ Unlink a ∷ Rmdir d ∷ Rename a b ∷ Write a 0 (codes "hi") ∷ Truncate a 9 ∷ Read a 0 1 ∷ Stat a ∷ Show d ∷ Df ∷ []

abbrev pub with_a_and_d : State
with_a_and_d = plain_end 16 fresh_state (map Ok (Create a ∷ Mkdir d ∷ []))

no_memory_no_fence : map (λ command. fences_of with_a_and_d (Ok command) (Refused NoMemory) with_a_and_d) one_of_each ≡ replicate 12 0
unfolding inodes_of data_pages_of
no_memory_no_fence = refl

no_fault_is_counted : map (λ command. fences_of with_a_and_d (Ok command) Fault with_a_and_d + fences_of with_a_and_d (Ok command) Stopped with_a_and_d) one_of_each ≡ replicate 12 0
unfolding inodes_of data_pages_of
no_fault_is_counted = refl

a_bad_line_takes_none : fences_of with_a_and_d (Err BadLine) (Unread BadLine) with_a_and_d ≡ 0
a_bad_line_takes_none = refl

-- the fences of a script are the sum of its lines', each from the state that the one before left
abbrev pub three_lines : List Command
three_lines = Create a ∷ Create b ∷ Unlink a ∷ []

sum_of_lines : fences_of_run fresh_state (map Ok three_lines) (plain_answers 16 fresh_state (map Ok three_lines)) (plain_states 16 fresh_state (map Ok three_lines)) ≡ 8
unfolding inodes_of data_pages_of
sum_of_lines = refl

-- ---- places

which_commands_need_places : map (needs_places with_a_and_d) one_of_each
    ≡ true ∷ true ∷ true ∷ false ∷ false ∷ true ∷ true ∷ true ∷ false ∷ false ∷ false ∷ false ∷ []
unfolding inodes_of data_pages_of
which_commands_need_places = refl

abbrev pub with_bytes_in_a : State
with_bytes_in_a = plain_end 16 fresh_state (map Ok (Create a ∷ Write a 0 (codes "hi") ∷ []))

-- no bytes, bytes in the page that there is, and past it; to less, and to more in the page and past it; a rename to itself, and to
-- a new name
only_new_pages_need_places :
    map (needs_places with_bytes_in_a)
    (Write a 9000 [] ∷ Write a 0 (codes "hi") ∷ Write a 4094 (codes "hi") ∷ Write a 4095 (codes "hi") ∷ Truncate a 0 ∷ Truncate a 4096 ∷ Truncate a 4097 ∷ Rename a a ∷ Rename a b ∷ [])
    ≡ false ∷ false ∷ false ∷ true ∷ false ∷ false ∷ true ∷ false ∷ true ∷ []
unfolding inodes_of data_pages_of
only_new_pages_need_places = refl

-- ---- scripts with their known counts

-- two names of a file, and both gone
names_of_one_file_go : on 16 (Create a ∷ Link a b ∷ Unlink a ∷ Unlink b ∷ Df ∷ []) ≡ done (3 ∷ 2 ∷ 2 ∷ 4 ∷ []) ++ space 3 4 13 13 ∷ []
unfolding inodes_of data_pages_of
names_of_one_file_go = refl

-- a directory's second page, taken twice and given back once
second_page_of_a_directory :
    run 64 fresh_state (kept (Mkdir d ∷ Create z ∷ map (λ n. Link z (in_d n)) (range_with_len 1 33) ++ Df ∷ []) ++ gives (Unlink (in_d 33)) ∷ kept (Df ∷ Link z (in_d 33) ∷ Unlink (in_d 1) ∷ Df ∷ Stat d ∷ []))
    ≡ done (3 ∷ 2 ∷ 3 ∷ replicate 31 2 ++ 3 ∷ []) ++ space 13 16 58 61 ∷ (4, Done) ∷ space 13 16 59 61 ∷ done (3 ∷ 2 ∷ []) ++ space 13 16 58 61
    ∷ (0, Status (record { dir = true; inode = 2; links = 2; amount = 32 })) ∷ []
unfolding inodes_of data_pages_of
second_page_of_a_directory = refl

-- a file grows by little and is cut
a_file_grows_and_is_cut : on 16 (Create a ∷ Write a 0 (codes "hi") ∷ Write a 1 (codes "zzz") ∷ Write a 8 (codes "!") ∷ Truncate a 2 ∷ Write a 4 (codes "!") ∷ [])
    ≡ (3, Done) ∷ (3, Count 2) ∷ (2, Count 3) ∷ (2, Count 1) ∷ (1, Done) ∷ (2, Count 1) ∷ []
unfolding inodes_of data_pages_of
a_file_grows_and_is_cut = refl

-- a rename, and one of a path to itself
plain_rename : on 16 (Create a ∷ Rename a b ∷ Rename b b ∷ []) ≡ done (3 ∷ 4 ∷ 0 ∷ [])
unfolding inodes_of data_pages_of
plain_rename = refl

-- a directory moves, then replaces one beside it, then one elsewhere
directories_move :
    on 64 (Mkdir p ∷ Mkdir q ∷ Mkdir (below (codes "p") (codes "d")) ∷ Create (codes "p" ∷ codes "d" ∷ codes "x" ∷ [])
    ∷ Rename (below (codes "p") (codes "d")) (below (codes "q") (codes "e")) ∷ Mkdir (below (codes "q") (codes "f"))
    ∷ Rename (below (codes "q") (codes "e")) (below (codes "q") (codes "f")) ∷ Mkdir (below (codes "p") (codes "g"))
    ∷ Rename (below (codes "q") (codes "f")) (below (codes "p") (codes "g")) ∷ Df ∷ [])
    ≡ done (3 ∷ 2 ∷ 3 ∷ 3 ∷ 8 ∷ 2 ∷ 5 ∷ 3 ∷ 6 ∷ []) ++ space 11 16 58 61 ∷ []
unfolding inodes_of data_pages_of
directories_move = refl

-- a file with another name is replaced, and then one without
files_are_replaced : on 64 (Create a ∷ Link a b ∷ Create c ∷ Rename c b ∷ Rename a b ∷ Df ∷ []) ≡ done (3 ∷ 2 ∷ 2 ∷ 4 ∷ 5 ∷ []) ++ space 14 16 60 61 ∷ []
unfolding inodes_of data_pages_of
files_are_replaced = refl

-- a rename inside a full directory needs a page
renames_in_a_full_directory :
    on 64 (Mkdir d ∷ Create z ∷ map (λ n. Link z (in_d n)) (range_with_len 0 32) ++ Df ∷ Rename (in_d 0) (in_d 100) ∷ Df ∷ Rename (in_d 1) (in_d 101) ∷ Df
    ∷ Rename z (in_d 102) ∷ Df ∷ [])
    ≡ done (3 ∷ 2 ∷ 3 ∷ replicate 31 2) ++ space 13 16 59 61 ∷ (6, Done) ∷ space 13 16 58 61 ∷ (4, Done) ∷ space 13 16 58 61 ∷ (4, Done) ∷ space 13 16 58 61 ∷ []
unfolding inodes_of data_pages_of
renames_in_a_full_directory = refl

-- a file's last reference gives up its page, and another file gets what a cut gave back
pages_pass_between_files :
    on 16 (Create a ∷ Truncate a 49152 ∷ Write a 49151 (255 ∷ []) ∷ Create b ∷ Truncate a 45056 ∷ Write b 0 (0 ∷ []) ∷ Link b c ∷ Unlink b ∷ Unlink c ∷ Df ∷ [])
    ≡ (3, Done) ∷ (3, Done) ∷ (1, Count 1) ∷ (2, Done) ∷ (3, Done) ∷ (3, Count 1) ∷ done (2 ∷ 2 ∷ 4 ∷ []) ++ space 2 4 1 13 ∷ []
unfolding inodes_of data_pages_of
pages_pass_between_files = refl

-- a file of two bytes over one of two pages, each alone in its directory
file_over_a_longer_one :
    on 64 (Mkdir p ∷ Mkdir q ∷ Create (below (codes "p") (codes "s")) ∷ Write (below (codes "p") (codes "s")) 0 (codes "hi") ∷ Create (below (codes "q") (codes "t"))
    ∷ Truncate (below (codes "q") (codes "t")) 5000 ∷ Df ∷ Rename (below (codes "p") (codes "s")) (below (codes "q") (codes "t")) ∷ Df ∷ [])
    ≡ (3, Done) ∷ (2, Done) ∷ (3, Done) ∷ (3, Count 2) ∷ (3, Done) ∷ (3, Done) ∷ space 11 16 55 61 ∷ (6, Done) ∷ space 12 16 58 61 ∷ []
unfolding inodes_of data_pages_of
file_over_a_longer_one = refl

-- so many times 32 new names, the first of which takes a page
abbrev pub full_pages : ℕ → List (ℕ × Answer)
full_pages n = flat_map (λ k. done (3 ∷ replicate 31 2)) (range_with_len 0 n)

-- a root with 416 names in the thirteen pages of a volume: no further name, and no page given back while each has one
full_volume_of_names :
    on 16 (Create a ∷ map (λ n. Link a (in_root n)) (range_with_len 1 415) ++ Link a b ∷ Unlink (in_root 1) ∷ Df ∷ map (λ n. Unlink (in_root n)) (range_with_len 2 32) ++ Df ∷ [])
    ≡ full_pages 13 ++ (0, Refused NoPages) ∷ (2, Done) ∷ space 2 4 0 13 ∷ done (replicate 32 2) ++ space 2 4 0 13 ∷ []
unfolding inodes_of data_pages_of
full_volume_of_names = refl
