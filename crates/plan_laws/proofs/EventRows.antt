-- Events of lines on small volumes, computed from the definitions.
use Rattle.std.proofs.Common.{◌≡◌, ℕ, ◌+◌, List, [], ◌∷◌, ◌++◌, map, codes, replicate, refl, Ok, Err}
use Rattle.std.specs.List.{range_with_len}
use Rattle.layout.specs.Geometry.{inodes_of, data_pages_of}
use Rattle.tree_model.specs.Step.{Unread, Fault, Stopped, Refused, step}
use Rattle.tree_model.specs.Run.{State, fresh_state, plain_answers, plain_states}
use Rattle.tree_model.specs.declared.command.Command.{Command}
use Rattle.tree_model.specs.declared.command.Command.TheVariants.{Create, Mkdir, Link, Unlink, Rmdir, Rename, Write, Truncate, Read, Stat, List as Show, Df}
use Rattle.tree_model.specs.declared.reply.LineFault.TheVariants.{BadLine}
use Rattle.tree_model.specs.declared.reply.Refusal.TheVariants.{NoMemory}
use Rattle.tree_model.proofs.Rows.{a, b, c, d, below}
use Rattle.tree_model.proofs.FenceRows.{Turn, gives, command_of, next, kept, p, q, z, in_d, one_of_each, with_a_and_d, three_lines}
use Rattle.volume.specs.LineEvents.{events_of_line, events_of_run}

-- the events of each command, without its acknowledgement
abbrev run : ℕ → State → List Turn → List ℕ
run volume old [] = []
run volume old (turn ∷ turns) =
    let new = next volume old turn in
    events_of_line old (Ok (command_of turn)) (step volume old.tree old.room (command_of turn)).answer new ∷ run volume new turns

abbrev on : ℕ → List Command → List ℕ
on volume commands = run volume fresh_state (kept commands)

abbrev nine : List ℕ
nine = codes "123456789"

-- with a new page and without
new_names : on 16 (Create a ∷ Create b ∷ []) ++ on 16 (Mkdir d ∷ Mkdir p ∷ []) ++ on 16 (Create a ∷ Mkdir d ∷ Link a (in_d 1) ∷ Link a (in_d 2) ∷ [])
    ≡ 591 ∷ 25 ∷ 593 ∷ 27 ∷ 591 ∷ 27 ∷ 588 ∷ 22 ∷ []
unfolding inodes_of data_pages_of
new_names = refl

-- the file stays, or goes without a page, or with one
unlinks_beside_other_names :
    on 16 (Create a ∷ Link a b ∷ Unlink b ∷ []) ++ on 16 (Create a ∷ Create b ∷ Unlink b ∷ []) ++ on 16 (Create a ∷ Write a 0 nine ∷ Create b ∷ Unlink a ∷ [])
    ≡ 591 ∷ 22 ∷ 23 ∷ 591 ∷ 25 ∷ 29 ∷ 591 ∷ 586 ∷ 25 ∷ 35 ∷ []
unfolding inodes_of data_pages_of
unlinks_beside_other_names = refl

-- the same where the directory gives its page back
unlinks_of_a_last_name :
    on 16 (Create a ∷ Mkdir d ∷ Link a (in_d 1) ∷ Unlink (in_d 1) ∷ []) ++ on 16 (Create a ∷ Unlink a ∷ []) ++ on 16 (Create a ∷ Write a 0 nine ∷ Unlink a ∷ [])
    ≡ 591 ∷ 27 ∷ 588 ∷ 30 ∷ 591 ∷ 35 ∷ 591 ∷ 586 ∷ 40 ∷ []
unfolding inodes_of data_pages_of
unlinks_of_a_last_name = refl

-- a directory's second page, given back with its only name, and kept
second_page_of_a_directory :
    run 64 fresh_state (kept (Mkdir d ∷ Create z ∷ map (λ n. Link z (in_d n)) (range_with_len 1 33)) ++ gives (Unlink (in_d 33)) ∷ kept (Link z (in_d 33) ∷ Unlink (in_d 1) ∷ []))
    ≡ 593 ∷ 25 ∷ 588 ∷ replicate 31 22 ++ 588 ∷ 30 ∷ 588 ∷ 23 ∷ []
unfolding inodes_of data_pages_of
second_page_of_a_directory = refl

rmdirs : on 16 (Mkdir d ∷ Mkdir p ∷ Rmdir p ∷ Rmdir d ∷ []) ≡ 593 ∷ 27 ∷ 29 ∷ 35 ∷ []
unfolding inodes_of data_pages_of
rmdirs = refl

-- of one node, inside a directory, with a new page, and with a page given back
renames_of_a_file :
    on 16 (Create a ∷ Link a b ∷ Rename a b ∷ Rename a a ∷ []) ++ on 16 (Create a ∷ Rename a b ∷ []) ++ on 16 (Create a ∷ Mkdir d ∷ Rename a (in_d 1) ∷ Rename (in_d 1) a ∷ [])
    ≡ 591 ∷ 22 ∷ 0 ∷ 0 ∷ 591 ∷ 44 ∷ 591 ∷ 27 ∷ 612 ∷ 51 ∷ []
unfolding inodes_of data_pages_of
renames_of_a_file = refl

-- the replaced file has another name, or goes without a page, or with one
renames_over_a_file :
    on 64 (Create a ∷ Link a b ∷ Create c ∷ Rename c b ∷ []) ++ on 64 (Create a ∷ Create b ∷ Rename a b ∷ []) ++ on 64 (Create a ∷ Create b ∷ Write b 0 nine ∷ Rename a b ∷ [])
    ≡ 591 ∷ 22 ∷ 25 ∷ 31 ∷ 591 ∷ 25 ∷ 37 ∷ 591 ∷ 25 ∷ 586 ∷ 43 ∷ []
unfolding inodes_of data_pages_of
renames_over_a_file = refl

-- inside a directory, over one beside it, and to another parent and back, over one there
renames_of_a_directory :
    on 64 (Mkdir d ∷ Rename d p ∷ Mkdir q ∷ Rename q p ∷ []) ++ on 64 (Mkdir p ∷ Mkdir d ∷ Create (below (codes "p") (codes "x")) ∷ Rename d (below (codes "p") (codes "d")) ∷ Mkdir q
    ∷ Rename (below (codes "p") (codes "d")) q ∷ [])
    ≡ 593 ∷ 44 ∷ 27 ∷ 37 ∷ 593 ∷ 27 ∷ 591 ∷ 48 ∷ 27 ∷ 37 ∷ []
unfolding inodes_of data_pages_of
renames_of_a_directory = refl

-- no bytes, in a new page, inside the size, over its end in the page, over two words and two lines, and in a page more
writes :
    on 16 (Create a ∷ Write a 0 [] ∷ Write a 0 nine ∷ Write a 0 (codes "abcde") ∷ Write a 9 (codes "x") ∷ Write a 60 nine ∷ Write a 62 (codes "abcd") ∷ Write a 4095 (codes "xy") ∷ [])
    ≡ 591 ∷ 0 ∷ 586 ∷ 3 ∷ 579 ∷ 579 ∷ 5 ∷ 1153 ∷ []
unfolding inodes_of data_pages_of
writes = refl

-- to the same size, to more in new pages, to less in the last one, to the page before, to nothing
truncates : on 16 (Create a ∷ Truncate a 0 ∷ Truncate a 9000 ∷ Truncate a 8193 ∷ Truncate a 8192 ∷ Truncate a 0 ∷ []) ≡ 591 ∷ 0 ∷ 1748 ∷ 3 ∷ 10 ∷ 15 ∷ []
unfolding inodes_of data_pages_of
truncates = refl

readers_take_none : on 16 (Create a ∷ Read a 0 4 ∷ Stat a ∷ Show [] ∷ Df ∷ []) ≡ 591 ∷ 0 ∷ 0 ∷ 0 ∷ 0 ∷ []
unfolding inodes_of data_pages_of
readers_take_none = refl

-- nothing that failed is counted, whatever the command
failures_take_none : map (λ command. events_of_line with_a_and_d (Ok command) (Refused NoMemory) with_a_and_d) one_of_each ++ map (λ command. events_of_line with_a_and_d (Ok command) Fault with_a_and_d) one_of_each
    ++ map (λ command. events_of_line with_a_and_d (Ok command) Stopped with_a_and_d) one_of_each ≡ replicate 36 0
unfolding inodes_of data_pages_of
failures_take_none = refl

a_bad_line_takes_none : events_of_line with_a_and_d (Err BadLine) (Unread BadLine) with_a_and_d ≡ 0
a_bad_line_takes_none = refl

-- the events of a script are the sum of its lines', each with its acknowledgement
sum_of_lines : events_of_run fresh_state (map Ok three_lines) (plain_answers 16 fresh_state (map Ok three_lines)) (plain_states 16 fresh_state (map Ok three_lines)) ≡ 592 + 26 + 30
unfolding inodes_of data_pages_of
sum_of_lines = refl
