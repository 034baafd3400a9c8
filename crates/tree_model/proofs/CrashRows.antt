-- What a line may get and what a crash may leave, on closed trees.
use Rattle.std.proofs.Common.{◌≡◌, [], ◌∷◌, ◌++◌, map, refl, Ok, Err, replicate, inl, inr, IsTrue, false, true, true≢false, Some, is_some, sym, ap}
use Rattle.layout.specs.Geometry.{inodes_of, data_pages_of}
use Rattle.tree_model.specs.declared.command.Command.TheVariants.{Create, Mkdir, Link, Unlink, Rmdir, Rename, Write, Truncate, Read, Stat, List as Show, Df}
use Rattle.tree_model.specs.declared.reply.LineFault.TheVariants.{BadLine}
use Rattle.tree_model.specs.declared.reply.Refusal.TheVariants.{Exists, NoMemory}
use Rattle.tree_model.specs.Run.{State, fresh_state, plain_end, LineStep, LineFails, is_changing, may_fail}
use Rattle.tree_model.specs.Allowed.{Allowed, is_mix}
use Rattle.tree_model.specs.Tree.{fresh, fresh_room, room_fits, File, id_at}
use Rattle.tree_model.specs.Step.{Done, Unread, Refused, Fault, with_new, room_after, tree_after, refusal_of, RoomAfter, with_bytes}
use Rattle.tree_model.proofs.Rows.{a, b}

-- ---- lines

abbrev pub after_a : State
after_a = record { tree = with_new fresh a 2 (File []); room = room_after 2 fresh fresh_room (Create a) false }

memory_may_fail_a_command : LineStep 16 fresh_state (Ok (Create a)) (Refused NoMemory) fresh_state
unfolding inodes_of data_pages_of
memory_may_fail_a_command = inr (record { accepted = refl; answered = refl; unchanged = refl })

a_command_is_done : LineStep 16 fresh_state (Ok (Create a)) Done after_a
unfolding inodes_of data_pages_of
a_command_is_done = inl (record { answered = refl; tree = refl; room = (false, refl, refl) })

a_bad_line_changes_nothing : LineStep 16 after_a (Err BadLine) (Unread BadLine) after_a
a_bad_line_changes_nothing = (refl, refl)

a_refused_command_changes_nothing : LineStep 16 after_a (Ok (Create a)) (Refused Exists) after_a
unfolding inodes_of data_pages_of
a_refused_command_changes_nothing = inl (record { answered = refl; tree = refl; room = refl })

the_device_may_fail_a_command : LineFails 16 after_a (Ok (Create b)) Fault
unfolding inodes_of data_pages_of
the_device_may_fail_a_command = record { accepted = refl; answered = refl }

the_device_fails_no_reading_command : LineFails 16 fresh_state (Ok Df) Fault → ⊥
the_device_fails_no_reading_command h = let e : IsTrue false = h.accepted in cc

the_device_fails_no_bad_line : LineFails 16 fresh_state (Err BadLine) Fault → ⊥
the_device_fails_no_bad_line h = h

memory_fails_no_refused_command : LineStep 16 after_a (Ok (Create a)) (Refused NoMemory) after_a → ⊥
unfolding inodes_of data_pages_of
memory_fails_no_refused_command (inl h) = cc (h.answered)
memory_fails_no_refused_command (inr h) = let e : IsTrue false = h.accepted in cc

which_commands_change : map is_changing (Create a ∷ Mkdir a ∷ Link a b ∷ Unlink a ∷ Rmdir a ∷ Rename a b ∷ Write a 0 [] ∷ Truncate a 0 ∷ Read a 0 0 ∷ Stat a ∷ Show a ∷ Df ∷ [])
    ≡ replicate 8 true ++ replicate 4 false
which_commands_change = refl

a_refused_command_does_not_fail : may_fail 16 after_a (Create a) ≡ false
unfolding inodes_of data_pages_of
a_refused_command_does_not_fail = refl

-- ---- rooms

a_name_needs_a_page : room_fits (tree_after 2 fresh (Create a)) fresh_room ≡ false
a_name_needs_a_page = refl

-- at a loss the directory may keep its page only while names are left: after the last name it has none
no_page_without_names : IsTrue (room_fits (tree_after 3 after_a.tree (Unlink a)) (room_after 3 after_a.tree after_a.room (Unlink a) false)) → ⊥
no_page_without_names e = cc

the_page_is_given_back : RoomAfter (refusal_of 16 after_a.tree after_a.room (Unlink a)) after_a.tree after_a.room (Unlink a) fresh_room
unfolding inodes_of data_pages_of
the_page_is_given_back = (true, refl, refl)

-- ---- a torn write: of sixteen bytes written, the second word came and the first did not

abbrev pub filled : State
filled = plain_end 16 fresh_state (Ok (Create a) ∷ Ok (Write a 0 (replicate 32 17)) ∷ [])

one_word_of_two_came : Allowed 16 filled.tree filled.room (Some (Write a 8 (replicate 16 34)))
    (with_bytes filled.tree 2 (replicate 16 17 ++ replicate 8 34 ++ replicate 8 17))
unfolding inodes_of data_pages_of
one_word_of_two_came = inr (inr (refl, (replicate 16 17 ++ replicate 8 34 ++ replicate 8 17, refl, refl)))

no_byte_outside_the_range_changes : IsTrue (is_mix 8 (replicate 16 34) 0 (replicate 32 17) (replicate 7 17 ++ replicate 1 34 ++ replicate 24 17)) → ⊥
no_byte_outside_the_range_changes e = cc

only_a_write_is_torn : Allowed 16 after_a.tree after_a.room (Some (Stat a)) fresh → ⊥
unfolding inodes_of data_pages_of
only_a_write_is_torn (inl e) = true≢false (sym (ap (λ T. is_some (id_at T a)) e))
only_a_write_is_torn (inr (inl e)) = true≢false (sym (ap (λ T. is_some (id_at T a)) e))
only_a_write_is_torn (inr (inr h)) = h.1
