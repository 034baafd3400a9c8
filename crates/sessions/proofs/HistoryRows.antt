-- Histories of small volumes, computed from the definitions.
use Rattle.std.proofs.Common.{ℕ, [], ◌∷◌, codes, refl, Ok, inl, inr, false, ◌==◌, if◌then◌else◌, arith}
use Rattle.layout.specs.Geometry.{inodes_of, data_pages_of}
use Rattle.tree_model.specs.PathText.{Route}
use Rattle.tree_model.specs.Run.{State, Line, fresh_state}
use Rattle.tree_model.specs.Step.{tree_after, room_after}
use Rattle.tree_model.specs.declared.command.Command.{Command}
use Rattle.tree_model.specs.declared.command.Command.TheVariants.{Create, Df}
use Rattle.tree_model.specs.declared.reply.Reply.TheVariants.{Done, Space}
use Rattle.sessions.specs.History.{IsLegalHistory}
use Rattle.sessions.specs.declared.entry.Entry.{Entry}
use Rattle.sessions.specs.declared.entry.WeaveReply.{WeaveReply}
use Rattle.sessions.specs.declared.entry.WeaveReply.TheVariants.{Plain, Busy}

abbrev entry : ℕ → ℕ → WeaveReply → ℕ → ℕ → Entry
entry session number reply inodes pages = record { session = session; number = number; reply = reply; inodes = inodes; pages = pages }

-- the state behind an accepted command that makes a node of this id and gives no page back
abbrev behind : State → ℕ → Command → State
behind old id c = record { tree = tree_after id old.tree c; room = room_after id old.tree old.room c false }

abbrev a : Route
a = codes "a" ∷ []

abbrev b : Route
b = codes "b" ∷ []

-- ---- `0 create /a`, `1 create /b`, `1 df` on 16 pages, the create first: its directory is in the way, and what it holds isn't free

abbrev creates : ℕ → Line
creates number = if number == 1 then Ok (Create a) else if number == 2 then Ok (Create b) else Ok Df

a_create_is_in_the_way : IsLegalHistory 16 creates fresh_state
    (entry 1 2 (Busy 1 1) 1 1 ∷ entry 1 3 (Plain (Space (record { inodes = 2; inodes_all = 4; pages = 12; pages_all = 13 }))) 1 1 ∷ entry 0 1 (Plain Done) 0 0 ∷ [])
    (behind fresh_state 2 (Create a))
unfolding inodes_of data_pages_of
a_create_is_in_the_way = (
  fresh_state,
  inr (inr (record { inode = 1; holder = 1; reply_is = refl; same = refl })),
  (
    fresh_state,
    inl (record { id = 0; new_id = λ accepted. record { unused = refl; in_range = λ none. absurd (omega (arith, none)) }; reply_is = refl; tree = refl; room = (false, refl, refl) }),
    (
      behind fresh_state 2 (Create a),
      inl (record { id = 2; new_id = λ accepted. record { unused = refl; in_range = λ one. (omega arith, omega arith) }; reply_is = refl; tree = refl; room = (false, refl, refl) }),
      refl,
    ),
  ),
)
