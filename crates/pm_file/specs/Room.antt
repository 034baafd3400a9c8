-- The memory for a volume's words.
use Rattle.std.specs.Prelude.{◌≡◌, ℕ, ◌*◌, ◌≤◌, [], replicate}
use Rattle.std.specs.Vec.{vec_capacity}
use Rattle.pm_file.specs.declared.mirror.Room.{Room}

-- It is for so many pages: none of their words is there yet, and no line was flushed.
pub record IsRoomFor (pages : ℕ) (room : Room) : Type 0 where
  pub words : room.words.items ≡ []
  pub enough_words : 512 * pages ≤ vec_capacity room.words
  pub rounds : room.rounds.items ≡ replicate (64 * pages) 0
  pub flushed : room.flushed.items ≡ []
  pub enough : vec_capacity room.flushed ≡ 64 * pages
