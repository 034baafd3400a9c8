-- The script that a seed generates: four lines that make directories, and behind them a line for each three words of a
-- generator.
use Rattle.std.specs.Prelude.{◌≡◌, ◌==◌, ◌||◌, ℕ, zero, suc, ◌+◌, ◌*◌, ◌/◌, ◌%◌, ◌^◌, ◌<◌, ◌≤◌, if◌then◌else◌, List, [], ◌∷◌, ◌++◌, length, map, replicate, codes, decimal, flat_map, IsOk}
use Rattle.std.specs.List.{All}
use Rattle.hex.specs.Hex.{encode_lower}
use Rattle.rand_pcg.specs.Lcg.{Lcg, started, increment_of}
use Rattle.rand_pcg.specs.Pcg.{multiplier_64, pcg32}
use Rattle.script.specs.Lines.{calls_of}
use Rattle.script.specs.Texts.{line_text}
use Rattle.crash_replay.specs.declared.work_line.Draw.{Draw}
use Rattle.crash_replay.specs.declared.work_line.Kind.{Kind}
use Rattle.crash_replay.specs.declared.work_line.Kind.TheVariants.{Create, Mkdir, Link, Unlink, Rmdir, RenameFile, RenameDirectory, Write, Truncate, Read}

-- ---- the words of the generator

-- the generator of a seed, on stream 1
unfoldable pub generator_of : ℕ → Lcg
generator_of seed = started 64 multiplier_64 seed (increment_of 64 1)

-- the next word of a generator
unfoldable pub word_of : Lcg → ℕ
word_of g = (pcg32 g).0

-- the generator behind it
unfoldable pub behind_word : Lcg → Lcg
behind_word g = (pcg32 g).1

-- the next three words
unfoldable pub draw_of : Lcg → Draw
draw_of g = record { a = word_of g; b = word_of (behind_word g); c = word_of (behind_word (behind_word g)) }

-- the generator behind them
unfoldable pub behind_draw : Lcg → Lcg
behind_draw g = behind_word (behind_word (behind_word g))

-- ---- a line

-- one of four directories
unfoldable pub directory_of : ℕ → List ℕ
directory_of x = codes "/d" ++ decimal (x % 4)

-- one of sixteen files in it
unfoldable pub file_of : ℕ → List ℕ
file_of x = directory_of x ++ codes "/f" ++ decimal (x / 4 % 16)

-- the bytes that a line writes: 1 to 64, all the same
unfoldable pub bytes_of : Draw → List ℕ
bytes_of d = replicate (1 + d.a / 12 % 64) (d.c / 8192 % 256)

-- what a remainder by 12 stands for
unfoldable pub kind_of : ℕ → Kind
kind_of x =
    if x == 0 || x == 1 then Create
    else if x == 2 then Mkdir
    else if x == 3 then Link
    else if x == 4 then Unlink
    else if x == 5 then Rmdir
    else if x == 6 then RenameFile
    else if x == 7 then RenameDirectory
    else if x == 8 || x == 9 then Write
    else if x == 10 then Truncate
    else Read

-- the words of a line of this kind
unfoldable pub words_of : Kind → Draw → List (List ℕ)
words_of Create d = codes "create" ∷ file_of d.b ∷ []
words_of Mkdir d = codes "mkdir" ∷ directory_of d.b ∷ []
words_of Link d = codes "link" ∷ file_of d.b ∷ file_of d.c ∷ []
words_of Unlink d = codes "unlink" ∷ file_of d.b ∷ []
words_of Rmdir d = codes "rmdir" ∷ directory_of d.b ∷ []
words_of RenameFile d = codes "rename" ∷ file_of d.b ∷ file_of d.c ∷ []
words_of RenameDirectory d = codes "rename" ∷ directory_of d.b ∷ directory_of d.c ∷ []
words_of Write d = codes "write" ∷ file_of d.b ∷ decimal (d.c % 8192) ∷ encode_lower (bytes_of d) ∷ []
words_of Truncate d = codes "truncate" ∷ file_of d.b ∷ decimal (d.c % 10000) ∷ []
words_of Read d = codes "read" ∷ file_of d.b ∷ codes "0" ∷ codes "64" ∷ []

-- the words of the line that three words of the generator stand for
unfoldable pub drawn_words : Draw → List (List ℕ)
drawn_words d = words_of (kind_of (d.a % 12)) d

-- ---- the script

-- so many lines, each of the next three words of the generator
unfoldable pub drawn_lines : Lcg → ℕ → List (List (List ℕ))
drawn_lines g zero = []
drawn_lines g (suc count) = drawn_words (draw_of g) ∷ drawn_lines (behind_draw g) count

-- the lines that make the four directories
unfoldable pub first_lines : List (List (List ℕ))
first_lines = map (λ k. codes "mkdir" ∷ directory_of k ∷ []) (0 ∷ 1 ∷ 2 ∷ 3 ∷ [])

unfoldable pub work_script : ℕ → ℕ → List ℕ
work_script seed count = flat_map line_text (first_lines ++ drawn_lines (generator_of seed) count)

-- ---- what it is like

-- so many lines, each a command, and at most 148 bytes a line in all; at most a million lines are within a script's limit
pub record IsWorkScript (count : ℕ) (script : List ℕ) : Type 0 where
  pub lines : length (calls_of script) ≡ count + 4
  pub commands : All (λ call. IsOk call) (calls_of script)
  pub bytes : length script ≤ 148 * (count + 4)
  pub within : count ≤ 1000000 → length script < 2 ^ 32

abbrev pub WorkLaw : Type 0
WorkLaw = (seed count : ℕ) → IsWorkScript count (work_script seed count)
