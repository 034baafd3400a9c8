-- Words of the generator, and the lines of three seeds, computed from the definitions.
use Rattle.std.proofs.Common.{◌≡◌, ℕ, ◌+◌, List, [], ◌∷◌, ◌++◌, length, map, codes, Option, Some, refl, flat_map, replicate}
use Rattle.std.specs.Prelude.{slice_get}
use Rattle.std.specs.List.{range_with_len}
use Rattle.std.specs.Option.{option_map}
use Rattle.std.specs.Fmt.{digits}
use Rattle.hex.specs.Hex.{encode_with}
use Rattle.rand_pcg.specs.Lcg.{Lcg, started, increment_of}
use Rattle.rand_pcg.specs.Pcg.{multiplier_64}
use Rattle.script.specs.Texts.{line_text}
use Rattle.crash_replay.specs.declared.work_line.Kind.TheVariants.{Create, Mkdir, Link, Unlink, Rmdir, RenameFile, RenameDirectory, Write, Truncate, Read}
use Rattle.crash_replay.specs.Work.{generator_of, word_of, behind_word, draw_of, behind_draw, directory_of, file_of, bytes_of, kind_of, words_of, drawn_words, drawn_lines, first_lines, work_script}

-- ---- the generator

-- PCG's own vector
abbrev reference : Lcg
reference = started 64 multiplier_64 42 (increment_of 64 54)

words_of_the_reference : word_of reference ∷ word_of (behind_word reference) ∷ word_of (behind_word (behind_word reference)) ∷ []
    ≡ 0xa15c02b7 ∷ 0x7b47f409 ∷ 0xba1d3330 ∷ []
unfolding word_of behind_word
words_of_the_reference = refl

-- ---- lines

-- so many equal bytes in hexadecimal
abbrev equal : ℕ → List ℕ → List ℕ
equal count byte = flat_map (λ pair. pair) (replicate count byte)

abbrev lines : List (List ℕ) → List ℕ
lines texts = flat_map (λ text. text ++ 10 ∷ []) texts

-- the script of a seed is the four lines and these
abbrev Begins : ℕ → List (List ℕ) → Type 0
Begins seed texts =
    work_script seed (length texts) ≡ lines (codes "mkdir /d0" ∷ codes "mkdir /d1" ∷ codes "mkdir /d2" ∷ codes "mkdir /d3" ∷ texts)

no_line_more : Begins 7 []
unfolding work_script generator_of first_lines drawn_lines drawn_words draw_of behind_draw word_of behind_word kind_of words_of bytes_of directory_of file_of digits encode_with
no_line_more = refl

seed_1 : Begins 1 (codes "create /d0/f13" ∷ codes "read /d2/f5 0 64" ∷ codes "mkdir /d3" ∷ codes "link /d1/f6 /d3/f10" ∷ codes "rmdir /d1" ∷ codes "create /d0/f11" ∷ codes "rename /d0/f9 /d3/f5" ∷ codes "mkdir /d1"
    ∷ (codes "write /d2/f12 2491 " ++ equal 38 (codes "d7")) ∷ codes "create /d1/f12" ∷ [])
unfolding work_script generator_of first_lines drawn_lines drawn_words draw_of behind_draw word_of behind_word kind_of words_of bytes_of directory_of file_of digits encode_with
seed_1 = refl

seed_0 : Begins 0 (codes "rmdir /d1" ∷ codes "rmdir /d1" ∷ codes "mkdir /d0" ∷ codes "rename /d0/f9 /d1/f7" ∷ codes "read /d0/f9 0 64" ∷ codes "unlink /d1/f9" ∷ [])
unfolding work_script generator_of first_lines drawn_lines drawn_words draw_of behind_draw word_of behind_word kind_of words_of bytes_of directory_of file_of digits encode_with
seed_0 = refl

greatest_seed : Begins 18446744073709551615 (codes "create /d2/f9" ∷ codes "link /d1/f5 /d1/f1" ∷ codes "rmdir /d3" ∷ codes "truncate /d2/f13 7392" ∷ [])
unfolding work_script generator_of first_lines drawn_lines drawn_words draw_of behind_draw word_of behind_word kind_of words_of bytes_of directory_of file_of digits encode_with
greatest_seed = refl

-- the line of so many draws before it
abbrev line_behind : ℕ → ℕ → Option (List ℕ)
line_behind seed count = option_map line_text (slice_get (drawn_lines (generator_of seed) (count + 1)) count)

a_truncation_of_seed_1 : line_behind 1 15 ≡ Some (lines (codes "truncate /d1/f4 7753" ∷ []))
unfolding work_script generator_of first_lines drawn_lines drawn_words draw_of behind_draw word_of behind_word kind_of words_of bytes_of directory_of file_of digits encode_with
a_truncation_of_seed_1 = refl

two_directories_of_seed_1 : line_behind 1 22 ≡ Some (lines (codes "rename /d2 /d1" ∷ []))
unfolding work_script generator_of first_lines drawn_lines drawn_words draw_of behind_draw word_of behind_word kind_of words_of bytes_of directory_of file_of digits encode_with
two_directories_of_seed_1 = refl

first_write_of_seed_0 : line_behind 0 12 ≡ Some (lines ((codes "write /d1/f2 6285 " ++ equal 38 (codes "63")) ∷ []))
unfolding work_script generator_of first_lines drawn_lines drawn_words draw_of behind_draw word_of behind_word kind_of words_of bytes_of directory_of file_of digits encode_with
first_write_of_seed_0 = refl

first_write_of_the_greatest_seed : line_behind 18446744073709551615 8 ≡ Some (lines (codes "write /d1/f0 5375 c5c5c5" ∷ []))
unfolding work_script generator_of first_lines drawn_lines drawn_words draw_of behind_draw word_of behind_word kind_of words_of bytes_of directory_of file_of digits encode_with
first_write_of_the_greatest_seed = refl

-- the longest line and the shortest write
longest_line : length (line_text (words_of Write (record { a = 767; b = 63; c = 2097151 }))) ≡ 148
unfolding work_script generator_of first_lines drawn_lines drawn_words draw_of behind_draw word_of behind_word kind_of words_of bytes_of directory_of file_of digits encode_with
longest_line = refl

one_byte : line_text (drawn_words (record { a = 8; b = 0; c = 0 })) ≡ lines (codes "write /d0/f0 0 00" ∷ [])
unfolding work_script generator_of first_lines drawn_lines drawn_words draw_of behind_draw word_of behind_word kind_of words_of bytes_of directory_of file_of digits encode_with
one_byte = refl

kinds : map kind_of (range_with_len 0 12) ≡ Create ∷ Create ∷ Mkdir ∷ Link ∷ Unlink ∷ Rmdir ∷ RenameFile ∷ RenameDirectory ∷ Write ∷ Write ∷ Truncate ∷ Read ∷ []
unfolding kind_of
kinds = refl
