-- That a generated script has so many lines, and that each is a command of at most 148 bytes.
use Rattle.std.proofs.Common.{◌≡◌, ℕ, zero, suc, ◌+◌, ◌-◌, ◌*◌, ◌/◌, ◌%◌, ◌^◌, ◌<◌, ◌≤◌, Bool, true, false, ◌==◌, ◌&&◌, cond, List, [], ◌∷◌, ◌++◌, length, map, filter, replicate, flat_map, codes, decimal, Option, Some, None, Result, Ok, Err, is_some, is_ok, refl, sym, ap, subst, ◌∙◌, inl, inr, arith, lit<, lit≤, append_assoc, length-append}
use Rattle.std.specs.Prelude.{nat_lt, nat_le, slice_index, IsOk}
use Rattle.std.specs.Fmt.{digits}
use Rattle.std.specs.List.{All, join_with_byte, list_all, slice_split}
use Rattle.std.proofs.lemmas.Bool.{and_parts, and_from, cases_lt, ltb-true, leb-true, lt-ltb, le-leb, ne_eqb}
use Rattle.std.proofs.lemmas.Bool.Decides.{nat_tests}
use Rattle.std.proofs.lemmas.Fmt.{decimal_by_steps, decimal_nonempty, length-decimal-le}
use Rattle.std.proofs.lemmas.List.{length-replicate}
use Rattle.std.proofs.lemmas.List.Elements.{All-nil, All-cons, All-append}
use Rattle.std.proofs.lemmas.List.Folds.{list_all-append}
use Rattle.std.proofs.lemmas.List.Splits.{slice_split_at}
use Rattle.std.proofs.lemmas.List.Sums.{fold_push}
use Rattle.hex.specs.Hex.{IsBytes, decode_of, encode_lower, encode_with, lower_digits}
use Rattle.hex.proofs.HexLemmas.{length-encode_with, decode_of-encode_lower}
use Rattle.rand_pcg.specs.Lcg.{Lcg}
use Rattle.tree_model.specs.PathText.{Route, path_of}
use Rattle.tree_model.specs.Run.{Line}
use Rattle.tree_model.specs.declared.command.Command.{Command}
use Rattle.tree_model.specs.declared.command.Command.TheVariants as command
use Rattle.tree_model.specs.declared.reply.LineFault.{LineFault}
use Rattle.tree_model.specs.declared.reply.LineFault.TheVariants.{BadLine}
use Rattle.script.specs.Lines.{newline, space, line_limit, IsUnbroken, is_space, is_filled, words_of as line_words, lines_of, is_decimal_digit, decimal_value, number_of, is_word, if_decoded, bytes_of_hex, or_bad_line, on_path, both_paths, on_paths, of_words, call_of, calls_of}
use Rattle.script.specs.Places.{Lacks}
use Rattle.script.specs.Texts.{line_text}
use Rattle.script.proofs.LineLaws.{lines_of-front}
use Rattle.script.proofs.WordLaws.{words_none}
use Rattle.crash_replay.specs.Work.{generator_of, draw_of, behind_draw, directory_of, file_of, bytes_of, kind_of, words_of, drawn_words, drawn_lines, first_lines, work_script, WorkLaw}
use Rattle.crash_replay.specs.declared.work_line.Draw.{Draw}
use Rattle.crash_replay.specs.declared.work_line.Kind.{Kind}
use Rattle.crash_replay.specs.declared.work_line.Kind.TheVariants.{Create, Mkdir, Link, Unlink, Rmdir, RenameFile, RenameDirectory, Write, Truncate, Read}
use Rattle.crash_replay.proofs.WorkTexts.{offset_digits, size_digits}

-- ---- words

-- no byte is a space or a newline
abbrev is_plain : List ℕ → Bool
is_plain bytes = list_all (λ b. nat_lt space b) bytes

abbrev AreWords : List (List ℕ) → Type 0
AreWords [] = Unit {0}
AreWords (word ∷ words) = (0 < length word) × (is_plain word ≡ true) × AreWords words

plain_lacks : (byte : ℕ) → byte ≤ 32 → (bytes : List ℕ) → is_plain bytes ≡ true → Lacks byte bytes
plain_lacks byte low [] plain = All-nil (λ b. (b == byte) ≡ false)
plain_lacks byte low (b ∷ bytes) plain =
    let parts = and_parts (nat_lt space b) (is_plain bytes) plain in
    let above : 32 < b = ltb-true 32 b parts.0 in
    All-cons (λ x. (x == byte) ≡ false) b bytes (ne_eqb b byte (λ same. absurd (omega arith))) (plain_lacks byte low bytes parts.1)

word_filled : (word : List ℕ) → 0 < length word → is_filled word ≡ true
word_filled word some = lt-ltb 0 (length word) some

words_front : (word rest : List ℕ) → 0 < length word → is_plain word ≡ true → line_words (word ++ space ∷ rest) ≡ word ∷ line_words rest
words_front word rest some plain =
    ap (filter is_filled) (slice_split_at is_space word space rest (plain_lacks space (omega arith) word plain) refl)
    ∙ ap (λ t. cond t (word ∷ filter is_filled (slice_split is_space rest)) (filter is_filled (slice_split is_space rest))) (word_filled word some)

-- words with a space between each two are read back
words_joined : (words : List (List ℕ)) → AreWords words → line_words (join_with_byte space words) ≡ words
words_joined [] are = refl
words_joined (word ∷ []) are = words_none word (plain_lacks space (omega arith) word are.1) are.0
words_joined (word ∷ next ∷ words) are =
    words_front word (join_with_byte space (next ∷ words)) are.0 are.1 ∙ ap (λ ws. word ∷ ws) (words_joined (next ∷ words) are.2)

joined_unbroken : (words : List (List ℕ)) → AreWords words → IsUnbroken (join_with_byte space words)
joined_unbroken [] are = All-nil (λ b. (b == newline) ≡ false)
joined_unbroken (word ∷ []) are = plain_lacks newline (omega arith) word are.1
joined_unbroken (word ∷ next ∷ words) are =
    All-append (λ b. (b == newline) ≡ false) word (space ∷ join_with_byte space (next ∷ words)) (plain_lacks newline (omega arith) word are.1)
    (All-cons (λ b. (b == newline) ≡ false) space (join_with_byte space (next ∷ words)) refl (joined_unbroken (next ∷ words) are.2))

-- ---- lines

-- words that make a command, in at most 147 bytes
record IsCommandLine (words : List (List ℕ)) : Type 0 where
  each : AreWords words
  short : length (join_with_byte space words) ≤ 147
  asks : is_ok (of_words words) ≡ true

abbrev EachCommands : List (List (List ℕ)) → Type 0
EachCommands [] = Unit {0}
EachCommands (words ∷ lines) = IsCommandLine words × EachCommands lines

lines_joined : (lines : List (List (List ℕ))) → EachCommands lines → lines_of (flat_map line_text lines) ≡ map (join_with_byte space) lines
lines_joined [] each = refl
lines_joined (words ∷ lines) each =
    ap lines_of (append_assoc (join_with_byte space words) (newline ∷ []) (flat_map line_text lines))
    ∙ lines_of-front (join_with_byte space words) (flat_map line_text lines) (joined_unbroken words each.0.each)
    ∙ ap (λ ls. join_with_byte space words ∷ ls) (lines_joined lines each.1)

call_is_ok : (words : List (List ℕ)) → IsCommandLine words → IsOk (call_of (join_with_byte space words))
call_is_ok words line =
    let text = join_with_byte space words in
    let short = line.short in
    let within : nat_lt line_limit (length text) ≡ false = grind (arith, nat_tests) in
    ap (λ t. is_ok (cond t (Err BadLine) (of_words (line_words text)))) within
    ∙ ap (λ ws. is_ok (of_words ws)) (words_joined words line.each)
    ∙ line.asks

calls_are_ok : (lines : List (List (List ℕ))) → EachCommands lines → All (λ call. IsOk call) (map call_of (map (join_with_byte space) lines))
calls_are_ok [] each = All-nil (λ call. IsOk call)
calls_are_ok (words ∷ lines) each =
    All-cons (λ call. IsOk call) (call_of (join_with_byte space words)) (map call_of (map (join_with_byte space) lines)) (call_is_ok words each.0) (calls_are_ok lines each.1)

calls_counted : (lines : List (List (List ℕ))) → length (map call_of (map (join_with_byte space) lines)) ≡ length lines
calls_counted [] = refl
calls_counted (words ∷ lines) = ap suc (calls_counted lines)

lines_are_short : (lines : List (List (List ℕ))) → EachCommands lines → length (flat_map line_text lines) ≤ 148 * length lines
lines_are_short [] each = omega arith
lines_are_short (words ∷ lines) each =
    let text = join_with_byte space words in
    let short = each.0.short in
    let later = lines_are_short lines each.1 in
    omega (arith, short, later, length-append (text ++ newline ∷ []) (flat_map line_text lines), length-append text (newline ∷ []))

-- ---- paths

record IsPathWord (most : ℕ) (word : List ℕ) : Type 0 where
  filled : 0 < length word
  plain : is_plain word ≡ true
  short : length word ≤ most
  path : is_ok (path_of word) ≡ true

-- the same as a test
abbrev passes : ℕ → List ℕ → Bool
passes most word = (nat_lt 0 (length word) && is_plain word) && (nat_le (length word) most && is_ok (path_of word))

path_word : (most : ℕ) (word : List ℕ) → passes most word ≡ true → IsPathWord most word
path_word most word pass =
    let halves = and_parts (nat_lt 0 (length word) && is_plain word) (nat_le (length word) most && is_ok (path_of word)) pass in
    let first = and_parts (nat_lt 0 (length word)) (is_plain word) halves.0 in
    let second = and_parts (nat_le (length word) most) (is_ok (path_of word)) halves.1 in
    record {
      filled = ltb-true 0 (length word) first.0;
      plain = first.1;
      short = leb-true (length word) most second.0;
      path = second.1;
    }

-- the numbers below n pass
abbrev all_below : (ℕ → Bool) → ℕ → Bool
all_below test zero = true
all_below test (suc n) = test n && all_below test n

pass_at : (test : ℕ → Bool) (n k : ℕ) → all_below test n ≡ true → k < n → test k ≡ true
pass_at test zero k all below = absurd (omega arith)
pass_at test (suc n) k all below =
    let parts = and_parts (test n) (all_below test n) all in
    elim (cases_lt k n) [
      | inl lower ↦ pass_at test n k parts.1 lower
      | inr top ↦ ap test (omega arith) ∙ parts.0
    ]

abbrev directory_at : ℕ → List ℕ
directory_at d = codes "/d" ++ decimal d

abbrev file_at : ℕ → ℕ → List ℕ
file_at d f = directory_at d ++ codes "/f" ++ decimal f

all_directories : all_below (λ d. passes 3 (directory_at d)) 4 ≡ true
unfolding digits
all_directories = refl

all_files : all_below (λ d. all_below (λ f. passes 7 (file_at d f)) 16) 4 ≡ true
unfolding digits
all_files = refl

directory_word : (x : ℕ) → IsPathWord 3 (directory_of x)
unfolding directory_of
directory_word x = path_word 3 (directory_at (x % 4)) (pass_at (λ d. passes 3 (directory_at d)) 4 (x % 4) all_directories (omega arith))

file_word : (x : ℕ) → IsPathWord 7 (file_of x)
unfolding file_of directory_of
file_word x =
    path_word 7 (file_at (x % 4) (x / 4 % 16))
    (pass_at (λ f. passes 7 (file_at (x % 4) f)) 16 (x / 4 % 16)
    (pass_at (λ d. all_below (λ f. passes 7 (file_at d f)) 16) 4 (x % 4) all_files (omega arith))
    (omega arith))

-- ---- numbers

record IsNumberWord (word : List ℕ) : Type 0 where
  filled : 0 < length word
  plain : is_plain word ≡ true
  number : is_some (number_of word) ≡ true

-- the digits of a number, none of them a space or a newline, spell it
record Spells (n : ℕ) (word : List ℕ) : Type 0 where
  plain : is_plain word ≡ true
  digits_alone : list_all is_decimal_digit word ≡ true
  value : decimal_value word ≡ n

digit_plain : (d : ℕ) → nat_lt space (48 + d) ≡ true
digit_plain d = lt-ltb space (48 + d) (omega arith)

digit_decimal : (d : ℕ) → d < 10 → is_decimal_digit (48 + d) ≡ true
digit_decimal d below = and_from (nat_le 48 (48 + d)) (nat_le (48 + d) 57) (le-leb 48 (48 + d) (omega arith)) (le-leb (48 + d) 57 (omega arith))

spells_digit : (n : ℕ) → n < 10 → Spells n ((48 + n) ∷ [])
spells_digit n below = record {
  plain = and_from (nat_lt space (48 + n)) true (digit_plain n) refl;
  digits_alone = and_from (is_decimal_digit (48 + n)) true (digit_decimal n below) refl;
  value = omega arith;
}

spells_more : (n : ℕ) (word : List ℕ) → 10 ≤ n → Spells (n / 10) word → Spells n (word ++ (48 + n % 10) ∷ [])
spells_more n word big spells =
    let last = 48 + n % 10 in
    let value = spells.value in
    record {
      plain = list_all-append (λ b. nat_lt space b) word (last ∷ [])
          ∙ and_from (is_plain word) (is_plain (last ∷ [])) spells.plain (and_from (nat_lt space last) true (digit_plain (n % 10)) refl);
      digits_alone = list_all-append is_decimal_digit word (last ∷ [])
          ∙ and_from (list_all is_decimal_digit word) (list_all is_decimal_digit (last ∷ [])) spells.digits_alone
          (and_from (is_decimal_digit last) true (digit_decimal (n % 10) (omega arith)) refl);
      value = fold_push (λ v b. 10 * v + (b - 48)) 0 word last ∙ omega (arith, value);
    }

decimal_spells : (n : ℕ) → n < 2 ^ 64 → Spells n (decimal n)
decimal_spells n small = decimal_by_steps Spells spells_digit spells_more n small

number_word : (n : ℕ) → n < 10000 → IsNumberWord (decimal n)
number_word n small =
    let spells = decimal_spells n (omega arith) in
    let word = decimal n in
    let filled = decimal_nonempty n (omega arith) in
    let short = length-decimal-le 4 n (omega arith) (omega arith) (omega arith) in
    let within : nat_lt (decimal_value word) (2 ^ 64) ≡ true = ap (λ v. nat_lt v (2 ^ 64)) spells.value ∙ lt-ltb n (2 ^ 64) (omega arith) in
    let long : (nat_le 1 (length word) && nat_le (length word) 20) ≡ true =
    and_from (nat_le 1 (length word)) (nat_le (length word) 20) (le-leb 1 (length word) (omega (arith, filled))) (le-leb (length word) 20 (omega (arith, short))) in
    let all : (nat_le 1 (length word) && nat_le (length word) 20 && list_all is_decimal_digit word && nat_lt (decimal_value word) (2 ^ 64)) ≡ true =
    and_from (nat_le 1 (length word) && nat_le (length word) 20 && list_all is_decimal_digit word) (nat_lt (decimal_value word) (2 ^ 64))
    (and_from (nat_le 1 (length word) && nat_le (length word) 20) (list_all is_decimal_digit word) long spells.digits_alone) within in
    record {
      filled = filled;
      plain = spells.plain;
      number = ap (λ t. is_some (cond t (Some (decimal_value word)) None)) all;
    }

-- ---- bytes

hex_plain : (k : ℕ) → k < 16 → nat_lt space (slice_index lower_digits k) ≡ true
hex_plain k below = pass_at (λ k. nat_lt space (slice_index lower_digits k)) 16 k refl below

digits_plain : (count byte : ℕ) → byte < 256 → is_plain (encode_lower (replicate count byte)) ≡ true
unfolding encode_with
digits_plain zero byte is = refl
digits_plain (suc count) byte is =
    let high = slice_index lower_digits (byte / 16) in
    let low = slice_index lower_digits (byte % 16) in
    let later = encode_lower (replicate count byte) in
    and_from (nat_lt space high) (is_plain (low ∷ later)) (hex_plain (byte / 16) (omega arith))
    (and_from (nat_lt space low) (is_plain later) (hex_plain (byte % 16) (omega arith)) (digits_plain count byte is))

equal_bytes : (count byte : ℕ) → byte < 256 → IsBytes (replicate count byte)
equal_bytes zero byte is k = omega arith
equal_bytes (suc count) byte is zero = is
equal_bytes (suc count) byte is (suc k) = equal_bytes count byte is k

some_bytes : (none : Bool) (bytes : Option (List ℕ)) → is_some bytes ≡ true → is_some (cond none (Some []) bytes) ≡ true
some_bytes true bytes some = refl
some_bytes false bytes some = some

bytes_read : (bytes : List ℕ) → IsBytes bytes → is_some (bytes_of_hex (encode_lower bytes)) ≡ true
bytes_read bytes are =
    some_bytes (is_word (codes "-") (encode_lower bytes)) (if_decoded (decode_of (encode_lower bytes)))
    (ap (λ r. is_some (if_decoded r)) (decode_of-encode_lower bytes are))

-- ---- commands

on_path_ok : (make : Route → Command) (path : Result Route LineFault) → is_ok path ≡ true → is_ok (on_path make path) ≡ true
on_path_ok make (Ok path) ok = refl
on_path_ok make (Err fault) ok = cc ok

on_paths_ok : (make : Route → Route → Command) (from to : Result Route LineFault) → is_ok from ≡ true → is_ok to ≡ true → is_ok (on_paths make (both_paths from to)) ≡ true
on_paths_ok make (Ok from) (Ok to) ok other = refl
on_paths_ok make (Ok from) (Err fault) ok other = cc other
on_paths_ok make (Err fault) to ok other = cc ok

read_ok : {A : Type 0} (value : Option A) (line : A → Line) → is_some value ≡ true → ((v : A) → is_ok (line v) ≡ true) → is_ok (or_bad_line value line) ≡ true
read_ok (Some v) line some each = each v
read_ok None line some each = cc some

-- ---- how long words are together

length_two : (a b : List ℕ) → length (join_with_byte space (a ∷ b ∷ [])) ≡ length a + length b + 1
length_two a b = omega (arith, length-append a (space ∷ b))

length_three : (a b c : List ℕ) → length (join_with_byte space (a ∷ b ∷ c ∷ [])) ≡ length a + length b + length c + 2
length_three a b c = omega (arith, length-append a (space ∷ (b ++ (space ∷ c))), length-append b (space ∷ c))

length_four : (a b c d : List ℕ) → length (join_with_byte space (a ∷ b ∷ c ∷ d ∷ [])) ≡ length a + length b + length c + length d + 3
length_four a b c d =
    omega (arith, length-append a (space ∷ (b ++ (space ∷ (c ++ (space ∷ d))))), length-append b (space ∷ (c ++ (space ∷ d))), length-append c (space ∷ d))

-- ---- the lines of each kind

-- a verb
record IsVerb (verb : List ℕ) : Type 0 where
  filled : 0 < length verb
  plain : is_plain verb ≡ true
  short : length verb ≤ 8

on_one : (verb path : List ℕ) (most : ℕ) → IsVerb verb → most ≤ 7 → IsPathWord most path → is_ok (of_words (verb ∷ path ∷ [])) ≡ true → IsCommandLine (verb ∷ path ∷ [])
on_one verb path most is few one ok =
    let verb_short = is.short in
    let path_short = one.short in
    record {
      each = (is.filled, is.plain, (one.filled, one.plain, tt));
      short = omega (arith, verb_short, path_short, length_two verb path);
      asks = ok;
    }

on_two : (verb from to : List ℕ) (most : ℕ) → IsVerb verb → most ≤ 7 → IsPathWord most from → IsPathWord most to → is_ok (of_words (verb ∷ from ∷ to ∷ [])) ≡ true → IsCommandLine (verb ∷ from ∷ to ∷ [])
on_two verb from to most is few one other ok =
    let verb_short = is.short in
    let from_short = one.short in
    let to_short = other.short in
    record {
      each = (is.filled, is.plain, (one.filled, one.plain, (other.filled, other.plain, tt)));
      short = omega (arith, verb_short, from_short, to_short, length_three verb from to);
      asks = ok;
    }

verb_create : IsVerb (codes "create")
verb_create = record { filled = lit< tt; plain = refl; short = lit≤ tt }

verb_mkdir : IsVerb (codes "mkdir")
verb_mkdir = record { filled = lit< tt; plain = refl; short = lit≤ tt }

verb_link : IsVerb (codes "link")
verb_link = record { filled = lit< tt; plain = refl; short = lit≤ tt }

verb_unlink : IsVerb (codes "unlink")
verb_unlink = record { filled = lit< tt; plain = refl; short = lit≤ tt }

verb_rmdir : IsVerb (codes "rmdir")
verb_rmdir = record { filled = lit< tt; plain = refl; short = lit≤ tt }

verb_rename : IsVerb (codes "rename")
verb_rename = record { filled = lit< tt; plain = refl; short = lit≤ tt }

mkdir_line : (x : ℕ) → IsCommandLine (codes "mkdir" ∷ directory_of x ∷ [])
mkdir_line x =
    let path = directory_word x in
    on_one (codes "mkdir") (directory_of x) 3 verb_mkdir (lit≤ tt) path (on_path_ok (λ p. command.Mkdir p) (path_of (directory_of x)) path.path)

write_line : (d : Draw) → IsCommandLine (words_of Write d)
unfolding words_of bytes_of
write_line d =
    let path = file_word d.b in
    let offset = number_word (d.c % 8192) (omega arith) in
    let count = 1 + d.a / 12 % 64 in
    let byte = d.c / 8192 % 256 in
    let bytes = replicate count byte in
    let is_byte : byte < 256 = omega arith in
    let written = length-encode_with lower_digits bytes in
    let counted = length-replicate count byte in
    let path_short = path.short in
    let offset_short = offset_digits d.c in
    record {
      each = (lit< tt, refl, (path.filled, path.plain, (offset.filled, offset.plain, (omega (arith, written, counted), digits_plain count byte is_byte, tt))));
      short = omega (arith, path_short, offset_short, written, counted, length_four (codes "write") (file_of d.b) (decimal (d.c % 8192)) (encode_lower bytes));
      asks = read_ok (number_of (decimal (d.c % 8192)))
          (λ offset. or_bad_line (bytes_of_hex (encode_lower bytes)) (λ bytes. on_path (λ p. command.Write p offset bytes) (path_of (file_of d.b)))) offset.number
          (λ offset. read_ok (bytes_of_hex (encode_lower bytes)) (λ bytes. on_path (λ p. command.Write p offset bytes) (path_of (file_of d.b)))
          (bytes_read bytes (equal_bytes count byte is_byte)) (λ bytes. on_path_ok (λ p. command.Write p offset bytes) (path_of (file_of d.b)) path.path));
    }

truncate_line : (d : Draw) → IsCommandLine (words_of Truncate d)
unfolding words_of
truncate_line d =
    let path = file_word d.b in
    let size = number_word (d.c % 10000) (omega arith) in
    let path_short = path.short in
    let size_short = size_digits d.c in
    record {
      each = (lit< tt, refl, (path.filled, path.plain, (size.filled, size.plain, tt)));
      short = omega (arith, path_short, size_short, length_three (codes "truncate") (file_of d.b) (decimal (d.c % 10000)));
      asks = read_ok (number_of (decimal (d.c % 10000))) (λ size. on_path (λ p. command.Truncate p size) (path_of (file_of d.b))) size.number
          (λ size. on_path_ok (λ p. command.Truncate p size) (path_of (file_of d.b)) path.path);
    }

read_line : (d : Draw) → IsCommandLine (words_of Read d)
unfolding words_of
read_line d =
    let path = file_word d.b in
    let path_short = path.short in
    record {
      each = (lit< tt, refl, (path.filled, path.plain, (lit< tt, refl, (lit< tt, refl, tt))));
      short = omega (arith, path_short, length_four (codes "read") (file_of d.b) (codes "0") (codes "64"));
      asks = on_path_ok (λ p. command.Read p 0 64) (path_of (file_of d.b)) path.path;
    }

line_of_kind : (kind : Kind) (d : Draw) → IsCommandLine (words_of kind d)
unfolding words_of
line_of_kind Create d =
    let path = file_word d.b in
    on_one (codes "create") (file_of d.b) 7 verb_create (lit≤ tt) path (on_path_ok (λ p. command.Create p) (path_of (file_of d.b)) path.path)
line_of_kind Mkdir d = mkdir_line d.b
line_of_kind Link d =
    let from = file_word d.b in
    let to = file_word d.c in
    on_two (codes "link") (file_of d.b) (file_of d.c) 7 verb_link (lit≤ tt) from to
    (on_paths_ok (λ p q. command.Link p q) (path_of (file_of d.b)) (path_of (file_of d.c)) from.path to.path)
line_of_kind Unlink d =
    let path = file_word d.b in
    on_one (codes "unlink") (file_of d.b) 7 verb_unlink (lit≤ tt) path (on_path_ok (λ p. command.Unlink p) (path_of (file_of d.b)) path.path)
line_of_kind Rmdir d =
    let path = directory_word d.b in
    on_one (codes "rmdir") (directory_of d.b) 3 verb_rmdir (lit≤ tt) path (on_path_ok (λ p. command.Rmdir p) (path_of (directory_of d.b)) path.path)
line_of_kind RenameFile d =
    let from = file_word d.b in
    let to = file_word d.c in
    on_two (codes "rename") (file_of d.b) (file_of d.c) 7 verb_rename (lit≤ tt) from to
    (on_paths_ok (λ p q. command.Rename p q) (path_of (file_of d.b)) (path_of (file_of d.c)) from.path to.path)
line_of_kind RenameDirectory d =
    let from = directory_word d.b in
    let to = directory_word d.c in
    on_two (codes "rename") (directory_of d.b) (directory_of d.c) 3 verb_rename (lit≤ tt) from to
    (on_paths_ok (λ p q. command.Rename p q) (path_of (directory_of d.b)) (path_of (directory_of d.c)) from.path to.path)
line_of_kind Write d = write_line d
line_of_kind Truncate d = truncate_line d
line_of_kind Read d = read_line d

-- ---- the script

each_drawn : (g : Lcg) (count : ℕ) → EachCommands (drawn_lines g count)
unfolding drawn_lines drawn_words
each_drawn g zero = tt
each_drawn g (suc count) = (line_of_kind (kind_of ((draw_of g).a % 12)) (draw_of g), each_drawn (behind_draw g) count)

drawn_counted : (g : Lcg) (count : ℕ) → length (drawn_lines g count) ≡ count
unfolding drawn_lines
drawn_counted g zero = refl
drawn_counted g (suc count) = ap suc (drawn_counted (behind_draw g) count)

each_command : (lines : List (List (List ℕ))) → EachCommands lines → EachCommands (first_lines ++ lines)
unfolding first_lines
each_command lines each = (mkdir_line 0, (mkdir_line 1, (mkdir_line 2, (mkdir_line 3, each))))

all_counted : (lines : List (List (List ℕ))) → length (first_lines ++ lines) ≡ length lines + 4
unfolding first_lines
all_counted lines = omega arith

pub work_law-holds : WorkLaw
unfolding work_script
work_law-holds seed count =
    let drawn = drawn_lines (generator_of seed) count in
    let lines = first_lines ++ drawn in
    let each = each_command drawn (each_drawn (generator_of seed) count) in
    let calls : calls_of (flat_map line_text lines) ≡ map call_of (map (join_with_byte space) lines) = ap (map call_of) (lines_joined lines each) in
    let counted : length lines ≡ count + 4 = all_counted drawn ∙ ap (λ n. n + 4) (drawn_counted (generator_of seed) count) in
    let bytes : length (flat_map line_text lines) ≤ 148 * (count + 4) = let short = lines_are_short lines each in omega (arith, short, counted) in
    record {
      lines = ap length calls ∙ calls_counted lines ∙ counted;
      commands = subst (λ (cs : List Line). All (λ call. IsOk call) cs) (sym calls) (calls_are_ok lines each);
      bytes = bytes;
      within = λ few. omega (arith, bytes, few);
    }
