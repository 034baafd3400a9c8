-- That the text of an answer is one line.
use Rattle.std.proofs.Common.{◌≡◌, ℕ, zero, suc, ◌+◌, ◌/◌, ◌%◌, Bool, true, false, true≢false, ◌==◌, cond, List, [], ◌∷◌, ◌++◌, length, map, codes, decimal, slice_index, refl, sym, ap, ◌∙◌, inl, inr, arith}
use Rattle.std.specs.Prelude.{bytes_eq, not, nat_lt, if◌then◌else◌}
use Rattle.std.specs.Fmt.{digits, digit_glyph, digits_onto}
use Rattle.std.specs.List.{join_with_byte}
use Rattle.std.proofs.lemmas.Bool.{cases_Bool, ne_eqb}
use Rattle.std.proofs.lemmas.List.Elements.{All-nil, All-cons}
use Rattle.hex.specs.Hex.{encode_lower, encode_with, lower_digits}
use Rattle.percent_encoding.specs.Percent.{percent_encode_byte}
use Rattle.tree_model.specs.Step.{Answer, Done, Count, Status, Bytes, Listed, Space, Refused, Unread, Fault, Stopped}
use Rattle.tree_model.specs.declared.reply.LineFault.{LineFault}
use Rattle.tree_model.specs.declared.reply.LineFault.TheVariants.{BadLine, BadPath, NameTooLong}
use Rattle.tree_model.specs.declared.reply.Refusal.{Refusal}
use Rattle.tree_model.specs.declared.reply.Refusal.TheVariants.{NotFound, NotDir, Root, Exists, IsDir, NotEmpty, IntoItself, TooBig, NoInodes, NoPages, NoMemory}
use Rattle.script.specs.Lines.{newline, space, is_newline}
use Rattle.script.specs.Places.{Lacks}
use Rattle.script.specs.Texts.{answer_words, byte_text, name_text, bytes_text, stands_for_itself, refusal_text, fault_text}
use Rattle.script.specs.Answers.{begins_with, is_accepted, AnswerLaw}

-- ---- bytes without a newline

-- as a test, which literals pass by computing
abbrev pub is_clean : List ℕ → Bool
is_clean [] = true
is_clean (b ∷ bytes) = if is_newline b then false else is_clean bytes

head_clean : (newline_here : Bool) (rest : Bool) → cond newline_here false rest ≡ true → newline_here ≡ false
head_clean true rest clean = absurd (true≢false (sym clean))
head_clean false rest clean = refl

tail_clean : (newline_here : Bool) (rest : Bool) → cond newline_here false rest ≡ true → rest ≡ true
tail_clean true rest clean = absurd (true≢false (sym clean))
tail_clean false rest clean = clean

pub lacks_newline : (bytes : List ℕ) → is_clean bytes ≡ true → Lacks newline bytes
lacks_newline [] clean = All-nil (λ b. (b == newline) ≡ false)
lacks_newline (b ∷ bytes) clean =
    All-cons (λ x. (x == newline) ≡ false) b bytes (head_clean (is_newline b) (is_clean bytes) clean) (lacks_newline bytes (tail_clean (is_newline b) (is_clean bytes) clean))

clean_cons : (b : ℕ) (bytes : List ℕ) → is_newline b ≡ false → is_clean bytes ≡ true → is_clean (b ∷ bytes) ≡ true
clean_cons b bytes here rest = ap (λ t. cond t false (is_clean bytes)) here ∙ rest

clean_append : (front back : List ℕ) → is_clean front ≡ true → is_clean back ≡ true → is_clean (front ++ back) ≡ true
clean_append [] back first second = second
clean_append (b ∷ front) back first second =
    clean_cons b (front ++ back) (head_clean (is_newline b) (is_clean front) first) (clean_append front back (tail_clean (is_newline b) (is_clean front) first) second)

-- ---- numbers, bytes and names

glyph_clean : (upper : Bool) (d : ℕ) → is_newline (digit_glyph upper d) ≡ false
glyph_clean upper d = elim (cases_Bool (nat_lt d 10)) [
  | inl low ↦ rw low (ne_eqb (48 + d) 10 (omega arith))
  | inr high ↦ rw high (letter upper)
]
  where
    letter : (u : Bool) → is_newline (if u then 55 + d else 87 + d) ≡ false
    letter true = ne_eqb (55 + d) 10 (omega arith)
    letter false = ne_eqb (87 + d) 10 (omega arith)

digits_clean : (fuel n : ℕ) (behind : List ℕ) → is_clean behind ≡ true → is_clean (digits_onto fuel 10 false n behind) ≡ true
digits_clean zero n behind clean = clean
digits_clean (suc fuel) n behind clean =
    let more = clean_cons (digit_glyph false (n % 10)) behind (glyph_clean false (n % 10)) clean in
    elim (cases_Bool (n / 10 == 0)) [
      | inl last ↦ rw last more
      | inr later ↦ rw later (digits_clean fuel (n / 10) (digit_glyph false (n % 10) ∷ behind) more)
    ]

decimal_clean : (n : ℕ) → is_clean (decimal n) ≡ true
unfolding digits
decimal_clean n = digits_clean 64 n [] refl

hex_clean : (d : ℕ) → is_newline (slice_index lower_digits d) ≡ false
hex_clean d = search_digit lower_digits refl d
  where
    search_digit : (table : List ℕ) → is_clean table ≡ true → (k : ℕ) → is_newline (slice_index table k) ≡ false
    search_digit [] clean k = refl
    search_digit (b ∷ table) clean zero = head_clean (is_newline b) (is_clean table) clean
    search_digit (b ∷ table) clean (suc k) = search_digit table (tail_clean (is_newline b) (is_clean table) clean) k

encode_clean : (bytes : List ℕ) → is_clean (encode_lower bytes) ≡ true
unfolding encode_with
encode_clean [] = refl
encode_clean (b ∷ bytes) =
    clean_cons (slice_index lower_digits (b / 16)) (slice_index lower_digits (b % 16) ∷ encode_lower bytes) (hex_clean (b / 16))
    (clean_cons (slice_index lower_digits (b % 16)) (encode_lower bytes) (hex_clean (b % 16)) (encode_clean bytes))

bytes_clean : (bytes : List ℕ) → is_clean (bytes_text bytes) ≡ true
bytes_clean [] = refl
bytes_clean (b ∷ bytes) = encode_clean (b ∷ bytes)

escape_clean : (b : ℕ) → is_clean (percent_encode_byte b) ≡ true
unfolding percent_encode_byte
escape_clean b =
    clean_cons (digit_glyph true (b / 16 % 16)) (digit_glyph true (b % 16) ∷ []) (glyph_clean true (b / 16 % 16))
    (clean_cons (digit_glyph true (b % 16)) [] (glyph_clean true (b % 16)) refl)

plain_clean : (b : ℕ) → stands_for_itself b ≡ true → is_newline b ≡ false
plain_clean b plain = ne_eqb b 10 (λ same. true≢false (sym plain ∙ ap stands_for_itself same))

byte_clean : (b : ℕ) → is_clean (byte_text b) ≡ true
byte_clean b = elim (cases_Bool (stands_for_itself b)) [
  | inl plain ↦ rw plain (clean_cons b [] (plain_clean b plain) refl)
  | inr escaped ↦ rw escaped (escape_clean b)
]

name_clean : (name : List ℕ) → is_clean (name_text name) ≡ true
name_clean [] = refl
name_clean (b ∷ name) = clean_append (byte_text b) (name_text name) (byte_clean b) (name_clean name)

-- ---- words with a space between each two

abbrev AreClean : List (List ℕ) → Type 0
AreClean [] = Unit {0}
AreClean (word ∷ words) = (is_clean word ≡ true) × AreClean words

join_clean : (words : List (List ℕ)) → AreClean words → is_clean (join_with_byte space words) ≡ true
join_clean [] clean = refl
join_clean (word ∷ []) clean = clean.0
join_clean (word ∷ next ∷ words) clean = clean_append word (space ∷ join_with_byte space (next ∷ words)) clean.0 (join_clean (next ∷ words) clean.1)

names_clean : (names : List (List ℕ)) → AreClean (map name_text names)
names_clean [] = tt
names_clean (name ∷ names) = (name_clean name, names_clean names)

refusal_clean : (refusal : Refusal) → is_clean (refusal_text refusal) ≡ true
refusal_clean NotFound = refl
refusal_clean NotDir = refl
refusal_clean Root = refl
refusal_clean Exists = refl
refusal_clean IsDir = refl
refusal_clean NotEmpty = refl
refusal_clean IntoItself = refl
refusal_clean TooBig = refl
refusal_clean NoInodes = refl
refusal_clean NoPages = refl
refusal_clean NoMemory = refl

fault_clean : (fault : LineFault) → is_clean (fault_text fault) ≡ true
fault_clean BadLine = refl
fault_clean BadPath = refl
fault_clean NameTooLong = refl

kind_clean : (dir : Bool) → is_clean (if dir then codes "dir" else codes "file") ≡ true
kind_clean true = refl
kind_clean false = refl

amount_clean : (dir : Bool) → is_clean (if dir then codes "names" else codes "size") ≡ true
amount_clean true = refl
amount_clean false = refl

words_clean : (answer : Answer) → AreClean (answer_words answer)
words_clean Done = (refl, tt)
words_clean (Count n) = (refl, (decimal_clean n, tt))
words_clean (Status s) =
    (refl, (kind_clean s.dir, (refl, (decimal_clean s.inode, (refl, (decimal_clean s.links, (amount_clean s.dir, (decimal_clean s.amount, tt))))))))
words_clean (Bytes bytes) = (refl, (decimal_clean (length bytes), (bytes_clean bytes, tt)))
words_clean (Listed directory names) = (refl, (decimal_clean (length names), names_clean names))
words_clean (Space f) =
    (refl, (refl, (decimal_clean f.inodes, (decimal_clean f.inodes_all, (refl, (decimal_clean f.pages, (decimal_clean f.pages_all, tt)))))))
words_clean (Refused refusal) = (refl, (refusal_clean refusal, tt))
words_clean (Unread fault) = (refl, (fault_clean fault, tt))
words_clean Fault = (refl, (refl, tt))
words_clean Stopped = (refl, (refl, tt))

-- ---- how the line of an answer begins

-- without its newline
abbrev pub answer_line : Answer → List ℕ
answer_line answer = join_with_byte space (answer_words answer)

line_ok : (answer : Answer) → begins_with (codes "ok") (answer_line answer) ≡ is_accepted answer
line_ok Done = refl
line_ok (Count n) = refl
line_ok (Status s) = refl
line_ok (Bytes bytes) = refl
line_ok (Listed directory []) = refl
line_ok (Listed directory (name ∷ names)) = refl
line_ok (Space f) = refl
line_ok (Refused refusal) = refl
line_ok (Unread fault) = refl
line_ok Fault = refl
line_ok Stopped = refl

line_error : (answer : Answer) → begins_with (codes "error") (answer_line answer) ≡ not (is_accepted answer)
line_error Done = refl
line_error (Count n) = refl
line_error (Status s) = refl
line_error (Bytes bytes) = refl
line_error (Listed directory []) = refl
line_error (Listed directory (name ∷ names)) = refl
line_error (Space f) = refl
line_error (Refused refusal) = refl
line_error (Unread fault) = refl
line_error Fault = refl
line_error Stopped = refl

-- two lines that a test tells apart are not one
apart : (line other : List ℕ) → bytes_eq line other ≡ false → bytes_eq other other ≡ true → ¬ (line ≡ other)
apart line other differs same is = true≢false (sym same ∙ sym (ap (λ l. bytes_eq l other) is) ∙ differs)

abbrev no_memory_line : List ℕ
no_memory_line = codes "error NoMemory"

alone : (answer : Answer) → answer_line answer ≡ no_memory_line → answer ≡ Refused NoMemory
alone Done is = absurd (apart (answer_line Done) no_memory_line refl refl is)
alone (Count n) is = absurd (apart (answer_line (Count n)) no_memory_line refl refl is)
alone (Status s) is = absurd (apart (answer_line (Status s)) no_memory_line refl refl is)
alone (Bytes bytes) is = absurd (apart (answer_line (Bytes bytes)) no_memory_line refl refl is)
alone (Listed directory names) is = absurd (apart (answer_line (Listed directory names)) no_memory_line refl refl is)
alone (Space f) is = absurd (apart (answer_line (Space f)) no_memory_line refl refl is)
alone (Refused NotFound) is = absurd (apart (answer_line (Refused NotFound)) no_memory_line refl refl is)
alone (Refused NotDir) is = absurd (apart (answer_line (Refused NotDir)) no_memory_line refl refl is)
alone (Refused Root) is = absurd (apart (answer_line (Refused Root)) no_memory_line refl refl is)
alone (Refused Exists) is = absurd (apart (answer_line (Refused Exists)) no_memory_line refl refl is)
alone (Refused IsDir) is = absurd (apart (answer_line (Refused IsDir)) no_memory_line refl refl is)
alone (Refused NotEmpty) is = absurd (apart (answer_line (Refused NotEmpty)) no_memory_line refl refl is)
alone (Refused IntoItself) is = absurd (apart (answer_line (Refused IntoItself)) no_memory_line refl refl is)
alone (Refused TooBig) is = absurd (apart (answer_line (Refused TooBig)) no_memory_line refl refl is)
alone (Refused NoInodes) is = absurd (apart (answer_line (Refused NoInodes)) no_memory_line refl refl is)
alone (Refused NoPages) is = absurd (apart (answer_line (Refused NoPages)) no_memory_line refl refl is)
alone (Refused NoMemory) is = refl
alone (Unread BadLine) is = absurd (apart (answer_line (Unread BadLine)) no_memory_line refl refl is)
alone (Unread BadPath) is = absurd (apart (answer_line (Unread BadPath)) no_memory_line refl refl is)
alone (Unread NameTooLong) is = absurd (apart (answer_line (Unread NameTooLong)) no_memory_line refl refl is)
alone Fault is = absurd (apart (answer_line Fault) no_memory_line refl refl is)
alone Stopped is = absurd (apart (answer_line Stopped) no_memory_line refl refl is)

pub is_answer_line : AnswerLaw
is_answer_line answer = record {
  line = answer_line answer;
  text = refl;
  unbroken = lacks_newline (answer_line answer) (join_clean (answer_words answer) (words_clean answer));
  ok = line_ok answer;
  error = line_error answer;
  no_memory = (alone answer, λ is. ap answer_line is);
}
