-- A `write` whose bytes are the rest of its line: they aren't looked through for a space, since a space is no digit.
use Rattle.std.proofs.Common.{◌≡◌, ◌⊎◌, inl, inr, ℕ, suc, ◌+◌, ◌<◌, true, false, true≢false, ◌==◌, cond, Option, Some, None, Ok, Err, List, [], ◌∷◌, ◌++◌, length, take, drop, slice_index, refl, sym, ap, subst, ◌∙◌, arith}
use Rattle.std.specs.Prelude.{codes, filter}
use Rattle.std.proofs.lemmas.List.Splits.{slice_split-cons_yes}
use Rattle.std.proofs.lemmas.List.{length-take-le, length-drop, get_or-drop, get_or-append-add}
use Rattle.hex.specs.Hex.{decode_of, is_hex_digit}
use Rattle.hex.proofs.HexLemmas.{decode_of-ok}
use Rattle.std.proofs.lemmas.Bool.{eqb-true, cases_lt}
use Rattle.std.proofs.lemmas.Slice.Eq.{bytes_eq-Decides}
use Rattle.tree_model.specs.PathText.{path_of}
use Rattle.tree_model.specs.Run.{Line}
use Rattle.tree_model.specs.declared.command.Command.TheVariants.{Write}
use Rattle.tree_model.specs.declared.reply.LineFault.TheVariants.{BadLine}
use Rattle.script.specs.Places.{Lacks, BreaksAt}
use Rattle.script.specs.Lines.{space, is_space, is_filled, is_word, words_of, number_of, if_decoded, bytes_of_hex, or_bad_line, on_path, write_of, read_of, of_words}
use Rattle.script.proofs.PlaceLaws.{lacks, lacks_append, breaks_at, breaks_behind}
use Rattle.script.proofs.WordLaws.{words_at, words_none, place_above}

-- a byte has a first place, or none
first_of : (byte : ℕ) (bytes : List ℕ) → Lacks byte bytes ⊎ ((place : ℕ) × BreaksAt byte bytes place)
first_of byte [] = inl (lacks byte [] (λ k below. absurd (omega (arith, below))))
first_of byte (b ∷ rest) =
    elim (b == byte) as (λ t. (b == byte) ≡ t → Lacks byte (b ∷ rest) ⊎ ((place : ℕ) × BreaksAt byte (b ∷ rest) place)) [
      | true ↦ λ is. inr (0, breaks_at byte (b ∷ rest) 0 (omega arith) (eqb-true b byte is) (λ k below. absurd (omega (arith, below))))
      | false ↦ λ is.
          let front : Lacks byte (b ∷ []) = lacks byte (b ∷ []) (λ k below. let first : 0 ≡ k = omega (arith, below) in subst (λ (i : ℕ). (slice_index (b ∷ []) i == byte) ≡ false) first is) in
          elim (first_of byte rest) [
            | inl none ↦ inl (lacks_append byte (b ∷ []) rest front none)
            | inr found ↦ inr (1 + found.0, breaks_behind byte (b ∷ rest) 1 found.0 (omega arith) front found.1)
          ]
    ] refl

-- the byte at which a text breaks
at_break : (byte : ℕ) (text : List ℕ) (place : ℕ) → BreaksAt byte text place → slice_index text place ≡ byte
at_break byte text place found =
    let within = found.within in
    let front = take place text in
    let long : length front + 0 ≡ place = omega (arith, length-take-le place text (omega (arith, within))) in
    ap (λ (l : List ℕ). slice_index l place) found.split
    ∙ subst (λ (k : ℕ). slice_index (front ++ byte ∷ drop (place + 1) text) k ≡ byte) long (get_or-append-add front (byte ∷ drop (place + 1) text) 0 0)

-- the last byte of a text is no space
abbrev pub EndsInWord : List ℕ → Type 0
EndsInWord text = (k : ℕ) → k + 1 ≡ length text → is_space (slice_index text k) ≡ false

-- such a text has a word
some_word : (text : List ℕ) → 0 < length text → EndsInWord text → (word : List ℕ) × (more : List (List ℕ)) × (words_of text ≡ word ∷ more)
some_word [] some last = absurd (omega (arith, some))
some_word (b ∷ rest) some last =
    elim (is_space b) as (λ t. is_space b ≡ t → (word : List ℕ) × (more : List (List ℕ)) × (words_of (b ∷ rest) ≡ word ∷ more)) [
      | true ↦ λ is.
          let some_rest : 0 < length rest = elim (cases_lt 0 (length rest)) [
            | inl more ↦ more
            | inr none ↦ absurd (true≢false (sym is ∙ last 0 (omega (arith, none))))
          ] in
          let found = some_word rest some_rest (λ k at. last (suc k) (omega (arith, at))) in
          (found.0, found.1, ap (filter is_filled) (slice_split-cons_yes is_space b rest is) ∙ found.2)
      | false ↦ λ is. elim (first_of space (b ∷ rest)) [
        | inl none ↦ (b ∷ rest, [], words_none (b ∷ rest) none some)
        | inr found ↦ (take found.0 (b ∷ rest), words_of (drop (found.0 + 1) (b ∷ rest)), words_at (b ∷ rest) found.0 found.1 (place_above (b ∷ rest) found.0 found.1 (λ some. is)))
      ]
    ] refl

-- a space among them spells no bytes
spells_none : (text : List ℕ) (place : ℕ) → BreaksAt space text place → 0 < place → bytes_of_hex text ≡ None
spells_none text place found above =
    let within = found.within in
    let at : slice_index text place ≡ 32 = at_break space text place found in
    let other : is_word (codes "-") text ≡ false = elim (is_word (codes "-") text) as (λ t. is_word (codes "-") text ≡ t → t ≡ false) [
      | true ↦ λ is. let one : length text ≡ 1 = ap length ((bytes_eq-Decides text (codes "-")).0 is) in absurd (omega (arith, one, within, above))
      | false ↦ λ is. refl
    ] refl in
    let none : if_decoded (decode_of text) ≡ None = elim (decode_of text) as (λ r. decode_of text ≡ r → if_decoded r ≡ None) [
      | Ok bytes ↦ λ is.
          let digit : is_hex_digit (slice_index text place) ≡ true = (decode_of-ok text bytes is).1 place 0 within in
          let not : is_hex_digit (slice_index text place) ≡ false = ap is_hex_digit at in
          absurd (true≢false (sym digit ∙ not))
      | Err fault ↦ λ is. refl
    ] refl in
    ap (λ t. cond t (Some []) (if_decoded (decode_of text))) other ∙ none

bad_bytes : (path offset text : List ℕ) → bytes_of_hex text ≡ None → write_of path offset text ≡ Err BadLine
bad_bytes path offset text none =
    let line : ℕ → Option (List ℕ) → Line = λ offset found. or_bad_line found (λ bytes. on_path (λ p. Write p offset bytes) (path_of path)) in
    elim (number_of offset) as (λ (o : Option ℕ). or_bad_line o (λ offset. line offset (bytes_of_hex text)) ≡ Err BadLine) [
      | Some value ↦ ap (line value) none
      | None ↦ refl
    ]

pub write_of_text : (verb path offset text : List ℕ) → is_word (codes "write") verb ≡ true → 0 < length text → is_space (slice_index text 0) ≡ false → EndsInWord text
    → of_words (verb ∷ path ∷ offset ∷ words_of text) ≡ write_of path offset text
write_of_text verb path offset text is some first last = elim (first_of space text) [
  | inl none ↦ ap (λ (words : List (List ℕ)). of_words (verb ∷ path ∷ offset ∷ words)) (words_none text none some)
      ∙ ap (λ t. cond t (write_of path offset text) (cond (is_word (codes "read") verb) (read_of path offset text) (Err BadLine))) is
  | inr found ↦
      let place = found.0 in
      let within = found.1.within in
      let above = place_above text place found.1 (λ some. first) in
      let behind = length-drop (place + 1) text in
      let more : 0 < length (drop (place + 1) text) = elim (cases_lt (place + 1) (length text)) [
        | inl low ↦ omega (arith, behind, low)
        | inr high ↦ absurd (true≢false (sym (ap is_space (at_break space text place found.1)) ∙ last place (omega (arith, high, within))))
      ] in
      let rest = some_word (drop (place + 1) text) more (λ k at. ap is_space (get_or-drop (place + 1) text k 0) ∙ last (place + 1 + k) (omega (arith, at, behind, within))) in
      ap (λ (words : List (List ℕ)). of_words (verb ∷ path ∷ offset ∷ words)) (words_at text place found.1 above ∙ ap (λ words. take place text ∷ words) rest.2)
      ∙ sym (bad_bytes path offset text (spells_none text place found.1 above))
]
