-- The line that lists a directory, as it is written piece by piece.
use Rattle.std.proofs.Common.{◌≡◌, ℕ, ◌+◌, List, [], ◌∷◌, ◌++◌, length, take, drop, codes, decimal, Some, sym, ap, ◌∙◌}
use Rattle.std.specs.Prelude.{slice_get}
use Rattle.std.proofs.lemmas.List.{take_more, take-append-drop}
use Rattle.std.proofs.lemmas.List.Concat.{flat_map-append}
use Rattle.std.proofs.lemmas.List.{append-nil}
use Rattle.std.proofs.lemmas.Option.{slice_get_within, get_or_from_slice_get}
use Rattle.tree_model.specs.Step.{Listed}
use Rattle.script.specs.Lines.{newline}
use Rattle.script.specs.Texts.{answer_text}
use Rattle.script.proofs.TextLaws.{answer_text-listed}
use Rattle.engine.specs.Listing.{entry_text, entries_text}

-- ---- one name more

take_one_more : {A : Type 0} (xs : List A) (k : ℕ) (x : A) → slice_get xs k ≡ Some x → take (k + 1) xs ≡ take k xs ++ x ∷ []
take_one_more xs k x is = take_more xs k x (slice_get_within xs k x is) ∙ ap (λ y. take k xs ++ y ∷ []) (get_or_from_slice_get xs k x x is)

pub entries_more : (names : List (List ℕ)) (k : ℕ) (name : List ℕ) → slice_get names k ≡ Some name → entries_text (take (k + 1) names) ≡ entries_text (take k names) ++ entry_text name
entries_more names k name is =
    ap entries_text (take_one_more names k name is)
    ∙ flat_map-append entry_text (take k names) (name ∷ []) ∙ ap (λ t. entries_text (take k names) ++ t) (append-nil (entry_text name))

-- the names to the next one, and the rest
pub entries_split : (names : List (List ℕ)) (k : ℕ) (name : List ℕ) → slice_get names k ≡ Some name → entries_text names ≡ (entries_text (take k names) ++ entry_text name) ++ entries_text (drop (k + 1) names)
entries_split names k name is =
    ap entries_text (sym (take-append-drop (k + 1) names)) ∙ flat_map-append entry_text (take (k + 1) names) (drop (k + 1) names)
    ∙ ap (λ t. t ++ entries_text (drop (k + 1) names)) (entries_more names k name is)

-- ---- the whole line

-- the number, the names, the end
pub listing_text : (directory : ℕ) (names : List (List ℕ)) (count : ℕ) → count ≡ length names
    → answer_text (Listed directory names) ≡ ((codes "ok " ++ decimal count) ++ entries_text names) ++ newline ∷ []
listing_text directory names count is =
    answer_text-listed directory names
    ∙ ap (λ n. ((codes "ok " ++ decimal n) ++ entries_text names) ++ newline ∷ []) (sym is)
