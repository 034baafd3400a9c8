-- The texts of answers in pieces.
use Rattle.std.specs.Prelude.{◌≡◌, ℕ, List, [], ◌∷◌, ◌++◌, length, map, codes, decimal, flat_map}
use Rattle.std.specs.List.{join_with_byte}
use Rattle.std.proofs.Common.{sym, ap, ◌∙◌, append_assoc}
use Rattle.std.proofs.lemmas.List.{append-nil}
use Rattle.tree_model.specs.Step.{Listed}
use Rattle.script.specs.Lines.{space, newline}
use Rattle.script.specs.Texts.{answer_text, name_text}

join-map : (word : List ℕ) (names : List (List ℕ)) → join_with_byte space (word ∷ map name_text names) ≡ word ++ flat_map (λ name. space ∷ name_text name) names
join-map word [] = sym (append-nil word)
join-map word (name ∷ names) = ap (λ rest. word ++ (space ∷ rest)) (join-map (name_text name) names)

-- the text of a listing: the number of names, then each name after a space
pub answer_text-listed : (directory : ℕ) (names : List (List ℕ))
    → answer_text (Listed directory names) ≡ (codes "ok " ++ decimal (length names)) ++ flat_map (λ name. space ∷ name_text name) names ++ newline ∷ []
answer_text-listed directory names =
    ap (λ text. (codes "ok " ++ text) ++ newline ∷ []) (join-map (decimal (length names)) names)
    ∙ ap (λ text. text ++ newline ∷ []) (sym (append_assoc (codes "ok ") (decimal (length names)) (flat_map (λ name. space ∷ name_text name) names)))
