-- The lines of a tree's listing in pieces.
use Rattle.std.proofs.Common.{◌≡◌, ℕ, ◌/◌, ◌%◌, ◌≤◌, refl, arith, Bool, true, false, cond, slice_index, List, [], ◌∷◌, ◌++◌, length, codes, decimal, sym, ap, ◌∙◌, append_assoc}
use Rattle.tree_model.specs.PathText.{Route}
use Rattle.tree_model.specs.Tree.{Tree, is_directory, bytes_of, link_count, name_count}
use Rattle.tree_model.specs.Step.{status_of}
use Rattle.hex.specs.Hex.{encode_with, lower_digits}
use Rattle.script.specs.Entries.{digits_text, entry_front}
use Rattle.script.specs.Lines.{newline, space}
use Rattle.script.specs.Texts.{entry_words, line_text, path_text, bytes_text}

abbrev front_of : Bool → ℕ → ℕ → ℕ → ℕ → List ℕ
front_of dir id links names size = entry_front (record { dir = dir; inode = id; links = links; amount = cond dir names size })

directory_pieces : (a b c d e : List ℕ)
    → (a ++ (space ∷ (b ++ (space ∷ (c ++ (space ∷ (d ++ (space ∷ e)))))))) ++ newline ∷ [] ≡ (((a ++ (space ∷ (b ++ (space ∷ (c ++ (space ∷ d)))))) ++ space ∷ []) ++ e) ++ newline ∷ []
directory_pieces a b c d e = simp append_assoc

file_pieces : (a b c d e f : List ℕ)
    → (a ++ (space ∷ (b ++ (space ∷ (c ++ (space ∷ (d ++ (space ∷ (e ++ (space ∷ f)))))))))) ++ newline ∷ [] ≡ ((((a ++ (space ∷ (b ++ (space ∷ (c ++ (space ∷ d)))))) ++ space ∷ []) ++ e) ++ space ∷ f) ++ newline ∷ []
file_pieces a b c d e f =
    directory_pieces a b c d (e ++ space ∷ f)
    ∙ ap (λ t. t ++ newline ∷ []) (sym (append_assoc ((a ++ (space ∷ (b ++ (space ∷ (c ++ (space ∷ d)))))) ++ space ∷ []) e (space ∷ f)))

module _ (T : Tree) (path : Route) (id : ℕ) where
  abbrev links : ℕ
  links = link_count T id

  abbrev names : ℕ
  names = name_count T id

  abbrev bytes : List ℕ
  bytes = bytes_of T id

  abbrev words_of_kind : Bool → List (List ℕ)
  words_of_kind dir =
      cond dir (codes "d" ∷ decimal id ∷ decimal links ∷ decimal names ∷ path_text path ∷ [])
      (codes "f" ∷ decimal id ∷ decimal links ∷ decimal (length bytes) ∷ path_text path ∷ bytes_text bytes ∷ [])

  -- a directory's line: the words before its path, and the path
  pub line_of_directory : is_directory T id ≡ true → line_text (entry_words T (path, id)) ≡ (entry_front (status_of T id) ++ path_text path) ++ newline ∷ []
  line_of_directory is =
      ap (λ b. line_text (words_of_kind b)) is
      ∙ directory_pieces (codes "d") (decimal id) (decimal links) (decimal names) (path_text path)
      ∙ ap (λ b. (front_of b id links names (length bytes) ++ path_text path) ++ newline ∷ []) (sym is)

  -- a file's: its bytes too
  pub line_of_file : is_directory T id ≡ false → line_text (entry_words T (path, id)) ≡ ((entry_front (status_of T id) ++ path_text path) ++ space ∷ bytes_text bytes) ++ newline ∷ []
  line_of_file is =
      ap (λ b. line_text (words_of_kind b)) is
      ∙ file_pieces (codes "f") (decimal id) (decimal links) (decimal (length bytes)) (path_text path) (bytes_text bytes)
      ∙ ap (λ b. ((front_of b id links names (length bytes) ++ path_text path) ++ space ∷ bytes_text bytes) ++ newline ∷ []) (sym is)

-- ---- a file's bytes in pieces

pub digits_none : digits_text [] ≡ []
unfolding encode_with
digits_none = refl

pub digits_more : (xs ys : List ℕ) → digits_text (xs ++ ys) ≡ digits_text xs ++ digits_text ys
unfolding encode_with
digits_more [] ys = refl
digits_more (x ∷ xs) ys = ap (λ (t : List ℕ). slice_index lower_digits (x / 16) ∷ slice_index lower_digits (x % 16) ∷ t) (digits_more xs ys)

-- of at least one byte
pub bytes_in_digits : (bytes : List ℕ) → 1 ≤ length bytes → bytes_text bytes ≡ digits_text bytes
bytes_in_digits [] some = absurd (omega (arith, some))
bytes_in_digits (b ∷ bytes) some = refl
