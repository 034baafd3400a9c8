-- The text of a path, name by name, and the bytes of a file, piece by piece.
use Rattle.std.proofs.Common.{◌≡◌, inl, inr, ℕ, Bool, cond, ◌+◌, ◌-◌, ◌*◌, ◌<◌, ◌≤◌, List, [], ◌∷◌, ◌++◌, length, take, drop, Some, refl, sym, ap, ◌∙◌, arith, append-nil}
use Rattle.std.specs.Prelude.{flat_map, slice_get, slice_index_or}
use Rattle.std.proofs.lemmas.Bool.{cases_Bool}
use Rattle.std.proofs.lemmas.List.{take_more, take-append-drop}
use Rattle.std.proofs.lemmas.List.Concat.{flat_map-append}
use Rattle.std.proofs.lemmas.Option.{slice_get-get_or, slice_get_within, get_or_from_slice_get}
use Rattle.std.proofs.Math.Seq.{take-add}
use Rattle.script.specs.Entries.{below_text, digits_text, entry_front}
use Rattle.script.specs.Lines.{newline, space}
use Rattle.script.specs.Texts.{bytes_text, entry_words, line_text, path_text}
use Rattle.script.proofs.EntryTexts.{digits_more, line_of_directory, line_of_file}
use Rattle.tree_model.specs.PathText.{Route}
use Rattle.tree_model.specs.Tree.{Tree, bytes_of, is_directory}
use Rattle.tree_model.specs.Step.{names_in, status_of}
use Rattle.tree_model.specs.declared.reply.Stat.{Stat}
use Rattle.engine.specs.declared.places.Place.{Place}
use Rattle.engine.specs.Places.{contents_text, name_passed, route_through}

pub element : {X : Type 0} (xs : List X) (k : ℕ) (d : X) → k < length xs → slice_get xs k ≡ Some (slice_index_or xs k d)
element xs k d within = slice_get-get_or xs k d within

module _ (tree : Tree) where
  through_all : (first second : List Place) → route_through tree (first ++ second) ≡ route_through tree first ++ route_through tree second
  through_all [] second = refl
  through_all (place ∷ first) second = ap (λ (p : Route). name_passed tree place ∷ p) (through_all first second)

  module _ (places : List Place) (k : ℕ) (place : Place) (name : List ℕ) (got : slice_get places k ≡ Some place)
      (named : slice_get (names_in tree place.directory) (place.next - 1) ≡ Some name) where
    name_is : name_passed tree place ≡ name
    name_is = get_or_from_slice_get (names_in tree place.directory) (place.next - 1) name [] named

    one_more : take (k + 1) places ≡ take k places ++ place ∷ []
    one_more = take_more places k place (slice_get_within places k place got) ∙ ap (λ (p : Place). take k places ++ p ∷ []) (get_or_from_slice_get places k place place got)

    pub path_more : flat_map below_text (route_through tree (take (k + 1) places)) ≡ flat_map below_text (route_through tree (take k places)) ++ below_text name
    path_more =
        ap (λ (ps : List Place). flat_map below_text (route_through tree ps)) one_more
        ∙ ap (flat_map below_text) (through_all (take k places) (place ∷ []))
        ∙ flat_map-append below_text (route_through tree (take k places)) (name_passed tree place ∷ [])
        ∙ ap (λ (t : List ℕ). flat_map below_text (route_through tree (take k places)) ++ t) (append-nil (below_text (name_passed tree place)) ∙ ap below_text name_is)

    -- the path to a name of it, and the rest
    pub path_split : (rest : List ℕ) × (path_text (route_through tree places) ≡ (flat_map below_text (route_through tree (take k places)) ++ below_text name) ++ rest)
    path_split = (
      flat_map below_text (route_through tree (drop (k + 1) places)),
      path_whole_of places k place got
          ∙ ap (λ (ps : List Place). flat_map below_text (route_through tree ps)) (sym (take-append-drop (k + 1) places))
          ∙ ap (flat_map below_text) (through_all (take (k + 1) places) (drop (k + 1) places))
          ∙ flat_map-append below_text (route_through tree (take (k + 1) places)) (route_through tree (drop (k + 1) places))
          ∙ ap (λ (t : List ℕ). t ++ flat_map below_text (route_through tree (drop (k + 1) places))) path_more,
    )
      where
        path_whole_of : (ps : List Place) (j : ℕ) (p : Place) → slice_get ps j ≡ Some p → path_text (route_through tree ps) ≡ flat_map below_text (route_through tree ps)
        path_whole_of [] j p is = absurd (cc is)
        path_whole_of (first ∷ ps) j p is = refl

  -- of at least one name
  pub path_whole : (places : List Place) → 1 ≤ length places → path_text (route_through tree places) ≡ flat_map below_text (route_through tree places)
  path_whole [] some = absurd (omega (arith, some))
  path_whole (first ∷ places) some = refl

-- ---- pieces of 512 bytes

-- the bytes to the end of a piece
pub pieces_more : (bytes : List ℕ) (k : ℕ) → digits_text (take ((k + 1) * 512) bytes) ≡ digits_text (take (k * 512) bytes) ++ digits_text (take 512 (drop (k * 512) bytes))
pieces_more bytes k =
    let long : (k + 1) * 512 ≡ k * 512 + 512 = omega arith in
    ap (λ (n : ℕ). digits_text (take n bytes)) long ∙ ap digits_text (take-add (k * 512) 512 bytes) ∙ digits_more (take (k * 512) bytes) (take 512 (drop (k * 512) bytes))

-- and the rest
pub pieces_split : (bytes : List ℕ) (k : ℕ)
    → digits_text bytes ≡ (digits_text (take (k * 512) bytes) ++ digits_text (take 512 (drop (k * 512) bytes))) ++ digits_text (drop ((k + 1) * 512) bytes)
pieces_split bytes k =
    ap digits_text (sym (take-append-drop ((k + 1) * 512) bytes)) ∙ digits_more (take ((k + 1) * 512) bytes) (drop ((k + 1) * 512) bytes)
    ∙ ap (λ (t : List ℕ). t ++ digits_text (drop ((k + 1) * 512) bytes)) (pieces_more bytes k)

-- ---- the line of a node

pub line_pieces : (tree : Tree) (path : Route) (id : ℕ) (stat : Stat) → stat ≡ status_of tree id
    → line_text (entry_words tree (path, id)) ≡ ((entry_front stat ++ path_text path) ++ contents_text tree id) ++ newline ∷ []
line_pieces tree path id stat is = elim (cases_Bool (is_directory tree id)) [
  | inl directory ↦
      line_of_directory tree path id directory
      ∙ ap (λ (t : List ℕ). t ++ newline ∷ []) (sym (append-nil (entry_front (status_of tree id) ++ path_text path)))
      ∙ (λ i. ((entry_front (sym is i) ++ path_text path) ++ contents_of (sym directory i)) ++ newline ∷ [])
  | inr file ↦
      line_of_file tree path id file
      ∙ (λ i. ((entry_front (sym is i) ++ path_text path) ++ contents_of (sym file i)) ++ newline ∷ [])
]
  where
    contents_of : Bool → List ℕ
    contents_of dir = cond dir [] (space ∷ bytes_text (bytes_of tree id))
