-- The places of a listing, one step after another.
use Rattle.std.proofs.Common.{◌≡◌, inl, inr, ℕ, zero, suc, ◌+◌, ◌-◌, ◌<◌, ◌≤◌, true, false, List, [], ◌∷◌, ◌++◌, length, map, take, drop, Some, refl, sym, ap, subst, ◌∙◌, arith, append-nil, append_assoc}
use Rattle.std.specs.Prelude.{flat_map, slice_get, slice_index_or}
use Rattle.std.proofs.lemmas.Bool.{cases_Bool}
use Rattle.std.proofs.lemmas.List.{drop_more, drop_all, length-map, length-append}
use Rattle.std.proofs.lemmas.List.Concat.{flat_map-append}
use Rattle.std.proofs.lemmas.Option.{get_or_from_slice_get}
use Rattle.tree_model.specs.PathText.{Route}
use Rattle.tree_model.specs.Tree.{Tree, IsTree, root_id, id_at, is_directory}
use Rattle.tree_model.specs.Step.{names_in}
use Rattle.image_reading.specs.Counts.{IsIn, IsDistinct}
use Rattle.image_counts.proofs.Distinct.{fewer, run, length-run, in_run}
use Rattle.engine.specs.declared.places.Place.{Place}
use Rattle.engine.specs.Places.{name_passed, route_through, IsPlaceAt, IsWayFrom, AreAllPassed, ArePassed, IsWay, LeadsTo, entries_from, entries_at, entries_after, StepsOnto, StepsUp, StepsInto, lines_text, AreBefore, place_at}
use Rattle.script.specs.Texts.{entry_words, line_text}
use Rattle.engine.proofs.Subtrees.{entries_of_root, entries_of_file, entries_of_directory}

-- ---- one place more

all_passed_one : (places : List Place) (place : Place) → AreAllPassed places → 1 ≤ place.next → AreAllPassed (places ++ place ∷ [])
all_passed_one [] place passed one = (one, tt)
all_passed_one (first ∷ places) place passed one = (passed.0, all_passed_one places place passed.1 one)

passed_one : (places : List Place) (place : Place) → AreAllPassed places → ArePassed (places ++ place ∷ [])
passed_one [] place passed = tt
passed_one (first ∷ []) place passed = (passed.0, tt)
passed_one (first ∷ second ∷ places) place passed = (passed.0, passed_one (second ∷ places) place passed.1)

all_passed_but_one : (places : List Place) (place : Place) → ArePassed (places ++ place ∷ []) → AreAllPassed places
all_passed_but_one [] place passed = tt
all_passed_but_one (first ∷ []) place passed = (passed.0, tt)
all_passed_but_one (first ∷ second ∷ places) place passed = (passed.0, all_passed_but_one (second ∷ places) place passed.1)

passed_too : (places : List Place) → AreAllPassed places → ArePassed places
passed_too [] passed = tt
passed_too (first ∷ []) passed = tt
passed_too (first ∷ second ∷ places) passed = (passed.0, passed_too (second ∷ places) passed.1)

pub passed_at : (places : List Place) (k : ℕ) (place : Place) → AreAllPassed places → slice_get places k ≡ Some place → 1 ≤ place.next
passed_at [] k place passed is = absurd (cc is)
passed_at (first ∷ places) zero place passed is = let same : first ≡ place = cc is in subst (λ (p : Place). 1 ≤ p.next) same passed.0
passed_at (first ∷ places) (suc k) place passed is = passed_at places k place passed.1 is

module _ (tree : Tree) where
  through_one : (places : List Place) (place : Place) → route_through tree (places ++ place ∷ []) ≡ route_through tree places ++ name_passed tree place ∷ []
  through_one [] place = refl
  through_one (first ∷ places) place = ap (λ (p : Route). name_passed tree first ∷ p) (through_one places place)

  -- the path through a place and those behind it
  further : (path : Route) (first : Place) (places : List Place) → (path ++ name_passed tree first ∷ []) ++ route_through tree places ≡ path ++ route_through tree (first ∷ places)
  further path first places = append_assoc path (name_passed tree first ∷ []) (route_through tree places)

  way_one : (path : Route) (places : List Place) (place : Place) → IsWayFrom tree path places → IsPlaceAt tree (path ++ route_through tree places) place → IsWayFrom tree path (places ++ place ∷ [])
  way_one path [] place way at = (subst (λ (p : Route). IsPlaceAt tree p place) (append-nil path) at, tt)
  way_one path (first ∷ places) place way at =
      (way.0, way_one (path ++ name_passed tree first ∷ []) places place way.1 (subst (λ (p : Route). IsPlaceAt tree p place) (sym (further path first places)) at))

  pub way_but_one : (path : Route) (places : List Place) (place : Place) → IsWayFrom tree path (places ++ place ∷ []) → IsWayFrom tree path places × IsPlaceAt tree (path ++ route_through tree places) place
  way_but_one path [] place way = (tt, subst (λ (p : Route). IsPlaceAt tree p place) (sym (append-nil path)) way.0)
  way_but_one path (first ∷ places) place way =
      let rest = way_but_one (path ++ name_passed tree first ∷ []) places place way.1 in
      ((way.0, rest.0), subst (λ (p : Route). IsPlaceAt tree p place) (further path first places) rest.1)

  -- each place is in the directory of the path through those before it
  pub way_at : (path : Route) (places : List Place) (k : ℕ) (place : Place) → IsWayFrom tree path places → slice_get places k ≡ Some place → IsPlaceAt tree (path ++ route_through tree (take k places)) place
  way_at path [] k place way is = absurd (cc is)
  way_at path (first ∷ places) zero place way is =
      let same : first ≡ place = cc is in
      subst (λ (p : Route). IsPlaceAt tree p place) (sym (append-nil path)) (subst (λ (p : Place). IsPlaceAt tree path p) same way.0)
  way_at path (first ∷ places) (suc k) place way is =
      subst (λ (p : Route). IsPlaceAt tree p place) (further path first (take k places)) (way_at (path ++ name_passed tree first ∷ []) places k place way.1 is)

  after_one : (path : Route) (places : List Place) (place : Place)
      → entries_after tree path (places ++ place ∷ []) ≡ entries_at tree (path ++ route_through tree places) place ++ entries_after tree path places
  after_one path [] place = sym (append-nil (entries_at tree path place)) ∙ ap (λ (p : Route). entries_at tree p place ++ []) (sym (append-nil path))
  after_one path (first ∷ places) place =
      let next = path ++ name_passed tree first ∷ [] in
      ap (λ es. es ++ entries_at tree path first) (after_one next places place)
      ∙ append_assoc (entries_at tree (next ++ route_through tree places) place) (entries_after tree next places) (entries_at tree path first)
      ∙ ap (λ (p : Route). entries_at tree p place ++ (entries_after tree next places ++ entries_at tree path first)) (further path first places)

  -- ---- the next name of the deepest place, or up from it

  pub steps_up : (front : List Place) (place : Place) → IsWay tree (front ++ place ∷ []) → length (names_in tree place.directory) ≤ place.next → StepsUp tree (front ++ place ∷ []) front
  steps_up front place is over = record {
    way = record { way = (way_but_one [] front place is.way).0; passed = passed_too front (all_passed_but_one front place is.passed) };
    entries =
        after_one [] front place
        ∙ ap (λ names. flat_map (λ name. entries_from tree (route_through tree front ++ name ∷ [])) names ++ entries_after tree [] front) (drop_all place.next (names_in tree place.directory) over);
  }

  -- the name that was passed where one is
  passed_name : (directory k : ℕ) (name : List ℕ) → slice_get (names_in tree directory) k ≡ Some name → name_passed tree (place_at directory (k + 1)) ≡ name
  passed_name directory k name is =
      let before : (k + 1) - 1 ≡ k = omega arith in
      ap (λ (n : ℕ). slice_index_or (names_in tree directory) n []) before ∙ get_or_from_slice_get (names_in tree directory) k name [] is

  pub steps_onto : (front : List Place) (directory k inode : ℕ) (name : List ℕ) → IsWay tree (front ++ place_at directory k ∷ []) → k < length (names_in tree directory) → slice_get (names_in tree directory) k ≡ Some name
      → id_at tree (route_through tree front ++ name ∷ []) ≡ Some inode → StepsOnto tree (front ++ place_at directory k ∷ []) (front ++ place_at directory (k + 1) ∷ []) inode
  steps_onto front directory k inode name is within name_is named =
      let path = route_through tree front in
      let names = names_in tree directory in
      let (way, at) = way_but_one [] front (place_at directory k) is.way in
      let one = passed_name directory k name name_is in
      let through : route_through tree (front ++ place_at directory (k + 1) ∷ []) ≡ path ++ name ∷ [] = through_one front (place_at directory (k + 1)) ∙ ap (λ (n : List ℕ). path ++ n ∷ []) one in
      let first : drop k names ≡ name ∷ drop (k + 1) names = drop_more names k [] within ∙ ap (λ (n : List ℕ). n ∷ drop (k + 1) names) (get_or_from_slice_get names k name [] name_is) in
      record {
        leads = record {
          way = way_one [] front (place_at directory (k + 1)) way (record { named = at.named; directory = at.directory; within = omega (arith, within) });
          passed = all_passed_one front (place_at directory (k + 1)) (all_passed_but_one front (place_at directory k) is.passed) (omega arith);
          named = ap (id_at tree) through ∙ named;
        };
        entries =
            after_one [] front (place_at directory k)
            ∙ ap (λ (ns : List (List ℕ)). flat_map (λ name. entries_from tree (path ++ name ∷ [])) ns ++ entries_after tree [] front) first
            ∙ append_assoc (entries_from tree (path ++ name ∷ [])) (entries_at tree path (place_at directory (k + 1))) (entries_after tree [] front)
            ∙ (λ i. entries_from tree (sym through i) ++ sym (after_one [] front (place_at directory (k + 1))) i);
      }

  -- ---- into the node of the path

  module _ (is_tree : IsTree tree) where
    pub leads_to_root : LeadsTo tree [] root_id
    leads_to_root = record { way = tt; passed = tt; named = is_tree.root }

    pub steps_by : (places : List Place) (inode : ℕ) → LeadsTo tree places inode → is_directory tree inode ≡ false → StepsInto tree places places inode
    steps_by places inode leads file = record {
      way = record { way = leads.way; passed = passed_too places leads.passed };
      entries = ap (λ es. es ++ entries_after tree [] places) (entries_of_file tree is_tree (route_through tree places) inode leads.named file);
    }

    pub place_there : (places : List Place) (inode : ℕ) → LeadsTo tree places inode → is_directory tree inode ≡ true → IsWayFrom tree [] (places ++ place_at inode 0 ∷ [])
    place_there places inode leads directory = way_one [] places (place_at inode 0) leads.way (record { named = leads.named; directory = directory; within = omega arith })

    pub steps_into : (places : List Place) (inode : ℕ) → LeadsTo tree places inode → is_directory tree inode ≡ true → StepsInto tree places (places ++ place_at inode 0 ∷ []) inode
    steps_into places inode leads directory = record {
      way = record { way = place_there places inode leads directory; passed = passed_one places (place_at inode 0) leads.passed };
      entries =
          ap (λ es. es ++ entries_after tree [] places) (entries_of_directory tree is_tree (route_through tree places) inode leads.named directory)
          ∙ ap (λ es. (route_through tree places, inode) ∷ es) (sym (after_one [] places (place_at inode 0)));
    }

    -- the entry of the path comes first
    pub first_entry : (places : List Place) (inode : ℕ) → LeadsTo tree places inode → (rest : List (Route × ℕ)) × (entries_from tree (route_through tree places) ≡ (route_through tree places, inode) ∷ rest)
    first_entry places inode leads = elim (cases_Bool (is_directory tree inode)) [
      | inl directory ↦ (_, entries_of_directory tree is_tree (route_through tree places) inode leads.named directory)
      | inr file ↦ ([], entries_of_file tree is_tree (route_through tree places) inode leads.named file)
    ]

    -- ---- how many places there are

    abbrev directories_of : List Place → List ℕ
    directories_of places = map (λ place. place.directory) places

    -- the directories of places have paths that are at least so long
    has_path : (path : Route) (places : List Place) (d : ℕ) → IsWayFrom tree path places → IsIn d (directories_of places) → (q : Route) × (id_at tree q ≡ Some d) × (is_directory tree d ≡ true) × (length path ≤ length q)
    has_path path [] d way among = absurd among
    has_path path (first ∷ places) d way among = elim among [
      | inl is ↦ (path, way.0.named ∙ ap Some (sym is), ap (is_directory tree) is ∙ way.0.directory, omega arith)
      | inr later ↦
          let (q, named, directory, long) = has_path (path ++ name_passed tree first ∷ []) places d way.1 later in
          (q, named, directory, omega (arith, long, length-append path (name_passed tree first ∷ [])))
    ]

    distinct_places : (path : Route) (places : List Place) → IsWayFrom tree path places → IsDistinct (directories_of places)
    distinct_places path [] way = tt
    distinct_places path (first ∷ places) way = (
      (λ among.
          let next = path ++ name_passed tree first ∷ [] in
          let (q, named, directory, long) = has_path next places first.directory way.1 among in
          let same : length path ≡ length q = ap length (is_tree.one_path first.directory directory path q way.0.named named) in
          let longer = length-append path (name_passed tree first ∷ []) in
          let clash : suc (length path) ≤ length path = omega (arith, same, long, longer) in
          let none : ⊥ = omega (arith, clash) in none),
      distinct_places (path ++ name_passed tree first ∷ []) places way.1,
    )

    -- no way has more places than there are numbers for directories
    pub few_places : (n : ℕ) (places : List Place) → ((d : ℕ) → is_directory tree d ≡ true → (1 ≤ d) × (d ≤ n)) → IsWayFrom tree [] places → length places ≤ n
    few_places n places numbered way =
        let few = fewer (directories_of places) (run 1 n) (distinct_places [] places way)
        (λ d among.
        let (q, named, directory, long) = has_path [] places d way among in
        let within = numbered d directory in
        in_run d 1 n within.0 (omega (arith, within.1))) in
        omega (arith, few, length-run 1 n, length-map places (λ (place : Place). place.directory))

    -- ---- what was written so far

    pub before_first : (places : List Place) → StepsInto tree [] places root_id → AreBefore tree (([], root_id) ∷ []) places
    before_first places steps = record {
      way = steps.way;
      whole = sym (entries_of_root tree is_tree) ∙ sym (append-nil (entries_from tree [])) ∙ steps.entries;
    }

  pub before_up : (entries : List (Route × ℕ)) (old new : List Place) → AreBefore tree entries old → StepsUp tree old new → AreBefore tree entries new
  before_up entries old new before up = record { way = up.way; whole = before.whole ∙ ap (λ es. entries ++ es) up.entries }

  pub before_one : (entries : List (Route × ℕ)) (old middle new : List Place) (inode : ℕ) → AreBefore tree entries old → StepsOnto tree old middle inode → StepsInto tree middle new inode
      → AreBefore tree (entries ++ (route_through tree middle, inode) ∷ []) new
  before_one entries old middle new inode before onto into = record {
    way = into.way;
    whole =
        before.whole ∙ ap (λ es. entries ++ es) (onto.entries ∙ into.entries)
        ∙ sym (append_assoc entries ((route_through tree middle, inode) ∷ []) (entries_after tree [] new));
  }

  abbrev line_of : Route × ℕ → List ℕ
  line_of e = line_text (entry_words tree e)

  pub lines_one : (entries : List (Route × ℕ)) (e : Route × ℕ) → lines_text tree (entries ++ e ∷ []) ≡ lines_text tree entries ++ line_of e
  lines_one entries e = flat_map-append line_of entries (e ∷ []) ∙ ap (λ (t : List ℕ). lines_text tree entries ++ t) (append-nil (line_of e))

  -- the lines to the next one, and the rest
  pub lines_split : (entries : List (Route × ℕ)) (old middle : List Place) (inode : ℕ) → IsTree tree → AreBefore tree entries old → StepsOnto tree old middle inode
      → (rest : List ℕ) × (lines_text tree tree.names.entries ≡ (lines_text tree entries ++ line_of (route_through tree middle, inode)) ++ rest)
  lines_split entries old middle inode is_tree before onto =
      let e : Route × ℕ = (route_through tree middle, inode) in
      let (below, first) = first_entry is_tree middle inode onto.leads in
      let rest = below ++ entries_after tree [] middle in
      let whole : tree.names.entries ≡ (entries ++ e ∷ []) ++ rest =
      before.whole ∙ ap (λ es. entries ++ es) (onto.entries ∙ ap (λ es. es ++ entries_after tree [] middle) first)
      ∙ sym (append_assoc entries (e ∷ []) rest) in
      (lines_text tree rest, ap (lines_text tree) whole ∙ flat_map-append line_of (entries ++ e ∷ []) rest ∙ ap (λ (t : List ℕ). t ++ lines_text tree rest) (lines_one entries e))

  -- and after the first
  pub root_split : (is_tree : IsTree tree) → (rest : List ℕ) × (lines_text tree tree.names.entries ≡ line_of ([], root_id) ++ rest)
  root_split is_tree =
      let (below, first) = first_entry is_tree [] root_id (leads_to_root is_tree) in
      (lines_text tree below, ap (lines_text tree) (sym (entries_of_root tree is_tree) ∙ first))
