-- A page of a directory that is given back, and a node that goes with its pages.
use Rattle.std.proofs.Common.{◌≡◌, ◌≢◌, ◌↔◌, inl, inr, ℕ, ◌-◌, ◌≤◌, Bool, true, false, List, [], ◌∷◌, ◌++◌, Option, Some, None, refl, sym, ap, subst, ◌∙◌, arith}
use Rattle.std.specs.Prelude.{Contains, slice_get, slice_set}
use Rattle.std.proofs.lemmas.Bool.{cases_eq}
use Rattle.layout.specs.Geometry.{inodes_of}
use Rattle.image_reading.specs.Counts.{IsIn, IsDistinct}
use Rattle.image_reading.specs.Reading.{HasBytes}
use Rattle.image_counts.proofs.Distinct.{in_back}
use Rattle.volatile_index.specs.Index.{NodeView, pages_of}
use Rattle.volume.specs.Volume.{VolumeView}
use Rattle.volume.specs.Beside.{KnowsBeside}
use Rattle.volume.specs.Entered.{pages_of_option, with_given, LeavesPageOf, LeavesInodeIf}
use Rattle.volume.proofs.PageLists.{in_contained, contained_in}
use Rattle.entry_steps.proofs.Lists.{not_none}
use Rattle.knowing_laws.specs.Knowing.{AreListedAt, AreGiven, pages_with, inodes_with, pages_given, GivenKnownLaw}
use Rattle.knowing_laws.proofs.Cut.{Loses, had_none, loses_both, LosesAt, loses_at, LosesPages, known_lost}

-- ---- a list without one of its pages

in_less : (front back : List ℕ) (page j : ℕ) → IsIn j (front ++ back) → IsIn j (front ++ page ∷ back)
in_less [] back page j among = inr among
in_less (first ∷ front) back page j (inl same) = inl same
in_less (first ∷ front) back page j (inr later) = inr (in_less front back page j later)

still_in : (front back : List ℕ) (page j : ℕ) → IsIn j (front ++ page ∷ back) → ¬ IsIn j (page ∷ []) → IsIn j (front ++ back)
still_in [] back page j (inl same) out = absurd (out (inl same))
still_in [] back page j (inr later) out = later
still_in (first ∷ front) back page j (inl same) out = inl same
still_in (first ∷ front) back page j (inr later) out = inr (still_in front back page j later out)

less_once : (front back : List ℕ) (page : ℕ) → IsDistinct (front ++ page ∷ back) → IsDistinct (front ++ back)
less_once [] back page once = once.1
less_once (first ∷ front) back page once = ((λ among. once.0 (in_less front back page first among)), less_once front back page once.1)

page_out : (front back : List ℕ) (page : ℕ) → IsDistinct (front ++ page ∷ back) → ¬ IsIn page (front ++ back)
page_out [] back page once among = once.0 among
page_out (first ∷ front) back page once (inl same) = once.0 (subst (λ (k : ℕ). IsIn k (front ++ page ∷ back)) same (in_back page front (page ∷ back) (inl refl)))
page_out (first ∷ front) back page once (inr later) = page_out front back page once.1 later

loses_one : (front back : List ℕ) (page : ℕ) → IsDistinct (front ++ page ∷ back) → Loses (page ∷ []) (front ++ page ∷ back) (front ++ back)
loses_one front back page once = record {
  once = less_once front back page once;
  was = λ j among. (in_less front back page j among, (λ one. elim one [ inl same ↦ page_out front back page once (subst (λ (k : ℕ). IsIn k (front ++ back)) same among) | inr none ↦ none ]));
  stays = still_in front back page;
}

loses_all : (list : List ℕ) → Loses list list []
loses_all list = record { once = tt; was = λ j none. absurd none; stays = λ j among out. absurd (out among) }

-- ---- numbers that are given one after another

abbrev places_with : Bool → ℕ → List ℕ
places_with true i = (i - 1) ∷ []
places_with false i = []

given_both : (free : List Bool) (first second : List ℕ) → with_given (with_given free first) second ≡ with_given free (first ++ second)
given_both free [] second = refl
given_both free (number ∷ first) second = given_both (slice_set free number true) first second

placed : (goes : Bool) (i : ℕ) → 1 ≤ i → (x : ℕ) → 1 ≤ x → IsIn (x - 1) (places_with goes i) ↔ IsIn x (inodes_with goes i)
placed true i least x some = (
  (λ among. elim among [ inl same ↦ inl (omega (arith, same, some, least)) | inr none ↦ inr none ]),
  (λ among. elim among [ inl same ↦ inl (ap (λ (n : ℕ). n - 1) same) | inr none ↦ inr none ]),
)
placed false i least x some = ((λ none. none), (λ none. none))

-- ---- the page of a directory

page_rest : (old given : VolumeView) (d : ℕ) (page : Option ℕ) → LeavesPageOf old given d page → given ≡ record old { index = given.index; data_pages = with_given old.data_pages (pages_of_option page) }
page_rest old given d None same = subst (λ (v : VolumeView). v ≡ record old { index = v.index }) (sym same) refl
page_rest old given d (Some page) leaves = leaves.rest

page_lost : (old given : VolumeView) (d : ℕ) (page : Option ℕ) → LeavesPageOf old given d page → 1 ≤ d → d ≤ inodes_of old.size → ((x : ℕ) → 1 ≤ x → x ≤ inodes_of old.size → IsDistinct (pages_of old.index x))
    → AreListedAt old (pages_of_option page) d → LosesAt old.size old.index given.index d (pages_of_option page)
page_lost old given d None same least most once listed = subst (λ (v : VolumeView). LosesAt old.size old.index v.index d []) (sym same) (record {
  inodes = refl;
  entries = λ x. refl;
  others = λ x other. refl;
  lists = λ x some upto. had_none [] (pages_of old.index x) (once x some upto) (λ j none. absurd none);
})
page_lost old given d (Some page) leaves least most once listed =
    let drops = leaves.index.node in
    let was = drops.old_is in
    let here : Loses (page ∷ []) (pages_of old.index d) (pages_of given.index d) =
    subst (λ (l : List ℕ). Loses (page ∷ []) (pages_of old.index d) l) (sym drops.new_is.pages)
    (subst (λ (l : List ℕ). Loses (page ∷ []) l (drops.front ++ drops.back)) (sym was) (loses_one drops.front drops.back page (subst IsDistinct was (once d least most)))) in
    loses_at old.size old.index given.index d (page ∷ []) leaves.index.elsewhere drops.new_is.entries once listed here

-- ---- a node that goes

node_rest : (given new : VolumeView) (goes : Bool) (i : ℕ) → LeavesInodeIf goes given new i
    → new ≡ record given { index = new.index; inodes = with_given given.inodes (places_with goes i); data_pages = with_given given.data_pages (pages_with goes given i) }
node_rest given new true i leaves = leaves.rest
node_rest given new false i same = subst (λ (v : VolumeView). v ≡ record given { index = v.index }) (sym same) refl

node_lost : (P : ℕ) (given new : VolumeView) (goes : Bool) (i : ℕ) → LeavesInodeIf goes given new i → ((x : ℕ) → 1 ≤ x → x ≤ inodes_of P → IsDistinct (pages_of given.index x))
    → ((x j : ℕ) → IsIn j (pages_with goes given i) → 1 ≤ x → x ≤ inodes_of P → x ≢ i → ¬ Contains (pages_of given.index x) j) → LosesAt P given.index new.index i (pages_with goes given i)
node_lost P given new true i leaves once listed =
    loses_at P given.index new.index i (pages_of given.index i) leaves.index.elsewhere leaves.index.node.entries once listed
    (subst (λ (l : List ℕ). Loses (pages_of given.index i) (pages_of given.index i) l) (sym leaves.index.node.pages) (loses_all (pages_of given.index i)))
node_lost P given new false i same once listed = subst (λ (v : VolumeView). LosesAt P given.index v.index i []) (sym same) (record {
  inodes = refl;
  entries = λ x. refl;
  others = λ x other. refl;
  lists = λ x some upto. had_none [] (pages_of given.index x) (once x some upto) (λ j none. absurd none);
})

-- what a list still has stands where it stood
node_places : (given new : VolumeView) (goes : Bool) (i : ℕ) → LeavesInodeIf goes given new i → (x k j : ℕ) → slice_get (pages_of new.index x) k ≡ Some j → slice_get (pages_of given.index x) k ≡ Some j
node_places given new true i leaves x k j there = elim (cases_eq x i) [
  | inl same ↦ absurd (not_none j (ap (λ (l : List ℕ). slice_get l k) (sym leaves.index.node.pages) ∙ subst (λ (y : ℕ). slice_get (pages_of new.index y) k ≡ Some j) same there))
  | inr other ↦ ap (λ (node : NodeView). slice_get node.pages k) (sym (leaves.index.elsewhere.others x other)) ∙ there
]
node_places given new false i same x k j there = ap (λ (v : VolumeView). slice_get (pages_of v.index x) k) (sym same) ∙ there

-- ---- both

same_pages : (old given : VolumeView) (d i : ℕ) (goes : Bool) → (goes ≡ true → d ≢ i) → ((x : ℕ) → x ≢ d → pages_of given.index x ≡ pages_of old.index x) → pages_with goes given i ≡ pages_with goes old i
same_pages old given d i true apart others = others i (λ same. apart refl (sym same))
same_pages old given d i false apart others = refl

both_rest : (old given new : VolumeView) (d i : ℕ) (page : Option ℕ) (goes : Bool) → LeavesPageOf old given d page → LeavesInodeIf goes given new i → pages_with goes given i ≡ pages_with goes old i
    → new ≡ record old { index = new.index; inodes = with_given old.inodes (places_with goes i); data_pages = with_given old.data_pages (pages_given old page goes i) }
both_rest old given new d i page goes leaves_page leaves_node same =
    node_rest given new goes i leaves_node
    ∙ ap (λ (v : VolumeView). record v { index = new.index; inodes = with_given v.inodes (places_with goes i); data_pages = with_given v.data_pages (pages_with goes given i) }) (page_rest old given d page leaves_page)
    ∙ ap (λ (numbers : List Bool). record old { index = new.index; inodes = with_given old.inodes (places_with goes i); data_pages = numbers })
    (given_both old.data_pages (pages_of_option page) (pages_with goes given i) ∙ ap (λ (l : List ℕ). with_given old.data_pages (pages_of_option page ++ l)) same)

both_lost : (old given new : VolumeView) (I J : List ℕ) (d i : ℕ) (page : Option ℕ) (goes : Bool) → ((x : ℕ) → 1 ≤ x → x ≤ inodes_of old.size → IsDistinct (pages_of old.index x)) → AreGiven old I J d i page goes
    → LosesAt old.size old.index given.index d (pages_of_option page) → LeavesInodeIf goes given new i → pages_with goes given i ≡ pages_with goes old i
    → LosesPages old.size J old.index new.index (pages_given old page goes i)
both_lost old given new I J d i page goes once are early leaves same =
    let late = node_lost old.size given new goes i leaves (λ x least most. (early.lists x least most).once) (λ x j among least most other there.
    are.pages_listed x j (subst (λ (l : List ℕ). IsIn j l) same among) least most other
    (in_contained j (pages_of old.index x) ((early.lists x least most).was j (contained_in j (pages_of given.index x) there)).0)) in
    record {
      inodes = late.inodes ∙ early.inodes;
      entries = λ x. late.entries x ∙ early.entries x;
      lists = λ x least most.
          loses_both (pages_of_option page) (pages_with goes old i) (pages_of old.index x) (pages_of given.index x) (pages_of new.index x) (early.lists x least most)
          (subst (λ (l : List ℕ). Loses l (pages_of given.index x) (pages_of new.index x)) same (late.lists x least most));
      places = λ x k j bytes there.
          ap (λ (l : List ℕ). slice_get l k) (sym (early.others x (λ here. are.directory (subst (HasBytes J) here bytes)))) ∙ node_places given new goes i leaves x k j there;
    }

pub given_known_law : GivenKnownLaw
given_known_law old given new I J before after d i page goes knows long d_least d_most least most stay keeps are leaves_page leaves_node =
    let once = knows.nodes.once in
    let early = page_lost old given d page leaves_page d_least d_most once are.page_listed in
    let same = same_pages old given d i goes are.apart early.others in
    subst (λ (v : VolumeView). KnowsBeside v J after) (sym (both_rest old given new d i page goes leaves_page leaves_node same))
    (known_lost old new.index I J before after (inodes_with goes i) (places_with goes i) (pages_given old page goes i) knows long stay keeps are.free (placed goes i least)
    (both_lost old given new I J d i page goes once are early leaves_node same))
