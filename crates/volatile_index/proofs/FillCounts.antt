-- How many entries stand in a page, with one more and one less, and what the fills say of it.
use Rattle.std.proofs.Common.{◌≡◌, ◌≢◌, ℕ, zero, suc, ◌+◌, ◌≤◌, ◌/◌, ◌==◌, Bool, true, false, ◌&&◌, IsTrue, List, [], ◌∷◌, ◌++◌, length, take, drop, cond, Option, Some, None, slice_get, MatchOption, refl, sym, ap, subst, ◌∙◌, inl, inr, arith}
use Rattle.std.proofs.lemmas.Bool.{cases_eq, false≢true}
use Rattle.std.proofs.lemmas.Bool.Decides.{nat_tests}
use Rattle.std.proofs.lemmas.List.Sums.{sum_by-cons, count_by-le-length}
use Rattle.std.proofs.lemmas.Option.{get_or_from_slice_get, slice_get_within}
use Rattle.layout.specs.Geometry.{page_of_slot}
use Rattle.volatile_index.specs.declared.entry.Entry.{Entry}
use Rattle.volatile_index.specs.declared.fills.Fill.{Fill}
use Rattle.volatile_index.specs.Entries.{names_in, IsOpen, IsLeastOpen}
use Rattle.volatile_index.specs.Fills.{names_at, Raises, IsOpenIn, IsLeastOpenIn, AreCounted}

pub page_by : (slot : ℕ) → page_of_slot slot ≡ slot / 32
unfolding page_of_slot
page_by slot = refl

-- one where the entry stands in the page
abbrev pub tally : Entry → ℕ → ℕ
tally entry page = cond (page_of_slot entry.slot == page) 1 0

tally_here : (entry : Entry) (page : ℕ) → page_of_slot entry.slot ≡ page → tally entry page ≡ 1
tally_here entry page same = grind (arith, nat_tests, same)

tally_other : (entry : Entry) (page : ℕ) → page_of_slot entry.slot ≢ page → tally entry page ≡ 0
tally_other entry page differs = grind (arith, nat_tests, differs)

names_cons : (first : Entry) (entries : List Entry) (page : ℕ) → names_in (first ∷ entries) page ≡ tally first page + names_in entries page
names_cons first entries page = sum_by-cons (λ (entry : Entry). tally entry page) first entries

pub names_fit : (entries : List Entry) (page : ℕ) → names_in entries page ≤ length entries
names_fit entries page = count_by-le-length (λ (entry : Entry). page_of_slot entry.slot == page) entries

names_with : (entries : List Entry) (place : ℕ) (entry : Entry) (page : ℕ) → names_in (take place entries ++ entry ∷ drop place entries) page ≡ names_in entries page + tally entry page
names_with entries zero entry page = let is = names_cons entry entries page in omega (arith, is)
names_with [] (suc place) entry page = let is = names_cons entry [] page in omega (arith, is)
names_with (first ∷ entries) (suc place) entry page =
    let before = names_cons first entries page in
    let after = names_cons first (take place entries ++ entry ∷ drop place entries) page in
    let others = names_with entries place entry page in
    omega (arith, before, after, others)

names_without : (entries : List Entry) (place : ℕ) (entry : Entry) (page : ℕ) → slice_get entries place ≡ Some entry
    → names_in entries page ≡ names_in (take place entries ++ drop (suc place) entries) page + tally entry page
names_without [] place entry page there = absurd (let within = slice_get_within [] place entry there in omega (arith, within))
names_without (first ∷ entries) zero entry page there =
    let same : first ≡ entry = get_or_from_slice_get (first ∷ entries) 0 entry entry there in
    let is = names_cons first entries page in
    let alike = ap (λ (e : Entry). tally e page) same in
    omega (arith, is, alike)
names_without (first ∷ entries) (suc place) entry page there =
    let before = names_cons first entries page in
    let after = names_cons first (take place entries ++ drop (suc place) entries) page in
    let others = names_without entries place entry page there in
    omega (arith, before, after, others)

-- an entry comes in, and its page's count is raised
pub counted_with : (entries : List Entry) (old new : List Fill) (place : ℕ) (entry : Entry) → AreCounted entries old → Raises (entry.slot / 32) old new
    → (page : ℕ) → names_at new page ≡ names_in (take place entries ++ entry ∷ drop place entries) page
counted_with entries old new place entry counted raised page =
    let is = names_with entries place entry page in
    let was = counted.counts page in
    let by = page_by entry.slot in
    elim (cases_eq (page_of_slot entry.slot) page) [
      | inl same ↦
          let one = tally_here entry page same in
          let more = subst (λ p. names_at new p ≡ names_at old p + 1) (sym by ∙ same) raised.here in
          omega (arith, is, was, one, more)
      | inr differs ↦
          let none = tally_other entry page differs in
          let kept = raised.others page (λ e. differs (by ∙ sym e)) in
          omega (arith, is, was, none, kept)
    ]

-- an entry goes, and its page's count is lowered
pub counted_without : (entries : List Entry) (old new : List Fill) (place : ℕ) (entry : Entry) → AreCounted entries old → Raises (entry.slot / 32) new old
    → slice_get entries place ≡ Some entry → (page : ℕ) → names_at new page ≡ names_in (take place entries ++ drop (suc place) entries) page
counted_without entries old new place entry counted lowered there page =
    let is = names_without entries place entry page there in
    let was = counted.counts page in
    let by = page_by entry.slot in
    elim (cases_eq (page_of_slot entry.slot) page) [
      | inl same ↦
          let one = tally_here entry page same in
          let fewer = subst (λ p. names_at old p ≡ names_at new p + 1) (sym by ∙ same) lowered.here in
          omega (arith, is, was, one, fewer)
      | inr differs ↦
          let none = tally_other entry page differs in
          let kept = lowered.others page (λ e. differs (by ∙ sym e)) in
          omega (arith, is, was, none, kept)
    ]

pub some_there : (entries : List Entry) (fills : List Fill) (place : ℕ) (entry : Entry) → AreCounted entries fills → slice_get entries place ≡ Some entry
    → 1 ≤ names_at fills (entry.slot / 32)
some_there entries fills place entry counted there =
    let is = names_without entries place entry (entry.slot / 32) there in
    let was = counted.counts (entry.slot / 32) in
    let one = tally_here entry (entry.slot / 32) (page_by entry.slot) in
    omega (arith, is, was, one)

-- ---- the least page with room

room_in : (entries : List Entry) (fills : List Fill) → AreCounted entries fills → (page : ℕ) → IsOpen entries page → IsOpenIn fills page
room_in entries fills counted page (some, few) = let is = counted.counts page in (omega (arith, is, some), omega (arith, is, few))

room_of : (entries : List Entry) (fills : List Fill) → AreCounted entries fills → (page : ℕ) → IsOpenIn fills page → IsOpen entries page
room_of entries fills counted page (some, few) = let is = counted.counts page in (omega (arith, is, some), omega (arith, is, few))

pub least_with_room : (entries : List Entry) (fills : List Fill) (r : Option ℕ) → AreCounted entries fills → MatchOption r ((page : ℕ) → ¬ IsOpenIn fills page) (λ page. IsLeastOpenIn fills page)
    → MatchOption r ((page : ℕ) → ¬ IsOpen entries page) (λ page. IsLeastOpen entries page)
least_with_room entries fills None counted none = λ page room. none page (room_in entries fills counted page room)
least_with_room entries fills (Some page) counted (room, least) = (room_of entries fills counted page room, (λ other room. least other (room_in entries fills counted other room)))

-- ---- room in both

pub both : (a b : Bool) → IsTrue (a && b) → IsTrue a × IsTrue b
both true b h = (refl, h)
both false b h = absurd (false≢true h)

pub from_both : (a b : Bool) → IsTrue a → IsTrue b → IsTrue (a && b)
from_both true b one two = two
from_both false b one two = one
