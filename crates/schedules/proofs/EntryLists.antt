-- Entries of a history that gets one more at its end.
use Rattle.std.proofs.Common.{◌≡◌, inl, inr, ℕ, zero, suc, ◌<◌, ◌≤◌, List, [], ◌∷◌, ◌++◌, length, length-append, refl, sym, ap, subst, ◌∙◌, arith}
use Rattle.std.specs.Prelude.{Some, slice_get}
use Rattle.tree_model.specs.Run.{State, Line}
use Rattle.engine.proofs.Lists.{get_front, get_last, get_more}
use Rattle.sessions.specs.History.{IsLegal, IsLegalHistory}
use Rattle.sessions.specs.declared.entry.Entry.{Entry}
use Rattle.sessions.specs.declared.entry.WeaveReply.{WeaveReply}
use Rattle.schedules.specs.Entries.{StandOnce, StandsAmong}

-- ---- an element before its end

pub get_within : {A : Type 0} (xs more : List A) (k : ℕ) (found : A) → k < length xs → slice_get (xs ++ more) k ≡ Some found → slice_get xs k ≡ Some found
get_within [] more k found below is = absurd (omega (arith, below))
get_within (x ∷ xs) more zero found below is = is
get_within (x ∷ xs) more (suc k) found below is = get_within xs more k found (omega (arith, below)) is

-- ---- it is legal still

pub legal_more : (volume : ℕ) (lines : ℕ → Line) (old : State) (entries : List Entry) (entry : Entry) (new later : State) → IsLegalHistory volume lines old entries new
    → IsLegal volume entry (lines entry.number) new later → IsLegalHistory volume lines old (entries ++ entry ∷ []) later
legal_more volume lines old [] entry new later history legal = (later, subst (λ (s : State). IsLegal volume entry (lines entry.number) s later) history legal, refl)
legal_more volume lines old (first ∷ entries) entry new later history legal =
    let (next, here, rest) = history in
    (next, here, legal_more volume lines next entries entry new later rest legal)

-- ---- the numbers of its entries

-- none has this number
abbrev pub HasNone : List Entry → ℕ → Type 0
HasNone entries number = (place : ℕ) (entry : Entry) → slice_get entries place ≡ Some entry → entry.number ≡ number → ⊥

-- each is at most this
abbrev pub AreAtMost : List Entry → ℕ → Type 0
AreAtMost entries most = (place : ℕ) (entry : Entry) → slice_get entries place ≡ Some entry → entry.number ≤ most

pub once_more : (entries : List Entry) (entry : Entry) → StandOnce entries → HasNone entries entry.number → StandOnce (entries ++ entry ∷ [])
once_more entries entry once none k m one other first second same = elim (get_more entries entry k one first) [
  | inl a ↦ elim (get_more entries entry m other second) [
    | inl b ↦ once k m one other a b same
    | inr b ↦ absurd (none k one a (same ∙ ap (λ (e : Entry). e.number) (sym b.1)))
  ]
  | inr a ↦ elim (get_more entries entry m other second) [
    | inl b ↦ absurd (none m other b (sym same ∙ ap (λ (e : Entry). e.number) (sym a.1)))
    | inr b ↦ a.0 ∙ sym b.0
  ]
]

pub most_more : (entries : List Entry) (entry : Entry) (old new : ℕ) → AreAtMost entries old → old ≤ new → entry.number ≤ new → AreAtMost (entries ++ entry ∷ []) new
most_more entries entry old new most grown last place found is = elim (get_more entries entry place found is) [
  | inl before ↦ let known = most place found before in omega (arith, known, grown)
  | inr here ↦ let same = ap (λ (e : Entry). e.number) here.1 in omega (arith, same, last)
]

pub none_more : (entries : List Entry) (entry : Entry) (number : ℕ) → HasNone entries number → (entry.number ≡ number → ⊥) → HasNone (entries ++ entry ∷ []) number
none_more entries entry number none other place found is same = elim (get_more entries entry place found is) [
  | inl before ↦ none place found before same
  | inr here ↦ other (ap (λ (e : Entry). e.number) here.1 ∙ same)
]

-- ---- a call that stands there

pub stands_front : (entries more : List Entry) (count session number : ℕ) (reply : WeaveReply) → StandsAmong entries count session number reply
    → StandsAmong (entries ++ more) count session number reply
stands_front entries more count session number reply stands = record {
  place = stands.place;
  early = stands.early;
  entry = stands.entry;
  there = get_front entries more stands.place stands.entry stands.there;
  session_is = stands.session_is;
  number_is = stands.number_is;
  reply_is = stands.reply_is;
}

pub stands_early : (entries : List Entry) (count more session number : ℕ) (reply : WeaveReply) → count ≤ more → StandsAmong entries count session number reply
    → StandsAmong entries more session number reply
stands_early entries count more session number reply grown stands = record {
  place = stands.place;
  early = let early = stands.early in omega (arith, early, grown);
  entry = stands.entry;
  there = stands.there;
  session_is = stands.session_is;
  number_is = stands.number_is;
  reply_is = stands.reply_is;
}

pub stands_more : (entries more : List Entry) (session number : ℕ) (reply : WeaveReply) → StandsAmong entries (length entries) session number reply
    → StandsAmong (entries ++ more) (length (entries ++ more)) session number reply
stands_more entries more session number reply stands =
    stands_early (entries ++ more) (length entries) (length (entries ++ more)) session number reply (omega (arith, length-append entries more))
    (stands_front entries more (length entries) session number reply stands)

pub stands_last : (entries : List Entry) (entry : Entry) (session number : ℕ) → entry.session ≡ session → entry.number ≡ number
    → StandsAmong (entries ++ entry ∷ []) (length (entries ++ entry ∷ [])) session number entry.reply
stands_last entries entry session number session_is number_is = record {
  place = length entries;
  early = omega (arith, length-append entries (entry ∷ []));
  entry = entry;
  there = get_last entries entry;
  session_is = session_is;
  number_is = number_is;
  reply_is = refl;
}
