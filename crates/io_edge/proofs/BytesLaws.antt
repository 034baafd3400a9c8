-- Texts that are written one after another.
use Rattle.std.specs.Prelude.{◌≡◌, ℕ, ◌+◌, ◌<◌, ◌≤◌, List, [], ◌++◌, length, take, drop, Result, Ok, Err, IsErr, refl}
use Rattle.std.proofs.Common.{sym, subst, ◌∙◌, arith, append_assoc, length-append}
use Rattle.std.proofs.lemmas.List.{append-nil, take-append-le}
use Rattle.std.proofs.Math.Seq.{take-append-add, take-add}
use Rattle.pm_trait.specs.Device.{HasRisen}
use Rattle.io_edge.specs.Bytes.{Takes, TakesPrefix, Writes}

-- ---- what a sink takes

-- no byte more changes nothing
pub takes_none : (took : List ℕ → Type 0) → Takes took [] took
takes_none took bytes has = subst took (sym (append-nil bytes)) has

pub takes_as : (took : List ℕ → Type 0) (first second : List ℕ) (now : List ℕ → Type 0) → first ≡ second → Takes took first now → Takes took second now
takes_as took first second now same takes = subst (λ (more : List ℕ). Takes took more now) same takes

-- two texts one after another are one
pub takes_then : (took middle now : List ℕ → Type 0) (first second : List ℕ)
    → Takes took first middle → Takes middle second now → Takes took (first ++ second) now
takes_then took middle now first second one two bytes has =
    subst now (append_assoc bytes first second) (two (bytes ++ first) (one bytes has))

-- a prefix of a text and then a prefix of the rest are a longer prefix
pub takes_more : (took middle now : List ℕ → Type 0) (text : List ℕ) (count more : ℕ)
    → Takes took (take count text) middle → Takes middle (take more (drop count text)) now → Takes took (take (count + more) text) now
takes_more took middle now text count more one two =
    takes_as took (take count text ++ take more (drop count text)) (take (count + more) text) now (sym (take-add count more text))
    (takes_then took middle now (take count text) (take more (drop count text)) one two)

-- a prefix of a text is a prefix of that text and more
pub prefix_before : (took now : List ℕ → Type 0) (first second : List ℕ) → TakesPrefix took first now → TakesPrefix took (first ++ second) now
prefix_before took now first second cut =
    let within : cut.count < length first = cut.within in
    record {
      count = cut.count;
      within = omega (arith, length-append first second);
      takes = takes_as took (take cut.count first) (take cut.count (first ++ second)) now (sym (take-append-le cut.count first second (omega arith))) cut.takes;
    }

-- a whole text and a prefix of another are a prefix of the two
pub prefix_behind : (took middle now : List ℕ → Type 0) (first second : List ℕ)
    → Takes took first middle → TakesPrefix middle second now → TakesPrefix took (first ++ second) now
prefix_behind took middle now first second takes cut =
    let within : cut.count < length second = cut.within in
    record {
      count = length first + cut.count;
      within = omega (arith, length-append first second);
      takes =
          takes_as took (first ++ take cut.count second) (take (length first + cut.count) (first ++ second)) now (sym (take-append-add first second cut.count))
          (takes_then took middle now first (take cut.count second) takes cut.takes);
    }

-- ---- texts one after another

-- nothing to write is written
pub writes_none : {T E : Type 0} (took : List ℕ → Type 0) (faults : ℕ) (done : T) → Writes {T = T} {E = E} took took faults faults [] (Ok done)
writes_none took faults done = record { whole = takes_none took; cut = tt; no_fault = refl; faults = omega arith; cause = tt }

pub writes_as : {T E : Type 0} (took now : List ℕ → Type 0) (faults_before faults_after : ℕ) (first second : List ℕ) (result : Result T E)
    → first ≡ second → Writes took now faults_before faults_after first result → Writes took now faults_before faults_after second result
writes_as took now faults_before faults_after first second result same writes =
    subst (λ (text : List ℕ). Writes took now faults_before faults_after text result) same writes

-- the first text whole, and then the second: the two are written as the second was
pub writes_then : {T U E : Type 0} (took middle now : List ℕ → Type 0) (faults-0 faults-1 faults-2 : ℕ) (first second : List ℕ) (done : T) (result : Result U E)
    → Writes {T = T} {E = E} took middle faults-0 faults-1 first (Ok done) → Writes middle now faults-1 faults-2 second result
    → Writes took now faults-0 faults-2 (first ++ second) result
writes_then took middle now faults-0 faults-1 faults-2 first second done (Ok end) one two =
    let no_fault : faults-2 ≡ faults-1 = two.no_fault in
    let none : faults-1 ≡ faults-0 = one.no_fault in
    record {
      whole = takes_then took middle now first second one.whole two.whole;
      cut = tt;
      no_fault = no_fault ∙ none;
      faults = omega arith;
      cause = tt;
    }
writes_then took middle now faults-0 faults-1 faults-2 first second done (Err fault) one two =
    let none : faults-1 ≡ faults-0 = one.no_fault in
    let more : faults-1 ≤ faults-2 = two.faults in
    record {
      whole = tt;
      cut = prefix_behind took middle now first second one.whole two.cut;
      no_fault = tt;
      faults = omega arith;
      cause = subst (λ (faults : ℕ). HasRisen faults faults-2) none two.cause;
    }

-- the first text cut: so are the two
pub writes_cut : {T U E : Type 0} (took now : List ℕ → Type 0) (faults_before faults_after : ℕ) (first second : List ℕ) (fault : E)
    → Writes {T = T} took now faults_before faults_after first (Err fault) → Writes {T = U} took now faults_before faults_after (first ++ second) (Err fault)
writes_cut took now faults_before faults_after first second fault writes =
    record {
      whole = tt;
      cut = prefix_before took now first second writes.cut;
      no_fault = tt;
      faults = writes.faults;
      cause = writes.cause;
    }

-- a text that was cut, and more behind it: a call that ends there has written a prefix of the two
pub writes_broken : {T U E F : Type 0} {took now : List ℕ → Type 0} {faults_before faults_after : ℕ} {fault : E} (first second : List ℕ) (broken : Result U F) → IsErr broken
    → Writes {T = T} took now faults_before faults_after first (Err fault) → Writes took now faults_before faults_after (first ++ second) broken
writes_broken first second (Ok done) err writes = absurd (cc err)
writes_broken {took = took} {now = now} first second (Err fault) err writes = record {
  whole = tt;
  cut = prefix_before took now first second writes.cut;
  no_fault = tt;
  faults = writes.faults;
  cause = writes.cause;
}
