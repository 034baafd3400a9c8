-- What a read gives of the bytes that a source has left, and what a write adds to those that a sink took.
use Rattle.std.specs.Prelude.{◌≡◌, ℕ, ◌<◌, ◌≤◌, List, [], ◌++◌, length, take, Option, Some, None, Result, IfSome, IfOk, OnOk, OnErr}
use Rattle.pm_trait.specs.Device.{HasRisen}

-- ---- a source

-- the old bytes are these and then the new ones, where they are told
abbrev pub GivesFirst : Option (List ℕ) → List ℕ → Option (List ℕ) → Type 0
GivesFirst None given new = new ≡ None
GivesFirst (Some old) given None = ⊥
GivesFirst (Some old) given (Some new) = old ≡ given ++ new

-- no byte is left, where the bytes are told
abbrev pub IsEnd : Option (List ℕ) → Type 0
IsEnd left = IfSome left (λ bytes. bytes ≡ [])

-- One read. It gave the next bytes, a prefix of the buffer: none only at the end, or where the buffer is empty. Or it
-- failed, and nothing is gone.
pub record Reads {E : Type 0} (left now : Option (List ℕ)) (faults_before faults_after : ℕ) (buffer : List ℕ) (result : Result ℕ E) : Type 0 where
  pub within : IfOk result (λ count. count ≤ length buffer)
  pub gives : IfOk result (λ count. GivesFirst left (take count buffer) now)
  pub end : 0 < length buffer → IfOk result (λ count. count ≡ 0 → IsEnd left)
  pub kept : OnErr result (now ≡ left)
  pub no_fault : OnOk result (faults_after ≡ faults_before)
  pub faults : faults_before ≤ faults_after
  pub cause : OnErr result (HasRisen faults_before faults_after)

-- ---- a sink

-- whatever the sink may be said to have taken before, it took that and these bytes now
abbrev pub Takes : (List ℕ → Type 0) → List ℕ → (List ℕ → Type 0) → Type 0
Takes took more now = (bytes : List ℕ) → took bytes → now (bytes ++ more)

-- a prefix of the text was taken, and not the whole
pub record TakesPrefix (took : List ℕ → Type 0) (text : List ℕ) (now : List ℕ → Type 0) : Type 0 where
  pub count : ℕ
  pub within : count < length text
  pub takes : Takes took (take count text) now

-- One write. It took a prefix of the piece, of at least one byte where the piece has one. Or it failed, and took none.
pub record WritesSome {E : Type 0} (took now : List ℕ → Type 0) (faults_before faults_after : ℕ) (piece : List ℕ) (result : Result ℕ E) : Type 0 where
  pub within : IfOk result (λ count. count ≤ length piece)
  pub some : 0 < length piece → IfOk result (λ count. 1 ≤ count)
  pub takes : IfOk result (λ count. Takes took (take count piece) now)
  pub kept : OnErr result (Takes took [] now)
  pub no_fault : OnOk result (faults_after ≡ faults_before)
  pub faults : faults_before ≤ faults_after
  pub cause : OnErr result (HasRisen faults_before faults_after)

-- A text was written whole. Or a write failed, and a prefix was taken.
pub record Writes {T E : Type 0} (took now : List ℕ → Type 0) (faults_before faults_after : ℕ) (text : List ℕ) (result : Result T E) : Type 0 where
  pub whole : OnOk result (Takes took text now)
  pub cut : OnErr result (TakesPrefix took text now)
  pub no_fault : OnOk result (faults_after ≡ faults_before)
  pub faults : faults_before ≤ faults_after
  pub cause : OnErr result (HasRisen faults_before faults_after)
