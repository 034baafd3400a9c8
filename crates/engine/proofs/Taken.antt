-- The lines that were taken off a script.
use Rattle.std.proofs.Common.{◌≡◌, inl, inr, ℕ, ◌+◌, ◌<◌, Bool, false, List, [], ◌∷◌, ◌++◌, length, map, sym, ap, subst, ◌∙◌, arith, length-append, append_assoc}
use Rattle.std.proofs.lemmas.List.{append-nil}
use Rattle.std.specs.Prelude.{Option, Some, None, Err}
use Rattle.io_edge.specs.Bytes.{IsEnd}
use Rattle.tree_model.specs.Run.{Line}
use Rattle.tree_model.specs.declared.reply.LineFault.TheVariants.{BadLine}
use Rattle.script.specs.Lines.{newline, script_limit, call_of, calls_of, complete_lines_of}
use Rattle.script.proofs.LineLaws.{lines_of-taken, complete_lines_of-front, complete_lines_of-begun, call_of-long}
use Rattle.script.specs.Reading.{IfTold, TakesLine, TakesLongLine, IsOver, BreaksOff, ReadPrefix}
use Rattle.script.specs.declared.run_end.RunEnd.TheVariants.{Done, Faulted, ReadFault, WriteFault, Limit}
use Rattle.engine.specs.Script.{ExecutesTold}
use Rattle.engine.specs.Turns.{Input, AreTaken, AreTakenTold, HasTaken}

-- one line more
taken_line : {lines : List Line} {seen seen_after : Bool} {script rest rest_after : List ℕ} (line : List ℕ) (read : ℕ) → AreTaken lines seen script rest → (seen_after ≡ false → seen ≡ false)
    → TakesLine line read seen_after rest rest_after → AreTaken (lines ++ call_of line ∷ []) seen_after script rest_after
taken_line {lines} {seen} {seen_after} {script} {rest} {rest_after} line read taken stays takes = elim takes.taken [
  | inl front ↦ record {
    front = taken.front ++ (line ++ newline ∷ []);
    split = taken.split ∙ ap (λ (bytes : List ℕ). taken.front ++ bytes) (front ∙ sym (append_assoc line (newline ∷ []) rest_after)) ∙ sym (append_assoc taken.front (line ++ newline ∷ []) rest_after);
    all = all;
    complete = λ unseen more.
        ap (λ (bytes : List ℕ). map call_of (complete_lines_of bytes)) (append_assoc taken.front (line ++ newline ∷ []) more ∙ ap (λ (bytes : List ℕ). taken.front ++ bytes) (append_assoc line (newline ∷ []) more))
        ∙ taken.complete (stays unseen) (line ++ newline ∷ more)
        ∙ ap (λ (ls : List (List ℕ)). lines ++ map call_of ls) (complete_lines_of-front line more takes.unbroken)
        ∙ sym (append_assoc lines (call_of line ∷ []) (map call_of (complete_lines_of more)));
  }
  | inr last ↦ record {
    front = script;
    split = sym (append-nil script) ∙ ap (λ (bytes : List ℕ). script ++ bytes) (sym last.ended);
    all = all;
    complete = λ unseen more. absurd (let seen_it = last.end_seen in cc (unseen, seen_it));
  }
]
  where
    all : calls_of script ≡ (lines ++ call_of line ∷ []) ++ calls_of rest_after
    all = taken.all ∙ ap (λ (ls : List (List ℕ)). lines ++ map call_of ls) (lines_of-taken line read seen_after rest rest_after takes)
        ∙ sym (append_assoc lines (call_of line ∷ []) (calls_of rest_after))

pub taken_told : (lines : List Line) (seen seen_after : Bool) (script rest rest_after : Option (List ℕ)) (line : List ℕ) (read : ℕ) → AreTakenTold lines seen script rest → (seen_after ≡ false → seen ≡ false)
    → IfTold rest rest_after (TakesLine line read seen_after) → AreTakenTold (lines ++ call_of line ∷ []) seen_after script rest_after
taken_told lines seen seen_after None None rest_after line read taken stays takes = takes
taken_told lines seen seen_after None (Some rest) rest_after line read taken stays takes = absurd (cc taken)
taken_told lines seen seen_after (Some script) None rest_after line read taken stays takes = absurd taken
taken_told lines seen seen_after (Some script) (Some rest) None line read taken stays takes = absurd takes
taken_told lines seen seen_after (Some script) (Some rest) (Some rest_after) line read taken stays takes = taken_line line read taken stays takes

taken_long_line : {lines : List Line} {seen seen_after : Bool} {script rest rest_after : List ℕ} (read : ℕ) → AreTaken lines seen script rest → (seen_after ≡ false → seen ≡ false)
    → TakesLongLine read seen_after rest rest_after → AreTaken (lines ++ Err BadLine ∷ []) seen_after script rest_after
taken_long_line {lines} {seen_after = seen_after} {script = script} {rest_after = rest_after} read taken stays long =
    subst (λ (l : Line). AreTaken (lines ++ l ∷ []) seen_after script rest_after) (call_of-long long.line long.long) (taken_line long.line read taken stays long.takes)

pub taken_long_told : (lines : List Line) (seen seen_after : Bool) (script rest rest_after : Option (List ℕ)) (read : ℕ) → AreTakenTold lines seen script rest → (seen_after ≡ false → seen ≡ false)
    → IfTold rest rest_after (TakesLongLine read seen_after) → AreTakenTold (lines ++ Err BadLine ∷ []) seen_after script rest_after
taken_long_told lines seen seen_after None None rest_after read taken stays takes = takes
taken_long_told lines seen seen_after None (Some rest) rest_after read taken stays takes = absurd (cc taken)
taken_long_told lines seen seen_after (Some script) None rest_after read taken stays takes = absurd taken
taken_long_told lines seen seen_after (Some script) (Some rest) None read taken stays takes = absurd takes
taken_long_told lines seen seen_after (Some script) (Some rest) (Some rest_after) read taken stays takes = taken_long_line read taken stays takes

-- ---- the ends

-- at the end of the input every line was taken
all_taken : {lines : List Line} {seen : Bool} {script rest rest_after : List ℕ} → AreTaken lines seen script rest → IsOver rest rest_after → lines ≡ calls_of script
all_taken {lines} {rest = rest} taken over = sym (taken.all ∙ ap (λ (bytes : List ℕ). lines ++ calls_of bytes) over.before ∙ append-nil lines)

-- where a read failed or the limit came, those that end with a newline among the bytes read
complete_taken : {lines : List Line} {seen : Bool} {script rest : List ℕ} (left : List ℕ) → AreTaken lines seen script rest → seen ≡ false → BreaksOff rest left
    → (bytes : List ℕ) × (script ≡ bytes ++ left) × (lines ≡ map call_of (complete_lines_of bytes))
complete_taken {lines} left taken unseen breaks = (
  taken.front ++ breaks.begun,
  taken.split ∙ ap (λ (bytes : List ℕ). taken.front ++ bytes) breaks.split ∙ sym (append_assoc taken.front breaks.begun left),
  sym (taken.complete unseen breaks.begun ∙ ap (λ (ls : List (List ℕ)). lines ++ map call_of ls) (complete_lines_of-begun breaks.begun breaks.unbroken) ∙ append-nil lines),
)

-- the whole script was read
all_read : (script left : List ℕ) (read : ℕ) → ReadPrefix 0 read script left → left ≡ [] → read < script_limit → length script < script_limit
all_read script left read counted ended below =
    let whole : length script ≡ length counted.front + length left = ap length counted.split ∙ length-append counted.front left in
    let as_many : read ≡ 0 + length counted.front = counted.counted in
    let none : length left ≡ 0 = ap length ended in
    omega (arith, whole, as_many, none, below)

pub executes_done : (lines : List Line) (seen : Bool) (script rest rest_after left : Option (List ℕ)) (read : ℕ) → AreTakenTold lines seen script rest → IfTold rest rest_after IsOver → IfTold script left (ReadPrefix 0 read) → IsEnd left
    → read < script_limit → ExecutesTold Done script left lines × ExecutesTold Faulted script left lines
executes_done lines seen None rest rest_after left read taken over counted ended below = (tt, tt)
executes_done lines seen (Some script) None rest_after left read taken over counted ended below = absurd taken
executes_done lines seen (Some script) (Some rest) None left read taken over counted ended below = absurd over
executes_done lines seen (Some script) (Some rest) (Some rest_after) None read taken over counted ended below = absurd counted
executes_done lines seen (Some script) (Some rest) (Some rest_after) (Some left) read taken over counted ended below =
    let short = all_read script left read counted ended below in
    ((all_taken taken over, ended, short), (all_taken taken over, ended, short))

pub executes_read_fault : (lines : List Line) (seen : Bool) (script rest left : Option (List ℕ)) → AreTakenTold lines seen script rest → seen ≡ false → IfTold rest left BreaksOff → ExecutesTold ReadFault script left lines
executes_read_fault lines seen None rest left taken unseen breaks = tt
executes_read_fault lines seen (Some script) None left taken unseen breaks = absurd taken
executes_read_fault lines seen (Some script) (Some rest) None taken unseen breaks = absurd breaks
executes_read_fault lines seen (Some script) (Some rest) (Some left) taken unseen breaks = complete_taken left taken unseen breaks

pub executes_limit : (lines : List Line) (seen : Bool) (script rest left : Option (List ℕ)) (read : ℕ) → AreTakenTold lines seen script rest → seen ≡ false → read ≡ script_limit → IfTold rest left BreaksOff → IfTold script left (ReadPrefix 0 read)
    → ExecutesTold Limit script left lines
executes_limit lines seen None rest left read taken unseen all breaks counted = tt
executes_limit lines seen (Some script) None left read taken unseen all breaks counted = absurd taken
executes_limit lines seen (Some script) (Some rest) None read taken unseen all breaks counted = absurd breaks
executes_limit lines seen (Some script) (Some rest) (Some left) read taken unseen all breaks counted =
    let parts = complete_taken left taken unseen breaks in
    let whole : length script ≡ length parts.0 + length left = ap length parts.1 ∙ length-append parts.0 left in
    let read_of : length script ≡ length counted.front + length left = ap length counted.split ∙ length-append counted.front left in
    let as_many : read ≡ 0 + length counted.front = counted.counted in
    (parts.0, parts.1, omega (arith, whole, read_of, as_many, all), parts.2)

pub executes_write_fault : (lines : List Line) (script : Option (List ℕ)) (input : Input) → HasTaken lines script input → ExecutesTold WriteFault script input.left lines
executes_write_fault lines script input has_taken = cut script input.rest input.left has_taken.told has_taken.counted
  where
    cut : (script rest left : Option (List ℕ)) → AreTakenTold lines input.seen script rest → IfTold script left (ReadPrefix 0 input.read) → ExecutesTold WriteFault script left lines
    cut None rest left taken counted = tt
    cut (Some script) None left taken counted = absurd taken
    cut (Some script) (Some rest) None taken counted = absurd counted
    cut (Some script) (Some rest) (Some left) taken counted = (counted.front, counted.split, (calls_of rest, taken.all))
