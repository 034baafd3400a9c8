-- What the source of a generated script has left before and after a line is made, and after bytes are given.
use Rattle.std.proofs.Common.{◌≡◌, ℕ, zero, suc, ◌+◌, ◌-◌, ◌<◌, ◌≤◌, List, [], ◌++◌, length, drop, codes, flat_map, refl, sym, ap, ◌∙◌, arith, append_assoc}
use Rattle.std.specs.Fmt.{digits}
use Rattle.std.proofs.lemmas.List.{drop_all}
use Rattle.rand_pcg.specs.Lcg.{Lcg, started, increment_of}
use Rattle.rand_pcg.specs.Pcg.{multiplier_64}
use Rattle.script.specs.Texts.{line_text}
use Rattle.crash_replay.specs.declared.work.Work.{Work}
use Rattle.crash_replay.specs.Work.{generator_of, draw_of, behind_draw, directory_of, drawn_words, drawn_lines, first_lines, work_script}
use Rattle.crash_replay.specs.WorkLeft.{left_of}

-- ---- the beginning

abbrev pub first_text : List ℕ
first_text = codes "mkdir /d0\nmkdir /d1\nmkdir /d2\nmkdir /d3\n"

first_lines_are : (lines : List (List (List ℕ))) → first_text ++ flat_map line_text lines ≡ flat_map line_text (first_lines ++ lines)
unfolding first_lines directory_of digits
first_lines_are lines = refl

pub left_at_first : (work : Work) (seed : ℕ) → work.at ≡ 0 → work.line.items ≡ first_text → work.generator ≡ started 64 multiplier_64 seed (increment_of 64 1)
    → left_of work ≡ work_script seed work.to_come
unfolding left_of work_script generator_of
left_at_first work seed at line generator =
    ap (λ n. drop n work.line.items ++ flat_map line_text (drawn_lines work.generator work.to_come)) at
    ∙ ap (λ text. text ++ flat_map line_text (drawn_lines work.generator work.to_come)) line
    ∙ ap (λ (g : Lcg). first_text ++ flat_map line_text (drawn_lines g work.to_come)) generator
    ∙ first_lines_are (drawn_lines (generator_of seed) work.to_come)

-- ---- a line more

next_text : (g : Lcg) (count : ℕ) → 0 < count
    → flat_map line_text (drawn_lines g count) ≡ line_text (drawn_words (draw_of g)) ++ flat_map line_text (drawn_lines (behind_draw g) (count - 1))
unfolding drawn_lines
next_text g zero some = absurd (omega arith)
next_text g (suc count) some =
    let one_less : count ≡ suc count - 1 = omega arith in
    ap (λ n. line_text (drawn_words (draw_of g)) ++ flat_map line_text (drawn_lines (behind_draw g) n)) one_less

pub left_at_next : (old new : Work) → length old.line.items ≤ old.at → 0 < old.to_come
    → new.at ≡ 0 → new.to_come ≡ old.to_come - 1 → new.line.items ≡ line_text (drawn_words (draw_of old.generator)) → new.generator ≡ behind_draw old.generator
    → left_of new ≡ left_of old
unfolding left_of
left_at_next old new given some at to_come line generator =
    let later = flat_map line_text (drawn_lines new.generator new.to_come) in
    ap (λ n. drop n new.line.items ++ later) at
    ∙ ap (λ text. text ++ later) line
    ∙ ap (λ (g : Lcg). line_text (drawn_words (draw_of old.generator)) ++ flat_map line_text (drawn_lines g new.to_come)) generator
    ∙ ap (λ n. line_text (drawn_words (draw_of old.generator)) ++ flat_map line_text (drawn_lines (behind_draw old.generator) n)) to_come
    ∙ sym (next_text old.generator old.to_come some)
    ∙ sym (ap (λ text. text ++ flat_map line_text (drawn_lines old.generator old.to_come)) (drop_all old.at old.line.items given))

-- ---- bytes that are given

pub left_behind : (old new : Work) (given : List ℕ) (count : ℕ) → drop old.at old.line.items ≡ given ++ drop (old.at + count) old.line.items
    → new.at ≡ old.at + count → new.line.items ≡ old.line.items → new.generator ≡ old.generator → new.to_come ≡ old.to_come
    → left_of old ≡ given ++ left_of new
unfolding left_of
left_behind old new given count split at line generator to_come =
    let behind = drop (old.at + count) old.line.items in
    ap (λ text. text ++ flat_map line_text (drawn_lines old.generator old.to_come)) split
    ∙ append_assoc given behind (flat_map line_text (drawn_lines old.generator old.to_come))
    ∙ ap (λ text. given ++ (text ++ flat_map line_text (drawn_lines old.generator old.to_come))) (sym (ap (λ n. drop n new.line.items) at ∙ ap (drop (old.at + count)) line))
    ∙ ap (λ (g : Lcg). given ++ (drop new.at new.line.items ++ flat_map line_text (drawn_lines g old.to_come))) (sym generator)
    ∙ ap (λ n. given ++ (drop new.at new.line.items ++ flat_map line_text (drawn_lines new.generator n))) (sym to_come)

pub none_left : (work : Work) → length work.line.items ≤ work.at → work.to_come ≡ 0 → left_of work ≡ []
unfolding left_of drawn_lines
none_left work given none =
    ap (λ text. text ++ flat_map line_text (drawn_lines work.generator work.to_come)) (drop_all work.at work.line.items given)
    ∙ ap (λ n. flat_map line_text (drawn_lines work.generator n)) none
