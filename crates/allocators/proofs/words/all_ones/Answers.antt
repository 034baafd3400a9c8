use Rattle.std.proofs.Common.{◌≡◌, ℕ, ◌+◌, ◌-◌, ◌*◌, ◌/◌, ◌%◌, ◌^◌, ◌<◌, Vec, Global, set, ap, subst, sym, ◌∙◌, arith}
use Rattle.std.proofs.lemmas.Nat.{one_shl}
use Rattle.allocators.proofs.AllOnes.{AreAllOnes, whole_words, last_word, are_words}
use Rattle.allocators.proofs.words.all_ones.Goals as goal
use Rattle.allocators.proofs.words.all_ones.Goals.{then-n-ne0, else-n-ne0}

are_all_ones : (c : goal.Joined-n-ne0) → AreAllOnes c.if-n-ne0.words.items c.args.n
are_all_ones c =
    let made = c.in_ok-words.ensures.items_if_clones_equal (λ y is. is) in
    let count = c.div_ceil.result in
    let count_is = c.div_ceil.ensures in
    elim c.if-n-ne0.branch [
      | then-n-ne0 w ↦
          let some : 0 < c.args.n % 64 = omega (arith, w.if-n-ne0.true) in
          let word = 1 * 2 ^ (c.args.n % 64) % 2 ^ 64 - 1 in
          let whole : count ≡ c.args.n / 64 + 1 = omega (arith, count_is, some) in
          let last = last_word count c.args.n word whole some (ap (λ k. k - 1) (one_shl (c.args.n % 64) 64 (omega arith))) in
          subst (λ list. AreAllOnes list c.args.n) (sym (ap (λ (words : Vec ℕ Global). words.items) w.words-is ∙ ap (λ list. set list (c.args.n / 64) word) made)) last
      | else-n-ne0 w ↦
          let whole : c.args.n ≡ 64 * count = omega (arith, count_is, w.if-n-ne0.false) in
          subst (λ list. AreAllOnes list c.args.n) (sym (ap (λ (words : Vec ℕ Global). words.items) w.words-is ∙ made)) (whole_words count c.args.n whole)
    ]

pub returns-clause-words : goal.returns-clause-words
returns-clause-words c = are_words c.if-n-ne0.words.items c.args.n (are_all_ones c)

pub returns-clause-ones : goal.returns-clause-ones
returns-clause-ones c = (are_all_ones c).ones
