use Rattle.std.proofs.Common.{◌++◌, ◌∷◌, [], List, ℕ, codes, decimal, if◌then◌else◌, ap, ◌∙◌}
use Rattle.script.specs.Lines.{newline}
use Rattle.script.proofs.Pieces.{regroup}
use Rattle.script.proofs.texts.status_line.Goals as goal

pub returns : goal.returns
returns c =
    let s = c.args.stat.now in
    let kind : List ℕ = if s.dir then codes "dir" else codes "file" in
    let amount : List ℕ = if s.dir then codes "names" else codes "size" in
    let begun = c.push_text.ensures.items ∙ ap (λ x. x ++ codes "ok ") c.new-line.ensures in
    let kind_told = c.push_text-2.ensures.items ∙ ap (λ x. x ++ c.kind_word.result.now) begun ∙ ap (λ x. codes "ok " ++ x) c.kind_word.ensures.word in
    let inode_told = c.push_number.ensures.items ∙ ap (λ x. x ++ decimal s.inode) (c.push_text-3.ensures.items ∙ ap (λ x. x ++ codes " inode ") kind_told) in
    let links_told = c.push_number-2.ensures.items ∙ ap (λ x. x ++ decimal s.links) (c.push_text-4.ensures.items ∙ ap (λ x. x ++ codes " links ") inode_told) in
    let amount_named = c.push_text-6.ensures.items ∙ ap (λ x. x ++ c.amount_word.result.now) (c.push_text-5.ensures.items ∙ ap (λ x. x ++ codes " ") links_told)
    ∙ ap (λ x. (((((codes "ok " ++ kind) ++ codes " inode ") ++ decimal s.inode) ++ codes " links ") ++ decimal s.links) ++ codes " " ++ x) c.amount_word.ensures.word in
    let amount_told = c.push_number-3.ensures.items ∙ ap (λ x. x ++ decimal s.amount) (c.push_text-7.ensures.items ∙ ap (λ x. x ++ codes " ") amount_named) in
    c.push.ensures.items ∙ ap (λ x. x ++ newline ∷ []) amount_told
    ∙ regroup (codes "ok ") kind (codes " inode ") (decimal s.inode) (codes " links ") (decimal s.links) (codes " ") amount (codes " ") (decimal s.amount) (newline ∷ [])
