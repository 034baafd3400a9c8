use Rattle.std.proofs.Common.{◌≡◌, ℕ, Bool, not, ◌&&◌, ◌||◌, Option, Some, is_some, ◌∙◌, sym, ap, nat_cmp}
use Rattle.std.specs.Cmp.{nat_cmp_total}
use Rattle.std.specs.List.{list_all}
use Rattle.std.specs.FinMap.Entries.{find}
use Rattle.tree_model.specs.Tree.{Node, Tree, Room, is_directory, is_directory_node, may_have, name_count}
use Rattle.tree_model.proofs.TableLaws.{get-table_of}
use Rattle.plain_tree.proofs.TableLaws.{list_all-table_of}
use Rattle.plain_tree.proofs.tables.Rooms.fits.Goals as goal

abbrev is_within : Tree → ℕ × ℕ → Bool
is_within T e = is_directory T e.0 && may_have (name_count T e.0) e.1

abbrev has_entry : (ℕ → Option ℕ) → ℕ × Node → Bool
has_entry found e = not (is_directory_node (Some e.1)) || is_some (found e.0)

pub returns-then-are_within : goal.returns-then-are_within
returns-then-are_within c =
    let pages = c.self.inside.pages.items in
    let nodes = c.tree.inside.nodes.items in
    let T = c.args.tree.now in
    let within : c.are_within.result ≡ list_all (is_within T) c.args.self.now.entries =
    c.are_within.ensures ∙ ap (list_all (is_within T)) c.deref.ensures.value
    ∙ sym (list_all-table_of nat_cmp nat_cmp_total (is_within T) pages c.self.invariant) ∙ ap (λ (room : Room). list_all (is_within T) room.entries) c.self.view_is in
    let keys : (λ k. find nat_cmp k pages) ≡ (λ k. find nat_cmp k c.args.self.now.entries) =
    λ i k. (sym (get-table_of nat_cmp_total pages k) ∙ ap (λ (room : Room). find nat_cmp k room.entries) c.self.view_is) i in
    let each : c.have_each.result ≡ list_all (has_entry (λ k. find nat_cmp k c.args.self.now.entries)) T.nodes.entries =
    c.have_each.ensures
    ∙ ap (λ es. list_all (has_entry (λ k. find nat_cmp k c.deref-then-are_within-2.result.now)) es) c.deref-then-are_within.ensures.value
    ∙ ap (λ es. list_all (has_entry (λ k. find nat_cmp k es)) nodes) c.deref-then-are_within-2.ensures.value
    ∙ sym (list_all-table_of nat_cmp nat_cmp_total (has_entry (λ k. find nat_cmp k pages)) nodes c.tree.invariant.1)
    ∙ ap (λ (tree : Tree). list_all (has_entry (λ k. find nat_cmp k pages)) tree.nodes.entries) c.tree.view_is
    ∙ ap (λ found. list_all (has_entry found) T.nodes.entries) keys in
    each ∙ ap (λ b. b && list_all (has_entry (λ k. find nat_cmp k c.args.self.now.entries)) T.nodes.entries) (sym c.if-are_within.true ∙ within)

pub returns-else-are_within : goal.returns-else-are_within
returns-else-are_within c =
    let pages = c.self.inside.pages.items in
    let T = c.args.tree.now in
    let within : c.are_within.result ≡ list_all (is_within T) c.args.self.now.entries =
    c.are_within.ensures ∙ ap (list_all (is_within T)) c.deref.ensures.value
    ∙ sym (list_all-table_of nat_cmp nat_cmp_total (is_within T) pages c.self.invariant) ∙ ap (λ (room : Room). list_all (is_within T) room.entries) c.self.view_is in
    c.if-are_within.false ∙ ap (λ b. b && list_all (has_entry (λ k. find nat_cmp k c.args.self.now.entries)) T.nodes.entries) (sym c.if-are_within.false ∙ within)
