use Rattle.std.proofs.Common.{◌≡◌, ◌≢◌, ap, sym, rules}
use Rattle.std.proofs.lemmas.Iterator.{IsFirst-from_position, YieldsList-from_slice}
use Rattle.volatile_index.specs.Index.{NodeView}
use Rattle.volatile_index.proofs.PagesLeft.{dropped}
use Rattle.volatile_index.proofs.node.Node.drop_page.Goals as goal

pub returns-in-Some : goal.returns-in-Some
returns-in-Some c =
    let pages = c.self.inside.pages.items in
    let page = c.args.page in
    let same : c.args.self.now.pages ≡ pages = sym (ap (λ (held : NodeView). held.pages) c.self.view_is) in
    let found = IsFirst-from_position _ _ _ (λ x. x ≡ page) (λ x. x ≢ page) c.in-Some.ensures.ran (YieldsList-from_slice pages cc) (λ x q k. search rules) (λ x q k. search rules) in
    dropped pages c.in-Some.place page found.0 (found.1 page) _ _ same (record { pages = c.remove.ensures.items; page_places = search rules; entries = search rules; place = search rules })
