use Rattle.page_state.proofs.NewStores.{AreStored}
use Rattle.page_state.proofs.bytes.store_page.Given as goal

abbrev pub invariant-head : goal.invariant-head
invariant-head g l = AreStored l.span l.bytes l.geometry.pages l.offset l.page l.place (g.P.Pm.view l.fn.pm) (g.P.Pm.view l.pm)

abbrev pub invariant-whole : goal.invariant-whole
invariant-whole g l = AreStored l.span l.bytes l.geometry.pages l.offset l.page l.place (g.P.Pm.view l.fn.pm) (g.P.Pm.view l.pm)

abbrev pub invariant-tail : goal.invariant-tail
invariant-tail g l = AreStored l.span l.bytes l.geometry.pages l.offset l.page l.place (g.P.Pm.view l.fn.pm) (g.P.Pm.view l.pm)
