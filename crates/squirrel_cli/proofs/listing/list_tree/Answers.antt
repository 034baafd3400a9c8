use Rattle.std.proofs.Common.{inr, refl}
use Rattle.squirrel_cli.specs.Seen.{seen_alone}
use Rattle.squirrel_cli.proofs.Listed.{listed_on, listing_cause, listing_going, listing_stands, uncut_cause, uncut_on}
use Rattle.squirrel_cli.proofs.Mounted.{stands_on}
use Rattle.squirrel_cli.proofs.listing.list_tree.Goals as goal

pub listing-requires-clause-stands : goal.listing-requires-clause-stands
listing-requires-clause-stands g c = stands_on c.in-Ok.ensures.volume c.requires.goes_on.stands

pub close_session-requires-clause-stands : goal.close_session-requires-clause-stands
close_session-requires-clause-stands g c = listing_stands c.listing.ensures.same c.in-Ok.ensures.volume c.requires.goes_on.stands

pub returns-in-Ok-listing-clause-lists : goal.returns-in-Ok-listing-clause-lists
returns-in-Ok-listing-clause-lists g c =
    inr (listed_on c.listing.ensures.same c.in-Ok.ensures.volume (seen_alone g.K.Sink (g.P.Pm.view c.args.pm.now) c.args.out.now)
    (seen_alone g.K.Sink (g.P.Pm.view c.close_session.new.pm) c.listing.new.sink) c.close_session.result refl c.close_session.ensures c.in-Ok-listing.is c.listing.ensures.writes)

pub returns-in-Ok-listing-clause-cause : goal.returns-in-Ok-listing-clause-cause
returns-in-Ok-listing-clause-cause g c =
    listing_cause c.listing.ensures.same c.in-Ok.ensures.volume (seen_alone g.K.Sink (g.P.Pm.view c.args.pm.now) c.args.out.now)
    (seen_alone g.K.Sink (g.P.Pm.view c.close_session.new.pm) c.listing.new.sink) c.close_session.result refl c.close_session.ensures c.in-Ok-listing.is refl c.listing.ensures.writes c.requires.goes_on.stands

pub returns-in-Ok-listing-clause-leaves : goal.returns-in-Ok-listing-clause-leaves
returns-in-Ok-listing-clause-leaves g c =
    listing_going c.listing.ensures.same c.in-Ok.ensures.volume (seen_alone g.K.Sink (g.P.Pm.view c.args.pm.now) c.args.out.now)
    (seen_alone g.K.Sink (g.P.Pm.view c.close_session.new.pm) c.listing.new.sink) c.close_session.result refl c.close_session.ensures c.requires.goes_on.stands

pub returns-in-Err-clause-lists : goal.returns-in-Err-clause-lists
returns-in-Err-clause-lists g c =
    inr (uncut_on c.in-Ok.ensures.volume (seen_alone g.K.Sink (g.P.Pm.view c.args.pm.now) c.args.out.now)
    (seen_alone g.K.Sink (g.P.Pm.view c.args.pm.now) c.listing.new.sink) refl refl c.in-Err.is c.listing.ensures.writes)

pub returns-in-Err-clause-cause : goal.returns-in-Err-clause-cause
returns-in-Err-clause-cause g c =
    uncut_cause c.in-Ok.ensures.volume (seen_alone g.K.Sink (g.P.Pm.view c.args.pm.now) c.args.out.now)
    (seen_alone g.K.Sink (g.P.Pm.view c.args.pm.now) c.listing.new.sink) refl refl c.in-Err.is c.listing.ensures.writes refl c.requires.goes_on.stands
