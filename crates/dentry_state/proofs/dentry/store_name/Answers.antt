use Rattle.std.proofs.Common.{◌≡◌, ℕ, ◌+◌, ◌<◌, List, length, take, refl, sym, ◌∙◌, subst, arith, take_all, length-take}
use Rattle.pm_trait.specs.DeviceView.{Performs}
use Rattle.pm_trait.proofs.DeviceViewLaws.{performs_nothing}
use Rattle.pm_trait.proofs.DeviceLaws.{interval_length}
use Rattle.fence_token.proofs.StoredLaws.{exactly_performed}
use Rattle.layout.specs.Geometry.{slot_word_of}
use Rattle.dentry_state.specs.Dentry.{stores_from}
use Rattle.dentry_state.proofs.DentryLaws.{next_fields, length-stores_from}
use Rattle.dentry_state.proofs.Events.{stored_more}
use Rattle.dentry_state.proofs.Stored.{word_inside, none_stored, none_held, one_more_stored, one_more_held, all_stored, all_held}
use Rattle.dentry_state.proofs.dentry.store_name.Goals as goal

pub loop-k-init : goal.loop-k-init
loop-k-init g c =
    let device = g.P.Pm.view c.args.pm.now in
    record {
      stores = none_stored c.args.geometry.now.pages c.args.slot device.words device.trail;
      held = none_held c.args.geometry.now.pages c.args.slot c.args.words.now device.words;
      device = performs_nothing device;
    }

pub store-requires-clause-in_range : goal.store-requires-clause-in_range
store-requires-clause-in_range g c =
    let inside = word_inside c.args.geometry.now.pages c.args.slot (2 + c.loop-k.k) c.slot_word.result (g.P.Pm.view c.args.pm.now).words c.slot_word.ensures.value (omega arith) c.requires.inside in
    omega (arith, inside, interval_length c.loop-k.invariant.stores)

pub store-requires-clause-room : goal.store-requires-clause-room
store-requires-clause-room g c =
    let so_far = length-stores_from (slot_word_of c.args.geometry.now.pages c.args.slot 2) (take c.loop-k.k c.args.words.now) in
    omega (arith, so_far, length-take c.loop-k.k c.args.words.now, c.loop-k.invariant.device.room)

pub loop-k-preserved : goal.loop-k-preserved
loop-k-preserved g c =
    let so_far = c.loop-k.invariant in
    let pages = c.args.geometry.now.pages in
    let slot = c.args.slot in
    let k = c.loop-k.k in
    let word = c.slot_word.result in
    let values = c.args.words.now in
    let before = (g.P.Pm.view c.loop-k.pm).words in
    let address = c.slot_word.ensures.value in
    let first_inside = word_inside pages slot (2 + k) word (g.P.Pm.view c.args.pm.now).words address (omega arith) c.requires.inside in
    let inside : word < length before = omega (arith, first_inside, interval_length so_far.stores) in
    let below : k < length values = omega (arith, c.told-words) in
    record {
      stores = one_more_stored pages slot k word _ address so_far.stores c.store.ensures.words c.store.ensures.trail;
      held = one_more_held pages slot k word _ values before (g.P.Pm.view c.store.new.self).words address refl inside c.store.ensures.words so_far.held;
      device = stored_more (slot_word_of pages slot 2) k word values below (address ∙ sym (next_fields pages slot 2 k)) so_far.device c.store.ensures;
    }

pub returns-clause-written : goal.returns-clause-written
returns-clause-written g c = all_held c.args.geometry.now.pages c.args.slot c.loop-k.k c.args.words.now (g.P.Pm.view c.loop-k.pm).words (omega arith) c.told-words c.loop-k.invariant.held

pub returns-clause-device : goal.returns-clause-device
returns-clause-device g c =
    let whole : take c.loop-k.k c.args.words.now ≡ c.args.words.now = take_all c.loop-k.k c.args.words.now (omega (arith, c.told-words)) in
    let told = length-stores_from (slot_word_of c.args.geometry.now.pages c.args.slot 2) c.args.words.now in
    exactly_performed 14 (omega (arith, told, c.told-words)) (all_stored c.args.geometry.now.pages c.args.slot c.loop-k.k (omega arith) c.loop-k.invariant.stores)
    (subst (λ (values : List ℕ). Performs (g.P.Pm.view c.args.pm.now) (g.P.Pm.view c.loop-k.pm) (stores_from (slot_word_of c.args.geometry.now.pages c.args.slot 2) values)) whole c.loop-k.invariant.device)
