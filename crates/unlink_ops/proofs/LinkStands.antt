-- A name that a file gets: what stands behind each of its steps, by what stood before it and what it made.
use Rattle.std.proofs.Common.{◌≡◌, ℕ, ◌+◌, ◌-◌, ◌*◌, ◌<◌, ◌≤◌, List, [], ◌∷◌, ◌++◌, length, refl, sym, ap, subst, ◌∙◌, arith}
use Rattle.std.specs.Prelude.{Option, Some, None, Result, Ok, IfOk}
use Rattle.pm_trait.specs.DeviceView.{DeviceView}
use Rattle.pm_trait.specs.Unfolds.{Step, Takes, events_in}
use Rattle.layout.specs.Fields.{page_owner}
use Rattle.layout.specs.Geometry.{IsVolumeSize, data_pages_of, descriptor_word_of}
use Rattle.layout.specs.Name.{IsName, IsBytes, words_of_name}
use Rattle.layout.proofs.NameLaws.{IsNameWords-words_of_name}
use Rattle.image_laws.proofs.Addresses.{descriptor-ne_inode, descriptor-ne_slot, descriptor-ne_page}
use Rattle.image_laws.proofs.Linking.{not_linked}
use Rattle.image_laws.proofs.NewPage.{not_page_made}
use Rattle.fence_token.specs.declared.states.Clean.{Clean}
use Rattle.inode_state.specs.Inode.{InodeView}
use Rattle.dentry_state.specs.declared.dentry.Touched.TheVariants.{FirstLine}
use Rattle.dentry_state.specs.Dentry.{DentryView, DentryIsClean, slot_fields_at}
use Rattle.volume.specs.Volume.{VolumeView}
use Rattle.volume.specs.Costs.{commit_events}
use Rattle.volume.specs.Entered.{pages_of_option, with_taken, TakesPages}
use Rattle.volume.specs.Stages.{Advances, HasKept}
use Rattle.volume.specs.declared.plan.NewName.{NewName}
use Rattle.entry_steps.specs.Placing.{MayPlace}
use Rattle.entry_steps.specs.Steps.{first_slot, owning, naming, claim_steps}
use Rattle.entry_steps.specs.Waiting.{IsSlotAt, IsPageAt}
use Rattle.entry_steps.specs.declared.place.NamePlace.{NamePlace}
use Rattle.entry_steps.specs.declared.place.NamePlace.TheVariants.{Page}
use Rattle.entry_steps.proofs.Opened.{owner_is_no_rest}
use Rattle.entry_steps.proofs.Placing.{IsFilledPlace}
use Rattle.entry_steps.proofs.Keeping.{kept_on, settled, name_still, place_still}
use Rattle.entry_steps.proofs.Waiting.{claims, place_waits_at, inode_over_claim, page_taken}
use Rattle.unlink_ops.specs.declared.link.NamedFile.{NamedFile}
use Rattle.unlink_ops.specs.declared.link.Stage.TheVariants.{Written}
use Rattle.unlink_ops.specs.Linking.{IsReady, IsLinkOf, WritesLink, writing, written_events}
use Rattle.unlink_ops.specs.LinkStages.{IsInodeOf, IsAt, StandsStage, begun, waiting, named}

-- ---- a step that was made

pub takes_ok : {T E : Type 0} {step : Step} {a b : DeviceView} {result : Result T E} {value : T} → Ok value ≡ result → Takes step a b result → Takes {E = E} step a b (Ok value)
takes_ok {T} {E} {step} {a} {b} is takes = subst (λ (r : Result T E). Takes step a b r) (sym is) takes

pub same_index : {T E : Type 0} {value : T} {made : Result T E} {old new : VolumeView} (events : ℕ) → Ok value ≡ made → Advances events (λ old new. new ≡ old) old new made → new.index ≡ old.index
same_index events is advances = ap (λ (v : VolumeView). v.index) (settled events is advances)

-- ---- the words

module _ (P : ℕ) (W : List ℕ) (link : NewName) (ready : IsReady P W link) where
  -- the page that is filled has the owner that it had
  owner_same : (I : List ℕ) (page : ℕ) → page < data_pages_of P → WritesLink P W I link (Some page) → page_owner P I page ≡ page_owner P W page
  unfolding page_owner
  owner_same I page lt made = made.others (descriptor_word_of P page 0)
      (not_page_made P page (descriptor_word_of P page 0)
      (λ w l. descriptor-ne_page P page 0 page w lt (omega arith))
      (owner_is_no_rest P page page))
      (not_linked P link.slot link.inode (descriptor_word_of P page 0)
      (λ k l. descriptor-ne_slot P page 0 link.slot (2 + k) lt (omega arith))
      (descriptor-ne_inode P page 0 link.inode 1 ready.file.least ready.file.most (omega arith)))

  filled : (I : List ℕ) (new_page : Option ℕ) → MayPlace P W link.slot new_page → WritesLink P W I link new_page → IsFilledPlace P W I link.slot (words_of_name link.name) new_page
  filled I None may made = tt
  filled I (Some page) may made = (made.page, owner_same I page may.0.0 made)

  -- the links and the name are written
  written_at : (device : DeviceView) (file : NamedFile) → 1 ≤ link.directory → IsName link.name → IsBytes link.name → WritesLink P W device.words link link.new_page → IsLinkOf P link file.inode file.place device → IsAt P link (Written file) device
  written_at device file some is_name of_bytes made of = (
    record { number = of.number; least = ready.file.least; most = ready.file.most; clean = of.inode_clean },
    place_waits_at P W link.slot link.directory link.name some (IsNameWords-words_of_name link.name is_name of_bytes) device link.new_page file.place of.place_is of.place_clean ready.place (filled device.words link.new_page ready.place made),
  )

-- the inode goes on while the page gets its owner
inode_at : {T E : Type 0} {value : T} (P : ℕ) (link : NewName) (inode : InodeView) (page : ℕ) → IsVolumeSize P → (a b : DeviceView) → length a.words ≡ 512 * P → IsInodeOf P link inode a → Takes {E = E} (owning P page link.directory) a b (Ok value) → IsInodeOf P link inode b
inode_at {T} {E} {value} P link inode page size a b whole of takes =
    let number = of.number in
    let least = of.least in
    let most = of.most in
    record {
      number = of.number;
      least = of.least;
      most = of.most;
      clean = inode_over_claim {T = T} {E = E} {value = value} P link.directory page inode size (omega (arith, number, least)) (omega (arith, number, most)) a b whole of.clean takes;
    }

-- ---- behind the first step

abbrev with_page_taken : VolumeView → NewName → VolumeView
with_page_taken old link = record old { kept = old.kept - written_events link; data_pages = with_taken old.data_pages (pages_of_option link.new_page) }

module _ {T E : Type 0} {value : T} (link : NewName) (file : NamedFile) (old new : VolumeView) (a b : DeviceView) where
  pub written_stands : {mid : VolumeView} → StandsStage old a (begun link) → Takes {E = E} (writing old.size link) a b (Ok value) → IsLinkOf old.size link file.inode file.place b
      → mid ≡ record old { kept = old.kept - written_events link } → TakesPages mid new (pages_of_option link.new_page) → StandsStage new b (record { link = link; stage = Written file })
  written_stands {mid} stands takes of spent taken =
      let (made, is_name, of_bytes) = takes.makes in
      let whole = stands.whole in
      let long = takes.fenced.long in
      let at = written_at old.size a.words link stands.words b file stands.name.least is_name of_bytes made of in
      let now : new ≡ with_page_taken old link =
      taken ∙ ap (λ (v : VolumeView). record v { data_pages = with_taken v.data_pages (pages_of_option link.new_page) }) spent in
      subst (λ (v : VolumeView). StandsStage v b (record { link = link; stage = Written file })) (sym now) (record {
        going = stands.going;
        whole = omega (arith, whole, long);
        words = at;
        kept = subst (λ (l : List Step). HasKept (with_page_taken old link) b (events_in l)) (sym (claims old.size link.directory link.slot link.inode link.new_page file.place b at.1))
            (kept_on (written_events link) (events_in (claim_steps old.size link.directory link.new_page ++ naming old.size link.slot link.inode ∷ [])) stands.kept refl takes.fenced.room);
        name = name_still old (with_page_taken old link) refl link.directory link.name stands.name;
        place = place_still old (with_page_taken old link) refl link.directory link.new_page stands.place;
        numbers = page_taken (record old { kept = old.kept - written_events link }) (with_page_taken old link) link.new_page (record { once = stands.numbers.once; free = stands.numbers.free }) refl;
      })

-- ---- behind the step of the page

-- the slot that has the name now is the link's
pub slot_at : {E : Type 0} {P pages : ℕ} {result : Result DentryView E} {slot : DentryView} → pages ≡ P → (link : NewName) (page : ℕ) (a b : DeviceView) → Ok slot ≡ result → IsPageAt P link.directory link.slot link.new_page page a
    → IfOk result (λ slot. slot ≡ record { pages = pages; slot = first_slot page; fields = slot_fields_at pages a.words (first_slot page); touched = FirstLine; ticket = None }) → IfOk result (λ slot. DentryIsClean slot b) → IsSlotAt P link.slot slot b
slot_at {E} {P} {pages} {result} {slot} same link page a b is at made clean =
    let here = subst (λ (r : Result DentryView E). IfOk r (λ slot. slot ≡ record { pages = pages; slot = first_slot page; fields = slot_fields_at pages a.words (first_slot page); touched = FirstLine; ticket = None })) (sym is) made in
    record {
      pages_is = ap (λ (d : DentryView). d.pages) here ∙ same;
      slot_is = ap (λ (d : DentryView). d.slot) here ∙ at.slot_is;
      clean = subst (λ (r : Result DentryView E). IfOk r (λ slot. DentryIsClean slot b)) (sym is) clean;
    }

module _ {T E : Type 0} {value : T} (link : NewName) (inode : InodeView) (page : ℕ) (slot : DentryView) (old new : VolumeView) (a b : DeviceView) where
  pub claimed_stands : StandsStage old a (waiting link inode page) → IsVolumeSize old.size → Takes {E = E} (owning old.size page link.directory) a b (Ok value) → IsSlotAt old.size link.slot slot b
      → new ≡ record old { kept = old.kept - commit_events } → StandsStage new b (named link (record { inode = inode; slot = slot }))
  claimed_stands stands size takes at now =
      let (of, waits) = stands.words in
      let whole = stands.whole in
      let long = takes.fenced.long in
      subst (λ (v : VolumeView). StandsStage v b (named link (record { inode = inode; slot = slot }))) (sym now) (record {
        going = stands.going;
        whole = omega (arith, whole, long);
        words = (inode_at {T = T} {E = E} {value = value} old.size link inode page size a b whole of takes, at);
        kept = kept_on commit_events (events_in (naming old.size link.slot link.inode ∷ [])) stands.kept refl takes.fenced.room;
        name = name_still old (record old { kept = old.kept - commit_events }) refl link.directory link.name stands.name;
        place = place_still old (record old { kept = old.kept - commit_events }) refl link.directory link.new_page stands.place;
        numbers = stands.numbers;
      })

-- ---- a name that waits in its new page

pub page_stands : (link : NewName) (file : NamedFile) (volume : VolumeView) (device : DeviceView) → StandsStage volume device (record { link = link; stage = Written file }) → (page : ℕ) → file.place ≡ Page page
    → StandsStage volume device (waiting link file.inode page)
page_stands link file volume device stands page is = subst (λ (p : NamePlace Clean). StandsStage volume device (record { link = link; stage = Written (record { inode = file.inode; place = p }) })) is stands
