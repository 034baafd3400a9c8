-- What stands before the next step of an entry, when one was made.
use Rattle.std.proofs.Common.{◌≡◌, ℕ, ◌+◌, ◌-◌, ◌*◌, ◌<◌, Bool, false, List, [], ◌∷◌, ◌++◌, length, refl, sym, ap, subst, ◌∙◌, arith}
use Rattle.std.specs.Prelude.{Option, Some, None, Ok, slice_set}
use Rattle.std.proofs.lemmas.List.{length-set}
use Rattle.std.proofs.lemmas.Option.{slice_get_within}
use Rattle.pm_trait.specs.DeviceView.{DeviceView}
use Rattle.pm_trait.specs.Unfolds.{Step, Takes, events_in}
use Rattle.layout.specs.Fields.{page_owner}
use Rattle.layout.specs.Geometry.{IsVolumeSize, data_pages_of, descriptor_word_of}
use Rattle.layout.specs.Name.{IsName, IsBytes, words_of_name}
use Rattle.layout.proofs.NameLaws.{IsNameWords-words_of_name}
use Rattle.layout.proofs.Widths.{in_inode}
use Rattle.inode_state.specs.Inode.{InodeView}
use Rattle.dentry_state.specs.Dentry.{DentryView}
use Rattle.image_laws.proofs.Addresses.{descriptor-ne_inode, descriptor-ne_slot, descriptor-ne_page}
use Rattle.image_laws.proofs.NewPage.{not_page_made}
use Rattle.image_laws.proofs.Ready.{not_made}
use Rattle.allocators.specs.Numbers.{IsFree}
use Rattle.allocators.proofs.NumbersLaws.{taken_after_take}
use Rattle.volume.specs.Volume.{VolumeView}
use Rattle.volume.specs.Costs.{commit_events}
use Rattle.volume.specs.Entered.{pages_of_option, with_taken, IsTaken, TakesPages, EntersInode}
use Rattle.volume.specs.declared.plan.NewEntry.{NewEntry}
use Rattle.volume.specs.Stages.{HasKept}
use Rattle.volume.proofs.MayStill.{may_put_alike, name_place_alike}
use Rattle.entry_steps.specs.declared.place.NamePlace.TheVariants.{Page}
use Rattle.entry_steps.specs.Placing.{MayPlace}
use Rattle.entry_steps.specs.Steps.{claim_steps, naming, owning}
use Rattle.entry_steps.specs.Waiting.{IsSlotAt}
use Rattle.entry_steps.proofs.Keeping.{kept_on}
use Rattle.entry_steps.proofs.Opened.{owner_is_no_rest}
use Rattle.entry_steps.proofs.Placing.{IsFilledPlace}
use Rattle.entry_steps.proofs.Waiting.{claims, place_waits_at, inode_over_claim, page_taken}
use Rattle.create_ops.specs.declared.node.NewNode.{NewNode}
use Rattle.create_ops.specs.declared.run.Stage.TheVariants.{Written, Claimed}
use Rattle.create_ops.specs.Making.{written_events, IsReady, IsNodeOf, WritesNode, writing}
use Rattle.create_ops.specs.Stages.{IsInodeOf, IsAt, StandsStage, begun}

-- ---- the words

module _ (P : ℕ) (W : List ℕ) (entry : NewEntry) (ready : IsReady P W entry) where
  -- the page that is filled has the owner that it had
  owner_same : (I : List ℕ) (page : ℕ) → page < data_pages_of P → WritesNode P W I entry (Some page) → page_owner P I page ≡ page_owner P W page
  unfolding page_owner
  owner_same I page lt made = made.others (descriptor_word_of P page 0)
      (not_page_made P page (descriptor_word_of P page 0)
      (λ w l. descriptor-ne_page P page 0 page w lt (omega arith))
      (owner_is_no_rest P page page))
      (not_made P W entry.kind entry.directory entry.slot entry.inode (descriptor_word_of P page 0)
      (λ f l. descriptor-ne_inode P page 0 entry.inode f ready.least ready.most (in_inode W f l))
      (λ k l. descriptor-ne_slot P page 0 entry.slot (2 + k) lt (omega arith))
      (descriptor-ne_inode P page 0 entry.directory 1 ready.parent.least ready.parent.most (omega arith)))

  filled : (I : List ℕ) (new_page : Option ℕ) → MayPlace P W entry.slot new_page → WritesNode P W I entry new_page → IsFilledPlace P W I entry.slot (words_of_name entry.name) new_page
  filled I None may made = tt
  filled I (Some page) may made = (made.page, owner_same I page may.0.0 made)

  pub written_at : (device : DeviceView) → IsName entry.name → IsBytes entry.name → WritesNode P W device.words entry entry.new_page → (node : NewNode) → IsNodeOf P entry node.inode node.place device → IsAt P entry (Written node) device
  written_at device is_name of_bytes made node of = (
    record { number = of.number; least = ready.least; most = ready.most; clean = of.inode_clean },
    place_waits_at P W entry.slot entry.directory entry.name ready.parent.least (IsNameWords-words_of_name entry.name is_name of_bytes) device entry.new_page node.place of.place_is of.place_clean ready.place
        (filled device.words entry.new_page ready.place made),
  )

-- the inode goes on while its page is claimed
inode_claimed : {T E : Type 0} {value : T} (P : ℕ) (entry : NewEntry) (inode : InodeView) (page : ℕ) → IsVolumeSize P → (a b : DeviceView) → length a.words ≡ 512 * P → IsInodeOf P entry inode a
    → Takes {E = E} (owning P page entry.directory) a b (Ok value) → IsInodeOf P entry inode b
inode_claimed {T} {E} {value} P entry inode page size a b whole of takes =
    let number = of.number in
    let least = of.least in
    let most = of.most in
    record {
      number = number;
      least = least;
      most = most;
      clean = inode_over_claim {T = T} {E = E} {value = value} P entry.directory page inode size (omega (arith, number, least)) (omega (arith, number, most)) a b whole of.clean takes;
    }

-- ---- the stage

-- the volume behind the first step
abbrev pub with_numbers : VolumeView → NewEntry → VolumeView
with_numbers volume entry = record volume { kept = volume.kept - written_events entry; data_pages = with_taken volume.data_pages (pages_of_option entry.new_page); inodes = slice_set volume.inodes (entry.inode - 1) false }

pub numbers_in : (entry : NewEntry) (volume paid taken new : VolumeView) → paid ≡ record volume { kept = volume.kept - written_events entry } → TakesPages paid taken (pages_of_option entry.new_page) → EntersInode taken new entry.inode → new ≡ with_numbers volume entry
numbers_in entry volume paid taken new spent page inode =
    inode
    ∙ ap (λ (v : VolumeView). record v { inodes = slice_set v.inodes (entry.inode - 1) false }) page
    ∙ ap (λ (v : VolumeView). record v { data_pages = with_taken v.data_pages (pages_of_option entry.new_page); inodes = slice_set v.inodes (entry.inode - 1) false }) spent

inode_taken : (free : List Bool) (k : ℕ) → IsFree free k → IsTaken (slice_set free k false) k
inode_taken free k is =
    let low = slice_get_within free k _ is in
    (let long = length-set free k false in omega (arith, low, long), taken_after_take free k low)

pub written_stands : {T E : Type 0} {value : T} (volume : VolumeView) (entry : NewEntry) (device after : DeviceView) (node : NewNode) → StandsStage volume device (begun entry) → Takes {E = E} (writing volume.size entry) device after (Ok value)
    → IsNodeOf volume.size entry node.inode node.place after → StandsStage (with_numbers volume entry) after (record { entry = entry; stage = Written node })
written_stands volume entry device after node stands takes of =
    let (made, is_name, of_bytes) = takes.makes in
    let at = written_at volume.size device.words entry stands.words after is_name of_bytes made node of in
    record {
      going = stands.going;
      whole = takes.fenced.long ∙ stands.whole;
      words = at;
      kept = subst (λ (steps : List Step). HasKept (with_numbers volume entry) after (events_in steps)) (sym (claims volume.size entry.directory entry.slot entry.inode entry.new_page node.place after at.1))
          (kept_on (written_events entry) (events_in (claim_steps volume.size entry.directory entry.new_page ++ naming volume.size entry.slot entry.inode ∷ [])) stands.kept refl takes.fenced.room);
      name = may_put_alike volume (with_numbers volume entry) refl entry.directory entry.name stands.name;
      place = name_place_alike volume (with_numbers volume entry) refl entry.directory entry.new_page stands.place;
      numbers = record {
        inode = inode_taken volume.inodes (entry.inode - 1) stands.numbers.0;
        page = page_taken volume (with_numbers volume entry) entry.new_page stands.numbers.1 refl;
      };
    }

-- the volume behind the claim
abbrev pub paid_commit : VolumeView → VolumeView
paid_commit volume = record volume { kept = volume.kept - commit_events }

pub claimed_stands : {T E : Type 0} {value : T} (volume : VolumeView) (entry : NewEntry) (inode : InodeView) (page : ℕ) (slot : DentryView) (device after : DeviceView) → IsVolumeSize volume.size
    → StandsStage volume device (record { entry = entry; stage = Written (record { inode = inode; place = Page page }) }) → Takes {E = E} (owning volume.size page entry.directory) device after (Ok value)
    → IsSlotAt volume.size entry.slot slot after → StandsStage (paid_commit volume) after (record { entry = entry; stage = Claimed (record { inode = inode; slot = slot }) })
claimed_stands {T} {E} {value} volume entry inode page slot device after size stands takes at = record {
  going = stands.going;
  whole = takes.fenced.long ∙ stands.whole;
  words = (inode_claimed {T = T} {E = E} {value = value} volume.size entry inode page size device after stands.whole stands.words.0 takes, at);
  kept = kept_on commit_events (events_in (naming volume.size entry.slot entry.inode ∷ [])) stands.kept refl takes.fenced.room;
  name = may_put_alike volume (paid_commit volume) refl entry.directory entry.name stands.name;
  place = name_place_alike volume (paid_commit volume) refl entry.directory entry.new_page stands.place;
  numbers = record { inode = stands.numbers.inode; page = stands.numbers.page };
}
