-- The interval in which a file's links are raised and its new name is written, with its page where it takes one.
use Rattle.std.proofs.Common.{◌≡◌, ◌⊎◌, inl, inr, ℕ, ◌+◌, ◌-◌, ◌*◌, List, length, refl, sym, ap, subst, ◌∙◌, arith}
use Rattle.std.specs.Prelude.{Option, Some, None}
use Rattle.pm_trait.specs.Trail.{Trail}
use Rattle.pm_trait.specs.Device.{IsInterval, IsFlushed, IsClean, IsSettledAt}
use Rattle.pm_trait.proofs.DeviceLaws.{interval_keeps, interval_length, interval_joined, clean_stays, flushed_stays}
use Rattle.layout.specs.declared.fields.InodeFields.{InodeFields}
use Rattle.layout.specs.Geometry.{IsVolumeSize, inode_word_of, slot_word_of}
use Rattle.layout.specs.Fields.{word, inode_links}
use Rattle.layout.specs.Name.{words_of_name}
use Rattle.fence_token.specs.Objects.{StandsInFlight}
use Rattle.fence_token.proofs.ObjectLaws.{stands_in_flight_stays}
use Rattle.inode_state.specs.Inode.{InodeView, IsInodeWord, fields_at}
use Rattle.inode_state.proofs.InodeLaws.{same_fields_at, inode_is_local, inode_word_in_volume}
use Rattle.dentry_state.specs.Dentry.{IsNameWord}
use Rattle.image_laws.specs.Link.{IsLinkedWord}
use Rattle.volume.specs.declared.plan.NewName.{NewName}
use Rattle.entry_steps.specs.Placing.{MayPlace, IsPlaceWord, IsWrittenWord, WritesPlace}
use Rattle.entry_steps.proofs.Pages.{filled_word}
use Rattle.entry_steps.proofs.Placing.{written_is_place, place_within, place_off_inode, may_still, named_there}
use Rattle.unlink_ops.specs.Linking.{IsReady, WritesLink}

-- the word of the links is the inode's
links_word : (i x : ℕ) → x ≡ inode_word_of i 1 → IsInodeWord i x
links_word i x is = record { field = 1; is_field = omega arith; at = is }

name_linked : (P s i x : ℕ) → IsNameWord P s x → IsLinkedWord P s i x
name_linked P s i x is =
    let low = is.is_name in
    let high = is.is_field in
    let back : is.field ≡ 2 + (is.field - 2) = omega (arith, low) in
    inl (is.field - 2, omega (arith, low, high), is.at ∙ ap (λ (k : ℕ). slot_word_of P s k) back)

module _ (P : ℕ) (link : NewName) {a : List ℕ} {ta : Option Trail} (size : IsVolumeSize P) (ready : IsReady P a link) (settled : IsSettledAt a ta) where
  pub file_settled : (x : ℕ) → IsInodeWord link.inode x → IsClean a ta x
  file_settled x is =
      let within = inode_word_in_volume P link.inode x size ready.file.least ready.file.most is in
      settled.each x (omega (arith, within, ready.whole))

  place_clean : (x : ℕ) → IsPlaceWord P link.slot link.new_page x → IsClean a ta x
  place_clean x is =
      let within = place_within P a link.slot link.new_page x size ready.place is in
      settled.each x (omega (arith, within, ready.whole))

  place_off_file : (x : ℕ) → IsPlaceWord P link.slot link.new_page x → ¬ IsInodeWord link.inode x
  place_off_file x is = place_off_inode P a link.slot link.new_page link.inode x ready.file.least ready.file.most ready.place is

  place_apart : (x : ℕ) → IsPlaceWord P link.slot link.new_page x → ¬ (x ≡ inode_word_of link.inode 1)
  place_apart x is stored = place_off_file x is (links_word link.inode x stored)

  file_apart : (x : ℕ) → IsInodeWord link.inode x → ¬ IsWrittenWord P link.slot link.new_page x
  file_apart x is written = place_off_file x (written_is_place P link.slot link.new_page x written) is

  pub links_apart : (x : ℕ) → x ≡ inode_word_of link.inode 1 → ¬ IsWrittenWord P link.slot link.new_page x
  links_apart x is = file_apart x (links_word link.inode x is)

  -- after the links' store
  module _ {b : List ℕ} {tb : Option Trail} (one : IsInterval (λ x. x ≡ inode_word_of link.inode 1) a ta b tb) where
    pub still_whole : length b ≡ 512 * P
    still_whole = interval_length one ∙ ready.whole

    pub place_still_free : MayPlace P b link.slot link.new_page
    place_still_free = may_still P link.slot link.new_page a b (λ x is. interval_keeps x one (place_apart x is)) ready.place

    pub place_still_settled : (x : ℕ) → IsPlaceWord P link.slot link.new_page x → IsClean b tb x
    place_still_settled x is = clean_stays x one (place_apart x is) (place_clean x is)

    -- and after the name's
    module _ {c : List ℕ} {tc : Option Trail} (two : IsInterval (IsWrittenWord P link.slot link.new_page) b tb c tc) where
      pub written_flushed : IsFlushed tb (inode_word_of link.inode 1) → ((x : ℕ) → IsWrittenWord P link.slot link.new_page x → IsFlushed tc x)
          → (x : ℕ) → (x ≡ inode_word_of link.inode 1) ⊎ IsWrittenWord P link.slot link.new_page x → IsFlushed tc x
      written_flushed links places x (inl is) = flushed_stays x two (links_apart x is) (subst (λ (w : ℕ). IsFlushed tb w) (sym is) links)
      written_flushed links places x (inr is) = places x is

      pub file_waits : (inode : InodeView) → inode.number ≡ link.inode
          → StandsInFlight (IsInodeWord inode.number) (λ words. fields_at words inode.number ≡ inode.fields) inode.ticket b tb
          → StandsInFlight (IsInodeWord inode.number) (λ words. fields_at words inode.number ≡ inode.fields) inode.ticket c tc
      file_waits inode number flight = stands_in_flight_stays (inode_is_local inode) two (λ x is. file_apart x (subst (λ (n : ℕ). IsInodeWord n x) number is)) flight

      links_kept : inode_links c link.inode ≡ inode_links b link.inode
      links_kept = ap (λ (f : InodeFields). f.links) (same_fields_at link.inode b c (λ x is. interval_keeps x two (file_apart x is)))

      made_by : (new_page : Option ℕ) → MayPlace P a link.slot new_page → IsInterval (λ x. (x ≡ inode_word_of link.inode 1) ⊎ IsWrittenWord P link.slot new_page x) a ta c tc
          → inode_links c link.inode ≡ inode_links a link.inode + 1 → WritesPlace P b c link.slot (words_of_name link.name) new_page → WritesLink P a c link new_page
      unfolding word
      made_by None may run links name = record {
        size = interval_length run;
        links = links;
        words = name;
        others = λ x out. interval_keeps x run (λ stored. out (elim stored [ inl is ↦ inr is | inr is ↦ name_linked P link.slot link.inode x is ]));
      }
      made_by (Some page) may run links name = record {
        size = interval_length run;
        page = named_there P b c c page link.slot (words_of_name link.name) may.1 name (λ x is. refl);
        links = links;
        others = λ x off_page out. interval_keeps x run (λ stored. elim stored [ inl is ↦ out (inr is) | inr is ↦ off_page (filled_word P page x is) ]);
      }

      pub link_made : (e : List ℕ) → e ≡ c → inode_links b link.inode ≡ inode_links a link.inode + 1 → WritesPlace P b c link.slot (words_of_name link.name) link.new_page → WritesLink P a e link link.new_page
      link_made e same links name =
          subst (λ (l : List ℕ). WritesLink P a l link link.new_page) (sym same)
          (made_by link.new_page ready.place (interval_joined one two links_apart) (links_kept ∙ links) name)
