-- The interval in which a node, its name and its directory's links are written, and the one that commits it.
use Rattle.std.proofs.Common.{◌≡◌, ◌⊎◌, inl, inr, ℕ, zero, suc, ◌+◌, ◌-◌, ◌*◌, ◌<◌, List, [], ◌∷◌, length, slice_index, sym, ap, subst, ◌∙◌, arith}
use Rattle.std.specs.Prelude.{Option, Some, None}
use Rattle.pm_trait.specs.Trail.{Trail}
use Rattle.pm_trait.specs.Device.{IsInterval, IsFlushed, IsClean, IsSettledAt}
use Rattle.pm_trait.specs.declared.event.Event.TheVariants.{Flush}
use Rattle.pm_trait.specs.DeviceView.{DeviceView, Performs, Stores}
use Rattle.pm_trait.proofs.DeviceViewLaws.{flush_stores, stores_flushed}
use Rattle.pm_trait.proofs.DeviceLaws.{interval_keeps, interval_length, interval_joined, clean_stays, flushed_stays}
use Rattle.layout.specs.declared.fields.InodeFields.{InodeFields}
use Rattle.layout.specs.declared.fields.SlotFields.{SlotFields}
use Rattle.layout.specs.Geometry.{IsVolumeSize, inode_word_of, slot_word_of}
use Rattle.layout.specs.Fields.{word, inode_fields, inode_words, inode_kind, inode_links, inode_size, inode_own}
use Rattle.layout.specs.Name.{words_of_name}
use Rattle.fence_token.specs.Objects.{StandsInFlight}
use Rattle.fence_token.proofs.ObjectLaws.{stands_in_flight_stays}
use Rattle.layout.proofs.Widths.{inode_words_written}
use Rattle.inode_state.specs.States.{IsLive}
use Rattle.inode_state.specs.Inode.{InodeView, IsInodeWord, fields_at}
use Rattle.inode_state.proofs.InodeLaws.{same_fields_at, inode_is_local, inode_words_apart, inode_word_in_volume}
use Rattle.dentry_state.specs.Dentry.{IsNameWord}
use Rattle.dentry_state.proofs.DentryLaws.{same_fields_at as same_slot_at}
use Rattle.layout.specs.declared.kinds.NodeKind.{NodeKind}
use Rattle.layout.specs.declared.kinds.NodeKind.TheVariants.{File, Directory}
use Rattle.volume.specs.declared.plan.NewEntry.{NewEntry}
use Rattle.volume.specs.Costs.{inode_events}
use Rattle.image_laws.specs.Create.{IsAmong, IsMadeWord, node_words, parent_links}
use Rattle.entry_steps.specs.Steps.{IsLinkable}
use Rattle.entry_steps.specs.Placing.{MayPlace, IsPlaceWord, IsWrittenWord, WritesPlace}
use Rattle.entry_steps.proofs.Pages.{filled_word}
use Rattle.entry_steps.proofs.Placing.{written_is_place, place_within, place_off_inode, may_still, named_there}
use Rattle.create_ops.specs.Making.{fields_of, IsParentWord, IsReady, WritesNode}

-- ---- stores and the flush after them

pub inode_stored : {a b c : DeviceView} {line : ℕ} (m n : ℕ) → n ≡ m → Stores (IsInodeWord n) a b inode_fields → Performs b c (Flush line ∷ []) → Stores (IsInodeWord m) a c inode_events
inode_stored {a} {c = c} m n same run flush = subst (λ (k : ℕ). Stores (IsInodeWord k) a c inode_events) same (stores_flushed run (flush_stores flush))

-- ---- the kind of the node

parent_word : (kind : NodeKind) (directory a : ℕ) → IsParentWord kind directory a → IsInodeWord directory a
parent_word File directory a is = absurd is
parent_word Directory directory a is = record { field = 1; is_field = omega arith; at = is }

made_words : (kind : NodeKind) (i : ℕ) (J : List ℕ) → fields_at J i ≡ fields_of kind i → (k : ℕ) → k < inode_fields → word J (inode_word_of i k) ≡ slice_index (node_words kind i) k
unfolding inode_kind inode_links inode_size inode_own
made_words File i J is zero lt = ap (λ (f : InodeFields). f.kind) is
made_words File i J is (suc zero) lt = ap (λ (f : InodeFields). f.links) is
made_words File i J is (suc (suc zero)) lt = ap (λ (f : InodeFields). f.size) is
made_words File i J is (suc (suc (suc zero))) lt = ap (λ (f : InodeFields). f.own) is
made_words File i J is (suc (suc (suc (suc k)))) lt = absurd (omega arith)
made_words Directory i J is zero lt = ap (λ (f : InodeFields). f.kind) is
made_words Directory i J is (suc zero) lt = ap (λ (f : InodeFields). f.links) is
made_words Directory i J is (suc (suc zero)) lt = ap (λ (f : InodeFields). f.size) is
made_words Directory i J is (suc (suc (suc zero))) lt = ap (λ (f : InodeFields). f.own) is
made_words Directory i J is (suc (suc (suc (suc k)))) lt = absurd (omega arith)

inode_among : (I : List ℕ) (i a : ℕ) → IsInodeWord i a → IsAmong (inode_word_of i) (inode_words I) a
inode_among I i a is = (is.field, (let few = is.is_field in omega (arith, few, inode_words_written I)), is.at)

name_among : (P s a : ℕ) → IsNameWord P s a → IsAmong (λ k. slot_word_of P s (2 + k)) 14 a
name_among P s a is =
    let low = is.is_name in
    let high = is.is_field in
    let back : is.field ≡ 2 + (is.field - 2) = omega (arith, low) in
    (is.field - 2, omega (arith, low, high), is.at ∙ ap (λ (k : ℕ). slot_word_of P s k) back)

made_inode : (P : ℕ) (I : List ℕ) (kind : NodeKind) (d s i a : ℕ) → IsInodeWord i a ⊎ IsParentWord kind d a → IsMadeWord P I kind d s i a
made_inode P I File d s i a (inl is) = inl (inode_among I i a is)
made_inode P I File d s i a (inr is) = absurd is
made_inode P I Directory d s i a (inl is) = inl (inode_among I i a is)
made_inode P I Directory d s i a (inr is) = inr (inr is)

made_name : (P : ℕ) (I : List ℕ) (kind : NodeKind) (d s i a : ℕ) → IsNameWord P s a → IsMadeWord P I kind d s i a
made_name P I File d s i a is = inr (name_among P s a is)
made_name P I Directory d s i a is = inr (inl (name_among P s a is))

-- ---- what is written

-- the inode is in flight at these words and this trail
abbrev IsFlying : InodeView → List ℕ → Option Trail → Type 0
IsFlying inode now trail = StandsInFlight (IsInodeWord inode.number) (λ words. fields_at words inode.number ≡ inode.fields) inode.ticket now trail

module _ (P : ℕ) (entry : NewEntry) {a : List ℕ} {ta : Option Trail} (size : IsVolumeSize P) (ready : IsReady P a entry) (settled : IsSettledAt a ta) where
  pub inode_settled : (x : ℕ) → IsInodeWord entry.inode x → IsClean a ta x
  inode_settled x is =
      let within = inode_word_in_volume P entry.inode x size ready.least ready.most is in
      settled.each x (omega (arith, within, ready.whole))

  place_clean : (x : ℕ) → IsPlaceWord P entry.slot entry.new_page x → IsClean a ta x
  place_clean x is =
      let within = place_within P a entry.slot entry.new_page x size ready.place is in
      settled.each x (omega (arith, within, ready.whole))

  parent_settled : (x : ℕ) → IsInodeWord entry.directory x → IsClean a ta x
  parent_settled x is =
      let within = inode_word_in_volume P entry.directory x size ready.parent.least ready.parent.most is in
      settled.each x (omega (arith, within, ready.whole))

  place_apart : (x : ℕ) → IsPlaceWord P entry.slot entry.new_page x → ¬ IsInodeWord entry.inode x
  place_apart x is = place_off_inode P a entry.slot entry.new_page entry.inode x ready.least ready.most ready.place is

  pub inode_apart : (x : ℕ) → IsInodeWord entry.inode x → ¬ IsWrittenWord P entry.slot entry.new_page x
  inode_apart x is written = place_apart x (written_is_place P entry.slot entry.new_page x written) is

  parent_apart : (x : ℕ) → IsInodeWord entry.directory x → ¬ IsInodeWord entry.inode x
  parent_apart x is = inode_words_apart entry.directory entry.inode x ready.parent.least ready.least ready.other is

  place_off_parent : (x : ℕ) → IsPlaceWord P entry.slot entry.new_page x → ¬ IsInodeWord entry.directory x
  place_off_parent x is = place_off_inode P a entry.slot entry.new_page entry.directory x ready.parent.least ready.parent.most ready.place is

  parent_off_place : (x : ℕ) → IsInodeWord entry.directory x → ¬ IsWrittenWord P entry.slot entry.new_page x
  parent_off_place x is written = place_off_parent x (written_is_place P entry.slot entry.new_page x written) is

  -- after the inode's stores
  module _ {b : List ℕ} {tb : Option Trail} (one : IsInterval (IsInodeWord entry.inode) a ta b tb) where
    pub still_whole : length b ≡ 512 * P
    still_whole = interval_length one ∙ ready.whole

    pub place_still_free : MayPlace P b entry.slot entry.new_page
    place_still_free = may_still P entry.slot entry.new_page a b (λ x is. interval_keeps x one (place_apart x is)) ready.place

    pub place_still_settled : (x : ℕ) → IsPlaceWord P entry.slot entry.new_page x → IsClean b tb x
    place_still_settled x is = clean_stays x one (place_apart x is) (place_clean x is)

    -- and after the name's
    module _ {c : List ℕ} {tc : Option Trail} (two : IsInterval (IsWrittenWord P entry.slot entry.new_page) b tb c tc) where
      pub whole_again : length c ≡ 512 * P
      whole_again = interval_length two ∙ still_whole

      parent_same : fields_at c entry.directory ≡ fields_at a entry.directory
      parent_same = same_fields_at entry.directory a c (λ x is. interval_keeps x two (parent_off_place x is) ∙ interval_keeps x one (parent_apart x is))

      pub parent_still : IsLinkable P c entry.directory
      parent_still =
          let links = ap (λ (f : InodeFields). f.links) parent_same in
          let room = ready.parent.countable in
          record {
            least = ready.parent.least;
            most = ready.parent.most;
            live = subst (λ (f : InodeFields). IsLive entry.directory f) (sym parent_same) ready.parent.live;
            countable = omega (arith, links, room);
          }

      pub parent_still_settled : (x : ℕ) → IsInodeWord entry.directory x → IsClean c tc x
      parent_still_settled x is = clean_stays x two (parent_off_place x is) (clean_stays x one (parent_apart x is) (parent_settled x is))

      -- and after the links'
      module _ {d : List ℕ} {td : Option Trail} (three : IsInterval (IsParentWord entry.kind entry.directory) c tc d td) where
        pub off_parent : (x : ℕ) → IsPlaceWord P entry.slot entry.new_page x → ¬ IsParentWord entry.kind entry.directory x
        off_parent x is stored = place_off_parent x is (parent_word entry.kind entry.directory x stored)

        inode_off_parent : (x : ℕ) → IsInodeWord entry.inode x → ¬ IsParentWord entry.kind entry.directory x
        inode_off_parent x is stored = parent_apart x (parent_word entry.kind entry.directory x stored) is

        pub links_apart : (x : ℕ) → (IsInodeWord entry.inode x ⊎ IsWrittenWord P entry.slot entry.new_page x) → IsParentWord entry.kind entry.directory x → ⊥
        links_apart x (inl is) stored = inode_off_parent x is stored
        links_apart x (inr is) stored = off_parent x (written_is_place P entry.slot entry.new_page x is) stored

        written_run : IsInterval (λ x. (IsInodeWord entry.inode x ⊎ IsWrittenWord P entry.slot entry.new_page x) ⊎ IsParentWord entry.kind entry.directory x) a ta d td
        written_run = interval_joined (interval_joined one two inode_apart) three links_apart

        pub written_flushed : ((x : ℕ) → IsInodeWord entry.inode x → IsFlushed tb x) → ((x : ℕ) → IsWrittenWord P entry.slot entry.new_page x → IsFlushed tc x) → ((x : ℕ) → IsParentWord entry.kind entry.directory x → IsFlushed td x)
            → (x : ℕ) → (IsInodeWord entry.inode x ⊎ IsWrittenWord P entry.slot entry.new_page x) ⊎ IsParentWord entry.kind entry.directory x → IsFlushed td x
        written_flushed inodes places parents x (inl (inl is)) = flushed_stays x three (inode_off_parent x is) (flushed_stays x two (inode_apart x is) (inodes x is))
        written_flushed inodes places parents x (inl (inr is)) = flushed_stays x three (off_parent x (written_is_place P entry.slot entry.new_page x is)) (places x is)
        written_flushed inodes places parents x (inr is) = parents x is

        pub inode_waits : (inode : InodeView) → inode.number ≡ entry.inode → IsFlying inode b tb → IsFlying inode d td
        inode_waits inode number flight =
            let own : (x : ℕ) → IsInodeWord inode.number x → IsInodeWord entry.inode x = λ x is. subst (λ (n : ℕ). IsInodeWord n x) number is in
            stands_in_flight_stays (inode_is_local inode) three (λ x is. inode_off_parent x (own x is)) (stands_in_flight_stays (inode_is_local inode) two (λ x is. inode_apart x (own x is)) flight)

        inode_kept : (fields_at b entry.inode ≡ fields_of entry.kind entry.inode) → fields_at d entry.inode ≡ fields_of entry.kind entry.inode
        inode_kept is = same_fields_at entry.inode b d (λ x own. interval_keeps x three (inode_off_parent x own) ∙ interval_keeps x two (inode_apart x own)) ∙ is

        place_kept : (x : ℕ) → IsPlaceWord P entry.slot entry.new_page x → slice_index d x ≡ slice_index c x
        place_kept x is = interval_keeps x three (off_parent x is)

        made_by : (new_page : Option ℕ) → MayPlace P a entry.slot new_page → ((x : ℕ) → IsPlaceWord P entry.slot new_page x → slice_index d x ≡ slice_index c x)
            → IsInterval (λ x. (IsInodeWord entry.inode x ⊎ IsWrittenWord P entry.slot new_page x) ⊎ IsParentWord entry.kind entry.directory x) a ta d td
            → fields_at b entry.inode ≡ fields_of entry.kind entry.inode → WritesPlace P b c entry.slot (words_of_name entry.name) new_page
            → inode_links d entry.directory ≡ parent_links entry.kind (inode_links a entry.directory) → WritesNode P a d entry new_page
        unfolding word
        made_by None may kept run inode name links = record {
          size = interval_length run;
          inode = λ f few. made_words entry.kind entry.inode d (inode_kept inode) f (omega (arith, few, inode_words_written a));
          words = ap (λ (f : SlotFields). f.name) (same_slot_at P entry.slot c d kept) ∙ name;
          parent = links;
          others = λ x out. interval_keeps x run (λ stored. out (elim stored [
            | inl (inl is) ↦ made_inode P a entry.kind entry.directory entry.slot entry.inode x (inl is)
            | inl (inr is) ↦ made_name P a entry.kind entry.directory entry.slot entry.inode x is
            | inr is ↦ made_inode P a entry.kind entry.directory entry.slot entry.inode x (inr is)
          ]));
        }
        made_by (Some page) may kept run inode name links = record {
          size = interval_length run;
          page = named_there P b c d page entry.slot (words_of_name entry.name) may.1 name (λ x is. kept x (written_is_place P entry.slot (Some page) x is));
          inode = λ f few. made_words entry.kind entry.inode d (inode_kept inode) f (omega (arith, few, inode_words_written a));
          parent = links;
          others = λ x off_page out. interval_keeps x run (λ stored. elim stored [
            | inl (inl is) ↦ out (made_inode P a entry.kind entry.directory entry.slot entry.inode x (inl is))
            | inl (inr is) ↦ off_page (filled_word P page x is)
            | inr is ↦ out (made_inode P a entry.kind entry.directory entry.slot entry.inode x (inr is))
          ]);
        }

        pub node_made : (e : List ℕ) (inode : InodeView) → e ≡ d → inode.number ≡ entry.inode → inode.fields ≡ fields_of entry.kind entry.inode → IsFlying inode b tb
            → WritesPlace P b c entry.slot (words_of_name entry.name) entry.new_page
            → inode_links d entry.directory ≡ parent_links entry.kind (inode_links c entry.directory)
            → WritesNode P a e entry entry.new_page
        node_made e inode same number fields stands name links =
            subst (λ (l : List ℕ). WritesNode P a l entry entry.new_page) (sym same)
            (made_by entry.new_page ready.place place_kept written_run
            (ap (λ (n : ℕ). fields_at b n) (sym number) ∙ stands.stands.reads ∙ fields)
            name
            (links ∙ ap (λ (n : ℕ). parent_links entry.kind n) (ap (λ (f : InodeFields). f.links) parent_same)))
