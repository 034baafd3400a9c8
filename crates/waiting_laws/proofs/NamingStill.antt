-- Another call has made a step, which passes by what a call holds that has written a name: the name waits as it did.
use Rattle.std.proofs.Common.{◌≡◌, inl, inr, ℕ, ◌*◌, ◌<◌, ◌==◌, List, [], ◌∷◌, length, Option, Some, None, sym, ap, subst, ◌∙◌, arith}
use Rattle.pm_trait.specs.DeviceView.{DeviceView, IsSettledView}
use Rattle.layout.specs.Geometry.{page_of_slot, inode_word_of, slot_word_of}
use Rattle.layout.specs.Fields.{word, inode_words, inode_links}
use Rattle.layout.specs.Name.{IsNameWords}
use Rattle.fence_token.specs.declared.states.Clean.{Clean}
use Rattle.tree_model.specs.PathText.{Route}
use Rattle.tree_model.specs.Tree.{is_directory, is_directory_node, parent, id_at, name_count, link_count, pages_in}
use Rattle.tree_model.specs.Run.{State}
use Rattle.image_reading.specs.Counts.{IsIn}
use Rattle.image_reading.specs.Reading.{slot_owner}
use Rattle.image_laws.proofs.Addresses.{word_in_page, word_in_page-lt, slot_word-in_page}
use Rattle.inode_state.specs.Inode.{InodeView, fields_at, InodeIsClean}
use Rattle.inode_state.proofs.InodeLaws.{same_fields as same_inode}
use Rattle.dentry_state.specs.States.{IsNamed}
use Rattle.dentry_state.specs.Dentry.{DentryView, slot_fields_at}
use Rattle.dentry_state.proofs.DentryLaws.{same_fields as same_slot}
use Rattle.weave_laws.specs.Beside.{IsWordOf, page, inode, KeepsSlot, KeepsPage}
use Rattle.weave_laws.specs.Naming.{IsWrittenPlace}
use Rattle.weave_laws.specs.Removing.{IsPageOfName}
use Rattle.weave_laws.specs.Waiting.{IsPlaceOf, IsWaitingName, TakesPageIfFull}
use Rattle.volume.specs.Volume.{VolumeView}
use Rattle.volume.specs.Entered.{pages_of_option, HasPagePlaces}
use Rattle.volume.proofs.Places.{owner_is}
use Rattle.entry_steps.specs.declared.place.NamePlace.{NamePlace}
use Rattle.entry_steps.specs.declared.place.NamePlace.TheVariants.{Slot, Page}
use Rattle.entry_steps.specs.Waiting.{IsSlotAt, IsPageAt, IsPlaceAt}
use Rattle.waiting_laws.specs.Beside.{Holding, PassesBy}
use Rattle.waiting_laws.specs.Naming.{IsUnclaimedName, IsNameIn, KnowsPlace}
use Rattle.waiting_laws.proofs.NamingEnds.{in_place}

-- The call holds the slot, the page that this is in, and the directory.
pub record HoldsName (held : Holding) (d s : ℕ) : Type 0 where
  pub slot : IsIn s held.slots
  pub page : IsIn (page_of_slot s) held.pages
  pub directory : IsIn d held.inodes

module _ {old new : VolumeView} {before after : DeviceView} {state later : State} {held : Holding} (passes : PassesBy old new before after state later held) where
  abbrev P : ℕ
  P = old.size

  abbrev I : List ℕ
  I = before.words

  abbrev J : List ℕ
  J = after.words

  -- ---- inodes

  pub inode_word : (x f : ℕ) → IsIn x held.inodes → f < inode_words I → word J (inode_word_of x f) ≡ word I (inode_word_of x f)
  inode_word x f among lt = passes.words.words (inode_word_of x f) (inode x f among lt)

  fields_same : (x : ℕ) → IsIn x held.inodes → fields_at J x ≡ fields_at I x
  fields_same x among = let same = passes.words.of_inodes x among in same_inode (fields_at J x) (fields_at I x) same.kind same.links same.size same.own

  pub links_same : (x : ℕ) → IsIn x held.inodes → inode_links J x ≡ inode_links I x
  links_same x among = (passes.words.of_inodes x among).links

  pub counted_same : (x : ℕ) → IsIn x held.inodes → link_count later.tree x ≡ link_count state.tree x
  counted_same x among = (passes.nodes.nodes x among).links

  pub inode_clean : (view : InodeView) → IsIn view.number held.inodes → IsSettledView after → length J ≡ length I → InodeIsClean view before → InodeIsClean view after
  inode_clean view among settled long was = record {
    stands = record { inside = λ a own. (let low = was.stands.inside a own in omega (arith, low, long)); reads = fields_same view.number among ∙ was.stands.reads };
    clean = λ a own. settled.each a (let low = was.stands.inside a own in omega (arith, low, long));
  }

  module _ {d s : ℕ} (holds : HoldsName held d s) where
    -- ---- the slot and its page

    slot_kept : KeepsSlot P I J s
    slot_kept = passes.words.of_slots s (inl holds.slot)

    page_kept : KeepsPage P I J (page_of_slot s)
    page_kept = passes.words.of_pages (page_of_slot s) holds.page

    slot_fields_same : slot_fields_at P J s ≡ slot_fields_at P I s
    slot_fields_same = same_slot (slot_fields_at P J s) (slot_fields_at P I s) slot_kept.number slot_kept.pointer slot_kept.words

    slot_owner_same : slot_owner P J s ≡ slot_owner P I s
    slot_owner_same = owner_is P J s ∙ page_kept.owner ∙ sym (owner_is P I s)

    directory_same : is_directory later.tree d ≡ is_directory state.tree d
    directory_same = ap is_directory_node (passes.nodes.nodes d holds.directory).node

    -- ---- the name

    place_kept : {path : Route} → IsPlaceOf P I state.tree path d s → IsPlaceOf P J later.tree path d s
    place_kept {path} was = record {
      above = passes.nodes.paths (parent path) d holds.directory was.above;
      directory = directory_same ∙ was.directory;
      held = record {
        in_range = was.held.in_range;
        kind = page_kept.kind ∙ was.held.kind;
        owned = λ none. was.held.owned (sym slot_owner_same ∙ none);
      };
      owner = slot_owner_same ∙ was.owner;
    }

    absent_kept : (path : Route) → id_at state.tree (parent path) ≡ Some d → id_at state.tree path ≡ None → id_at later.tree path ≡ None
    absent_kept path above none = passes.nodes.names path d holds.directory above ∙ none

    pub waiting_kept : {path : Route} → IsWaitingName P I state.tree path d s → IsWaitingName P J later.tree path d s
    waiting_kept {path} was = record {
      place = place_kept was.place;
      absent = absent_kept path was.above was.absent;
      number = slot_kept.number ∙ was.number;
      words = subst IsNameWords (sym slot_kept.words) was.words;
      name_is = slot_kept.name ∙ was.name_is;
    }

    -- another slot of its page
    beside_kept : (t : ℕ) → page_of_slot t ≡ page_of_slot s → KeepsSlot P I J t
    beside_kept t same = passes.words.of_slots t (inr (subst (λ x. IsIn x held.pages) (sym same) holds.page))

    unclaimed_kept : {path : Route} (new_page : ℕ) → IsUnclaimedName P I state.tree path d s new_page → IsUnclaimedName P J later.tree path d s new_page
    unclaimed_kept {path} new_page was =
        let kept : KeepsPage P I J new_page = subst (KeepsPage P I J) was.page_is page_kept in
        record {
          above = passes.nodes.paths (parent path) d holds.directory was.above;
          directory = directory_same ∙ was.directory;
          absent = absent_kept path was.above was.absent;
          page_is = was.page_is;
          unowned = kept.owner ∙ was.unowned;
          bare = record {
            kind = kept.kind ∙ was.bare.kind;
            numbers = λ t at. (beside_kept t (at ∙ sym was.page_is)).number ∙ was.bare.numbers t at;
            pointers = λ t at. (beside_kept t (at ∙ sym was.page_is)).pointer ∙ was.bare.pointers t at;
          };
          words = subst IsNameWords (sym slot_kept.words) was.words;
          name_is = slot_kept.name ∙ was.name_is;
        }

    pub name_kept : (path : Route) (place : NamePlace Clean) → IsNameIn P I state.tree path d s place → IsNameIn P J later.tree path d s place
    name_kept path (Slot dentry) was = waiting_kept was
    name_kept path (Page new_page) was = unclaimed_kept new_page was

    page_word_kept : (t f : ℕ) → page_of_slot t ≡ page_of_slot s → f < 16 → word J (slot_word_of P t f) ≡ word I (slot_word_of P t f)
    page_word_kept t f same lt = passes.words.words (slot_word_of P t f) (subst (IsWordOf P I held.slots held.pages held.inodes) (sym (slot_word-in_page P t f))
        (page (page_of_slot t) (word_in_page t f) (subst (λ x. IsIn x held.pages) (sym same) holds.page) (word_in_page-lt t f lt)))

    pub written_kept : (new_page : Option ℕ) → IsWrittenPlace P I s new_page → IsWrittenPlace P J s new_page
    written_kept None was = tt
    written_kept (Some new_page) (at, zeros) = (at, λ t here other f lt. page_word_kept t f (here ∙ sym at) lt ∙ zeros t here other f lt)

    pub full_kept : (new_page : Option ℕ) → TakesPageIfFull state d new_page → TakesPageIfFull later d new_page
    full_kept None was = tt
    full_kept (Some new_page) was =
        let kept = passes.nodes.nodes d holds.directory in
        ap (λ (n : ℕ). n == 32 * pages_in later.room d) kept.names ∙ ap (λ (n : ℕ). name_count state.tree d == 32 * n) kept.pages ∙ was

    -- ---- on the device

    pub slot_at_kept : (dentry : DentryView) → IsSettledView after → length J ≡ length I → IsSlotAt P s dentry before → IsSlotAt P s dentry after
    slot_at_kept dentry settled long was = record {
      pages_is = was.pages_is;
      slot_is = was.slot_is;
      clean = record {
        stands = record {
          inside = λ a own. (let low = was.clean.stands.inside a own in omega (arith, low, long));
          reads = subst (λ p. slot_fields_at p J dentry.slot ≡ slot_fields_at p I dentry.slot) (sym was.pages_is) (subst (λ t. slot_fields_at P J t ≡ slot_fields_at P I t) (sym was.slot_is) slot_fields_same) ∙ was.clean.stands.reads;
        };
        clean = λ a own. settled.each a (let low = was.clean.stands.inside a own in omega (arith, low, long));
      };
    }

    page_at_kept : (new_page : Option ℕ) (taken : ℕ) → page_of_slot s ≡ taken → IsPageAt P d s new_page taken before → IsPageAt P d s new_page taken after
    page_at_kept new_page taken at was =
        let kept : KeepsPage P I J taken = subst (KeepsPage P I J) at page_kept in
        record {
          ready = record {
            in_range = was.ready.in_range;
            filled = (kept.owner ∙ was.ready.filled.0, elim was.ready.filled.1 [ inl one ↦ inl (kept.kind ∙ one) | inr (two, none) ↦ inr (kept.kind ∙ two, kept.offset ∙ none) ]);
            some_directory = was.ready.some_directory;
          };
          named = subst IsNamed (sym (subst (λ t. slot_fields_at P J t ≡ slot_fields_at P I t) (sym was.slot_is) slot_fields_same)) was.named;
          slot_is = was.slot_is;
          page_is = was.page_is;
        }

    pub place_at_kept : (path : Route) (new_page : Option ℕ) (place : NamePlace Clean) → IsNameIn P I state.tree path d s place → IsSettledView after → length J ≡ length I → IsPlaceAt P d s new_page place before → IsPlaceAt P d s new_page place after
    place_at_kept path new_page (Slot dentry) name settled long (at, none) = (slot_at_kept dentry settled long at, none)
    place_at_kept path new_page (Page taken) name settled long at = page_at_kept new_page taken name.page_is at

    -- ---- on the volume

    page_places_kept : (new_pages : List ℕ) → HasPagePlaces old d new_pages → HasPagePlaces new d new_pages
    page_places_kept [] has = tt
    page_places_kept (first ∷ rest) has =
        let node = passes.index d holds.directory in
        let list = ap (λ (l : List ℕ). length l) node.pages in
        let more = node.page_places in
        omega (arith, has, list, more)

    pub knows_place_kept : (new_page : Option ℕ) → IsPageOfName s new_page → KnowsPlace old d new_page → KnowsPlace new d new_page
    knows_place_kept new_page at was = record {
      place = record { entry = (passes.index d holds.directory).place was.place.entry; page = page_places_kept (pages_of_option new_page) was.place.page };
      unlisted = λ x j among there. was.unlisted x j among (passes.lists x j (subst (λ y. IsIn y held.pages) (sym (in_place s new_page at j among)) holds.page) there);
    }
