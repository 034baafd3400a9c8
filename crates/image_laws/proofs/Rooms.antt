-- A coherent image has a room.
use Rattle.std.proofs.Common.{◌≡◌, ◌⊎◌, inl, inr, ℕ, zero, suc, ◌+◌, ◌<◌, List, [], ◌∷◌, sym, ap, subst, ◌∙◌, arith, nat_cmp}
use Rattle.std.proofs.lemmas.Bool.{cases_eq}
use Rattle.std.specs.Cmp.{nat_cmp_total}
use Rattle.std.specs.FinMap.{nat_cmp-IsAntisymmetric}
use Rattle.layout.specs.Geometry.{inodes_of}
use Rattle.layout.specs.Fields.{inode_kind}
use Rattle.tree_model.specs.Table.{table_of}
use Rattle.tree_model.specs.Tree.{Room}
use Rattle.tree_model.proofs.TableLaws.{get-table_of}
use Rattle.image_reading.specs.Counts.{Count}
use Rattle.image_reading.specs.Reading.{IsDirectory, Reached, IsRoomOf, HasRoom}
use Rattle.image_reading.specs.Soundness.{IsCoherent}
use Rattle.image_reading.proofs.Counts.{count_one}
use Rattle.image_counts.proofs.Decided.{any_below, room_or_not, room_counted}
use Rattle.image_laws.specs.Trees.{RoomLaw}
use Rattle.image_laws.proofs.Contents.{dec_reached}
use Rattle.image_laws.proofs.Decide.{told, decided, dec_eq}
use Rattle.image_laws.proofs.Entries.{Listed, find_has, has_find}
use Rattle.image_laws.proofs.Paths.{reached-le}

-- whether a number below a bound has what is decided of each
pub dec_some : (Q : ℕ → Type 0) → ((x : ℕ) → Dec (Q x)) → (n : ℕ) → ((x : ℕ) → Q x → x < n) → Dec ((x : ℕ) × Q x)
dec_some Q dec n below = elim (any_below Q n (λ x. decided (dec x))) [ inl some ↦ yes some | inr none ↦ no (λ (x, q). none x (below x q) q) ]

-- what a room says of a directory: it has k pages
abbrev pub IsEntry : ℕ → List ℕ → ℕ → ℕ → Type 0
IsEntry P I d k = Reached P I d × IsDirectory I d × Count (IsRoomOf P I d) k

module _ (P : ℕ) (I : List ℕ) where
  -- whether the directory has a name in page j
  pub dec_room : (d : ℕ) → Reached P I d → IsDirectory I d → (j : ℕ) → Dec (IsRoomOf P I d j)
  dec_room d r k j = told (room_or_not P I d j r k)

  -- ---- the room

  add_room : (n : ℕ) → Dec (Reached P I n × IsDirectory I n) → List (ℕ × ℕ) → List (ℕ × ℕ)
  add_room n (yes (r, k)) es = (n, (room_counted P I n r k).0) ∷ es
  add_room n (no f) es = es

  in_add : (n : ℕ) (c : Dec (Reached P I n × IsDirectory I n)) (es : List (ℕ × ℕ)) (d k : ℕ) → Listed (add_room n c es) d k → IsEntry P I d k ⊎ Listed es d k
  unfolding add_room
  in_add n (yes (r, dir)) es d k h = elim h [
    | inl e ↦ inl (subst (Reached P I) e.0 r, ap (inode_kind I) (sym e.0) ∙ dir, subst (λ z. Count (IsRoomOf P I z) k) e.0 (subst (Count (IsRoomOf P I n)) e.1 (room_counted P I n r dir).1))
    | inr g ↦ inr g
  ]
  in_add n (no f) es d k h = inr h

  add_has : (n : ℕ) (c : Dec (Reached P I n × IsDirectory I n)) (es : List (ℕ × ℕ)) (d k : ℕ) → IsEntry P I d k → (n ≡ d) ⊎ Listed es d k → Listed (add_room n c es) d k
  unfolding add_room
  add_has n (yes (r, dir)) es d k (r', dir', count) h = elim h [
    | inl e ↦ inl (e, count_one (IsRoomOf P I n) (room_counted P I n r dir).0 k (room_counted P I n r dir).1 (subst (λ z. Count (IsRoomOf P I z) k) (sym e) count))
    | inr g ↦ inr g
  ]
  add_has n (no f) es d k (r', dir', count) h = elim h [
    | inl e ↦ absurd (f (subst (Reached P I) (sym e) r', ap (inode_kind I) e ∙ dir'))
    | inr g ↦ g
  ]

  module _ (coherent : IsCoherent P I) where
    dec_directory : (i : ℕ) → Dec (Reached P I i × IsDirectory I i)
    dec_directory i = elim (dec_reached P I coherent i) [
      | no n ↦ no (λ (r, k). n r)
      | yes r ↦ elim (dec_eq (inode_kind I i) 2) [ no n ↦ no (λ (r', k). n k) | yes k ↦ yes (r, k) ]
    ]

    rooms_below : ℕ → List (ℕ × ℕ)
    unfolding add_room
    rooms_below zero = []
    rooms_below (suc n) = add_room n (dec_directory n) (rooms_below n)

    in_rooms : (n d k : ℕ) → Listed (rooms_below n) d k → IsEntry P I d k
    unfolding rooms_below
    in_rooms zero d k h = absurd h
    in_rooms (suc n) d k h = elim (in_add n (dec_directory n) (rooms_below n) d k h) [ inl r ↦ r | inr g ↦ in_rooms n d k g ]

    rooms_have : (n d k : ℕ) → d < n → IsEntry P I d k → Listed (rooms_below n) d k
    unfolding rooms_below
    rooms_have zero d k lt r = absurd (omega arith)
    rooms_have (suc n) d k lt r = add_has n (dec_directory n) (rooms_below n) d k r (elim (cases_eq n d) [ inl e ↦ inl e | inr ne ↦ inr (rooms_have n d k (omega (arith, ne)) r) ])

    all_rooms : List (ℕ × ℕ)
    all_rooms = rooms_below (inodes_of P + 1)

    the_room : Room
    the_room = table_of nat_cmp_total all_rooms

    the_room_is : HasRoom P I the_room
    unfolding the_room all_rooms
    the_room_is d k = (
      (λ e. in_rooms (inodes_of P + 1) d k (find_has nat_cmp nat_cmp_total nat_cmp-IsAntisymmetric all_rooms d k (sym (get-table_of nat_cmp_total all_rooms d) ∙ e))),
      (λ r. get-table_of nat_cmp_total all_rooms d ∙ has_find nat_cmp nat_cmp_total nat_cmp-IsAntisymmetric all_rooms d k
          (λ m h. count_one (IsRoomOf P I d) m k (in_rooms (inodes_of P + 1) d m h).2 r.2)
          (rooms_have (inodes_of P + 1) d k (let h = reached-le P I coherent d r.0 in omega (arith, h)) r)),
    )

pub room_law : RoomLaw
room_law P I coherent = (the_room P I coherent, the_room_is P I coherent)
