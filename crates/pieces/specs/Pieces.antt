-- What a contract sees of `Pieces`.
use Rattle.std.specs.Prelude.{List, Bool, refl}
use Rattle.std.specs.Coded.{Coded, code_by, coded×, coded_bool, coded_list}

-- the items, in order, and whether there is memory for one more, wherever it goes
pub record PiecesView (T : Type 0) : Type 0 where
  pub items : List T
  pub has_room : Bool

-- a view is stored as the pair of its fields
abbrev pub pieces_code : {T : Type 0} → Coded T → Coded (PiecesView T)
pieces_code {T} code =
    code_by (List T × Bool) (coded× (coded_list code) coded_bool) (λ v. (v.items, v.has_room))
    (λ p. record { items = p.0; has_room = p.1 }) (λ _. refl)
