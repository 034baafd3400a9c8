-- What a slot's words mean, from its fields.
use Rattle.std.specs.Prelude.{◌≡◌, ◌≢◌, ℕ, List, replicate}
use Rattle.layout.specs.declared.fields.SlotFields.{SlotFields}
use Rattle.layout.specs.Name.{words_of_name, IsNameWords}

-- all words are 0
abbrev pub free_fields : SlotFields
free_fields = record { inode = 0; pointer = 0; name = replicate 14 0 }

-- this name, and no inode yet
abbrev pub named_fields : List ℕ → SlotFields
named_fields name = record { inode = 0; pointer = 0; name = words_of_name name }

-- the fields with the number of this inode
abbrev pub committed_fields : SlotFields → ℕ → SlotFields
committed_fields fields inode = record { inode = inode; pointer = fields.pointer; name = fields.name }

-- the fields with this rename pointer
abbrev pub pointed_fields : SlotFields → ℕ → SlotFields
pointed_fields fields pointer = record { inode = fields.inode; pointer = pointer; name = fields.name }

abbrev pub IsFree : SlotFields → Type 0
IsFree fields = fields ≡ free_fields

abbrev pub IsNamed : SlotFields → Type 0
IsNamed fields = (fields.inode ≡ 0) × (fields.pointer ≡ 0) × IsNameWords fields.name

abbrev pub IsLive : SlotFields → Type 0
IsLive fields = (fields.inode ≢ 0) × (fields.pointer ≡ 0) × IsNameWords fields.name

-- a name and a rename pointer, whatever the number
abbrev pub IsPointing : SlotFields → Type 0
IsPointing fields = (fields.pointer ≢ 0) × IsNameWords fields.name

abbrev pub IsMoved : SlotFields → Type 0
IsMoved fields = (fields.inode ≢ 0) × IsPointing fields
