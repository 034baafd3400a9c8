-- What an inode's words mean, from its number and its fields.
use Rattle.std.specs.Prelude.{◌≡◌, ◌⊎◌, ℕ, ◌+◌, ◌-◌, ◌≤◌}
use Rattle.layout.specs.Kinds.{node_code}
use Rattle.layout.specs.declared.fields.InodeFields.{InodeFields}
use Rattle.layout.specs.declared.kinds.NodeKind.TheVariants.{File, Directory}

-- all fields are 0
abbrev pub free_fields : InodeFields
free_fields = record { kind = 0; links = 0; size = 0; own = 0 }

-- a new file: one link, no bytes
abbrev pub file_fields : ℕ → InodeFields
file_fields number = record { kind = node_code File; links = 1; size = 0; own = number }

-- a new directory: two links
abbrev pub directory_fields : ℕ → InodeFields
directory_fields number = record { kind = node_code Directory; links = 2; size = 0; own = number }

-- the fields with one link more
abbrev pub linked_fields : InodeFields → InodeFields
linked_fields fields = record { kind = fields.kind; links = fields.links + 1; size = fields.size; own = fields.own }

-- the fields with one link less
abbrev pub unlinked_fields : InodeFields → InodeFields
unlinked_fields fields = record { kind = fields.kind; links = fields.links - 1; size = fields.size; own = fields.own }

-- the fields with another size
abbrev pub sized_fields : InodeFields → ℕ → InodeFields
sized_fields fields size = record { kind = fields.kind; links = fields.links; size = size; own = fields.own }

abbrev pub IsFree : ℕ → InodeFields → Type 0
IsFree number fields = fields ≡ free_fields

abbrev pub IsInit : ℕ → InodeFields → Type 0
IsInit number fields = (fields ≡ file_fields number) ⊎ (fields ≡ directory_fields number)

-- a file or a directory with its own number
abbrev pub IsLive : ℕ → InodeFields → Type 0
IsLive number fields = ((fields.kind ≡ node_code File) ⊎ (fields.kind ≡ node_code Directory)) × (fields.own ≡ number)

abbrev pub IsLinked : ℕ → InodeFields → Type 0
IsLinked number fields = IsLive number fields × (1 ≤ fields.links)
