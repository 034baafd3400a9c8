-- What a page's descriptor means, from its fields.
use Rattle.std.specs.Prelude.{◌≡◌, ◌≢◌, ◌⊎◌, ℕ}
use Rattle.layout.specs.declared.fields.DescriptorFields.{DescriptorFields}

-- all words are 0
abbrev pub free_fields : DescriptorFields
free_fields = record { owner = 0; kind = 0; offset = 0 }

-- a page of slots, and no owner yet
abbrev pub slots_fields : DescriptorFields
slots_fields = record { owner = 0; kind = 2; offset = 0 }

-- a page of a file's bytes at this offset, and no owner yet
abbrev pub bytes_fields : ℕ → DescriptorFields
bytes_fields offset = record { owner = 0; kind = 1; offset = offset }

-- the fields with this owner
abbrev pub owned_fields : DescriptorFields → ℕ → DescriptorFields
owned_fields fields owner = record { owner = owner; kind = fields.kind; offset = fields.offset }

abbrev pub IsFree : DescriptorFields → Type 0
IsFree fields = fields ≡ free_fields

-- a page of a file's bytes (1), or one of slots (2), which has offset 0
abbrev pub IsFilled : DescriptorFields → Type 0
IsFilled fields = (fields.owner ≡ 0) × ((fields.kind ≡ 1) ⊎ ((fields.kind ≡ 2) × (fields.offset ≡ 0)))

-- one of either kind; the offset of one of slots is not read
abbrev pub IsLive : DescriptorFields → Type 0
IsLive fields = (fields.owner ≢ 0) × ((fields.kind ≡ 1) ⊎ (fields.kind ≡ 2))

-- one of either kind that has no owner any more
abbrev pub IsReleased : DescriptorFields → Type 0
IsReleased fields = (fields.owner ≡ 0) × ((fields.kind ≡ 1) ⊎ (fields.kind ≡ 2))

-- fields of the one meaning have the other once they have this owner
abbrev pub MeansOwned : (DescriptorFields → Type 0) → (DescriptorFields → Type 0) → ℕ → Type 0
MeansOwned before after owner = (fields : DescriptorFields) → before fields → after (owned_fields fields owner)
