-- The parts of objects that a repair stores: which words they are, and what storing them takes.
use Rattle.std.specs.Prelude.{ℕ, ◌+◌, ◌-◌, ◌<◌, ◌≤◌, List, length, slice_index}
use Rattle.layout.specs.Geometry.{pieces, inodes_of, data_pages_of, slots_of, inode_word_of, descriptor_word_of, slot_word_of}
use Rattle.recovery.specs.declared.part.Part.{Part}
use Rattle.recovery.specs.declared.part.Part.TheVariants.{Number, Pointer, Owner, Name, Links, Descriptor, Inode}

-- there is an object of this number
abbrev pub IsInode : ℕ → ℕ → Type 0
IsInode P i = (1 ≤ i) × (i ≤ inodes_of P)

abbrev pub IsNumber : ℕ → Part → ℕ → Type 0
IsNumber P Number s = s < slots_of P
IsNumber P Pointer s = s < slots_of P
IsNumber P Owner j = j < data_pages_of P
IsNumber P Name s = s < slots_of P
IsNumber P Links i = IsInode P i
IsNumber P (Descriptor words) j = ((3 ≤ words) × (words ≤ 8)) × (j < data_pages_of P)
IsNumber P (Inode words) i = ((4 ≤ words) × (words ≤ 16)) × IsInode P i

-- the address of the part's first word in the object of this number
abbrev pub first_of : ℕ → Part → ℕ → ℕ
first_of P Number s = slot_word_of P s 0
first_of P Pointer s = slot_word_of P s 1
first_of P Owner j = descriptor_word_of P j 0
first_of P Name s = slot_word_of P s 1
first_of P Links i = inode_word_of i 1
first_of P (Descriptor words) j = descriptor_word_of P j 1
first_of P (Inode words) i = inode_word_of i 0

-- and of its last
abbrev pub last_of : ℕ → Part → ℕ → ℕ
last_of P Number s = slot_word_of P s 0
last_of P Pointer s = slot_word_of P s 1
last_of P Owner j = descriptor_word_of P j 0
last_of P Name s = slot_word_of P s 15
last_of P Links i = inode_word_of i 1
last_of P (Descriptor words) j = descriptor_word_of P j (words - 1)
last_of P (Inode words) i = inode_word_of i (words - 1)

-- its stores, and a flush of each of its lines
abbrev pub events_of_part : Part → ℕ
events_of_part Number = 2
events_of_part Pointer = 2
events_of_part Owner = 2
events_of_part Name = 17
events_of_part Links = 2
events_of_part (Descriptor words) = words
events_of_part (Inode words) = words + pieces words 8

-- each number once, in rising order
abbrev pub IsRising : List ℕ → Type 0
IsRising numbers = (i k : ℕ) → i < k → k < length numbers → slice_index numbers i < slice_index numbers k

-- there is an object of each of these numbers
abbrev pub AreNumbers : ℕ → Part → List ℕ → Type 0
AreNumbers P part numbers = (k : ℕ) → k < length numbers → IsNumber P part (slice_index numbers k)
