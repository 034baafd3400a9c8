-- What a step of a write or a truncation makes leaves the words of the superblock as they are.
use Rattle.std.proofs.Common.{◌≡◌, ◌≢◌, ℕ, List, refl}
use Rattle.pm_trait.specs.Unfolds.{KeepsWords}
use Rattle.layout.specs.Geometry.{inode_word_of}
use Rattle.layout.specs.Superblock.{IsSuperblockWord}
use Rattle.image_laws.proofs.Addresses.{head-ne_inode, head-ne_descriptor, head-ne_page}
use Rattle.image_laws.proofs.Beside.{words_keep, set_keeps}
use Rattle.content_laws.specs.Cut.{ClearsPages}
use Rattle.content_laws.specs.Growth.{IsFillWord, FillsFile, TakesPages, sized}
use Rattle.content_laws.specs.Inside.{WritesInside}

pub sized_keeps : (I J : List ℕ) (i z : ℕ) → J ≡ sized I i z → KeepsWords IsSuperblockWord I J
sized_keeps I J i z is = set_keeps I J (inode_word_of i 2) z (head-ne_inode i 2) is

pub inside_keeps : (P : ℕ) (I J : List ℕ) (i offset : ℕ) (bytes : List ℕ) → WritesInside P I J i offset bytes → KeepsWords IsSuperblockWord I J
inside_keeps P I J i offset bytes writes = words_keep I J (λ a low. writes.others a (λ k j w page few. head-ne_page P j w a low))

low_not_filled : (P : ℕ) (W : List ℕ) (i : ℕ) (pages : List ℕ) {a : ℕ} → IsFillWord P W i pages a → (b : ℕ) → IsSuperblockWord b → b ≢ a
low_not_filled P W i pages (IsFillWord.old k j w page few) b low = head-ne_page P j w b low
low_not_filled P W i pages (IsFillWord.new j w among few) b low = head-ne_page P j w b low
low_not_filled P W i pages (IsFillWord.descriptor j f among which) b low = head-ne_descriptor P j f b low

pub fills_keeps : (P : ℕ) (I J : List ℕ) (i offset : ℕ) (bytes pages : List ℕ) → FillsFile P I J i offset bytes pages → KeepsWords IsSuperblockWord I J
fills_keeps P I J i offset bytes pages fills = words_keep I J (λ a low. fills.others a (λ filled. low_not_filled P I i pages filled a low refl))

pub takes_keeps : (P : ℕ) (I J : List ℕ) (i : ℕ) (pages : List ℕ) → TakesPages P I J i pages → KeepsWords IsSuperblockWord I J
takes_keeps P I J i pages takes = words_keep I J (λ a low. takes.others a (λ j among. head-ne_descriptor P j 0 a low))

pub clears_keeps : (P : ℕ) (I J : List ℕ) (given : ℕ → Type 0) → ClearsPages P I J given → KeepsWords IsSuperblockWord I J
clears_keeps P I J given clears = words_keep I J (λ a low. clears.others a (λ j f is least few. head-ne_descriptor P j f a low))
