-- What a step of a call makes leaves the words of the superblock as they are.
use Rattle.std.proofs.Common.{◌≡◌, ◌≢◌, ℕ, ◌+◌, List, set, ap, ◌∙◌}
use Rattle.std.proofs.lemmas.List.{get_or-set_other}
use Rattle.std.specs.Prelude.{slice_index}
use Rattle.pm_trait.specs.Unfolds.{KeepsWords}
use Rattle.layout.specs.Fields.{word}
use Rattle.layout.specs.Geometry.{descriptor_word_of, slot_word_of}
use Rattle.layout.specs.Superblock.{IsSuperblockWord}
use Rattle.layout.specs.declared.kinds.NodeKind.{NodeKind}
use Rattle.image_laws.specs.Create.{IsMadeWord, MakesNode, IsPageMadeWord, MakesEmptyPage, MakesNamedPage, committed, owned}
use Rattle.image_laws.specs.Drop.{dropped, ClearsName, GivesPages, ClearsRest}
use Rattle.image_laws.specs.Link.{IsLinkedWord, MakesLink}
use Rattle.image_laws.specs.Taking.{MakesPagedNode, MakesPagedLink}
use Rattle.image_laws.proofs.Addresses.{head-ne_inode, head-ne_slot, head-ne_descriptor, head-ne_page}
use Rattle.image_laws.proofs.Linking.{not_linked}
use Rattle.image_laws.proofs.NewPage.{not_page_made}
use Rattle.image_laws.proofs.Ready.{not_made}

-- by the words that stay
pub words_keep : (I J : List ℕ) → ((a : ℕ) → IsSuperblockWord a → word J a ≡ word I a) → KeepsWords IsSuperblockWord I J
unfolding word
words_keep I J same = same

-- ---- one word

pub set_keeps : (I J : List ℕ) (at value : ℕ) → ((a : ℕ) → IsSuperblockWord a → a ≢ at) → J ≡ set I at value → KeepsWords IsSuperblockWord I J
set_keeps I J at value apart is a low = ap (λ words. slice_index words a) is ∙ get_or-set_other I at a value 0 (apart a low)

pub committed_keeps : (P : ℕ) (I J : List ℕ) (s i : ℕ) → J ≡ committed P I s i → KeepsWords IsSuperblockWord I J
committed_keeps P I J s i is = set_keeps I J (slot_word_of P s 0) i (head-ne_slot P s 0) is

pub dropped_keeps : (P : ℕ) (I J : List ℕ) (s : ℕ) → J ≡ dropped P I s → KeepsWords IsSuperblockWord I J
dropped_keeps P I J s is = set_keeps I J (slot_word_of P s 0) 0 (head-ne_slot P s 0) is

pub owned_keeps : (P : ℕ) (I J : List ℕ) (j d : ℕ) → J ≡ owned P I j d → KeepsWords IsSuperblockWord I J
owned_keeps P I J j d is = set_keeps I J (descriptor_word_of P j 0) d (head-ne_descriptor P j 0) is

-- ---- a name goes

pub clears_keeps : (P : ℕ) (I J : List ℕ) (s y : ℕ) → ClearsName P I J s y → KeepsWords IsSuperblockWord I J
clears_keeps P I J s y clears = words_keep I J (λ a low. clears.others a (λ f least most. head-ne_slot P s f a low) (head-ne_inode y 1 a low))

pub gives_keeps : (P : ℕ) (I J : List ℕ) (given : ℕ → Type 0) → GivesPages P I J given → KeepsWords IsSuperblockWord I J
gives_keeps P I J given gives = words_keep I J (λ a low. gives.others a (λ j is. head-ne_descriptor P j 0 a low))

pub rest_keeps : (P : ℕ) (I J : List ℕ) (given : ℕ → Type 0) (gone : Type 0) (i : ℕ) → ClearsRest P I J given gone i → KeepsWords IsSuperblockWord I J
rest_keeps P I J given gone i clears = words_keep I J (λ a low. clears.others a (λ j f is least most. head-ne_descriptor P j f a low) (λ is f few. head-ne_inode i f a low))

-- ---- a name comes

low_not_made : (P : ℕ) (I : List ℕ) (kind : NodeKind) (d s i a : ℕ) → IsSuperblockWord a → ¬ IsMadeWord P I kind d s i a
low_not_made P I kind d s i a low = not_made P I kind d s i a (λ f few. head-ne_inode i f a low) (λ k few. head-ne_slot P s (2 + k) a low) (head-ne_inode d 1 a low)

low_not_linked : (P s i a : ℕ) → IsSuperblockWord a → ¬ IsLinkedWord P s i a
low_not_linked P s i a low = not_linked P s i a (λ k few. head-ne_slot P s (2 + k) a low) (head-ne_inode i 1 a low)

low_not_page_made : (P j a : ℕ) → IsSuperblockWord a → ¬ IsPageMadeWord P j a
low_not_page_made P j a low = not_page_made P j a (λ w few. head-ne_page P j w a low) (λ f is. head-ne_descriptor P j f a low)

pub node_keeps : (P : ℕ) (I J : List ℕ) (kind : NodeKind) (d s i : ℕ) (name : List ℕ) → MakesNode P I J kind d s i name → KeepsWords IsSuperblockWord I J
node_keeps P I J kind d s i name makes = words_keep I J (λ a low. makes.others a (low_not_made P I kind d s i a low))

pub link_keeps : (P : ℕ) (I J : List ℕ) (s i : ℕ) (name : List ℕ) → MakesLink P I J s i name → KeepsWords IsSuperblockWord I J
link_keeps P I J s i name makes = words_keep I J (λ a low. makes.others a (low_not_linked P s i a low))

pub empty_page_keeps : (P : ℕ) (I J : List ℕ) (j : ℕ) → MakesEmptyPage P I J j → KeepsWords IsSuperblockWord I J
empty_page_keeps P I J j makes = words_keep I J (λ a low. makes.others a (low_not_page_made P j a low))

pub named_page_keeps : (P : ℕ) (I J : List ℕ) (j d : ℕ) (name : List ℕ) → MakesNamedPage P I J j d name → KeepsWords IsSuperblockWord I J
named_page_keeps P I J j d name makes = empty_page_keeps P I J j makes.empty

pub paged_node_keeps : (P : ℕ) (I J : List ℕ) (kind : NodeKind) (d j s i : ℕ) (name : List ℕ) → MakesPagedNode P I J kind d j s i name → KeepsWords IsSuperblockWord I J
paged_node_keeps P I J kind d j s i name makes = words_keep I J (λ a low. makes.others a (low_not_page_made P j a low) (low_not_made P I kind d s i a low))

pub paged_link_keeps : (P : ℕ) (I J : List ℕ) (j s i : ℕ) (name : List ℕ) → MakesPagedLink P I J j s i name → KeepsWords IsSuperblockWord I J
paged_link_keeps P I J j s i name makes = words_keep I J (λ a low. makes.others a (low_not_page_made P j a low) (low_not_linked P s i a low))
