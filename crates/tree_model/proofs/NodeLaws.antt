-- What is known of a node from what it is.
use Rattle.std.proofs.Common.{◌≡◌, ℕ, ◌≤◌, ◌⊎◌, inl, inr, true, false, List, [], length, Option, Some, None, is_some, refl, sym, ap, ◌∙◌, arith, true≢false}
use Rattle.tree_model.specs.Tree.{Node, Directory, File, is_directory_node, is_file_node, bytes_of_node}

pub directory_is : (o : Option Node) → is_directory_node o ≡ true → o ≡ Some Directory
directory_is None e = cc
directory_is (Some Directory) e = refl
directory_is (Some (File bytes)) e = cc

pub file_is : (o : Option Node) → is_file_node o ≡ true → (bytes : List ℕ) × (o ≡ Some (File bytes))
file_is None e = cc
file_is (Some Directory) e = cc
file_is (Some (File bytes)) e = (bytes, refl)

-- a node is of one kind
pub two_kinds : (o : Option Node) → is_some o ≡ true → (is_directory_node o ≡ true) × (is_file_node o ≡ false) ⊎ (is_directory_node o ≡ false) × (is_file_node o ≡ true)
two_kinds None there = cc
two_kinds (Some Directory) there = inl (refl, refl)
two_kinds (Some (File bytes)) there = inr (refl, refl)

pub a_file : (o : Option Node) → is_some o ≡ true → is_directory_node o ≡ false → is_file_node o ≡ true
a_file o there e = elim (two_kinds o there) [ inl directory ↦ absurd (true≢false (sym directory.0 ∙ e)) | inr file ↦ file.1 ]

pub a_directory : (o : Option Node) → is_some o ≡ true → is_file_node o ≡ false → is_directory_node o ≡ true
a_directory o there e = elim (two_kinds o there) [ inl directory ↦ directory.0 | inr file ↦ absurd (true≢false (sym file.1 ∙ e)) ]

pub no_file : (o : Option Node) → is_directory_node o ≡ true → is_file_node o ≡ false
no_file o e = ap is_file_node (directory_is o e)

pub no_directory : (o : Option Node) → is_file_node o ≡ true → is_directory_node o ≡ false
no_directory o e = ap is_directory_node (file_is o e).1

pub no_bytes : (o : Option Node) → is_directory_node o ≡ true → bytes_of_node o ≡ []
no_bytes o e = ap bytes_of_node (directory_is o e)

-- what bounds the bytes of every file bounds a node's
pub bytes_bounded : (o : Option Node) (n : ℕ) → ((bytes : List ℕ) → o ≡ Some (File bytes) → length bytes ≤ n) → length (bytes_of_node o) ≤ n
bytes_bounded None n each = omega arith
bytes_bounded (Some Directory) n each = omega arith
bytes_bounded (Some (File bytes)) n each = each bytes refl
