-- Inodes that stay: their kinds, sizes and links, but the links of those that are named.
use Rattle.std.proofs.Common.{◌≡◌, ◌≢◌, ◌⊎◌, inl, inr, ℕ, ◌<◌, ◌≤◌, List, arith}
use Rattle.layout.specs.Fields.{word, inode_words, inode_kind, inode_links, inode_size}
use Rattle.layout.specs.Geometry.{inodes_of, inode_word_of}
use Rattle.layout.proofs.Widths.{inode_field_read}

pub record KeepsInodes (A K : List ℕ) (Stays Link : ℕ → Type 0) : Type 0 where
  pub kind : (x : ℕ) → Stays x → inode_kind K x ≡ inode_kind A x
  pub size : (x : ℕ) → Stays x → inode_size K x ≡ inode_size A x
  pub links : (x : ℕ) → Stays x → ¬ Link x → inode_links K x ≡ inode_links A x

pub by_inodes : (P : ℕ) (A K : List ℕ) (Stays Link : ℕ → Type 0) → ((x : ℕ) → Stays x → (1 ≤ x) × (x ≤ inodes_of P))
    → ((x f : ℕ) → Stays x → 1 ≤ x → x ≤ inodes_of P → f < inode_words A → (f ≢ 1) ⊎ ¬ Link x → word K (inode_word_of x f) ≡ word A (inode_word_of x f)) → KeepsInodes A K Stays Link
unfolding inode_kind inode_links inode_size
by_inodes P A K Stays Link range same = record {
  kind = λ x stays. same x 0 stays (range x stays).0 (range x stays).1 (inode_field_read A 0 (omega arith)) (inl (λ e. omega (arith, e)));
  size = λ x stays. same x 2 stays (range x stays).0 (range x stays).1 (inode_field_read A 2 (omega arith)) (inl (λ e. omega (arith, e)));
  links = λ x stays none. same x 1 stays (range x stays).0 (range x stays).1 (inode_field_read A 1 (omega arith)) (inr none);
}
