-- A new node is written with its name: the slot, the inode and the link word of a directory's parent are to be repaired then.
use Rattle.std.proofs.Common.{◌≡◌, ◌≢◌, inl, inr, ℕ, ◌≤◌, List, ◌∷◌, ◌++◌, slice_index, refl, sym, subst, ◌∙◌, arith}
use Rattle.layout.specs.Fields.{inode_kind, inode_links}
use Rattle.layout.specs.Kinds.{node_code}
use Rattle.layout.specs.declared.kinds.NodeKind.{NodeKind}
use Rattle.layout.specs.declared.kinds.NodeKind.TheVariants.{File, Directory}
use Rattle.layout.proofs.Widths.{inode_field_read}
use Rattle.tree_model.specs.PathText.{Route}
use Rattle.image_reading.specs.Counts.{IsIn, IsListOf}
use Rattle.image_reading.specs.Reading.{Reached}
use Rattle.image_reading.specs.Repairs.{IsLitterInode, IsLitterCount}
use Rattle.image_laws.specs.Create.{node_words, parent_links, MakesNode}
use Rattle.image_laws.specs.Stages.{IsReady}
use Rattle.image_laws.proofs.AddTidy.{IsWritten}
use Rattle.image_laws.proofs.Making as making
use Rattle.image_reading.specs.Residue.{Residue, IsTidyBeside}
use Rattle.weave_laws.specs.Naming.{NodeWrittenLaw, IsCountedParent, counts_left}
use Rattle.weave_laws.proofs.FreeBeside.{kindless_tidy}
use Rattle.weave_laws.proofs.Listed.{listed_more}
use Rattle.weave_laws.proofs.Written as after

pub some_code : (kind : NodeKind) → node_code kind ≢ 0
some_code Directory z = omega (arith, z)
some_code File z = omega (arith, z)

module _ (P : ℕ) (I J : List ℕ) (p : Route) (kind : NodeKind) (d s i : ℕ) (name : List ℕ) (others : Residue) (ready : IsReady P I p d s i name) (none : inode_kind I i ≡ 0)
    (makes : MakesNode P I J kind d s i name) (tidy : IsTidyBeside P I others) where
  written : IsWritten P I J s i d name
  written = record {
    named = making.named P I J p kind d s i name ready makes;
    linked = (p, ready.place.slot.path);
    inodes = λ x f some most lt old links. making.inode_same P I J p kind d s i name ready makes x f some most lt (elim old [
      | inl r ↦ λ e. ready.inode.unreached (subst (Reached P I) e r)
      | inr ne ↦ ne
    ]) links;
  }

  least : 1 ≤ i
  least = let two = ready.inode.least in omega (arith, two)

  new_kind : inode_kind J i ≢ 0
  new_kind z = some_code kind (sym (making.made_kind P I J p kind d s i name ready makes) ∙ z)

  new_inode : IsLitterInode P J i
  unfolding inode_kind
  new_inode = record {
    least = least;
    most = ready.inode.most;
    unreached = λ r. ready.inode.unreached ((after.reached ready.place written i).1 r);
    nonzero = (0, inode_field_read J 0 (omega arith), new_kind);
  }

  no_inode : ¬ IsLitterInode P I i
  no_inode = kindless_tidy P I i others tidy none

  inodes_after : IsListOf (IsLitterInode P J) (i ∷ others.inodes)
  inodes_after = listed_more (IsLitterInode P I) (IsLitterInode P J) i others.inodes no_inode new_inode
      (λ x ne. after.inode_same ready.place written x (inr ne)) tidy.of_inodes

  counts_after : (kind : NodeKind) → inode_links J d ≡ parent_links kind (inode_links I d) → IsCountedParent P I kind d → IsListOf (IsLitterCount P J) (counts_left kind d ++ others.counts)
  counts_after Directory links counted = after.counts_more ready.place written links counted others.counts tidy.of_counts
  counts_after File links counted = after.counts_same ready.place written links others.counts tidy.of_counts

  kind_after : (x : ℕ) → IsIn x (i ∷ others.inodes) → inode_kind J x ≢ 0
  kind_after x among = elim among [
    | inl e ↦ subst (λ z. inode_kind J z ≢ 0) (sym e) new_kind
    | inr other ↦
        let litter = (tidy.of_inodes.each x).0 other in
        after.kind_kept ready.place written x (λ e. no_inode (subst (IsLitterInode P I) e litter)) litter (tidy.kinds x other)
  ]

pub node_written_law : NodeWrittenLaw
node_written_law P I J p kind d s i name others ready blank none counted makes tidy =
    let written = written P I J p kind d s i name others ready none makes tidy in
    record {
      of_pointer = λ t. ((λ e. (after.pointer_same ready.place written t).0 ((tidy.of_pointer t).0 e)), (λ l. (tidy.of_pointer t).1 ((after.pointer_same ready.place written t).1 l)));
      of_slots = after.slots_after ready.place written blank others.slots tidy.of_slots;
      of_pages = after.pages_after ready.place written others.pages tidy.of_pages;
      of_inodes = inodes_after P I J p kind d s i name others ready none makes tidy;
      of_counts = counts_after P I J p kind d s i name others ready none makes tidy kind makes.parent counted;
      kinds = kind_after P I J p kind d s i name others ready none makes tidy;
      marks = λ j among. after.mark_kept ready.place written j ((tidy.of_pages.each j).0 among).in_range (tidy.marks j among);
    }
