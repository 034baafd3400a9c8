-- What a volume knows of words it knows of them whatever their mark.
use Rattle.std.proofs.Common.{ℕ, Bool, List, ◌∙◌}
use Rattle.image_laws.specs.Marking.{SameButMark}
use Rattle.image_laws.proofs.Marking.{marked_back, same_inode_kind, same_page_owner, same_page_kind, same_page_offset, reached_marked, entry_marked}
use Rattle.volatile_index.specs.Index.{NodeView}
use Rattle.volume.specs.Stands.{KnowsNodes, Knows}
use Rattle.volume.specs.Volume.{VolumeView}
use Rattle.mark_ops.proofs.Remarked.{page_marked}

nodes_marked : (P : ℕ) (index : List NodeView) {I J : List ℕ} → SameButMark I J → KnowsNodes P index I → KnowsNodes P index J
nodes_marked P index same knows = let back = marked_back same in record {
  each_inode = knows.each_inode;
  entries = λ d slot bytes least most.
      let both = knows.entries d slot bytes least most in
      ((λ there. entry_marked P same d bytes slot (both.0 there)), (λ entry. both.1 (entry_marked P back d bytes slot entry)));
  pages = λ i page least most.
      let both = knows.pages i page least most in
      ((λ there. page_marked P same i page (both.0 there)), (λ is. both.1 (page_marked P back i page is)));
  once = knows.once;
  offsets = λ i k page reached file there. same_page_offset P same page ∙ knows.offsets i k page (reached_marked P back i reached) (same_inode_kind back i ∙ file) there;
}

pub knows_marked : (volume : VolumeView) (marked : Bool) {I J : List ℕ} → SameButMark I J → Knows volume I → Knows (record volume { marked = marked }) J
knows_marked volume marked same knows = let back = marked_back same in record {
  whole = same.long ∙ knows.whole;
  nodes = nodes_marked volume.size volume.index same knows.nodes;
  each_inode = knows.each_inode;
  inodes = λ i least most.
      let both = knows.inodes i least most in
      ((λ free. same_inode_kind same i ∙ both.0 free), (λ none. both.1 (same_inode_kind back i ∙ none)));
  each_page = knows.each_page;
  data_pages = λ j lt.
      let both = knows.data_pages j lt in (
        (λ free. let unused = both.0 free in (same_page_owner volume.size same j ∙ unused.0, same_page_kind volume.size same j ∙ unused.1)),
        (λ unused. both.1 (same_page_owner volume.size back j ∙ unused.0, same_page_kind volume.size back j ∙ unused.1)),
      );
}
