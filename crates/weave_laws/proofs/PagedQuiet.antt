-- The steps of a new page change no meaning: each stores to free words.
use Rattle.image_laws.specs.Create.{owned}
use Rattle.image_laws.proofs.Free.{stores_law}
use Rattle.image_laws.proofs.NewPage.{owned_stores}
use Rattle.weave_laws.specs.Paging.{PagedNodeQuietLaw, PagedLinkQuietLaw, OwningQuietLaw}
use Rattle.weave_laws.proofs.PagedLink as link
use Rattle.weave_laws.proofs.PagedNode as node
use Rattle.weave_laws.proofs.PagedWritten.{stores}

pub paged_node_quiet_law : PagedNodeQuietLaw
paged_node_quiet_law P I J M kind d j s i name coherent reached page at inode unreached makes mix =
    stores_law P I J M coherent (stores (node.writes P I J kind d j s i name coherent reached page at inode unreached makes)) mix

pub paged_link_quiet_law : PagedLinkQuietLaw
paged_link_quiet_law P I J M j s i name coherent page at file makes mix = stores_law P I J M coherent (stores (link.writes P I J j s i name coherent page at file makes)) mix

pub owning_quiet_law : OwningQuietLaw
owning_quiet_law P I M d j coherent reached directory page empty mix =
    stores_law P I (owned P I j d) M coherent (owned_stores P I j d coherent reached directory page.0 page.1 empty.kind empty.numbers empty.pointers) mix
