-- The words that say what a node or a page is.
use Rattle.std.specs.Prelude.{ℕ}
use Rattle.layout.specs.declared.kinds.NodeKind.{NodeKind}
use Rattle.layout.specs.declared.kinds.NodeKind.TheVariants.{File, Directory}
use Rattle.layout.specs.declared.kinds.PageKind.{PageKind}
use Rattle.layout.specs.declared.kinds.PageKind.TheVariants.{Bytes, Slots}

-- the kind that an inode has
abbrev pub node_code : NodeKind → ℕ
node_code File = 1
node_code Directory = 2

-- what its pages hold
abbrev pub page_kind_of : NodeKind → PageKind
page_kind_of File = Bytes
page_kind_of Directory = Slots

-- the kind that a page's descriptor has
abbrev pub page_code : PageKind → ℕ
page_code Bytes = 1
page_code Slots = 2
