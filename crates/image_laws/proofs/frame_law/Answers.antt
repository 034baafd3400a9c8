use Rattle.image_laws.proofs.frame_law.Goals as goal
use Rattle.image_laws.proofs.Meaning as meaning
use Rattle.image_laws.proofs.Frame.{frame}
use Rattle.image_laws.proofs.Words.{word_law}

pub returns-clause-shape : goal.returns-clause-shape
returns-clause-shape c = meaning.shape

pub returns-clause-node : goal.returns-clause-node
returns-clause-node c = meaning.node

pub returns-clause-fields : goal.returns-clause-fields
returns-clause-fields c = frame

pub returns-clause-words : goal.returns-clause-words
returns-clause-words c = word_law

pub returns-clause-chain : goal.returns-clause-chain
returns-clause-chain c = meaning.meanings_chain
