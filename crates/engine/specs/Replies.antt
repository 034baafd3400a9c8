-- Which answer a reply is: the names of a listing and the bytes of a read are not in the reply itself, and are asked of the session.
use Rattle.std.specs.Prelude.{◌≡◌, ℕ, true, false, List}
use Rattle.pm_trait.specs.DeviceView.{DeviceView}
use Rattle.tree_model.specs.Tree.{is_directory}
use Rattle.tree_model.specs.Step.{Answer, Done, Count, Status, Bytes, Listed, Space, Refused, Unread, Fault, Stopped, names_in}
use Rattle.tree_model.specs.Run.{State}
use Rattle.tree_model.specs.Replies.{reply_of}
use Rattle.tree_model.specs.declared.reply.Reply.{Reply}
use Rattle.tree_model.specs.declared.reply.Reply.TheVariants as replies
use Rattle.image_reading.specs.Residue.{Residue}
use Rattle.volume.specs.Volume.{VolumeView}
use Rattle.volume.specs.Beside.{StandsBeside}
use Rattle.engine.specs.Session.{SessionView}

-- the inode is that of a directory with these names, in the tree that the volume stands for, beside calls that run or none
pub record IsListing (volume : VolumeView) (device : DeviceView) (inode : ℕ) (names : List (List ℕ)) : Type 0 where
  pub state : State
  pub residue : Residue
  pub stands : StandsBeside volume device state residue
  pub going : volume.stopped ≡ false
  pub directory : is_directory state.tree inode ≡ true
  pub names_are : names ≡ names_in state.tree inode

-- the session has all that is written of the answer
abbrev pub IsTold : SessionView → DeviceView → Answer → Type 0
IsTold session device Done = Unit {0}
IsTold session device (Count n) = Unit {0}
IsTold session device (Status s) = Unit {0}
IsTold session device (Bytes bytes) = session.bytes ≡ bytes
IsTold session device (Listed inode names) = IsListing session.volume device inode names
IsTold session device (Space free) = Unit {0}
IsTold session device (Refused refusal) = Unit {0}
IsTold session device (Unread fault) = Unit {0}
IsTold session device Fault = Unit {0}
IsTold session device Stopped = Unit {0}

-- the reply is that of this answer, and the session has the rest
pub record IsReplyOf (session : SessionView) (device : DeviceView) (answer : Answer) (reply : Reply) : Type 0 where
  pub reply_is : reply ≡ reply_of answer
  pub told : IsTold session device answer

-- the reply to a change that was made
abbrev pub IsChangeReply : Reply → Type 0
IsChangeReply replies.Done = Unit {0}
IsChangeReply (replies.Count n) = Unit {0}
IsChangeReply (replies.Status s) = ⊥
IsChangeReply (replies.Bytes n) = ⊥
IsChangeReply (replies.Names inode n) = ⊥
IsChangeReply (replies.Space free) = ⊥
IsChangeReply (replies.Refused refusal) = ⊥
IsChangeReply (replies.Unread fault) = ⊥
IsChangeReply replies.Fault = ⊥
IsChangeReply replies.Stopped = ⊥
