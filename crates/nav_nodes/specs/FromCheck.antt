-- An accepted image is accepted, by the ghost field of its type; and an image that the check takes, with its frame, is accepted.
use Rattle.image.specs.declared.AcceptedImage.{AcceptedImage}
use Rattle.nav_nodes.specs.Accepted.{Accepted}
pub use Rattle.image.specs.FromCheck.{hash_read, all_bytes, checked_accepted}

-- The image of the code's type is accepted.
pub accepted : (image : AcceptedImage) → Accepted image.bytes.now image.frame
accepted image = image.accepted
