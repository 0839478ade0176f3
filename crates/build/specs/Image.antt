-- The image of a list's keys.
use Rattle.spec.specs.Bytes.{Bytes}
use Rattle.spec.specs.Keys.{keys_of}
use Rattle.spec.specs.Leaves.{leaves}
use Rattle.spec.specs.Image.{Settings, image}

-- the image of a list's keys
abbrev pub image_of : Bytes → Settings → Bytes
image_of list st = image st (leaves st.hash_width st.real_width (keys_of list))
