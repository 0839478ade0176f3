-- What judging a key list and settings says, and the length that the first call of build gives.
use Rattle.std.specs.Prelude.{◌≡◌, ℕ, Result, Ok, Err}
use Rattle.spec.specs.Bytes.{Bytes}
use Rattle.spec.specs.Image.{Settings}
use Rattle.spec.specs.Build.{turned_down, judge, Length, bytes, refused}
use Rattle.image.specs.declared.refusals.Refusal.{Refusal}
use Rattle.image.specs.Refusals.{number_of}
use Rattle.image.specs.Header.{asked}
use Rattle.build.specs.declared.ready.ReadyList.{ReadyList}

-- what judging says: the list with its settings, ready to be built from; or the number with which list and settings are turned down
abbrev pub Judges : Bytes → Settings → Result ReadyList Refusal → Type 0
Judges list st (Ok r) = (r.bytes.now ≡ list) × (asked r.settings ≡ st)
Judges list st (Err r) = judge list st ≡ turned_down (number_of r)

-- the number and the values of each case of a length
abbrev pub length_of : Result ℕ Refusal → Length
length_of (Ok n) = bytes n
length_of (Err r) = refused (number_of r)
