-- What the two calls of build judge, by what the tests of the settings and of the list say.
use Rattle.std.specs.Prelude.{◌≡◌, Bool, true, false}
use Rattle.std.proofs.Common.{ap₂}
use Rattle.spec.specs.Bytes.{Bytes}
use Rattle.spec.specs.Keys.{ParsedKeys, refused, keys, parse_keys}
use Rattle.spec.specs.Leaves.{leaves}
use Rattle.spec.specs.Image.{Settings, image}
use Rattle.spec.specs.Build.{in_range, Judged, turned_down, to_build, judge}

-- what is judged, by what the tests say
pub judge_is : (list : Bytes) (st : Settings) (t : Bool) (p : ParsedKeys) → in_range st ≡ t → parse_keys list ≡ p
    → judge list st ≡ elim t [ false ↦ turned_down 5 | true ↦ elim p [ refused r ↦ turned_down r | keys ks ↦ to_build (image st (leaves st.hash_width st.real_width ks)) ] ]
unfolding judge
judge_is list st t p e f =
    ap₂ {C = Judged} (λ (t : Bool) (p : ParsedKeys). elim t [ false ↦ turned_down 5 | true ↦ elim p [ refused r ↦ turned_down r | keys ks ↦ to_build (image st (leaves st.hash_width st.real_width ks)) ] ]) e f
