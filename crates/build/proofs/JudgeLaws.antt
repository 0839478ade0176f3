-- The cases of what is judged: settings out of range, a list that is turned down, and an accepted list.
use Prim.Native.Nat.{ℕ}
use mathlib.Core.Path.{◌≡◌, refl, sym, ap, ap₂, ◌∙◌}
use mathlib.Core.Bool.{true, false}
use mathlib.Core.List.{List}
use lib.ListN.{length}
use Rattle.spec.specs.Bytes.{Bytes}
use Rattle.spec.specs.Keys.{refused, parse_keys, keys_of}
use Rattle.spec.specs.Leaves.{leaves}
use Rattle.spec.specs.Image.{Settings, image}
use Rattle.spec.specs.Build.{in_range, turned_down, to_build, judge}
use Rattle.theory.proofs.KeyFiles.{keys_exactly}
use Rattle.theory.proofs.BuildLaws.{keys_of_list, built_from, judge_keys, judged_keys as to_build_keys}
use Rattle.theory.proofs.Judged.{judge_is}
use Rattle.std.specs.Prelude.{Ok, Err}
use Rattle.image.specs.declared.refusals.Refusal.{Refusal}
use Rattle.image.specs.Refusals.{number_of}
use Rattle.build_list.specs.KeyList.{numbered, key_list}
use Rattle.build_records.specs.Plan.{Ready}
use Rattle.build_laws.specs.PackedBody.{small_of}
use Rattle.image.specs.Header.{asked}
use Rattle.build.specs.declared.ready.ReadyList.{ReadyList}
use Rattle.build.specs.Image.{image_of}
use Rattle.build.specs.AcceptedList.{listed, judged_keys, judged_refused}

-- 5: a setting out of range
pub out_of_range : (list : Bytes) (st : Settings) → in_range st ≡ false → judge list st ≡ turned_down 5
out_of_range list st h = judge_is list st false (parse_keys list) h refl

module _ (list : Bytes) (st : Settings) (h : in_range st ≡ true) where
  -- a list that is turned down
  pub list_refused : (r : Refusal) → numbered (Err r) ≡ key_list (parse_keys list) → judge list st ≡ turned_down (number_of r)
  list_refused r j = judge_is list st true (refused (number_of r)) h (judged_refused (parse_keys list) (number_of r) j)

  -- an accepted list
  pub list_accepted : (count : ℕ) → numbered (Ok count) ≡ key_list (parse_keys list) → (judge list st ≡ to_build (image_of list st)) × (count ≡ length (keys_of list))
  list_accepted count j =
      let t = judged_keys (parse_keys list) count j in
      let e = keys_of_list list t.0 t.1 in
      (judge_keys list st t.0 h t.1 ∙ ap (λ (ks : List Bytes). to_build (image st (leaves st.hash_width st.real_width ks))) (sym e), sym t.2 ∙ ap length (sym e))

-- an accepted list is ready to be built from
pub ready : (l : ReadyList) → Ready l.bytes.now (asked l.settings)
ready l =
    let list = l.bytes.now in
    let t = to_build_keys list (asked l.settings) _ l.judged in
    let e = keys_of_list list t.1 t.2 in
    record {
      built = rw e (built_from (asked l.settings) list t.1 t.0 ((keys_exactly list t.1 (small_of list l.in_range)).0 t.2));
      records = rw e (listed list t.1 t.2).records;
    }

-- and is what the settings and the list say
pub judged_of : (list : Bytes) (st : Settings) (l : ReadyList) → (l.bytes.now ≡ list) × (asked l.settings ≡ st) → judge list st ≡ to_build (image_of l.bytes.now (asked l.settings))
judged_of list st l h = ap₂ judge (sym h.0) (sym h.1) ∙ l.judged
